-- What a reader owns, and what the lines so far own beside it: the laws for a walk over the reader by hand. No proof cites them today.
--   Goes                     the type of a reader beside what was parsed, over a signature's lifetimes
--   OwnGoes, OwnParsed, OwnReader, OwnSlice     what each owns;   goes_val, parsed_val   its value in the machine
--   number                   to own a number costs nothing
--   twice                    a reader beside what was parsed is Copy
--   apart, together          it is taken apart into the slice and what was parsed, and made of them at any offset
-- The laws take `Logic`. The rest assumes nothing.
use Prim.Native.Nat.{ℕ, ◌<◌, ◌^◌}
use mathlib.Core.Path.{◌≡◌, refl}
use mathlib.Core.List.{List, [], ◌∷◌}
use seplogic.Ra.Ura.{Ura}
use lib.ListN.{length}
use mir.Syntax.{named, w64}
use mir.Val.{Val, vint}
use base.Logic.{ent, sep}
use base.Fml.{Lft, Fml}
use types.Logic.{Logic, sem}
use contract.Lifetimes.{Lfts}
use types.Kit.{Goal, Item, Step, ‵, given, ◌$◌, ◌∵◌, !, qed, by, move, drop, use1, learn, fsplit, fjoin, frame, done}
use denote.RattleType.{RattleType}
use denote.Laws.{Is}
use denote.Plain.{uint_Makes}
use denote.Builtin.{u8, usize}
use denote.Ref.{Bor, NamedLft}
use denote.Signature.{named_lft}
use denote.Slice.{slice_val, ShrSlice}
use denote.Steps.{nothing, owned}
use denote.Struct.Laws as LL
use denote.Struct.Rest.{all_own, own_open, own_shut}
use Rattle.lines.specs.declared.Parsed.{Parsed}
use Rattle.sheet.specs.declared.reader.Reader.{Reader}
use Rattle.sheet.specs.declared.reader.Progress.{Progress}
use Rattle.lines.specs.contracts.Parsed as D
use Rattle.lines.proofs.Parsed.TheLaws as D'
use Rattle.sheet.specs.contracts.reader.Reader as R
use Rattle.sheet.proofs.reader.Reader.TheLaws as R'
use Rattle.sheet.specs.contracts.reader.Progress as P
use Rattle.sheet.proofs.reader.Progress.TheLaws as P'

abbrev pub Goes : Lfts 1 → RattleType
Goes κs = P.the_row (named_lft 1 0 tt κs)

abbrev pub parsed_val : Parsed → Val
parsed_val = LL.val D.the_type D'.the_laws

abbrev pub OwnParsed : Parsed → Fml
OwnParsed d = (D.the_row).own_val d (parsed_val d ∷ [])

module _ (κ : Lft) where
  abbrev α : NamedLft
  α = named_lft 1 0 tt (κ, tt)

  abbrev OwnReader : Reader → Fml
  OwnReader r = (R.the_row α).own_val r (R'.lowered r ∷ [])

  abbrev pub goes_val : Progress → Val
  goes_val = LL.val (P.the_type α) (P'.the_laws α)

  abbrev pub OwnGoes : Progress → Fml
  OwnGoes g = (Goes (κ, tt)).own_val g (goes_val g ∷ [])

  abbrev pub OwnSlice : Bor (List ℕ) → Fml
  OwnSlice s = (ShrSlice (named 0) κ u8).own_val s (slice_val s.ref_ptr (length s.now) ∷ [])

pub number : {M : Type 1} {𝓤 : Ura M} {𝓛 : Logic 𝓤} {K : Type 0} {Γ : List (Item 𝓤)} {G : Goal 𝓤 𝓛.H} → K → (n : ℕ) → n < 2 ^ 64
    → Step K 𝓛 (‵ (usize.own_val n (vint w64 n ∷ [])) ∷ Γ) G Γ G
number {𝓤 = 𝓤} {𝓛 = 𝓛} t n fits = owned t usize (Is usize) (uint_Makes 𝓛 w64) n (vint w64 n ∷ []) (refl, fits)

module _ {M : Type 1} {𝓤 : Ura M} (𝓛 : Logic 𝓤) (κ : Lft) where
  pub twice : (g : Progress) → ent 𝓤 (sem 𝓛 (OwnGoes κ g)) (sep 𝓤 (sem 𝓛 (OwnGoes κ g)) (sem 𝓛 (OwnGoes κ g)))
  twice g = (LL.copy (P.the_type (α κ)) (P'.the_copy (α κ)) 𝓛).twice g (goes_val κ g ∷ [])

  pub apart : (g : Progress) → ent 𝓤 (sem 𝓛 (OwnGoes κ g)) (sep 𝓤 (sem 𝓛 (OwnSlice κ g.reader.sheet)) (sem 𝓛 (OwnParsed g.parsed)))
  apart g =
      qed 𝓛 (‵ (OwnGoes κ g) ∷ []) ∵
      use1 𝓛 (given (goes_val κ g ∷ [] ≡ goes_val κ g ∷ []) (‵ (all_own (P.the_type (α κ)).parts (P'.the_laws (α κ)) (g.reader, (g.parsed, tt)))))
      (own_open 𝓛 (P.the_type (α κ)) (P'.the_laws (α κ)) (g.reader, (g.parsed, tt)) (goes_val κ g)) $ learn ! (λ _. fsplit ! $
      use1 𝓛 (given (R'.lowered g.reader ∷ [] ≡ R'.lowered g.reader ∷ []) (‵ (all_own (R.the_type (α κ)).parts (R'.the_laws (α κ)) (g.reader.sheet, (g.reader.at, tt)))))
      (own_open 𝓛 (R.the_type (α κ)) (R'.the_laws (α κ)) (g.reader.sheet, (g.reader.at, tt)) (R'.lowered g.reader)) $ learn ! (λ _. fsplit ! $
      -- [what the slice owns; what the offset owns; what was parsed owns]
      frame ! $ drop ! $ fsplit ! $ move ! (1 ∷ []) $ drop ! $ done !))

  pub together : (s : Bor (List ℕ)) (i : ℕ) (d : Parsed) → i < 2 ^ 64
      → ent 𝓤 (sep 𝓤 (sem 𝓛 (OwnSlice κ s)) (sem 𝓛 (OwnParsed d))) (sem 𝓛 (OwnGoes κ (record { reader = record { sheet = s; at = i }; parsed = d })))
  together s i d fits =
      qed 𝓛 (‵ (OwnSlice κ s) ∷ ‵ (OwnParsed d) ∷ []) ∵
      nothing ! $ number ! i fits $ fjoin ! $ move ! (1 ∷ 0 ∷ []) $ fjoin ! $
      use1 𝓛 (‵ (OwnReader κ (record { sheet = s; at = i }))) (own_shut 𝓛 (R.the_type (α κ)) (R'.the_laws (α κ)) (s, (i, tt))) $
      nothing ! $ move ! (2 ∷ 0 ∷ []) $ fjoin ! $ move ! (1 ∷ 0 ∷ []) $ fjoin ! $
      by ! (own_shut 𝓛 (P.the_type (α κ)) (P'.the_laws (α κ)) (record { sheet = s; at = i }, (d, tt)))
