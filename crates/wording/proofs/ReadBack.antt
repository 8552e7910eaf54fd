-- A sentence is read back as what it was written for, so it is the sentence of nothing else.
--   read_back            what is read of the sentence of s and v is s and v
--   sentence_alone       equal sentences are of the same search and the same verdict
-- Assumes nothing.
use mathlib.Core.Path.{◌≡◌, refl, sym, ap, ap₂, ◌∙◌}
use mathlib.Core.List.{List, ◌∷◌, ◌++◌, append_assoc}
use Prim.Native.Nat.{ℕ}
use lib.Dec.{T}
use lib.ListN.{drop}
use Rattle.searches.specs.Kind.{Search}
use Rattle.searches.specs.Violation.{Verdict, passes, fails, refused}
use Rattle.wording.specs.Text.{bytes}
use Rattle.wording.specs.Decimal.{decimal, is_digit, value}
use Rattle.wording.specs.Sentence.{name, sentence, Decided}
use Rattle.wording.specs.Reading.{is_other, front, behind, same, search_named, verdict_told, read_sentence}
use Rattle.wording.proofs.Spans.{front_is, behind_is}
use Rattle.wording.proofs.Decimals.{decimal_count, decimal_digits}
use Rattle.wording.proofs.Named.{name_spaceless, search_named_lem}

-- a number, and behind it a byte that is no digit
module _ (x d : ℕ) (rest : List ℕ) (stops : T (is_digit d) → ⊥) where
  number_read : value (front is_digit (decimal x ++ d ∷ rest)) ≡ x
  number_read = ap value (front_is is_digit d rest stops (decimal x) (decimal_digits x)) ∙ decimal_count x

  number_cut : behind is_digit (decimal x ++ d ∷ rest) ≡ d ∷ rest
  number_cut = behind_is is_digit d rest stops (decimal x) (decimal_digits x)

-- a name, and behind it a space
module _ (s : Search) (rest : List ℕ) where
  name_read : {v : Verdict} → verdict_told (32 ∷ rest) ≡ v → read_sentence (name s ++ 32 ∷ rest) ≡ (s, v)
  unfolding read_sentence is_other
  name_read told =
      ap₂ (λ (x : Search) (y : Verdict). (x, y))
      (ap search_named (front_is (is_other 32) 32 rest (λ t. t) (name s) (name_spaceless s)) ∙ search_named_lem s)
      (ap verdict_told (behind_is (is_other 32) 32 rest (λ t. t) (name s) (name_spaceless s)) ∙ told)

-- what is told behind the name of a walk that fails
module _ (a b c : ℕ) where
  abbrev from_c : List ℕ
  from_c = decimal c ++ (bytes " and not to " ++ (decimal b ++ bytes "."))

  abbrev from_a : List ℕ
  from_a = decimal a ++ (bytes " leads to " ++ from_c)

  abbrev from_b : List ℕ
  from_b = decimal b ++ (bytes ": " ++ from_a)

  failure_told : verdict_told (bytes " fails at " ++ from_b) ≡ fails a b c
  unfolding verdict_told same bytes is_digit
  failure_told =
      let at_a : drop 2 (behind is_digit from_b) ≡ from_a = ap (λ (x : List ℕ). drop 2 x) (number_cut b 58 (bytes " " ++ from_a) (λ t. t)) in
      let at_c : drop 10 (behind is_digit (drop 2 (behind is_digit from_b))) ≡ from_c =
      ap (λ (x : List ℕ). drop 10 (behind is_digit x)) at_a ∙ ap (λ (x : List ℕ). drop 10 x) (number_cut a 32 (bytes "leads to " ++ from_c) (λ t. t))
      in
      ap₂ (λ (x y : List ℕ). fails (value (front is_digit x)) (value (front is_digit from_b)) (value (front is_digit y))) at_a at_c
      ∙ ap₂ (λ (x y : ℕ). fails x y (value (front is_digit from_c))) (number_read a 32 (bytes "leads to " ++ from_c) (λ t. t)) (number_read b 58 (bytes " " ++ from_a) (λ t. t))
      ∙ ap (λ (x : ℕ). fails a b x) (number_read c 32 (bytes "and not to " ++ (decimal b ++ bytes ".")) (λ t. t))

  regrouped : (s : Search) → sentence s (fails a b c) ≡ name s ++ (bytes " fails at " ++ from_b)
  unfolding sentence
  regrouped s = simp append_assoc

pub read_back : (s : Search) (v : Verdict) → Decided v → read_sentence (sentence s v) ≡ (s, v)
unfolding sentence bytes verdict_told same
read_back s passes told = name_read s (bytes "passes.") refl
read_back s (fails a b c) told = ap read_sentence (regrouped a b c s) ∙ name_read s (bytes "fails at " ++ from_b a b c) (failure_told a b c)
read_back s (refused r) told = absurd told

pub sentence_alone : (s s' : Search) (v v' : Verdict) → Decided v → Decided v' → sentence s v ≡ sentence s' v' → (s ≡ s') × (v ≡ v')
sentence_alone s s' v v' told told' e =
    let both : ◌≡◌ {A = Search × Verdict} (s, v) (s', v') = sym (read_back s v told) ∙ ap read_sentence e ∙ read_back s' v' told' in
    (ap (λ (x : Search × Verdict). x.0) both, ap (λ (x : Search × Verdict). x.1) both)
