-- Line after line: what a file tells is what its lines say, and a file that tells lines of the forms only is the file of these.
--   told_line        a line with its line end, and what follows
--   told_broken      bytes that no line end follows
--   told_next        the first line of what is left, and the others
--   told_both        two texts, one behind the other, where the first one ends in a line end
--   file_told        the file of these lines tells them
--   told_file        a file in which each line has one of the forms is the file of what it tells
-- Assumes nothing.
use mathlib.Core.Path.{◌≡◌, refl, sym, ap, ap₂, ◌∙◌, subst}
use mathlib.Core.Bool.{Bool, true, false, cond, not}
use mathlib.Core.Logic.{inl, inr}
use mathlib.Core.List.{List, [], ◌∷◌, ◌++◌, append-nil}
use Prim.Native.Nat.{ℕ, ◌<◌}
use native.Mathlib.Omega.{arith}
use lib.Dec.{T, eqb, T_not, not_T, eqb→eq}
use lib.ListN.{length, drop}
use lib.Seq.{append_snoc}
use Rattle.bitset.proofs.Tests.{cond_no, not_not}
use Rattle.wording.specs.Reading.{is_other, front, behind}
use Rattle.edge_lines.specs.declared.Line.{Line}
use Rattle.edge_lines.specs.Writing.{Unbroken, IsFile, AllSay, Ended}
use Rattle.edge_lines.specs.Reading.{said, told_from, told, next_said, behind_line}
use Rattle.edge_lines.proofs.Spanned.{Stops, front_every, front_behind, behind_stops}
use Rattle.edge_lines.proofs.Said.{every_unbroken, unbroken_both, says_said, said_says, says_unbroken}

-- ---- one line

not_empty : (b : List ℕ) → 0 < length b → T (eqb (length b) 0) → ⊥
not_empty b some t = let empty = eqb→eq (length b) 0 t in omega arith

-- bytes without a line end are read into the line
told_over : (line b rest : List ℕ) → Unbroken b → told_from line (b ++ rest) ≡ told_from (line ++ b) rest
unfolding told_from is_other
told_over line [] rest u = ap (λ (l : List ℕ). told_from l rest) (sym (append-nil line))
told_over line (c ∷ b) rest u =
    cond_no (eqb c 10) _ _ (T_not (eqb c 10) u.0) ∙ told_over (line ++ c ∷ []) b rest u.1 ∙ ap (λ (l : List ℕ). told_from l rest) (append_snoc line c b)

pub told_line : (line rest : List ℕ) → Unbroken line → told (line ++ 10 ∷ rest) ≡ said line ∷ told rest
unfolding told told_from
told_line line rest u = told_over [] line (10 ∷ rest) u

pub told_broken : (b : List ℕ) → Unbroken b → 0 < length b → told b ≡ Line.Other ∷ []
unfolding told told_from
told_broken b u some =
    ap told (sym (append-nil b)) ∙ told_over [] b [] u
    ∙ cond_no (eqb (length b) 0) [] (Line.Other ∷ []) (not_empty b some)

-- ---- the first line, and the others

module _ (b : List ℕ) where
  abbrev line : List ℕ
  line = front (is_other 10) b

  line_unbroken : Unbroken line
  line_unbroken = every_unbroken line (front_every (is_other 10) b)

  -- the list, and what is to be read of it, by what is left behind the first line
  next_text : (left : List ℕ) → behind (is_other 10) b ≡ left → b ≡ line ++ left
  next_text left e = sym (front_behind (is_other 10) b) ∙ ap (λ (l : List ℕ). line ++ l) e

  next_is : (left : List ℕ) → behind (is_other 10) b ≡ left → next_said b ∷ told (behind_line b) ≡ cond (eqb (length left) 0) Line.Other (said line) ∷ told (drop 1 left)
  unfolding next_said behind_line
  next_is left e = ap (λ (l : List ℕ). cond (eqb (length l) 0) Line.Other (said line) ∷ told (drop 1 l)) e

  -- the first line has its line end
  next_ended : (rest : List ℕ) → behind (is_other 10) b ≡ 10 ∷ rest → told b ≡ next_said b ∷ told (behind_line b)
  next_ended rest e =
      ap told (next_text (10 ∷ rest) e) ∙ told_line line rest line_unbroken
      ∙ sym (next_is (10 ∷ rest) e ∙ ap (λ (l : Line). l ∷ told rest) (cond_no (eqb (length (10 ∷ rest)) 0) _ _ (not_empty (10 ∷ rest) (omega arith))))

  -- no line end follows
  next_broken : 0 < length b → behind (is_other 10) b ≡ [] → told b ≡ next_said b ∷ told (behind_line b)
  unfolding told told_from
  next_broken some e = told_broken b (subst (λ (l : List ℕ). Unbroken l) (sym (next_text [] e ∙ append-nil line)) line_unbroken) some ∙ sym (next_is [] e)

  pub told_next : 0 < length b → told b ≡ next_said b ∷ told (behind_line b)
  unfolding is_other
  told_next some = go (behind_stops (is_other 10) b)
    where
      go : Stops (is_other 10) (behind (is_other 10) b) → told b ≡ next_said b ∷ told (behind_line b)
      go (inl e) = next_broken some e
      go (inr (c, rest, e, stops)) = next_ended rest (e ∙ ap (λ (x : ℕ). x ∷ rest) (eqb→eq c 10 (not_not (eqb c 10) (not_T (is_other 10 c) stops))))

-- ---- two texts

told_from_both : (line x y : List ℕ) → told_from line (x ++ 10 ∷ y) ≡ told_from line (x ++ 10 ∷ []) ++ told y
unfolding told_from told
told_from_both line [] y = refl
told_from_both line (c ∷ x) y =
    go (told_from [] (x ++ 10 ∷ [])) (told_from (line ++ c ∷ []) (x ++ 10 ∷ [])) (eqb c 10) (told_from_both [] x y) (told_from_both (line ++ c ∷ []) x y)
  where
    go : {k m : List Line} (l n : List Line) (ends : Bool) → k ≡ l ++ told y → m ≡ n ++ told y → cond ends (said line ∷ k) m ≡ cond ends (said line ∷ l) n ++ told y
    go l n true e f = ap (λ (ls : List Line). said line ∷ ls) e
    go l n false e f = f

pub told_both : (x y : List ℕ) → Ended x → told (x ++ y) ≡ told x ++ told y
unfolding told told_from
told_both x y (inl e) = ap (λ (l : List ℕ). told (l ++ y)) e ∙ ap (λ (l : List ℕ). told l ++ told y) (sym e)
told_both x y (inr (begin, e)) =
    ap (λ (l : List ℕ). told (l ++ y)) e ∙ ap told (append_snoc begin 10 y) ∙ told_from_both [] begin y ∙ ap (λ (l : List ℕ). told l ++ told y) (sym e)

-- ---- files

pub file_told : (ls : List Line) (b : List ℕ) → IsFile ls b → told b ≡ ls
unfolding told told_from
file_told [] b e = ap told e
file_told (l ∷ ls) b (line, rest, s, e, f) =
    ap told e ∙ told_line line rest (says_unbroken l line s) ∙ ap₂ (λ (x : Line) (xs : List Line). x ∷ xs) (says_said l line s) (file_told ls rest f)

all_say_out : (l : Line) (ls : List Line) → AllSay (l ∷ ls) → (l ≡ Line.Other → ⊥) × AllSay ls
all_say_out Line.Comment ls a = (λ e. let z : ◌≡◌ {A = ℕ} 0 1 = cc in omega arith, a)
all_say_out (Line.Problem n m) ls a = (λ e. let z : ◌≡◌ {A = ℕ} 0 1 = cc in omega arith, a)
all_say_out (Line.Edge u v) ls a = (λ e. let z : ◌≡◌ {A = ℕ} 0 1 = cc in omega arith, a)
all_say_out Line.Other ls a = absurd a

told_from_file : (line b : List ℕ) → Unbroken line → AllSay (told_from line b) → IsFile (told_from line b) (line ++ b)
unfolding told_from is_other
told_from_file [] [] u a = refl
told_from_file (d ∷ line) [] u a =
    absurd (subst (λ (ls : List Line). AllSay ls) (cond_no (eqb (length (d ∷ line)) 0) [] (Line.Other ∷ []) (not_empty (d ∷ line) (omega arith))) a)
told_from_file line (c ∷ b) u a = go (eqb c 10) (eqb→eq c 10) (λ t. t) (told_from_file [] b tt) (told_from_file (line ++ c ∷ []) b) a
  where
    go : (ends : Bool) → (T ends → c ≡ 10) → (T (not ends) → T (is_other 10 c))
        → (AllSay (told_from [] b) → IsFile (told_from [] b) b)
        → (Unbroken (line ++ c ∷ []) → AllSay (told_from (line ++ c ∷ []) b) → IsFile (told_from (line ++ c ∷ []) b) (line ++ c ∷ [] ++ b))
        → AllSay (cond ends (said line ∷ told_from [] b) (told_from (line ++ c ∷ []) b)) → IsFile (cond ends (said line ∷ told_from [] b) (told_from (line ++ c ∷ []) b)) (line ++ c ∷ b)
    go true ten other next more a =
        let both = all_say_out (said line) (told_from [] b) a in
        (line, b, said_says line u both.0, ap (λ (x : ℕ). line ++ x ∷ b) (ten tt), next both.1)
    go false ten other next more a =
        subst (λ (l : List ℕ). IsFile (told_from (line ++ c ∷ []) b) l) (append_snoc line c b) (more (unbroken_both line (c ∷ []) u (other tt, tt)) a)

pub told_file : (b : List ℕ) → AllSay (told b) → IsFile (told b) b
unfolding told
told_file b a = told_from_file [] b tt a
