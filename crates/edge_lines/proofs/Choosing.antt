-- What a line says, decided by the tests on it, one after the other.
--   said_comment, said_edge, said_problem, said_other     with the numbers capped
-- Assumes nothing.
use mathlib.Core.Path.{◌≡◌, sym, ap, ap₂, ◌∙◌}
use mathlib.Core.Bool.{Bool, true, false, cond}
use mathlib.Core.List.{List}
use Prim.Native.Nat.{ℕ}
use Rattle.wording.specs.Text.{bytes}
use Rattle.wording.specs.Decimal.{value}
use Rattle.edge_lines.specs.Reading.{begins, is_pair, first_digits, second_digits, said, capped, capped_line}
use Rattle.edge_lines.specs.declared.Line.{Line}

-- the choice, with the answers of the three tests
unfoldable chosen : List ℕ → Bool → Bool → Bool → Line
chosen b comment edge problem =
    cond comment Line.Comment
    (cond edge (Line.Edge (value (first_digits (bytes "e ") b)) (value (second_digits (bytes "e ") b)))
    (cond problem (Line.Problem (value (first_digits (bytes "p edge ") b)) (value (second_digits (bytes "p edge ") b))) Line.Other))

module _ (b : List ℕ) where
  pub said_comment : begins (bytes "c") b ≡ true → Line.Comment ≡ capped_line (said b)
  unfolding said capped_line chosen
  said_comment p = sym (ap (λ (t : Bool). capped_line (chosen b t (is_pair (bytes "e ") b) (is_pair (bytes "p edge ") b))) p)

  module _ (uncommented : begins (bytes "c") b ≡ false) where
    pub said_edge : {u v : ℕ} → is_pair (bytes "e ") b ≡ true → u ≡ capped (value (first_digits (bytes "e ") b)) → v ≡ capped (value (second_digits (bytes "e ") b))
        → Line.Edge u v ≡ capped_line (said b)
    unfolding said capped_line chosen
    said_edge p x y = ap₂ Line.Edge x y ∙ sym (ap₂ (λ (s t : Bool). capped_line (chosen b s t (is_pair (bytes "p edge ") b))) uncommented p)

    module _ (unlinked : is_pair (bytes "e ") b ≡ false) where
      pub said_problem : {n m : ℕ} → is_pair (bytes "p edge ") b ≡ true → n ≡ capped (value (first_digits (bytes "p edge ") b)) → m ≡ capped (value (second_digits (bytes "p edge ") b))
          → Line.Problem n m ≡ capped_line (said b)
      unfolding said capped_line chosen
      said_problem p x y =
          ap₂ Line.Problem x y
          ∙ sym (ap₂ (λ (s t : Bool). capped_line (chosen b s t (is_pair (bytes "p edge ") b))) uncommented unlinked ∙ ap (λ (t : Bool). capped_line (chosen b false false t)) p)

      pub said_other : is_pair (bytes "p edge ") b ≡ false → Line.Other ≡ capped_line (said b)
      unfolding said capped_line chosen
      said_other p =
          sym (ap₂ (λ (s t : Bool). capped_line (chosen b s t (is_pair (bytes "p edge ") b))) uncommented unlinked ∙ ap (λ (t : Bool). capped_line (chosen b false false t)) p)
