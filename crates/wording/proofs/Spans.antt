-- Lists of bytes cut where a test first fails, and compared.
--   Every test b          each byte of b passes the test;   every_both   of two lists behind each other
--   front_is, behind_is   bytes that pass, with one that does not behind them: what is cut off, and what is left
--   same_in, same_out     two lists are the same exactly when they are equal
-- Assumes nothing.
use mathlib.Core.Path.{◌≡◌, refl, ap, ap₂, ◌∙◌}
use mathlib.Core.Bool.{Bool}
use mathlib.Core.List.{List, [], ◌∷◌, ◌++◌}
use Prim.Native.Nat.{ℕ}
use lib.Dec.{T, eqb, eqb→eq, eqb_refl}
use Rattle.bitset.proofs.Tests.{and_in, and_out, cond_yes, cond_no}
use Rattle.wording.specs.Reading.{front, behind, same}

abbrev pub Every : (ℕ → Bool) → List ℕ → Type 0
Every test [] = Unit {0}
Every test (c ∷ b) = T (test c) × Every test b

pub every_both : (test : ℕ → Bool) (a b : List ℕ) → Every test a → Every test b → Every test (a ++ b)
every_both test [] b p q = q
every_both test (c ∷ a) b p q = (p.0, every_both test a b p.1 q)

module _ (test : ℕ → Bool) (d : ℕ) (rest : List ℕ) (stops : T (test d) → ⊥) where
  pub front_is : (a : List ℕ) → Every test a → front test (a ++ d ∷ rest) ≡ a
  unfolding front
  front_is [] p = cond_no (test d) _ _ stops
  front_is (c ∷ a) p = cond_yes (test c) _ _ p.0 ∙ ap (λ (b : List ℕ). c ∷ b) (front_is a p.1)

  pub behind_is : (a : List ℕ) → Every test a → behind test (a ++ d ∷ rest) ≡ d ∷ rest
  unfolding behind
  behind_is [] p = cond_no (test d) _ _ stops
  behind_is (c ∷ a) p = cond_yes (test c) _ _ p.0 ∙ behind_is a p.1

pub same_out : (a b : List ℕ) → T (same a b) → a ≡ b
unfolding same
same_out [] [] t = refl
same_out [] (d ∷ b) t = absurd t
same_out (c ∷ a) [] t = absurd t
same_out (c ∷ a) (d ∷ b) t =
    let both = and_out (eqb c d) (same a b) t in
    ap₂ (λ (x : ℕ) (y : List ℕ). x ∷ y) (eqb→eq c d both.0) (same_out a b both.1)

pub same_in : (a : List ℕ) → T (same a a)
unfolding same
same_in [] = tt
same_in (c ∷ a) = and_in (eqb c c) (same a a) (eqb_refl c) (same_in a)
