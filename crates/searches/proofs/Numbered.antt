-- Tests of which one has a given number.
--   Without r tests                            no test has number r;   without_both   in two lists of tests
--   never                                      tests without r do not refuse with r
--   refuses_earlier, earlier_refuses           tests without r behind others change nothing about r
--   at_out, at_in                              where one test has number r: r is refused exactly when no earlier test holds and that one does
-- Assumes nothing.
use mathlib.Core.Path.{◌≡◌, refl}
use mathlib.Core.Logic.{inl, inr}
use mathlib.Core.Bool.{Bool}
use mathlib.Core.List.{List, [], ◌∷◌, ◌++◌}
use Prim.Native.Nat.{ℕ}
use lib.Dec.{T}
use Rattle.searches.specs.Answer.{Accepts, Refuses}

abbrev pub Without : ℕ → List (ℕ × Bool) → Type 0
Without r [] = Unit {0}
Without r (test ∷ tests) = (test.0 ≡ r → ⊥) × Without r tests

pub without_both : (r : ℕ) (a b : List (ℕ × Bool)) → Without r a → Without r b → Without r (a ++ b)
without_both r [] b x y = y
without_both r (test ∷ a) b x y = (x.0, without_both r a b x.1 y)

never : (r : ℕ) (tests : List (ℕ × Bool)) → Without r tests → Refuses r tests → ⊥
never r [] out x = x
never r (test ∷ tests) out (inl x) = out.0 x.0
never r (test ∷ tests) out (inr x) = never r tests out.1 x.1

pub refuses_earlier : (r : ℕ) (a b : List (ℕ × Bool)) → Without r b → Refuses r (a ++ b) → Refuses r a
refuses_earlier r [] b out x = absurd (never r b out x)
refuses_earlier r (test ∷ a) b out (inl x) = inl x
refuses_earlier r (test ∷ a) b out (inr x) = inr (x.0, refuses_earlier r a b out x.1)

pub earlier_refuses : (r : ℕ) (a b : List (ℕ × Bool)) → Refuses r a → Refuses r (a ++ b)
earlier_refuses r [] b x = absurd x
earlier_refuses r (test ∷ a) b (inl x) = inl x
earlier_refuses r (test ∷ a) b (inr x) = inr (x.0, earlier_refuses r a b x.1)

pub at_out : (r : ℕ) (a : List (ℕ × Bool)) (b : Bool) (later : List (ℕ × Bool)) → Without r a → Without r later → Refuses r (a ++ (r, b) ∷ later) → Accepts a × T b
at_out r [] b later out out' (inl x) = (tt, x.1)
at_out r [] b later out out' (inr x) = absurd (never r later out' x.1)
at_out r (test ∷ a) b later out out' (inl x) = absurd (out.0 x.0)
at_out r (test ∷ a) b later out out' (inr x) = let rest = at_out r a b later out.1 out' x.1 in ((x.0, rest.0), rest.1)

pub at_in : (r : ℕ) (a : List (ℕ × Bool)) (b : Bool) (later : List (ℕ × Bool)) → Accepts a → T b → Refuses r (a ++ (r, b) ∷ later)
at_in r [] b later x t = inl (refl, t)
at_in r (test ∷ a) b later x t = inr (x.0, at_in r a b later x.1 t)
