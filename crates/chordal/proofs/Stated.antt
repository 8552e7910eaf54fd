-- What the refusals say in words, and that an answer is a refusal, yes or no.
--   refused_alone, answered       an answer that tells refusal r is that refusal; one that tells none is yes or no
--   mark_stated, room_stated      25 and 10
--   two_way_as_open               with the mark two-way the tests on the plan are those of open, without the kind's
-- Assumes nothing.
use mathlib.Core.Path.{◌≡◌, refl, sym, ap, ◌∙◌}
use mathlib.Core.Logic.{◌↔◌, ◌⊎◌, inl, inr}
use mathlib.Core.Bool.{Bool, cond, not}
use mathlib.Core.List.{List, [], ◌∷◌}
use mathlib.Core.Option.{some}
use Prim.Native.Nat.{ℕ, ◌≤◌, ◌<◌}
use native.Mathlib.Omega.{arith}
use borrow.Author.Tests.{le-ltb}
use lib.Dec.{T, ltb, ltb→lt, lt→ltb}
use lib.ListN.{length}
use Rattle.bitset.proofs.Tests.{below_or}
use Rattle.searches.specs.Answer.{bit_outside, self_loop, one_way, is_two_way, open_tests, two_way_tests, first_refusal, Accepts, Refuses, open_answer}
use Rattle.searches.specs.declared.Mark.{Mark}
use Rattle.searches.proofs.Refusals.{accepts_none}
use Rattle.searches.proofs.Numbered.{at_out, at_in}
use Rattle.chordal.specs.Answer.{chordal_tests, Answer, chordal, cycle, refused, refusal_in}

pub refused_alone : (answer : Answer) (r : ℕ) → refusal_in answer ≡ some r → answer ≡ refused r
unfolding refusal_in
refused_alone chordal r e = let clash : ◌≡◌ {A = ℕ} 0 1 = cc e in absurd (omega arith)
refused_alone (cycle m) r e = let clash : ◌≡◌ {A = ℕ} 0 1 = cc e in absurd (omega arith)
refused_alone (refused q) r e = let same : q ≡ r = cc e in ap refused same

pub answered : (answer : Answer) (tests : List (ℕ × Bool)) → refusal_in answer ≡ first_refusal tests → Accepts tests → (answer ≡ chordal) ⊎ ((m : ℕ) × (answer ≡ cycle m))
unfolding refusal_in
answered chordal tests told a = inl refl
answered (cycle m) tests told a = inr (m, refl)
answered (refused r) tests told a = let clash : ◌≡◌ {A = ℕ} 0 1 = cc (told ∙ accepts_none tests a) in absurd (omega arith)

-- the mark is one of two
one_way_out_lem : (mark : Mark) → T (not (is_two_way mark)) → mark ≡ Mark.OneWay
unfolding is_two_way
one_way_out_lem Mark.TwoWay t = absurd t
one_way_out_lem Mark.OneWay t = refl

one_way_in_lem : (mark : Mark) → mark ≡ Mark.OneWay → T (not (is_two_way mark))
unfolding is_two_way
one_way_in_lem Mark.TwoWay e = let clash : ◌≡◌ {A = ℕ} 0 1 = cc e in absurd (omega arith)
one_way_in_lem Mark.OneWay e = tt

module _ (mark : Mark) (rows : List ℕ) (room : ℕ) where
  -- the tests before 25
  abbrev earlier : List (ℕ × Bool)
  earlier = (2, ltb 64 (length rows)) ∷ (3, bit_outside rows) ∷ (4, self_loop rows) ∷ []

  pub mark_stated : Refuses 25 (chordal_tests mark rows room) ↔ ((length rows ≤ 64) × (T (bit_outside rows) → ⊥) × (T (self_loop rows) → ⊥) × (mark ≡ Mark.OneWay))
  unfolding chordal_tests two_way_tests
  mark_stated =
      let later : List (ℕ × Bool) = (5, one_way rows) ∷ (10, ltb room (length rows)) ∷ [] in (
        λ x.
            let y = at_out 25 earlier (not (is_two_way mark)) later (λ e. omega arith, (λ e. omega arith, (λ e. omega arith, tt))) (λ e. omega arith, (λ e. omega arith, tt)) x in
            (small (below_or 64 (length rows)) y.0.0, y.0.1.0, y.0.1.1.0, one_way_out_lem mark y.1),
        λ y.
            at_in 25 earlier (not (is_two_way mark)) later (λ t. omega (arith, ltb→lt 64 (length rows) t, y.0), (y.1, (y.2, tt))) (one_way_in_lem mark y.3),
      )
    where
      small : (64 < length rows) ⊎ (length rows ≤ 64) → (T (ltb 64 (length rows)) → ⊥) → length rows ≤ 64
      small (inl l) fits = absurd (fits (lt→ltb 64 (length rows) l))
      small (inr l) fits = l

  pub room_stated : Refuses 10 (chordal_tests mark rows room) ↔ (Accepts (two_way_tests mark rows) × (room < length rows))
  unfolding chordal_tests two_way_tests
  room_stated = (
    λ x.
        let y =
        at_out 10 (two_way_tests mark rows) (ltb room (length rows)) []
        (λ e. omega arith, (λ e. omega arith, (λ e. omega arith, (λ e. omega arith, (λ e. omega arith, tt))))) tt x
        in
        (y.0, ltb→lt room (length rows) y.1),
    λ y. at_in 10 (two_way_tests mark rows) (ltb room (length rows)) [] y.0 (lt→ltb room (length rows) y.1),
  )

pub two_way_as_open : (kind : ℕ) (rows : List ℕ) → kind ≤ 6 → first_refusal (two_way_tests Mark.TwoWay rows) ≡ open_answer kind Mark.TwoWay rows
unfolding two_way_tests open_tests open_answer first_refusal is_two_way
two_way_as_open kind rows l = sym (ap (λ (b : Bool). cond b (some 1) (first_refusal (two_way_tests Mark.TwoWay rows))) (le-ltb 6 kind l))
