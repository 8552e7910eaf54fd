-- The set of the entries that a loop over a list has passed.
--   Seen w set q      the set holds just the first q entries of w
--   seen_none, seen_more     the empty set at first, then with each entry put in
--   Counted w set q   the same, and the set is as large as q where no entry stands twice, smaller where one does
--   counted_none, counted_more
-- Assumes nothing.
use mathlib.Core.Path.{◌≡◌, refl, sym, ap, ap₂, ◌∙◌, subst}
use mathlib.Core.Bool.{Bool, not, ◌||◌}
use mathlib.Core.List.{List}
use mathlib.Core.Logic.{◌⊎◌, inl, inr}
use Prim.Native.Nat.{ℕ, suc, ◌+◌, ◌≤◌, ◌<◌}
use native.Mathlib.Numerals.{add-one}
use native.Mathlib.Omega.{arith}
use lib.Dec.{T, eqb, eqb→eq, eqb-suc-suc}
use Rattle.bitset.specs.Below.{any_below, count_below}
use Rattle.bitset.specs.Word.{member, inserted}
use Rattle.bitset.proofs.Word.{member_zero, member_inserted, empty_back}
use Rattle.bitset.proofs.Tests.{or_inr, or_out, same_test, decided, is_true, is_false}
use Rattle.bitset.proofs.Count.{count_same, count_none, count_added}
use Rattle.searches.specs.Ordering.{at, placed}
use Rattle.searches.specs.Answer.{repeated}

pub record Seen (w : List ℕ) (set q : ℕ) : Type 0 where
  pub members : (v : ℕ) → member set v ≡ placed w q v

pub seen_none : (w : List ℕ) → Seen w 0 0
unfolding placed any_below
seen_none w = record { members = member_zero }

pub seen_more : {w : List ℕ} {set q : ℕ} → Seen w set q → at w q < 64 → Seen w (inserted set (at w q)) (q + 1)
unfolding placed any_below
seen_more {w} {set} {q} s small = record {
  members = λ v.
      member_inserted set small v ∙ ap (λ (b : Bool). eqb (at w q) v || b) (s.members v) ∙ ap (λ (m : ℕ). placed w m v) (sym (add-one q));
}

-- ---- how large the set is

pub record Counted (w : List ℕ) (set q : ℕ) : Type 0 where
  pub seen : Seen w set q
  pub many : count_below 64 (member set) ≤ q
  pub tells : not (eqb (count_below 64 (member set)) q) ≡ repeated w q

pub counted_none : (w : List ℕ) → Counted w 0 0
unfolding repeated any_below
counted_none w =
    let none : count_below 64 (member 0) ≡ 0 = count_none 64 (member 0) (λ i _ t. empty_back refl i t) in
    record { seen = seen_none w; many = omega arith; tells = ap (λ (m : ℕ). not (eqb m 0)) none }

pub counted_more : {w : List ℕ} {set q : ℕ} → Counted w set q → at w q < 64 → Counted w (inserted set (at w q)) (q + 1)
unfolding repeated placed any_below
counted_more {w} {set} {q} c small = go (decided (member set a))
  where
    a : ℕ
    a = at w q

    count : ℕ
    count = count_below 64 (member set)

    grown : count_below 64 (member (inserted set a)) ≡ count_below 64 (λ i. eqb a i || member set i)
    grown = count_same 64 (member (inserted set a)) (λ i. eqb a i || member set i) (λ i _. member_inserted set small i)

    -- one entry more
    onward : (placed w q a || repeated w q) ≡ repeated w (q + 1)
    onward = ap (repeated w) (sym (add-one q))

    again_there : T (member set a) → (i : ℕ) → T (eqb a i || member set i) → T (member set i)
    again_there again i t = pick (or_out (eqb a i) (member set i) t)
      where
        pick : T (eqb a i) ⊎ T (member set i) → T (member set i)
        pick (inl e) = subst (λ (x : ℕ). T (member set x)) (eqb→eq a i e) again
        pick (inr t) = t

    go : T (member set a) ⊎ (T (member set a) → ⊥) → Counted w (inserted set a) (q + 1)
    go (inl again) =
        let same : count_below 64 (member (inserted set a)) ≡ count =
        grown ∙ count_same 64 (λ i. eqb a i || member set i) (member set) (λ i _. same_test (eqb a i || member set i) (member set i) (again_there again i) (or_inr (eqb a i) (member set i)))
        in
        record {
          seen = seen_more c.seen small;
          many = omega (arith, c.many);
          tells =
              ap not (is_false (eqb (count_below 64 (member (inserted set a))) (q + 1)) (λ t. let e = eqb→eq (count_below 64 (member (inserted set a))) (q + 1) t in omega (arith, c.many)))
              ∙ sym (ap (λ (b : Bool). b || repeated w q) (sym (c.seen.members a) ∙ is_true (member set a) again)) ∙ onward;
        }
    go (inr fresh) =
        let more : count_below 64 (member (inserted set a)) ≡ suc count = grown ∙ count_added 64 (member set) a small fresh in
        record {
          seen = seen_more c.seen small;
          many = omega (arith, c.many);
          tells =
              ap₂ (λ (m n : ℕ). not (eqb m n)) more (add-one q) ∙ ap not (eqb-suc-suc count q) ∙ c.tells
              ∙ sym (ap (λ (b : Bool). b || repeated w q) (sym (c.seen.members a) ∙ is_false (member set a) fresh)) ∙ onward;
        }
