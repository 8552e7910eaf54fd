-- Going through the numbers of a set from its smallest on, to find one below n at which f holds.
--   Scanned n set f rest        what is left of `set` is `rest`, and f holds at none below n that was taken out
--   scan_start, scan_next       the scan begins, and goes on
--   scan_found, scan_end        what is then known of the search
--   first_member                the smallest number of a word that is not 0 is in it
--   removed_in, removed_keeps, removed_other   what is in the word after e was taken out
--   removed_less                a word is less once a member is taken out;   removed_size   and has one number less
--   cleared_smallest, cleared_empty   the word without its smallest number, as the machine makes it;   taken_out   by what was found
-- Assumes nothing.
use mathlib.Core.Path.{◌≡◌, refl, sym, ap, ◌∙◌, subst}
use mathlib.Core.Bool.{Bool, true, false, not, ◌&&◌, ◌||◌}
use mathlib.Core.Logic.{◌⊎◌, inl, inr}
use Prim.Native.Nat.{ℕ, zero, suc, ◌-◌, ◌/◌, ◌%◌, ◌<◌, ◌≤◌, ◌^◌}
use native.Mathlib.Nat.{lt_of_le_of_lt}
use native.Mathlib.Omega.{arith}
use lib.Bits.{bit_and, bit_xor, and_le_l}
use lib.Dec.{T, eqb, eqb→eq, eqb_refl, not_T, T_not}
use Rattle.bitset.specs.Below.{any_below, first_below, count_below}
use Rattle.bitset.specs.Word.{member, removed}
use Rattle.bitset.proofs.Tests.{and_in, and_out, same_test, decided, is_true, is_false, cond_no}
use Rattle.bitset.proofs.Below.{any_out, any_at, first, first_found, first_earliest}
use Rattle.bitset.proofs.Count.{count_same, count_added}
use Rattle.bitset.proofs.Word.{some_member, member_lowest, member_suc, member_and, member_removed, removed_word, equal_members, empty_back}
use Rattle.bitset.proofs.WordOrder.{highest_decides}

-- the smallest number of a word that is not 0
pub first_member : (x : ℕ) → x < 2 ^ 64 → 0 < x → (first_below 64 (member x) < 64) × T (member x (first_below 64 (member x)))
first_member x h pos =
    let some = some_member 64 h pos in
    (first_found some, (first 64 (member x)).holds (first_found some))

-- what is in the word after e was taken out
pub removed_in : (x e p : ℕ) → T (member (removed x e) p) → (e ≡ p → ⊥) × T (member x p)
removed_in x e p t =
    let both = and_out (not (eqb e p)) (member x p) (subst (λ (b : Bool). T b) (member_removed x e p) t) in
    (λ same. T_not (eqb e p) both.0 (subst (λ (y : ℕ). T (eqb e y)) same (eqb_refl e)), both.1)

pub removed_keeps : (x e p : ℕ) → (e ≡ p → ⊥) → T (member x p) → T (member (removed x e) p)
removed_keeps x e p other t =
    subst (λ (b : Bool). T b) (sym (member_removed x e p)) (and_in (not (eqb e p)) (member x p) (not_T (eqb e p) (λ u. other (eqb→eq e p u))) t)

-- the tests of the others are as they were
pub removed_other : (x e p : ℕ) → (e ≡ p → ⊥) → member (removed x e) p ≡ member x p
removed_other x e p other = member_removed x e p ∙ ap (λ (b : Bool). not b && member x p) (is_false (eqb e p) (λ u. other (eqb→eq e p u)))

pub removed_less : (x e : ℕ) → x < 2 ^ 64 → T (member x e) → removed x e < x
removed_less x e h t =
    highest_decides 64 (removed_word h e) h {m = e} (λ u. (removed_in x e e u).0 refl) t
    (λ p l. removed_other x e p (λ same. omega arith))

pub removed_size : (x e : ℕ) → e < 64 → T (member x e) → count_below 64 (member x) ≡ suc (count_below 64 (member (removed x e)))
removed_size x e l t =
    count_same 64 (member x) (λ p. eqb e p || member (removed x e) p) (λ p _. go p (decided (eqb e p)))
    ∙ count_added 64 (member (removed x e)) e l (λ u. (removed_in x e e u).0 refl)
  where
    go : (p : ℕ) → T (eqb e p) ⊎ (T (eqb e p) → ⊥) → member x p ≡ (eqb e p || member (removed x e) p)
    go p (inl same) =
        is_true (member x p) (subst (λ (y : ℕ). T (member x y)) (eqb→eq e p same) t) ∙ sym (ap (λ (b : Bool). b || member (removed x e) p) (is_true (eqb e p) same))
    go p (inr out) =
        sym (removed_other x e p (λ same. out (subst (λ (y : ℕ). T (eqb e y)) same (eqb_refl e)))) ∙ sym (ap (λ (b : Bool). b || member (removed x e) p) (is_false (eqb e p) out))

-- ---- the word without its smallest number, as the machine makes it

-- taking 1 away clears the smallest number and leaves those above it
pub pred_members : (e x : ℕ) → T (member x e) → ((i : ℕ) → i < e → T (member x i) → ⊥)
    → (T (member (x - 1) e) → ⊥) × ((p : ℕ) → e < p → member (x - 1) p ≡ member x p)
pred_members zero x t least =
    let odd : x % 2 ≡ 1 = eqb→eq (x % 2) 1 (subst (λ (b : Bool). T b) (member_lowest x) t) in (
      λ u.
          let even : (x - 1) % 2 ≡ 1 = eqb→eq ((x - 1) % 2) 1 (subst (λ (b : Bool). T b) (member_lowest (x - 1)) u) in
          omega arith,
      λ p l. above odd p l,
    )
  where
    above : x % 2 ≡ 1 → (p : ℕ) → 0 < p → member (x - 1) p ≡ member x p
    above odd zero l = absurd (omega arith)
    above odd (suc p) l = member_suc (x - 1) p ∙ ap (λ (y : ℕ). member y p) (let e : (x - 1) / 2 ≡ x / 2 = omega arith in e) ∙ sym (member_suc x p)
pred_members (suc e) x t least =
    let half = subst (λ (b : Bool). T b) (member_suc x e) t in
    let r = pred_members e (x / 2) half (λ i l u. least (suc i) (omega arith) (subst (λ (b : Bool). T b) (sym (member_suc x i)) u)) in
    let even : (x % 2 ≡ 1) → ⊥ = λ o. least 0 (omega arith) (subst (λ (b : Bool). T b) (sym (member_lowest x)) (subst (λ (y : ℕ). T (eqb y 1)) (sym o) tt)) in
    let pos : 0 < x / 2 = positive (x / 2) (λ z. empty_back z e half) in
    let h : (x - 1) / 2 ≡ x / 2 - 1 = halved even pos in (
      λ u. r.0 (subst (λ (y : ℕ). T (member y e)) h (subst (λ (b : Bool). T b) (member_suc (x - 1) e) u)),
      λ p l. above h r.1 p l,
    )
  where
    positive : (y : ℕ) → (y ≡ 0 → ⊥) → 0 < y
    positive zero none = absurd (none refl)
    positive (suc y) none = omega arith

    halved : (x % 2 ≡ 1 → ⊥) → 0 < x / 2 → (x - 1) / 2 ≡ x / 2 - 1
    halved even pos = omega arith

    above : (x - 1) / 2 ≡ x / 2 - 1 → ((p : ℕ) → e < p → member (x / 2 - 1) p ≡ member (x / 2) p) → (p : ℕ) → suc e < p → member (x - 1) p ≡ member x p
    above h rest zero l = absurd (omega arith)
    above h rest (suc p) l = member_suc (x - 1) p ∙ ap (λ (y : ℕ). member y p) h ∙ rest p (omega arith) ∙ sym (member_suc x p)

pub cleared_smallest : (x : ℕ) → x < 2 ^ 64 → 0 < x → bit_and x (x - 1) ≡ removed x (first_below 64 (member x))
cleared_smallest x h pos =
    equal_members 64 (lt_of_le_of_lt (and_le_l x (x - 1)) h) (removed_word h e) (λ p l. same_test (member (bit_and x (x - 1)) p) (member (removed x e) p) (forth p) (back p))
  where
    e : ℕ
    e = first_below 64 (member x)

    below : (T (member (x - 1) e) → ⊥) × ((p : ℕ) → e < p → member (x - 1) p ≡ member x p)
    below = pred_members e x (first_member x h pos).1 (first 64 (member x)).least

    forth : (p : ℕ) → T (member (bit_and x (x - 1)) p) → T (member (removed x e) p)
    forth p t =
        let both = and_out (member x p) (member (x - 1) p) (subst (λ (b : Bool). T b) (member_and x (x - 1) p) t) in
        removed_keeps x e p (λ same. below.0 (subst (λ (y : ℕ). T (member (x - 1) y)) (sym same) both.1)) both.0

    back : (p : ℕ) → T (member (removed x e) p) → T (member (bit_and x (x - 1)) p)
    back p t =
        let r = removed_in x e p t in
        let l : e < p = above (first_earliest 64 (member x) p r.1) r.0 in
        subst (λ (b : Bool). T b) (sym (member_and x (x - 1) p)) (and_in (member x p) (member (x - 1) p) r.1 (subst (λ (b : Bool). T b) (sym (below.1 p l)) r.1))
      where
        above : e ≤ p → (e ≡ p → ⊥) → e < p
        above l other = omega (arith, other)

-- the set has no number: nothing is taken out
pub cleared_empty : (x : ℕ) → x ≡ 0 → 0 ≡ removed x (first_below 64 (member x))
unfolding removed
cleared_empty x e = sym (cond_no (member x (first_below 64 (member x))) (bit_xor x (2 ^ first_below 64 (member x))) x (empty_back e (first_below 64 (member x))) ∙ e)

-- the same, by what was found to be its smallest number
pub taken_out : (x : ℕ) {r u : ℕ} → r ≡ removed x (first_below 64 (member x)) → u ≡ first_below 64 (member x) → r ≡ removed x u
taken_out x e found = e ∙ ap (λ (p : ℕ). removed x p) (sym found)

-- ---- the scan

pub record Scanned (n set : ℕ) (f : ℕ → Bool) (rest : ℕ) : Type 0 where
  pub word : rest < 2 ^ 64
  pub part : (u : ℕ) → T (member rest u) → T (member set u)
  pub passed : (u : ℕ) → u < n → T (member set u) → (T (member rest u) → ⊥) → T (f u) → ⊥

pub scan_start : (n : ℕ) {set : ℕ} (f : ℕ → Bool) → set < 2 ^ 64 → Scanned n set f set
scan_start n f h = record { word = h; part = λ u t. t; passed = λ u l t out. absurd (out t) }

pub scan_next : {n set : ℕ} {f : ℕ → Bool} {rest : ℕ} → Scanned n set f rest → (u : ℕ) → (u < n → T (f u) → ⊥) → Scanned n set f (removed rest u)
scan_next {n} {set} {f} {rest} r u out = record {
  word = removed_word r.word u;
  part = λ v t. r.part v (removed_in rest u v t).1;
  passed = λ v l t gone holds. at_v v l t gone holds (decided (eqb u v));
}
  where
    at_v : (v : ℕ) → v < n → T (member set v) → (T (member (removed rest u) v) → ⊥) → T (f v) → T (eqb u v) ⊎ (T (eqb u v) → ⊥) → ⊥
    at_v v l t gone holds (inl e) = subst (λ (x : ℕ). (x < n → T (f x) → ⊥)) (eqb→eq u v e) out l holds
    at_v v l t gone holds (inr other) =
        r.passed v l t (λ inside. gone (removed_keeps rest u v (λ same. other (subst (λ (x : ℕ). T (eqb u x)) same (eqb_refl u))) inside)) holds

pub scan_found : {n set : ℕ} {f : ℕ → Bool} {rest : ℕ} → Scanned n set f rest → (u : ℕ) → u < n → T (member rest u) → T (f u)
    → true ≡ any_below n (λ v. member set v && f v)
scan_found {n} {set} {f} r u l t holds =
    sym (is_true (any_below n (λ v. member set v && f v)) (any_at n (λ v. member set v && f v) u l (and_in (member set u) (f u) (r.part u t) holds)))

pub scan_end : {n set : ℕ} {f : ℕ → Bool} {rest : ℕ} → Scanned n set f rest → rest ≡ 0 → false ≡ any_below n (λ v. member set v && f v)
scan_end {n} {set} {f} r over = sym (is_false (any_below n (λ v. member set v && f v)) (λ t.
    let x = any_out n (λ v. member set v && f v) t in
    let both = and_out (member set x.at) (f x.at) x.holds in
    r.passed x.at x.below both.0 (empty_back over x.at) both.1))
