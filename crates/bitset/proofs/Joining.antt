-- A number put into a set where a test says so, and the set of the numbers below a bound at which a test holds.
--   suc_split            the numbers below one more
--   joined_if            what is in a set that a number joins where a test holds
--   set_more, set_same   one number more, at which the test holds, or does not
--   set_none             it is empty where the test holds nowhere
--   member_set_below      what is in it
-- Assumes nothing.
use mathlib.Core.Path.{◌≡◌, refl, sym, ap, ◌∙◌, subst}
use mathlib.Core.Bool.{Bool, true, false, cond, ◌&&◌, ◌||◌}
use mathlib.Core.Logic.{◌⊎◌, inl, inr}
use Prim.Native.Nat.{ℕ, zero, suc, ◌+◌, ◌≤◌, ◌<◌}
use native.Mathlib.Numerals.{add-one}
use native.Mathlib.Omega.{arith}
use lib.Dec.{T, ltb, eqb, ltb→lt, lt→ltb, eqb→eq, eqb_refl, leb-suc-zero}
use Rattle.bitset.specs.Word.{member, inserted, set_below}
use Rattle.bitset.proofs.Tests.{and_in, and_out, and_true, or_inl, or_inr, or_out, same_test, below_suc, cond_no}
use Rattle.bitset.proofs.Word.{member_zero, member_inserted}

-- the numbers below j + 1 of a set are j, if it is one, and those below j
pub suc_split : (j p : ℕ) (f : ℕ → Bool) → ((eqb j p && f j) || (ltb p j && f p)) ≡ (ltb p (suc j) && f p)
suc_split j p f = same_test ((eqb j p && f j) || (ltb p j && f p)) (ltb p (suc j) && f p) (λ t. forth (or_out (eqb j p && f j) (ltb p j && f p) t)) back
  where
    forth : T (eqb j p && f j) ⊎ T (ltb p j && f p) → T (ltb p (suc j) && f p)
    forth (inl t) =
        let both = and_out (eqb j p) (f j) t in
        let e = eqb→eq j p both.0 in
        and_in (ltb p (suc j)) (f p) (lt→ltb p (suc j) (omega arith)) (subst (λ (q : ℕ). T (f q)) e both.1)
    forth (inr t) =
        let both = and_out (ltb p j) (f p) t in
        and_in (ltb p (suc j)) (f p) (lt→ltb p (suc j) (omega (arith, ltb→lt p j both.0))) both.1

    back : T (ltb p (suc j) && f p) → T ((eqb j p && f j) || (ltb p j && f p))
    back t = let both = and_out (ltb p (suc j)) (f p) t in go (below_suc j p (ltb→lt p (suc j) both.0)) both.1
      where
        go : (p < j) ⊎ (p ≡ j) → T (f p) → T ((eqb j p && f j) || (ltb p j && f p))
        go (inl l) x = or_inr (eqb j p && f j) (ltb p j && f p) (and_in (ltb p j) (f p) (lt→ltb p j l) x)
        go (inr e) x =
            or_inl (eqb j p && f j) (ltb p j && f p)
            (and_in (eqb j p) (f j) (subst (λ (q : ℕ). T (eqb j q)) (sym e) (eqb_refl j)) (subst (λ (q : ℕ). T (f q)) e x))

pub joined_if : (b : Bool) (x : ℕ) {q : ℕ} → q < 64 → (p : ℕ) → member (cond b (inserted x q) x) p ≡ ((eqb q p && b) || member x p)
joined_if true x {q} l p = member_inserted x l p ∙ ap (λ (b : Bool). b || member x p) (and_true (eqb q p))
joined_if false x {q} l p = ap (λ (b : Bool). b || member x p) (out (eqb q p))
  where
    out : (b : Bool) → false ≡ (b && false)
    out true = refl
    out false = refl

pub set_more : (f : ℕ → Bool) {v set : ℕ} → set ≡ set_below v f → f v ≡ true → inserted set v ≡ set_below (v + 1) f
unfolding set_below
set_more f {v} {set} e holds =
    ap (λ (x : ℕ). inserted x v) e ∙ sym (ap (λ (b : Bool). cond b (inserted (set_below v f) v) (set_below v f)) holds)
    ∙ ap (λ (m : ℕ). set_below m f) (sym (add-one v))

pub set_same : (f : ℕ → Bool) {v set : ℕ} → set ≡ set_below v f → f v ≡ false → set ≡ set_below (v + 1) f
unfolding set_below
set_same f {v} {set} e fails =
    e ∙ sym (ap (λ (b : Bool). cond b (inserted (set_below v f) v) (set_below v f)) fails) ∙ ap (λ (m : ℕ). set_below m f) (sym (add-one v))

pub set_none : (n : ℕ) (f : ℕ → Bool) → ((v : ℕ) → v < n → T (f v) → ⊥) → set_below n f ≡ 0
unfolding set_below
set_none zero f none = refl
set_none (suc n) f none =
    cond_no (f n) (inserted (set_below n f) n) (set_below n f) (none n (omega arith)) ∙ set_none n f (λ v l. none v (omega arith))

pub member_set_below : (n : ℕ) → n ≤ 64 → (f : ℕ → Bool) (v : ℕ) → member (set_below n f) v ≡ (ltb v n && f v)
unfolding set_below
member_set_below zero l f v = member_zero v ∙ ap (λ (b : Bool). b && f v) (sym (leb-suc-zero v))
member_set_below (suc n) l f v =
    joined_if (f n) (set_below n f) l v ∙ ap (λ (b : Bool). (eqb n v && f n) || b) (member_set_below n (omega arith) f v) ∙ suc_split n v f
