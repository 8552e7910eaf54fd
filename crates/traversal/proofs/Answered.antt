-- What the calls hand back, from the answer.
--   next_handed, kept_handed         the next state where nothing is refused, else the one that is kept
--   field_handed                     a field that both have alike
--   place_room, take_back_room       there is a position to write
--   offers_vertex                    who is offered is a vertex
--   set_same_test, offered_whole, offered_refused    the offered set, from the words of the moment
--   offered_member                   and what is in it
-- Assumes nothing.
use Prim.Native.Nat.{ℕ, zero, suc, ◌≤◌, ◌<◌}
use mathlib.Core.Path.{◌≡◌, refl, sym, ap, ap₂, ◌∙◌, subst}
use mathlib.Core.Bool.{Bool, true, false, cond, not, ◌&&◌}
use mathlib.Core.Logic.{◌⊎◌, inl, inr}
use mathlib.Core.Option.{Option, none, some}
use native.Mathlib.Omega.{arith}
use lib.Dec.{T, ltb, eqb, lt→ltb, eqb_refl, not_T}
use lib.ListN.{length}
use Rattle.bitset.specs.Below.{count_below}
use Rattle.bitset.specs.Word.{member, inserted}
use Rattle.bitset.proofs.Tests.{and_in, and_out, not_not, same_test, cond_yes, below_or, three_ways}
use Rattle.bitset.proofs.Count.{count_le}
use Rattle.searches.specs.Kind.{search_of}
use Rattle.searches.specs.Ordering.{arcs}
use Rattle.searches.specs.Run.{offered}
use Rattle.searches.specs.Without.{number_of, numbered, arcs_of, offered_without}
use Rattle.searches.specs.Answer.{first_refusal, unbarred}
use Rattle.searches.proofs.Ordering.{ordering_fits}
use Rattle.searches.proofs.Run.{offered_out}
use Rattle.searches.proofs.Naming.{number_beyond}
use Rattle.searches.proofs.Renumbered.{numbered_ordering}
use Rattle.searches.proofs.Refusals.{none_accepts}
use Rattle.traversal.specs.declared.Traversal.{Traversal}
use Rattle.bitset.specs.Word.{set_below}
use Rattle.traversal.specs.State.{plan, walk, in_service, well_formed, offers, unless_refused, place_tests, place_answer, take_back_tests, take_back_answer, offered_answer, offered_set}
use Rattle.bitset.proofs.Joining.{member_set_below}
use Rattle.traversal.proofs.WellFormed.{parts, well_formed_out}

pub next_handed : {answer : Option ℕ} (next kept : Traversal) → none ≡ answer → next ≡ unless_refused answer next kept
unfolding unless_refused
next_handed next kept e = ap (λ (answer : Option ℕ). unless_refused answer next kept) e

pub kept_handed : {answer : Option ℕ} (next kept : Traversal) {r : ℕ} → some r ≡ answer → kept ≡ unless_refused answer next kept
unfolding unless_refused
kept_handed next kept e = ap (λ (answer : Option ℕ). unless_refused answer next kept) e

-- whichever it is, a field that both have alike is that
pub field_handed : {A : Type 0} (field : Traversal → A) (answer : Option ℕ) (next kept : Traversal) → field next ≡ field kept → field (unless_refused answer next kept) ≡ field kept
unfolding unless_refused
field_handed field none next kept same = same
field_handed field (some r) next kept same = refl

-- a number that does not equal another
differs : {a b : ℕ} → (T (eqb a b) → ⊥) → a ≡ b → ⊥
differs {a} apart e = apart (subst (λ (x : ℕ). T (eqb a x)) e (eqb_refl a))

-- fewer are placed than are not barred
pub place_room : (t : Traversal) → length t.rows ≡ 64 → length t.ordering ≡ 64 → (v : ℕ) → none ≡ place_answer t v → (t.k < in_service t) × (t.k < 64)
unfolding place_answer place_tests in_service
place_room t rows-full ordering-full v e =
    let a = none_accepts (place_tests t v) (sym e) in
    let x = well_formed_out t rows-full ordering-full (not_not (well_formed t) (not_T (not (well_formed t)) a.0)) in
    let fits = ordering_fits (count_below t.n (unbarred t.barred)) (numbered_ordering t.n (unbarred t.barred) (walk t) t.k x.distinct x.stays) in
    let fewer = count_le t.n (unbarred t.barred) in
    let l = below fits (differs a.1.0) in
    (l, omega (arith, fewer, x.points))
  where
    below : {k m : ℕ} → k ≤ m → (k ≡ m → ⊥) → k < m
    below {k} {m} l other = go (three_ways k m)
      where
        go : (k < m) ⊎ ((k ≡ m) ⊎ (m < k)) → k < m
        go (inl g) = g
        go (inr (inl g)) = absurd (other g)
        go (inr (inr g)) = absurd (omega arith)

pub take_back_room : (t : Traversal) → none ≡ take_back_answer t → (1 ≤ t.k) × (t.k ≤ 64)
unfolding take_back_answer take_back_tests
take_back_room t e =
    let a = none_accepts (take_back_tests t) (sym e) in
    let p = parts t (not_not (well_formed t) (not_T (not (well_formed t)) a.0)) in
    (some_placed t.k (differs a.1.0), omega (arith, p.places, p.points))
  where
    some_placed : (k : ℕ) → (k ≡ 0 → ⊥) → 1 ≤ k
    some_placed zero other = absurd (other refl)
    some_placed (suc k) other = omega arith

-- ---- the offered set

pub set_same_test : (n : ℕ) (f g : ℕ → Bool) → ((v : ℕ) → f v ≡ g v) → set_below n f ≡ set_below n g
unfolding set_below
set_same_test zero f g e = refl
set_same_test (suc n) f g e = ap₂ (λ (b : Bool) (rest : ℕ). cond b (inserted rest n) rest) (e n) (set_same_test n f g e)

pub offered_whole : (t : Traversal) {f : ℕ → Bool} → well_formed t ≡ true → ((v : ℕ) → f v ≡ offers t v)
    → (set_below t.n f ≡ offered_set t) × (none ≡ offered_answer t)
unfolding offered_set offered_answer first_refusal
offered_whole t {f} sound e = (
  set_same_test t.n f (offers t) e ∙ sym (ap (λ (b : Bool). cond b (set_below t.n (offers t)) 0) sound),
  sym (ap (λ (b : Bool). cond {A = Option ℕ} (not b) (some 13) none) sound),
)

pub offered_refused : (t : Traversal) → well_formed t ≡ false → (0 ≡ offered_set t) × (some 13 ≡ offered_answer t)
unfolding offered_set offered_answer first_refusal
offered_refused t broken = (
  sym (ap (λ (b : Bool). cond b (set_below t.n (offers t)) 0) broken),
  sym (ap (λ (b : Bool). cond {A = Option ℕ} (not b) (some 13) none) broken),
)

-- who is offered is a vertex
offers_vertex : (t : Traversal) (v : ℕ) → T (offers t v) → v < t.n
unfolding offers offered_without
offers_vertex t v o = go (below_or v t.n)
  where
    kept : ℕ → Bool
    kept = unbarred t.barred

    go : (v < t.n) ⊎ (t.n ≤ v) → v < t.n
    go (inl l) = l
    go (inr l) =
        let x = offered_out (search_of t.kind.0) (arcs_of t.n kept (arcs (plan t))) (count_below t.n kept) (numbered kept (walk t)) t.k (number_of kept v)
        (and_out (kept v) (offered (search_of t.kind.0) (arcs_of t.n kept (arcs (plan t))) (count_below t.n kept) (numbered kept (walk t)) t.k (number_of kept v)) o).1
        in
        absurd (omega (arith, x.vertex, number_beyond kept t.n v l))

-- what is in it
pub offered_member : (t : Traversal) → T (well_formed t) → (v : ℕ) → member (offered_set t) v ≡ offers t v
unfolding offered_set
offered_member t formed v =
    ap (λ (set : ℕ). member set v) (cond_yes (well_formed t) (set_below t.n (offers t)) 0 formed)
    ∙ member_set_below t.n (parts t formed).points (offers t) v
    ∙ same_test (ltb v t.n && offers t v) (offers t v) (λ x. (and_out (ltb v t.n) (offers t v) x).1) (λ o.
    and_in (ltb v t.n) (offers t v) (lt→ltb v t.n (offers_vertex t v o)) o)
