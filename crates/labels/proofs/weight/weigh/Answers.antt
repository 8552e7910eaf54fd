-- `labels::weight::weigh` meets its contract: each search by what it takes the weight from.
-- Assumes nothing.
use Prim.Native.Nat.{ℕ, ◌-◌}
use mathlib.Core.Path.{◌≡◌, refl, sym, ap, ◌∙◌, subst}
use mathlib.Core.Bool.{Bool, cond}
use native.Mathlib.Omega.{arith}
use lib.Dec.{T, eqb, eqb→eq, eqb_refl}
use Rattle.bitset.specs.Word.{member, inserted}
use Rattle.bitset.proofs.Tests.{is_false, or_inl}
use Rattle.bitset.proofs.Word.{member_inserted, empty_back}
use Rattle.searches.specs.Kind.{Search, search_of}
use Rattle.labels.specs.Weights.{weight_of}
use Rattle.labels.proofs.Comparison.{is_kind, no_kind, search_of_other}
use Rattle.labels.proofs.Weights.{smallest_upto, mirrored_inserted}
use Rattle.labels.proofs.weight.weigh.Goals as goal

-- the search that a kind names
named : (label : ℕ) {kind k r : ℕ} → kind ≡ k → r ≡ weight_of (search_of k) label → r ≡ weight_of (search_of kind) label
named label {r = r} e h = subst (λ (x : ℕ). r ≡ weight_of (search_of x) label) (sym e) h

pub overflow_sub-result : goal.overflow_sub-result
overflow_sub-result g c =
    omega (arith, c.requires.keeps_smallest, smallest_upto c.args.grown.label)

pub returns-then-eq : goal.returns-then-eq
unfolding weight_of search_of
returns-then-eq g c =
    named c.args.grown.label (is_kind c.args.kind.0 1 c.eq.ensures c.if-eq.true) (ap (λ (x : ℕ). 64 - x) c.requires.keeps_smallest)

pub returns-then-eq-2 : goal.returns-then-eq-2
unfolding weight_of search_of
returns-then-eq-2 g c =
    named c.args.grown.label (is_kind c.args.kind.0 2 c.eq-2.ensures c.if-eq-2.true) c.requires.keeps_largest

pub returns-then-eq-3 : goal.returns-then-eq-3
unfolding weight_of search_of
returns-then-eq-3 g c =
    let a = c.args in
    let is = is_kind a.kind.0 3 c.eq-3.ensures c.if-eq-3.true in
    named a.grown.label is
    (c.insert.ensures
    ∙ ap (λ (x : ℕ). inserted x (63 - a.position.0)) (c.requires.weighed ∙ ap (λ (k : ℕ). weight_of (search_of k) c.requires.before) is)
    ∙ mirrored_inserted c.requires.before a.position.0 c.requires.place ∙ ap (weight_of (search_of 3)) (sym c.requires.joined))

pub returns-then-eq-4 : goal.returns-then-eq-4
unfolding weight_of search_of
returns-then-eq-4 g c = named c.args.grown.label (is_kind c.args.kind.0 4 c.eq-4.ensures c.if-eq-4.true) refl

pub returns-then-eq-5 : goal.returns-then-eq-5
unfolding weight_of search_of
returns-then-eq-5 g c = named c.args.grown.label (is_kind c.args.kind.0 5 c.eq-5.ensures c.if-eq-5.true) refl

pub returns-then-eq-6 : goal.returns-then-eq-6
unfolding weight_of search_of
returns-then-eq-6 g c =
    named c.args.grown.label (is_kind c.args.kind.0 6 c.eq-6.ensures c.if-eq-6.true) c.count.ensures

-- a label into which a position was put is not empty
pub returns : goal.returns
unfolding weight_of
returns g c =
    let a = c.args in
    let p = a.position.0 in
    let filled : T (eqb a.grown.label 0) → ⊥ = λ t. empty_back (sym c.requires.joined ∙ eqb→eq a.grown.label 0 t) p
    (subst (λ (b : Bool). T b) (sym (member_inserted c.requires.before c.requires.place p)) (or_inl (eqb p p) (member c.requires.before p) (eqb_refl p)))
    in
    sym (ap (λ (b : Bool). cond b 0 1) (is_false (eqb a.grown.label 0) filled))
    ∙ ap (λ (k : Search). weight_of k a.grown.label)
    (sym (search_of_other a.kind.0 (no_kind a.kind.0 1 c.eq.ensures c.if-eq.false) (no_kind a.kind.0 2 c.eq-2.ensures c.if-eq-2.false) (no_kind a.kind.0 3 c.eq-3.ensures c.if-eq-3.false)
    (no_kind a.kind.0 4 c.eq-4.ensures c.if-eq-4.false) (no_kind a.kind.0 5 c.eq-5.ensures c.if-eq-5.false) (no_kind a.kind.0 6 c.eq-6.ensures c.if-eq-6.false)))
