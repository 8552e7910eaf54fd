-- `wide::place::weigh` meets its contract: each search by what it takes the weight from.
-- Assumes nothing.
use Prim.Native.Nat.{ℕ, suc, ◌-◌, ◌<◌}
use mathlib.Core.Path.{◌≡◌, refl, sym, ap, ◌∙◌, subst}
use mathlib.Core.Bool.{Bool, cond, not}
use native.Mathlib.Numerals.{add-one}
use native.Mathlib.Omega.{arith}
use lib.Dec.{T, T_not}
use Rattle.bitset.specs.Below.{any_below, count_below}
use Rattle.bitset.proofs.Tests.{is_false}
use Rattle.bitset.proofs.Count.{count_le}
use Rattle.searches.specs.Kind.{Search, search_of}
use Rattle.searches.specs.Label.{empty}
use Rattle.labels.proofs.Comparison.{search_of_other}
use Rattle.tables.specs.Rows.{row_of}
use Rattle.wide.specs.Store.{weight_in}
use Rattle.wide.proofs.Storing.{smallest_upto, largest_some}
use Rattle.wide.proofs.Equal.{equal_told, unequal_told}
use Rattle.wide.proofs.place.weigh.Goals as goal
use Rattle.wide.proofs.place.weigh.Goals.{Start}

-- the search that a kind names
named : (f : ℕ → Bool) {kind k r : ℕ} → kind ≡ k → r ≡ weight_in (search_of k) 512 f → r ≡ weight_in (search_of kind) 512 f
named f {r = r} e h = subst (λ (x : ℕ). r ≡ weight_in (search_of x) 512 f) (sym e) h

pub overflow_sub-result : goal.overflow_sub-result
overflow_sub-result c =
    omega (arith, c.requires.keeps_smallest, smallest_upto (row_of c.args.words.now c.args.v))

pub returns-then-eq : goal.returns-then-eq
unfolding weight_in search_of
returns-then-eq c =
    named (row_of c.args.words.now c.args.v) (equal_told c.eq.ensures c.if-eq.true) (ap (λ (x : ℕ). 512 - x) c.requires.keeps_smallest)

pub returns-then-eq-2 : goal.returns-then-eq-2
unfolding weight_in search_of
returns-then-eq-2 c =
    named (row_of c.args.words.now c.args.v) (equal_told c.eq-2.ensures c.if-eq-2.true) c.requires.keeps_largest

pub returns-then-eq-3 : goal.returns-then-eq-3
unfolding weight_in search_of
returns-then-eq-3 c =
    let a = c.args in
    named (row_of a.words.now a.v) (equal_told c.eq-3.ensures c.if-eq-3.true) refl

pub returns-then-eq-4 : goal.returns-then-eq-4
unfolding weight_in search_of
returns-then-eq-4 c =
    let a = c.args in
    named (row_of a.words.now a.v) (equal_told c.eq-4.ensures c.if-eq-4.true) refl

-- in MNS there is one position more than there were
one_more : (s : Start) → s.args.kind.0 ≡ 5 → suc s.args.weight ≡ count_below 512 (row_of s.args.words.now s.args.v)
unfolding search_of
one_more s e = s.requires.counted (ap search_of e)

pub overflow_add-result : goal.overflow_add-result
overflow_add-result c =
    omega (arith, one_more (goal.at.overflow_add-result c).Start (equal_told c.eq-5.ensures c.if-eq-5.true), count_le 512 (row_of c.args.words.now c.args.v))

pub returns-then-eq-5 : goal.returns-then-eq-5
unfolding weight_in search_of
returns-then-eq-5 c =
    named (row_of c.args.words.now c.args.v) (equal_told c.eq-5.ensures c.if-eq-5.true) (add-one c.args.weight ∙ one_more (goal.at.returns-then-eq-5 c).Start (equal_told c.eq-5.ensures c.if-eq-5.true))

-- there are no more positions than 512
pub overflow_cast-result : goal.overflow_cast-result
overflow_cast-result c =
    let a = c.args in
    omega (arith, c.tally.ensures, count_le 512 (row_of a.words.now a.v))

pub returns-then-eq-6 : goal.returns-then-eq-6
unfolding weight_in search_of
returns-then-eq-6 c =
    let a = c.args in
    named (row_of a.words.now a.v) (equal_told c.eq-6.ensures c.if-eq-6.true) c.tally.ensures

-- a label of which a largest position is kept is not empty
pub returns : goal.returns
unfolding weight_in empty
returns c =
    let a = c.args in
    let row : ℕ → Bool = row_of a.words.now a.v in
    let filled : T (any_below 512 row) = largest_some row (subst (λ (x : ℕ). 0 < x) c.requires.keeps_largest c.requires.some) in
    sym (ap (λ (b : Bool). cond b 0 1) (is_false (not (any_below 512 row)) (λ t. T_not (any_below 512 row) t filled)))
    ∙ ap (λ (k : Search). weight_in k 512 row)
    (sym (search_of_other a.kind.0 (unequal_told c.eq.ensures c.if-eq.false) (unequal_told c.eq-2.ensures c.if-eq-2.false) (unequal_told c.eq-3.ensures c.if-eq-3.false)
    (unequal_told c.eq-4.ensures c.if-eq-4.false) (unequal_told c.eq-5.ensures c.if-eq-5.false) (unequal_told c.eq-6.ensures c.if-eq-6.false)))
