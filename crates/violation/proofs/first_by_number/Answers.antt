-- `violation::first_by_number` meets its contract: no number that was taken out of the front so far completes a violation. The measure
-- is the word that is left.
-- Assumes nothing.
use Prim.Native.Nat.{ℕ, ◌<◌}
use mathlib.Core.Path.{◌≡◌, sym, ap, ◌∙◌, subst}
use lib.Dec.{T}
use lib.ListN.{get_or}
use native.Mathlib.Omega.{arith}
use Rattle.bitset.specs.Word.{member}
use Rattle.bitset.proofs.Tests.{said_true, said_false}
use Rattle.bitset.proofs.Scan.{scan_start, scan_next, first_member, removed_less, taken_out}
use Rattle.searches.specs.Kind.{search_of}
use Rattle.labels.specs.Words.{profile_of, unexcused_in}
use Rattle.labels.proofs.Profiles.{label_of, profile_own, profile_kept}
use Rattle.violation.proofs.Searching.{scanned_first, scanned_none}
use Rattle.violation.proofs.first_by_number.Goals as goal
use Rattle.violation.proofs.first_by_number.Goals.{After-is_unexcused, After-profile, After-smallest-number}

-- the smallest number of what is left is in it
found : (c : After-smallest-number) → (c.smallest-number.result < 64) × T (member c.loop-rest.rest c.smallest-number.result)
found c =
    let rest = c.loop-rest.rest in
    subst (λ (u : ℕ). (u < 64) × T (member rest u)) (sym c.smallest-number.ensures) (first_member rest c.loop-rest.invariant.word (omega arith))

pub loop-rest-init : goal.loop-rest-init
loop-rest-init c = scan_start _ _ c.ranges.front.fits

pub overflow_cast-number : goal.overflow_cast-number
overflow_cast-number c = omega (arith, (found c).0)

pub profile-requires : goal.profile-requires
profile-requires c = (found (goal.at.profile-requires c).After-smallest-number).0

-- what was looked at of it is the profile of its label
made : (c : After-profile)
    → let a = c.args in
    c.profile.result ≡ profile_of (search_of a.labels.now.kind.0) (get_or a.labels.now.words c.smallest-number.result 0)
made c =
    profile_kept (search_of c.args.labels.now.kind.0) c.args.labels.now.weighed c.smallest-number.result c.profile.ensures

pub is_unexcused-requires : goal.is_unexcused-requires
is_unexcused-requires c =
    let a = c.args in
    (c.requires.0, profile_own (search_of a.labels.now.kind.0) (get_or a.labels.now.words c.smallest-number.result 0) (made c), c.requires.1)

-- whether the smallest number of what is left completes a violation
answered : (c : After-is_unexcused)
    → let a = c.args in
    c.is_unexcused.result ≡ unexcused_in (search_of a.labels.now.kind.0) a.i.0 (get_or a.labels.now.words c.smallest-number.result 0) a.mine.label
answered c =
    let a = c.args in
    let s = search_of a.labels.now.kind.0 in
    c.is_unexcused.ensures
    ∙ ap (λ (x : ℕ). unexcused_in s a.i.0 x a.mine.label) (label_of s (get_or a.labels.now.words c.smallest-number.result 0) (made (goal.at.After-is_unexcused c).After-profile))

pub returns-then-is_unexcused : goal.returns-then-is_unexcused
returns-then-is_unexcused c =
    let a = c.args in
    let there = found (goal.at.returns-then-is_unexcused c).After-smallest-number in (
      scanned_first (search_of a.labels.now.kind.0) a.labels.now.words a.front a.i.0 a.mine.label c.loop-rest.invariant c.smallest-number.ensures there.0 there.1
          (said_true _ (answered (goal.at.returns-then-is_unexcused c).After-is_unexcused) c.if-is_unexcused.true),
      there.0,
    )

pub loop-rest-smaller : goal.loop-rest-smaller
loop-rest-smaller c =
    subst (λ (x : ℕ). x < c.loop-rest.rest) (sym (taken_out c.loop-rest.rest c.without_smallest-rest.ensures c.smallest-number.ensures)) (removed_less c.loop-rest.rest c.smallest-number.result c.loop-rest.invariant.word (found (goal.at.loop-rest-smaller c).After-smallest-number).1)

pub loop-rest-preserved : goal.loop-rest-preserved
loop-rest-preserved c =
    rw (taken_out c.loop-rest.rest c.without_smallest-rest.ensures c.smallest-number.ensures)
    (scan_next c.loop-rest.invariant c.smallest-number.result (λ _. said_false _ (answered (goal.at.loop-rest-preserved c).After-is_unexcused) c.if-is_unexcused.false))

pub returns : goal.returns
returns c =
    let a = c.args in
    sym (scanned_none (search_of a.labels.now.kind.0) a.labels.now.words a.front a.i.0 a.mine.label c.loop-rest.invariant c.loop-rest-test.false)
