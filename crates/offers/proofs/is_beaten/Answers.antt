-- `offers::is_beaten` meets its contract: what was taken out of the set so far is not ahead. The measure is the word that is left.
-- Assumes nothing.
use Prim.Native.Nat.{ℕ, ◌<◌}
use mathlib.Core.Path.{◌≡◌, sym, ap, ◌∙◌, subst}
use lib.Dec.{T}
use lib.ListN.{get_or}
use Rattle.bitset.proofs.Tests.{said_true, said_false}
use Rattle.bitset.proofs.Scan.{scan_start, scan_next, scan_found, scan_end, first_member, removed_less, taken_out}
use Rattle.bitset.specs.Word.{member}
use native.Mathlib.Omega.{arith}
use Rattle.searches.specs.Kind.{search_of}
use Rattle.searches.specs.Comparison.{is_ahead}
use Rattle.labels.specs.Words.{profile_of, ahead_in}
use Rattle.offers.specs.Open.{beaten_in}
use Rattle.labels.proofs.Comparison.{equals_ahead, ahead_answered}
use Rattle.labels.proofs.Profiles.{label_of, profile_own, profile_kept}
use Rattle.offers.proofs.is_beaten.Goals as goal
use Rattle.offers.proofs.is_beaten.Goals.{After-profile-next, After-smallest-u, After-eq}

-- the smallest number of what is left is in it
found : (c : After-smallest-u) → (c.smallest-u.result < 64) × T (member c.loop-rest.rest c.smallest-u.result)
found c =
    let rest = c.loop-rest.rest in
    subst (λ (u : ℕ). (u < 64) × T (member rest u)) (sym c.smallest-u.ensures) (first_member rest c.loop-rest.invariant.word (omega arith))

pub loop-rest-init : goal.loop-rest-init
loop-rest-init c = scan_start _ _ c.ranges.free.fits

pub overflow_cast-u : goal.overflow_cast-u
overflow_cast-u c = omega (arith, (found c).0)

pub profile-next-requires : goal.profile-next-requires
profile-next-requires c = (found c).0

-- what was looked at of it is the profile of its label
made : (c : After-profile-next)
    → let a = c.args in
    c.profile-next.result ≡ profile_of (search_of a.labels.now.kind.0) (get_or a.labels.now.words c.smallest-u.result 0)
made c =
    profile_kept (search_of c.args.labels.now.kind.0) c.args.labels.now.weighed c.smallest-u.result c.profile-next.ensures

pub compare-requires : goal.compare-requires
compare-requires c =
    (profile_own (search_of c.args.labels.now.kind.0) (get_or c.args.labels.now.words c.smallest-u.result 0) (made (goal.at.compare-requires c).After-profile-next), c.requires)

-- whether the smallest number of what is left is ahead
answered : (c : After-eq)
    → let a = c.args in
    c.eq.result ≡ ahead_in (search_of a.labels.now.kind.0) (get_or a.labels.now.words c.smallest-u.result 0) a.mine.label
answered c =
    let a = c.args in
    let s = search_of a.labels.now.kind.0 in
    c.eq.ensures ∙ equals_ahead c.compare.result ∙ ap is_ahead c.compare.ensures ∙ ahead_answered s c.profile-next.result.label a.mine.label
    ∙ ap (λ (x : ℕ). ahead_in s x a.mine.label) (label_of s (get_or a.labels.now.words c.smallest-u.result 0) (made (goal.at.After-eq c).After-profile-next))

pub returns-then-eq : goal.returns-then-eq
unfolding beaten_in
returns-then-eq c =
    scan_found c.loop-rest.invariant c.smallest-u.result (found (goal.at.returns-then-eq c).After-smallest-u).0 (found (goal.at.returns-then-eq c).After-smallest-u).1 (said_true _ (answered (goal.at.returns-then-eq c).After-eq) c.if-eq.true)

pub loop-rest-smaller : goal.loop-rest-smaller
loop-rest-smaller c =
    subst (λ (x : ℕ). x < c.loop-rest.rest) (sym (taken_out c.loop-rest.rest c.without_smallest-rest.ensures c.smallest-u.ensures)) (removed_less c.loop-rest.rest c.smallest-u.result c.loop-rest.invariant.word (found (goal.at.loop-rest-smaller c).After-smallest-u).1)

pub loop-rest-preserved : goal.loop-rest-preserved
loop-rest-preserved c =
    rw (taken_out c.loop-rest.rest c.without_smallest-rest.ensures c.smallest-u.ensures)
    (scan_next c.loop-rest.invariant c.smallest-u.result (λ _. said_false _ (answered (goal.at.loop-rest-preserved c).After-eq) c.if-eq.false))

pub returns : goal.returns
unfolding beaten_in
returns c = scan_end c.loop-rest.invariant c.loop-rest-test.false
