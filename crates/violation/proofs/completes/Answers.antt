-- `violation::completes` meets its contract: the two tests are those of the definition.
-- Assumes nothing.
use Prim.Native.Nat.{ℕ}
use mathlib.Core.Path.{◌≡◌, ap, ◌∙◌}
use lib.ListN.{get_or}
use Rattle.bitset.proofs.Tests.{said_true}
use Rattle.bitset.proofs.Word.{member_below}
use Rattle.searches.specs.Kind.{search_of}
use Rattle.labels.specs.Words.{profile_of, unexcused_in}
use Rattle.labels.proofs.Profiles.{label_of, profile_own, profile_kept}
use Rattle.violation.proofs.Searching.{completes_outside, completes_inside}
use Rattle.violation.proofs.completes.Goals as goal
use Rattle.violation.proofs.completes.Goals.{After-profile}

pub returns-then-not-contains : goal.returns-then-not-contains
returns-then-not-contains c =
    let a = c.args in
    let r = c.contains in
    completes_outside (search_of a.labels.now.kind.0) a.labels.now.words a.front a.i.0 a.mine.label a.c.0 r.ensures c.if-not-contains.true

pub profile-requires : goal.profile-requires
profile-requires c =
    let r = c.contains in
    member_below 64 c.ranges.front.fits c.args.c.0 (said_true _ r.ensures c.if-not-contains.false)

-- what was looked at of the vertex is the profile of its label
made : (c : After-profile)
    → let a = c.args in
    c.profile.result ≡ profile_of (search_of a.labels.now.kind.0) (get_or a.labels.now.words a.c.0 0)
made c =
    profile_kept (search_of c.args.labels.now.kind.0) c.args.labels.now.weighed c.args.c.0 c.profile.ensures

pub is_unexcused-requires : goal.is_unexcused-requires
is_unexcused-requires c =
    let a = c.args in
    (c.requires.0, profile_own (search_of a.labels.now.kind.0) (get_or a.labels.now.words a.c.0 0) (made c), c.requires.1)

pub returns : goal.returns
returns c =
    let a = c.args in
    let s = search_of a.labels.now.kind.0 in
    let r = c.contains in
    completes_inside s a.labels.now.words a.front a.i.0 a.mine.label a.c.0 r.ensures c.if-not-contains.false
    (c.is_unexcused.ensures
    ∙ ap (λ (x : ℕ). unexcused_in s a.i.0 x a.mine.label) (label_of s (get_or a.labels.now.words a.c.0 0) (made (goal.at.returns c).After-profile)))
