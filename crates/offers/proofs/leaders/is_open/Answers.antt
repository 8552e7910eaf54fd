-- `offers::leaders::is_open` meets its contract.
-- Assumes nothing.
use mathlib.Core.Path.{◌≡◌, ap, ◌∙◌}
use lib.Dec.{T}
use lib.ListN.{get_or}
use Rattle.bitset.specs.Word.{member}
use Rattle.bitset.proofs.Tests.{said_true, said_false}
use Rattle.bitset.proofs.Word.{member_below}
use Rattle.searches.specs.Kind.{search_of}
use Rattle.labels.specs.Words.{profile_of}
use Rattle.offers.specs.Open.{beaten_in}
use Rattle.labels.proofs.Comparison.{other_kind, search_of_mns}
use Rattle.labels.proofs.Profiles.{label_of, profile_own, profile_kept}
use Rattle.offers.proofs.Reached.{beaten_reached}
use Rattle.offers.proofs.Scan.{closed_outside, open_unbeaten}
use Rattle.offers.proofs.Narrowing.{offered_at}
use Rattle.offers.proofs.leaders.is_open.Goals as goal
use Rattle.offers.proofs.leaders.is_open.Goals.{After-profile-mine, Else-not-contains}

pub returns-then-ne : goal.returns-then-ne
returns-then-ne c =
    let a = c.args in
    let k = search_of a.labels.now.kind.0 in
    c.contains.ensures ∙ offered_at k a.labels.now.words c.requires.0 (search_of_mns a.labels.now.kind.0 (other_kind a.labels.now.kind.0 5 c.ne.ensures c.if-ne.true)) c.ranges.free.fits a.v.0

pub returns-then-not-contains : goal.returns-then-not-contains
returns-then-not-contains c =
    let a = c.args in
    closed_outside (search_of a.labels.now.kind.0) a.labels.now.words a.free a.v.0
    (said_false (member a.free a.v.0) c.contains-2.ensures c.if-not-contains.true)

-- v is free
unplaced : (c : Else-not-contains) → let a = c.args in T (member a.free a.v.0)
unplaced c =
    let a = c.args in
    said_true (member a.free a.v.0) c.contains-2.ensures c.if-not-contains.false

pub profile-mine-requires : goal.profile-mine-requires
profile-mine-requires c =
    member_below 64 c.ranges.free.fits c.args.v.0 (unplaced c)

-- what was looked at of v is the profile of its label
made : (c : After-profile-mine)
    → let a = c.args in
    c.profile-mine.result ≡ profile_of (search_of a.labels.now.kind.0) (get_or a.labels.now.words a.v.0 0)
made c =
    profile_kept (search_of c.args.labels.now.kind.0) c.args.labels.now.weighed c.args.v.0 c.profile-mine.ensures

pub is_beaten-requires : goal.is_beaten-requires
is_beaten-requires c =
    let a = c.args in
    profile_own (search_of a.labels.now.kind.0) (get_or a.labels.now.words a.v.0 0) (made (goal.at.is_beaten-requires c).After-profile-mine)

pub returns : goal.returns
returns c =
    let a = c.args in
    let k = search_of a.labels.now.kind.0 in
    let mine = get_or a.labels.now.words a.v.0 0 in
    open_unbeaten k a.labels.now.words a.free a.v.0 c.is_beaten.result (unplaced (goal.at.returns c).Else-not-contains)
    (c.is_beaten.ensures ∙ ap (beaten_in k a.labels.now.words c.common.result) (label_of k mine (made (goal.at.returns c).After-profile-mine))
    ∙ beaten_reached k a.labels.now.words a.reached c.requires.1 a.free mine c.common.ensures)
