-- `offers::is_open` meets its contract.
-- Assumes nothing.
use Prim.Native.Nat.{◌<◌}
use mathlib.Core.Path.{◌≡◌, ap, ◌∙◌}
use lib.ListN.{get_or}
use lib.Dec.{T}
use Rattle.bitset.specs.Word.{member}
use Rattle.bitset.proofs.Tests.{said_true, said_false}
use Rattle.bitset.proofs.Word.{member_below}
use Rattle.searches.specs.Kind.{search_of}
use Rattle.labels.specs.Words.{profile_of}
use Rattle.offers.specs.Open.{beaten_in}
use Rattle.labels.proofs.Profiles.{label_of, profile_own, profile_kept}
use Rattle.offers.proofs.Scan.{closed_outside, open_unbeaten}
use Rattle.offers.proofs.is_open.Goals as goal
use Rattle.offers.proofs.is_open.Goals.{After-profile-mine, Else-not-contains}

pub returns-then-not-contains : goal.returns-then-not-contains
returns-then-not-contains c =
    closed_outside (search_of c.args.labels.now.kind.0) c.args.labels.now.words c.args.free c.args.v.0
    (said_false (member c.args.free c.args.v.0) c.contains.ensures c.if-not-contains.true)

-- v is one of the free
inside : (c : Else-not-contains) → let a = c.args in T (member a.free a.v.0) × (a.v.0 < 64)
inside c =
    let t = said_true (member c.args.free c.args.v.0) c.contains.ensures c.if-not-contains.false in
    (t, member_below 64 c.ranges.free.fits c.args.v.0 t)

pub profile-mine-requires : goal.profile-mine-requires
profile-mine-requires c = (inside c).1

-- what was looked at of v is the profile of its label
made : (c : After-profile-mine)
    → let a = c.args in
    c.profile-mine.result ≡ profile_of (search_of a.labels.now.kind.0) (get_or a.labels.now.words a.v.0 0)
made c =
    profile_kept (search_of c.args.labels.now.kind.0) c.args.labels.now.weighed c.args.v.0 c.profile-mine.ensures

pub is_beaten-requires : goal.is_beaten-requires
is_beaten-requires c =
    let a = c.args in
    profile_own (search_of a.labels.now.kind.0) (get_or a.labels.now.words a.v.0 0) (made c)

pub returns : goal.returns
returns c =
    let a = c.args in
    let k = search_of a.labels.now.kind.0 in
    open_unbeaten k a.labels.now.words a.free a.v.0 c.is_beaten.result (inside (goal.at.returns c).Else-not-contains).0
    (c.is_beaten.ensures ∙ ap (beaten_in k a.labels.now.words a.free) (label_of k (get_or a.labels.now.words a.v.0 0) (made (goal.at.returns c).After-profile-mine)))
