-- `violation::first_first` meets its contract: no position that was passed starts a violation.
-- Assumes nothing.
use Prim.Native.Nat.{ℕ}
use mathlib.Core.Path.{◌≡◌, refl, sym, ap, ◌∙◌}
use mathlib.Core.Bool.{true, false}
use native.Mathlib.Omega.{arith}
use lib.Dec.{T}
use lib.ListN.{get_or}
use Rattle.bitset.specs.Below.{first_below}
use Rattle.bitset.proofs.Tests.{is_true, is_false}
use Rattle.bitset.proofs.Passed.{passed_start, passed_more, first_found, first_unfound}
use Rattle.searches.specs.Kind.{search_of}
use Rattle.labels.specs.Words.{profile_of}
use Rattle.labels.proofs.Profiles.{label_of, profile_own, profile_kept}
use Rattle.violation.specs.Fault.{first_in, completes_in}
use Rattle.violation.proofs.Completing.{front_at, first_there, first_nowhere}
use Rattle.violation.proofs.Searching.{sought}
use Rattle.violation.proofs.first_first.Goals as goal
use Rattle.violation.proofs.first_first.Given.{Over}
use Rattle.violation.proofs.first_first.Goals.{After-is_some, After-profile-mine}

pub profile-mine-requires : goal.profile-mine-requires
profile-mine-requires g c =
    omega (arith, c.vertex_at-b.ensures, c.requires.small, c.requires.vertices c.args.j.0 c.requires.inside)

-- what was looked at of the vertex is the profile of its label
made : (g : Over) (c : After-profile-mine g)
    → let a = c.args in
    c.profile-mine.result ≡ profile_of (search_of a.labels.now.kind.0) (get_or a.labels.now.words c.vertex_at-b.result.0 0)
made g c =
    profile_kept (search_of c.args.labels.now.kind.0) c.args.labels.now.weighed c.vertex_at-b.result.0 c.profile-mine.ensures

pub loop-i-init : goal.loop-i-init
loop-i-init g c = passed_start _ _

pub first_by_number-requires : goal.first_by_number-requires
first_by_number-requires g c =
    let a = c.args in (
      omega (arith, c.requires.inside, c.requires.fits, c.requires.small),
      profile_own (search_of a.labels.now.kind.0) (get_or a.labels.now.words c.vertex_at-b.result.0 0) (made g (goal.at.first_by_number-requires g c).After-profile-mine),
    )

-- what the search by number says of position i
starts : (g : Over) (c : After-is_some g)
    → let a = c.args in
    let test = first_in (search_of a.labels.now.kind.0) (g.G.Graph.rows a.graph) a.ordering.now a.labels.now.words a.free a.j.0 a.k c.loop-i.i in
    (c.is_some.result ≡ true → T test) × (c.is_some.result ≡ false → T test → ⊥)
starts g c =
    let a = c.args in
    let k = search_of a.labels.now.kind.0 in
    let front = front_at (g.G.Graph.rows a.graph) a.ordering.now a.free c.loop-i.i a.j.0 c.vertex_at-a.ensures c.vertex_at-b.ensures c.front_of-front.ensures in
    let mine =
    label_of k (get_or a.labels.now.words c.vertex_at-b.result.0 0) (made g (goal.at.After-is_some g c).After-profile-mine) ∙ ap (λ (v : ℕ). get_or a.labels.now.words v 0) c.vertex_at-b.ensures in
    let told = sought {x = first_below 64 (completes_in k a.labels.now.words c.front_of-front.result c.loop-i.i c.profile-mine.result.label)} c.first_by_number.result c.first_by_number.ensures c.is_some.ensures in (
      λ t. first_there k (g.G.Graph.rows a.graph) a.ordering.now a.labels.now.words a.free a.k a.j.0 c.loop-i.i front mine c.requires refl (told.0 t),
      λ f. first_nowhere k (g.G.Graph.rows a.graph) a.ordering.now a.labels.now.words a.free a.k a.j.0 c.loop-i.i front mine c.requires refl (told.1 f),
    )

pub returns-then-is_some : goal.returns-then-is_some
returns-then-is_some g c =
    (first_found c.loop-i.invariant (is_true _ ((starts g (goal.at.returns-then-is_some g c).After-is_some).0 c.if-is_some.true)), c.loop-i-test.true)

pub loop-i-preserved : goal.loop-i-preserved
loop-i-preserved g c =
    passed_more c.loop-i.invariant c.loop-i-test.true (is_false _ ((starts g (goal.at.loop-i-preserved g c).After-is_some).1 c.if-is_some.false))

pub returns : goal.returns
returns g c = sym (first_unfound c.loop-i.invariant c.loop-i-test.false)
