-- `violation::first_violation` meets its contract: the two searches found what is shown.
-- Assumes nothing.
use Prim.Native.Nat.{ℕ, ◌<◌}
use mathlib.Core.Path.{◌≡◌, sym, ap, ◌∙◌}
use native.Mathlib.Omega.{arith}
use lib.Dec.{T}
use lib.ListN.{get_or}
use Rattle.bitset.proofs.Passed.{none_found}
use Rattle.searches.specs.Kind.{search_of}
use Rattle.searches.specs.Ordering.{at}
use Rattle.searches.specs.Answer.{verdict_of}
use Rattle.labels.specs.Words.{profile_of}
use Rattle.labels.proofs.Profiles.{label_of, profile_own, profile_kept}
use Rattle.violation.specs.Fault.{front_in, first_in}
use Rattle.violation.proofs.Completing.{front_at, last_third, last_vertex}
use Rattle.violation.proofs.Searching.{first_starts, shown}
use Rattle.violation.proofs.first_violation.Goals as goal
use Rattle.violation.proofs.first_violation.Given.{Over}
use Rattle.violation.proofs.first_violation.Goals.{In-Some, After-profile-mine}

-- the position that the first search found
starts : (g : Over) (c : In-Some g)
    → let a = c.args in
    let i = c.in-Some.i.0 in
    (i < a.j.0) × T (first_in (search_of a.labels.now.kind.0) (g.G.Graph.rows a.graph) a.ordering.now a.labels.now.words a.free a.j.0 a.k i)
starts g c =
    let a = c.args in
    first_starts (search_of a.labels.now.kind.0) (g.G.Graph.rows a.graph) a.ordering.now a.labels.now.words a.free a.j.0 a.k c.in-Some.i.0 c.requires.1 c.in-Some.ensures.0

pub vertex_at-a-requires : goal.vertex_at-a-requires
vertex_at-a-requires g c = omega (arith, (starts g c).0, c.requires.0.inside, c.requires.0.long)

pub profile-mine-requires : goal.profile-mine-requires
profile-mine-requires g c =
    omega (arith, c.vertex_at-b.ensures, c.requires.0.small, c.requires.0.vertices c.args.j.0 c.requires.0.inside)

-- what was looked at of the vertex is the profile of its label
made : (g : Over) (c : After-profile-mine g)
    → let a = c.args in
    c.profile-mine.result ≡ profile_of (search_of a.labels.now.kind.0) (get_or a.labels.now.words c.vertex_at-b.result.0 0)
made g c =
    profile_kept (search_of c.args.labels.now.kind.0) c.args.labels.now.weighed c.vertex_at-b.result.0 c.profile-mine.ensures

pub first_last-requires : goal.first_last-requires
first_last-requires g c =
    let a = c.args in (
      record {
        long = c.requires.0.long;
        inside = c.requires.0.inside;
        bit = omega (arith, (starts g (goal.at.first_last-requires g c).In-Some).0, c.requires.0.inside, c.requires.0.fits, c.requires.0.small);
      },
      profile_own (search_of a.labels.now.kind.0) (get_or a.labels.now.words c.vertex_at-b.result.0 0) (made g c),
    )

-- the front and the label that it goes by are those of the vertices at the two positions
seen : (g : Over) (c : After-profile-mine g)
    → let a = c.args in
    (c.front_of-front.result ≡ front_in (g.G.Graph.rows a.graph) a.free (at a.ordering.now c.in-Some.i.0) (at a.ordering.now a.j.0))
    × (c.profile-mine.result.label ≡ get_or a.labels.now.words (at a.ordering.now a.j.0) 0)
seen g c =
    let a = c.args in (
      front_at (g.G.Graph.rows a.graph) a.ordering.now a.free c.in-Some.i.0 a.j.0 c.vertex_at-a.ensures c.vertex_at-b.ensures c.front_of-front.ensures,
      label_of (search_of a.labels.now.kind.0) (get_or a.labels.now.words c.vertex_at-b.result.0 0) (made g c)
          ∙ ap (λ (v : ℕ). get_or a.labels.now.words v 0) c.vertex_at-b.ensures,
    )

pub unreachable-requires-in_default-first_last : goal.unreachable-requires-in_default-first_last
unreachable-requires-in_default-first_last g c =
    let a = c.args in
    let is = seen g (goal.at.unreachable-requires-in_default-first_last g c).After-profile-mine in
    let vertex =
    last_vertex (search_of a.labels.now.kind.0) (g.G.Graph.rows a.graph) a.ordering.now a.labels.now.words a.free a.k a.j.0 c.in-Some.i.0 is.0 is.1
    c.requires.0 (starts g (goal.at.unreachable-requires-in_default-first_last g c).In-Some).1
    in
    omega (arith, vertex, c.in_default-first_last.ensures, c.requires.0.small)

pub returns : goal.returns
unfolding verdict_of
returns g c =
    let a = c.args in
    let k = search_of a.labels.now.kind.0 in
    let i = c.in-Some.i.0 in
    let is = seen g (goal.at.returns g c).After-profile-mine in
    shown k (g.G.Graph.rows a.graph) a.ordering.now a.labels.now.words a.free a.j.0 a.k i c.in-Some.ensures.0 c.vertex_at-a.ensures c.vertex_at-b.ensures
    (last_third k (g.G.Graph.rows a.graph) a.ordering.now a.labels.now.words a.free a.k a.j.0 i is.0 is.1 c.requires.0 c.in-Some-first_last.ensures
    (starts g (goal.at.returns g c).In-Some).1)

pub unreachable-requires : goal.unreachable-requires
unreachable-requires g c = none_found _ _ c.args.j.0 (sym c.in_default.ensures) (omega arith) c.requires.1
