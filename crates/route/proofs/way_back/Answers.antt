-- `route::way_back` meets its contract: refused as the tests say, else the way is written, as long as it is deep.
-- Assumes nothing.
use mathlib.Core.Path.{◌≡◌, sym, ap, ap₂, ◌∙◌}
use mathlib.Core.List.{List, ◌++◌}
use mathlib.Core.Option.{none}
use Prim.Native.Nat.{ℕ, ◌+◌, ◌≤◌, ◌<◌}
use native.Mathlib.Omega.{arith}
use lib.ListN.{length, drop}
use Rattle.std.proofs.lemmas.Result.{err_from_is_err_and}
use Rattle.searches.specs.Ordering.{arcs}
use Rattle.searches.specs.Answer.{first_refusal, refusal_of}
use Rattle.searches.proofs.Refusals.{none_accepts}
use Rattle.route.specs.Tree.{path_down}
use Rattle.route.specs.WayBack.{way_to, way_tests, Traceable, points, way_of}
use Rattle.route.proofs.Standing.{placed_stands}
use Rattle.route.proofs.Tracing.{way_found, traceable_out, room_enough, way_refused, way_accepted}
use Rattle.route.proofs.way_back.Goals as goal
use Rattle.route.proofs.way_back.Goals.{After-depth-count, In_ok-position}

pub returns-in_err-position : goal.returns-in_err-position
unfolding way_of refusal_of
returns-in_err-position c =
    let a = c.args in
    let p = err_from_is_err_and c.from_residual.result c.from_residual.ensures.1 in
    let whole = way_refused a.mark a.rows.now a.ordering.now a.vertex.0 a.output.now _ c.in_err-position.ensures.refusal in
    record { answer = rw (p.1, p.2) whole.0; output = whole.1 }

accepted : (c : In_ok-position)
    → let a = c.args in
    none ≡ first_refusal (way_tests a.mark a.rows.now a.ordering.now a.vertex.0 (length a.output.now))
unfolding refusal_of
accepted c = c.in_ok-position.ensures.refusal

able : (c : In_ok-position)
    → let a = c.args in
    Traceable a.mark a.rows.now a.ordering.now a.vertex.0 (length a.output.now)
able c =
    let a = c.args in
    traceable_out a.mark a.rows.now a.ordering.now a.vertex.0 (length a.output.now) (none_accepts _ (sym (accepted c)))

-- the vertex stands where it was found
inside : (c : In_ok-position) → c.in_ok-position.position.0 < length c.args.ordering.now
inside c = omega (arith, c.in_ok-position.ensures.position, (placed_stands _ _ (able c).stands).0)

pub depth-count-requires : goal.depth-count-requires
depth-count-requires c = inside (goal.at.depth-count-requires c).In_ok-position

-- what is written is the way, and so many it has
found : (c : After-depth-count)
    → let a = c.args in
    (c.depth-count.result + 1 ≡ length (way_to (arcs a.rows.now) a.ordering.now a.vertex.0))
    × (path_down (arcs a.rows.now) a.ordering.now c.in_ok-position.position.0 (c.depth-count.result + 1)
    ≡ way_to (arcs a.rows.now) a.ordering.now a.vertex.0)
found c = way_found _ _ _ c.in_ok-position.ensures.position c.depth-count.ensures

-- and they fit the output list
room : (c : After-depth-count) → c.depth-count.result + 1 ≤ length c.args.output.now
room c = omega (arith, (found c).0, room_enough _ _ _ _ _ (able (goal.at.After-depth-count c).In_ok-position))

pub overflow_add-count : goal.overflow_add-count
overflow_add-count c = omega (arith, room c)

pub write_path-requires : goal.write_path-requires
write_path-requires c = record {
  position_in_bounds = inside (goal.at.write_path-requires c).In_ok-position;
  count_in_bounds = room (goal.at.write_path-requires c).After-depth-count;
}

pub returns : goal.returns
unfolding way_of
returns c =
    let a = c.args in
    let last = way_accepted a.mark a.rows.now a.ordering.now a.vertex.0 a.output.now (accepted (goal.at.returns c).In_ok-position) in record {
      answer = ap points (found (goal.at.returns c).After-depth-count).0 ∙ last.0;
      output = c.write_path.ensures
          ∙ ap₂ (λ (way : List ℕ) (m : ℕ). way ++ drop m a.output.now) (found (goal.at.returns c).After-depth-count).1 (found (goal.at.returns c).After-depth-count).0 ∙ last.1;
    }
