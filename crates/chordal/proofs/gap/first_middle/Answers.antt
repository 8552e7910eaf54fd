-- `chordal::gap::first_middle` meets its contract: no position that was passed is the middle one of a gap, and the set holds the vertices before.
-- Assumes nothing.
use Prim.Native.Nat.{ℕ, ◌+◌, ◌<◌}
use mathlib.Core.Path.{◌≡◌, sym, ap, ap₂, ◌∙◌, subst}
use mathlib.Core.Bool.{Bool, not, ◌&&◌}
use native.Mathlib.Omega.{arith}
use lib.ListN.{get_or}
use Rattle.bitset.specs.Below.{within}
use Rattle.bitset.specs.Word.{member, inserted, common}
use Rattle.bitset.proofs.Passed.{passed_start, passed_more, first_found, first_unfound}
use Rattle.searches.specs.Ordering.{arcs, at}
use Rattle.lookup.proofs.Seen.{Seen, seen_none, seen_more}
use Rattle.chordal.specs.Descent.{is_middle, first_middle}
use Rattle.chordal.proofs.Gaps.{middle_told}
use Rattle.chordal.proofs.gap.first_middle.Goals as goal
use Rattle.chordal.proofs.gap.first_middle.Goals.{After-subset-filled}

pub vertex_at-requires : goal.vertex_at-requires
vertex_at-requires c = omega (arith, c.requires.0.all.long, c.requires.1)

pub loop-j-init : goal.loop-j-init
loop-j-init c = (passed_start _ _, seen_none _)

pub vertex_at-vertex-requires : goal.vertex_at-vertex-requires
vertex_at-vertex-requires c = omega (arith, c.requires.0.all.long, c.requires.1)

-- what is asked is whether the position is the middle one of a gap
asked : (c : After-subset-filled)
    → let a = c.args in
    (c.contains-linked.result && not c.subset-filled.result)
    ≡ is_middle (arcs a.rows.now) a.ordering.now a.top.0 c.loop-j.j
asked c =
    let last = c.row_of-last.ensures ∙ ap (λ (u : ℕ). get_or c.args.rows.now u 0) c.vertex_at.ensures in
    let vertex = c.vertex_at-vertex.ensures in
    ap₂ (λ (x y : Bool). x && not y)
    (c.contains-linked.ensures ∙ ap₂ member last vertex)
    (c.subset-filled.ensures
    ∙ ap₂ (λ (x y : ℕ). within 64 (member x) (member y)) (c.common.ensures ∙ ap (λ (r : ℕ). common r c.loop-j.before) last)
    (c.row_of.ensures ∙ ap (λ (u : ℕ). get_or c.args.rows.now u 0) vertex))
    ∙ middle_told c.args.rows.now c.args.ordering.now c.requires.0 c.args.top.0 c.loop-j.j c.loop-j.before c.loop-j-test.true c.requires.1 c.loop-j.invariant.1

pub returns-then-linked-filled : goal.returns-then-linked-filled
unfolding first_middle
returns-then-linked-filled c =
    (first_found c.loop-j.invariant.0 (sym (asked (goal.at.returns-then-linked-filled c).After-subset-filled) ∙ c.if-linked-filled.true), c.loop-j-test.true)

pub loop-j-preserved : goal.loop-j-preserved
loop-j-preserved c =
    let w = c.args.ordering.now in
    let j = c.loop-j.j in
    let small : at w j < 64 = omega (arith, c.requires.0.small, c.requires.0.all.vertices j (omega (arith, c.loop-j-test.true, c.requires.1))) in (
      passed_more c.loop-j.invariant.0 c.loop-j-test.true (sym (asked (goal.at.loop-j-preserved c).After-subset-filled) ∙ c.if-linked-filled.false),
      subst (λ (set : ℕ). Seen w set (j + 1))
          (sym (c.insert-before.ensures ∙ ap (λ (v : ℕ). inserted c.loop-j.before v) c.vertex_at-vertex.ensures))
          (seen_more c.loop-j.invariant.1 small),
    )

pub returns : goal.returns
unfolding first_middle
returns c = sym (first_unfound c.loop-j.invariant.0 c.loop-j-test.false)
