-- `minutes::minutes_of` meets its contract: each turn adds what its position comes to.
-- Assumes nothing.
use mathlib.Core.Path.{◌≡◌, ◌∙◌, ap, subst}
use Prim.Native.Nat.{ℕ, ◌+◌, ◌≤◌}
use native.Mathlib.Omega.{arith}
use Rattle.searches.specs.Ordering.{arcs, at}
use Rattle.minutes.proofs.Adding.{Added, added_start, added_more, added_all, added_bounded}
use Rattle.minutes.proofs.minutes_of.Goals as goal
use Rattle.minutes.proofs.minutes_of.Goals.{After-jump_minutes-jump}

pub loop-p-init : goal.loop-p-init
loop-p-init c = added_start _ _ _

-- the total after one position more
added : (c : After-jump_minutes-jump)
    → let a = c.args in
    Added (arcs a.rows.now) a.ordering.now a.minutes.now (c.loop-p.p + 1)
    (c.loop-p.total + (c.minutes_at-own.result + c.jump_minutes-jump.result))
added c =
    let a = c.args in
    let grouped : c.loop-p.total + c.minutes_at-own.result + c.jump_minutes-jump.result ≡ c.loop-p.total + (c.minutes_at-own.result + c.jump_minutes-jump.result) =
    omega arith
    in
    subst (λ (total : ℕ). Added (arcs a.rows.now) a.ordering.now a.minutes.now (c.loop-p.p + 1) total) grouped
    (added_more _ _ _ c.loop-p.invariant c.loop-p-test.true
    (c.minutes_at-own.ensures ∙ ap (λ (v : ℕ). at a.minutes.now v) c.vertex_at-vertex.ensures) c.jump_minutes-jump.ensures)

bounded : (c : After-jump_minutes-jump)
    → c.loop-p.total + (c.minutes_at-own.result + c.jump_minutes-jump.result) ≤ 64384
bounded c =
    omega (arith, c.requires.ordering_len_bound, added_bounded (arcs c.args.rows.now) c.args.ordering.now c.args.minutes.now c.requires.by_index (added c))

pub overflow_add-total : goal.overflow_add-total
overflow_add-total c = omega (arith, bounded c)

pub overflow_add-total-in-loop-p : goal.overflow_add-total-in-loop-p
overflow_add-total-in-loop-p c = omega (arith, bounded c)

pub loop-p-preserved : goal.loop-p-preserved
loop-p-preserved c = added c

pub returns : goal.returns
returns c = added_all _ _ _ c.loop-p.invariant c.loop-p-test.false
