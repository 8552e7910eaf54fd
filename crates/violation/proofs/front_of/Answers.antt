-- `violation::front_of` meets its contract.
-- Assumes nothing.
use Prim.Native.Nat.{ℕ}
use mathlib.Core.Path.{sym, ap, ◌∙◌}
use lib.ListN.{get_or}
use Rattle.bitset.specs.Word.{member, common}
use Rattle.bitset.proofs.Tests.{said_true, said_false, cond_yes, cond_no}
use Rattle.searches.specs.Ordering.{arcs}
use Rattle.violation.specs.Fault.{front_in}
use Rattle.violation.proofs.front_of.Goals as goal

pub returns-then-contains : goal.returns-then-contains
unfolding front_in arcs
returns-then-contains g c =
    let a = c.args in
    let row = get_or (g.G.Graph.rows a.graph) a.a.0 0 in
    let e = c.contains.ensures ∙ ap (λ (x : ℕ). member x a.b.0) c.row-row.ensures in
    sym (cond_yes (member row a.b.0) 0 (common row a.free) (said_true (member row a.b.0) e c.if-contains.true))

pub returns-else-contains : goal.returns-else-contains
unfolding front_in arcs
returns-else-contains g c =
    let a = c.args in
    let row = get_or (g.G.Graph.rows a.graph) a.a.0 0 in
    let e = c.contains.ensures ∙ ap (λ (x : ℕ). member x a.b.0) c.row-row.ensures in
    c.common.ensures ∙ ap (λ (x : ℕ). common x a.free) c.row-row.ensures
    ∙ sym (cond_no (member row a.b.0) 0 (common row a.free) (said_false (member row a.b.0) e c.if-contains.false))
