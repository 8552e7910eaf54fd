-- `wide::extend` meets its contract: a start that does not pass is refused, any other is filled up from its end on.
-- Assumes nothing.
use mathlib.Core.Path.{◌≡◌, refl, sym, ap, ◌∙◌}
use mathlib.Core.Bool.{Bool, true, cond}
use mathlib.Core.List.{◌++◌}
use mathlib.Core.Option.{Option, none, some}
use Prim.Native.Nat.{ℕ}
use lib.ListN.{take, drop}
use Rattle.searches.specs.Kind.{search_of}
use Rattle.searches.specs.Table.{arcs_wide}
use Rattle.searches.specs.Violation.{judge}
use Rattle.searches.specs.CarryOn.{carry_on}
use Rattle.searches.specs.Answer.{is_pass, refusal_of, number}
use Rattle.wide.proofs.Staging.{stored_start}
use Rattle.wide.proofs.Calls.{stopped_fails, ended_passes, begun_ended, filled_carried}
use Rattle.wide.proofs.extend.Goals as goal

pub invariant_of-labels : goal.invariant_of-labels
invariant_of-labels c = record { stored = stored_start _ refl refl refl refl }

pub returns-then-start-k : goal.returns-then-start-k
unfolding refusal_of number
returns-then-start-k c =
    let a = c.args in
    let r = c.replay-start in
    let e = stopped_fails (search_of a.kind.0) (arcs_wide 8 a.graph.now.table.now) a.graph.now.n a.output.now a.k c.requires.1 r.result r.ensures.count c.if-start-k.true in
    record {
      answer = sym (ap (λ (x : Bool). cond {A = Option ℕ} x none (some 12)) e);
      output = sym (ap (λ (x : Bool). cond x (carry_on (search_of a.kind.0) (arcs_wide 8 a.graph.now.table.now) a.graph.now.n a.tie_break.now a.output.now a.k ++ drop a.graph.now.n a.output.now) a.output.now) e);
    }

pub fill-requires : goal.fill-requires
fill-requires c =
    let a = c.args in
    let r = c.replay-start in
    rw r.ensures.kind
    (take a.k a.output.now, begun_ended (search_of a.kind.0) a.graph.now.mark a.graph.now.table.now a.graph.now.n a.tie_break.now a.output.now a.k c.requires.1 c.requires.0 c.requires.2 c.args.graph.now.valid r.ensures.count c.if-start-k.false r.ensures.staged)

pub returns : goal.returns
unfolding refusal_of is_pass
returns c =
    let a = c.args in
    let r = c.replay-start in
    let filled = rw r.ensures.kind at c.fill.ensures in
    let p = ended_passes (search_of a.kind.0) (arcs_wide 8 a.graph.now.table.now) a.graph.now.n a.output.now a.k c.requires.1 r.result r.ensures.count c.if-start-k.false in
    let e : is_pass (judge (search_of a.kind.0) (arcs_wide 8 a.graph.now.table.now) a.graph.now.n a.output.now a.k) ≡ true = ap is_pass p in record {
      answer = sym (ap (λ (x : Bool). cond {A = Option ℕ} x none (some 12)) e);
      output = filled_carried (search_of a.kind.0) a.graph.now.mark a.graph.now.table.now a.graph.now.n a.tie_break.now a.output.now a.k c.requires.1 c.requires.0 c.requires.2 p
          (filled (take a.k a.output.now) (begun_ended (search_of a.kind.0) a.graph.now.mark a.graph.now.table.now a.graph.now.n a.tie_break.now a.output.now a.k c.requires.1 c.requires.0 c.requires.2 c.args.graph.now.valid r.ensures.count c.if-start-k.false r.ensures.staged))
          ∙ sym (ap (λ (x : Bool). cond x (carry_on (search_of a.kind.0) (arcs_wide 8 a.graph.now.table.now) a.graph.now.n a.tie_break.now a.output.now a.k ++ drop a.graph.now.n a.output.now) a.output.now) e);
    }
