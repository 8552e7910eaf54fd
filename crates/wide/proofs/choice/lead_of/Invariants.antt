-- `choice::lead_of` meets its contract: the lead leads the first vertex and those of the words passed.
use Prim.Native.Nat.{◌≤◌}
use Rattle.searches.specs.Kind.{search_of}
use Rattle.wide.specs.Choice.{Leads}
use Rattle.wide.proofs.Leading.{up_to}
use Rattle.wide.proofs.choice.lead_of.Given as goal

abbrev pub invariant-loop-i : goal.invariant-loop-i
invariant-loop-i l = (l.i ≤ 8) × Leads (search_of l.labels.kind.0) l.labels.words l.ranks (up_to (search_of l.labels.kind.0) l.labels.words l.ranks l.set l.initial.lead.0 l.i) l.lead.0
