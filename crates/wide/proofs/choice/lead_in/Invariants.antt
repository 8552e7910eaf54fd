-- `choice::lead_in` meets its contract: the lead leads what `first` leads and the vertices taken out of the word. The measure is the word that is left.
use Rattle.searches.specs.Kind.{search_of}
use Rattle.wide.proofs.Leading.{Joined}
use Rattle.wide.proofs.choice.lead_in.Given as goal

abbrev pub invariant-loop-rest : goal.invariant-loop-rest
invariant-loop-rest l = Joined (search_of l.labels.kind.0) l.labels.words l.ranks l.initial.lead.0 l.word l.i l.lead.0 l.rest

abbrev pub decreases-loop-rest : goal.decreases-loop-rest
decreases-loop-rest l = l.rest
