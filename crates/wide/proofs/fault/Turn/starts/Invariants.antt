-- `wide::fault::Turn::starts` meets its contract, word by word: no vertex of the words passed completes a violation.
use Rattle.bitset.proofs.Passed.{Passed}
use Rattle.searches.specs.Kind.{search_of}
use Rattle.wide.proofs.Starting.{starts_word}
use Rattle.wide.proofs.fault.Turn.starts.Given as goal

abbrev pub invariant-loop-word : goal.invariant-loop-word
invariant-loop-word l = Passed 8 (starts_word (search_of l.self.labels.now.kind.0) l.self.graph.table.now l.self.labels.now.words l.self.free.now l.i.0 l.a l.b.0) l.word
