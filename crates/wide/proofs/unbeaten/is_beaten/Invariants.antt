-- `unbeaten::is_beaten` meets its contract: by the greatest weight, or word by word: no vertex of the words passed is ahead.
use Rattle.bitset.proofs.Passed.{Passed}
use Rattle.searches.specs.Kind.{search_of}
use Rattle.wide.proofs.Beaten.{beats_word}
use Rattle.wide.proofs.unbeaten.is_beaten.Given as goal

abbrev pub invariant-loop-i : goal.invariant-loop-i
invariant-loop-i l = Passed 8 (beats_word (search_of l.labels.kind.0) l.labels.words l.sets.free l.b.0) l.i
