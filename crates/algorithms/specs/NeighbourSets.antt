-- Labels of algorithms 6 and 7: the label of a vertex is the set of the numbers of its numbered neighbours. The start vertex is picked first
-- because it begins with 0, which is nobody's number, as in line 2 of algorithm 5 of document 001.
-- Restart: as in Labelling, no rule is needed, since the empty set is the smallest.
--   set_labels larger     sets of numbers, compared by `larger`
use Rattle.std.specs.Prelude.{ℕ, Bool, false, ◌||◌, eqb}
use Rattle.algorithms.specs.Labelling.{Labels}

abbrev pub set_labels : ((ℕ → Bool) → (ℕ → Bool) → Bool) → Labels
set_labels larger = record {
  Label = ℕ → Bool;
  blank = λ i. false;
  first = λ i. eqb 0 i;
  put = λ i set j. eqb i j || set j;
  larger = larger;
}
