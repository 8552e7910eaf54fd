-- `labels::Labels::spread` meets its contract: what is left of the row makes of the labels, and of the running values beside them, what the row makes of
-- them at the start. That the weights are those of the labels is kept by the type. The measure is the word that is left.
use mathlib.Core.Path.{◌≡◌}
use Rattle.labels.proofs.Spreading.{SpreadingAll}
use Rattle.labels.proofs.Labels.spread.Given as goal

abbrev pub invariant-loop-rest : goal.invariant-loop-rest
invariant-loop-rest g l =
    let first = l.initial.self in
    let kept = l.self in
    SpreadingAll l.p l.row first.words first.smallest first.largest kept.words kept.smallest kept.largest l.rest × (kept.kind ≡ first.kind)

abbrev pub decreases-loop-rest : goal.decreases-loop-rest
decreases-loop-rest g l = l.rest
