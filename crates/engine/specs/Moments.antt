-- The unplaced vertices and the labels after an ordering, for a caller that continues it.
--   IsMoment kind rows barred w m    m has the unplaced vertices that are not barred, the kind, and the labels' words, after all of w
use Rattle.std.specs.Prelude.{ℕ, ◌≡◌, List, length}
use Rattle.steps.specs.Steps.{whole, labels_after, free_after}
use Rattle.engine.specs.declared.after.Moment.{Moment}

pub record IsMoment (kind : ℕ) (rows : List ℕ) (barred : ℕ) (w : List ℕ) (m : Moment) : Type 0 where
  pub free : m.free ≡ free_after (whole (length rows) barred) w (length w)
  pub of_kind : m.labels.kind.0 ≡ kind
  pub words : m.labels.words ≡ labels_after rows (whole (length rows) barred) w (length w)
