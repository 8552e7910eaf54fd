-- `chordal::gap::joined` meets its contract: the bit of the one vertex in the row of the other.
-- Assumes nothing.
use Prim.Native.Nat.{ℕ}
use mathlib.Core.Path.{◌∙◌, ap, ap₂}
use lib.ListN.{get_or}
use Rattle.bitset.specs.Word.{member}
use Rattle.searches.specs.Ordering.{arcs}
use Rattle.chordal.proofs.gap.joined.Goals as goal

pub returns : goal.returns
unfolding arcs
returns c =
    let a = c.args in
    c.contains.ensures
    ∙ ap₂ member (c.row_of.ensures ∙ ap (λ (u : ℕ). get_or a.rows.now u 0) c.vertex_at.ensures)
    c.vertex_at-v.ensures
