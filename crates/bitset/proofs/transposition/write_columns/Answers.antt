-- `bitset::transposition::write_columns` meets its contract: the rows are copied into an empty square, which is transposed.
-- Assumes nothing.
use Prim.Native.Nat.{ℕ}
use mathlib.Core.Path.{◌≡◌, sym, ap, ◌∙◌, subst}
use mathlib.Core.List.{List, ◌++◌}
use lib.ListN.{length, drop, replicate}
use Rattle.bitset.specs.Matrix.{Inside, Transpose}
use Rattle.bitset.proofs.Columns.{copied_inside, turned_columns}
use Rattle.bitset.proofs.transposition.write_columns.Goals as goal
use Rattle.bitset.proofs.transposition.write_columns.Goals.{After-copy}

pub copy-requires : goal.copy-requires
copy-requires c = (c.requires.0.small, ap length c.requires.1)

-- the square before it is transposed
copied : (c : After-copy) → c.copy.new.copy ≡ c.args.rows.now ++ drop (length c.args.rows.now) (replicate 64 0)
copied c =
    let rows = c.args.rows.now in
    c.copy.ensures ∙ ap (λ (empty : List ℕ). rows ++ drop (length rows) empty) c.requires.1

pub transpose-requires : goal.transpose-requires
transpose-requires c =
    (c.requires.0.small, subst (λ (square : List ℕ). Inside (length c.args.rows.now) square) (sym (copied (goal.at.transpose-requires c).After-copy)) (copied_inside c.args.rows.now c.requires.0))

pub returns : goal.returns
returns c =
    turned_columns c.args.rows.now c.requires.0 (subst (λ (square : List ℕ). Transpose square c.transpose.new.words) (copied (goal.at.returns c).After-copy) c.transpose.ensures)
