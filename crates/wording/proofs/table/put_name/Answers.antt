-- `wording::table::put_name` meets its contract: what is written is the name of the kind's search.
-- Assumes nothing.
use mathlib.Core.Path.{sym, ap, ◌∙◌}
use mathlib.Core.List.{List}
use Prim.Native.Nat.{ℕ, ◌+◌}
use native.Mathlib.Omega.{arith}
use lib.ListN.{length}
use lib.Seq.{sets, length-take-le}
use Rattle.searches.specs.Kind.{search_of}
use Rattle.wording.specs.Text.{bytes}
use Rattle.wording.proofs.Named.{row_long, row_named, name_short}
use Rattle.wording.proofs.table.put_name.Goals as goal

pub slice_bounds-row-end : goal.slice_bounds-row-end
unfolding bytes
slice_bounds-row-end c = row_long c.args.kind.0 c.requires.0

pub slice_bounds-put-end : goal.slice_bounds-put-end
unfolding bytes
slice_bounds-put-end c = sym (length-take-le _ _ (row_long c.args.kind.0 c.requires.0))

pub put-requires : goal.put-requires
unfolding bytes
put-requires c =
    omega (arith, c.requires.1, ap length (row_named c.args.kind.0 c.requires.0), name_short (search_of c.args.kind.0))

pub returns : goal.returns
unfolding bytes
returns c =
    let is = row_named c.args.kind.0 c.requires.0 in record {
      output = c.put.ensures.output ∙ ap (λ (x : List ℕ). sets c.args.output.now 0 x) is;
      end = c.put.ensures.end ∙ ap (λ (x : List ℕ). 0 + length x) is ∙ omega arith;
    }
