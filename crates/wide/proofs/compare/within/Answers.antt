-- `wide::compare::within` meets its contract: the label of `c` has more positions than that of `b`, or what it alone has is looked for.
-- Assumes nothing.
use mathlib.Core.Path.{◌≡◌, sym, ap, ◌∙◌}
use mathlib.Core.Bool.{Bool}
use Prim.Native.Nat.{ℕ, ◌<◌}
use native.Mathlib.Omega.{arith}
use lib.Dec.{eqb}
use lib.ListN.{get_or}
use Rattle.bitset.specs.Below.{count_below}
use Rattle.searches.specs.Kind.{Search}
use Rattle.searches.proofs.ByNumbers.{within_first, fewer_within}
use Rattle.tables.specs.Rows.{row_of}
use Rattle.wide.specs.Store.{weight_in}
use Rattle.wide.proofs.compare.within.Goals as goal
use Rattle.wide.proofs.compare.within.Goals.{Start}

-- a label
abbrev row : Start → ℕ → ℕ → Bool
row s = row_of s.args.labels.now.words

-- the weights are the counts
counts : (s : Start) (v : ℕ) → v < 512 → get_or s.args.labels.now.weights v 0 ≡ count_below 512 (row s v)
unfolding weight_in
counts s v l = s.args.labels.now.stored.weighed.is v l ∙ ap (λ (x : Search). weight_in x 512 (row s v)) s.requires.0

pub returns-then-labels-b : goal.returns-then-labels-b
returns-then-labels-b c =
    sym (fewer_within 512 (row (goal.at.returns-then-labels-b c).Start c.args.b) (row (goal.at.returns-then-labels-b c).Start c.args.c)
    (omega (arith, c.if-labels-b.true, counts (goal.at.returns-then-labels-b c).Start c.args.c c.requires.1, counts (goal.at.returns-then-labels-b c).Start c.args.b c.requires.2)))

pub returns : goal.returns
unfolding row_of
returns c =
    ap (λ (x : ℕ). eqb x 512) c.first_only.ensures ∙ sym (within_first 512 (row (goal.at.returns c).Start c.args.b) (row (goal.at.returns c).Start c.args.c))
