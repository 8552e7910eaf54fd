-- `wide::compare::is_ahead` meets its contract: in MNS a label that has no more positions is not ahead; else it is asked how the two stand.
-- Assumes nothing.
use mathlib.Core.Path.{◌≡◌, sym, ap, ◌∙◌}
use mathlib.Core.Bool.{Bool}
use Prim.Native.Nat.{ℕ, ◌<◌}
use native.Mathlib.Omega.{arith}
use lib.ListN.{get_or}
use Rattle.bitset.specs.Below.{count_below}
use Rattle.searches.specs.Kind.{search_of}
use Rattle.searches.specs.Label.{outranks}
use Rattle.searches.specs.Comparison.{is_ahead}
use Rattle.searches.proofs.Comparing.{ahead_told}
use Rattle.searches.proofs.ByNumbers.{upto_ahead}
use Rattle.labels.proofs.Comparison.{of_kind}
use Rattle.tables.specs.Rows.{row_of}
use Rattle.wide.specs.Store.{weight_in}
use Rattle.wide.proofs.Equal.{equal_told, same_ahead}
use Rattle.wide.proofs.compare.is_ahead.Goals as goal
use Rattle.wide.proofs.compare.is_ahead.Goals.{Start}

-- a label
abbrev row : Start → ℕ → ℕ → Bool
row s = row_of s.args.labels.now.words

-- in MNS the weights are the counts
counts : (s : Start) → s.args.labels.now.kind.0 ≡ 5 → (v : ℕ) → v < 512 → get_or s.args.labels.now.weights v 0 ≡ count_below 512 (row s v)
unfolding weight_in search_of
counts s e v l = s.args.labels.now.stored.weighed.is v l ∙ ap (λ (k : ℕ). weight_in (search_of k) 512 (row s v)) e

pub returns-then-labels-first : goal.returns-then-labels-first
unfolding search_of
returns-then-labels-first c =
    let e : c.args.labels.now.kind.0 ≡ 5 = equal_told c.eq.ensures c.if-eq.true in
    of_kind (λ k. outranks k 512 (row (goal.at.returns-then-labels-first c).Start c.args.c.0) (row (goal.at.returns-then-labels-first c).Start c.args.b.0)) e
    (sym (upto_ahead 512 (row (goal.at.returns-then-labels-first c).Start c.args.c.0) (row (goal.at.returns-then-labels-first c).Start c.args.b.0)
    (omega (arith, c.if-labels-first.true, counts (goal.at.returns-then-labels-first c).Start e c.args.c.0 c.requires.0, counts (goal.at.returns-then-labels-first c).Start e c.args.b.0 c.requires.1))))

pub returns : goal.returns
returns c =
    c.eq-2.ensures ∙ same_ahead c.compare.result ∙ ap is_ahead c.compare.ensures
    ∙ ahead_told (search_of c.args.labels.now.kind.0) 512 (row (goal.at.returns c).Start c.args.c.0) (row (goal.at.returns c).Start c.args.b.0)
