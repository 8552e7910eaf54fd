-- `wide::compare::compare` meets its contract: LexBFS and LexDFS by what one label has and the other has not, MNS by inclusions, the others by the weights.
-- Assumes nothing.
use mathlib.Core.Path.{sym, ap, ◌∙◌}
use mathlib.Core.Bool.{Bool}
use Prim.Native.Nat.{ℕ}
use Rattle.searches.specs.Kind.{search_of}
use Rattle.searches.specs.Comparison.{compared}
use Rattle.searches.specs.declared.Comparison.{Comparison}
use Rattle.searches.proofs.ByNumbers.{lex_bfs_compared, lex_dfs_compared, mns_compared}
use Rattle.tables.specs.Rows.{row_of}
use Rattle.wide.proofs.Comparing.{weights_compared}
use Rattle.wide.proofs.Equal.{equal_told, unequal_told}
use Rattle.wide.proofs.compare.compare.Goals as goal
use Rattle.wide.proofs.compare.compare.Goals.{Start}

-- the two labels
abbrev ours : Start → ℕ → Bool
ours s = row_of s.args.labels.now.words s.args.c.0

abbrev theirs : Start → ℕ → Bool
theirs s = row_of s.args.labels.now.words s.args.b.0

-- how they stand in the search that a byte names
abbrev of_byte : Start → ℕ → Comparison
of_byte s k = compared (search_of k) 512 (ours s) (theirs s)

pub returns-then-eq : goal.returns-then-eq
unfolding search_of row_of
returns-then-eq c =
    c.told_by.ensures ∙ lex_bfs_compared 512 (ours (goal.at.returns-then-eq c).Start) (theirs (goal.at.returns-then-eq c).Start) c.first_only-ours.ensures c.first_only-theirs.ensures
    ∙ ap (of_byte (goal.at.returns-then-eq c).Start) (sym (equal_told c.eq.ensures c.if-eq.true))

pub returns-then-eq-2 : goal.returns-then-eq-2
unfolding search_of row_of
returns-then-eq-2 c =
    c.told_by-then-eq-2.ensures ∙ lex_dfs_compared 512 (ours (goal.at.returns-then-eq-2 c).Start) (theirs (goal.at.returns-then-eq-2 c).Start) c.last_only-ours.ensures c.last_only-theirs.ensures
    ∙ ap (of_byte (goal.at.returns-then-eq-2 c).Start) (sym (equal_told c.eq-2.ensures c.if-eq-2.true))

pub within-covered-requires : goal.within-covered-requires
unfolding search_of
within-covered-requires c =
    (ap search_of (equal_told c.eq-3.ensures c.if-eq-3.true), c.requires.0, c.requires.1)

pub within-covers-requires : goal.within-covers-requires
unfolding search_of
within-covers-requires c =
    (ap search_of (equal_told c.eq-3.ensures c.if-eq-3.true), c.requires.1, c.requires.0)

pub returns-then-eq-3 : goal.returns-then-eq-3
unfolding search_of row_of
returns-then-eq-3 c =
    c.told_by-then-eq-3.ensures ∙ mns_compared 512 (ours (goal.at.returns-then-eq-3 c).Start) (theirs (goal.at.returns-then-eq-3 c).Start) c.within-covers.ensures c.within-covered.ensures
    ∙ ap (of_byte (goal.at.returns-then-eq-3 c).Start) (sym (equal_told c.eq-3.ensures c.if-eq-3.true))

pub returns : goal.returns
returns c =
    c.told_by-2.ensures
    ∙ weights_compared c.args.labels.now.kind.0 (unequal_told c.eq.ensures c.if-eq.false) (unequal_told c.eq-2.ensures c.if-eq-2.false) (unequal_told c.eq-3.ensures c.if-eq-3.false) (ours (goal.at.returns c).Start) (theirs (goal.at.returns c).Start)
    (c.args.labels.now.stored.weighed.is c.args.c.0 c.requires.0) (c.args.labels.now.stored.weighed.is c.args.b.0 c.requires.1)
