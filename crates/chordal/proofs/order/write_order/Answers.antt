-- `chordal::order::write_order` meets its contract: carry-on refuses nothing, and leaves a LexDFS ordering.
-- Assumes nothing.
use Prim.Native.Nat.{ℕ, ◌≤◌}
use mathlib.Core.Path.{sym, ap, ◌∙◌, subst}
use mathlib.Core.List.{List}
use native.Mathlib.Omega.{arith}
use lib.ListN.{length, take}
use lib.Seq.{length-take-le}
use Rattle.searches.specs.Kind.{lex_dfs, kind_of}
use Rattle.searches.specs.Ordering.{IsFullOrdering}
use Rattle.searches.specs.declared.Mark.{Mark}
use Rattle.searches.proofs.Answers.{valid_small}
use Rattle.searches.proofs.DemandsBarring.{output_stays}
use Rattle.chordal.specs.Lists.{Ordered}
use Rattle.chordal.proofs.Listing.{listed_length}
use Rattle.chordal.proofs.LexDfs.{numbers_full, ordered}
use Rattle.chordal.proofs.order.write_order.Goals as goal
use Rattle.chordal.proofs.order.write_order.Goals.{After-write_numbers}

small : (c : After-write_numbers) → length c.args.rows.now ≤ 64
small c = valid_small (kind_of lex_dfs) Mark.TwoWay _ c.requires.0

-- 64 numbers are written
long : (c : After-write_numbers) → length c.args.rows.now ≤ length c.write_numbers.new.list
long c = omega (arith, small c, ap length c.write_numbers.ensures ∙ listed_length 64 (λ v. v))

pub slice_bounds-numbers-end : goal.slice_bounds-numbers-end
slice_bounds-numbers-end c = long c

pub slice_bounds-carry_on-end : goal.slice_bounds-carry_on-end
slice_bounds-carry_on-end c = sym (length-take-le _ _ (long (goal.at.slice_bounds-carry_on-end c).After-write_numbers))

pub returns : goal.returns
unfolding kind_of
returns c =
    let rows = c.args.rows.now in
    let names = subst (λ (l : List ℕ). IsFullOrdering (length rows) (take (length rows) l)) (sym c.write_numbers.ensures) (numbers_full (length rows) 64 (small (goal.at.returns c).After-write_numbers)) in
    let out = c.args.ordering.now in
    let t = take (length rows) c.write_numbers.new.list in record {
      ordering = subst (λ (w : List ℕ). Ordered rows w) (sym c.carry_on.ensures.output) (ordered rows c.requires.0 t out names (omega (arith, small (goal.at.returns c).After-write_numbers, c.requires.1)));
      length = ap length c.carry_on.ensures.output ∙ (output_stays (kind_of lex_dfs) Mark.TwoWay rows 0 t out 0).2 ∙ c.requires.1;
    }
