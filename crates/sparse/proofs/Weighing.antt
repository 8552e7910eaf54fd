-- The weight of a label in MCS without the columns of the graph: the ones of the label itself.
--   own_tally         a label is counted as a column of its own, all of which is placed
-- Assumes nothing.
use Prim.Native.Nat.{ℕ, ◌-◌, ◌^◌}
use mathlib.Core.Path.{◌≡◌, sym, ap, ◌∙◌}
use mathlib.Core.Bool.{Bool, ◌&&◌}
use mathlib.Core.List.{List, [], ◌∷◌}
use lib.Dec.{lt→ltb}
use Rattle.bitset.specs.Below.{count_below}
use Rattle.bitset.specs.Word.{member, common}
use Rattle.bitset.proofs.Tests.{is_true, and_true}
use Rattle.bitset.proofs.Count.{count_same}
use Rattle.bitset.proofs.Word.{member_common, member_ones}
use Rattle.lookup.specs.Columns.{tally}

-- the ones of a label are those of a column of its own
own_tally : (label : ℕ) → tally (label ∷ []) (2 ^ 64 - 1) 0 ≡ count_below 64 (member label)
unfolding tally
own_tally label =
    count_same 64 (member (common label (2 ^ 64 - 1))) (member label) (λ p l.
    member_common label (2 ^ 64 - 1) p ∙ ap (λ (b : Bool). member label p && b) (member_ones 64 p ∙ is_true _ (lt→ltb p 64 l)) ∙ sym (and_true (member label p)))
