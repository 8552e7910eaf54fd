-- The set of the entries that a loop over a list has passed, in eight words.
--   Seen w words q       the set holds just the first q entries of w
--   seen_none, seen_more    the empty set at first, then with each entry put in
--   repeated_placed      an entry stands twice where it is one of those before it
-- Assumes nothing.
use mathlib.Core.Path.{◌≡◌, refl, sym, ap, ◌∙◌}
use mathlib.Core.Bool.{Bool, ◌||◌}
use mathlib.Core.List.{List}
use Prim.Native.Nat.{ℕ, ◌+◌, ◌<◌}
use native.Mathlib.Numerals.{add-one}
use lib.Dec.{eqb}
use lib.ListN.{length, replicate}
use Rattle.bitset.specs.Below.{any_below}
use Rattle.searches.specs.Ordering.{at, placed}
use Rattle.searches.specs.Answer.{repeated}
use Rattle.tables.specs.Rows.{in_set, with_bit}
use Rattle.tables.proofs.Bits.{in_with_bit, length_with_bit, row_none}

pub record Seen (w words : List ℕ) (q : ℕ) : Type 0 where
  pub size : length words ≡ 8
  pub members : (v : ℕ) → v < 512 → in_set words v ≡ placed w q v

pub seen_none : (w : List ℕ) → Seen w (replicate 8 0) 0
unfolding in_set placed any_below
seen_none w = record { size = refl; members = λ v _. row_none 0 v 8 }

pub seen_more : {w words : List ℕ} {q : ℕ} → Seen w words q → at w q < 512 → Seen w (with_bit words 0 (at w q)) (q + 1)
unfolding placed any_below
seen_more {w} {words} {q} s small = record {
  size = length_with_bit words 0 (at w q) ∙ s.size;
  members = λ v l.
      in_with_bit words (at w q) v s.size small l ∙ ap (λ (b : Bool). eqb (at w q) v || b) (s.members v l) ∙ ap (λ (m : ℕ). placed w m v) (sym (add-one q));
}

-- an entry stands twice where it is one of those before it
pub repeated_placed : (w : List ℕ) (k : ℕ) → repeated w k ≡ any_below k (λ q. placed w q (at w q))
unfolding repeated placed
repeated_placed w k = refl
