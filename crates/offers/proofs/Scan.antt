-- Going through the free vertices from the smallest on, in search of a label that is ahead of `mine`.
--   Scanned s labels free mine rest   what is left of `free` is `rest`, and what was taken out is not ahead of `mine`
--   closed_outside, open_unbeaten     who is open
-- Assumes nothing.
use mathlib.Core.Path.{◌≡◌, sym, ap, ◌∙◌}
use mathlib.Core.Bool.{Bool, false, not, ◌&&◌}
use mathlib.Core.List.{List}
use Prim.Native.Nat.{ℕ}
use lib.Dec.{T}
use lib.ListN.{get_or}
use Rattle.bitset.specs.Word.{member}
use Rattle.bitset.proofs.Tests.{and_out, is_true, is_false}
use Rattle.bitset.proofs.Scan as scan
use Rattle.searches.specs.Kind.{Search}
use Rattle.labels.specs.Words.{ahead_in}
use Rattle.offers.specs.Open.{beaten_in, open_in}

abbrev pub Scanned : Search → List ℕ → ℕ → ℕ → ℕ → Type 0
Scanned s labels free mine rest = scan.Scanned 64 free (λ u. ahead_in s (get_or labels u 0) mine) rest

module _ (s : Search) (labels : List ℕ) (free : ℕ) where
  pub closed_outside : (v : ℕ) → (T (member free v) → ⊥) → false ≡ open_in s labels free v
  unfolding open_in
  closed_outside v out = sym (is_false (open_in s labels free v) (λ t. out (and_out (member free v) (not (beaten_in s labels free (get_or labels v 0))) t).0))

  pub open_unbeaten : (v : ℕ) (r : Bool) → T (member free v) → r ≡ beaten_in s labels free (get_or labels v 0) → not r ≡ open_in s labels free v
  unfolding open_in
  open_unbeaten v r t e = ap not e ∙ ap (λ (b : Bool). b && not (beaten_in s labels free (get_or labels v 0))) (sym (is_true (member free v) t))
