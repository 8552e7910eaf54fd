-- Lists given entry by entry, and the rows of a relation.
--   list_of_length, list_of_at       a list given entry by entry
--   rows_of_length, rows_of_at       the rows of a relation
--   rows_of_words                   they are words
--   arcs_rows_of                    the arcs of these rows: those of the relation among the n vertices
--   columns_transposed             the columns of a graph are its rows, transposed
-- Assumes nothing.
use Prim.Native.Nat.{ℕ, zero, suc, ◌≤◌, ◌<◌, ◌^◌}
use mathlib.Core.Path.{◌≡◌, refl, sym, ap, ap₂, ◌∙◌, subst}
use mathlib.Core.Bool.{Bool, true, false, cond, ◌&&◌}
use mathlib.Core.List.{List, [], ◌∷◌, ◌++◌}
use mathlib.Core.Logic.{◌⊎◌, inl, inr}
use native.Mathlib.Omega.{arith}
use lib.Dec.{ltb, ltb→lt, lt→ltb}
use lib.ListN.{length, get_or, length-append, get_or-append, get_or-eq_default}
use lib.Seq.{get_or_at}
use Rattle.bitset.specs.Word.{member, inserted, set_below}
use Rattle.bitset.specs.Matrix.{AreWords}
use Rattle.bitset.proofs.Tests.{is_true, is_false, below_suc, below_or}
use Rattle.bitset.proofs.Word.{member_zero, inserted_word}
use Rattle.bitset.proofs.Joining.{member_set_below}
use Rattle.searches.specs.Ordering.{arcs, at}
use Rattle.lookup.specs.Columns.{Transposed}
use Rattle.adjacency.specs.Layout.{list_of, rows_of, columns_of}

module _ (f : ℕ → ℕ) where
  pub list_of_length : (k : ℕ) → length (list_of k f) ≡ k
  unfolding list_of
  list_of_length zero = refl
  list_of_length (suc k) = length-append (list_of k f) (f k ∷ []) ∙ omega (arith, list_of_length k)

  pub list_of_at : (k p : ℕ) → p < k → at (list_of k f) p ≡ f p
  unfolding list_of
  list_of_at zero p l = absurd (omega arith)
  list_of_at (suc k) p l = go (list_of_at k p) (below_suc k p l)
    where
      go : (p < k → at (list_of k f) p ≡ f p) → (p < k) ⊎ (p ≡ k) → at (list_of k f ++ f k ∷ []) p ≡ f p
      go rest (inl h) = get_or-append (list_of k f) (f k ∷ []) 0 p (omega (arith, list_of_length k)) ∙ rest h
      go rest (inr e) = subst (λ (x : ℕ). at (list_of k f ++ f k ∷ []) x ≡ f x) (sym e) (get_or_at (list_of k f) (f k) [] 0 k (list_of_length k))

set_below_word : (n : ℕ) (f : ℕ → Bool) → set_below n f < 2 ^ 64
unfolding set_below
set_below_word zero f = omega arith
set_below_word (suc n) f = go (f n) (set_below_word n f)
  where
    go : (b : Bool) → set_below n f < 2 ^ 64 → cond b (inserted (set_below n f) n) (set_below n f) < 2 ^ 64
    go true h = inserted_word h n
    go false h = h

module _ (n : ℕ) (arc : ℕ → ℕ → Bool) where
  pub rows_of_length : length (rows_of n arc) ≡ n
  unfolding rows_of
  rows_of_length = list_of_length (λ u. set_below n (arc u)) n

  pub rows_of_at : (u : ℕ) → u < n → get_or (rows_of n arc) u 0 ≡ set_below n (arc u)
  unfolding rows_of
  rows_of_at u l = list_of_at (λ x. set_below n (arc x)) n u l

  pub rows_of_words : AreWords (rows_of n arc)
  rows_of_words u = go (below_or u n)
    where
      go : (u < n) ⊎ (n ≤ u) → get_or (rows_of n arc) u 0 < 2 ^ 64
      go (inl l) = subst (λ (x : ℕ). x < 2 ^ 64) (sym (rows_of_at u l)) (set_below_word n (arc u))
      go (inr l) = subst (λ (x : ℕ). x < 2 ^ 64) (sym (get_or-eq_default (rows_of n arc) 0 {n = u} (omega (arith, rows_of_length)))) (omega arith)

  pub arcs_rows_of : n ≤ 64 → (u v : ℕ) → arcs (rows_of n arc) u v ≡ (ltb u n && (ltb v n && arc u v))
  unfolding arcs
  arcs_rows_of small u v = go (below_or u n)
    where
      go : (u < n) ⊎ (n ≤ u) → member (get_or (rows_of n arc) u 0) v ≡ (ltb u n && (ltb v n && arc u v))
      go (inl l) =
          ap (λ (x : ℕ). member x v) (rows_of_at u l) ∙ member_set_below n small (arc u) v
          ∙ ap (λ (b : Bool). b && (ltb v n && arc u v)) (sym (is_true (ltb u n) (lt→ltb u n l)))
      go (inr l) =
          ap (λ (x : ℕ). member x v) (get_or-eq_default (rows_of n arc) 0 {n = u} (omega (arith, rows_of_length))) ∙ member_zero v
          ∙ ap (λ (b : Bool). b && (ltb v n && arc u v)) (sym (is_false (ltb u n) (λ t. omega (arith, ltb→lt u n t))))

pub columns_transposed : (rows : List ℕ) → length rows ≤ 64 → Transposed rows (columns_of rows)
unfolding columns_of
columns_transposed rows small = record {
  as_many = rows_of_length (length rows) (λ v u. arcs rows u v);
  swapped = λ u v l h.
      arcs_rows_of (length rows) (λ y x. arcs rows x y) small v u
      ∙ ap₂ (λ (a b : Bool). a && (b && arcs rows u v)) (is_true (ltb v (length rows)) (lt→ltb v (length rows) h)) (is_true (ltb u (length rows)) (lt→ltb u (length rows) l));
}
