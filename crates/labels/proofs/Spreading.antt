-- Changing what is kept of the numbers of a row, from the row's smallest number on. `put` is the change of one value: of a label, or of the byte of
-- a running value.
--   spread_above      what is kept from the bound up is as it was
--   spread_none       an empty row changes nothing
--   spread_outside    what is kept of a number that is not in the row stays
--   spread_beyond     a number from the bound up may be taken out of the row
--   spread_apart      what is kept of a number from the bound up may be written before or after
--   spread_one        a number below the bound may be taken out of the row once it is changed
--   spread_at         what is kept of a number below the bound;   spread_length   of as many numbers as before
--   Spreading put row n before kept rest   `rest` is what is left of `row`: it makes of `kept` what `row` makes of `before`
--   spread_start, spread_next, spread_due, spread_end   the spreading begins, goes on, what is due, and the end
--   SpreadingAll p row labels₀ smallest₀ largest₀ labels smallest largest rest   labels and running values together: position p is spread
--   first_inside      the number that a row goes on with is the number of a vertex
--   member_joined     what is in a label that a position may join
-- Assumes nothing.
use mathlib.Core.Path.{◌≡◌, refl, sym, ap, ap₂, ◌∙◌, subst}
use mathlib.Core.Bool.{Bool, cond, ◌&&◌, ◌||◌}
use mathlib.Core.Logic.{◌⊎◌, inl, inr}
use mathlib.Core.List.{List}
use Prim.Native.Nat.{ℕ, zero, suc, ◌<◌, ◌≤◌, ◌^◌}
use native.Mathlib.Omega.{arith}
use lib.Dec.{T, eqb}
use lib.ListN.{length, get_or, set, length-set}
use lib.Seq.{get_or-set_same, get_or-set_other, set-get_or, set_comm}
use Rattle.bitset.specs.Below.{first_below}
use Rattle.bitset.specs.Word.{member, removed}
use Rattle.bitset.proofs.Tests.{cond_yes, cond_no, below_suc, three_ways}
use Rattle.bitset.proofs.Scan.{first_member, removed_in, removed_other}
use Rattle.bitset.proofs.Joining.{joined_if}
use Rattle.bitset.proofs.Word as word
use Rattle.labels.specs.Words.{label_with, smallest_with, largest_with, changed_by, spread_by, joined_in}

module _ (put : ℕ → ℕ) where
  pub spread_above : (row : ℕ) (kept : List ℕ) (i v : ℕ) → i ≤ v → get_or (spread_by put row i kept) v 0 ≡ get_or kept v 0
  unfolding spread_by
  spread_above row kept zero v l = refl
  spread_above row kept (suc i) v l = get_or-set_other (spread_by put row i kept) i v _ 0 (omega arith) ∙ spread_above row kept i v (omega arith)

  -- a change depends on the row only by the number's own test
  changed_same : (row other v x : ℕ) → member row v ≡ member other v → changed_by put row v x ≡ changed_by put other v x
  unfolding changed_by
  changed_same row other v x e = ap (λ (b : Bool). cond b (put x) x) e

  -- the step at a number that is not in the row changes nothing
  step_absent : (row v : ℕ) (kept : List ℕ) → (T (member row v) → ⊥) → set kept v (changed_by put row v (get_or kept v 0)) ≡ kept
  unfolding changed_by
  step_absent row v kept out =
      let old = get_or kept v 0 in
      ap (λ (x : ℕ). set kept v x) (cond_no (member row v) (put old) old out) ∙ set-get_or kept v 0

  pub spread_none : (n : ℕ) (kept : List ℕ) → spread_by put 0 n kept ≡ kept
  unfolding spread_by
  spread_none zero kept = refl
  spread_none (suc i) kept = step_absent 0 i (spread_by put 0 i kept) (word.empty_back refl i) ∙ spread_none i kept

  pub spread_outside : (row : ℕ) (kept : List ℕ) (n v : ℕ) → (T (member row v) → ⊥) → get_or (spread_by put row n kept) v 0 ≡ get_or kept v 0
  unfolding spread_by
  spread_outside row kept zero v out = refl
  spread_outside row kept (suc i) v out = go (three_ways i v) ∙ spread_outside row kept i v out
    where
      done : List ℕ
      done = spread_by put row i kept

      go : (i < v) ⊎ ((i ≡ v) ⊎ (v < i)) → get_or (set done i (changed_by put row i (get_or done i 0))) v 0 ≡ get_or done v 0
      go (inl l) = get_or-set_other done i v _ 0 (omega arith)
      go (inr (inl e)) = ap (λ (ls : List ℕ). get_or ls v 0) (step_absent row i done (λ t. out (subst (λ (x : ℕ). T (member row x)) e t)))
      go (inr (inr l)) = get_or-set_other done i v _ 0 (omega arith)

  module _ (kept : List ℕ) where
    -- the step at i is the same with another number taken out of the row
    step_other : (row v i : ℕ) (ls done : List ℕ) → (v ≡ i → ⊥) → ls ≡ done
        → set ls i (changed_by put (removed row v) i (get_or ls i 0)) ≡ set done i (changed_by put row i (get_or done i 0))
    step_other row v i ls done other e =
        ap (λ (x : ℕ). set ls i x) (changed_same (removed row v) row i (get_or ls i 0) (removed_other row v i other))
        ∙ ap (λ (x : List ℕ). set x i (changed_by put row i (get_or x i 0))) e

    pub spread_beyond : (row v n : ℕ) → n ≤ v → spread_by put (removed row v) n kept ≡ spread_by put row n kept
    unfolding spread_by
    spread_beyond row v zero l = refl
    spread_beyond row v (suc i) l =
        step_other row v i (spread_by put (removed row v) i kept) (spread_by put row i kept) (λ e. omega arith) (spread_beyond row v i (omega arith))

    pub spread_apart : (row v x n : ℕ) → n ≤ v → spread_by put row n (set kept v x) ≡ set (spread_by put row n kept) v x
    unfolding spread_by
    spread_apart row v x zero l = refl
    spread_apart row v x (suc i) l =
        let done = spread_by put row i kept in
        ap (λ (ls : List ℕ). set ls i (changed_by put row i (get_or ls i 0))) (spread_apart row v x i (omega arith))
        ∙ ap (λ (y : ℕ). set (set done v x) i (changed_by put row i y)) (get_or-set_other done v i x 0 (λ e. omega arith))
        ∙ set_comm done v i x (changed_by put row i (get_or done i 0)) (λ e. omega arith)

    pub spread_one : (row v n : ℕ) → v < n → spread_by put (removed row v) n (set kept v (changed_by put row v (get_or kept v 0))) ≡ spread_by put row n kept
    unfolding spread_by
    spread_one row v zero l = absurd (omega arith)
    spread_one row v (suc i) l = go (spread_one row v i) (below_suc i v l)
      where
        written : ℕ → List ℕ
        written u = set kept u (changed_by put row u (get_or kept u 0))

        go : (v < i → spread_by put (removed row v) i (written v) ≡ spread_by put row i kept) → (v < i) ⊎ (v ≡ i)
            → spread_by put (removed row v) (suc i) (written v) ≡ spread_by put row (suc i) kept
        go rest (inl h) = step_other row v i (spread_by put (removed row v) i (written v)) (spread_by put row i kept) (λ e. omega arith) (rest h)
        go rest (inr e) =
            subst (λ (u : ℕ). spread_by put (removed row u) (suc i) (written u) ≡ spread_by put row (suc i) kept) (sym e)
            (step_absent (removed row i) i (spread_by put (removed row i) i (written i)) (λ t. (removed_in row i i t).0 refl)
            ∙ spread_apart (removed row i) i (changed_by put row i (get_or kept i 0)) i (omega arith)
            ∙ ap₂ (λ (ls : List ℕ) (x : ℕ). set ls i (changed_by put row i x)) (spread_beyond row i i (omega arith)) (sym (spread_above row kept i i (omega arith))))

  -- ---- number by number

  module _ (row : ℕ) (kept : List ℕ) where
    pub spread_length : (i : ℕ) → length (spread_by put row i kept) ≡ length kept
    unfolding spread_by
    spread_length zero = refl
    spread_length (suc i) = length-set (spread_by put row i kept) i _ ∙ spread_length i

    pub spread_at : (i v : ℕ) → i ≤ length kept → v < i → get_or (spread_by put row i kept) v 0 ≡ changed_by put row v (get_or kept v 0)
    unfolding spread_by
    spread_at zero v h l = absurd (omega arith)
    spread_at (suc i) v h l = go (spread_at i v (omega arith)) (below_suc i v l)
      where
        go : (v < i → get_or (spread_by put row i kept) v 0 ≡ changed_by put row v (get_or kept v 0)) → (v < i) ⊎ (v ≡ i)
            → get_or (spread_by put row (suc i) kept) v 0 ≡ changed_by put row v (get_or kept v 0)
        go rest (inl g) = get_or-set_other (spread_by put row i kept) i v _ 0 (omega arith) ∙ rest g
        go rest (inr e) =
            subst (λ (x : ℕ). get_or (spread_by put row (suc i) kept) x 0 ≡ changed_by put row x (get_or kept x 0)) (sym e)
            (get_or-set_same (spread_by put row i kept) i _ 0 (omega (arith, spread_length i)) ∙ ap (changed_by put row i) (spread_above row kept i i (omega arith)))

  -- ---- the loop

  module _ (row n : ℕ) (before : List ℕ) where
    pub record Spreading (kept : List ℕ) (rest : ℕ) : Type 0 where
      pub word : rest < 2 ^ 64
      pub part : (u : ℕ) → T (member rest u) → T (member row u)
      pub left : spread_by put rest n kept ≡ spread_by put row n before

    pub spread_start : row < 2 ^ 64 → Spreading before row
    spread_start h = record { word = h; part = λ u t. t; left = refl }

    pub spread_next : (kept kept' : List ℕ) (rest : ℕ) → Spreading kept rest → (v : ℕ) → T (member rest v) → v < n → {x : ℕ} → kept' ≡ set kept v x
        → x ≡ put (get_or kept v 0) → Spreading kept' (removed rest v)
    unfolding changed_by
    spread_next kept kept' rest r v t l at-kept at_x =
        let old = get_or kept v 0 in
        record {
          word = word.removed_word r.word v;
          part = λ u t. r.part u (removed_in rest v u t).1;
          left = ap (λ (ls : List ℕ). spread_by put (removed rest v) n ls) (at-kept ∙ ap (λ (x : ℕ). set kept v x) (at_x ∙ sym (cond_yes (member rest v) (put old) old t)))
              ∙ spread_one kept rest v n l ∙ r.left;
        }

    -- what a number that is left will get is what it has at the end
    pub spread_due : (kept : List ℕ) (rest : ℕ) → Spreading kept rest → n ≤ length before → (v : ℕ) → v < n → T (member rest v) → put (get_or kept v 0) ≡ get_or (spread_by put row n before) v 0
    unfolding changed_by
    spread_due kept rest r long v l t =
        let same = sym (spread_length rest kept n) ∙ ap (λ (ls : List ℕ). length ls) r.left ∙ spread_length row before n in
        sym (cond_yes (member rest v) (put (get_or kept v 0)) (get_or kept v 0) t) ∙ sym (spread_at rest kept n v (omega arith) l) ∙ ap (λ (ls : List ℕ). get_or ls v 0) r.left

    pub spread_end : (kept : List ℕ) → Spreading kept 0 → kept ≡ spread_by put row n before
    spread_end kept r = sym (spread_none n kept) ∙ r.left

-- the labels and the running values beside them, while position p is put into those of a row
abbrev pub SpreadingAll : ℕ → ℕ → List ℕ → List ℕ → List ℕ → List ℕ → List ℕ → List ℕ → ℕ → Type 0
SpreadingAll p row labels₀ smallest₀ largest₀ labels smallest largest rest =
    Spreading (label_with p) row 64 labels₀ labels rest × Spreading (smallest_with p) row 64 smallest₀ smallest rest
    × Spreading (largest_with p) row 64 largest₀ largest rest

-- what is in a label after position q was put in where v is in the row
pub member_joined : (row q v x : ℕ) → q < 64 → (p : ℕ) → member (joined_in row q v x) p ≡ ((eqb q p && member row v) || member x p)
unfolding changed_by
member_joined row q v x l p = joined_if (member row v) x l p

pub first_inside : (row : ℕ) → row < 2 ^ 64 → 0 < row → first_below 64 (member row) < 64
first_inside row word some = (first_member row word some).0
