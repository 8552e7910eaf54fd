-- The tail of the output list while it is filled.
--   Filling s rows t k m labels₀ free₀ tail₀ ..   i places are filled, and going on from here gives the rest
--   filling_start, filling_next, filling_end
-- Assumes nothing.
use mathlib.Core.Path.{◌≡◌, refl, sym, ap, ap₂, ◌∙◌}
use mathlib.Core.List.{List, [], ◌∷◌, ◌++◌, append-nil, append_assoc}
use Prim.Native.Nat.{ℕ, zero, suc, ◌+◌, ◌-◌, ◌≤◌, ◌<◌}
use native.Mathlib.Omega.{arith}
use native.Mathlib.Numerals.{add-one}
use lib.ListN.{length, take, drop, set, length-set, take-append-drop}
use lib.Seq.{take-suc-set, drop-set-lt, drop-drop}
use Rattle.bitset.specs.Word.{removed}
use Rattle.searches.specs.Kind.{Search}
use Rattle.labels.specs.Words.{spread_to}
use Rattle.offers.specs.Open.{chosen_in}
use Rattle.steps.specs.Steps.{grown_by}
use Rattle.filling.specs.Fill.{fill_in}

module _ (s : Search) (rows t : List ℕ) (k m : ℕ) (labels₀ : List ℕ) (free₀ : ℕ) (tail₀ : List ℕ) where
  pub record Filling (tail labels : List ℕ) (free i : ℕ) : Type 0 where
    pub upto : i ≤ m
    pub long : length tail ≡ length tail₀
    pub filled : take i tail ++ fill_in s rows t (m - i) (k + i) labels free ≡ fill_in s rows t m k labels₀ free₀
    pub rest : drop i tail ≡ drop i tail₀

  pub filling_start : Filling tail₀ labels₀ free₀ 0
  filling_start = record {
    upto = omega arith;
    long = refl;
    filled = ap₂ (λ (x y : ℕ). fill_in s rows t x y labels₀ free₀) (let e : m - 0 ≡ m = omega arith in e) (let e : k + 0 ≡ k = omega arith in e);
    rest = refl;
  }

  -- one step of the definition
  fill_step : (x p : ℕ) (labels : List ℕ) (free : ℕ) → 0 < x
      → fill_in s rows t x p labels free
      ≡ chosen_in s labels free t
      ∷ fill_in s rows t (x - 1) (p + 1) (spread_to (grown_by rows free (chosen_in s labels free t)) p labels) (removed free (chosen_in s labels free t))
  unfolding fill_in
  fill_step zero p labels free l = absurd (omega arith)
  fill_step (suc x) p labels free l =
      let v = chosen_in s labels free t in
      ap₂ (λ (a b : ℕ). v ∷ fill_in s rows t a b (spread_to (grown_by rows free v) p labels) (removed free v))
      (let e : x ≡ suc x - 1 = omega arith in e) (sym (add-one p))

  pub filling_next : {tail labels : List ℕ} {free i : ℕ} (v : ℕ) (labels' : List ℕ) (free' : ℕ) → Filling tail labels free i → i < m → m ≤ length tail₀
      → v ≡ chosen_in s labels free t → labels' ≡ spread_to (grown_by rows free v) (k + i) labels → free' ≡ removed free v
      → Filling (set tail i v) labels' free' (i + 1)
  filling_next {tail} {labels} {free} {i} v labels' free' f l room at_v at-labels at-free = record {
    upto = omega arith;
    long = length-set tail i v ∙ f.long;
    filled =
        ap₂ (λ (a : List ℕ) (b : List ℕ). a ++ b) front back ∙ append_assoc (take i tail) (v ∷ []) after
        ∙ ap (λ (x : List ℕ). take i tail ++ x) (sym step) ∙ f.filled;
    rest =
        ap (λ (x : ℕ). drop x (set tail i v)) (add-one i) ∙ drop-set-lt (suc i) tail i v (omega arith) ∙ shift tail
        ∙ ap (λ (x : List ℕ). drop 1 x) f.rest ∙ sym (shift tail₀) ∙ ap (λ (x : ℕ). drop x tail₀) (sym (add-one i));
  }
    where
      after : List ℕ
      after = fill_in s rows t (m - i - 1) (k + i + 1) (spread_to (grown_by rows free v) (k + i) labels) (removed free v)

      front : take (i + 1) (set tail i v) ≡ take i tail ++ (v ∷ [])
      front = ap (λ (x : ℕ). take x (set tail i v)) (add-one i) ∙ take-suc-set tail i v (omega (arith, f.long))

      back : fill_in s rows t (m - (i + 1)) (k + (i + 1)) labels' free' ≡ after
      back =
          ap₂ (λ (a b : ℕ). fill_in s rows t a b labels' free') (let e : m - (i + 1) ≡ m - i - 1 = omega arith in e) (let e : k + (i + 1) ≡ k + i + 1 = omega arith in e)
          ∙ ap₂ (λ (a : List ℕ) (b : ℕ). fill_in s rows t (m - i - 1) (k + i + 1) a b) at-labels at-free

      step : fill_in s rows t (m - i) (k + i) labels free ≡ v ∷ after
      step =
          fill_step (m - i) (k + i) labels free (omega arith)
          ∙ ap (λ (x : ℕ). x ∷ fill_in s rows t (m - i - 1) (k + i + 1) (spread_to (grown_by rows free x) (k + i) labels) (removed free x)) (sym at_v)

      shift : (ls : List ℕ) → drop (suc i) ls ≡ drop 1 (drop i ls)
      shift ls = ap (λ (x : ℕ). drop x ls) (sym (add-one i)) ∙ sym (drop-drop 1 i ls)

  pub filling_end : {tail labels : List ℕ} {free i : ℕ} → Filling tail labels free i → m ≤ i → tail ≡ fill_in s rows t m k labels₀ free₀ ++ drop m tail₀
  unfolding fill_in
  filling_end {tail} {labels} {free} {i} f l =
      let e : i ≡ m = omega (arith, f.upto) in
      sym (take-append-drop i tail)
      ∙ ap₂ (λ (a : List ℕ) (b : List ℕ). a ++ b)
      (sym (append-nil (take i tail))
      ∙ ap (λ (x : ℕ). take i tail ++ fill_in s rows t x (k + i) labels free) (let z : 0 ≡ m - i = omega arith in z) ∙ f.filled)
      (f.rest ∙ ap (λ (x : ℕ). drop x tail₀) e)
