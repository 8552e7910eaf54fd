-- Rows copied to the front of an array.
--   Copying rows copy₀ copy u     the first u rows are copied, and the rest is as it was
--   copying_start, copying_next, copying_end
--   behind_zeros                  what is behind them in an empty array
-- Assumes nothing.
use Prim.Native.Nat.{ℕ, zero, suc, ◌+◌, ◌-◌, ◌≤◌, ◌<◌}
use mathlib.Core.Path.{◌≡◌, refl, ap, ap₂, ◌∙◌}
use mathlib.Core.List.{List, ◌++◌}
use native.Mathlib.Omega.{arith}
use lib.ListN.{length, take, drop, set, get_or, replicate, length-set}
use lib.Seq.{paste-suc, take-length}

pub record Copying (rows copy₀ copy : List ℕ) (u : ℕ) : Type 0 where
  pub upto : u ≤ length rows
  pub room : length copy ≡ 64
  pub copied : copy ≡ take u rows ++ drop u copy₀

module _ (rows copy₀ : List ℕ) (l : length rows ≤ 64) (full : length copy₀ ≡ 64) where
  pub copying_start : Copying rows copy₀ copy₀ 0
  copying_start = record { upto = omega arith; room = full; copied = refl }

  pub copying_next : {copy : List ℕ} {u : ℕ} → Copying rows copy₀ copy u → u < length rows → Copying rows copy₀ (set copy u (get_or rows u 0)) (u + 1)
  copying_next {copy} {u} c h =
      let here : u ≡ 0 + u = omega arith in
      let next : suc u ≡ u + 1 = omega arith in
      let behind : 0 + suc u ≡ u + 1 = omega arith in
      record {
        upto = omega arith;
        room = length-set copy u (get_or rows u 0) ∙ c.room;
        copied =
            ap (λ (x : List ℕ). set x u (get_or rows u 0)) c.copied
            ∙ ap (λ (m : ℕ). set (take u rows ++ drop m copy₀) m (get_or rows u 0)) here ∙ paste-suc copy₀ 0 rows u 0 (omega (arith, full)) h
            ∙ ap₂ (λ (a b : ℕ). take a rows ++ drop b copy₀) next behind;
      }

  pub copying_end : {copy : List ℕ} {u : ℕ} → Copying rows copy₀ copy u → length rows ≤ u → copy ≡ rows ++ drop (length rows) copy₀
  copying_end {copy} {u} c h =
      let all : u ≡ length rows = omega (arith, c.upto) in
      c.copied ∙ ap (λ (m : ℕ). take m rows ++ drop m copy₀) all ∙ ap (λ (x : List ℕ). x ++ drop (length rows) copy₀) (take-length rows)

-- behind the rows an empty array has zeros
pub behind_zeros : (m : ℕ) → drop m (replicate {A = ℕ} 64 0) ≡ replicate (64 - m) 0
behind_zeros = dropped 64
  where
    as_many : {a b : ℕ} → a ≡ b → replicate {A = ℕ} a 0 ≡ replicate b 0
    as_many = ap (λ (x : ℕ). replicate {A = ℕ} x 0)

    dropped : (n m : ℕ) → drop m (replicate {A = ℕ} n 0) ≡ replicate (n - m) 0
    dropped n zero = as_many {a = n} {b = n - 0} (omega arith)
    dropped zero (suc m) = as_many {a = 0} {b = 0 - suc m} (omega arith)
    dropped (suc n) (suc m) = dropped n m ∙ as_many {a = n - m} {b = suc n - suc m} (omega arith)
