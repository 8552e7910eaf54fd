-- Where the vertices of a list without repeats stand in it, written entry by entry.
--   Ranking t ranks k                        the ranks of the first k entries are written
--   ranking_start, ranking_next, ranking_end
-- Assumes nothing.
use mathlib.Core.Path.{◌≡◌, sym, ap, ◌∙◌, subst}
use mathlib.Core.Logic.{◌⊎◌, inl, inr}
use mathlib.Core.List.{List}
use Prim.Native.Nat.{ℕ, ◌+◌, ◌≤◌, ◌<◌}
use native.Mathlib.Omega.{arith}
use native.Mathlib.Numerals.{add-one}
use lib.ListN.{length, get_or, set, length-set}
use lib.Seq.{get_or-set_same, get_or-set_other}
use Rattle.bitset.proofs.Tests.{below_suc}
use Rattle.searches.specs.Ordering.{at}
use Rattle.wide.specs.Steps.{Ranked}

module _ (t : List ℕ) where
  pub record Ranking (ranks : List ℕ) (k : ℕ) : Type 0 where
    pub within : k ≤ length t
    pub size : length ranks ≡ 512
    pub place : (q : ℕ) → q < k → get_or ranks (at t q) 0 ≡ q

  pub ranking_start : (ranks : List ℕ) → length ranks ≡ 512 → Ranking ranks 0
  ranking_start ranks size = record { within = omega arith; size = size; place = λ q l. absurd (omega arith) }

  module _ (vertices : (q : ℕ) → q < length t → at t q < 512) (apart : (p q : ℕ) → p < q → q < length t → at t p ≡ at t q → ⊥) where
    pub ranking_next : {ranks : List ℕ} {k : ℕ} → Ranking ranks k → k < length t → Ranking (set ranks (at t k) k) (k + 1)
    ranking_next {ranks} {k} r l = record {
      within = omega arith;
      size = length-set ranks (at t k) k ∙ r.size;
      place = λ q h. go q (below_suc k q (subst (λ (m : ℕ). q < m) (add-one k) h));
    }
      where
        go : (q : ℕ) → (q < k) ⊎ (q ≡ k) → get_or (set ranks (at t k) k) (at t q) 0 ≡ q
        go q (inl h) = get_or-set_other ranks (at t k) (at t q) k 0 (λ e. apart q k h l e) ∙ r.place q h
        go q (inr e) =
            ap (λ (p : ℕ). get_or (set ranks (at t k) k) (at t p) 0) e ∙ get_or-set_same ranks (at t k) k 0 (omega (arith, r.size, vertices k l)) ∙ sym e

    pub ranking_end : {ranks : List ℕ} {k : ℕ} → Ranking ranks k → length t ≤ k → Ranked t ranks
    ranking_end r h = record { size = r.size; entry = λ q l. (vertices q l, r.place q (omega arith)) }
