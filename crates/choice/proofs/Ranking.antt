-- Where vertices stand in a tie-break, and which of a set stands last.
--   ranked               the ranks of a list without repeats
--   ranks_next           the ranks with one vertex more
--   Ranking t ranks set most rest   `most` is the greatest rank of those of `set` that are not in `rest`, 0 where there is none
--   ranking_start, ranking_next, ranking_fits, ranking_end
-- Assumes nothing.
use mathlib.Core.Path.{◌≡◌, refl, sym, ap, ap₂, ◌∙◌, subst}
use mathlib.Core.Bool.{Bool}
use mathlib.Core.Logic.{◌⊎◌, inl, inr}
use mathlib.Core.List.{List}
use Prim.Native.Nat.{ℕ, zero, suc, ◌+◌, ◌≤◌, ◌<◌, ◌^◌}
use native.Mathlib.Omega.{arith}
use native.Mathlib.Numerals.{add-one}
use lib.Dec.{T, eqb, eqb→eq, eqb_refl}
use lib.ListN.{length, get_or, set, length-set, length-replicate}
use lib.Seq.{get_or-set_same, get_or-set_other}
use Rattle.bitset.specs.Below.{any_below, last_below}
use Rattle.bitset.specs.Word.{member, removed}
use Rattle.bitset.proofs.Tests.{decided, below_suc}
use Rattle.bitset.proofs.Below.{any_out, any_at, last, last_unique, last_none}
use Rattle.bitset.proofs.Scan.{removed_in, removed_keeps}
use Rattle.bitset.proofs.Word as word
use Rattle.searches.specs.Ordering.{at}
use Rattle.choice.specs.Ranks.{ranks_below, Ranked, Named}

module _ (t : List ℕ) where
  ranks_length : (k : ℕ) → length (ranks_below t k) ≡ 64
  unfolding ranks_below
  ranks_length zero = length-replicate {A = ℕ} 64 0
  ranks_length (suc k) = length-set (ranks_below t k) (at t k) k ∙ ranks_length k

  ranked_below : (k : ℕ) → ((q : ℕ) → q < k → at t q < 64) → ((p q : ℕ) → p < q → q < k → at t p ≡ at t q → ⊥) → (q : ℕ) → q < k
      → get_or (ranks_below t k) (at t q) 0 ≡ q
  unfolding ranks_below
  ranked_below zero inside apart q l = absurd (omega arith)
  ranked_below (suc k) inside apart q l =
      go (λ h. ranked_below k (λ p g. inside p (omega arith)) (λ p r g f. apart p r g (omega arith)) q h) (below_suc k q l)
    where
      go : (q < k → get_or (ranks_below t k) (at t q) 0 ≡ q) → (q < k) ⊎ (q ≡ k) → get_or (set (ranks_below t k) (at t k) k) (at t q) 0 ≡ q
      go rest (inl h) = get_or-set_other (ranks_below t k) (at t k) (at t q) k 0 (λ e. apart q k h (omega arith) e) ∙ rest h
      go rest (inr e) =
          ap (λ (p : ℕ). get_or (set (ranks_below t k) (at t k) k) (at t p) 0) e
          ∙ get_or-set_same (ranks_below t k) (at t k) k 0 (omega (arith, ranks_length k, inside k (omega arith))) ∙ sym e

  pub ranked : ((q : ℕ) → q < length t → at t q < 64) → ((p q : ℕ) → p < q → q < length t → at t p ≡ at t q → ⊥) → Ranked t (ranks_below t (length t))
  ranked inside apart q l = ranked_below (length t) inside apart q l

  -- one entry more
  pub ranks_next : (q : ℕ) {ranks : List ℕ} {v : ℕ} → ranks ≡ ranks_below t q → v ≡ at t q → set ranks v q ≡ ranks_below t (q + 1)
  unfolding ranks_below
  ranks_next q e same = ap₂ (λ (l : List ℕ) (v : ℕ). set l v q) e same ∙ ap (ranks_below t) (sym (add-one q))

module _ (t ranks : List ℕ) (all : ℕ) where
  pub record Ranking (most rest : ℕ) : Type 0 where
    pub left : rest < 2 ^ 64
    pub part : (v : ℕ) → T (member rest v) → T (member all v)
    pub low : (v : ℕ) → T (member all v) → (T (member rest v) → ⊥) → get_or ranks v 0 ≤ most
    pub held : (most ≡ 0) ⊎ ((v : ℕ) × T (member all v) × (get_or ranks v 0 ≡ most))

  pub ranking_start : all < 2 ^ 64 → Ranking 0 all
  ranking_start h = record { left = h; part = λ v x. x; low = λ v x out. absurd (out x); held = inl refl }

  pub ranking_next : {most rest most' : ℕ} → Ranking most rest → (u : ℕ) → T (member rest u) → most ≤ most' → get_or ranks u 0 ≤ most'
      → (most' ≡ most) ⊎ (most' ≡ get_or ranks u 0) → Ranking most' (removed rest u)
  ranking_next {most} {rest} {most'} r u x more reaches which = record {
    left = word.removed_word r.left u;
    part = λ v y. r.part v (removed_in rest u v y).1;
    low = λ v y out. below v y out (decided (eqb u v));
    held = holds which r.held;
  }
    where
      below : (v : ℕ) → T (member all v) → (T (member (removed rest u) v) → ⊥) → T (eqb u v) ⊎ (T (eqb u v) → ⊥) → get_or ranks v 0 ≤ most'
      below v y out (inl e) = subst (λ (z : ℕ). get_or ranks z 0 ≤ most') (eqb→eq u v e) reaches
      below v y out (inr apart) =
          omega (arith, r.low v y (λ z. out (removed_keeps rest u v (λ same. apart (subst (λ (a : ℕ). T (eqb u a)) same (eqb_refl u))) z)))

      holds : (most' ≡ most) ⊎ (most' ≡ get_or ranks u 0) → (most ≡ 0) ⊎ ((v : ℕ) × T (member all v) × (get_or ranks v 0 ≡ most))
          → (most' ≡ 0) ⊎ ((v : ℕ) × T (member all v) × (get_or ranks v 0 ≡ most'))
      holds (inl e) (inl z) = inl (e ∙ z)
      holds (inl e) (inr v) = inr (v.0, v.1, v.2 ∙ sym e)
      holds (inr e) old = inr (u, r.part u x, sym e)

  -- what is found so far is the place of an entry, or 0
  pub ranking_fits : Ranked t ranks → Named t all → {most rest : ℕ} → Ranking most rest → most ≤ length t
  ranking_fits places names {most} r = go r.held
    where
      go : (most ≡ 0) ⊎ ((v : ℕ) × T (member all v) × (get_or ranks v 0 ≡ most)) → most ≤ length t
      go (inl e) = omega arith
      go (inr (v, x, e)) =
          let stands = names v x in
          let is : stands.place ≡ most = sym (places stands.place stands.inside) ∙ ap (λ (u : ℕ). get_or ranks u 0) stands.there ∙ e in
          omega (arith, stands.inside)

  pub ranking_end : Ranked t ranks → Named t all → {most rest : ℕ} → Ranking most rest → rest ≡ 0 → most ≡ last_below (length t) (λ q. member all (at t q))
  ranking_end places names {most} {rest} r over = go r.held
    where
      f : ℕ → Bool
      f q = member all (at t q)

      highest : (q : ℕ) → q < length t → T (f q) → q ≤ most
      highest q l x = omega (arith, places q l, r.low (at t q) x (word.empty_back over (at t q)))

      none : most ≡ 0 → T (any_below (length t) f) ⊎ (T (any_below (length t) f) → ⊥) → most ≡ last_below (length t) f
      none e (inl x) = let l = last (any_out (length t) f x) in omega (arith, highest (last_below (length t) f) l.below l.holds)
      none e (inr out) = e ∙ sym (last_none (length t) f (λ q l x. out (any_at (length t) f q l x)))

      go : (most ≡ 0) ⊎ ((v : ℕ) × T (member all v) × (get_or ranks v 0 ≡ most)) → most ≡ last_below (length t) f
      go (inl e) = none e (decided (any_below (length t) f))
      go (inr (v, x, e)) =
          let stands = names v x in
          let q : ℕ = stands.place in
          let is : q ≡ most = sym (places q stands.inside) ∙ ap (λ (u : ℕ). get_or ranks u 0) stands.there ∙ e in
          sym is ∙ last_unique (record {
            below = stands.inside;
            holds = subst (λ (u : ℕ). T (member all u)) (sym stands.there) x;
            greatest = λ i l y. omega (arith, highest i l y);
          })
