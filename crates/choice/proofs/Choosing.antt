-- The choice by a tie-break: a list searched from its end.
--   Closed s labels free t q      no entry of t from q on is open
--   closed_next                   one entry more
--   chosen_found, chosen_none     what the search ends with
--   Passed s labels free t rest   what is left of t in front is `rest`, and no entry behind it is open
--   passed_start, passed_next, passed_found, passed_none   the same search, on what is left
-- Assumes nothing.
use mathlib.Core.Path.{◌≡◌, sym, ap, ◌∙◌, subst}
use mathlib.Core.Logic.{◌⊎◌, inl, inr}
use mathlib.Core.List.{List, [], ◌∷◌, ◌++◌, append_assoc, append-nil}
use Prim.Native.Nat.{ℕ, suc, ◌≤◌, ◌<◌}
use native.Mathlib.Omega.{arith}
use lib.Dec.{T}
use lib.ListN.{length, length-append}
use lib.Seq.{get_or-append_seam}
use Rattle.bitset.proofs.Tests.{below_or}
use Rattle.bitset.proofs.Below.{last_unique, last_none}
use Rattle.searches.specs.Kind.{Search}
use Rattle.searches.specs.Ordering.{at}
use Rattle.offers.specs.Open.{open_in, chosen_in}

module _ (s : Search) (labels : List ℕ) (free : ℕ) (t : List ℕ) where
  abbrev pub Closed : ℕ → Type 0
  Closed q = (x : ℕ) → q ≤ x → x < length t → T (open_in s labels free (at t x)) → ⊥

  -- v is what stands at q
  pub closed_next : (q : ℕ) {v : ℕ} → v ≡ at t q → Closed (suc q) → (T (open_in s labels free v) → ⊥) → Closed q
  closed_next q {v} stands none out x l h o = go (below_or x (suc q))
    where
      go : (x < suc q) ⊎ (suc q ≤ x) → ⊥
      go (inl i) = let e : x ≡ q = omega arith in out (subst (λ (y : ℕ). T (open_in s labels free y)) (ap (λ (y : ℕ). at t y) e ∙ sym stands) o)
      go (inr i) = none x i h o

  pub chosen_found : (q : ℕ) {v : ℕ} → v ≡ at t q → q < length t → Closed (suc q) → T (open_in s labels free v) → v ≡ chosen_in s labels free t
  unfolding chosen_in
  chosen_found q {v} stands l none o =
      stands
      ∙ ap (λ (x : ℕ). at t x) (last_unique (record {
        below = l;
        holds = subst (λ (y : ℕ). T (open_in s labels free y)) stands o;
        greatest = λ i h p. under i h p (below_or q i);
      }))
    where
      under : (i : ℕ) → i < length t → T (open_in s labels free (at t i)) → (q < i) ⊎ (i ≤ q) → i ≤ q
      under i h p (inl g) = absurd (none i g h p)
      under i h p (inr g) = g

  pub chosen_none : Closed 0 → at t 0 ≡ chosen_in s labels free t
  unfolding chosen_in
  chosen_none none = ap (λ (x : ℕ). at t x) (sym (last_none (length t) (λ q. open_in s labels free (at t q)) (λ i l. none i (omega arith) l)))

  pub record Passed (rest : List ℕ) : Type 0 where
    pub behind : List ℕ
    pub parts : t ≡ rest ++ behind
    pub closed : Closed (length rest)

  pub passed_start : {rest : List ℕ} → rest ≡ t → Passed rest
  passed_start {rest} e = record { behind = []; parts = sym e ∙ sym (append-nil rest); closed = λ x l h. absurd (omega (arith, ap length e)) }

  -- v is taken off the end of what is left
  module _ (front : List ℕ) (v : ℕ) {rest : List ℕ} (p : Passed rest) (e : rest ≡ front ++ v ∷ []) where
    parted : t ≡ front ++ v ∷ p.behind
    parted = p.parts ∙ ap (λ (l : List ℕ). l ++ p.behind) e ∙ append_assoc front (v ∷ []) p.behind

    stands : v ≡ at t (length front)
    stands = sym (ap (λ (l : List ℕ). at l (length front)) parted ∙ get_or-append_seam front v p.behind 0)

    one_less : length rest ≡ suc (length front)
    one_less = omega (arith, simp length-append at (ap length e))

    inside : length front < length t
    inside = omega (arith, simp length-append at (ap length parted))

    behind_it : Closed (suc (length front))
    behind_it = subst Closed one_less p.closed

    pub passed_next : (T (open_in s labels free v) → ⊥) → Passed front
    passed_next out = record { behind = v ∷ p.behind; parts = parted; closed = closed_next (length front) stands behind_it out }

    pub passed_found : T (open_in s labels free v) → v ≡ chosen_in s labels free t
    passed_found o = chosen_found (length front) stands inside behind_it o

  pub passed_none : {rest : List ℕ} → Passed rest → length rest ≡ 0 → at t 0 ≡ chosen_in s labels free t
  passed_none p e = chosen_none (subst Closed e p.closed)
