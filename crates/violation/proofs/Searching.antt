-- The search for the first violation at a vertex: what its loops rest on.
--   completes_outside, completes_inside   the test of one vertex, answer by answer
--   scanned_first, scanned_none    a scan of the front that stops at the smallest number that completes a violation
--   behind_start, behind_same      where the loop over the positions behind j begins, and what it asks at one of them
--   last_by_position, last_by_number  what the two steps answer together
--   last_numbered                  what they answer where no position was found
--   sought                         whether a search by number found a vertex
--   first_starts, shown            what the searches find is the first violation
-- Assumes nothing.
use mathlib.Core.Path.{◌≡◌, refl, sym, ap, ap₂, ◌∙◌, subst}
use mathlib.Core.Bool.{Bool, true, false, ◌&&◌}
use mathlib.Core.List.{List}
use Prim.Native.Nat.{ℕ, ◌+◌, ◌<◌, ◌≤◌}
use native.Mathlib.Omega.{arith}
use lib.Dec.{T, ltb, ltb→lt, lt→ltb}
use lib.ListN.{length, get_or}
use Rattle.std.specs.Prelude.{Option, Some, None, MatchOption}
use Rattle.std.specs.Option.{is_some}
use Rattle.bitset.specs.Below.{any_below, first_below}
use Rattle.bitset.specs.Word.{member}
use Rattle.bitset.proofs.Tests.{and_in, and_out, is_true, cond_yes, cond_no}
use Rattle.bitset.proofs.Below.{first, first_found, first_unique, any_out}
use Rattle.bitset.proofs.Word.{empty_back}
use Rattle.bitset.proofs.Scan.{Scanned}
use Rattle.bitset.proofs.Passed.{Passed}
use Rattle.searches.specs.Kind.{Search}
use Rattle.searches.specs.Ordering.{at}
use Rattle.searches.specs.Violation.{third, fails}
use Rattle.searches.specs.declared.Vertex.{Vertex}
use Rattle.labels.specs.Words.{unexcused_in}
use Rattle.violation.specs.Fault.{last_in, first_in, completes_in, behind_in, last_of, first_fault}

-- ---- the two loops

module _ (s : Search) (labels : List ℕ) (front i mine : ℕ) where
  abbrev clear : ℕ → Bool
  clear c = unexcused_in s i (get_or labels c 0) mine

  pub completes_outside : (c : ℕ) {r : Bool} → r ≡ member front c → r ≡ false → false ≡ completes_in s labels front i mine c
  unfolding completes_in
  completes_outside c e out = ap (λ (b : Bool). b && clear c) (sym out ∙ e)

  pub completes_inside : (c : ℕ) {r u : Bool} → r ≡ member front c → r ≡ true → u ≡ clear c → u ≡ completes_in s labels front i mine c
  unfolding completes_in
  completes_inside c e inside is = is ∙ ap (λ (b : Bool). b && clear c) (sym inside ∙ e)

  pub scanned_first : {rest u : ℕ} → Scanned 64 front clear rest → u ≡ first_below 64 (member rest) → u < 64 → T (member rest u) → T (clear u)
      → u ≡ first_below 64 (completes_in s labels front i mine)
  unfolding completes_in
  scanned_first {rest} {u} r smallest l t holds = first_unique (record {
    within = omega arith;
    holds = λ _. and_in (member front u) (clear u) (r.part u t) holds;
    least = λ v h p.
        let both = and_out (member front v) (clear v) p in
        r.passed v (omega arith) both.0 ((first 64 (member rest)).least v (omega arith)) both.1;
  })

  pub scanned_none : {rest : ℕ} → Scanned 64 front clear rest → rest ≡ 0 → 64 ≡ first_below 64 (completes_in s labels front i mine)
  unfolding completes_in
  scanned_none r over = first_unique (record {
    within = omega arith;
    holds = λ h. absurd (omega arith);
    least = λ v h p. let both = and_out (member front v) (clear v) p in r.passed v h both.0 (empty_back over v) both.1;
  })

  pub behind_start : (w : List ℕ) (j k : ℕ) → j < k → Passed k (behind_in s labels front i mine w j) (j + 1)
  unfolding behind_in
  behind_start w j k l = record {
    within = omega arith;
    none = λ p h t. let later = ltb→lt j p (and_out (ltb j p) (completes_in s labels front i mine (at w p)) t).0 in omega arith;
  }

  pub behind_same : (w : List ℕ) (j p : ℕ) {c : ℕ} {r : Bool} → j < p → c ≡ at w p → r ≡ completes_in s labels front i mine c → r ≡ behind_in s labels front i mine w j p
  unfolding behind_in
  behind_same w j p l stands e =
      e ∙ ap (completes_in s labels front i mine) stands ∙ ap (λ (b : Bool). b && completes_in s labels front i mine (at w p)) (sym (is_true (ltb j p) (lt→ltb j p l)))

  pub last_by_position : (w : List ℕ) (j k : ℕ) {p c : ℕ} → p ≡ first_below k (behind_in s labels front i mine w j) → p < k → c ≡ at w p
      → c ≡ last_of s labels front i mine w j k
  unfolding last_of
  last_by_position w j k {p} e l stands =
      let first_behind = first_below k (behind_in s labels front i mine w j) in
      stands ∙ ap (at w) e
      ∙ sym (cond_yes (ltb first_behind k) (at w first_behind) (first_below 64 (completes_in s labels front i mine)) (lt→ltb first_behind k (omega arith)))

  pub last_by_number : (w : List ℕ) (j k : ℕ) {p c : ℕ} → p ≡ first_below k (behind_in s labels front i mine w j) → k ≤ p
      → c ≡ first_below 64 (completes_in s labels front i mine) → c ≡ last_of s labels front i mine w j k
  unfolding last_of
  last_by_number w j k {p} e l is =
      let first_behind = first_below k (behind_in s labels front i mine w j) in
      is
      ∙ sym (cond_no (ltb first_behind k) (at w first_behind) (first_below 64 (completes_in s labels front i mine)) (λ t. omega (arith, ltb→lt first_behind k t)))

-- the same where no position was found, of what the search by number gave
module _ (s : Search) (labels : List ℕ) (front i mine : ℕ) (w : List ℕ) (j k : ℕ) where
  abbrev number : ℕ
  number = first_below 64 (completes_in s labels front i mine)

  abbrev shown_last : ℕ
  shown_last = last_of s labels front i mine w j k

  pub last_numbered : first_below k (behind_in s labels front i mine w j) ≡ k → (r : Option Vertex) → MatchOption r (number ≡ 64) (λ c. (c.0 ≡ number) × (c.0 < 64))
      → MatchOption r (shown_last ≡ 64) (λ c. c.0 ≡ shown_last)
  last_numbered e None none = sym (last_by_number s labels front i mine w j k (sym e) (omega arith) refl) ∙ none
  last_numbered e (Some c) (is, _) = last_by_number s labels front i mine w j k (sym e) (omega arith) is

-- whether a search by number found a vertex
pub sought : {x : ℕ} (r : Option Vertex) → MatchOption r (x ≡ 64) (λ c. (c.0 ≡ x) × (c.0 < 64)) → {b : Bool} → b ≡ is_some r
    → (b ≡ true → x < 64) × (b ≡ false → 64 ≤ x)
sought None none e = (λ t. absurd (subst (λ (b : Bool). T b) (sym t ∙ e) tt), λ f. omega arith)
sought (Some c) (is, l) e = (λ t. omega arith, λ f. absurd (subst (λ (b : Bool). T b) (sym e ∙ f) tt))

-- ---- what is shown

module _ (s : Search) (rows w labels : List ℕ) (free j k : ℕ) where
  -- where there is a violation, the first position found starts one
  pub first_starts : (i : ℕ) → T (any_below j (first_in s rows w labels free j k)) → i ≡ first_below j (first_in s rows w labels free j k)
      → (i < j) × T (first_in s rows w labels free j k i)
  first_starts i t at_i =
      let test = first_in s rows w labels free j k in
      let found = first_found (any_out j test t) in
      (omega arith, subst (λ (y : ℕ). T (test y)) (sym at_i) ((first j test).holds found))

  pub shown : (i : ℕ) {a b c : ℕ} → i ≡ first_below j (first_in s rows w labels free j k) → a ≡ at w i → b ≡ at w j
      → c ≡ third w k (first_below (k + length rows) (last_in s rows w labels free j k i)) → fails a b c ≡ first_fault s rows w labels free j k
  unfolding first_fault
  shown i {c = c} at_i first-is middle-is last-is =
      ap₂ (λ (x y : ℕ). fails x y c) first-is middle-is ∙ ap (λ (y : ℕ). fails (at w i) (at w j) y) last-is
      ∙ ap (λ (y : ℕ). fails (at w y) (at w j) (third w k (first_below (k + length rows) (last_in s rows w labels free j k y)))) at_i
