-- Carrying an ordering on by a tie-break: of the offered vertices, the one that stands last in the tie-break is placed.
--   choice s arc n t w k          the offered vertex that stands last in t, after the first k vertices of w   [01: preference list]
--   grow s arc n t m w            w with m more vertices placed so
--   carry_on s arc n t w k         the first k vertices of w, carried on to n                                  [01: carry-on]
--   LastOffered s arc n t r p     at position p of r stands, of the vertices then offered, the last of t
--   CarriedOn s arc n t w k r     r is a full ordering that begins so, passes, and takes that vertex at each added position
use Rattle.std.specs.Prelude.{ℕ, zero, suc, ◌-◌, ◌≤◌, ◌<◌, ◌≡◌, Bool, List, [], ◌∷◌, ◌++◌, T, length, take}
use Rattle.bitset.specs.Below.{last_below}
use Rattle.searches.specs.Kind.{Search}
use Rattle.searches.specs.Ordering.{at, IsFullOrdering, Begins}
use Rattle.searches.specs.Run.{offered}
use Rattle.searches.specs.Violation.{passes, judge}

module _ (s : Search) (arc : ℕ → ℕ → Bool) (n : ℕ) (t : List ℕ) where
  unfoldable pub choice : List ℕ → ℕ → ℕ
  choice w k = at t (last_below (length t) (λ q. offered s arc n w k (at t q)))

  unfoldable pub grow : ℕ → List ℕ → List ℕ
  grow zero w = w
  grow (suc m) w = grow m (w ++ choice w (length w) ∷ [])

  unfoldable pub carry_on : List ℕ → ℕ → List ℕ
  carry_on w k = grow (n - k) (take k w)

  pub record LastOffered (r : List ℕ) (p : ℕ) : Type 0 where
    pub offers : T (offered s arc n r p (at r p))
    pub stands : ℕ
    pub inside : stands < length t
    pub there : at t stands ≡ at r p
    pub last : (q : ℕ) → stands < q → q < length t → T (offered s arc n r p (at t q)) → ⊥

  pub record CarriedOn (w : List ℕ) (k : ℕ) (r : List ℕ) : Type 0 where
    pub full : IsFullOrdering n r
    pub begins : Begins w k r
    pub passing : judge s arc n r n ≡ passes
    pub chosen : (p : ℕ) → k ≤ p → p < n → LastOffered r p
