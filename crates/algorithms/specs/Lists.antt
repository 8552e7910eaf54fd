-- Lists of vertices as queues and stacks, and vertices taken in an order that is left open.
--   among xs u              u is an entry of xs
--   keep f xs               the entries of xs at which f holds, in their order
--   backward xs             xs from its other end
--   Pairwise rel xs         rel holds between each entry and each later one
--   InAnyOrder n f xs       xs has each vertex below n at which f holds once, and nothing else
--   each add d xs           d after every entry of xs was added, the last one first
use Rattle.std.specs.Prelude.{ℕ, ◌<◌, ◌≡◌, Bool, false, cond, ◌||◌, List, [], ◌∷◌, ◌++◌, T, eqb}

unfoldable pub among : List ℕ → ℕ → Bool
among [] u = false
among (x ∷ xs) u = let rest = among xs u in eqb x u || rest

unfoldable pub keep : (ℕ → Bool) → List ℕ → List ℕ
keep f [] = []
keep f (x ∷ xs) = let rest = keep f xs in cond (f x) (x ∷ rest) rest

unfoldable pub backward : List ℕ → List ℕ
backward [] = []
backward (x ∷ xs) = backward xs ++ x ∷ []

abbrev pub Pairwise : (ℕ → ℕ → Type 0) → List ℕ → Type 0
Pairwise rel [] = Unit {0}
Pairwise rel (x ∷ xs) = ((u : ℕ) → T (among xs u) → rel x u) × Pairwise rel xs

pub record InAnyOrder (n : ℕ) (f : ℕ → Bool) (xs : List ℕ) : Type 0 where
  pub only : (u : ℕ) → T (among xs u) → (u < n) × T (f u)
  pub all : (u : ℕ) → u < n → T (f u) → T (among xs u)
  pub once : Pairwise (λ u u'. u ≡ u' → ⊥) xs

-- a loop over xs; where the order of xs is open it does not matter at which end the loop begins
unfoldable pub each : (List ℕ → ℕ → List ℕ) → List ℕ → List ℕ → List ℕ
each add d [] = d
each add d (x ∷ xs) = add (each add d xs) x
