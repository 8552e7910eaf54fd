-- What the seven algorithms (1 to 6 of document 001, 7 for MCS) have in common: data of their own, and a loop that numbers one vertex a turn.
--   numbered w v                 v has a number: it stands in the ordering w made so far
--   awaits arc w v u             u is an unnumbered vertex to which v leads, once v is numbered behind w
--   Algorithm                    a type of data, the data of a search from a start vertex, and the turns of the loop
--     Step w d v d'              with w numbered and data d the loop may pick v next, and the data is then d'
--   Steps a s w d                turns from start vertex s that number w and end with data d
--   Produced a n w               some start vertex and some turns number all n vertices, in the order w
-- The vertex at position p, counted from 0, has the number i = p + 1.
-- Document 001 takes graphs in one piece. Each algorithm's file says how it goes on behind a piece, by 01's rule: when no unnumbered vertex is
-- led to by a numbered one, any may come next.
use Rattle.std.specs.Prelude.{ℕ, zero, ◌<◌, ◌≡◌, Bool, not, ◌&&◌, List, [], ◌∷◌, ◌++◌, length}
use Rattle.searches.specs.Ordering.{placed}

abbrev pub numbered : List ℕ → ℕ → Bool
numbered w v = placed w (length w) v

unfoldable pub awaits : (ℕ → ℕ → Bool) → List ℕ → ℕ → ℕ → Bool
awaits arc w v u = arc v u && not (numbered (w ++ v ∷ []) u)

pub record Algorithm : Type 1 where
  pub Data : Type 0
  pub start : ℕ → Data
  pub Step : List ℕ → Data → ℕ → Data → Type 0

module _ (a : Algorithm) where
  pub data Steps (s : ℕ) : List ℕ → a.Data → Type 0 where
    begun : Steps s [] (a.start s)
    turned : {w : List ℕ} {d : a.Data} (v : ℕ) (d' : a.Data) → Steps s w d → a.Step w d v d' → Steps s (w ++ v ∷ []) d'

  -- a graph without vertices has no start vertex, and the loop makes no turn
  pub record Produced (n : ℕ) (w : List ℕ) : Type 0 where
    pub from : ℕ
    pub vertex : zero < n → from < n
    pub afterwards : a.Data
    pub steps : Steps from w afterwards
    pub full : length w ≡ n
