-- Where each vertex stands in a tie-break.
--   ranks_below t k     the ranks of the vertices that stand at the first k places of t, as a list of 64
--   Ranked t ranks     the rank of the vertex at place q is q
--   Named t set        every vertex of `set` stands in t
use Rattle.std.specs.Prelude.{ℕ, zero, suc, ◌<◌, ◌≡◌, List, T, length, get_or, set, replicate}
use Rattle.bitset.specs.Word.{member}
use Rattle.searches.specs.Ordering.{at}

unfoldable pub ranks_below : List ℕ → ℕ → List ℕ
ranks_below t zero = replicate 64 0
ranks_below t (suc q) = set (ranks_below t q) (at t q) q

abbrev pub Ranked : List ℕ → List ℕ → Type 0
Ranked t ranks = (q : ℕ) → q < length t → get_or ranks (at t q) 0 ≡ q

pub record Stands (t : List ℕ) (v : ℕ) : Type 0 where
  pub place : ℕ
  pub inside : place < length t
  pub there : at t place ≡ v

abbrev pub Named : List ℕ → ℕ → Type 0
Named t set = (v : ℕ) → T (member set v) → Stands t v
