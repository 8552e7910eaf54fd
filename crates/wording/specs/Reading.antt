-- A sentence read back: the search and the verdict that its bytes tell.
--   is_other d c              the byte c is not d
--   front test b, behind test b   the bytes of b before the first one that fails the test, and the others
--   same a b                 two lists of bytes are equal
--   search_named b            the search whose name b is
--   verdict_told b            the verdict that is told behind the name
--   read_sentence b           search and verdict
use Rattle.std.specs.Prelude.{ℕ, Bool, true, false, cond, not, ◌&&◌, List, [], ◌∷◌, eqb, length, drop}
use Rattle.bitset.specs.Below.{first_below}
use Rattle.searches.specs.Kind.{Search, search_of}
use Rattle.searches.specs.Violation.{Verdict, passes, fails}
use Rattle.wording.specs.Text.{bytes}
use Rattle.wording.specs.Decimal.{is_digit, value}
use Rattle.wording.specs.Sentence.{name}

unfoldable pub is_other : ℕ → ℕ → Bool
is_other d c = not (eqb c d)

module _ (test : ℕ → Bool) where
  unfoldable pub front : List ℕ → List ℕ
  front [] = []
  front (c ∷ b) = let rest = front b in cond (test c) (c ∷ rest) []

  unfoldable pub behind : List ℕ → List ℕ
  behind [] = []
  behind (c ∷ b) = let rest = behind b in cond (test c) rest (c ∷ b)

unfoldable pub same : List ℕ → List ℕ → Bool
same [] [] = true
same [] (d ∷ b) = false
same (c ∷ a) [] = false
same (c ∷ a) (d ∷ b) = eqb c d && same a b

unfoldable pub search_named : List ℕ → Search
search_named b = search_of (first_below 7 (λ k. same (name (search_of k)) b))

unfoldable pub verdict_told : List ℕ → Verdict
verdict_told b =
    let at_b = drop (length (bytes " fails at ")) b in
    let at_a = drop (length (bytes ": ")) (behind is_digit at_b) in
    let at_c = drop (length (bytes " leads to ")) (behind is_digit at_a) in
    cond (same b (bytes " passes.")) passes (fails (value (front is_digit at_a)) (value (front is_digit at_b)) (value (front is_digit at_c)))

-- the name ends at the first space
unfoldable pub read_sentence : List ℕ → Search × Verdict
read_sentence b = (search_named (front (is_other 32) b), verdict_told (behind (is_other 32) b))
