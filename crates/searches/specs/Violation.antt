-- Violations: three vertices that show that an ordering is not of a search. The first two are given by their positions i and j.
--   Condition                    a search's own condition on the neighbours that c and b have before b: none of b's excuses b, or how many they are
--   condition s i                each search's own, for a at position i                                          [01: the six lines on d; 02: K1]
--   meets x k c b                labels c and b, of positions below k, meet condition x;   Meets   the same in words
--   violates s arc w i j c       the test on a at position i, b at position j and c, but for i < j               [01: the fault relation]
--   Violates s arc n w k i j c   the same condition by condition, with the first k positions placed
--   rank w k v                   placed vertices go by position and come before unplaced ones, which go by number
--   Precedes w k i j c i' j' c'  earlier b, then earlier a, then first c
--   FirstViolation s arc n w k a b c   a violation that precedes all others                                      [01: the first triple]
--   Verdict, Fails v             passes, fails with the first violation's vertices, or refused with a number
--   third w k e                  the e-th candidate for c: the placed by position, then all vertices by number
--   judge s arc n w k            the verdict on the first k positions of w                                       [01: judge]
use Rattle.std.specs.Prelude.{ℕ, suc, ◌+◌, ◌-◌, ◌<◌, ◌≡◌, ◌⊎◌, Bool, true, cond, not, ◌&&◌, List, T, ltb, eqb}
use Rattle.bitset.specs.Below.{any_below, first_below, count_below}
use Rattle.searches.specs.Kind.{Search, generic, bfs, dfs, lex_bfs, lex_dfs, mns, mcs}
use Rattle.searches.specs.Ordering.{at, placed}
use Rattle.searches.specs.Label.{label}

pub data Condition : Type 0 where
  -- no d before b and linked to b passes the test on d's position and on whether d is linked to c
  none_excuses : (ℕ → Bool → Bool) → Condition
  -- the numbers of c's and of b's neighbours before b pass the test
  counted : (ℕ → ℕ → Bool) → Condition

unfoldable pub condition : Search → ℕ → Condition
condition generic i = none_excuses (λ d in_c. true)
condition bfs i = none_excuses (λ d in_c. ltb d i)
condition dfs i = none_excuses (λ d in_c. ltb i d)
condition lex_bfs i = none_excuses (λ d in_c. ltb d i && not in_c)
condition lex_dfs i = none_excuses (λ d in_c. ltb i d && not in_c)
condition mns i = none_excuses (λ d in_c. not in_c)
condition mcs i = counted (λ of_c of_b. ltb of_b of_c)

unfoldable pub meets : Condition → ℕ → (ℕ → Bool) → (ℕ → Bool) → Bool
meets (none_excuses excuses) k c b = not (any_below k (λ d. b d && excuses d (c d)))
meets (counted test) k c b = test (count_below k c) (count_below k b)

abbrev pub Meets : Condition → ℕ → (ℕ → Bool) → (ℕ → Bool) → Type 0
Meets (none_excuses excuses) k c b = (d : ℕ) → d < k → T (b d) → T (excuses d (c d)) → ⊥
Meets (counted test) k c b = T (test (count_below k c) (count_below k b))

unfoldable pub violates : Search → (ℕ → ℕ → Bool) → List ℕ → ℕ → ℕ → ℕ → Bool
violates s arc w i j c =
    arc (at w i) c && not (arc (at w i) (at w j)) && not (placed w (suc j) c)
    && meets (condition s i) j (label arc w c) (label arc w (at w j))

pub record Violates (s : Search) (arc : ℕ → ℕ → Bool) (n : ℕ) (w : List ℕ) (k i j c : ℕ) : Type 0 where
  -- a is placed before b, which is placed; c is a vertex
  pub before : i < j
  pub middle : j < k
  pub vertex : c < n
  -- c is placed after b or not placed
  pub later : T (placed w (suc j) c) → ⊥
  -- a and c are linked, a and b are not
  pub linked : T (arc (at w i) c)
  pub apart : T (arc (at w i) (at w j)) → ⊥
  -- the search's own condition
  pub unexcused : Meets (condition s i) j (label arc w c) (label arc w (at w j))

unfoldable pub rank : List ℕ → ℕ → ℕ → ℕ
rank w k v = cond (placed w k v) (first_below k (λ p. eqb (at w p) v)) (k + v)

abbrev pub Precedes : List ℕ → ℕ → ℕ → ℕ → ℕ → ℕ → ℕ → ℕ → Type 0
Precedes w k i j c i' j' c' = (j < j') ⊎ ((j ≡ j') × ((i < i') ⊎ ((i ≡ i') × (rank w k c < rank w k c'))))

pub record FirstViolation (s : Search) (arc : ℕ → ℕ → Bool) (n : ℕ) (w : List ℕ) (k a b c : ℕ) : Type 0 where
  pub i : ℕ
  pub j : ℕ
  pub is : Violates s arc n w k i j c
  pub a_stands : at w i ≡ a
  pub b_stands : at w j ≡ b
  pub others_later : (i' j' c' : ℕ) → Violates s arc n w k i' j' c' → ((i' ≡ i) × (j' ≡ j) × (c' ≡ c)) ⊎ Precedes w k i j c i' j' c'

pub data Verdict : Type 0 where
  passes : Verdict
  fails : (a b c : ℕ) → Verdict
  refused : ℕ → Verdict

abbrev pub Fails : Verdict → Type 0
Fails v = (a : ℕ) × (b : ℕ) × (c : ℕ) × (v ≡ fails a b c)

-- a placed vertex is met at its position before it is met by its number
unfoldable pub third : List ℕ → ℕ → ℕ → ℕ
third w k e = cond (ltb e k) (at w e) (e - k)

module _ (s : Search) (arc : ℕ → ℕ → Bool) (n : ℕ) (w : List ℕ) (k : ℕ) where
  -- the candidate e for c, the position i of a and the position j of b take part in a violation
  unfoldable pub is_last : ℕ → ℕ → ℕ → Bool
  is_last j i e = violates s arc w i j (third w k e)

  unfoldable pub is_first : ℕ → ℕ → Bool
  is_first j i = any_below (k + n) (is_last j i)

  unfoldable pub is_middle : ℕ → Bool
  is_middle j = any_below j (is_first j)

  unfoldable pub judge : Verdict
  judge =
      let j = first_below k is_middle in
      let i = first_below j (is_first j) in
      let e = first_below (k + n) (is_last j i) in
      let shown = fails (at w i) (at w j) (third w k e) in
      cond (ltb j k) shown passes
