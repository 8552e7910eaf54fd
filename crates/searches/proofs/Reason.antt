-- A label is ahead of another exactly when there is a reason, shown search by search.
--   meets_in, meets_out, meets_same    a condition as a test and in words; only the positions below the bound matter
--   Reason own k c b                   a position of c's, not of b's, and what is asked besides for that position
--   reason→outranks, outranks→reason   ahead exactly when there is a reason
--   End, low_end, high_end             the two ends from which positions are counted: an order, and the number of a set that is first in it
-- Assumes nothing.
use mathlib.Core.Path.{◌≡◌, refl, sym, ap, ap₂, subst}
use mathlib.Core.Bool.{Bool, true, not, ◌&&◌, ◌||◌}
use mathlib.Core.Logic.{◌⊎◌, inl, inr}
use Prim.Native.Nat.{ℕ, ◌<◌}
use native.Mathlib.Omega.{arith}
use lib.Dec.{T, ltb, ltb→lt, lt→ltb, not_T, T_not}
use Rattle.bitset.specs.Below.{any_below, first_below, last_below, count_below, differ, within}
use Rattle.bitset.proofs.Tests.{and_in, and_out, or_inl, or_inr, or_out, not_not, decided, three_ways}
use Rattle.bitset.proofs.Below.{Some, any_out, any_in, any_at, any_same, first, first_found, last}
use Rattle.bitset.proofs.Count.{count_same, count_extra}
use Rattle.bitset.proofs.Sets.{differ_in, differ_other, differ_out, within_in, within_out, not_within}
use Rattle.searches.specs.Kind.{Search, generic, bfs, dfs, lex_bfs, lex_dfs, mns, mcs}
use Rattle.searches.specs.Label.{empty, nearer, settled, outranks}
use Rattle.searches.specs.Violation.{Condition, none_excuses, counted, condition, meets, Meets}

pub record Reason (own : ℕ → Condition) (k : ℕ) (c b : ℕ → Bool) : Type 0 where
  pub position : ℕ
  pub below : position < k
  pub ours : T (c position)
  pub theirs : T (b position) → ⊥
  pub unexcused : Meets (own position) k c b

module _ (k : ℕ) (c b : ℕ → Bool) where
  pub meets_out : (own : Condition) → T (meets own k c b) → Meets own k c b
  unfolding meets
  meets_out (none_excuses excuses) t = λ d l p q.
      T_not (any_below k (λ d. b d && excuses d (c d))) t (any_at k (λ d. b d && excuses d (c d)) d l (and_in (b d) (excuses d (c d)) p q))
  meets_out (counted test) t = t

  pub meets_in : (own : Condition) → Meets own k c b → T (meets own k c b)
  unfolding meets
  meets_in (none_excuses excuses) none =
      not_T (any_below k (λ d. b d && excuses d (c d))) (λ t.
      let d = any_out k (λ d. b d && excuses d (c d)) t in
      let both = and_out (b d.at) (excuses d.at (c d.at)) d.holds in
      none d.at d.below both.0 both.1)
  meets_in (counted test) t = t

  pub meets_same : (c' b' : ℕ → Bool) → ((p : ℕ) → p < k → c p ≡ c' p) → ((p : ℕ) → p < k → b p ≡ b' p) → (own : Condition) → meets own k c b ≡ meets own k c' b'
  unfolding meets
  meets_same c' b' c_same b_same (none_excuses excuses) =
      ap not (any_same k (λ d. b d && excuses d (c d)) (λ d. b' d && excuses d (c' d))
      (λ d l. ap₂ (λ (x y : Bool). x && excuses d y) (b_same d l) (c_same d l)))
  meets_same c' b' c_same b_same (counted test) = ap₂ test (count_same k c c' c_same) (count_same k b b' b_same)

-- ---- the two ends from which positions are counted

-- `before` is a strict order of all numbers, and `pick` takes the number of a set that is before all others of it
pub record End (before : ℕ → ℕ → Bool) (pick : ℕ → (ℕ → Bool) → ℕ) : Type 0 where
  pub compare : (p q : ℕ) → T (before p q) ⊎ ((p ≡ q) ⊎ T (before q p))
  pub chain : (p q r : ℕ) → T (before p q) → T (before q r) → T (before p r)
  pub inside : {k : ℕ} {f : ℕ → Bool} → Some k f → pick k f < k
  pub holds : {k : ℕ} {f : ℕ → Bool} → Some k f → T (f (pick k f))
  pub ahead : (k : ℕ) (f : ℕ → Bool) (i : ℕ) → i < k → T (f i) → T (before i (pick k f)) → ⊥

abbrev pub earlier : ℕ → ℕ → Bool
earlier p q = ltb p q

abbrev pub later : ℕ → ℕ → Bool
later p q = ltb q p

ltb_compare : (p q : ℕ) → T (ltb p q) ⊎ ((p ≡ q) ⊎ T (ltb q p))
ltb_compare p q = go (three_ways p q)
  where
    go : (p < q) ⊎ ((p ≡ q) ⊎ (q < p)) → T (ltb p q) ⊎ ((p ≡ q) ⊎ T (ltb q p))
    go (inl l) = inl (lt→ltb p q l)
    go (inr (inl e)) = inr (inl e)
    go (inr (inr l)) = inr (inr (lt→ltb q p l))

ltb_chain : (p q r : ℕ) → T (ltb p q) → T (ltb q r) → T (ltb p r)
ltb_chain p q r a b = omega (arith, ltb→lt, lt→ltb)

pub low_end : End earlier first_below
low_end = record {
  compare = ltb_compare;
  chain = ltb_chain;
  inside = first_found;
  holds = λ {k} {f} s. (first k f).holds (first_found s);
  ahead = λ k f i l p b. (first k f).least i (ltb→lt i (first_below k f) b) p;
}

turn : {p q : ℕ} → T (ltb q p) ⊎ ((q ≡ p) ⊎ T (ltb p q)) → T (ltb q p) ⊎ ((p ≡ q) ⊎ T (ltb p q))
turn (inl t) = inl t
turn (inr (inl e)) = inr (inl (sym e))
turn (inr (inr t)) = inr (inr t)

pub high_end : End later last_below
high_end = record {
  compare = λ p q. turn (ltb_compare q p);
  chain = λ p q r a b. ltb_chain r q p b a;
  inside = λ s. (last s).below;
  holds = λ s. (last s).holds;
  ahead = λ k f i l p b.
      let g = (last {n = k} {f = f} (record { at = i; below = l; holds = p })).greatest i l p in
      let h = ltb→lt (last_below k f) i b in
      omega arith;
}

module _ (before : ℕ → ℕ → Bool) (pick : ℕ → (ℕ → Bool) → ℕ) (e : End before pick) (k : ℕ) (c b : ℕ → Bool) where
  -- c's extreme position is ahead of b's exactly when a position of c's, not of b's, has none of b's before it
  nearer_out : T (nearer before pick k c b) → Reason (λ i. none_excuses (λ d in_c. before d i)) k c b
  unfolding nearer empty
  nearer_out t =
      let halves = and_out (not (not (any_below k c))) (not (any_below k b) || before (pick k c) (pick k b)) t in
      let some_c : Some k c = any_out k c (not_not (any_below k c) halves.0) in
      let own = or_out (not (any_below k b)) (before (pick k c) (pick k b)) halves.1 in
      record {
        position = pick k c;
        below = e.inside some_c;
        ours = e.holds some_c;
        theirs = λ p. clash own (pick k c) (e.inside some_c) p (inl refl);
        unexcused = λ d l p q. clash own d l p (inr q);
      }
    where
      clash : T (not (any_below k b)) ⊎ T (before (pick k c) (pick k b)) → (d : ℕ) → d < k → T (b d) → (d ≡ pick k c) ⊎ T (before d (pick k c)) → ⊥
      clash (inl none) d l p q = T_not (any_below k b) none (any_in (record { at = d; below = l; holds = p }))
      clash (inr ahead) d l p (inl same) = e.ahead k b d l p (subst (λ (x : ℕ). T (before x (pick k b))) (sym same) ahead)
      clash (inr ahead) d l p (inr q) = e.ahead k b d l p (e.chain d (pick k c) (pick k b) q ahead)

  nearer_in : Reason (λ i. none_excuses (λ d in_c. before d i)) k c b → T (nearer before pick k c b)
  unfolding nearer empty
  nearer_in r =
      and_in (not (not (any_below k c))) (not (any_below k b) || before (pick k c) (pick k b))
      (not_T (not (any_below k c)) (λ none. T_not (any_below k c) none (any_in some_c)))
      (go (decided (any_below k b)))
    where
      i : ℕ
      i = r.position

      some_c : Some k c
      some_c = record { at = i; below = r.below; holds = r.ours }

      ahead : Some k b → T (before (pick k c) i) ⊎ ((pick k c ≡ i) ⊎ T (before i (pick k c)))
          → T (before i (pick k b)) ⊎ ((i ≡ pick k b) ⊎ T (before (pick k b) i)) → T (before (pick k c) (pick k b))
      ahead some-b (inl q) (inl r) = e.chain (pick k c) i (pick k b) q r
      ahead some-b (inr (inl same)) (inl r) = subst (λ (x : ℕ). T (before x (pick k b))) (sym same) r
      ahead some-b (inr (inr q)) (inl _) = absurd (e.ahead k c i r.below r.ours q)
      ahead some-b x (inr (inl same)) = absurd (r.theirs (subst (λ (x : ℕ). T (b x)) (sym same) (e.holds some-b)))
      ahead some-b x (inr (inr q)) = absurd (r.unexcused (pick k b) (e.inside some-b) (e.holds some-b) q)

      go : T (any_below k b) ⊎ (T (any_below k b) → ⊥) → T (not (any_below k b) || before (pick k c) (pick k b))
      go (inl some) =
          or_inr (not (any_below k b)) (before (pick k c) (pick k b)) (ahead (any_out k b some) (e.compare (pick k c) i) (e.compare i (pick k b)))
      go (inr none) = or_inl (not (any_below k b)) (before (pick k c) (pick k b)) (not_T (any_below k b) none)

  -- the extreme position in which the labels differ is c's exactly when, before some such position of c's, all of b's are c's too
  settled_out : T (settled pick k c b) → Reason (λ i. none_excuses (λ d in_c. before d i && not in_c)) k c b
  unfolding settled
  settled_out t =
      let halves = and_out (any_below k (differ c b)) (c (pick k (differ c b))) t in
      let some : Some k (differ c b) = any_out k (differ c b) halves.0 in
      let i = pick k (differ c b) in
      record {
        position = i;
        below = e.inside some;
        ours = halves.1;
        theirs = (differ_out c b i (e.holds some)).0 halves.1;
        unexcused = λ d l p q.
            let x = and_out (before d i) (not (c d)) q in
            e.ahead k (differ c b) d l (differ_other c b d (T_not (c d) x.1) p) x.0;
      }

  settled_in : Reason (λ i. none_excuses (λ d in_c. before d i && not in_c)) k c b → T (settled pick k c b)
  unfolding settled
  settled_in r = and_in (any_below k (differ c b)) (c top) (any_in some) (go (decided (c top)) (e.compare top r.position))
    where
      some : Some k (differ c b)
      some = record { at = r.position; below = r.below; holds = differ_in c b r.position r.ours r.theirs }

      top : ℕ
      top = pick k (differ c b)

      go : T (c top) ⊎ (T (c top) → ⊥) → T (before top r.position) ⊎ ((top ≡ r.position) ⊎ T (before r.position top)) → T (c top)
      go (inl q) x = q
      go (inr out) (inl q) =
          absurd
          (r.unexcused top (e.inside some) ((differ_out c b top (e.holds some)).1 out) (and_in (before top r.position) (not (c top)) q (not_T (c top) out)))
      go (inr out) (inr (inl same)) = subst (λ (x : ℕ). T (c x)) (sym same) r.ours
      go (inr out) (inr (inr q)) = absurd (e.ahead k (differ c b) r.position some.below some.holds q)

-- ---- ahead exactly when there is a reason

module _ (k : ℕ) (c b : ℕ → Bool) where
  generic_out : T (not (empty k c) && empty k b) → Reason (λ i. none_excuses (λ d in_c. true)) k c b
  unfolding empty
  generic_out t =
      let halves = and_out (not (not (any_below k c))) (not (any_below k b)) t in
      let some_c : Some k c = any_out k c (not_not (any_below k c) halves.0) in
      let none : (d : ℕ) → d < k → T (b d) → ⊥ = λ d l p. T_not (any_below k b) halves.1 (any_in (record { at = d; below = l; holds = p })) in
      record {
        position = some_c.at;
        below = some_c.below;
        ours = some_c.holds;
        theirs = none some_c.at some_c.below;
        unexcused = λ d l p q. none d l p;
      }

  generic_in : Reason (λ i. none_excuses (λ d in_c. true)) k c b → T (not (empty k c) && empty k b)
  unfolding empty
  generic_in r =
      and_in (not (not (any_below k c))) (not (any_below k b))
      (not_T (not (any_below k c)) (λ none. T_not (any_below k c) none (any_in (record { at = r.position; below = r.below; holds = r.ours }))))
      (not_T (any_below k b) (λ t. let some = any_out k b t in r.unexcused some.at some.below some.holds tt))

  mns_out : T (within k b c && not (within k c b)) → Reason (λ i. none_excuses (λ d in_c. not in_c)) k c b
  mns_out t =
      let halves = and_out (within k b c) (not (within k c b)) t in
      let extra = not_within k c b (T_not (within k c b) halves.1) in
      record {
        position = extra.0;
        below = extra.1;
        ours = extra.2;
        theirs = extra.3;
        unexcused = λ d l p q. T_not (c d) q (within_out k b c halves.0 d l p);
      }

  mns_in : Reason (λ i. none_excuses (λ d in_c. not in_c)) k c b → T (within k b c && not (within k c b))
  mns_in r =
      and_in (within k b c) (not (within k c b))
      (within_in k b c (λ d l p. not_not (c d) (not_T (not (c d)) (r.unexcused d l p))))
      (not_T (within k c b) (λ all. r.theirs (within_out k c b all r.position r.below r.ours)))

  -- of two labels the larger has a position that the other has not
  mcs_out : T (ltb (count_below k b) (count_below k c)) → Reason (λ i. counted (λ of_c of_b. ltb of_b of_c)) k c b
  mcs_out t =
      let extra = count_extra k c b (ltb→lt (count_below k b) (count_below k c) t) in
      let both = and_out (c extra.at) (not (b extra.at)) extra.holds in
      record {
        position = extra.at;
        below = extra.below;
        ours = both.0;
        theirs = T_not (b extra.at) both.1;
        unexcused = t;
      }

  pub reason→outranks : (s : Search) → Reason (condition s) k c b → T (outranks s k c b)
  unfolding outranks condition
  reason→outranks generic r = generic_in r
  reason→outranks bfs r = nearer_in earlier first_below low_end k c b r
  reason→outranks dfs r = nearer_in later last_below high_end k c b r
  reason→outranks lex_bfs r = settled_in earlier first_below low_end k c b r
  reason→outranks lex_dfs r = settled_in later last_below high_end k c b r
  reason→outranks mns r = mns_in r
  reason→outranks mcs r = r.unexcused

  pub outranks→reason : (s : Search) → T (outranks s k c b) → Reason (condition s) k c b
  unfolding outranks condition
  outranks→reason generic t = generic_out t
  outranks→reason bfs t = nearer_out earlier first_below low_end k c b t
  outranks→reason dfs t = nearer_out later last_below high_end k c b t
  outranks→reason lex_bfs t = settled_out earlier first_below low_end k c b t
  outranks→reason lex_dfs t = settled_out later last_below high_end k c b t
  outranks→reason mns t = mns_out t
  outranks→reason mcs t = mcs_out t
