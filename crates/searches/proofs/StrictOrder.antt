-- Being ahead is a strict order of labels, in six searches by one argument and in MCS by the counts, and a weak one in every search but MNS.
--   Sided excuses                 an excuse stands on one side of what it excuses, and may have to be out of c's label: six of the searches
--   sided_transitive, counted_transitive, reason_transitive   a reason of c against b and one of b against a make one of c against a
--   outranks_irreflexive, outranks_transitive
--   Cotransitive own              of two labels with one ahead, a third is behind the first or ahead of the second
--   lax_cotransitive, connected_cotransitive   so it is in a search that is not strict, and where of two labels that differ one is ahead
--   settled_connected             as in LexBFS and LexDFS
--   counted_cotransitive          as in MCS
--   reason_cotransitive, outranks_cotransitive   so it is in every search but MNS
-- Assumes nothing.
use mathlib.Core.Path.{◌≡◌, refl, sym, subst}
use mathlib.Core.Bool.{Bool, true, false, not, ◌&&◌, ◌||◌}
use mathlib.Core.Logic.{◌⊎◌, inl, inr, ◌≢◌}
use Prim.Native.Nat.{ℕ, ◌<◌, ◌≤◌}
use native.Mathlib.Omega.{arith}
use lib.Dec.{T, ltb, eqb, ltb→lt, lt→ltb, eqb→eq, eqb_refl, not_T, T_not}
use Rattle.bitset.specs.Below.{any_below, first_below, last_below, count_below, differ}
use Rattle.bitset.proofs.Tests.{and_in, and_out, and_true, or_inl, or_inr, or_out, decided, below_or}
use Rattle.bitset.proofs.Below.{Some, any_out, any_at}
use Rattle.bitset.proofs.Sets.{differ_in, differ_out, differ_other, differ_same}
use Rattle.searches.specs.Kind.{Search, generic, bfs, dfs, lex_bfs, lex_dfs, mns, mcs}
use Rattle.searches.specs.Label.{outranks}
use Rattle.searches.specs.Violation.{Condition, none_excuses, condition}
use Rattle.searches.proofs.Reason.{Reason, outranks→reason, reason→outranks, End, earlier, later, low_end, high_end}

-- An excuse of position i stands anywhere, before it or after it, and in three of the searches it must not be in c's label.
data Side : Type 0 where
  anywhere sooner farther : Side

near : Side → ℕ → ℕ → Bool
near anywhere i d = true
near sooner i d = earlier d i
near farther i d = later d i

record Sided (excuses : ℕ → ℕ → Bool → Bool) : Type 0 where
  side : Side
  strict : Bool
  is : (i d : ℕ) (in_c : Bool) → excuses i d in_c ≡ (near side i d && not (strict && in_c))

generic_sided : Sided (λ i d in_c. true)
unfolding near
generic_sided = record { side = anywhere; strict = false; is = λ i d in_c. refl }

bfs_sided : Sided (λ i d in_c. ltb d i)
unfolding near
bfs_sided = record { side = sooner; strict = false; is = λ i d in_c. and_true (ltb d i) }

dfs_sided : Sided (λ i d in_c. ltb i d)
unfolding near
dfs_sided = record { side = farther; strict = false; is = λ i d in_c. and_true (ltb i d) }

lex_bfs_sided : Sided (λ i d in_c. ltb d i && not in_c)
unfolding near
lex_bfs_sided = record { side = sooner; strict = true; is = λ i d in_c. refl }

lex_dfs_sided : Sided (λ i d in_c. ltb i d && not in_c)
unfolding near
lex_dfs_sided = record { side = farther; strict = true; is = λ i d in_c. refl }

mns_sided : Sided (λ i d in_c. not in_c)
unfolding near
mns_sided = record { side = anywhere; strict = true; is = λ i d in_c. refl }

near_compare : (x : Side) (p q : ℕ) → T (near x p q) ⊎ ((p ≡ q) ⊎ T (near x q p))
unfolding near
near_compare anywhere p q = inl tt
near_compare sooner p q = high_end.compare p q
near_compare farther p q = low_end.compare p q

near_chain : (x : Side) (p q r : ℕ) → T (near x p q) → T (near x q r) → T (near x p r)
unfolding near
near_chain anywhere p q r a b = tt
near_chain sooner p q r a b = high_end.chain p q r a b
near_chain farther p q r a b = low_end.chain p q r a b

abbrev Transitive : (ℕ → Condition) → Type 0
Transitive own = (k : ℕ) (c b a : ℕ → Bool) → Reason own k c b → Reason own k b a → Reason own k c a

module _ {excuses : ℕ → ℕ → Bool → Bool} (s : Sided excuses) where
  -- no position of b's excuses
  abbrev own : ℕ → Condition
  own i = none_excuses (excuses i)

  excuse_out : (i d : ℕ) (in_c : Bool) → T (excuses i d in_c) → T (near s.side i d) × T (not (s.strict && in_c))
  excuse_out i d in_c t = and_out (near s.side i d) (not (s.strict && in_c)) (subst (λ (b : Bool). T b) (s.is i d in_c) t)

  excuse_in : (i d : ℕ) (in_c : Bool) → T (near s.side i d) → T (not (s.strict && in_c)) → T (excuses i d in_c)
  excuse_in i d in_c t u = subst (λ (b : Bool). T b) (sym (s.is i d in_c)) (and_in (near s.side i d) (not (s.strict && in_c)) t u)

  -- what is not in c's label is no matter of strictness
  excuse_out_of_label : (i d : ℕ) (in_c : Bool) → T (near s.side i d) → (T in_c → ⊥) → T (excuses i d in_c)
  excuse_out_of_label i d in_c t out = excuse_in i d in_c t (not_T (s.strict && in_c) (λ u. out (and_out s.strict in_c u).1))

  sided_transitive : Transitive own
  sided_transitive k c b a r r' = go (near_compare s.side i i')
    where
      i : ℕ
      i = r.position

      i' : ℕ
      i' = r'.position

      -- a position of a's that is near both would excuse one of the two
      clear : (j d : ℕ) → T (near s.side i d) → T (near s.side i' d) → d < k → T (a d) → T (excuses j d (c d)) → ⊥
      clear j d near-i near-i' l p x = at (decided (b d))
        where
          at : T (b d) ⊎ (T (b d) → ⊥) → ⊥
          at (inl q) = r.unexcused d l q (excuse_in i d (c d) near-i (excuse_out j d (c d) x).1)
          at (inr out) = r'.unexcused d l p (excuse_out_of_label i' d (b d) near-i' out)

      from_i : T (near s.side i' i) → Reason own k c a
      from_i n = record {
        position = i;
        below = r.below;
        ours = r.ours;
        theirs = λ p. r'.unexcused i r.below p (excuse_out_of_label i' i (b i) n r.theirs);
        unexcused = λ d l p x. let m = (excuse_out i d (c d) x).0 in clear i d m (near_chain s.side i' i d n m) l p x;
      }

      in_c : T (near s.side i i') → T (c i') ⊎ (T (c i') → ⊥) → T (c i')
      in_c n (inl p) = p
      in_c n (inr out) = absurd (r.unexcused i' r'.below r'.ours (excuse_out_of_label i i' (c i') n out))

      from_i' : T (near s.side i i') → Reason own k c a
      from_i' n = record {
        position = i';
        below = r'.below;
        ours = in_c n (decided (c i'));
        theirs = r'.theirs;
        unexcused = λ d l p x. let m = (excuse_out i' d (c d) x).0 in clear i' d (near_chain s.side i i' d n m) m l p x;
      }

      go : T (near s.side i i') ⊎ ((i ≡ i') ⊎ T (near s.side i' i)) → Reason own k c a
      go (inl n) = from_i' n
      go (inr (inl same)) = absurd (r.theirs (subst (λ (x : ℕ). T (b x)) (sym same) r'.ours))
      go (inr (inr n)) = from_i n

-- more than what is more
counted_transitive : Transitive (condition mcs)
unfolding condition outranks
counted_transitive k c b a r r' =
    outranks→reason k c a mcs
    (lt→ltb (count_below k a) (count_below k c)
    (omega (arith, ltb→lt (count_below k b) (count_below k c) r.unexcused, ltb→lt (count_below k a) (count_below k b) r'.unexcused)))

reason_transitive : (s : Search) → Transitive (condition s)
unfolding condition
reason_transitive generic = sided_transitive generic_sided
reason_transitive bfs = sided_transitive bfs_sided
reason_transitive dfs = sided_transitive dfs_sided
reason_transitive lex_bfs = sided_transitive lex_bfs_sided
reason_transitive lex_dfs = sided_transitive lex_dfs_sided
reason_transitive mns = sided_transitive mns_sided
reason_transitive mcs = counted_transitive

module _ (s : Search) where
  pub outranks_irreflexive : (k : ℕ) (c : ℕ → Bool) → T (outranks s k c c) → ⊥
  outranks_irreflexive k c t = let r = outranks→reason k c c s t in r.theirs r.ours

  pub outranks_transitive : (k : ℕ) (c b a : ℕ → Bool) → T (outranks s k c b) → T (outranks s k b a) → T (outranks s k c a)
  outranks_transitive k c b a t u =
      reason→outranks k c a s (reason_transitive s k c b a (outranks→reason k c b s t) (outranks→reason k b a s u))

-- ---- a weak order

abbrev Cotransitive : (ℕ → Condition) → Type 0
Cotransitive own = (k : ℕ) (c b a : ℕ → Bool) → Reason own k c b → Reason own k c a ⊎ Reason own k a b

module _ {excuses : ℕ → ℕ → Bool → Bool} (s : Sided excuses) where
  -- where it does not matter what is in c's label: a has a position as near as c's reason, or none
  lax_cotransitive : s.strict ≡ false → Cotransitive (own s)
  lax_cotransitive lax k c b a r = go (decided (any_below k close))
    where
      i : ℕ
      i = r.position

      from_i : ℕ → Bool
      from_i d = eqb i d || near s.side i d

      close : ℕ → Bool
      close d = a d && from_i d

      far : (d : ℕ) → d < k → T (b d) → T (from_i d) → ⊥
      far d l p t = at (or_out (eqb i d) (near s.side i d) t)
        where
          at : T (eqb i d) ⊎ T (near s.side i d) → ⊥
          at (inl e) = r.theirs (subst (λ (x : ℕ). T (b x)) (sym (eqb→eq i d e)) p)
          at (inr n) = r.unexcused d l p (excuse_in s i d (c d) n (subst (λ (x : Bool). T (not (x && c d))) (sym lax) tt))

      onward : (j d : ℕ) → T (from_i j) → T (near s.side j d) → T (from_i d)
      onward j d t n = or_inr (eqb i d) (near s.side i d) (at (or_out (eqb i j) (near s.side i j) t))
        where
          at : T (eqb i j) ⊎ T (near s.side i j) → T (near s.side i d)
          at (inl e) = subst (λ (x : ℕ). T (near s.side x d)) (sym (eqb→eq i j e)) n
          at (inr m) = near_chain s.side i j d m n

      go : T (any_below k close) ⊎ (T (any_below k close) → ⊥) → Reason (own s) k c a ⊎ Reason (own s) k a b
      go (inl t) =
          let x = any_out k close t in
          let both = and_out (a x.at) (from_i x.at) x.holds in
          inr (record {
            position = x.at;
            below = x.below;
            ours = both.0;
            theirs = λ p. far x.at x.below p both.1;
            unexcused = λ d l p e. far d l p (onward x.at d both.1 (excuse_out s x.at d (a d) e).0);
          })
      go (inr none) = inl (record {
        position = i;
        below = r.below;
        ours = r.ours;
        theirs = λ p. none (any_at k close i r.below (and_in (a i) (from_i i) p (or_inl (eqb i i) (near s.side i i) (eqb_refl i))));
        unexcused = λ d l p e. none (any_at k close d l (and_in (a d) (from_i d) p (or_inr (eqb i d) (near s.side i d) (excuse_out s i d (c d) e).0)));
      })

  -- where of two labels that differ one is ahead
  connected_cotransitive : ((k : ℕ) (c a : ℕ → Bool) → T (any_below k (differ c a)) → Reason (own s) k c a ⊎ Reason (own s) k a c)
      → Cotransitive (own s)
  connected_cotransitive connected k c b a r = go (decided (any_below k (differ c a)))
    where
      turned : Reason (own s) k c a ⊎ Reason (own s) k a c → Reason (own s) k c a ⊎ Reason (own s) k a b
      turned (inl x) = inl x
      turned (inr x) = inr (sided_transitive s k a c b x r)

      go : T (any_below k (differ c a)) ⊎ (T (any_below k (differ c a)) → ⊥) → Reason (own s) k c a ⊎ Reason (own s) k a b
      go (inl t) = turned (connected k c a t)
      go (inr none) = inr (record {
        position = r.position;
        below = r.below;
        ours = subst (λ (x : Bool). T x) (same r.position r.below) r.ours;
        theirs = r.theirs;
        unexcused = λ d l p e. r.unexcused d l p (subst (λ (x : Bool). T (excuses r.position d x)) (sym (same d l)) e);
      })
        where
          same : (d : ℕ) → d < k → c d ≡ a d
          same d l = differ_same c a d (λ t. none (any_at k (differ c a) d l t))

module _ (before : ℕ → ℕ → Bool) (pick : ℕ → (ℕ → Bool) → ℕ) (e : End before pick) (k : ℕ) (c a : ℕ → Bool) where
  -- the first position in which they differ settles it
  pub settled_connected : T (any_below k (differ c a)) → Reason (λ i. none_excuses (λ d in_c. before d i && not in_c)) k c a ⊎ Reason (λ i. none_excuses (λ d in_c. before d i && not in_c)) k a c
  settled_connected t = go (decided (c i))
    where
      some : Some k (differ c a)
      some = any_out k (differ c a) t

      i : ℕ
      i = pick k (differ c a)

      agree : (d : ℕ) → d < k → T (before d i) → T (differ c a d) → ⊥
      agree d l n x = e.ahead k (differ c a) d l x n

      go : T (c i) ⊎ (T (c i) → ⊥) → Reason (λ i. none_excuses (λ d in_c. before d i && not in_c)) k c a ⊎ Reason (λ i. none_excuses (λ d in_c. before d i && not in_c)) k a c
      go (inl p) = inl (record {
        position = i;
        below = e.inside some;
        ours = p;
        theirs = (differ_out c a i (e.holds some)).0 p;
        unexcused = λ d l q x. let y = and_out (before d i) (not (c d)) x in agree d l y.0 (differ_other c a d (T_not (c d) y.1) q);
      })
      go (inr out) = inr (record {
        position = i;
        below = e.inside some;
        ours = (differ_out c a i (e.holds some)).1 out;
        theirs = out;
        unexcused = λ d l q x. let y = and_out (before d i) (not (a d)) x in agree d l y.0 (differ_in c a d q (T_not (a d) y.1));
      })

-- where c has more positions than b, a has fewer than c or more than b
counted_cotransitive : Cotransitive (condition mcs)
unfolding condition outranks
counted_cotransitive k c b a r = go (below_or (count_below k a) (count_below k c))
  where
    go : (count_below k a < count_below k c) ⊎ (count_below k c ≤ count_below k a) → Reason (condition mcs) k c a ⊎ Reason (condition mcs) k a b
    go (inl l) = inl (outranks→reason k c a mcs (lt→ltb (count_below k a) (count_below k c) l))
    go (inr l) =
        inr (outranks→reason k a b mcs (lt→ltb (count_below k b) (count_below k a) (omega (arith, ltb→lt (count_below k b) (count_below k c) r.unexcused))))

reason_cotransitive : (s : Search) → s ≢ mns → Cotransitive (condition s)
unfolding condition generic_sided bfs_sided dfs_sided
reason_cotransitive generic other = lax_cotransitive generic_sided refl
reason_cotransitive bfs other = lax_cotransitive bfs_sided refl
reason_cotransitive dfs other = lax_cotransitive dfs_sided refl
reason_cotransitive lex_bfs other = connected_cotransitive lex_bfs_sided (settled_connected earlier first_below low_end)
reason_cotransitive lex_dfs other = connected_cotransitive lex_dfs_sided (settled_connected later last_below high_end)
reason_cotransitive mns other = absurd (other refl)
reason_cotransitive mcs other = counted_cotransitive

pub outranks_cotransitive : (s : Search) → s ≢ mns → (k : ℕ) (c b a : ℕ → Bool) → T (outranks s k c b) → T (outranks s k c a) ⊎ T (outranks s k a b)
outranks_cotransitive s other k c b a t = go (reason_cotransitive s other k c b a (outranks→reason k c b s t))
  where
    go : Reason (condition s) k c a ⊎ Reason (condition s) k a b → T (outranks s k c a) ⊎ T (outranks s k a b)
    go (inl r) = inl (reason→outranks k c a s r)
    go (inr r) = inr (reason→outranks k a b s r)
