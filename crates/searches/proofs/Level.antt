-- When two labels are level: in six searches where none is ahead, in MNS where they are equal.
--   alike_in, alike_out, alike_within   alike: position by position, and as two inclusions;   alike_refl, alike_sym, alike_trans   an equivalence
--   alike_behind, alike_unranked     whoever is ahead of one of two equal labels is ahead of the other, and none of the two is ahead
--   Unranked s k c b                 none of the two labels is ahead
--   level_exactly                    except in MNS two labels are level exactly when none is ahead; search by search
--   not_mns                          a search with another number is not MNS
--   except_mns                       what holds in MNS, and in every other search, holds in every search
--   level_unranked, unranked_level   of two that are level none is ahead; except in MNS, two of which none is ahead are level
--   alike_level, empty_level         equal labels are level, and so are two empty ones
--   level_refl, level_sym, level_trans   level is an equivalence
--   level_behind, level_offered      whoever is ahead of one of two that are level is ahead of the other, so an unplaced vertex that is level with
--                                    an offered one is offered
-- Assumes nothing.
use mathlib.Core.Path.{◌≡◌, refl, sym, ◌∙◌, subst}
use mathlib.Core.Bool.{Bool, true, false, cond, not, ◌&&◌, ◌||◌}
use mathlib.Core.Logic.{◌⊎◌, inl, inr, ⊎_elim, ◌≢◌, ◌↔◌}
use mathlib.Core.List.{List}
use mathlib.Core.Option.{none, some}
use Prim.Native.Nat.{ℕ, ◌<◌}
use native.Mathlib.Omega.{arith}
use lib.Dec.{T, ltb, eqb, ltb→lt, eqb→eq, eqb_refl, not_T, T_not}
use Rattle.bitset.specs.Below.{any_below, first_below, last_below, count_below, differ, within}
use Rattle.bitset.proofs.Tests.{and_in, and_out, same_test}
use Rattle.bitset.proofs.Below.{any_out, any_at}
use Rattle.bitset.proofs.Sets.{differ_one, differ_same, within_in, within_out}
use Rattle.searches.specs.Kind.{Search, generic, bfs, dfs, lex_bfs, lex_dfs, mns, mcs, kind_of}
use Rattle.searches.specs.Ordering.{placed}
use Rattle.searches.specs.Label.{label, empty, nearer, outranks}
use Rattle.searches.specs.Running.{smallest_in, largest_in}
use Rattle.searches.specs.Comparison.{alike, same_value, level}
use Rattle.searches.specs.Run.{offered}
use Rattle.searches.specs.Violation.{condition}
use Rattle.searches.proofs.Reason.{Reason, meets_in, meets_out, meets_same, outranks→reason, reason→outranks, End, earlier, later, low_end, high_end}
use Rattle.searches.proofs.StrictOrder.{outranks_irreflexive, outranks_cotransitive, settled_connected}
use Rattle.searches.proofs.Run.{offered_in, offered_out}

-- ---- equal labels

module _ (k : ℕ) (c b : ℕ → Bool) where
  pub alike_out : T (alike k c b) → (p : ℕ) → p < k → c p ≡ b p
  unfolding alike
  alike_out t p l = differ_same c b p (λ d. T_not (any_below k (differ c b)) t (any_at k (differ c b) p l d))

  pub alike_in : ((p : ℕ) → p < k → c p ≡ b p) → T (alike k c b)
  unfolding alike
  alike_in same = not_T (any_below k (differ c b)) (λ t. let x = any_out k (differ c b) t in apart (same x.at x.below) (differ_one c b x.at x.holds))
    where
      apart : {p : ℕ} → c p ≡ b p → (T (c p) × (T (b p) → ⊥)) ⊎ (T (b p) × (T (c p) → ⊥)) → ⊥
      apart e (inl x) = x.1 (subst (λ (y : Bool). T y) e x.0)
      apart e (inr x) = x.1 (subst (λ (y : Bool). T y) (sym e) x.0)

  pub alike_within : (within k b c && within k c b) ≡ alike k c b
  alike_within = same_test (within k b c && within k c b) (alike k c b) forth back
    where
      forth : T (within k b c && within k c b) → T (alike k c b)
      forth t =
          let both = and_out (within k b c) (within k c b) t in
          alike_in (λ p l. same_test (c p) (b p) (within_out k c b both.1 p l) (within_out k b c both.0 p l))

      back : T (alike k c b) → T (within k b c && within k c b)
      back t =
          and_in (within k b c) (within k c b) (within_in k b c (λ p l. subst (λ (y : Bool). T y) (sym (alike_out t p l))))
          (within_in k c b (λ p l. subst (λ (y : Bool). T y) (alike_out t p l)))

  pub alike_behind : (s : Search) (a : ℕ → Bool) → T (alike k c b) → T (outranks s k a c) → T (outranks s k a b)
  alike_behind s a same t =
      let r = outranks→reason k a c s t in
      let own = condition s r.position in
      reason→outranks k a b s (record {
        position = r.position;
        below = r.below;
        ours = r.ours;
        theirs = λ p. r.theirs (subst (λ (y : Bool). T y) (sym (alike_out same r.position r.below)) p);
        unexcused =
            meets_out k a b own
            (subst (λ (y : Bool). T y) (meets_same k a c a b (λ p l. refl) (alike_out same) own) (meets_in k a c own r.unexcused));
      })

module _ (k : ℕ) where
  pub alike_refl : (c : ℕ → Bool) → T (alike k c c)
  alike_refl c = alike_in k c c (λ p l. refl)

  pub alike_sym : (c b : ℕ → Bool) → T (alike k c b) → T (alike k b c)
  alike_sym c b t = alike_in k b c (λ p l. sym (alike_out k c b t p l))

  pub alike_trans : (c b a : ℕ → Bool) → T (alike k c b) → T (alike k b a) → T (alike k c a)
  alike_trans c b a t u = alike_in k c a (λ p l. alike_out k c b t p l ∙ alike_out k b a u p l)

-- ---- level: none is ahead, and in MNS the labels are equal

abbrev pub Unranked : Search → ℕ → (ℕ → Bool) → (ℕ → Bool) → Type 0
Unranked s k c b = (T (outranks s k c b) → ⊥) × (T (outranks s k b c) → ⊥)

-- nobody is ahead of one with the same label
pub alike_unranked : (s : Search) (k : ℕ) (c b : ℕ → Bool) → T (alike k c b) → Unranked s k c b
alike_unranked s k c b t = (
  λ ahead. outranks_irreflexive s k c (alike_behind k b c s c (alike_sym k c b t) ahead),
  λ behind. outranks_irreflexive s k b (alike_behind k c b s b t behind),
)

-- both are empty or both are not
generic_level : (x y : Bool) → T ((x && y) || (not x && not y)) ↔ ((T (not x && y) → ⊥) × (T (not y && x) → ⊥))
generic_level true true = (λ t. (λ p. p, λ p. p), λ u. tt)
generic_level true false = (λ t. absurd t, λ u. u.1 tt)
generic_level false true = (λ t. absurd t, λ u. u.0 tt)
generic_level false false = (λ t. (λ p. p, λ p. p), λ u. tt)

-- two that are equal are in no order
equal_level : (before : ℕ → ℕ → Bool) → ((p q : ℕ) → T (before p q) ⊎ ((p ≡ q) ⊎ T (before q p))) → ((p : ℕ) → T (before p p) → ⊥) → (p q : ℕ)
    → T (eqb p q) ↔ ((T (before p q) → ⊥) × (T (before q p) → ⊥))
equal_level before compare irreflexive p q = (forth, λ u. back u (compare p q))
  where
    forth : T (eqb p q) → (T (before p q) → ⊥) × (T (before q p) → ⊥)
    forth t = let e = eqb→eq p q t in (
      λ x. irreflexive q (subst (λ (m : ℕ). T (before m q)) e x),
      λ x. irreflexive q (subst (λ (m : ℕ). T (before q m)) e x),
    )

    back : (T (before p q) → ⊥) × (T (before q p) → ⊥) → T (before p q) ⊎ ((p ≡ q) ⊎ T (before q p)) → T (eqb p q)
    back u (inl x) = absurd (u.0 x)
    back u (inr (inl e)) = subst (λ (m : ℕ). T (eqb p m)) e (eqb_refl p)
    back u (inr (inr x)) = absurd (u.1 x)

below_itself : (p : ℕ) → T (ltb p p) → ⊥
below_itself p t = omega (arith, ltb→lt p p t)

-- the positions that are compared are equal, or there is none in either
module _ (before : ℕ → ℕ → Bool) (pick : ℕ → (ℕ → Bool) → ℕ) (e : End before pick) (irreflexive : (p : ℕ) → T (before p p) → ⊥) (k : ℕ) (c b : ℕ → Bool) where
  nearer_level : T (same_value (cond (empty k c) none (some (pick k c))) (cond (empty k b) none (some (pick k b))))
      ↔ ((T (nearer before pick k c b) → ⊥) × (T (nearer before pick k b c) → ⊥))
  unfolding nearer same_value
  nearer_level = go (empty k c) (empty k b) (equal_level before e.compare irreflexive (pick k c) (pick k b))
    where
      go : (x y : Bool) → T (eqb (pick k c) (pick k b)) ↔ ((T (before (pick k c) (pick k b)) → ⊥) × (T (before (pick k b) (pick k c)) → ⊥))
          → T (same_value (cond x none (some (pick k c))) (cond y none (some (pick k b))))
          ↔ ((T (not x && (y || before (pick k c) (pick k b))) → ⊥) × (T (not y && (x || before (pick k b) (pick k c))) → ⊥))
      go true true h = (λ t. (λ p. p, λ p. p), λ u. tt)
      go true false h = (λ t. absurd t, λ u. u.1 tt)
      go false true h = (λ t. absurd t, λ u. u.0 tt)
      go false false h = h

-- where of two labels that differ one has a reason
connected_level : (s : Search) (k : ℕ) (c b : ℕ → Bool) → (T (any_below k (differ c b)) → Reason (condition s) k c b ⊎ Reason (condition s) k b c)
    → T (alike k c b) ↔ Unranked s k c b
unfolding alike
connected_level s k c b connected = (alike_unranked s k c b, λ u. not_T (any_below k (differ c b)) (λ t. against u (connected t)))
  where
    against : Unranked s k c b → Reason (condition s) k c b ⊎ Reason (condition s) k b c → ⊥
    against u (inl r) = u.0 (reason→outranks k c b s r)
    against u (inr r) = u.1 (reason→outranks k b c s r)

level_exactly : (s : Search) → s ≢ mns → (k : ℕ) (c b : ℕ → Bool) → T (level s k c b) ↔ Unranked s k c b
unfolding level outranks condition smallest_in largest_in
level_exactly generic other k c b = generic_level (empty k c) (empty k b)
level_exactly bfs other k c b = nearer_level earlier first_below low_end below_itself k c b
level_exactly dfs other k c b = nearer_level later last_below high_end below_itself k c b
level_exactly lex_bfs other k c b = connected_level lex_bfs k c b (settled_connected earlier first_below low_end k c b)
level_exactly lex_dfs other k c b = connected_level lex_dfs k c b (settled_connected later last_below high_end k c b)
level_exactly mns other k c b = absurd (other refl)
level_exactly mcs other k c b = equal_level later high_end.compare below_itself (count_below k c) (count_below k b)

pub not_mns : {s : Search} → (T (eqb (kind_of s) (kind_of mns)) → ⊥) → s ≢ mns
not_mns apart e = apart (subst (λ (x : Search). T (eqb (kind_of x) (kind_of mns))) (sym e) (eqb_refl (kind_of mns)))

-- what holds in MNS and in every other search holds in every search
pub except_mns : (P : Search → Type 0) → P mns → ((s : Search) → s ≢ mns → P s) → (s : Search) → P s
unfolding kind_of
except_mns P at-mns elsewhere s = go s
  where
    go : (x : Search) → P x
    go generic = elsewhere generic (not_mns (λ t. t))
    go bfs = elsewhere bfs (not_mns (λ t. t))
    go dfs = elsewhere dfs (not_mns (λ t. t))
    go lex_bfs = elsewhere lex_bfs (not_mns (λ t. t))
    go lex_dfs = elsewhere lex_dfs (not_mns (λ t. t))
    go mns = at-mns
    go mcs = elsewhere mcs (not_mns (λ t. t))

pub unranked_level : (s : Search) → s ≢ mns → (k : ℕ) (c b : ℕ → Bool) → Unranked s k c b → T (level s k c b)
unranked_level s other k c b = (level_exactly s other k c b).1

module _ (s : Search) (k : ℕ) where
  pub level_unranked : (c b : ℕ → Bool) → T (level s k c b) → Unranked s k c b
  unfolding level
  level_unranked c b = except_mns (λ x. T (level x k c b) → Unranked x k c b) (alike_unranked mns k c b) (λ x other. (level_exactly x other k c b).0) s

  pub alike_level : (c b : ℕ → Bool) → T (alike k c b) → T (level s k c b)
  unfolding level
  alike_level c b t = except_mns (λ x. T (level x k c b)) t (λ x other. unranked_level x other k c b (alike_unranked x k c b t)) s

  -- 02: K6, two empty labels are level in every kind
  pub empty_level : (c b : ℕ → Bool) → T (empty k c) → T (empty k b) → T (level s k c b)
  unfolding empty
  empty_level c b none-c none-b = alike_level c b (alike_in k c b (λ p l. same_test (c p) (b p) (λ t. absurd (T_not (any_below k c) none-c (any_at k c p l t))) (λ t. absurd (T_not (any_below k b) none-b (any_at k b p l t)))))

  -- ---- level is an equivalence

  pub level_refl : (c : ℕ → Bool) → T (level s k c c)
  level_refl c = alike_level c c (alike_refl k c)

  pub level_sym : (c b : ℕ → Bool) → T (level s k c b) → T (level s k b c)
  unfolding level
  level_sym c b =
      except_mns (λ x. T (level x k c b) → T (level x k b c)) (alike_sym k c b) (λ x other t.
      let u = (level_exactly x other k c b).0 t in
      unranked_level x other k b c (u.1, u.0)) s

  pub level_trans : (c b a : ℕ → Bool) → T (level s k c b) → T (level s k b a) → T (level s k c a)
  unfolding level
  level_trans c b a =
      except_mns (λ x. T (level x k c b) → T (level x k b a) → T (level x k c a)) (alike_trans k c b a) (λ x other t t'.
      let u = (level_exactly x other k c b).0 t in
      let u' = (level_exactly x other k b a).0 t' in
      unranked_level x other k c a (
        λ ahead. ⊎_elim u.0 u'.0 (outranks_cotransitive x other k c a b ahead),
        λ behind. ⊎_elim u'.1 u.1 (outranks_cotransitive x other k a c b behind),
      )) s

  -- ---- and does not change who is ahead

  pub level_behind : (c b a : ℕ → Bool) → T (level s k c b) → T (outranks s k a c) → T (outranks s k a b)
  unfolding level
  level_behind c b a =
      except_mns (λ x. T (level x k c b) → T (outranks x k a c) → T (outranks x k a b)) (alike_behind k c b mns a) (λ x other t ahead.
      ⊎_elim (λ found. found) (λ behind. absurd (((level_exactly x other k c b).0 t).1 behind)) (outranks_cotransitive x other k a c b ahead)) s

-- 02: K6, an unplaced vertex that is level with an offered one is offered
pub level_offered : (s : Search) (arc : ℕ → ℕ → Bool) (n : ℕ) (w : List ℕ) (k u v : ℕ) → u < n → (T (placed w k u) → ⊥)
    → T (level s k (label arc w u) (label arc w v)) → T (offered s arc n w k v) → T (offered s arc n w k u)
level_offered s arc n w k u v l unplaced t o = offered_in s arc n w k u (record {
  vertex = l;
  unplaced = unplaced;
  unbeaten = λ x h free ahead.
      (offered_out s arc n w k v o).unbeaten x h free (level_behind s k (label arc w u) (label arc w v) (label arc w x) t ahead);
})
