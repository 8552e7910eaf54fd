-- Who can be offered once a vertex was placed: where some of those that were offered are left, only these and the ones that the vertex leads to.
--   offers_within            those that none of a part of the free vertices is ahead of, if everyone outside it is behind one of it
--   offered_at               what is said of the vertices below 64 holds of every number
--   all_offered, none_reached   where no label has a position, all are; where nobody is reached, likewise
--   level_offered            those of a set that are all level are offered, if there are no others
--   still_free, ahead_of_closed   who was offered, and is not the vertex that was placed, is unplaced; and ahead of whom was not offered
--   narrows_next             a placing narrows the choice
--   offers_stay, offers_grown, offers_front   the three cases of it
--   spread_more, spread_gains, spread_only, reaches_spread   with the row of a placed vertex put in, no label loses a position, those of the row get one,
--                            nobody gets another, and the reached vertices have a label again
-- Assumes nothing.
use mathlib.Core.Path.{◌≡◌, refl, sym, ap, ◌∙◌, subst}
use mathlib.Core.Bool.{Bool, not, ◌&&◌, ◌||◌}
use mathlib.Core.Logic.{◌⊎◌, inl, inr, ⊎_elim, ◌≢◌}
use mathlib.Core.List.{List}
use Prim.Native.Nat.{ℕ, ◌≤◌, ◌<◌, ◌^◌}
use native.Mathlib.Omega.{arith}
use lib.Dec.{T, eqb, eqb→eq, eqb_refl, not_T, T_not}
use lib.ListN.{length, get_or}
use Rattle.bitset.specs.Below.{any_below}
use Rattle.bitset.specs.Word.{member, removed, difference, united, common}
use Rattle.bitset.proofs.Tests.{and_in, and_out, or_inl, or_inr, or_out, decided, same_test, is_false, below_or}
use Rattle.bitset.proofs.Below.{any_out, any_at}
use Rattle.bitset.proofs.Scan.{removed_in, removed_keeps}
use Rattle.bitset.proofs.Word as word
use Rattle.searches.specs.Kind.{Search, mns}
use Rattle.searches.proofs.Reason.{outranks→reason}
use Rattle.searches.proofs.AheadToo.{ahead_of_none}
use Rattle.searches.proofs.More.{outranks_more}
use Rattle.searches.proofs.StrictOrder.{outranks_transitive, outranks_cotransitive}
use Rattle.labels.specs.Words.{ahead_in, label_with, spread_to}
use Rattle.offers.specs.Open.{beaten_in, open_in, Offers, Level, Narrows, Covers, Reaches}
use Rattle.labels.proofs.Spreading.{member_joined}
use Rattle.labels.proofs.Spreading.{spread_above, spread_at}

module _ (s : Search) (labels : List ℕ) where
  abbrev label : ℕ → ℕ
  label v = get_or labels v 0

  -- who is ahead of v among the free
  abbrev beats : ℕ → ℕ → ℕ → Bool
  beats free v u = member free u && ahead_in s (label u) (label v)

  pub open_in_lem : (free v : ℕ) → T (member free v) → ((u : ℕ) → u < 64 → T (member free u) → T (ahead_in s (label u) (label v)) → ⊥) → T (open_in s labels free v)
  unfolding open_in beaten_in
  open_in_lem free v t none =
      and_in (member free v) (not (any_below 64 (beats free v))) t (not_T (any_below 64 (beats free v)) (λ y.
      let some = any_out 64 (beats free v) y in
      let both = and_out (member free some.at) (ahead_in s (label some.at) (label v)) some.holds in
      none some.at some.below both.0 both.1))

  pub open_out : (free v : ℕ) → T (open_in s labels free v) → T (member free v) × ((u : ℕ) → u < 64 → T (member free u) → T (ahead_in s (label u) (label v)) → ⊥)
  unfolding open_in beaten_in
  open_out free v t =
      let both = and_out (member free v) (not (any_below 64 (beats free v))) t in
      (both.0, λ u l x y. T_not (any_below 64 (beats free v)) both.1 (any_at 64 (beats free v) u l (and_in (member free u) (ahead_in s (label u) (label v)) x y)))

  -- who is free and not open is behind somebody
  beaten_by : (free v : ℕ) → T (member free v) → (T (open_in s labels free v) → ⊥) → (u : ℕ) × (u < 64) × T (member free u) × T (ahead_in s (label u) (label v))
  unfolding open_in beaten_in
  beaten_by free v t closed = go (decided (any_below 64 (beats free v)))
    where
      go : T (any_below 64 (beats free v)) ⊎ (T (any_below 64 (beats free v)) → ⊥) → (u : ℕ) × (u < 64) × T (member free u) × T (ahead_in s (label u) (label v))
      go (inl y) =
          let some = any_out 64 (beats free v) y in
          let both = and_out (member free some.at) (ahead_in s (label some.at) (label v)) some.holds in
          (some.at, some.below, both.0, both.1)
      go (inr n) = absurd (closed (and_in (member free v) (not (any_below 64 (beats free v))) t (not_T (any_below 64 (beats free v)) n)))

  pub offers_within : (free part set : ℕ) → ((u : ℕ) → u < 64 → T (member part u) → T (member free u))
      → ((v : ℕ) → v < 64 → T (member free v) → (T (member part v) → ⊥) → (u : ℕ) × (u < 64) × T (member part u) × T (ahead_in s (label u) (label v)))
      → Offers s labels part set → Offers s labels free set
  unfolding ahead_in
  offers_within free part set inside behind o = record {
    word = o.word;
    exact = λ other v l. o.exact other v l ∙ same_test (open_in s labels part v) (open_in s labels free v) (forth v l) (back v l);
  }
    where
      forth : (v : ℕ) → v < 64 → T (open_in s labels part v) → T (open_in s labels free v)
      forth v l t = let x = open_out part v t in open_in_lem free v (inside v l x.0) (λ u h y z. not_ahead u h y z x.1 (decided (member part u)))
        where
          not_ahead : (u : ℕ) → u < 64 → T (member free u) → T (ahead_in s (label u) (label v))
              → ((y : ℕ) → y < 64 → T (member part y) → T (ahead_in s (label y) (label v)) → ⊥) → T (member part u) ⊎ (T (member part u) → ⊥) → ⊥
          not_ahead u h y z none (inl p) = none u h p z
          not_ahead u h y z none (inr out) =
              let b = behind u h y out in
              none b.0 b.1 b.2 (outranks_transitive s 64 (member (label b.0)) (member (label u)) (member (label v)) b.3 z)

      back : (v : ℕ) → v < 64 → T (open_in s labels free v) → T (open_in s labels part v)
      back v l t = let x = open_out free v t in open_in_lem part v (there x (decided (member part v))) (λ u h y z. x.1 u h (inside u h y) z)
        where
          there : T (member free v) × ((u : ℕ) → u < 64 → T (member free u) → T (ahead_in s (label u) (label v)) → ⊥)
              → T (member part v) ⊎ (T (member part v) → ⊥) → T (member part v)
          there x (inl p) = p
          there x (inr out) = let b = behind v l x.0 out in absurd (x.1 b.0 b.1 (inside b.0 b.1 b.2) b.3)

  pub offered_at : {free set : ℕ} → Offers s labels free set → s ≢ mns → free < 2 ^ 64 → (v : ℕ) → member set v ≡ open_in s labels free v
  offered_at {free} {set} o other h v = go (below_or v 64)
    where
      go : (v < 64) ⊎ (64 ≤ v) → member set v ≡ open_in s labels free v
      go (inl l) = o.exact other v l
      go (inr l) =
          word.member_beyond 64 o.word v l
          ∙ sym (is_false (open_in s labels free v) (λ t. word.empty_back refl v (subst (λ (b : Bool). T b) (word.member_beyond 64 h v l ∙ sym (word.member_zero v)) (open_out free v t).0)))

  -- nobody is ahead of anybody
  pub level_offered : (set : ℕ) → set < 2 ^ 64 → Level s labels set → Offers s labels set set
  level_offered set h level = record {
    word = h;
    exact = λ _ v l. same_test (member set v) (open_in s labels set v) (λ t. open_in_lem set v t (λ u g x y. level u v g l x t y)) (λ t. (open_out set v t).0);
  }

  pub all_offered : (free : ℕ) → free < 2 ^ 64 → ((v : ℕ) → v < 64 → T (member free v) → label v ≡ 0) → Offers s labels free free
  unfolding ahead_in
  all_offered free h none = level_offered free h (λ u v l _ x _ y.
      let r = outranks→reason 64 (member (label u)) (member (label v)) s y in word.empty_back (none u l x) r.position r.ours)

  pub none_reached : (free reached : ℕ) → free < 2 ^ 64 → Covers reached labels → common free reached ≡ 0 → Offers s labels free free
  none_reached free reached h covers none = all_offered free h (λ v l f.
      covers v l (λ r. word.empty_back none v (subst (λ (b : Bool). T b) (sym (word.member_common free reached v)) (and_in (member free v) (member reached v) f r))))

  module _ (free stay grown : ℕ) (n : Narrows s labels free stay grown) (other : s ≢ mns) where
    -- whoever is in neither is behind one of those that stay
    behind_stay : (part x : ℕ) → x < 64 → T (member stay x) → T (member part x) → ((v : ℕ) → T (member stay v) → T (member part v)) → ((v : ℕ) → T (member grown v) → T (member part v))
        → (v : ℕ) → v < 64 → T (member free v) → (T (member part v) → ⊥) → (u : ℕ) × (u < 64) × T (member part u) × T (ahead_in s (label u) (label v))
    behind_stay part x h t p keeps takes v l f out = (x, h, p, n.behind other x v h l t f (λ y. out (keeps v y)) (λ y. out (takes v y)))

    -- what is in two sets together
    left_in : (a b v : ℕ) → T (member a v) → T (member (united a b) v)
    left_in a b v t = subst (λ (x : Bool). T x) (sym (word.member_united a b v)) (or_inl (member a v) (member b v) t)

    right_in : (a b v : ℕ) → T (member b v) → T (member (united a b) v)
    right_in a b v t = subst (λ (x : Bool). T x) (sym (word.member_united a b v)) (or_inr (member a v) (member b v) t)

    either_out : (a b v : ℕ) → T (member (united a b) v) → T (member a v) ⊎ T (member b v)
    either_out a b v t = or_out (member a v) (member b v) (subst (λ (x : Bool). T x) (word.member_united a b v) t)

    -- some of those that stay did not grow
    pub offers_stay : (still set x : ℕ) → still ≡ difference stay grown → x < 64 → T (member still x) → Offers s labels (united still grown) set → Offers s labels free set
    offers_stay still set x e h t =
        offers_within free (united still grown) set (λ u l y. inside u l (either_out still grown u y))
        (behind_stay (united still grown) x h (stayed x t) (left_in still grown x t) (λ v y. keeps v y (decided (member grown v))) (λ v y. right_in still grown v y))
      where
        in_still : (v : ℕ) → member still v ≡ (member stay v && not (member grown v))
        in_still v = ap (λ (y : ℕ). member y v) e ∙ word.member_difference stay grown v

        stayed : (v : ℕ) → T (member still v) → T (member stay v)
        stayed v y = (and_out (member stay v) (not (member grown v)) (subst (λ (b : Bool). T b) (in_still v) y)).0

        inside : (u : ℕ) → u < 64 → T (member still u) ⊎ T (member grown u) → T (member free u)
        inside u l (inl y) = n.stays other u l (stayed u y)
        inside u l (inr y) = n.grows u y

        keeps : (v : ℕ) → T (member stay v) → T (member grown v) ⊎ (T (member grown v) → ⊥) → T (member (united still grown) v)
        keeps v y (inl g) = right_in still grown v g
        keeps v y (inr out) =
            left_in still grown v (subst (λ (b : Bool). T b) (sym (in_still v)) (and_in (member stay v) (not (member grown v)) y (not_T (member grown v) out)))

    -- all of those that stay grew
    pub offers_grown : (all set x : ℕ) → ((v : ℕ) → member all v ≡ member grown v) → x < 64 → T (member stay x) → ((v : ℕ) → T (member stay v) → T (member grown v))
        → Offers s labels all set → Offers s labels free set
    offers_grown all set x same h t grew =
        offers_within free all set (λ u l y. n.grows u (subst (λ (b : Bool). T b) (same u) y))
        (behind_stay all x h t (subst (λ (b : Bool). T b) (sym (same x)) (grew x t)) (λ v y. subst (λ (b : Bool). T b) (sym (same v)) (grew v y)) (λ v y. subst (λ (b : Bool). T b) (sym (same v)) y))

  -- none of them stays: those that are reached are ahead of the others
  pub offers_front : (free reached all set x : ℕ) → Covers reached labels → Reaches reached free labels → ((v : ℕ) → member all v ≡ member (common free reached) v) → x < 64
      → T (member all x) → Offers s labels all set → Offers s labels free set
  unfolding ahead_in
  offers_front free reached all set x covers reaches same h t =
      offers_within free all set (λ u l y. (both u y).0) (λ v l f out.
      let some = any_out 64 (member (label x)) (reaches x h (both x t).0 (both x t).1) in (
        x,
        h,
        t,
        ahead_of_none s 64 (member (label x)) (member (label v)) some.at some.below some.holds
            (λ d _. word.empty_back (covers v l (λ r. out (subst (λ (b : Bool). T b) (sym (same v ∙ word.member_common free reached v)) (and_in (member free v) (member reached v) f r)))) d),
      ))
    where
      both : (u : ℕ) → T (member all u) → T (member free u) × T (member reached u)
      both u y = and_out (member free u) (member reached u) (subst (λ (b : Bool). T b) (same u ∙ word.member_common free reached u) y)

-- ---- a vertex more is placed

module _ (s : Search) (labels : List ℕ) (free offered b : ℕ) (o : Offers s labels free offered) (other : s ≢ mns) where
  -- whoever was open and is not b is unplaced
  pub still_free : (u : ℕ) → u < 64 → T (member (removed offered b) u) → T (open_in s labels free u) × T (member (removed free b) u)
  still_free u l t =
      let x = removed_in offered b u t in
      let opened = subst (λ (y : Bool). T y) (o.exact other u l) x.1 in
      (opened, removed_keeps free b u x.0 (open_out s labels free u opened).0)

  -- and ahead of whoever was not open
  pub ahead_of_closed : (u v : ℕ) → v < 64 → T (open_in s labels free u) → T (member (removed free b) v) → (T (member (removed offered b) v) → ⊥)
      → T (ahead_in s (get_or labels u 0) (get_or labels v 0))
  unfolding ahead_in
  ahead_of_closed u v h opened f out =
      let was = removed_in free b v f in
      let beaten = beaten_by s labels free v was.1 (λ x. out (removed_keeps offered b v was.0 (subst (λ (y : Bool). T y) (sym (o.exact other v h)) x))) in
      ⊎_elim (λ x. absurd ((open_out s labels free u opened).1 beaten.0 beaten.1 beaten.2 x)) (λ x. x)
      (outranks_cotransitive s other 64 (member (get_or labels beaten.0 0)) (member (get_or labels v 0)) (member (get_or labels u 0)) beaten.3)

-- b is placed: what is kept of those that it does not lead to stays, and no label loses a position
module _ (s : Search) (labels labels' : List ℕ) (free offered b grown : ℕ) (o : Offers s labels free offered)
    (grew : (v p : ℕ) → T (member (get_or labels v 0) p) → T (member (get_or labels' v 0) p))
    (kept : (v : ℕ) → v < 64 → T (member (removed free b) v) → (T (member grown v) → ⊥) → get_or labels' v 0 ≡ get_or labels v 0)
    (unplaced : (v : ℕ) → T (member grown v) → T (member (removed free b) v)) where
  pub narrows_next : Narrows s labels' (removed free b) (removed offered b) grown
  unfolding ahead_in
  narrows_next = record {
    stays = λ other u l t. (still_free s labels free offered b o other u l t).1;
    grows = unplaced;
    level = λ other u v l h t x y.
        let a = out u t in
        let c = out v x in
        let was = still_free s labels free offered b o other u l a.0 in
        let opened = still_free s labels free offered b o other v h c.0 in
        let same = kept u l was.1 a.1 in
        let same' = kept v h opened.1 c.1 in
        (open_out s labels free v opened.0).1 u l (open_out s labels free u was.0).0
        (subst (λ (z : ℕ). T (ahead_in s z (get_or labels v 0))) same (subst (λ (z : ℕ). T (ahead_in s (get_or labels' u 0) z)) same' y));
    behind = λ other u v l h t f no-stay no-grown.
        let ahead = ahead_of_closed s labels free offered b o other u v h (still_free s labels free offered b o other u l t).0 f no-stay in
        outranks_more 64 (member (get_or labels u 0)) (member (get_or labels' u 0)) (member (get_or labels' v 0)) (λ p _. grew u p) s
        (subst (λ (z : ℕ). T (ahead_in s (get_or labels u 0) z)) (sym (kept v h f no-grown)) ahead);
  }
    where
      out : (u : ℕ) → T (member (difference (removed offered b) grown) u) → T (member (removed offered b) u) × (T (member grown u) → ⊥)
      out u t =
          let both = and_out (member (removed offered b) u) (not (member grown u)) (subst (λ (y : Bool). T y) (word.member_difference (removed offered b) grown u) t) in
          (both.0, T_not (member grown u) both.1)

-- ---- the labels of those that it leads to

module _ (labels : List ℕ) (row p : ℕ) (bit : p < 64) (long : length labels ≡ 64) where
  -- what is in a label then
  spread_members : (v q : ℕ) → v < 64 → member (get_or (spread_to row p labels) v 0) q ≡ ((eqb p q && member row v) || member (get_or labels v 0) q)
  spread_members v q l = ap (λ (x : ℕ). member x q) (spread_at (label_with p) row labels 64 v (omega arith) l) ∙ member_joined row p v (get_or labels v 0) bit q

  -- no label loses a position
  pub spread_more : (v q : ℕ) → T (member (get_or labels v 0) q) → T (member (get_or (spread_to row p labels) v 0) q)
  spread_more v q t = go (below_or v 64)
    where
      go : (v < 64) ⊎ (64 ≤ v) → T (member (get_or (spread_to row p labels) v 0) q)
      go (inl l) = subst (λ (b : Bool). T b) (sym (spread_members v q l)) (or_inr (eqb p q && member row v) (member (get_or labels v 0) q) t)
      go (inr l) = subst (λ (x : ℕ). T (member x q)) (sym (spread_above (label_with p) row labels 64 v l)) t

  -- those that it leads to get the position, and nobody gets another
  pub spread_gains : (v : ℕ) → v < 64 → T (member row v) → T (member (get_or (spread_to row p labels) v 0) p)
  spread_gains v l t =
      subst (λ (b : Bool). T b) (sym (spread_members v p l)) (or_inl (eqb p p && member row v) (member (get_or labels v 0) p) (and_in (eqb p p) (member row v) (eqb_refl p) t))

  pub spread_only : (v q : ℕ) → v < 64 → T (member (get_or (spread_to row p labels) v 0) q) → T (member (get_or labels v 0) q) ⊎ ((q ≡ p) × T (member row v))
  spread_only v q l t =
      ⊎_elim (λ x. let both = and_out (eqb p q) (member row v) x in inr (sym (eqb→eq p q both.0), both.1)) (λ x. inl x)
      (or_out (eqb p q && member row v) (member (get_or labels v 0) q) (subst (λ (b : Bool). T b) (spread_members v q l) t))

pub reaches_spread : (labels : List ℕ) (reached free row b p : ℕ) → p < 64 → length labels ≡ 64 → Reaches reached free labels
    → Reaches (united reached row) (removed free b) (spread_to (common row (removed free b)) p labels)
reaches_spread labels reached free row b p bit long reaches v l f t = go (decided (member row v)) (or_out (member reached v) (member row v) (subst (λ (x : Bool). T x) (word.member_united reached row v) t))
  where
    grown : ℕ
    grown = common row (removed free b)

    go : T (member row v) ⊎ (T (member row v) → ⊥) → T (member reached v) ⊎ T (member row v) → T (any_below 64 (member (get_or (spread_to grown p labels) v 0)))
    go (inl r) either =
        any_at 64 (member (get_or (spread_to grown p labels) v 0)) p bit
        (spread_gains labels grown p bit long v l (subst (λ (x : Bool). T x) (sym (word.member_common row (removed free b) v)) (and_in (member row v) (member (removed free b) v) r f)))
    go (inr out) (inl r) =
        let some = any_out 64 (member (get_or labels v 0)) (reaches v l (removed_in free b v f).1 r) in
        any_at 64 (member (get_or (spread_to grown p labels) v 0)) some.at some.below (spread_more labels grown p bit long v some.at some.holds)
    go (inr out) (inr r) = absurd (out r)
