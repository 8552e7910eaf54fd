-- Going through vertices and keeping those that nobody met so far is ahead of. Not for MNS.
--   Leading all rest best lead    of the vertices of `all` that were met, which are those outside `rest`, `best` are the ones that none is ahead of, and
--                                 their label is level with `lead`, the label of one of them
--   leading_start, leading_next, leading_end
-- Assumes nothing.
use mathlib.Core.Path.{◌≡◌, refl, sym, ap, ap₂, ◌∙◌, subst}
use mathlib.Core.Bool.{Bool, cond, not, ◌&&◌}
use mathlib.Core.Logic.{◌⊎◌, inl, inr, ⊎_elim, ◌≢◌}
use mathlib.Core.List.{List}
use Prim.Native.Nat.{ℕ, ◌<◌, ◌^◌}
use native.Mathlib.Omega.{arith}
use lib.Dec.{T, eqb, eqb→eq, eqb_refl, not_T, T_not}
use lib.ListN.{get_or}
use Rattle.bitset.specs.Below.{any_below}
use Rattle.bitset.specs.Word.{member, inserted, removed, united}
use Rattle.bitset.proofs.Tests.{and_in, and_out, or_inl, or_inr, or_out, decided, same_test, is_true, is_false}
use Rattle.bitset.proofs.Below.{any_out, any_at}
use Rattle.bitset.proofs.Scan.{removed_in, removed_keeps}
use Rattle.bitset.proofs.Word as word
use Rattle.searches.specs.Kind.{Search, mns}
use Rattle.searches.proofs.StrictOrder.{outranks_irreflexive, outranks_transitive, outranks_cotransitive}
use Rattle.labels.specs.Words.{ahead_in}
use Rattle.offers.specs.Open.{beaten_in, open_in, Offers, Level}

module _ (s : Search) (other : s ≢ mns) (labels : List ℕ) where
  abbrev label : ℕ → ℕ
  label v = get_or labels v 0

  pub record Leading (all rest best lead : ℕ) : Type 0 where
    pub word : best < 2 ^ 64
    pub left : rest < 2 ^ 64
    pub part : (v : ℕ) → T (member rest v) → T (member all v)
    pub inside : (v : ℕ) → v < 64 → T (member best v) → T (member all v) × (T (ahead_in s lead (label v)) → ⊥)
    pub found : (v : ℕ) → v < 64 → T (member all v) → (T (member rest v) → ⊥) → (T (ahead_in s lead (label v)) → ⊥) → T (member best v)
    pub top : (v : ℕ) → v < 64 → T (member all v) → (T (member rest v) → ⊥) → T (ahead_in s (label v) lead) → ⊥
    pub leader : ℕ
    pub below : leader < 64
    pub held : T (member all leader)
    pub shown : label leader ≡ lead

  in_either : (known rivals v : ℕ) → T (member known v) ⊎ T (member rivals v) → T (member (united known rivals) v)
  in_either known rivals v (inl t) = subst (λ (b : Bool). T b) (sym (word.member_united known rivals v)) (or_inl (member known v) (member rivals v) t)
  in_either known rivals v (inr t) = subst (λ (b : Bool). T b) (sym (word.member_united known rivals v)) (or_inr (member known v) (member rivals v) t)

  in_known : (known rivals v : ℕ) → T (member (united known rivals) v) → (T (member rivals v) → ⊥) → T (member known v)
  in_known known rivals v t out = go (or_out (member known v) (member rivals v) (subst (λ (b : Bool). T b) (word.member_united known rivals v) t))
    where
      go : T (member known v) ⊎ T (member rivals v) → T (member known v)
      go (inl x) = x
      go (inr x) = absurd (out x)

  pub leading_start : (known rivals first : ℕ) {lead : ℕ} → known < 2 ^ 64 → rivals < 2 ^ 64 → Level s labels known → first < 64 → T (member known first)
      → lead ≡ label first → Leading (united known rivals) rivals known lead
  leading_start known rivals first h g level l t e = subst (λ (x : ℕ). Leading (united known rivals) rivals known x) (sym e) (record {
    word = h;
    left = g;
    part = λ v u. in_either known rivals v (inr u);
    inside = λ v b u. (in_either known rivals v (inl u), level first v l b t u);
    found = λ v b u out _. in_known known rivals v u out;
    top = λ v b u out. level v first b l (in_known known rivals v u out) t;
    leader = first;
    below = l;
    held = in_either known rivals first (inl t);
    shown = refl;
  })

  module _ {all rest best lead : ℕ} (r : Leading all rest best lead) (u : ℕ) (l : u < 64) (t : T (member rest u)) where
    -- who is not left is u, or was not left before
    met : (v : ℕ) → (T (member (removed rest u) v) → ⊥) → (u ≡ v) ⊎ (T (member rest v) → ⊥)
    met v out = go (decided (eqb u v))
      where
        go : T (eqb u v) ⊎ (T (eqb u v) → ⊥) → (u ≡ v) ⊎ (T (member rest v) → ⊥)
        go (inl e) = inl (eqb→eq u v e)
        go (inr apart) = inr (λ x. out (removed_keeps rest u v (λ same. apart (subst (λ (y : ℕ). T (eqb u y)) same (eqb_refl u))) x))

    -- u is ahead of all that were met
    takes : T (ahead_in s (label u) lead) → Leading all (removed rest u) (inserted 0 u) (label u)
    unfolding ahead_in
    takes ahead = record {
      word = word.inserted_word (omega arith) u;
      left = word.removed_word r.left u;
      part = λ v x. r.part v (removed_in rest u v x).1;
      inside = λ v b x. at_u v (only v x);
      found = λ v b x out not_behind. alone v b x not_behind (met v out);
      top = λ v b x out. highest v b x (met v out);
      leader = u;
      below = l;
      held = r.part u t;
      shown = refl;
    }
      where
        only : (v : ℕ) → T (member (inserted 0 u) v) → u ≡ v
        only v x = go (or_out (eqb u v) (member 0 v) (subst (λ (b : Bool). T b) (word.member_inserted 0 l v) x))
          where
            go : T (eqb u v) ⊎ T (member 0 v) → u ≡ v
            go (inl e) = eqb→eq u v e
            go (inr z) = absurd (word.empty_back refl v z)

        at_u : (v : ℕ) → u ≡ v → T (member all v) × (T (ahead_in s (label u) (label v)) → ⊥)
        at_u v e = subst (λ (y : ℕ). T (member all y) × (T (ahead_in s (label u) (label y)) → ⊥)) e (r.part u t, outranks_irreflexive s 64 (member (label u)))

        alone : (v : ℕ) → v < 64 → T (member all v) → (T (ahead_in s (label u) (label v)) → ⊥) → (u ≡ v) ⊎ (T (member rest v) → ⊥) → T (member (inserted 0 u) v)
        alone v b x not_behind (inl e) =
            subst (λ (y : ℕ). T (member (inserted 0 u) y)) e
            (subst (λ (b : Bool). T b) (sym (word.member_inserted 0 l u)) (or_inl (eqb u u) (member 0 u) (eqb_refl u)))
        alone v b x not_behind (inr out) =
            ⊎_elim (λ y. absurd (not_behind y)) (λ y. absurd (r.top v b x out y))
            (outranks_cotransitive s other 64 (member (label u)) (member lead) (member (label v)) ahead)

        highest : (v : ℕ) → v < 64 → T (member all v) → (u ≡ v) ⊎ (T (member rest v) → ⊥) → T (ahead_in s (label v) (label u)) → ⊥
        highest v b x (inl e) y = outranks_irreflexive s 64 (member (label u)) (subst (λ (z : ℕ). T (ahead_in s (label z) (label u))) (sym e) y)
        highest v b x (inr out) y = r.top v b x out (outranks_transitive s 64 (member (label v)) (member (label u)) (member lead) y ahead)

    -- u is not ahead, and joins where it is not behind
    stays : (best' : ℕ) → best' < 2 ^ 64 → ((v : ℕ) → T (member best' v) → ((u ≡ v) × (T (ahead_in s lead (label u)) → ⊥)) ⊎ T (member best v))
        → ((v : ℕ) → T (member best v) → T (member best' v)) → ((T (ahead_in s lead (label u)) → ⊥) → T (member best' u))
        → (T (ahead_in s (label u) lead) → ⊥) → Leading all (removed rest u) best' lead
    stays best' h which keeps joins not_ahead = record {
      word = h;
      left = word.removed_word r.left u;
      part = λ v x. r.part v (removed_in rest u v x).1;
      inside = λ v b x. at_v v b (which v x);
      found = λ v b x out not_behind. there v b x not_behind (met v out);
      top = λ v b x out. not_higher v b x (met v out);
      leader = r.leader;
      below = r.below;
      held = r.held;
      shown = r.shown;
    }
      where
        at_v : (v : ℕ) → v < 64 → ((u ≡ v) × (T (ahead_in s lead (label u)) → ⊥)) ⊎ T (member best v) → T (member all v) × (T (ahead_in s lead (label v)) → ⊥)
        at_v v b (inl x) = subst (λ (y : ℕ). T (member all y) × (T (ahead_in s lead (label y)) → ⊥)) x.0 (r.part u t, x.1)
        at_v v b (inr x) = r.inside v b x

        there : (v : ℕ) → v < 64 → T (member all v) → (T (ahead_in s lead (label v)) → ⊥) → (u ≡ v) ⊎ (T (member rest v) → ⊥) → T (member best' v)
        there v b x not_behind (inl e) =
            subst (λ (y : ℕ). T (member best' y)) e (joins (λ z. not_behind (subst (λ (y : ℕ). T (ahead_in s lead (label y))) e z)))
        there v b x not_behind (inr out) = keeps v (r.found v b x out not_behind)

        not_higher : (v : ℕ) → v < 64 → T (member all v) → (u ≡ v) ⊎ (T (member rest v) → ⊥) → T (ahead_in s (label v) lead) → ⊥
        not_higher v b x (inl e) y = not_ahead (subst (λ (z : ℕ). T (ahead_in s (label z) lead)) (sym e) y)
        not_higher v b x (inr out) y = r.top v b x out y

    pub leading_next : {ahead level : Bool} {best' lead' : ℕ} → ahead ≡ ahead_in s (label u) lead → level ≡ (not (ahead_in s (label u) lead) && not (ahead_in s lead (label u)))
        → best' ≡ cond ahead (inserted 0 u) (cond level (inserted best u) best) → lead' ≡ cond ahead (label u) lead → Leading all (removed rest u) best' lead'
    leading_next {ahead} {level} {best'} {lead'} is-ahead is-level at-best at-lead =
        subst (λ (x : ℕ). Leading all (removed rest u) best' x) (sym (at-lead ∙ ap (λ (b : Bool). cond b (label u) lead) is-ahead))
        (subst (λ (x : ℕ). Leading all (removed rest u) x (cond (ahead_in s (label u) lead) (label u) lead))
        (sym (at-best ∙ ap₂ (λ (a b : Bool). cond a (inserted 0 u) (cond b (inserted best u) best)) is-ahead is-level))
        (go (decided (ahead_in s (label u) lead)) (decided (ahead_in s lead (label u)))))
      where
        c : Bool
        c = ahead_in s (label u) lead

        d : Bool
        d = ahead_in s lead (label u)

        go : T c ⊎ (T c → ⊥) → T d ⊎ (T d → ⊥) → Leading all (removed rest u) (cond c (inserted 0 u) (cond (not c && not d) (inserted best u) best)) (cond c (label u) lead)
        go (inl y) z =
            subst (λ (b : Bool). Leading all (removed rest u) (cond b (inserted 0 u) (cond (not b && not d) (inserted best u) best)) (cond b (label u) lead)) (sym (is_true c y)) (takes y)
        go (inr n) (inl z) =
            subst (λ (b : Bool). Leading all (removed rest u) (cond b (inserted 0 u) (cond (not b && not d) (inserted best u) best)) (cond b (label u) lead)) (sym (is_false c n))
            (subst (λ (b : Bool). Leading all (removed rest u) (cond (not b) (inserted best u) best) lead) (sym (is_true d z))
            (stays best r.word (λ v x. inr x) (λ v x. x) (λ out. absurd (out z)) n))
        go (inr n) (inr m) =
            subst (λ (b : Bool). Leading all (removed rest u) (cond b (inserted 0 u) (cond (not b && not d) (inserted best u) best)) (cond b (label u) lead)) (sym (is_false c n))
            (subst (λ (b : Bool). Leading all (removed rest u) (cond (not b) (inserted best u) best) lead) (sym (is_false d m))
            (stays (inserted best u) (word.inserted_word r.word u) (λ v x. joined v (or_out (eqb u v) (member best v) (subst (λ (b : Bool). T b) (word.member_inserted best l v) x)))
            (λ v x. subst (λ (b : Bool). T b) (sym (word.member_inserted best l v)) (or_inr (eqb u v) (member best v) x))
            (λ out. subst (λ (b : Bool). T b) (sym (word.member_inserted best l u)) (or_inl (eqb u u) (member best u) (eqb_refl u))) n))
          where
            joined : (v : ℕ) → T (eqb u v) ⊎ T (member best v) → ((u ≡ v) × (T d → ⊥)) ⊎ T (member best v)
            joined v (inl e) = inl (eqb→eq u v e, m)
            joined v (inr x) = inr x

  pub leading_end : {all rest best lead : ℕ} → Leading all rest best lead → rest ≡ 0 → Offers s labels all best
  unfolding open_in beaten_in ahead_in
  leading_end {all} {rest} {best} {lead} r over = record { word = r.word; exact = λ _ v l. same_test (member best v) (open_in s labels all v) (forth v l) (back v l) }
    where
      gone : (v : ℕ) → T (member rest v) → ⊥
      gone v = word.empty_back over v

      beats : ℕ → ℕ → Bool
      beats v u = member all u && ahead_in s (label u) (label v)

      forth : (v : ℕ) → v < 64 → T (member best v) → T (open_in s labels all v)
      forth v l t =
          let x = r.inside v l t in
          and_in (member all v) (not (any_below 64 (beats v))) x.0 (not_T (any_below 64 (beats v)) (λ y.
          let some = any_out 64 (beats v) y in
          let both = and_out (member all some.at) (ahead_in s (label some.at) (label v)) some.holds in
          ⊎_elim (λ z. r.top some.at some.below both.0 (gone some.at) z) (λ z. x.1 z)
          (outranks_cotransitive s other 64 (member (label some.at)) (member (label v)) (member lead) both.1)))

      back : (v : ℕ) → v < 64 → T (open_in s labels all v) → T (member best v)
      back v l t =
          let both = and_out (member all v) (not (any_below 64 (beats v))) t in
          r.found v l both.0 (gone v) (λ z. T_not (any_below 64 (beats v)) both.1
          (any_at 64 (beats v) r.leader r.below
          (and_in (member all r.leader) (ahead_in s (label r.leader) (label v)) r.held (subst (λ (y : ℕ). T (ahead_in s y (label v))) (sym r.shown) z))))
