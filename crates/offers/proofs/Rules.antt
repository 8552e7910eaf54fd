-- Generic, BFS and DFS have a rule that names who is offered once a vertex b was placed at position p, without a comparison: the vertices that lead. All
-- positions in the labels of before are below p, so p is the largest of every label that it is put into, and the smallest only where it is alone.
--   leads_offers     who leads is offered, and nobody else;   leads_none   nobody leads by the empty set;   rule_word   what a rule names is a word
--   generic_leads    in Generic those that are reached lead
--   bfs_leads        in BFS those that were offered and reached before
--   dfs_leads        in DFS those that b leads to
--   rule_leads       so whoever a search names by its rule leads
-- Assumes nothing.
use mathlib.Core.Path.{◌≡◌, refl, sym, subst}
use mathlib.Core.Bool.{Bool}
use mathlib.Core.Logic.{◌⊎◌, inl, inr, ◌≢◌}
use mathlib.Core.List.{List}
use Prim.Native.Nat.{ℕ, zero, suc, ◌<◌, ◌^◌}
use native.Mathlib.Omega.{arith}
use lib.Dec.{T, ltb, ltb→lt, lt→ltb}
use lib.ListN.{get_or}
use Rattle.bitset.specs.Below.{first_below}
use Rattle.bitset.specs.Word.{member, removed, common}
use Rattle.bitset.proofs.Tests.{and_in, and_out, decided}
use Rattle.bitset.proofs.Below.{Some, any_out}
use Rattle.bitset.proofs.Scan.{first_member}
use Rattle.bitset.proofs.Word as word
use Rattle.searches.specs.Kind.{Search, generic, bfs, dfs, mns, search_of}
use Rattle.searches.specs.Violation.{condition}
use Rattle.searches.proofs.Reason.{outranks→reason, reason→outranks}
use Rattle.searches.proofs.AheadToo.{ahead_of_none}
use Rattle.labels.specs.Words.{ahead_in}
use Rattle.labels.proofs.Comparison.{search_of_mns}
use Rattle.offers.specs.Open.{open_in, Offers, Leads, by_rule, Covers, Reaches}
use Rattle.offers.proofs.Narrowing.{open_out, offers_within, level_offered, still_free, ahead_of_closed}

pub leads_offers : (s : Search) (labels : List ℕ) (free set : ℕ) → set < 2 ^ 64 → 0 < set → Leads s labels free set → Offers s labels free set
leads_offers s labels free set h some leads =
    let x = first_member set h some in
    let first = first_below 64 (member set) in
    offers_within s labels free set set leads.inside (λ v l f out. (first, x.0, x.1, leads.ahead first v x.0 l x.1 f out))
    (level_offered s labels set h leads.level)

pub leads_none : (s : Search) (labels : List ℕ) (free : ℕ) → Leads s labels free 0
leads_none s labels free = record {
  inside = λ u _ t. absurd (nobody u t);
  level = λ u _ _ _ t _ _. nobody u t;
  ahead = λ u _ _ _ t _ _. absurd (nobody u t);
}
  where
    nobody : (u : ℕ) → T (member 0 u) → ⊥
    nobody u t = subst (λ (b : Bool). T b) (word.member_zero u) t

-- a rule names a word
pub rule_word : (kind : ℕ) {front early grown : ℕ} → front < 2 ^ 64 → early < 2 ^ 64 → grown < 2 ^ 64 → by_rule kind front early grown < 2 ^ 64
unfolding by_rule
rule_word zero f e g = f
rule_word (suc zero) f e g = e
rule_word (suc (suc zero)) f e g = g
rule_word (suc (suc (suc kind))) f e g = omega arith

-- ---- Generic

-- what is in two sets
both_out : (x y v : ℕ) → T (member (common x y) v) → T (member x v) × T (member y v)
both_out x y v t = and_out (member x v) (member y v) (subst (λ (b : Bool). T b) (word.member_common x y v) t)

both_in : (x y v : ℕ) → T (member x v) → T (member y v) → T (member (common x y) v)
both_in x y v t r = subst (λ (b : Bool). T b) (sym (word.member_common x y v)) (and_in (member x v) (member y v) t r)

pub generic_leads : (labels : List ℕ) (free reached : ℕ) → Covers reached labels → Reaches reached free labels → Leads generic labels free (common free reached)
unfolding ahead_in condition
generic_leads labels free reached covers reaches = record {
  inside = λ u _ t. (both_out free reached u t).0;
  level = λ u v _ l _ t ahead.
      let r = outranks→reason 64 (member (get_or labels u 0)) (member (get_or labels v 0)) generic ahead in
      let has = reached_some v l t in
      r.unexcused has.at has.below has.holds tt;
  ahead = λ u v l h t f out.
      let has = reached_some u l t in
      ahead_of_none generic 64 (member (get_or labels u 0)) (member (get_or labels v 0)) has.at has.below has.holds
      (λ d _. word.empty_back (covers v h (λ r. out (both_in free reached v f r))) d);
}
  where
    reached_some : (v : ℕ) → v < 64 → T (member (common free reached) v) → Some 64 (member (get_or labels v 0))
    reached_some v l t = let both = both_out free reached v t in any_out 64 (member (get_or labels v 0)) (reaches v l both.0 both.1)

-- ---- a vertex more is placed, at position p

module _ (labels labels' : List ℕ) (grown p : ℕ) (bit : p < 64) (earlier : (v q : ℕ) → v < 64 → T (member (get_or labels v 0) q) → q < p)
    (kept : (v q : ℕ) → v < 64 → T (member (get_or labels v 0) q) → T (member (get_or labels' v 0) q))
    (gains : (v : ℕ) → v < 64 → T (member grown v) → T (member (get_or labels' v 0) p))
    (only : (v q : ℕ) → v < 64 → T (member (get_or labels' v 0) q) → T (member (get_or labels v 0) q) ⊎ ((q ≡ p) × T (member grown v))) where
  pub dfs_leads : (free : ℕ) → ((v : ℕ) → T (member grown v) → T (member free v)) → Leads dfs labels' free grown
  unfolding ahead_in condition
  dfs_leads free unplaced = record {
    inside = λ u _ t. unplaced u t;
    level = λ u v l h _ x ahead.
        let r = outranks→reason 64 (member (get_or labels' u 0)) (member (get_or labels' v 0)) dfs ahead in
        not_before u v l h x r.position r.theirs (λ l'. r.unexcused p bit (gains v h x) (lt→ltb r.position p l')) (only u r.position l r.ours);
    ahead = λ u v l h t _ out. reason→outranks 64 (member (get_or labels' u 0)) (member (get_or labels' v 0)) dfs (record {
      position = p;
      below = bit;
      ours = gains u l t;
      theirs = λ x. not_there v h out (only v p h x);
      unexcused = λ d _ x before. not_after v h d (ltb→lt p d before) (only v d h x);
    });
  }
    where
      not_before : (u v : ℕ) → u < 64 → v < 64 → T (member grown v) → (i : ℕ) → (T (member (get_or labels' v 0) i) → ⊥) → (i < p → ⊥)
          → T (member (get_or labels u 0) i) ⊎ ((i ≡ p) × T (member grown u)) → ⊥
      not_before u v l h x i theirs before (inl t) = before (earlier u i l t)
      not_before u v l h x i theirs before (inr e) = theirs (subst (λ (q : ℕ). T (member (get_or labels' v 0) q)) (sym e.0) (gains v h x))

      not_there : (v : ℕ) → v < 64 → (T (member grown v) → ⊥) → T (member (get_or labels v 0) p) ⊎ ((p ≡ p) × T (member grown v)) → ⊥
      not_there v h out (inl t) = let l = earlier v p h t in omega arith
      not_there v h out (inr e) = out e.1

      not_after : (v : ℕ) → v < 64 → (d : ℕ) → p < d → T (member (get_or labels v 0) d) ⊎ ((d ≡ p) × T (member grown v)) → ⊥
      not_after v h d after (inl t) = let l = earlier v d h t in omega arith
      not_after v h d after (inr e) = let same = e.0 in omega arith

  not_mns : bfs ≢ mns
  unfolding search_of
  not_mns = search_of_mns 1 (λ e. omega (arith, e))

  module _ (free offered reached b : ℕ) (o : Offers bfs labels free offered) (covers : Covers reached labels) (reaches : Reaches reached free labels) where
    abbrev early : ℕ
    early = common (removed offered b) reached

    -- who was offered and reached has a position, and was not beaten
    was : (u : ℕ) → u < 64 → T (member early u) → Some 64 (member (get_or labels u 0)) × T (open_in bfs labels free u) × T (member (removed free b) u)
    was u l t =
        let both = both_out (removed offered b) reached u t in
        let opened = still_free bfs labels free offered b o not_mns u l both.0 in
        (any_out 64 (member (get_or labels u 0)) (reaches u l (open_out bfs labels free u opened.0).0 both.1), opened.0, opened.1)

    pub bfs_leads : Leads bfs labels' (removed free b) early
    unfolding ahead_in condition
    bfs_leads = record {
      inside = λ u l t. (was u l t).2;
      level = λ u v l h t x ahead.
          let r = outranks→reason 64 (member (get_or labels' u 0)) (member (get_or labels' v 0)) bfs ahead in
          let has = (was v h x).0 in
          not_ahead u v (was u l t).1 (was v h x).1 l h r.position r.below (λ y. r.theirs (kept v r.position h y)) (λ d g y z. r.unexcused d g (kept v d h y) z)
          (λ e. r.unexcused has.at has.below (kept v has.at h has.holds) (lt→ltb has.at r.position (subst (λ (q : ℕ). has.at < q) (sym e) (earlier v has.at h has.holds))))
          (only u r.position l r.ours);
      ahead = λ u v l h t f out.
          let has = was u l t in
          let r = outranks→reason 64 (member (get_or labels u 0)) (member (get_or labels v 0)) bfs (before u v l h has f out (decided (member reached v))) in
          let below = earlier u r.position l r.ours in
          reason→outranks 64 (member (get_or labels' u 0)) (member (get_or labels' v 0)) bfs (record {
            position = r.position;
            below = r.below;
            ours = kept u r.position l r.ours;
            theirs = λ x. not_there v r.position below r.theirs (only v r.position h x);
            unexcused = λ d g x z. not_sooner v d r.position below (ltb→lt d r.position z) (λ y. r.unexcused d g y z) (only v d h x);
          });
    }
      where
        not_ahead : (u v : ℕ) → T (open_in bfs labels free u) → T (open_in bfs labels free v) → u < 64 → v < 64 → (i : ℕ) → i < 64 → (T (member (get_or labels v 0) i) → ⊥)
            → ((d : ℕ) → d < 64 → T (member (get_or labels v 0) d) → T (ltb d i) → ⊥) → (i ≡ p → ⊥) → T (member (get_or labels u 0) i) ⊎ ((i ≡ p) × T (member grown u)) → ⊥
        not_ahead u v open-u open-v l h i below theirs none late (inl t) =
            (open_out bfs labels free v open-v).1 u l (open_out bfs labels free u open-u).0
            (reason→outranks 64 (member (get_or labels u 0)) (member (get_or labels v 0)) bfs (record { position = i; below = below; ours = t; theirs = theirs; unexcused = none }))
        not_ahead u v open-u open-v l h i below theirs none late (inr e) = late e.0

        before : (u v : ℕ) → u < 64 → v < 64 → Some 64 (member (get_or labels u 0)) × T (open_in bfs labels free u) × T (member (removed free b) u) → T (member (removed free b) v)
            → (T (member early v) → ⊥) → T (member reached v) ⊎ (T (member reached v) → ⊥) → T (ahead_in bfs (get_or labels u 0) (get_or labels v 0))
        before u v l h has f out (inl r) =
            ahead_of_closed bfs labels free offered b o not_mns u v h has.1 f (λ y. out (both_in (removed offered b) reached v y r))
        before u v l h has f out (inr unreached) =
            ahead_of_none bfs 64 (member (get_or labels u 0)) (member (get_or labels v 0)) has.0.at has.0.below has.0.holds (λ d _. word.empty_back (covers v h unreached) d)

        not_there : (v i : ℕ) → i < p → (T (member (get_or labels v 0) i) → ⊥) → T (member (get_or labels v 0) i) ⊎ ((i ≡ p) × T (member grown v)) → ⊥
        not_there v i l none (inl t) = none t
        not_there v i l none (inr e) = let same = e.0 in omega arith

        not_sooner : (v d i : ℕ) → i < p → d < i → (T (member (get_or labels v 0) d) → ⊥) → T (member (get_or labels v 0) d) ⊎ ((d ≡ p) × T (member grown v)) → ⊥
        not_sooner v d i l g none (inl t) = none t
        not_sooner v d i l g none (inr e) = let same = e.0 in omega arith

-- the three rules together
pub rule_leads : (kind : ℕ) (labels : List ℕ) (free front early grown : ℕ) → (search_of kind ≡ generic → Leads generic labels free front)
    → (search_of kind ≡ bfs → Leads bfs labels free early) → (search_of kind ≡ dfs → Leads dfs labels free grown) → Leads (search_of kind) labels free (by_rule kind front early grown)
unfolding search_of by_rule
rule_leads zero labels free front early grown g b d = g refl
rule_leads (suc zero) labels free front early grown g b d = b refl
rule_leads (suc (suc zero)) labels free front early grown g b d = d refl
rule_leads (suc (suc (suc kind))) labels free front early grown g b d = leads_none (search_of (suc (suc (suc kind)))) labels free
