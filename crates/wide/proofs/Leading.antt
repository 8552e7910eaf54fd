-- A vertex that leads those that it was compared with, and one vertex more. Not for MNS.
--   leads_as                      the set may be told in another way
--   leads_alone                   a vertex leads itself
--   leads_next, leads_still       of the one that leads and one more: the second leads, or the first leads still
--   Joined first word i lead rest   `lead` leads whatever `first` leads together with the vertices of the word that are not in `rest`
--   joined_start, joined_next, joined_end
--   seen_start, seen_next, seen_all   a set taken word by word
-- Assumes nothing.
use mathlib.Core.Path.{◌≡◌, refl, sym, ap, ◌∙◌, subst}
use mathlib.Core.Bool.{Bool, true, false, not, ◌&&◌, ◌||◌}
use mathlib.Core.Logic.{◌⊎◌, inl, inr, ⊎_elim, ◌≢◌}
use mathlib.Core.List.{List}
use Prim.Native.Nat.{ℕ, suc, ◌+◌, ◌*◌, ◌/◌, ◌%◌, ◌≤◌, ◌<◌, ◌^◌}
use native.Mathlib.Omega.{arith}
use lib.Dec.{T, eqb, ltb, eqb→eq, eqb_refl, ltb→lt, nltb→le, lt→ltb, not_T, T_not}
use lib.ListN.{get_or}
use Rattle.bitset.specs.Word.{member, removed}
use Rattle.bitset.proofs.Tests.{and_in, and_out, or_inl, or_inr, or_out, decided, below_suc}
use Rattle.bitset.proofs.Word.{removed_word, empty_back}
use Rattle.bitset.proofs.Scan.{removed_in, removed_keeps}
use Rattle.searches.specs.Kind.{Search, mns}
use Rattle.searches.specs.Label.{outranks}
use Rattle.searches.proofs.StrictOrder.{outranks_irreflexive, outranks_transitive, outranks_cotransitive}
use Rattle.tables.specs.Rows.{in_set, row_of, in_word}
use Rattle.wide.specs.Choice.{Leads, seen}
use Rattle.tables.proofs.Bits.{in_word_lem, in_word-at}

module _ (s : Search) (labels ranks : List ℕ) where
  abbrev ahead : ℕ → ℕ → Bool
  ahead u v = outranks s 512 (row_of labels u) (row_of labels v)

  abbrev rank : ℕ → ℕ
  rank v = get_or ranks v 0

  pub leads_as : {f g : ℕ → Bool} {v : ℕ} → ((u : ℕ) → u < 512 → T (f u) → T (g u)) → ((u : ℕ) → u < 512 → T (g u) → T (f u)) → Leads s labels ranks f v → Leads s labels ranks g v
  leads_as {v = v} forth back r = record {
    vertex = r.vertex;
    member = forth v r.vertex r.member;
    unbeaten = λ u l t. r.unbeaten u l (back u l t);
    last = λ u l t. r.last u l (back u l t);
  }

  pub leads_alone : (v : ℕ) → v < 512 → Leads s labels ranks (λ u. eqb v u) v
  leads_alone v l = record {
    vertex = l;
    member = eqb_refl v;
    unbeaten = λ u h t. subst (λ (x : ℕ). T (ahead x v) → ⊥) (eqb→eq v u t) (outranks_irreflexive s 512 (row_of labels v));
    last = λ u h t _. subst (λ (x : ℕ). rank x ≤ rank v) (eqb→eq v u t) (omega arith);
  }

  module _ (other : s ≢ mns) (lead next : ℕ) (l : next < 512) (among : ℕ → Bool) (r : Leads s labels ranks among lead) where
    abbrev more : ℕ → Bool
    more v = among v || eqb next v

    -- next is ahead of lead, or level with it and behind it in the tie-break
    takes : ((u : ℕ) → u < 512 → T (among u) → T (ahead u next) → ⊥) → ((u : ℕ) → u < 512 → T (among u) → (T (ahead next u) → ⊥) → rank u ≤ rank next) → Leads s labels ranks more next
    takes unbeaten last = record {
      vertex = l;
      member = or_inr (among next) (eqb next next) (eqb_refl next);
      unbeaten = λ u h t. ⊎_elim (unbeaten u h) (λ e. (leads_alone next l).unbeaten u h e) (or_out (among u) (eqb next u) t);
      last = λ u h t. ⊎_elim (last u h) (λ e. (leads_alone next l).last u h e) (or_out (among u) (eqb next u) t);
    }

    by_label : T (ahead next lead) → Leads s labels ranks more next
    by_label a =
        takes (λ u h t b. r.unbeaten u h t (outranks_transitive s 512 (row_of labels u) (row_of labels next) (row_of labels lead) b a))
        (λ u h t out. ⊎_elim (λ x. absurd (out x)) (λ x. absurd (r.unbeaten u h t x)) (outranks_cotransitive s other 512 (row_of labels next) (row_of labels lead) (row_of labels u) a))

    by_rank : (T (ahead lead next) → ⊥) → rank lead < rank next → Leads s labels ranks more next
    by_rank out behind =
        takes (λ u h t b. ⊎_elim (r.unbeaten u h t) out (outranks_cotransitive s other 512 (row_of labels u) (row_of labels next) (row_of labels lead) b))
        (λ u h t not_ahead. lower u (r.last u h t (λ a. ⊎_elim out not_ahead (outranks_cotransitive s other 512 (row_of labels lead) (row_of labels u) (row_of labels next) a))))
      where
        lower : (u : ℕ) → rank u ≤ rank lead → rank u ≤ rank next
        lower u h = omega arith

    stays : (T (ahead next lead) → ⊥) → ((T (ahead lead next) → ⊥) → rank next ≤ rank lead) → Leads s labels ranks more lead
    stays out before = record {
      vertex = r.vertex;
      member = or_inl (among lead) (eqb next lead) r.member;
      unbeaten = λ u h t. ⊎_elim (r.unbeaten u h) (λ e. subst (λ (x : ℕ). T (ahead x lead) → ⊥) (eqb→eq next u e) out) (or_out (among u) (eqb next u) t);
      last = λ u h t. ⊎_elim (r.last u h) (λ e. subst (λ (x : ℕ). (T (ahead lead x) → ⊥) → rank x ≤ rank lead) (eqb→eq next u e) before) (or_out (among u) (eqb next u) t);
    }

    module _ {a e : Bool} (is-ahead : a ≡ ahead next lead) (is-level : e ≡ (not (ahead next lead) && not (ahead lead next))) where
      pub leads_next : (a || (e && ltb (rank lead) (rank next))) ≡ true → Leads s labels ranks more next
      leads_next told =
          ⊎_elim (λ t. by_label (subst (λ (b : Bool). T b) is-ahead t))
          (λ t.
          let both = and_out e (ltb (rank lead) (rank next)) t in
          let level = and_out (not (ahead next lead)) (not (ahead lead next)) (subst (λ (b : Bool). T b) is-level both.0) in
          by_rank (T_not (ahead lead next) level.1) (ltb→lt (rank lead) (rank next) both.1))
          (or_out a (e && ltb (rank lead) (rank next)) (subst (λ (b : Bool). T b) (sym told) tt))

      pub leads_still : (a || (e && ltb (rank lead) (rank next))) ≡ false → Leads s labels ranks more lead
      leads_still told =
          stays (λ t. fails (or_inl a (e && ltb (rank lead) (rank next)) (subst (λ (b : Bool). T b) (sym is-ahead) t))) (λ out. before out (decided (ltb (rank lead) (rank next))))
        where
          fails : T (a || (e && ltb (rank lead) (rank next))) → ⊥
          fails t = subst (λ (b : Bool). T b) told t

          before : (T (ahead lead next) → ⊥) → T (ltb (rank lead) (rank next)) ⊎ (T (ltb (rank lead) (rank next)) → ⊥) → rank next ≤ rank lead
          before out (inl t) =
              absurd (fails (or_inr a (e && ltb (rank lead) (rank next)) (and_in e (ltb (rank lead) (rank next)) (subst (λ (b : Bool). T b) (sym is-level)
              (and_in (not (ahead next lead)) (not (ahead lead next))
              (not_T (ahead next lead) (λ x. fails (or_inl a (e && ltb (rank lead) (rank next)) (subst (λ (b : Bool). T b) (sym is-ahead) x)))) (not_T (ahead lead next) out))) t)))
          before out (inr f) = nltb→le (rank lead) (rank next) (not_T (ltb (rank lead) (rank next)) f)

  -- ---- the vertices of a word

  module _ (first word i : ℕ) where
    -- in the word, and taken out
    abbrev met : ℕ → ℕ → Bool
    met rest v = in_word word i v && not (in_word rest i v)

    pub record Joined (lead rest : ℕ) : Type 0 where
      pub vertex : lead < 512
      pub left : rest < 2 ^ 64
      pub part : (q : ℕ) → T (member rest q) → T (member word q)
      pub leads : (among : ℕ → Bool) → Leads s labels ranks among first → Leads s labels ranks (λ v. among v || met rest v) lead

    pub joined_start : first < 512 → word < 2 ^ 64 → Joined first word
    joined_start l h = record {
      vertex = l;
      left = h;
      part = λ q t. t;
      leads = λ among r. leads_as (λ u _ t. or_inl (among u) (met word u) t)
          (λ u _ t. ⊎_elim (λ x. x) (λ x. let both = and_out (in_word word i u) (not (in_word word i u)) x in absurd (T_not (in_word word i u) both.1 both.0)) (or_out (among u) (met word u) t)) r;
    }

    module _ {lead rest : ℕ} (r : Joined lead rest) (q : ℕ) (l : q < 64) (t : T (member rest q)) where
      met_more : (v : ℕ) → T (met rest v) ⊎ T (eqb (64 * i + q) v) → T (met (removed rest q) v)
      unfolding in_word
      met_more v (inl m) =
          let both = and_out (in_word word i v) (not (in_word rest i v)) m in
          and_in (in_word word i v) (not (in_word (removed rest q) i v)) both.0 (not_T (in_word (removed rest q) i v) (λ x.
          let y = and_out (eqb (v / 64) i) (member (removed rest q) (v % 64)) x in
          T_not (in_word rest i v) both.1 (and_in (eqb (v / 64) i) (member rest (v % 64)) y.0 (removed_in rest q (v % 64) y.1).1)))
      met_more v (inr e) = subst (λ (x : ℕ). T (met (removed rest q) x)) (eqb→eq (64 * i + q) v e)
          (and_in (in_word word i (64 * i + q)) (not (in_word (removed rest q) i (64 * i + q))) (subst (λ (b : Bool). T b) (sym (in_word-at word i q l)) (r.part q t))
          (not_T (in_word (removed rest q) i (64 * i + q)) (λ x. (removed_in rest q q (subst (λ (b : Bool). T b) (in_word-at (removed rest q) i q l) x)).0 refl)))

      met_fewer : (v : ℕ) → T (met (removed rest q) v) → T (met rest v) ⊎ T (eqb (64 * i + q) v)
      unfolding in_word
      met_fewer v m = go (decided (eqb (64 * i + q) v))
        where
          go : T (eqb (64 * i + q) v) ⊎ (T (eqb (64 * i + q) v) → ⊥) → T (met rest v) ⊎ T (eqb (64 * i + q) v)
          go (inl e) = inr e
          go (inr apart) =
              let both = and_out (in_word word i v) (not (in_word (removed rest q) i v)) m in
              inl (and_in (in_word word i v) (not (in_word rest i v)) both.0 (not_T (in_word rest i v) (λ x.
              let y = and_out (eqb (v / 64) i) (member rest (v % 64)) x in
              let word_is : v / 64 ≡ i = eqb→eq (v / 64) i y.0 in
              T_not (in_word (removed rest q) i v) both.1 (and_in (eqb (v / 64) i) (member (removed rest q) (v % 64)) y.0 (removed_keeps rest q (v % 64)
              (λ same. apart (subst (λ (z : ℕ). T (eqb (64 * i + q) z)) (let e : 64 * i + q ≡ v = omega arith in e) (eqb_refl (64 * i + q)))) y.1)))))

      pub joined_next : {lead' : ℕ} → ((among : ℕ → Bool) → Leads s labels ranks among lead → Leads s labels ranks (λ v. among v || eqb (64 * i + q) v) lead') → Joined lead' (removed rest q)
      joined_next step = record {
        vertex = (step (λ u. eqb lead u) (leads_alone lead r.vertex)).vertex;
        left = removed_word r.left q;
        part = λ p x. r.part p (removed_in rest q p x).1;
        leads = λ among x. leads_as (λ u _. forth among u) (λ u _. back among u) (step (λ v. among v || met rest v) (r.leads among x));
      }
        where
          forth : (among : ℕ → Bool) (u : ℕ) → T ((among u || met rest u) || eqb (64 * i + q) u) → T (among u || met (removed rest q) u)
          forth among u x =
              ⊎_elim (λ y. ⊎_elim (λ z. or_inl (among u) (met (removed rest q) u) z) (λ z. or_inr (among u) (met (removed rest q) u) (met_more u (inl z))) (or_out (among u) (met rest u) y))
              (λ y. or_inr (among u) (met (removed rest q) u) (met_more u (inr y))) (or_out (among u || met rest u) (eqb (64 * i + q) u) x)

          back : (among : ℕ → Bool) (u : ℕ) → T (among u || met (removed rest q) u) → T ((among u || met rest u) || eqb (64 * i + q) u)
          back among u x =
              ⊎_elim (λ y. or_inl (among u || met rest u) (eqb (64 * i + q) u) (or_inl (among u) (met rest u) y))
              (λ y. ⊎_elim (λ z. or_inl (among u || met rest u) (eqb (64 * i + q) u) (or_inr (among u) (met rest u) z)) (λ z. or_inr (among u || met rest u) (eqb (64 * i + q) u) z) (met_fewer u y))
              (or_out (among u) (met (removed rest q) u) x)

    pub joined_end : {lead rest : ℕ} → Joined lead rest → rest ≡ 0 → (among : ℕ → Bool) → Leads s labels ranks among first → Leads s labels ranks (λ v. among v || in_word word i v) lead
    unfolding in_word
    joined_end {lead} {rest} r over among x =
        leads_as (λ u _ t. ⊎_elim (λ y. or_inl (among u) (in_word word i u) y) (λ y. or_inr (among u) (in_word word i u) (and_out (in_word word i u) (not (in_word rest i u)) y).0) (or_out (among u) (met rest u) t))
        (λ u _ t. ⊎_elim (λ y. or_inl (among u) (met rest u) y)
        (λ y. or_inr (among u) (met rest u) (and_in (in_word word i u) (not (in_word rest i u)) y (not_T (in_word rest i u) (λ z. empty_back over (u % 64) (and_out (eqb (u / 64) i) (member rest (u % 64)) z).1))))
        (or_out (among u) (in_word word i u) t)) (r.leads among x)

  -- ---- a set taken word by word

  module _ (set : List ℕ) (first : ℕ) where
    -- the first vertex, and those of the words below i
    abbrev pub up_to : ℕ → ℕ → Bool
    up_to i v = eqb first v || seen set i v

    pub seen_start : first < 512 → Leads s labels ranks (up_to 0) first
    unfolding seen
    seen_start l =
        leads_as (λ u _ t. or_inl (eqb first u) (seen set 0 u) t)
        (λ u _ t. ⊎_elim (λ x. x) (λ x. absurd (nothing u (ltb→lt (u / 64) 0 (and_out (ltb (u / 64) 0) (in_set set u) x).0))) (or_out (eqb first u) (seen set 0 u) t)) (leads_alone first l)
      where
        nothing : (u : ℕ) → u / 64 < 0 → ⊥
        nothing u h = omega arith

    pub seen_next : (i : ℕ) {lead : ℕ} → Leads s labels ranks (λ v. up_to i v || in_word (get_or set i 0) i v) lead → Leads s labels ranks (up_to (i + 1)) lead
    unfolding seen in_word
    seen_next i = leads_as forth back
      where
        word : ℕ
        word = get_or set i 0

        in_it : (u : ℕ) → u < 512 → u / 64 ≡ i → in_set set u ≡ member word (u % 64)
        in_it u l e = in_word_lem set u l ∙ ap (λ (x : ℕ). member (get_or set x 0) (u % 64)) e

        see : (u : ℕ) → u / 64 < i + 1 → T (in_set set u) → T (up_to (i + 1) u)
        see u h t = or_inr (eqb first u) (seen set (i + 1) u) (and_in (ltb (u / 64) (i + 1)) (in_set set u) (lt→ltb (u / 64) (i + 1) h) t)

        forth : (u : ℕ) → u < 512 → T (up_to i u || in_word word i u) → T (up_to (i + 1) u)
        forth u l t = ⊎_elim (λ x. ⊎_elim (λ y. or_inl (eqb first u) (seen set (i + 1) u) y) earlier (or_out (eqb first u) (seen set i u) x)) now (or_out (up_to i u) (in_word word i u) t)
          where
            earlier : T (seen set i u) → T (up_to (i + 1) u)
            earlier x =
                let both = and_out (ltb (u / 64) i) (in_set set u) x in
                let h : u / 64 < i = ltb→lt (u / 64) i both.0 in
                see u (omega arith) both.1

            now : T (in_word word i u) → T (up_to (i + 1) u)
            now x =
                let both = and_out (eqb (u / 64) i) (member word (u % 64)) x in
                let e : u / 64 ≡ i = eqb→eq (u / 64) i both.0 in
                see u (omega arith) (subst (λ (b : Bool). T b) (sym (in_it u l e)) both.1)

        back : (u : ℕ) → u < 512 → T (up_to (i + 1) u) → T (up_to i u || in_word word i u)
        back u l t = ⊎_elim (λ x. or_inl (up_to i u) (in_word word i u) (or_inl (eqb first u) (seen set i u) x)) met_now (or_out (eqb first u) (seen set (i + 1) u) t)
          where
            met_now : T (seen set (i + 1) u) → T (up_to i u || in_word word i u)
            met_now x = go (below_suc i (u / 64) (let h : u / 64 < suc i = omega (arith, ltb→lt (u / 64) (i + 1) both.0) in h))
              where
                both : T (ltb (u / 64) (i + 1)) × T (in_set set u)
                both = and_out (ltb (u / 64) (i + 1)) (in_set set u) x

                go : (u / 64 < i) ⊎ (u / 64 ≡ i) → T (up_to i u || in_word word i u)
                go (inl h) = or_inl (up_to i u) (in_word word i u) (or_inr (eqb first u) (seen set i u) (and_in (ltb (u / 64) i) (in_set set u) (lt→ltb (u / 64) i h) both.1))
                go (inr e) =
                    or_inr (up_to i u) (in_word word i u)
                    (and_in (eqb (u / 64) i) (member word (u % 64)) (subst (λ (x : ℕ). T (eqb (u / 64) x)) e (eqb_refl (u / 64))) (subst (λ (b : Bool). T b) (in_it u l e) both.1))

    pub seen_all : {i lead : ℕ} → T (in_set set first) → 8 ≤ i → Leads s labels ranks (up_to i) lead → Leads s labels ranks (in_set set) lead
    unfolding seen
    seen_all {i} inside h =
        leads_as
        (λ u _ t. ⊎_elim (λ e. subst (λ (x : ℕ). T (in_set set x)) (eqb→eq first u e) inside) (λ x. (and_out (ltb (u / 64) i) (in_set set u) x).1) (or_out (eqb first u) (seen set i u) t))
        (λ u l t. or_inr (eqb first u) (seen set i u) (and_in (ltb (u / 64) i) (in_set set u) (lt→ltb (u / 64) i (omega arith)) t))
