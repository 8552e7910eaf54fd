-- When an open walk is well formed, and what the words of the moment then say.
--   plan_length, walk_length         there are n rows and k places
--   parts, of-parts                  the tests that well-formedness is made of
--   well_formed_out, well_formed_in  well_formed: condition by condition
--   surveyed_broken, surveyed_judged whether survey hands back a moment: where a test fails, and where judge decides
--   surveyed_words, surveyed_weighed the words of the moment, and their weights
--   open_offers, free_offers, compared_stance   the words of the moment decide who is offered, who is placed and how two stand to each other
--   free_none, free_some             and whether all that are not barred are placed
-- Assumes nothing.
use Prim.Native.Nat.{ℕ, ◌+◌, ◌^◌, ◌≤◌, ◌<◌}
use mathlib.Core.Path.{◌≡◌, sym, ap, ap₂, ◌∙◌, subst}
use mathlib.Core.Bool.{Bool, true, false, not, ◌&&◌}
use mathlib.Core.List.{List}
use native.Mathlib.Omega.{arith}
use lib.Dec.{T, leb, eqb, leb→le, le→leb, eqb→eq, eqb_refl, not_T, T_not}
use lib.ListN.{length, get_or}
use lib.Seq.{length-take-le}
use Rattle.bitset.specs.Below.{count_below}
use Rattle.bitset.specs.Word.{member}
use Rattle.bitset.proofs.Tests.{and_in, and_out, is_true, is_false}
use Rattle.bitset.proofs.Count.{count_none}
use Rattle.bitset.proofs.Scan.{removed_size}
use Rattle.bitset.proofs.Word as word
use Rattle.searches.specs.Kind.{Search, search_of}
use Rattle.searches.specs.Ordering.{arcs, at, placed, IsOrdering}
use Rattle.searches.specs.Without.{IsKeptOrdering, judge_without}
use Rattle.searches.specs.Answer.{is_pass, open_tests, Accepts, unbarred, open_tests_barring, judge_barring}
use Rattle.searches.proofs.Ordering.{ordering_fits}
use Rattle.searches.proofs.Answers.{both_accept, is_pass_in, is_pass_out}
use Rattle.searches.proofs.Barring as barring
use Rattle.searches.proofs.Kept.{offered_kept}
use Rattle.searches.proofs.OfferedKept.{offered_kept_lem, compared_kept}
use Rattle.searches.proofs.NoneBarred.{offered_alike}
use Rattle.labels.specs.Words.{Weighed, compared_in}
use Rattle.offers.specs.Open.{open_in}
use Rattle.steps.specs.Steps.{whole, AreVertices, labels_after, free_after}
use Rattle.steps.proofs.Representation.{open_offered, free_stays, free_word, free_unplaced, free_size, whole_unbarred, whole_inside, whole_count, whole_word, compared_same}
use Rattle.engine.specs.declared.after.Moment.{Moment}
use Rattle.traversal.specs.declared.Traversal.{Traversal}
use Rattle.lookup.proofs.Unused.{unused_out, unused_in}
use Rattle.traversal.specs.State.{plan, walk, in_service, well_formed, Surveyed, WellFormed, offers}
use Rattle.lookup.specs.Unused.{used_from}
use Rattle.traversal.specs.Compare.{stance}

-- the tests one by one
pub record Parts (t : Traversal) : Type 0 where
  pub points : t.n ≤ 64
  pub places : t.k ≤ t.n
  pub rows_unused : T (used_from t.n t.rows) → ⊥
  pub places_unused : T (used_from t.k t.ordering) → ⊥
  pub passes_judge : T (is_pass (judge_barring t.kind.0 t.mark (plan t) t.barred (walk t)))

pub parts : (t : Traversal) → T (well_formed t) → Parts t
unfolding well_formed
parts t x =
    let a = leb t.n 64 in
    let b = leb t.k t.n in
    let c = not (used_from t.n t.rows) in
    let d = not (used_from t.k t.ordering) in
    let e = is_pass (judge_barring t.kind.0 t.mark (plan t) t.barred (walk t)) in
    let abcd = and_out (a && b && c && d) e x in
    let abc = and_out (a && b && c) d abcd.0 in
    let ab = and_out (a && b) c abc.0 in
    let two = and_out a b ab.0 in
    record {
      points = leb→le t.n 64 two.0;
      places = leb→le t.k t.n two.1;
      rows_unused = T_not (used_from t.n t.rows) ab.1;
      places_unused = T_not (used_from t.k t.ordering) abc.1;
      passes_judge = abcd.1;
    }

-- where the others hold, the last test decides
pub by_judge : (t : Traversal) → t.n ≤ 64 → t.k ≤ t.n → (T (used_from t.n t.rows) → ⊥) → (T (used_from t.k t.ordering) → ⊥)
    → is_pass (judge_barring t.kind.0 t.mark (plan t) t.barred (walk t)) ≡ well_formed t
unfolding well_formed
by_judge t points places rows_unused places_unused =
    sym (ap (λ (b : Bool). b && is_pass (judge_barring t.kind.0 t.mark (plan t) t.barred (walk t)))
    (is_true (leb t.n 64 && leb t.k t.n && not (used_from t.n t.rows) && not (used_from t.k t.ordering))
    (and_in (leb t.n 64 && leb t.k t.n && not (used_from t.n t.rows)) (not (used_from t.k t.ordering))
    (and_in (leb t.n 64 && leb t.k t.n) (not (used_from t.n t.rows))
    (and_in (leb t.n 64) (leb t.k t.n) (le→leb t.n 64 points) (le→leb t.k t.n places))
    (not_T (used_from t.n t.rows) rows_unused)) (not_T (used_from t.k t.ordering) places_unused))))

-- ---- whether survey hands back a moment

pub surveyed_broken : (t : Traversal) → (T (well_formed t) → ⊥) → false ≡ well_formed t
surveyed_broken t broken = sym (is_false (well_formed t) broken)

pub surveyed_judged : (t : Traversal) {there : Bool} → there ≡ is_pass (judge_barring t.kind.0 t.mark (plan t) t.barred (walk t))
    → is_pass (judge_barring t.kind.0 t.mark (plan t) t.barred (walk t)) ≡ well_formed t → there ≡ well_formed t
surveyed_judged t is decides = is ∙ decides

-- the weights are those of a search of the walk's kind
pub surveyed_weighed : (t : Traversal) {m : Moment} → Surveyed t m → Weighed (search_of t.kind.0) m.labels.words m.labels.weights
surveyed_weighed t {m} is = subst (λ (kind : ℕ). Weighed (search_of kind) m.labels.words m.labels.weights) is.of_kind m.labels.weighed

-- an open walk as it can arrive: its arrays have 64 entries
module _ (t : Traversal) (rows-full : length t.rows ≡ 64) (ordering-full : length t.ordering ≡ 64) where
  pub plan_length : t.n ≤ 64 → length (plan t) ≡ t.n
  unfolding plan
  plan_length l = length-take-le t.n t.rows (omega arith)

  pub walk_length : t.k ≤ 64 → length (walk t) ≡ t.k
  unfolding walk
  walk_length l = length-take-le t.k t.ordering (omega arith)

  pub well_formed_out : T (well_formed t) → WellFormed t
  well_formed_out x =
      let p = parts t x in
      let n = plan_length p.points in
      let k = walk_length (omega (arith, p.points, p.places)) in
      let passed = is_pass_out (judge_barring t.kind.0 t.mark (plan t) t.barred (walk t)) p.passes_judge in
      let accepted = barring.passes_accepts t.kind.0 t.mark (plan t) t.barred (walk t) passed in
      let fits = barring.judged_kept t.kind.0 t.mark (plan t) t.barred (walk t) accepted in
      record {
        points = p.points;
        valid = barring.valid_graph t.kind.0 t.mark (plan t) t.barred fits.0;
        set_inside = λ v l below m.
            barring.valid_set t.kind.0 t.mark (plan t) t.barred fits.0 (barring.barred_outside_in t.barred (length (plan t)) v below (omega arith) m);
        distinct = subst (λ (m : ℕ). IsOrdering m (walk t) t.k) n (subst (λ (m : ℕ). IsOrdering (length (plan t)) (walk t) m) k fits.1.ordering);
        stays = λ q l. fits.1.stays q (omega arith);
        passing =
            ap₂ (λ (a b : ℕ). judge_without (search_of t.kind.0) (arcs (plan t)) a (unbarred t.barred) (walk t) b) (sym n) (sym k)
            ∙ sym (barring.judge_accepted t.kind.0 t.mark (plan t) t.barred (walk t) accepted) ∙ passed;
        rows_unused = unused_out t.n t.rows p.rows_unused;
        places_unused = unused_out t.k t.ordering p.places_unused;
      }

  pub well_formed_in : WellFormed t → T (well_formed t)
  unfolding open_tests_barring
  well_formed_in x =
      let n = plan_length x.points in
      let fits = ordering_fits t.n x.distinct in
      let k = walk_length (omega (arith, x.points, fits)) in
      let kept : IsKeptOrdering (length (plan t)) (unbarred t.barred) (walk t) (length (walk t)) =
      record {
        ordering = subst (λ (m : ℕ). IsOrdering m (walk t) (length (walk t))) (sym n) (subst (λ (m : ℕ). IsOrdering t.n (walk t) m) (sym k) x.distinct);
        stays = λ q l. x.stays q (omega arith);
      }
      in
      let valid : Accepts (open_tests_barring t.kind.0 t.mark (plan t) t.barred) =
      both_accept (open_tests t.kind.0 t.mark (plan t)) _ x.valid
      (λ u. let out = barring.barred_outside_out t.barred (length (plan t)) u in x.set_inside out.0 (omega (arith, out.2, n)) out.1 out.3, tt)
      in
      subst (λ (b : Bool). T b)
      (by_judge t x.points fits (unused_in t.n t.rows x.rows_unused) (unused_in t.k t.ordering x.places_unused))
      (is_pass_in (judge_barring t.kind.0 t.mark (plan t) t.barred (walk t))
      (barring.judge_accepted t.kind.0 t.mark (plan t) t.barred (walk t) (barring.kept_judged t.kind.0 t.mark (plan t) t.barred (walk t) valid kept)
      ∙ ap₂ (λ (a b : ℕ). judge_without (search_of t.kind.0) (arcs (plan t)) a (unbarred t.barred) (walk t) b) n k ∙ x.passing))

  -- ---- the words of the moment

  pub surveyed_words : {m : Moment} → Surveyed t m → T (well_formed t)
      → (m.labels.words ≡ labels_after (plan t) (whole t.n t.barred) (walk t) t.k) × (m.free ≡ free_after (whole t.n t.barred) (walk t) t.k)
  surveyed_words is x =
      let p = parts t x in
      let n = plan_length p.points in
      let k = walk_length (omega (arith, p.points, p.places)) in (
        is.words ∙ ap₂ (λ (m j : ℕ). labels_after (plan t) (whole m t.barred) (walk t) j) n k,
        is.free ∙ ap₂ (λ (m j : ℕ). free_after (whole m t.barred) (walk t) j) n k,
      )

  module _ (x : WellFormed t) {labels : List ℕ} {free : ℕ} (labelled : labels ≡ labels_after (plan t) (whole t.n t.barred) (walk t) t.k)
      (unplaced : free ≡ free_after (whole t.n t.barred) (walk t) t.k) where
    abbrev s : Search
    s = search_of t.kind.0

    -- the vertices that are not barred
    abbrev all : ℕ
    all = whole t.n t.barred

    small : length (plan t) ≤ 64
    small = omega (arith, plan_length x.points, x.points)

    inside : AreVertices (length (plan t)) all
    inside v m = omega (arith, whole_inside x.points t.barred v m, plan_length x.points)

    distinct : IsOrdering (length (plan t)) (walk t) t.k
    distinct = subst (λ (m : ℕ). IsOrdering m (walk t) t.k) (sym (plan_length x.points)) x.distinct

    -- who is unplaced is not barred
    free_kept : (v : ℕ) → T (member free v) → (v < t.n) × T (unbarred t.barred v)
    free_kept v m =
        let here = free_stays all (walk t) t.k v (subst (λ (f : ℕ). T (member f v)) unplaced m) in
        let l = whole_inside x.points t.barred v here in
        (l, subst (λ (b : Bool). T b) (whole_unbarred x.points t.barred v l) here)

    pub open_offers : (v : ℕ) → open_in s labels free v ≡ offers t v
    unfolding offers
    open_offers v =
        ap₂ (λ (ls : List ℕ) (f : ℕ). open_in s ls f v) labelled unplaced
        ∙ open_offered s (plan t) all (walk t) t.k small inside distinct t.k (omega arith) v
        ∙ ap (λ (m : ℕ). offered_kept s (arcs (plan t)) m (member all) (walk t) t.k v) (plan_length x.points)
        ∙ offered_alike s (arcs (plan t)) t.n (member all) (unbarred t.barred) (whole_unbarred x.points t.barred) (walk t) t.k v
        ∙ sym (offered_kept_lem s (arcs (plan t)) t.n (unbarred t.barred) (walk t) t.k x.distinct x.stays v)

    pub compared_stance : (u v : ℕ) → T (member free u) → T (member free v) → compared_in s (get_or labels u 0) (get_or labels v 0) ≡ stance t u v
    unfolding stance
    compared_stance u v a b =
        let first = free_kept u a in
        let second = free_kept v b in
        ap (λ (ls : List ℕ). compared_in s (get_or ls u 0) (get_or ls v 0)) labelled
        ∙ compared_same s (plan t) all (walk t) t.k small inside distinct t.k u v (omega arith)
        (subst (λ (f : ℕ). T (member f u)) unplaced a) (subst (λ (f : ℕ). T (member f v)) unplaced b)
        ∙ sym (compared_kept s (arcs (plan t)) t.n (unbarred t.barred) (walk t) t.k x.distinct x.stays u v first.0 second.0 first.1 second.1)

    pub free_offers : (v : ℕ) → v < t.n → (T (member t.barred v) → ⊥) → member free v ≡ not (placed (walk t) t.k v)
    unfolding unbarred
    free_offers v l out =
        ap (λ (f : ℕ). member f v) unplaced
        ∙ free_unplaced all (walk t) t.k v (subst (λ (b : Bool). T b) (sym (whole_unbarred x.points t.barred v l)) (not_T (member t.barred v) out))

    -- as many are unplaced as are left of those that are not barred
    free_left : t.k + count_below 64 (member free) ≡ in_service t
    unfolding in_service
    free_left =
        let same : count_below 64 (member free) ≡ count_below 64 (member (free_after all (walk t) t.k)) = ap (λ (f : ℕ). count_below 64 (member f)) unplaced in
        let stays : (q : ℕ) → q < t.k → T (member all (at (walk t) q)) =
        λ q l. subst (λ (b : Bool). T b) (sym (whole_unbarred x.points t.barred (at (walk t) q) (x.distinct.vertices q l))) (x.stays q l)
        in
        omega (arith, same, free_size all (walk t) t.k x.points x.distinct stays t.k (omega arith), whole_count x.points t.barred)

    -- none is unplaced exactly where all that are not barred are placed
    pub free_none : free ≡ 0 → eqb t.k (in_service t) ≡ true
    free_none e =
        let none_there = count_none 64 (member free) (λ v _. word.empty_back e v) in
        let all_there : t.k ≡ in_service t = omega (arith, none_there, free_left) in
        is_true (eqb t.k (in_service t)) (subst (λ (m : ℕ). T (eqb t.k m)) all_there (eqb_refl t.k))

    pub free_some : 0 < free → eqb t.k (in_service t) ≡ false
    free_some l =
        let fits : free < 2 ^ 64 = subst (λ (f : ℕ). f < 2 ^ 64) (sym unplaced) (free_word all (walk t) (whole_word t.n t.barred) t.k) in
        let one = word.some_member 64 fits l in
        let less = removed_size free one.at one.below one.holds in
        is_false (eqb t.k (in_service t)) (λ e. omega (arith, eqb→eq t.k (in_service t) e, less, free_left))
