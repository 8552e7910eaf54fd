-- What the calls answer where nothing is refused, and when that is, in whatever form the graph is given: for any tests on it, any arcs and any number of
-- vertices. `Answers` cites this for rows, `WideAnswers` for tables.
--   accepts_both, both_accept        tests one behind the other
--   clear, all_inside, none_repeated       an ordering is what the tests on its vertices let through
--   is_pass_in, is_pass_out                  the verdict that is passed
--   ordering_accepted, accepted_ordering   judge refuses no ordering of a valid graph, and nothing else passes its tests
--   ListsOf, lists_accepted, accepted_lists, StartOf, start_accepted, accepted_start   likewise for carry-on
--   judge_accepted, judge_refused, refused_judge   judge's answer, refused and not;   passes_accepts   what passes is not refused
--   prefix_judged                          judge's answer on a prefix
--   carry_on_done, carry_on-kept             what carry-on leaves in the output list
-- Assumes nothing.
use mathlib.Core.Path.{◌≡◌, refl, sym, ap, ◌∙◌, subst}
use mathlib.Core.Logic.{◌⊎◌, inl, inr, ⊎_elim}
use mathlib.Core.Bool.{Bool, not, ◌||◌}
use mathlib.Core.List.{List, [], ◌∷◌, ◌++◌}
use Prim.Native.Nat.{ℕ, ◌≤◌, ◌<◌}
use native.Mathlib.Omega.{arith}
use lib.Dec.{T, ltb, eqb, ltb→lt, nltb→le, eqb→eq, eqb_refl, not_T, T_not}
use lib.ListN.{length, take, drop}
use lib.Seq.{length-take-le}
use Rattle.bitset.proofs.Tests.{or_inl, or_inr, or_out, below_or, not_not}
use Rattle.searches.specs.Kind.{Search}
use Rattle.searches.specs.Ordering.{at, IsOrdering, IsFullOrdering}
use Rattle.searches.specs.Violation.{Verdict, passes, fails, refused, judge}
use Rattle.searches.specs.CarryOn.{carry_on}
use Rattle.searches.specs.Answer.{vertex_outside, repeated, is_pass, Accepts, Refuses}
use Rattle.searches.specs.Form.{judge_tests_of, list_tests_of, carry_on_tests_of, judge_of, output_of}
use Rattle.searches.proofs.Ordering.{take_agree, agree_sym, ordering_fits, ordering_agree}
use Rattle.searches.proofs.Judge.{Judged, judge_says}
use Rattle.searches.proofs.Passing.{judge_take}
use Rattle.searches.proofs.Refusals.{vertex_outside_in, vertex_outside_out, repeated_in, repeated_out, accepts_none, refuses_first, accepts_or_refuses}

pub accepts_both : (a b : List (ℕ × Bool)) → Accepts (a ++ b) → Accepts a × Accepts b
accepts_both [] b x = (tt, x)
accepts_both (test ∷ a) b x = let rest = accepts_both a b x.1 in ((x.0, rest.0), rest.1)

pub both_accept : (a b : List (ℕ × Bool)) → Accepts a → Accepts b → Accepts (a ++ b)
both_accept [] b x y = y
both_accept (test ∷ a) b x y = (x.0, both_accept a b x.1 y)

-- ---- an ordering is what the tests on its vertices let through

pub clear : (n : ℕ) (w : List ℕ) (k : ℕ) → k ≤ length w → (T (vertex_outside n w k) → ⊥) → (T (repeated w k) → ⊥) → IsOrdering n w k
clear n w k l inside once = record {
  long = l;
  vertices = λ p h. under p h (below_or (at w p) n);
  distinct = λ p q h i e. once (repeated_in w k p q h i e);
}
  where
    under : (p : ℕ) → p < k → (at w p < n) ⊎ (n ≤ at w p) → at w p < n
    under p h (inl i) = i
    under p h (inr i) = absurd (inside (vertex_outside_in w k n p h i))

pub all_inside : {n : ℕ} {w : List ℕ} {k : ℕ} → IsOrdering n w k → T (vertex_outside n w k) → ⊥
all_inside {n} {w} {k} o t = let x = vertex_outside_out w k n t in omega (arith, x.2, o.vertices x.0 x.1)

pub none_repeated : {n : ℕ} {w : List ℕ} {k : ℕ} → IsOrdering n w k → T (repeated w k) → ⊥
none_repeated {n} {w} {k} o t = let x = repeated_out w k t in o.distinct x.0 x.1 x.2 x.3 x.4

pub is_pass_in : (v : Verdict) → v ≡ passes → T (is_pass v)
unfolding is_pass
is_pass_in v e = subst (λ (x : Verdict). T (is_pass x)) (sym e) tt

pub is_pass_out : (v : Verdict) → T (is_pass v) → v ≡ passes
unfolding is_pass
is_pass_out passes t = refl
is_pass_out (fails a b c) t = absurd t
is_pass_out (refused r) t = absurd t

-- ---- judge

module _ (tests : List (ℕ × Bool)) (n : ℕ) (w : List ℕ) where
  pub ordering_accepted : Accepts tests → IsOrdering n w (length w) → Accepts (judge_tests_of tests n w)
  unfolding judge_tests_of
  ordering_accepted a o =
      both_accept tests _ a
      (λ t. let l = ltb→lt n (length w) t in let h = ordering_fits n o in omega arith, (all_inside o, (none_repeated o, tt)))

  pub accepted_ordering : Accepts (judge_tests_of tests n w) → Accepts tests × IsOrdering n w (length w)
  unfolding judge_tests_of
  accepted_ordering a =
      let x = accepts_both tests _ a in
      (x.0, clear n w (length w) (omega arith) x.1.1.0 x.1.1.1.0)

module _ (tests : List (ℕ × Bool)) (s : Search) (arc : ℕ → ℕ → Bool) (n : ℕ) where
  module _ (w : List ℕ) where
    pub judge_accepted : Accepts (judge_tests_of tests n w) → judge_of tests s arc n w ≡ judge s arc n w (length w)
    unfolding judge_of
    judge_accepted a = rw (accepts_none (judge_tests_of tests n w) a, judge_of)

    pub judge_refused : (r : ℕ) → Refuses r (judge_tests_of tests n w) → judge_of tests s arc n w ≡ refused r
    unfolding judge_of
    judge_refused r x = rw (refuses_first (judge_tests_of tests n w) r x, judge_of)

    -- an ordering is passed or failed, and never refused
    judge_decides : Accepts (judge_tests_of tests n w) → (r : ℕ) → judge s arc n w (length w) ≡ refused r → ⊥
    judge_decides a r e =
        subst (λ (v : Verdict). Judged s arc n w (length w) v) e (judge_says s arc n w (length w) (accepted_ordering tests n w a).1)

    pub refused_judge : (r : ℕ) → judge_of tests s arc n w ≡ refused r → Refuses r (judge_tests_of tests n w)
    refused_judge r e = go (accepts_or_refuses (judge_tests_of tests n w))
      where
        go : Accepts (judge_tests_of tests n w) ⊎ ((q : ℕ) × Refuses q (judge_tests_of tests n w)) → Refuses r (judge_tests_of tests n w)
        go (inl a) = absurd (judge_decides a r (sym (judge_accepted a) ∙ e))
        go (inr x) = let same : x.0 ≡ r = cc (judge_refused x.0 x.1) in subst (λ (q : ℕ). Refuses q (judge_tests_of tests n w)) same x.1

    pub passes_accepts : judge_of tests s arc n w ≡ passes → Accepts (judge_tests_of tests n w)
    unfolding is_pass
    passes_accepts e = go (accepts_or_refuses (judge_tests_of tests n w))
      where
        go : Accepts (judge_tests_of tests n w) ⊎ ((q : ℕ) × Refuses q (judge_tests_of tests n w)) → Accepts (judge_tests_of tests n w)
        go (inl a) = a
        go (inr x) = absurd (subst (λ (v : Verdict). T (is_pass v)) (sym e ∙ judge_refused x.0 x.1) tt)

  -- the answer on a prefix, as a list of its own, is the verdict on so many positions
  pub prefix_judged : (w : List ℕ) (k : ℕ) → Accepts tests → IsOrdering n w k → judge_of tests s arc n (take k w) ≡ judge s arc n w k
  prefix_judged w k a o =
      let len : length (take k w) ≡ k = length-take-le k w o.long in
      let part : IsOrdering n (take k w) (length (take k w)) =
      subst (λ (m : ℕ). IsOrdering n (take k w) m) (sym len)
      (ordering_agree n (take k w) (omega arith) (agree_sym k (take k w) w (take_agree k w)) o)
      in
      judge_accepted (take k w) (ordering_accepted tests n (take k w) a part)
      ∙ ap (λ (m : ℕ). judge s arc n (take k w) m) len
      ∙ judge_take s arc n w k

-- ---- carry-on

-- what the tests on the lists let through
pub record ListsOf (tests : List (ℕ × Bool)) (n : ℕ) (t out : List ℕ) (k : ℕ) : Type 0 where
  pub valid : Accepts tests
  pub room : n ≤ length out
  pub tie_break : IsFullOrdering n t
  pub start : IsOrdering n out k

-- what carry-on lets through
pub record StartOf (tests : List (ℕ × Bool)) (s : Search) (arc : ℕ → ℕ → Bool) (n : ℕ) (t out : List ℕ) (k : ℕ) : Type 0 where
  pub lists : ListsOf tests n t out k
  pub passing : judge s arc n out k ≡ passes

module _ (tests : List (ℕ × Bool)) (n : ℕ) (t out : List ℕ) (k : ℕ) where
  pub lists_accepted : ListsOf tests n t out k → Accepts (list_tests_of tests n t out k)
  unfolding list_tests_of
  lists_accepted x =
      let fits = ordering_fits n x.start in
      let full : length t ≡ n = x.tie_break.full in
      both_accept tests _ x.valid (
        λ u. omega (arith, ltb→lt n k u),
        (
          λ u. let r : n ≤ length out = x.room in omega (arith, ltb→lt (length out) n u),
          (
            λ u. T_not (eqb (length t) n) u (subst (λ (m : ℕ). T (eqb (length t) m)) full (eqb_refl (length t))),
            (
              λ u. ⊎_elim (all_inside x.start) (all_inside x.tie_break.ordering) (or_out (vertex_outside n out k) (vertex_outside n t n) u),
              (λ u. ⊎_elim (none_repeated x.start) (none_repeated x.tie_break.ordering) (or_out (repeated out k) (repeated t n) u), tt),
            ),
          ),
        ),
      )

  pub accepted_lists : Accepts (list_tests_of tests n t out k) → ListsOf tests n t out k
  unfolding list_tests_of
  accepted_lists a =
      let x = accepts_both tests _ a in
      let fits : k ≤ n = nltb→le n k (not_T (ltb n k) x.1.0) in
      let room : n ≤ length out = nltb→le (length out) n (not_T (ltb (length out) n) x.1.1.0) in
      let full : length t ≡ n = eqb→eq (length t) n (not_not (eqb (length t) n) (not_T (not (eqb (length t) n)) x.1.1.1.0)) in
      let inside : T (vertex_outside n out k || vertex_outside n t n) → ⊥ = x.1.1.1.1.0 in
      let once : T (repeated out k || repeated t n) → ⊥ = x.1.1.1.1.1.0 in
      record {
        valid = x.0;
        room = room;
        tie_break = record {
          ordering = clear n t n (omega arith) (λ u. inside (or_inr (vertex_outside n out k) (vertex_outside n t n) u)) (λ u. once (or_inr (repeated out k) (repeated t n) u));
          full = full;
        };
        start = clear n out k (omega arith) (λ u. inside (or_inl (vertex_outside n out k) (vertex_outside n t n) u)) (λ u. once (or_inl (repeated out k) (repeated t n) u));
      }

module _ (tests : List (ℕ × Bool)) (s : Search) (arc : ℕ → ℕ → Bool) (n : ℕ) (t out : List ℕ) (k : ℕ) where
  pub start_accepted : StartOf tests s arc n t out k → Accepts (carry_on_tests_of tests s arc n t out k)
  unfolding carry_on_tests_of
  start_accepted x =
      both_accept (list_tests_of tests n t out k) _ (lists_accepted tests n t out k x.lists)
      (λ u. T_not (is_pass (judge s arc n out k)) u (is_pass_in (judge s arc n out k) x.passing), tt)

  pub accepted_start : Accepts (carry_on_tests_of tests s arc n t out k) → StartOf tests s arc n t out k
  unfolding carry_on_tests_of
  accepted_start a =
      let x = accepts_both (list_tests_of tests n t out k) _ a in
      let verdict = judge s arc n out k in
      record {
        lists = accepted_lists tests n t out k x.0;
        passing = is_pass_out verdict (not_not (is_pass verdict) (not_T (not (is_pass verdict)) x.1.0));
      }

  pub carry_on_done : Accepts (carry_on_tests_of tests s arc n t out k) → output_of tests s arc n t out k ≡ carry_on s arc n t out k ++ drop n out
  unfolding output_of
  carry_on_done a = rw (accepts_none (carry_on_tests_of tests s arc n t out k) a, output_of)

  pub carry_on-kept : (r : ℕ) → Refuses r (carry_on_tests_of tests s arc n t out k) → output_of tests s arc n t out k ≡ out
  unfolding output_of
  carry_on-kept r x = rw (refuses_first (carry_on_tests_of tests s arc n t out k) r x, output_of)
