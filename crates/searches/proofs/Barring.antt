-- What the calls answer where vertices are barred, and when.
--   barred_outside_*, barred_named_*          what the two tests on the barred set mean
--   open_order, judge_order, carry_on_order  the numbers in the order in which they are tried
--   valid_graph, valid_set                  the graph is valid, and the set has no bit at or above n
--   clear_kept, none_named                  an ordering of kept vertices is an ordering that names no barred one
--   kept_judged, judged_kept                judge refuses no such ordering of a valid graph, and nothing else passes its tests
--   Lists                                   what the tests on carry-on's lists let through;   lists_accepted, accepted_lists   exactly that
--   start_accepted, accepted_start          likewise for carry-on, with a start that passes
--   judge_accepted, judge_refused, refused_judge   judge's answer;   passes_accepts   what passes is not refused
--   carry_on_done, carry_on-kept              what carry-on leaves in the output list
-- Assumes nothing.
use mathlib.Core.Path.{◌≡◌, refl, sym, ◌∙◌, subst}
use mathlib.Core.Logic.{◌⊎◌, inl, inr}
use mathlib.Core.Bool.{Bool, not, ◌&&◌}
use mathlib.Core.List.{List, [], ◌∷◌, ◌++◌}
use Prim.Native.Nat.{ℕ, ◌≤◌, ◌<◌}
use native.Mathlib.Omega.{arith}
use lib.Dec.{T, leb, leb→le, le→leb, not_T, T_not}
use lib.ListN.{length, drop}
use Rattle.bitset.specs.Below.{count_below}
use Rattle.bitset.specs.Word.{member}
use Rattle.bitset.proofs.Tests.{and_in, and_out, not_not}
use Rattle.bitset.proofs.Below.{any_out, any_at}
use Rattle.searches.specs.Kind.{search_of}
use Rattle.searches.specs.Ordering.{arcs, at, IsOrdering, IsFullOrdering}
use Rattle.searches.specs.Violation.{Verdict, passes, fails, refused, judge}
use Rattle.searches.specs.Without.{numbered, arcs_of, named_verdict, IsKeptOrdering, judge_without, carry_on_without}
use Rattle.searches.specs.Answer.{is_pass, open_tests, judge_tests, list_tests, Accepts, Refuses}
use Rattle.searches.specs.Answer.{unbarred, barred_outside, barred_named, open_tests_barring, judge_tests_barring, list_tests_barring, carry_on_tests_barring}
use Rattle.searches.specs.Answer.{judge_barring, output_barring}
use Rattle.searches.specs.declared.Mark.{Mark}
use Rattle.searches.proofs.Judge.{Judged, judge_says}
use Rattle.searches.proofs.Refusals.{numbers, accepts_none, refuses_first, accepts_or_refuses}
use Rattle.searches.proofs.Answers as answers
use Rattle.searches.proofs.Answers.{accepts_both, both_accept, is_pass_in, is_pass_out}
use Rattle.searches.proofs.Renumbered.{numbered_ordering}

-- ---- what the tests mean

module _ (barred : ℕ) where
  pub barred_outside_out : (n : ℕ) → T (barred_outside n barred) → (v : ℕ) × (v < 64) × (n ≤ v) × T (member barred v)
  unfolding barred_outside
  barred_outside_out n t =
      let x = any_out 64 (λ v. leb n v && member barred v) t in
      let both = and_out (leb n x.at) (member barred x.at) x.holds in
      (x.at, x.below, leb→le n x.at both.0, both.1)

  pub barred_outside_in : (n v : ℕ) → v < 64 → n ≤ v → T (member barred v) → T (barred_outside n barred)
  unfolding barred_outside
  barred_outside_in n v l h t = any_at 64 (λ v. leb n v && member barred v) v l (and_in (leb n v) (member barred v) (le→leb n v h) t)

  module _ (w : List ℕ) (k : ℕ) where
    pub barred_named_out : T (barred_named barred w k) → (p : ℕ) × (p < k) × T (member barred (at w p))
    unfolding barred_named
    barred_named_out t = let x = any_out k (λ p. member barred (at w p)) t in (x.at, x.below, x.holds)

    pub barred_named_in : (p : ℕ) → p < k → T (member barred (at w p)) → T (barred_named barred w k)
    unfolding barred_named
    barred_named_in p l t = any_at k (λ p. member barred (at w p)) p l t

    -- an ordering of kept vertices is an ordering that names no barred one
    module _ {n : ℕ} where
      pub clear_kept : IsOrdering n w k → (T (barred_named barred w k) → ⊥) → IsKeptOrdering n (unbarred barred) w k
      unfolding unbarred
      clear_kept o clear = record { ordering = o; stays = λ p l. not_T (member barred (at w p)) (λ t. clear (barred_named_in p l t)) }

      pub none_named : IsKeptOrdering n (unbarred barred) w k → T (barred_named barred w k) → ⊥
      unfolding unbarred
      none_named o t = let x = barred_named_out t in T_not (member barred (at w x.0)) (o.stays x.0 x.1) x.2

-- ---- the order in which the numbers are tried

module _ (kind : ℕ) (mark : Mark) (rows : List ℕ) (barred : ℕ) where
  -- open checks 1 to 5, then 23
  open_order : numbers (open_tests_barring kind mark rows barred) ≡ 1 ∷ 2 ∷ 3 ∷ 4 ∷ 5 ∷ 23 ∷ []
  unfolding numbers open_tests open_tests_barring
  open_order = refl

  -- judge checks 1 to 5, 23, 6, 8, 9, 24
  judge_order : (w : List ℕ) → numbers (judge_tests_barring kind mark rows barred w) ≡ 1 ∷ 2 ∷ 3 ∷ 4 ∷ 5 ∷ 23 ∷ 6 ∷ 8 ∷ 9 ∷ 24 ∷ []
  unfolding numbers open_tests open_tests_barring judge_tests_barring
  judge_order w = refl

  -- carry-on checks 1 to 5, 23, 6, 10, 7, then 8, 9, 24, then 12
  carry_on_order : (t out : List ℕ) (k : ℕ)
      → numbers (carry_on_tests_barring kind mark rows barred t out k) ≡ 1 ∷ 2 ∷ 3 ∷ 4 ∷ 5 ∷ 23 ∷ 6 ∷ 10 ∷ 7 ∷ 8 ∷ 9 ∷ 24 ∷ 12 ∷ []
  unfolding numbers open_tests open_tests_barring list_tests_barring carry_on_tests_barring
  carry_on_order t out k = refl

  -- ---- open

  pub valid_graph : Accepts (open_tests_barring kind mark rows barred) → Accepts (open_tests kind mark rows)
  unfolding open_tests_barring
  valid_graph a = (accepts_both (open_tests kind mark rows) _ a).0

  pub valid_set : Accepts (open_tests_barring kind mark rows barred) → T (barred_outside (length rows) barred) → ⊥
  unfolding open_tests_barring
  valid_set a = (accepts_both (open_tests kind mark rows) _ a).1.0

  -- ---- judge

  module _ (w : List ℕ) where
    abbrev tests : List (ℕ × Bool)
    tests = judge_tests_barring kind mark rows barred w

    abbrev verdict : Verdict
    verdict = judge_without (search_of kind) (arcs rows) (length rows) (unbarred barred) w (length w)

    pub judged_kept : Accepts (judge_tests_barring kind mark rows barred w)
        → Accepts (open_tests_barring kind mark rows barred) × IsKeptOrdering (length rows) (unbarred barred) w (length w)
    unfolding judge_tests_barring judge_tests
    judged_kept a =
        let x = accepts_both (open_tests_barring kind mark rows barred) _ a in
        let old : Accepts (judge_tests kind mark rows w) = both_accept (open_tests kind mark rows) _ (valid_graph x.0) (x.1.0, (x.1.1.0, (x.1.1.1.0, tt))) in
        (x.0, clear_kept barred w (length w) (answers.accepted_ordering kind mark rows w old).1 x.1.1.1.1.0)

    pub kept_judged : Accepts (open_tests_barring kind mark rows barred) → IsKeptOrdering (length rows) (unbarred barred) w (length w)
        → Accepts (judge_tests_barring kind mark rows barred w)
    unfolding judge_tests_barring judge_tests
    kept_judged a o =
        let old = (accepts_both (open_tests kind mark rows) _ (answers.ordering_accepted kind mark rows w (valid_graph a) o.ordering)).1 in
        both_accept (open_tests_barring kind mark rows barred) _ a (old.0, (old.1.0, (old.1.1.0, (none_named barred w (length w) o, tt))))

    pub judge_accepted : Accepts (judge_tests_barring kind mark rows barred w)
        → judge_barring kind mark rows barred w ≡ judge_without (search_of kind) (arcs rows) (length rows) (unbarred barred) w (length w)
    unfolding judge_barring
    judge_accepted a = rw (accepts_none tests a, judge_barring)

    pub judge_refused : (r : ℕ) → Refuses r (judge_tests_barring kind mark rows barred w) → judge_barring kind mark rows barred w ≡ refused r
    unfolding judge_barring
    judge_refused r x = rw (refuses_first tests r x, judge_barring)

    -- an ordering of kept vertices is passed or failed, and never refused
    judge_decides : Accepts tests → (r : ℕ) → verdict ≡ refused r → ⊥
    unfolding judge_without named_verdict
    judge_decides a r e = go (judge (search_of kind) arc' n' w' (length w)) (judge_says (search_of kind) arc' n' w' (length w) (numbered_ordering n kept w (length w) o.ordering o.stays)) e
      where
        n : ℕ
        n = length rows

        kept : ℕ → Bool
        kept = unbarred barred

        n' : ℕ
        n' = count_below n kept

        arc' : ℕ → ℕ → Bool
        arc' = arcs_of n kept (arcs rows)

        w' : List ℕ
        w' = numbered kept w

        o : IsKeptOrdering n kept w (length w)
        o = (judged_kept a).1

        go : (v : Verdict) → Judged (search_of kind) arc' n' w' (length w) v → named_verdict n kept v ≡ refused r → ⊥
        go passes x p = let clash : ◌≡◌ {A = ℕ} 0 1 = cc in omega arith
        go (fails i j c) x p = let clash : ◌≡◌ {A = ℕ} 0 1 = cc in omega arith
        go (refused q) x p = x

    pub refused_judge : (r : ℕ) → judge_barring kind mark rows barred w ≡ refused r → Refuses r (judge_tests_barring kind mark rows barred w)
    refused_judge r e = go (accepts_or_refuses tests)
      where
        go : Accepts tests ⊎ ((q : ℕ) × Refuses q tests) → Refuses r tests
        go (inl a) = absurd (judge_decides a r (sym (judge_accepted a) ∙ e))
        go (inr x) = let same : x.0 ≡ r = cc (judge_refused x.0 x.1) in subst (λ (q : ℕ). Refuses q tests) same x.1

    pub passes_accepts : judge_barring kind mark rows barred w ≡ passes → Accepts (judge_tests_barring kind mark rows barred w)
    passes_accepts e = go (accepts_or_refuses tests)
      where
        go : Accepts tests ⊎ ((q : ℕ) × Refuses q tests) → Accepts tests
        go (inl a) = a
        go (inr x) = let clash : ◌≡◌ {A = ℕ} 0 1 = cc (judge_refused x.0 x.1) in absurd (omega arith)

-- ---- carry-on

module _ (kind : ℕ) (mark : Mark) (rows : List ℕ) (barred : ℕ) (t out : List ℕ) (k : ℕ) where
  -- what the tests on the lists let through
  pub record Lists : Type 0 where
    pub valid : Accepts (open_tests_barring kind mark rows barred)
    pub room : length rows ≤ length out
    pub tie_break : IsFullOrdering (length rows) t
    pub start : IsKeptOrdering (length rows) (unbarred barred) out k

  pub accepted_lists : Accepts (list_tests_barring kind mark rows barred t out k) → Lists
  unfolding list_tests_barring list_tests
  accepted_lists a =
      let x = accepts_both (open_tests_barring kind mark rows barred) _ a in
      let y = x.1 in
      let old : Accepts (list_tests kind mark rows t out k) = both_accept (open_tests kind mark rows) _ (valid_graph kind mark rows barred x.0) (y.0, (y.1.0, (y.1.1.0, (y.1.1.1.0, (y.1.1.1.1.0, tt))))) in
      let l = answers.accepted_lists kind mark rows t out k old in
      record { valid = x.0; room = l.room; tie_break = l.tie_break; start = clear_kept barred out k l.start y.1.1.1.1.1.0 }

  pub lists_accepted : Lists → Accepts (list_tests_barring kind mark rows barred t out k)
  unfolding list_tests_barring list_tests
  lists_accepted x =
      let lists : answers.Lists kind mark rows t out k =
      record { valid = valid_graph kind mark rows barred x.valid; room = x.room; tie_break = x.tie_break; start = x.start.ordering }
      in
      let old = (accepts_both (open_tests kind mark rows) _ (answers.lists_accepted kind mark rows t out k lists)).1 in
      both_accept (open_tests_barring kind mark rows barred) _ x.valid
      (old.0, (old.1.0, (old.1.1.0, (old.1.1.1.0, (old.1.1.1.1.0, (none_named barred out k x.start, tt))))))

  abbrev judged_start : Verdict
  judged_start = judge_without (search_of kind) (arcs rows) (length rows) (unbarred barred) out k

  pub start_accepted : Lists → judge_without (search_of kind) (arcs rows) (length rows) (unbarred barred) out k ≡ passes
      → Accepts (carry_on_tests_barring kind mark rows barred t out k)
  unfolding carry_on_tests_barring
  start_accepted x p =
      both_accept (list_tests_barring kind mark rows barred t out k) _ (lists_accepted x) (λ u. T_not (is_pass judged_start) u (is_pass_in judged_start p), tt)

  pub accepted_start : Accepts (carry_on_tests_barring kind mark rows barred t out k)
      → Lists × (judge_without (search_of kind) (arcs rows) (length rows) (unbarred barred) out k ≡ passes)
  unfolding carry_on_tests_barring
  accepted_start a =
      let x = accepts_both (list_tests_barring kind mark rows barred t out k) _ a in
      (accepted_lists x.0, is_pass_out judged_start (not_not (is_pass judged_start) (not_T (not (is_pass judged_start)) x.1.0)))

  pub carry_on_done : Accepts (carry_on_tests_barring kind mark rows barred t out k)
      → output_barring kind mark rows barred t out k
      ≡ carry_on_without (search_of kind) (arcs rows) (length rows) (unbarred barred) t out k ++ drop (count_below (length rows) (unbarred barred)) out
  unfolding output_barring
  carry_on_done a = rw (accepts_none (carry_on_tests_barring kind mark rows barred t out k) a, output_barring)

  pub carry_on-kept : (r : ℕ) → Refuses r (carry_on_tests_barring kind mark rows barred t out k) → output_barring kind mark rows barred t out k ≡ out
  unfolding output_barring
  carry_on-kept r x = rw (refuses_first (carry_on_tests_barring kind mark rows barred t out k) r x, output_barring)
