-- The two public calls, from what their parts answer.
--   valid_graph                     no test on the table holds: what placing, replaying and filling ask of it
--   stopped_fails, ended_passes, whole_ended   the replay stops at a vertex that was not offered, or goes to the end
--   tail_of, begun_ended             there filling begins, on the tail of the output list;   filled_carried   what it leaves is the ordering carried on
--   judge_asked_*, carry_on_asked_*  the answers of the calls, from the tests' answer
-- Assumes nothing.
use mathlib.Core.Path.{◌≡◌, refl, sym, ap, ap₂, ◌∙◌, subst}
use mathlib.Core.Logic.{inl}
use mathlib.Core.Bool.{Bool, true, false, cond, not}
use mathlib.Core.List.{List, [], ◌∷◌, ◌++◌, append-nil, append_assoc}
use mathlib.Core.Option.{none, some}
use Prim.Native.Nat.{ℕ, ◌+◌, ◌-◌, ◌/◌, ◌≤◌, ◌<◌}
use native.Mathlib.Omega.{arith}
use lib.Dec.{T, not_T}
use lib.ListN.{length, take, drop, length-take, length-drop, drop_of_length-le, take-append-drop}
use lib.Seq.{take_all, drop-drop, length-take-le}
use Rattle.bitset.specs.Below.{first_below}
use Rattle.bitset.proofs.Below.{first}
use Rattle.searches.specs.Kind.{Search, search_of}
use Rattle.searches.specs.Ordering.{IsOrdering, IsFullOrdering}
use Rattle.searches.specs.Table.{arcs_wide, size_wide}
use Rattle.searches.specs.Violation.{Verdict, passes, refused, is_first, judge}
use Rattle.searches.specs.CarryOn.{grow, carry_on}
use Rattle.searches.specs.Answer.{is_pass, Accepts, first_refusal}
use Rattle.searches.specs.Form.{carry_on_tests_of}
use Rattle.searches.specs.Wide.{open_tests_wide, judge_tests_wide, list_tests_wide, carry_on_tests_wide, judge_wide, carry_on_wide, output_wide}
use Rattle.searches.specs.declared.Mark.{Mark}
use Rattle.searches.proofs.Ordering.{take_agree, agree_sym, ordering_fits, ordering_agree}
use Rattle.searches.proofs.CarryOn.{passes_greedy, carry_on_carries}
use Rattle.searches.proofs.Refusals.{none_accepts, first_refuses}
use Rattle.searches.proofs.Forms.{is_pass_out}
use Rattle.searches.proofs.WideAnswers as answers
use Rattle.wide.specs.Steps.{stops, IsGraph, Staged, Begun}
use Rattle.admission.proofs.Tried.{refused_before, refused_behind}
use Rattle.wide.proofs.Stopping.{judge_passes, judge_fails}
use Rattle.wide.proofs.Staging.{staged_agree}

pub valid_graph : (kind : ℕ) (mark : Mark) (table : List ℕ) → Accepts (open_tests_wide 8 kind mark table) → IsGraph mark (size_wide 8 table) table
valid_graph kind mark table valid = record {
  small = answers.wide_small 8 kind mark table valid;
  whole = answers.wide_whole 8 kind mark table valid;
  inside = answers.wide_inside 8 kind mark table valid;
  both_ways = answers.wide_both_ways 8 kind mark table valid;
}

-- ---- where the replay ends

module _ (s : Search) (arc : ℕ → ℕ → Bool) (n : ℕ) (w : List ℕ) (k : ℕ) (o : IsOrdering n w k) (j : ℕ) (stopped : j ≡ first_below k (stops s arc n w)) where
  pub stopped_fails : j < k → is_pass (judge s arc n w k) ≡ false
  unfolding is_pass
  stopped_fails l = ap is_pass (judge_fails s arc n w k o j stopped l (first_below j (is_first s arc n w k j)) refl)

  pub ended_passes : k ≤ j → judge s arc n w k ≡ passes
  ended_passes l = judge_passes s arc n w k o (omega arith)

  pub whole_ended : k ≤ j → j ≡ k
  whole_ended l = omega (arith, stopped, (first k (stops s arc n w)).within)

-- ---- the output list

-- a list whose tail from k on was filled up to n
whole_filled : (out F : List ℕ) (k n : ℕ) → k ≤ n → n ≤ length out
    → take k out ++ ((F ++ drop (n - k) (take (length out - k) (drop k out))) ++ drop (length out - k) (drop k out)) ≡ (take k out ++ F) ++ drop n out
whole_filled out F k n l h =
    let whole : take (length out - k) (drop k out) ≡ drop k out = take_all (length out - k) (drop k out) (omega (arith, length-drop k out)) in
    let none_left : drop (length out - k) (drop k out) ≡ [] = drop_of_length-le (drop k out) {i = length out - k} (omega (arith, length-drop k out)) in
    let behind : drop (n - k) (drop k out) ≡ drop n out = drop-drop (n - k) k out ∙ ap (λ (m : ℕ). drop m out) (let e : k + (n - k) ≡ n = omega arith in e) in
    ap₂ (λ (a : List ℕ) (b : List ℕ). take k out ++ ((F ++ drop (n - k) a) ++ b)) whole none_left
    ∙ ap (λ (a : List ℕ). take k out ++ a) (append-nil (F ++ drop (n - k) (drop k out))) ∙ ap (λ (a : List ℕ). take k out ++ (F ++ a)) behind
    ∙ sym (append_assoc (take k out) F (drop n out))

-- the tail that is filled
abbrev pub tail_of : List ℕ → ℕ → List ℕ
tail_of out k = take (length out - k) (drop k out)

module _ (s : Search) (mark : Mark) (table : List ℕ) (n : ℕ) (t out : List ℕ) (k : ℕ) (o : IsOrdering n out k) (names : IsFullOrdering n t) (room : n ≤ length out) where
  abbrev arc : ℕ → ℕ → Bool
  arc = arcs_wide 8 table

  -- only the first k vertices matter
  pub begun_ended : {j : ℕ} {labels smallest largest weights placed' free reached : List ℕ} → IsGraph mark n table → j ≡ first_below k (stops s arc n out) → k ≤ j
      → Staged s table n out j labels smallest largest weights placed' free reached
      → Begun s mark table n t (tail_of out k) k labels smallest largest weights placed' free reached (take k out)
  begun_ended {j} {labels} {smallest} {largest} {weights} {placed'} {free} {reached} graph stopped l staged =
      let len : length (take k out) ≡ k = length-take-le k out o.long in
      let same = agree_sym k (take k out) out (take_agree k out) in
      record {
        graph = graph;
        tie_break = names;
        ordering = ordering_agree n (take k out) (omega arith) same o;
        upto = len;
        room = omega (arith, o.long, room, length-take (length out - k) (drop k out), length-drop k out);
        staged =
            staged_agree (subst (λ (m : ℕ). Staged s table n out m labels smallest largest weights placed' free reached) (whole_ended s arc n out k o j stopped l) staged)
            (take k out) same;
      }

  carried_take : carry_on s arc n t (take k out) k ≡ carry_on s arc n t out k
  unfolding carry_on
  carried_take = ap (λ (x : List ℕ). grow s arc n t (n - k) x) (take_all k (take k out) (omega (arith, length-take-le k out o.long)))

  pub filled_carried : judge s arc n out k ≡ passes → {ys : List ℕ} → ys ≡ drop k (carry_on s arc n t (take k out) k) ++ drop (n - k) (tail_of out k)
      → take k out ++ (ys ++ drop (length out - k) (drop k out)) ≡ carry_on s arc n t out k ++ drop n out
  filled_carried passing e =
      let fits = ordering_fits n o in
      let r = carry_on s arc n t out k in
      let begins : take k r ≡ take k out = (carry_on_carries s arc n t names out k o.long fits (passes_greedy s arc n out k o passing)).begins in
      ap (λ (y : List ℕ). take k out ++ (y ++ drop (length out - k) (drop k out))) (e ∙ ap (λ (x : List ℕ). drop k x ++ drop (n - k) (tail_of out k)) carried_take)
      ∙ whole_filled out (drop k r) k n fits room
      ∙ ap (λ (x : List ℕ). (x ++ drop k r) ++ drop n out) (sym begins) ∙ ap (λ (x : List ℕ). x ++ drop n out) (take-append-drop k r)

-- ---- from the tests' answer to the calls' answers

module _ (kind : ℕ) (mark : Mark) (table w : List ℕ) where
  pub judge_asked_refused : (q : ℕ) → some q ≡ first_refusal (judge_tests_wide 8 kind mark table w) → refused q ≡ judge_wide 8 kind mark table w
  judge_asked_refused q e = sym (answers.judge_refused 8 kind mark table w q (first_refuses (judge_tests_wide 8 kind mark table w) q (sym e)))

  module _ (e : none ≡ first_refusal (judge_tests_wide 8 kind mark table w)) where
    accepted : Accepts (judge_tests_wide 8 kind mark table w)
    accepted = none_accepts (judge_tests_wide 8 kind mark table w) (sym e)

    pub judge_asked_accepted : IsGraph mark (length table / 8) table × IsOrdering (length table / 8) w (length w)
    unfolding size_wide
    judge_asked_accepted =
        let x = answers.accepted_ordering 8 kind mark table w accepted in
        (valid_graph kind mark table x.0, x.1)

    pub judge_asked_verdict : judge (search_of kind) (arcs_wide 8 table) (length table / 8) w (length w) ≡ judge_wide 8 kind mark table w
    unfolding size_wide
    judge_asked_verdict = sym (answers.judge_accepted 8 kind mark table w accepted)

module _ (kind : ℕ) (mark : Mark) (table t out : List ℕ) (k : ℕ) where
  abbrev tests : List (ℕ × Bool)
  tests = list_tests_wide 8 kind mark table t out k

  abbrev verdict : Verdict
  verdict = judge (search_of kind) (arcs_wide 8 table) (size_wide 8 table) out k

  -- what a refused call answers and leaves
  left_alone : (q : ℕ) → some q ≡ first_refusal (carry_on_tests_wide 8 kind mark table t out k)
      → (some q ≡ carry_on_wide 8 kind mark table t out k) × (out ≡ output_wide 8 kind mark table t out k)
  left_alone q e =
      let r = first_refuses (carry_on_tests_wide 8 kind mark table t out k) q (sym e) in
      (sym (answers.carry_on_refused 8 kind mark table t out k q r), sym (answers.carry_on-kept 8 kind mark table t out k q r))

  pub carry_on_asked_refused : (q : ℕ) → some q ≡ first_refusal (list_tests_wide 8 kind mark table t out k)
      → (some q ≡ carry_on_wide 8 kind mark table t out k) × (out ≡ output_wide 8 kind mark table t out k)
  unfolding list_tests_wide carry_on_tests_wide carry_on_tests_of
  carry_on_asked_refused q e = left_alone q (refused_before tests ((12, not (is_pass verdict)) ∷ []) e)

  module _ (e : none ≡ first_refusal (list_tests_wide 8 kind mark table t out k)) where
    lists : answers.WideLists 8 kind mark table t out k
    lists = answers.accepted_lists 8 kind mark table t out k (none_accepts tests (sym e))

    pub carry_on_asked_accepted : IsGraph mark (length table / 8) table × IsFullOrdering (length table / 8) t × IsOrdering (length table / 8) out k × (length table / 8 ≤ length out)
    unfolding size_wide
    carry_on_asked_accepted = let x = lists in (valid_graph kind mark table x.valid, x.tie_break, x.start, x.room)

    -- the last test is on the start
    asked_last : (b : Bool) → is_pass verdict ≡ b
        → (cond b none (some 12) ≡ carry_on_wide 8 kind mark table t out k)
        × (cond b (carry_on (search_of kind) (arcs_wide 8 table) (size_wide 8 table) t out k ++ drop (size_wide 8 table) out) out ≡ output_wide 8 kind mark table t out k)
    unfolding list_tests_wide carry_on_tests_wide carry_on_tests_of
    asked_last true same =
        let a = answers.start_accepted 8 kind mark table t out k (record { lists = lists; passing = is_pass_out verdict (subst (λ (b : Bool). T b) (sym same) tt) }) in
        (sym (answers.carry_on_accepted 8 kind mark table t out k a), sym (answers.carry_on_done 8 kind mark table t out k a))
    asked_last false same =
        left_alone 12 (refused_behind tests ((12, not (is_pass verdict)) ∷ []) 12 (none_accepts tests (sym e))
        (inl (refl, not_T (is_pass verdict) (λ u. subst (λ (b : Bool). T b) same u))))

    pub carry_on_asked_last : let b = is_pass (judge (search_of kind) (arcs_wide 8 table) (length table / 8) out k) in
        (cond b none (some 12) ≡ carry_on_wide 8 kind mark table t out k)
        × (cond b (carry_on (search_of kind) (arcs_wide 8 table) (length table / 8) t out k ++ drop (length table / 8) out) out ≡ output_wide 8 kind mark table t out k)
    unfolding size_wide
    carry_on_asked_last = asked_last (is_pass verdict) refl
