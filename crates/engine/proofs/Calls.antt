-- The two public calls, from what their parts answer.
--   valid_own_transpose               the rows of a valid two-way graph are their own transpose;   valid_within   no row of a valid graph has a bit outside
--   replayable                        an ordering can be replayed on empty labels, without running values and weights
--   fault_there, fault_judged         where the replay stops there is a violation, and the first one is judge's verdict
--   stopped_fails, ended_passes, whole_ended, along_ended, whole_filled, filled_carried   what extend answers and leaves
--   moment_refused, moment_stopped   no moment where the ordering is refused or the replay stops;   ended_pass, moment_ended   and at its end the moment
--   judge_asked_*, carry_on_asked_*    the answers of the calls, and that the graph is valid, from the checks' answer
-- Assumes nothing.
use mathlib.Core.Path.{◌≡◌, refl, sym, ap, ap₂, ◌∙◌, subst}
use mathlib.Core.Bool.{Bool, true, false, cond, not}
use mathlib.Core.List.{List, [], ◌∷◌, ◌++◌, append-nil, append_assoc}
use mathlib.Core.Option.{Option, none, some}
use Prim.Native.Nat.{ℕ, ◌+◌, ◌-◌, ◌≤◌, ◌<◌}
use native.Mathlib.Omega.{arith}
use lib.Dec.{T}
use lib.ListN.{length, take, drop, replicate, length-drop, drop_of_length-le}
use lib.Seq.{take_all, drop-drop}
use Rattle.bitset.specs.Below.{any_below, first_below, count_below}
use Rattle.bitset.specs.Word.{member}
use Rattle.bitset.specs.Matrix.{Within}
use Rattle.bitset.proofs.Tests.{is_false}
use Rattle.bitset.proofs.Below.{first}
use Rattle.bitset.proofs.Count.{count_same, count_le}
use Rattle.bitset.proofs.Passed.{some_found}
use Rattle.searches.specs.Kind.{Search, search_of}
use Rattle.searches.specs.Ordering.{arcs, at}
use Rattle.searches.specs.Violation.{Verdict, passes, refused}
use Rattle.searches.specs.Without.{judge_without, carry_on_without}
use Rattle.searches.specs.Answer.{bit_outside, is_two_way, is_pass, open_tests, Accepts, first_refusal, unbarred, judge_tests_barring, list_tests_barring, carry_on_tests_barring}
use Rattle.searches.specs.Answer.{judge_barring, carry_on_barring, output_barring}
use Rattle.searches.specs.declared.Mark.{Mark}
use Rattle.searches.proofs.Ordering.{ordering_fits}
use Rattle.searches.proofs.Refusals.{none_accepts, first_refuses}
use Rattle.searches.proofs.Answers.{valid_small}
use Rattle.searches.proofs.Barring as answers
use Rattle.searches.proofs.Kept.{judge_kept, carry_on_kept}
use Rattle.searches.proofs.JudgeKept.{judge_kept_lem}
use Rattle.searches.proofs.CarryOnKept.{carry_on-kept}
use Rattle.searches.proofs.NoneBarred.{judge_alike, carry_on_alike}
use Rattle.searches.proofs.Marks.{valid_both_ways}
use Rattle.checks.proofs.Tried.{tried_first, refused_before}
use Rattle.lookup.proofs.Symmetry.{rows_within}
use Rattle.labels.specs.Words.{Weighed}
use Rattle.lookup.specs.Columns.{Transposed}
use Rattle.steps.specs.Steps.{whole, AreVertices, labels_after, smallest_after, largest_after, placed_after, free_after, stops_at, Replayable}
use Rattle.filling.specs.Fill.{fill_in, Along}
use Rattle.violation.specs.Fault.{last_in, first_in, first_fault, Searchable}
use Rattle.lookup.proofs.Transposition.{own_transpose}
use Rattle.filling.proofs.Growing.{along_start, along_same}
use Rattle.steps.proofs.Representation.{free_size, whole_unbarred, whole_inside, whole_count}
use Rattle.engine.specs.declared.after.Moment.{Moment}
use Rattle.engine.specs.Lists.{Judgeable, Extendable}
use Rattle.engine.specs.Moments.{IsMoment}
use Rattle.engine.proofs.Judging.{first_before, judge_fails_words, judge_passes_words}
use Rattle.engine.proofs.Filling.{carry_fills}

module _ (kind : ℕ) (mark : Mark) (rows : List ℕ) (valid : Accepts (open_tests kind mark rows)) where
  -- the rows of a valid two-way graph are their own transpose,
  pub valid_own_transpose : mark ≡ Mark.TwoWay → Transposed rows rows
  unfolding is_two_way
  valid_own_transpose e = own_transpose rows (valid_both_ways kind mark rows valid (subst (λ (m : Mark). T (is_two_way m)) (sym e) tt))

  -- no row has a bit outside
  pub valid_within : Within rows
  unfolding open_tests
  valid_within = rows_within rows (valid_small kind mark rows valid) (is_false (bit_outside rows) valid.1.1.0)

module _ (rows : List ℕ) {columns : List ℕ} (barred : ℕ) (w : List ℕ) (k : ℕ) (x : Judgeable rows columns barred w k) where
  -- the vertices that take part
  abbrev all : ℕ
  all = whole (length rows) barred

  abbrev inside : AreVertices (length rows) all
  inside = whole_inside x.small barred

  abbrev in_service_lem : (v : ℕ) → v < length rows → member all v ≡ unbarred barred v
  in_service_lem = whole_unbarred x.small barred

  stays : (p : ℕ) → p < k → T (member all (at w p))
  stays p l = subst (λ (b : Bool). T b) (sym (in_service_lem (at w p) (x.ordering.vertices p l))) (x.stays p l)

  -- what is computed with these alone is the verdict on the graph without the barred ones
  kept_judged : (s : Search) → judge_kept s (arcs rows) (length rows) (member all) w k ≡ judge_without s (arcs rows) (length rows) (unbarred barred) w k
  kept_judged s =
      judge_alike s (arcs rows) (length rows) (member all) (unbarred barred) in_service_lem w k x.ordering
      ∙ sym (judge_kept_lem s (arcs rows) (length rows) (unbarred barred) w k x.ordering x.stays)

  pub replayable : Replayable rows columns all w k (replicate 64 0) (replicate 64 64) (replicate 64 0) (replicate 64 0)
  replayable = record {
    long = x.ordering.long;
    fits = ordering_fits (length rows) x.ordering;
    small = x.small;
    vertices = x.ordering.vertices;
    stays = stays;
    distinct = x.ordering.distinct;
    transpose = x.transpose;
    empty = refl;
    no_smallest = refl;
    no_largest = refl;
    no_weight = refl;
  }

  module _ (s : Search) (j : ℕ) (stops : j ≡ first_below k (stops_at s rows all w)) where
    module _ (labels : List ℕ) (free : ℕ) (l : j < k) (at-labels : labels ≡ labels_after rows all w j) (at-free : free ≡ free_after all w j) where
      pub fault_there : {weights : List ℕ} → Weighed s labels weights → Searchable s rows w k labels weights free j × T (any_below j (first_in s rows w labels free j k))
      fault_there weighed = (
        record {
          long = x.ordering.long;
          inside = l;
          fits = ordering_fits (length rows) x.ordering;
          small = x.small;
          vertices = x.ordering.vertices;
          all = all;
          within = inside;
          unplaced = at-free;
          weighed = weighed;
        },
        subst (λ (ls : List ℕ). T (any_below j (first_in s rows w ls free j k))) (sym at-labels)
            (subst (λ (f : ℕ). T (any_below j (first_in s rows w (labels_after rows all w j) f j k))) (sym at-free)
            (some_found j (first_in s rows w (labels_after rows all w j) (free_after all w j) j k)
            (first_below j (first_in s rows w (labels_after rows all w j) (free_after all w j) j k)) refl
            (first_before s rows all w k x.small inside x.ordering stays j stops l
            (first_below j (first_in s rows w (labels_after rows all w j) (free_after all w j) j k)) refl))),
      )

      pub fault_judged : first_fault s rows w labels free j k ≡ judge_without s (arcs rows) (length rows) (unbarred barred) w k
      unfolding first_fault
      fault_judged =
          ap₂ (λ (ls : List ℕ) (f : ℕ). first_fault s rows w ls f j k) at-labels at-free
          ∙ sym (judge_fails_words s rows all w k x.small inside x.ordering stays j stops l
          (first_below j (first_in s rows w (labels_after rows all w j) (free_after all w j) j k)) refl
          (first_below (k + length rows)
          (last_in s rows w (labels_after rows all w j) (free_after all w j) j k
          (first_below j (first_in s rows w (labels_after rows all w j) (free_after all w j) j k)))) refl)
          ∙ kept_judged s

      pub stopped_fails : is_pass (judge_without s (arcs rows) (length rows) (unbarred barred) w k) ≡ false
      unfolding first_fault is_pass
      stopped_fails = ap is_pass (sym fault_judged)

    pub ended_passes : k ≤ j → judge_without s (arcs rows) (length rows) (unbarred barred) w k ≡ passes
    ended_passes l = sym (kept_judged s) ∙ judge_passes_words s rows all w k x.small inside x.ordering stays (omega arith)

  -- where the replay came to the end, all k vertices are placed,
  pub whole_ended : (s : Search) (count : ℕ) → count ≡ first_below k (stops_at s rows all w) → k ≤ count → count ≡ k
  whole_ended s count stops ended = omega (arith, stops, (first k (stops_at s rows all w)).within)

  -- and its words are those after them
  pub along_ended : (s : Search) (count : ℕ) → count ≡ first_below k (stops_at s rows all w) → k ≤ count → {labels smallest largest : List ℕ} {placed free : ℕ}
      → labels ≡ labels_after rows all w count → smallest ≡ smallest_after rows all w count → largest ≡ largest_after rows all w count → placed ≡ placed_after w count
      → free ≡ free_after all w count → Along rows k labels smallest largest placed free
  along_ended s count stops ended at-labels at-smallest at-largest at-placed at-free =
      let end = whole_ended s count stops ended in
      along_same rows (along_start rows all inside w k x.ordering stays) refl (at-labels ∙ ap (λ (j : ℕ). labels_after rows all w j) end)
      (at-smallest ∙ ap (λ (j : ℕ). smallest_after rows all w j) end) (at-largest ∙ ap (λ (j : ℕ). largest_after rows all w j) end)
      (at-placed ∙ ap (λ (j : ℕ). placed_after w j) end) (at-free ∙ ap (λ (j : ℕ). free_after all w j) end)

  -- and as many are unplaced as are left of those that are not barred
  pub left_ended : (s : Search) (count : ℕ) → count ≡ first_below k (stops_at s rows all w) → k ≤ count → {free : ℕ} → free ≡ free_after all w count
      → k + count_below 64 (member free) ≡ count_below (length rows) (unbarred barred)
  left_ended s count stops ended {free} at-free =
      let same : count_below 64 (member free) ≡ count_below 64 (member (free_after all w k)) =
      ap (λ (f : ℕ). count_below 64 (member f)) (at-free ∙ ap (λ (j : ℕ). free_after all w j) (whole_ended s count stops ended))
      in
      omega (arith, same, free_size all w k x.small x.ordering stays k (omega arith), whole_count x.small barred)

-- ---- the output list

-- a list whose tail from k on was filled up to n
pub whole_filled : (out F : List ℕ) (k n : ℕ) → k ≤ n → n ≤ length out
    → take k out ++ ((F ++ drop (n - k) (take (length out - k) (drop k out))) ++ drop (length out - k) (drop k out)) ≡ (take k out ++ F) ++ drop n out
whole_filled out F k n l h =
    let whole : take (length out - k) (drop k out) ≡ drop k out = take_all (length out - k) (drop k out) (omega (arith, length-drop k out)) in
    let none_left : drop (length out - k) (drop k out) ≡ [] = drop_of_length-le (drop k out) {i = length out - k} (omega (arith, length-drop k out)) in
    let behind : drop (n - k) (drop k out) ≡ drop n out = drop-drop (n - k) k out ∙ ap (λ (m : ℕ). drop m out) (let e : k + (n - k) ≡ n = omega arith in e) in
    ap₂ (λ (a : List ℕ) (b : List ℕ). take k out ++ ((F ++ drop (n - k) a) ++ b)) whole none_left
    ∙ ap (λ (a : List ℕ). take k out ++ a) (append-nil (F ++ drop (n - k) (drop k out))) ∙ ap (λ (a : List ℕ). take k out ++ (F ++ a)) behind
    ∙ sym (append_assoc (take k out) F (drop n out))

pub filled_carried : (s : Search) (rows : List ℕ) {columns : List ℕ} (barred : ℕ) (t out : List ℕ) (k : ℕ) → Extendable rows columns barred t out k
    → (count free : ℕ) (labels ys : List ℕ) → count ≡ first_below k (stops_at s rows (whole (length rows) barred) out) → k ≤ count
    → labels ≡ labels_after rows (whole (length rows) barred) out count → free ≡ free_after (whole (length rows) barred) out count
    → ys ≡ fill_in s rows t (count_below 64 (member free)) k labels free ++ drop (count_below 64 (member free)) (take (length out - k) (drop k out))
    → take k out ++ (ys ++ drop (length out - k) (drop k out))
    ≡ carry_on_without s (arcs rows) (length rows) (unbarred barred) t out k ++ drop (count_below (length rows) (unbarred barred)) out
filled_carried s rows barred t out k x count free labels ys stops ended at-labels at-free at-ys =
    let n = length rows in
    let all = whole n barred in
    let inside = whole_inside x.start.small barred in
    let end : count ≡ k = whole_ended rows barred out k x.start s count stops ended in
    let m : ℕ = count_below 64 (member free) in
    let n' : ℕ = count_below n (unbarred barred) in
    let left : k + m ≡ n' = left_ended rows barred out k x.start s count stops ended at-free in
    let F = fill_in s rows t m k labels free in
    let same : F ≡ fill_in s rows t m k (labels_after rows all out k) (free_after all out k) =
    ap₂ (λ (ls : List ℕ) (f : ℕ). fill_in s rows t m k ls f) (at-labels ∙ ap (λ (j : ℕ). labels_after rows all out j) end) (at-free ∙ ap (λ (j : ℕ). free_after all out j) end)
    in
    let kept : carry_on_kept s (arcs rows) n (member all) t out k ≡ carry_on_without s (arcs rows) n (unbarred barred) t out k =
    carry_on_alike s (arcs rows) n (member all) (unbarred barred) (in_service_lem rows barred out k x.start) t out k
    ∙ sym (carry_on-kept s (arcs rows) n (unbarred barred) t x.names out k x.start.ordering x.start.stays)
    in
    let fewer : count_below n (member all) ≡ n' = count_same n (member all) (unbarred barred) (in_service_lem rows barred out k x.start) in
    let room : n' ≤ length out = omega (arith, count_le n (unbarred barred), x.room) in
    let rest : n' - k ≡ m = omega arith in
    ap (λ (y : List ℕ). take k out ++ (y ++ drop (length out - k) (drop k out))) (at-ys ∙ ap (λ (i : ℕ). F ++ drop i (take (length out - k) (drop k out))) (sym rest))
    ∙ whole_filled out F k n' (omega arith) room ∙ ap (λ (f : List ℕ). (take k out ++ f) ++ drop n' out) same
    ∙ ap (λ (a : List ℕ). a ++ drop n' out) (sym (carry_fills s rows all x.start.small inside t out k x.names x.start.ordering (stays rows barred out k x.start) m (omega arith)) ∙ kept)

-- ---- from the checks' answer to the calls' answers

module _ (kind : ℕ) (mark : Mark) (rows : List ℕ) (barred : ℕ) (w : List ℕ) where
  abbrev taking : ℕ
  taking = whole (length rows) barred

  pub judge_asked_refused : (q : ℕ) → some q ≡ first_refusal (judge_tests_barring kind mark rows barred w) → refused q ≡ judge_barring kind mark rows barred w
  judge_asked_refused q e = sym (answers.judge_refused kind mark rows barred w q (first_refuses (judge_tests_barring kind mark rows barred w) q (sym e)))

  pub judge_asked_valid : none ≡ first_refusal (judge_tests_barring kind mark rows barred w) → Accepts (open_tests kind mark rows)
  judge_asked_valid e = answers.valid_graph kind mark rows barred (answers.judged_kept kind mark rows barred w (none_accepts (judge_tests_barring kind mark rows barred w) (sym e))).0

  pub judge_asked_accepted : none ≡ first_refusal (judge_tests_barring kind mark rows barred w) → {columns : List ℕ} → Transposed rows columns
      → Judgeable rows columns barred w (length w) × (judge_without (search_of kind) (arcs rows) (length rows) (unbarred barred) w (length w) ≡ judge_barring kind mark rows barred w)
  judge_asked_accepted e transpose =
      let a = none_accepts (judge_tests_barring kind mark rows barred w) (sym e) in
      let x = answers.judged_kept kind mark rows barred w a in
      (record { small = valid_small kind mark rows (answers.valid_graph kind mark rows barred x.0); transpose = transpose; ordering = x.1.ordering; stays = x.1.stays }, sym (answers.judge_accepted kind mark rows barred w a))

  -- ---- whether `after` hands back a moment, and which

  pub moment_refused : (q : ℕ) → some q ≡ first_refusal (judge_tests_barring kind mark rows barred w) → false ≡ is_pass (judge_barring kind mark rows barred w)
  unfolding is_pass
  moment_refused q e = ap is_pass (judge_asked_refused q e)

  -- an ordering that was placed again up to `count`
  module _ (accepted : none ≡ first_refusal (judge_tests_barring kind mark rows barred w)) {columns : List ℕ} (transpose : Transposed rows columns)
      (count : ℕ) (stops : count ≡ first_below (length w) (stops_at (search_of kind) rows taking w)) where
    asked : Judgeable rows columns barred w (length w) × (judge_without (search_of kind) (arcs rows) (length rows) (unbarred barred) w (length w) ≡ judge_barring kind mark rows barred w)
    asked = judge_asked_accepted accepted transpose

    pub moment_stopped : count < length w → false ≡ is_pass (judge_barring kind mark rows barred w)
    moment_stopped l =
        sym (stopped_fails rows barred w (length w) asked.0 (search_of kind) count stops (labels_after rows taking w count) (free_after taking w count) l refl refl)
        ∙ ap is_pass asked.1

    module _ (l : length w ≤ count) where
      pub ended_pass : true ≡ is_pass (judge_barring kind mark rows barred w)
      unfolding is_pass
      ended_pass = ap is_pass (sym (ended_passes rows barred w (length w) asked.0 (search_of kind) count stops l) ∙ asked.1)

      pub moment_ended : {m : Moment} → m.free ≡ free_after taking w count → m.labels.kind.0 ≡ kind → m.labels.words ≡ labels_after rows taking w count
          → IsMoment kind rows barred w m
      moment_ended at-free of-kind at-words =
          let whole : count ≡ length w = omega (arith, stops, (first (length w) (stops_at (search_of kind) rows taking w)).within) in
          record {
            free = at-free ∙ ap (λ (j : ℕ). free_after taking w j) whole;
            of_kind = of-kind;
            words = at-words ∙ ap (λ (j : ℕ). labels_after rows taking w j) whole;
          }

module _ (kind : ℕ) (mark : Mark) (rows : List ℕ) (barred : ℕ) (t out : List ℕ) (k : ℕ) where
  abbrev verdict : Verdict
  verdict = judge_without (search_of kind) (arcs rows) (length rows) (unbarred barred) out k

  pub carry_on_asked_refused : (q : ℕ) → some q ≡ first_refusal (list_tests_barring kind mark rows barred t out k)
      → (some q ≡ carry_on_barring kind mark rows barred t out k) × (out ≡ output_barring kind mark rows barred t out k)
  unfolding carry_on_barring carry_on_tests_barring
  carry_on_asked_refused q e =
      let r : some q ≡ first_refusal (carry_on_tests_barring kind mark rows barred t out k) = refused_before (list_tests_barring kind mark rows barred t out k) ((12, not (is_pass verdict)) ∷ []) e in
      (r, sym (answers.carry_on-kept kind mark rows barred t out k q (first_refuses (carry_on_tests_barring kind mark rows barred t out k) q (sym r))))

  pub carry_on_asked_valid : none ≡ first_refusal (list_tests_barring kind mark rows barred t out k) → Accepts (open_tests kind mark rows)
  carry_on_asked_valid e = answers.valid_graph kind mark rows barred (answers.accepted_lists kind mark rows barred t out k (none_accepts (list_tests_barring kind mark rows barred t out k) (sym e))).valid

  pub carry_on_asked_accepted : none ≡ first_refusal (list_tests_barring kind mark rows barred t out k) → {columns : List ℕ} → Transposed rows columns
      → Extendable rows columns barred t out k
  carry_on_asked_accepted e transpose =
      let x = answers.accepted_lists kind mark rows barred t out k (none_accepts (list_tests_barring kind mark rows barred t out k) (sym e)) in
      record {
        start = record {
          small = valid_small kind mark rows (answers.valid_graph kind mark rows barred x.valid);
          transpose = transpose;
          ordering = x.start.ordering;
          stays = x.start.stays;
        };
        room = x.room;
        names = x.tie_break;
      }

  -- the last test is on the start
  pub carry_on_asked_last : none ≡ first_refusal (list_tests_barring kind mark rows barred t out k)
      → (cond (is_pass verdict) none (some 12) ≡ carry_on_barring kind mark rows barred t out k)
      × (cond (is_pass verdict) (carry_on_without (search_of kind) (arcs rows) (length rows) (unbarred barred) t out k ++ drop (count_below (length rows) (unbarred barred)) out) out ≡ output_barring kind mark rows barred t out k)
  unfolding carry_on_barring carry_on_tests_barring output_barring first_refusal
  carry_on_asked_last e =
      let last : first_refusal (carry_on_tests_barring kind mark rows barred t out k) ≡ cond (is_pass verdict) none (some 12) =
      sym (tried_first (list_tests_barring kind mark rows barred t out k) ((12, not (is_pass verdict)) ∷ []) e).same ∙ turned (is_pass verdict)
      in
      (sym last, left (is_pass verdict) (first_refusal (carry_on_tests_barring kind mark rows barred t out k)) last)
    where
      turned : (b : Bool) → cond {A = Option ℕ} (not b) (some 12) none ≡ cond b none (some 12)
      turned true = refl
      turned false = refl

      kept : Option ℕ → List ℕ
      kept answer =
          elim answer [
            | none ↦ carry_on_without (search_of kind) (arcs rows) (length rows) (unbarred barred) t out k ++ drop (count_below (length rows) (unbarred barred)) out
            | some r ↦ out
          ]

      left : (b : Bool) (answer : Option ℕ) → answer ≡ cond b none (some 12)
          → cond b (carry_on_without (search_of kind) (arcs rows) (length rows) (unbarred barred) t out k ++ drop (count_below (length rows) (unbarred barred)) out) out ≡ kept answer
      left true answer same = sym (ap kept same)
      left false answer same = sym (ap kept same)
