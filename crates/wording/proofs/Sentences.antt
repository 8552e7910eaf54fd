-- What 02 asks of the judgement in words, over the definitions that the promise of `judge_in_words` cites. Each theorem's comment says which sentence it
-- is; the work is done in the modules that the proofs cite. First for any search and any verdict; then as the call answers.
-- That plan and walk are not altered: they are passed as `&`. That the call ends is part of its proof.
-- Assumes nothing.
use mathlib.Core.Path.{◌≡◌, refl, sym, ap, ap₂, ◌∙◌}
use mathlib.Core.Logic.Iff
use mathlib.Core.Logic.{◌↔◌}
use mathlib.Core.Bool.{Bool}
use mathlib.Core.List.{List, [], ◌∷◌, ◌++◌, map}
use mathlib.Core.Option.{Option, none, some}
use Prim.Native.Nat.{ℕ, ◌≤◌, ◌<◌}
use native.Mathlib.Omega.{arith}
use lib.Dec.{ltb, ltb→lt, lt→ltb}
use lib.ListN.{length, take, drop}
use lib.Seq.{take_at, drop_at}
use Rattle.searches.specs.Kind.{Search, search_of}
use Rattle.searches.specs.Violation.{Verdict}
use Rattle.searches.specs.Violation as verdicts
use Rattle.searches.specs.declared.Mark.{Mark}
use Rattle.searches.specs.Answer.{BothWays, open_tests, open_tests_barring, judge_tests_barring, judge_barring, first_refusal, Refuses}
use Rattle.searches.proofs.Refusals.{refuses_first, accepts_none}
use Rattle.searches.proofs.Numbered.{refuses_earlier, earlier_refuses, at_out, at_in}
use Rattle.searches.proofs.Marks.{judge_tests_barring_lem, either_judge_barring}
use Rattle.searches.proofs.DemandsBarring.{judge_refuses}
use Rattle.wording.specs.Sentence.{name, sentence, Decided, PointsBelow}
use Rattle.wording.specs.Reading.{search_named, read_sentence}
use Rattle.wording.specs.Answer.{room_tests, words_tests, in_words, written, refused, words_answer, words_output}
use Rattle.wording.proofs.Lengths as lengths
use Rattle.wording.proofs.Named as named
use Rattle.wording.proofs.ReadBack as reading
use Rattle.wording.proofs.Telling as telling

-- ---- for any search and any verdict

-- the seven names are distinct
pub names_distinct : (s s' : Search) → name s ≡ name s' → s ≡ s'
names_distinct s s' e = sym (named.search_named_lem s) ∙ ap search_named e ∙ named.search_named_lem s'

-- the bytes of a sentence determine search and verdict: they are read back from it,
pub read_back : (s : Search) (v : Verdict) → Decided v → read_sentence (sentence s v) ≡ (s, v)
read_back = reading.read_back

-- so different judgements or searches never give equal sentences; for points of any numbers
pub never_equal : (s s' : Search) (v v' : Verdict) → Decided v → Decided v' → ((s ≡ s') × (v ≡ v') → ⊥) → sentence s v ≡ sentence s' v' → ⊥
never_equal s s' v v' told told' differ e = differ (reading.sentence_alone s s' v v' told told' e)

-- a sentence that names points below 64 has at most 50 bytes,
pub sentence_longest : (s : Search) (v : Verdict) → PointsBelow 64 v → length (sentence s v) ≤ 50
sentence_longest = lengths.sentence_longest

-- and one that names any bytes at most 54
pub sentence_fits : (s : Search) (v : Verdict) → PointsBelow 256 v → length (sentence s v) ≤ 54
sentence_fits = lengths.sentence_fits

-- ---- as the call answers

module _ (kind : ℕ) (mark : Mark) (rows : List ℕ) (barred : ℕ) (w out : List ℕ) where
  abbrev verdict : Verdict
  verdict = judge_barring kind mark rows barred w

  abbrev judged : List (ℕ × Bool)
  judged = judge_tests_barring kind mark rows barred w

  abbrev tests : List (ℕ × Bool)
  tests = words_tests kind mark rows barred w (length out)

  -- ---- refusals

  -- judge's own checks, then 10
  pub words_order : map (λ (test : ℕ × Bool). test.0) tests ≡ 1 ∷ 2 ∷ 3 ∷ 4 ∷ 5 ∷ 23 ∷ 6 ∷ 8 ∷ 9 ∷ 24 ∷ 10 ∷ []
  unfolding open_tests open_tests_barring judge_tests_barring room_tests words_tests
  words_order = refl

  -- each refusal in its stated case and no other: the answer is refusal r exactly when r's test holds and no earlier one does
  pub words_refuses : (r : ℕ) → (words_answer kind mark rows barred w out ≡ refused r) ↔ Refuses r tests
  words_refuses r = (
    telling.refused_words kind mark rows barred w out r,
    λ x. sym (telling.words_refused kind mark rows barred w out r (sym (refuses_first tests r x))).0,
  )

  -- what judge refuses is refused, with its number,
  pub refused_by_judge : (r : ℕ) → (r ≡ 10 → ⊥) → (words_answer kind mark rows barred w out ≡ refused r) ↔ (verdict ≡ verdicts.refused r)
  unfolding room_tests words_tests
  refused_by_judge r other =
      let own : List (ℕ × Bool) = (10, ltb (length out) 96) ∷ [] in
      let judges = judge_refuses kind mark rows barred w r in
      Iff.trans (words_refuses r) (
        λ x. judges.1 (refuses_earlier r judged own (λ e. other (sym e), tt) x),
        λ e. earlier_refuses r judged own (judges.0 e),
      )

  -- and what it does not refuse with 10 when the output list has fewer than 96 bytes
  pub refused_for_room : (words_answer kind mark rows barred w out ≡ refused 10) ↔ (Decided verdict × (length out < 96))
  unfolding open_tests open_tests_barring judge_tests_barring room_tests words_tests
  refused_for_room = Iff.trans (words_refuses 10) (
    λ x.
        let y = at_out 10 judged (ltb (length out) 96) [] (telling.not_judged kind mark rows barred w) tt x in
        (telling.accepts_decided kind mark rows barred w y.0, ltb→lt (length out) 96 y.1),
    λ y. at_in 10 judged (ltb (length out) 96) [] (telling.decided_accepts kind mark rows barred w y.0) (lt→ltb (length out) 96 y.1),
  )

  -- ---- the answer and the output list

  -- a sentence is given exactly where judge gives a verdict and there is room, and what is answered is how long it is
  pub written_exactly : (m : ℕ) → (words_answer kind mark rows barred w out ≡ written m) ↔ (Decided verdict × (96 ≤ length out) × (m ≡ length (in_words kind mark rows barred w)))
  written_exactly m = (
    λ e.
        let x = telling.written_words kind mark rows barred w out m e in
        let y = telling.accepted_out kind mark rows barred w (length out) x.0 in
        (y.0, y.1, x.1),
    λ x.
        sym (telling.words_accepted kind mark rows barred w out (sym (accepts_none tests (telling.accepted_in kind mark rows barred w (length out) x.0 x.1)))).0
        ∙ ap written (sym x.2),
  )

  -- refused, the output list is what it was
  pub refused_keeps : (r : ℕ) → Refuses r tests → words_output kind mark rows barred w out ≡ out
  refused_keeps r x = sym (telling.words_refused kind mark rows barred w out r (sym (refuses_first tests r x))).1

  module _ (m : ℕ) (given : words_answer kind mark rows barred w out ≡ written m) where
    len : m ≡ length (in_words kind mark rows barred w)
    len = (telling.written_words kind mark rows barred w out m given).1

    output : words_output kind mark rows barred w out ≡ in_words kind mark rows barred w ++ drop m out
    output =
        sym (telling.words_accepted kind mark rows barred w out (sym (accepts_none tests (telling.written_words kind mark rows barred w out m given).0))).1
        ∙ ap (λ (i : ℕ). in_words kind mark rows barred w ++ drop i out) (sym len)

    -- the sentence is written to the front of the output list, and only so many bytes: what stands behind them stays
    pub written_front : (take m (words_output kind mark rows barred w out) ≡ sentence (search_of kind) verdict) × (drop m (words_output kind mark rows barred w out) ≡ drop m out)
    unfolding in_words
    written_front = (
      ap (λ (x : List ℕ). take m x) output ∙ take_at (in_words kind mark rows barred w) (drop m out) m (sym len),
      ap (λ (x : List ℕ). drop m x) output ∙ drop_at (in_words kind mark rows barred w) (drop m out) m (sym len),
    )

    -- it has at most 50 bytes
    pub written_short : m ≤ 50
    written_short = omega (arith, len, telling.words_short kind mark rows barred w)

    -- and search and judgement are read back from it
    pub written_told : read_sentence (take m (words_output kind mark rows barred w out)) ≡ (search_of kind, verdict)
    written_told = ap read_sentence written_front.0 ∙ read_back (search_of kind) verdict ((written_exactly m).0 given).0

  -- the output list is as long as it was, refused or not
  pub output_length : length (words_output kind mark rows barred w out) ≡ length out
  output_length = telling.output_length kind mark rows barred w out

-- two calls that write equal sentences were for the same kind and have the same judgement
module _ (kind kind' : ℕ) (mark mark' : Mark) (rows rows' : List ℕ) (barred barred' : ℕ) (w w' out out' : List ℕ) (m m' : ℕ) where
  pub told_apart : words_answer kind mark rows barred w out ≡ written m → words_answer kind' mark' rows' barred' w' out' ≡ written m'
      → take m (words_output kind mark rows barred w out) ≡ take m' (words_output kind' mark' rows' barred' w' out')
      → (kind ≡ kind') × (judge_barring kind mark rows barred w ≡ judge_barring kind' mark' rows' barred' w')
  told_apart given given' e =
      let both : ◌≡◌ {A = Search × Verdict} (search_of kind, judge_barring kind mark rows barred w) (search_of kind', judge_barring kind' mark' rows' barred' w') =
      sym (written_told kind mark rows barred w out m given) ∙ ap read_sentence e ∙ written_told kind' mark' rows' barred' w' out' m' given'
      in
      let NamedBy = telling.kind_named kind mark rows barred w (telling.decided_accepts kind mark rows barred w ((written_exactly kind mark rows barred w out m).0 given).0) in
      let named-by' =
      telling.kind_named kind' mark' rows' barred' w'
      (telling.decided_accepts kind' mark' rows' barred' w' ((written_exactly kind' mark' rows' barred' w' out' m').0 given').0)
      in (
        named.kind_alone kind kind' NamedBy named-by' (ap (λ (x : Search × Verdict). x.0) both),
        ap (λ (x : Search × Verdict). x.1) both,
      )

-- ---- the mark

-- 02: K4, on a plan whose every link goes both ways the sentence is the same, or refused alike, under either mark
module _ (kind : ℕ) (mark mark' : Mark) (rows : List ℕ) (both : BothWays rows) (barred : ℕ) (w out : List ℕ) where
  words_tests_lem : words_tests kind mark rows barred w (length out) ≡ words_tests kind mark' rows barred w (length out)
  unfolding words_tests
  words_tests_lem = rw (judge_tests_barring_lem kind mark mark' rows both barred w)

  words_same : in_words kind mark rows barred w ≡ in_words kind mark' rows barred w
  unfolding in_words
  words_same = rw (either_judge_barring kind mark mark' rows both barred w)

  pub either_words : (words_answer kind mark rows barred w out ≡ words_answer kind mark' rows barred w out)
      × (words_output kind mark rows barred w out ≡ words_output kind mark' rows barred w out)
  unfolding words_answer words_output
  either_words = (
    ap₂ (λ (first : Option ℕ) (said : List ℕ). elim first [
      | none ↦ written (length said)
      | some r ↦ refused r
    ]) (ap first_refusal words_tests_lem) words_same,
    ap₂ (λ (first : Option ℕ) (said : List ℕ). elim first [
      | none ↦ said ++ drop (length said) out
      | some r ↦ out
    ]) (ap first_refusal words_tests_lem) words_same,
  )
