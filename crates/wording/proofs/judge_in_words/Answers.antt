-- `wording::judge_in_words` meets its contract: refused as the tests say, else the sentence is written.
-- Assumes nothing.
use mathlib.Core.Path.{◌≡◌, refl, sym, ap, ◌∙◌}
use mathlib.Core.Bool.{Bool, true, false, ◌&&◌}
use mathlib.Core.Option.{Option, none}
use Prim.Native.Nat.{ℕ, ◌≤◌}
use lib.Dec.{ltb}
use lib.ListN.{length}
use lib.Seq.{sets}
use Rattle.std.specs.Prelude.{Result, Ok, Err}
use Rattle.std.specs.Result.{is_ok}
use Rattle.std.proofs.lemmas.Result.{err_from_is_err_and}
use Rattle.bitset.proofs.Tests.{said_true, and_out, is_true}
use Rattle.searches.specs.Kind.{search_of}
use Rattle.searches.specs.Violation.{Verdict}
use Rattle.searches.specs.Answer.{judge_barring, first_refusal, number, verdict_of}
use Rattle.searches.specs.declared.Judgement.{Judgement}
use Rattle.searches.specs.declared.Refusal.{Refusal}
use Rattle.searches.specs.declared.Vertex.{Vertex}
use Rattle.searches.proofs.Refusals.{none_accepts}
use Rattle.checks.proofs.Tried.{Tried, tried_one, refused_here, accepted_here}
use Rattle.wording.specs.Sentence.{sentence, Decided}
use Rattle.wording.specs.Answer.{refused_with, earlier, room_tests, words_tests, in_words, written, told_of}
use Rattle.wording.proofs.Writing.{front_left}
use Rattle.wording.proofs.Telling.{decided_accepts, kind_named, words_first, accepted_out, words_refused, words_accepted, room_enough}
use Rattle.wording.proofs.judge_in_words.Goals as goal
use Rattle.wording.proofs.judge_in_words.Goals.{After-is_ok, After-write_sentence-end, In_ok-judgement, Then-late}

-- a verdict is no refusal
told : (j : Judgement Vertex) (later : Option ℕ) → later ≡ earlier (refused_with (verdict_of (Ok j))) later
unfolding earlier refused_with verdict_of
told Judgement.Passes later = refl
told (Judgement.Fails v) later = refl

told_ok : (answer : Result (Judgement Vertex) Refusal) (later : Option ℕ) → is_ok answer ≡ true → later ≡ earlier (refused_with (verdict_of answer)) later
told_ok (Ok j) later said = told j later
told_ok (Err p) later said = absurd (said_true false refl said)

-- where judge gives a verdict, the test on the output list answers for all
past : (c : After-is_ok) → c.is_ok.result ≡ true
    → let a = c.args in
    Tried (words_tests a.kind.0 a.mark a.rows.now a.barred a.ordering.now (length a.output.now)) (room_tests (length a.output.now))
past c said =
    let a = c.args in
    let size = length a.output.now in
    record {
      same =
          told_ok c.judge-judged.result (first_refusal (room_tests size)) (sym c.is_ok.ensures.value ∙ said)
          ∙ ap (λ (v : Verdict). earlier (refused_with v) (first_refusal (room_tests size))) c.judge-judged.ensures
          ∙ words_first a.kind.0 a.mark a.rows.now a.barred a.ordering.now size;
    }

pub returns-in_err-judgement : goal.returns-in_err-judgement
unfolding earlier refused_with verdict_of told_of
returns-in_err-judgement c =
    let a = c.args in
    let size = length a.output.now in
    let p = err_from_is_err_and c.from_residual.result c.from_residual.ensures.1 in
    let whole =
    words_refused a.kind.0 a.mark a.rows.now a.barred a.ordering.now a.output.now _
    (ap (λ (v : Verdict). earlier (refused_with v) (first_refusal (room_tests size))) (sym (ap verdict_of c.in_err-judgement.was) ∙ c.judge-judged.ensures)
    ∙ words_first a.kind.0 a.mark a.rows.now a.barred a.ordering.now size)
    in
    record { answer = rw (p.1, p.2) whole.0; output = whole.1 }

-- judge gives a verdict, and there is no room
late : (c : Then-late) → (c.is_ok.result ≡ true) × (ltb (length c.args.output.now) 96 ≡ true)
late c =
    let both = and_out c.is_ok.result (ltb (length c.args.output.now) 96) (said_true _ refl c.if-late.true) in
    (is_true _ both.0, is_true _ both.1)

pub returns-then-late : goal.returns-then-late
unfolding room_tests number told_of
returns-then-late c =
    let a = c.args in
    let both = late (goal.at.returns-then-late c).Then-late in
    let whole =
    words_refused a.kind.0 a.mark a.rows.now a.barred a.ordering.now a.output.now 10
    (refused_here (past (goal.at.returns-then-late c).After-is_ok both.0) both.1)
    in
    record { answer = whole.0; output = whole.1 }

accepted : (c : In_ok-judgement)
    → let a = c.args in
    none ≡ first_refusal (words_tests a.kind.0 a.mark a.rows.now a.barred a.ordering.now (length a.output.now))
unfolding room_tests
accepted c =
    let size = length c.args.output.now in
    let given : c.is_ok.result ≡ true = c.is_ok.ensures.value ∙ ap is_ok c.in_ok-judgement.was in
    let there : ltb size 96 ≡ false = sym (ap (λ (b : Bool). b && ltb size 96) given) ∙ c.if-late.false in
    accepted_here (tried_one (past (goal.at.In_ok-judgement c).After-is_ok given) there)

-- judge gives a verdict, and there is room
able : (c : In_ok-judgement)
    → let a = c.args in
    Decided (judge_barring a.kind.0 a.mark a.rows.now a.barred a.ordering.now) × (96 ≤ length a.output.now)
able c =
    let a = c.args in
    accepted_out a.kind.0 a.mark a.rows.now a.barred a.ordering.now (length a.output.now) (none_accepts _ (sym (accepted c)))

pub write_sentence-end-requires : goal.write_sentence-end-requires
write_sentence-end-requires c =
    let a = c.args in
    let x = able (goal.at.write_sentence-end-requires c).In_ok-judgement in
    (kind_named a.kind.0 a.mark a.rows.now a.barred a.ordering.now (decided_accepts a.kind.0 a.mark a.rows.now a.barred a.ordering.now x.0), x.1)

-- what is written is the sentence for judge's answer
wrote : (c : After-write_sentence-end)
    → let a = c.args in
    let said = in_words a.kind.0 a.mark a.rows.now a.barred a.ordering.now in
    (c.write_sentence-end.new.output ≡ sets a.output.now 0 said) × (c.write_sentence-end.result ≡ length said)
unfolding in_words
wrote c =
    let a = c.args in
    let is = sym (ap verdict_of c.in_ok-judgement.was) ∙ c.judge-judged.ensures in (
      c.write_sentence-end.ensures.output ∙ ap (λ (v : Verdict). sets a.output.now 0 (sentence (search_of a.kind.0) v)) is,
      c.write_sentence-end.ensures.end ∙ ap (λ (v : Verdict). length (sentence (search_of a.kind.0) v)) is,
    )

pub returns : goal.returns
unfolding told_of
returns c =
    let a = c.args in
    let out = a.output.now in
    let said = in_words a.kind.0 a.mark a.rows.now a.barred a.ordering.now in
    let none_refused = accepted (goal.at.returns c).In_ok-judgement in
    let last = words_accepted a.kind.0 a.mark a.rows.now a.barred a.ordering.now out none_refused in
    let fits = room_enough a.kind.0 a.mark a.rows.now a.barred a.ordering.now out (none_accepts _ (sym none_refused)) in
    let x = wrote (goal.at.returns c).After-write_sentence-end in
    record {
      answer = ap written x.1 ∙ last.0;
      output = x.0 ∙ front_left out said fits ∙ last.1;
    }
