-- The judgement, written line by line.
--   judgement_short        a judgement has at most 147 bytes
--   Judging out₀ rows w out i j      the lines of the kinds below j are written, up to i;   judging_start, judging_next
-- Assumes nothing.
use Prim.Native.Nat.{ℕ, zero, suc, ◌+◌, ◌*◌, ◌≤◌, ◌<◌}
use mathlib.Core.Path.{◌≡◌, refl, sym, ap, ap₂, ◌∙◌, subst}
use mathlib.Core.Option.{Option, none, some}
use mathlib.Core.List.{List}
use native.Mathlib.Omega.{arith}
use lib.ListN.{length, length-append}
use lib.Seq.{sets, length-sets}
use Rattle.searches.specs.Violation.{Verdict, passes, fails, refused}
use Rattle.searches.specs.Answer.{judge_answer}
use Rattle.searches.specs.declared.Mark.{Mark}
use Rattle.fields.specs.Field.{field, fields, line}
use Rattle.fields.proofs.Writing.{sets_append}
use Rattle.judgement.specs.Judged.{judged_line, judged_lines, judged_unless, judgement}
use Rattle.sheet.specs.Sheet.{rows_of, walk_of, read_answer}

-- ---- the lines of the kinds

line_short : (kind : ℕ) (v : Verdict) → length (judged_line kind v) ≤ 21
unfolding judged_line line fields field
line_short kind passes = omega arith
line_short kind (fails a b c) = omega arith
line_short kind (refused r) = omega arith

pub record Judging (out₀ rows w out : List ℕ) (i j : ℕ) : Type 0 where
  pub upto : j ≤ 7
  pub short : i ≤ 21 * j
  pub place : i ≡ length (judged_lines rows w j)
  pub written : out ≡ sets out₀ 0 (judged_lines rows w j)

module _ (out₀ rows w : List ℕ) where
  pub judging_start : Judging out₀ rows w out₀ 0 0
  unfolding judged_lines
  judging_start = record { upto = omega arith; short = omega arith; place = refl; written = refl }

  -- there is room for a line
  pub judging_room : {out : List ℕ} {i j : ℕ} → Judging out₀ rows w out i j → j < 7 → 147 ≤ length out₀ → (i < 150) × (i + 21 ≤ length out)
  judging_room {out} {i} {j} r l long =
      (omega (arith, r.short), omega (arith, r.short, ap length r.written, length-sets out₀ 0 (judged_lines rows w j)))

  pub judging_next : {out : List ℕ} {i j : ℕ} (out' : List ℕ) {i' : ℕ} {v : Verdict} → Judging out₀ rows w out i j → j < 7 → v ≡ judge_answer j Mark.TwoWay rows w
      → out' ≡ sets out i (judged_line j v) → i' ≡ i + length (judged_line j v) → Judging out₀ rows w out' i' (j + 1)
  unfolding judged_lines
  judging_next {out} {i} {j} out' {i'} {v} r l is at_out at_i =
      let next : suc j ≡ j + 1 = omega arith in
      let lines = judged_lines rows w j in
      let here : i ≡ 0 + length lines = r.place ∙ omega arith in
      subst (λ (x : ℕ). Judging out₀ rows w out' i' x) next (record {
        upto = l;
        short = omega (arith, at_i, r.short, line_short j v);
        place =
            at_i ∙ ap₂ (λ (x : ℕ) (y : Verdict). x + length (judged_line j y)) r.place is
            ∙ sym (length-append lines (judged_line j (judge_answer j Mark.TwoWay rows w)));
        written =
            at_out ∙ ap₂ (λ (x : List ℕ) (y : Verdict). sets x i (judged_line j y)) r.written is
            ∙ ap (λ (x : ℕ). sets (sets out₀ 0 lines) x (judged_line j (judge_answer j Mark.TwoWay rows w))) here
            ∙ sym (sets_append out₀ 0 lines (judged_line j (judge_answer j Mark.TwoWay rows w)));
      })

lines_short : (rows w : List ℕ) (j : ℕ) → length (judged_lines rows w j) ≤ 21 * j
unfolding judged_lines
lines_short rows w zero = omega arith
lines_short rows w (suc j) =
    omega (arith, length-append (judged_lines rows w j) (judged_line j (judge_answer j Mark.TwoWay rows w)), lines_short rows w j, line_short j (judge_answer j Mark.TwoWay rows w))

pub judgement_short : (b : List ℕ) → length (judgement b) ≤ 147
unfolding judgement judged_unless line fields field
judgement_short b = go (read_answer b)
  where
    go : (answer : Option ℕ) → length (judged_unless answer b) ≤ 147
    go none = lines_short (rows_of b) (walk_of b) 7
    go (some r) = omega arith
