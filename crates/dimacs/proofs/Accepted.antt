-- What the tests of import let through, and what is then drawn. ls are what the lines of a file say, comments left out.
--   Plan ls most                 ls are the lines of a plan with at most so many points, and at most 64
--   Accepted b out               so it is of the file b and the output list out;   accepted_out, accepted_in   the tests on them
--   answer_read, output_read     what import then answers, and leaves in the output list
--   rows_length, rows_words      the rows that are drawn: one for each point, a word of 64 bits
--   arcs_drawn                   u leads to v in them exactly when a line links the two
--   links_said                   the lines say the links of these rows, no more and no fewer
--   valid_drawn                  the rows are those of a valid two-way graph
-- Assumes nothing.
use Prim.Native.Nat.{ℕ, ◌^◌, ◌≤◌, ◌<◌}
use mathlib.Core.Path.{◌≡◌, sym, ap, ◌∙◌, subst}
use mathlib.Core.Bool.{Bool, not}
use mathlib.Core.List.{List, ◌++◌}
use mathlib.Core.Option.{none}
use native.Mathlib.Omega.{arith}
use lib.Dec.{T, ltb, eqb, ltb→lt, nltb→le, eqb→eq, not_T, T_not}
use lib.ListN.{length, drop, replicate}
use lib.Seq.{length-take-le, get_or-take}
use Rattle.bitset.specs.Word.{member}
use Rattle.bitset.proofs.Tests.{and_in, and_out, not_not}
use Rattle.searches.specs.Ordering.{arcs, at}
use Rattle.searches.specs.Answer.{is_two_way, open_tests, first_refusal, Accepts}
use Rattle.searches.specs.declared.Mark.{Mark}
use Rattle.searches.proofs.Refusals.{accepts_none, none_accepts, bit_outside_out, self_loop_out, one_way-out}
use Rattle.sheet.proofs.Standing.{equal_test}
use Rattle.edge_lines.specs.declared.Line.{Line}
use Rattle.dimacs.specs.Import.{content, headed, points, announced, following, is_edge, is_loop, every, any, formed, looped, with_links, drawn_rows}
use Rattle.dimacs.specs.Import.{import_tests, read, import_answer, import_output}
use Rattle.dimacs.specs.File.{SaysLink}
use Rattle.dimacs.proofs.Links.{linked_by, linked_back, linked_out, linked_in, said_inside, said_loop, made_length, made_words, member_made}

pub record Plan (ls : List Line) (most : ℕ) : Type 0 where
  pub headed : T (headed ls)
  pub small : points ls ≤ 64
  pub links : T (every (is_edge (points ls)) (following ls))
  pub counted : length (following ls) ≡ announced ls
  pub loopless : T (any is_loop (following ls)) → ⊥
  pub room : points ls ≤ most

abbrev pub Accepted : List ℕ → List ℕ → Type 0
Accepted b out = Plan (content b) (length out)

-- ---- the tests

module _ (b out : List ℕ) where
  pub accepted_out : first_refusal (import_tests b out) ≡ none → Accepted b out
  unfolding import_tests formed looped
  accepted_out e =
      let tests = none_accepts (import_tests b out) e in
      let ls = content b in
      let form =
      and_out (every (is_edge (points ls)) (following ls)) (eqb (length (following ls)) (announced ls)) (not_not (formed ls) (not_T (not (formed ls)) tests.1.1.0))
      in
      record {
        headed = not_not (headed ls) (not_T (not (headed ls)) tests.0);
        small = nltb→le 64 (points ls) (not_T (ltb 64 (points ls)) tests.1.0);
        links = form.0;
        counted = eqb→eq (length (following ls)) (announced ls) form.1;
        loopless = tests.1.1.1.0;
        room = nltb→le (length out) (points ls) (not_T (ltb (length out) (points ls)) tests.1.1.1.1.0);
      }

  pub accepted_in : Accepted b out → first_refusal (import_tests b out) ≡ none
  unfolding import_tests formed looped
  accepted_in x =
      let ls = content b in
      let form : T (formed ls) = and_in (every (is_edge (points ls)) (following ls)) (eqb (length (following ls)) (announced ls)) x.links (equal_test x.counted) in
      accepts_none (import_tests b out) (
        λ t. T_not (headed ls) t x.headed,
        (
          λ t. let l = ltb→lt 64 (points ls) t in omega (arith, x.small),
          (λ t. T_not (formed ls) t form, (x.loopless, (λ t. let l = ltb→lt (length out) (points ls) t in omega (arith, x.room), tt))),
        ),
      )

  pub answer_read : first_refusal (import_tests b out) ≡ none → import_answer b out ≡ read (points (content b))
  unfolding import_answer
  answer_read e = rw (e, import_answer)

  pub output_read : first_refusal (import_tests b out) ≡ none → import_output b out ≡ drawn_rows (content b) ++ drop (points (content b)) out
  unfolding import_output
  output_read e = rw (e, import_output)

-- ---- the rows that are drawn

abbrev made : List Line → List ℕ
made ls = with_links (replicate 64 0) (following ls)

module _ {ls : List Line} {most : ℕ} (x : Plan ls most) where
  pub rows_length : length (drawn_rows ls) ≡ points ls
  unfolding drawn_rows
  rows_length = length-take-le (points ls) (made ls) (omega (arith, x.small, made_length (following ls)))

  row_drawn : (u : ℕ) → u < points ls → at (drawn_rows ls) u ≡ at (made ls) u
  unfolding drawn_rows
  row_drawn u l = get_or-take (points ls) (made ls) u 0 l

  pub rows_words : (u : ℕ) → u < points ls → at (drawn_rows ls) u < 2 ^ 64
  rows_words u l = subst (λ (y : ℕ). y < 2 ^ 64) (sym (row_drawn u l)) (made_words (following ls) u)

  pub arcs_drawn : (u v : ℕ) → u < points ls → arcs (drawn_rows ls) u v ≡ linked_by (following ls) u v
  unfolding arcs
  arcs_drawn u v l = ap (λ (y : ℕ). member y v) (row_drawn u l) ∙ member_made (points ls) x.small (following ls) x.links u v

  -- whatever is accepted says the links that are given, no more and no fewer
  pub links_said : (u v : ℕ) → u < points ls
      → (T (arcs (drawn_rows ls) u v) → SaysLink u v (following ls)) × (SaysLink u v (following ls) → T (arcs (drawn_rows ls) u v))
  links_said u v l = (
    λ t. linked_out (points ls) (following ls) x.links u v (subst (λ (b : Bool). T b) (arcs_drawn u v l) t),
    λ s. subst (λ (b : Bool). T b) (sym (arcs_drawn u v l)) (linked_in (following ls) u v s),
  )

  arcs_back : {u v : ℕ} → u < points ls → v < points ls → arcs (drawn_rows ls) u v ≡ arcs (drawn_rows ls) v u
  arcs_back {u} {v} lu lv = arcs_drawn u v lu ∙ linked_back (following ls) u v ∙ sym (arcs_drawn v u lv)

  pub valid_drawn : (kind : ℕ) → kind ≤ 6 → Accepts (open_tests kind Mark.TwoWay (drawn_rows ls))
  unfolding open_tests is_two_way
  valid_drawn kind known =
      let rows = drawn_rows ls in
      let long : length rows ≡ points ls = rows_length in (
        λ t. let l = ltb→lt 6 kind t in omega arith,
        (
          λ t. let l = ltb→lt 64 (length rows) t in omega (arith, x.small),
          (
            λ t.
                let o = bit_outside_out rows t in
                let s = (links_said o.0 o.1 (omega (arith, o.2))).0 o.5 in
                omega (arith, o.4, (said_inside (points ls) (following ls) x.links o.0 o.1 s).1),
            (
              λ t. let o = self_loop_out rows t in x.loopless (said_loop (following ls) o.0 ((links_said o.0 o.0 (omega (arith, o.1))).0 o.2)),
              (
                λ t.
                    let o = one_way-out rows t in
                    o.5 (subst (λ (a : Bool). T a) (arcs_back {u = o.0} {v = o.1} (omega (arith, o.2)) (omega (arith, o.3))) o.4),
                tt,
              ),
            ),
          ),
        ),
      )
