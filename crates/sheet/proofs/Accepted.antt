-- What is read of a sheet that is not refused.
--   Line b j                 what the line of link j says;   line_out, line_in   the test on it
--   Accepted b               what the tests on a sheet let through;   accepted_out, accepted_in
--   small_links              the points of its links are below 64
--   length_read, row_read, words_read   the rows that are read: one for each point, a word of 64 bits
--   arcs_read                u leads to v in them exactly when a link joins the two
--   valid_rows               they are those of a valid graph
-- Assumes nothing.
use Prim.Native.Nat.{ℕ, ◌+◌, ◌^◌, ◌≤◌, ◌<◌}
use mathlib.Core.Path.{◌≡◌, refl, sym, ap, ◌∙◌, subst}
use mathlib.Core.Bool.{Bool, not, ◌&&◌}
use mathlib.Core.Logic.{◌⊎◌, inl, inr}
use mathlib.Core.List.{List}
use mathlib.Core.Option.{none}
use native.Mathlib.Omega.{arith}
use lib.Dec.{T, ltb, eqb, ltb→lt, lt→ltb, nltb→le, eqb→eq, not_T, T_not}
use lib.ListN.{length}
use lib.Seq.{length-take-le, get_or-take}
use Rattle.bitset.specs.Below.{any_below, all_below}
use Rattle.bitset.specs.Word.{member}
use Rattle.bitset.proofs.Tests.{and_in, and_out, not_not}
use Rattle.bitset.proofs.Below.{any_out, any_same, all_in}
use Rattle.searches.specs.Ordering.{arcs, at, IsOrdering}
use Rattle.searches.specs.Answer.{is_two_way, open_tests, Accepts}
use Rattle.searches.specs.declared.Mark.{Mark}
use Rattle.searches.proofs.Refusals.{accepts_none, none_accepts, bit_outside_out, self_loop_out, one_way-out}
use Rattle.searches.proofs.Answers.{clear, all_inside, none_repeated}
use Rattle.sheet.specs.Sheet.{points_of, links_of, places_of, headed, link_start, from_of, to_of, before_from, before_to, link_fits, joined_rows}
use Rattle.lines.specs.Line.{is_below, link_fits_at}
use Rattle.sheet.specs.Sheet.{place_start, place_at, place_fits, formed, walk_of, rows_of, sheet_tests, read_answer}
use Rattle.sheet.proofs.Form.{head_out, formed_out}
use Rattle.sheet.proofs.Sheets.{tabulate_length, tabulate_at}
use Rattle.sheet.proofs.Standing.{equal_test}
use Rattle.sheet.proofs.Joined.{joins, joins_back, joins_out, rows_length, rows_words, Small, member_rows}

-- ---- the line of a link

pub record Line (b : List ℕ) (j : ℕ) : Type 0 where
  pub up : from_of b j < to_of b j
  pub inside : to_of b j < points_of b
  pub ended : at b (link_start j + 4 + 4) ≡ 10
  pub after : T (is_below (before_from b j) (before_to b j) (from_of b j) (to_of b j))

module _ (b : List ℕ) (j : ℕ) where
  pub line_out : T (link_fits b j) → Line b j
  unfolding link_fits link_fits_at from_of to_of
  line_out t =
      let u = from_of b j in
      let v = to_of b j in
      let ends = eqb (at b (link_start j + 4 + 4)) 10 in
      let all = and_out ((ltb u v && ltb v (points_of b)) && ends) (is_below (before_from b j) (before_to b j) u v) t in
      let form = and_out (ltb u v && ltb v (points_of b)) ends all.0 in
      let points = and_out (ltb u v) (ltb v (points_of b)) form.0 in
      record {
        up = ltb→lt u v points.0;
        inside = ltb→lt v (points_of b) points.1;
        ended = eqb→eq (at b (link_start j + 4 + 4)) 10 form.1;
        after = all.1;
      }

  pub line_in : Line b j → T (link_fits b j)
  unfolding link_fits link_fits_at from_of to_of
  line_in x =
      let u = from_of b j in
      let v = to_of b j in
      let ends = eqb (at b (link_start j + 4 + 4)) 10 in
      and_in ((ltb u v && ltb v (points_of b)) && ends) (is_below (before_from b j) (before_to b j) u v)
      (and_in (ltb u v && ltb v (points_of b)) ends
      (and_in (ltb u v) (ltb v (points_of b)) (lt→ltb u v x.up) (lt→ltb v (points_of b) x.inside)) (equal_test x.ended))
      x.after

-- ---- the whole sheet

pub record Accepted (b : List ℕ) : Type 0 where
  pub points : points_of b ≤ 64
  pub links : links_of b < 10000
  pub places : places_of b ≤ points_of b
  pub ended : at b 12 ≡ 10
  pub link_lines : (j : ℕ) → j < links_of b → Line b j
  pub place_lines : (j : ℕ) → j < places_of b → at b (place_start b j + 4) ≡ 10
  pub long : length b ≡ place_start b (places_of b)
  pub walk : IsOrdering (points_of b) (walk_of b) (places_of b)

module _ (b : List ℕ) where
  head_in : Accepted b → T (headed b)
  unfolding headed
  head_in x =
      let points : points_of b < 10000 = omega (arith, x.points) in
      let places : places_of b < 10000 = omega (arith, x.points, x.places) in
      and_in ((ltb (points_of b) 10000 && ltb (links_of b) 10000) && ltb (places_of b) 10000) (eqb (at b 12) 10)
      (and_in (ltb (points_of b) 10000 && ltb (links_of b) 10000) (ltb (places_of b) 10000)
      (and_in (ltb (points_of b) 10000) (ltb (links_of b) 10000) (lt→ltb (points_of b) 10000 points) (lt→ltb (links_of b) 10000 x.links))
      (lt→ltb (places_of b) 10000 places)) (equal_test x.ended)

  -- a place's line, given that the number there is a point
  place_in : Accepted b → (j : ℕ) → j < places_of b → T (place_fits b j)
  unfolding place_fits walk_of
  place_in x j l =
      let here : place_at b j < points_of b = subst (λ (y : ℕ). y < points_of b) (tabulate_at (place_at b) (places_of b) j l) (x.walk.vertices j l) in
      and_in (ltb (place_at b j) 10000) (eqb (at b (place_start b j + 4)) 10) (lt→ltb (place_at b j) 10000 (omega (arith, x.points, here))) (equal_test (x.place_lines j l))

  pub accepted_out : read_answer b ≡ none → Accepted b
  unfolding read_answer sheet_tests formed place_fits walk_of
  accepted_out e =
      let tests = none_accepts (sheet_tests b) e in
      let head = head_out b (not_not (headed b) (not_T (not (headed b)) tests.0)) in
      let form = not_not (formed b) (not_T (not (formed b)) tests.1.1.1.0) in
      let lines = formed_out b form in
      let long : length (walk_of b) ≡ places_of b = tabulate_length (place_at b) (places_of b) in
      record {
        points = nltb→le 64 (points_of b) (not_T (ltb 64 (points_of b)) tests.1.0);
        links = head.0;
        places = nltb→le (points_of b) (places_of b) (not_T (ltb (points_of b) (places_of b)) tests.1.1.0);
        ended = head.1;
        link_lines = λ j l. line_out b j (lines.0 j l);
        place_lines = λ j l. eqb→eq (at b (place_start b j + 4)) 10 (and_out (ltb (place_at b j) 10000) (eqb (at b (place_start b j + 4)) 10) (lines.1 j l)).1;
        long = lines.2;
        walk = clear (points_of b) (walk_of b) (places_of b) (omega arith) tests.1.1.1.1.0 tests.1.1.1.1.1.0;
      }

  pub accepted_in : Accepted b → read_answer b ≡ none
  unfolding read_answer sheet_tests formed
  accepted_in x =
      let links = all_below (links_of b) (link_fits b) in
      let places = all_below (places_of b) (place_fits b) in
      let form : T (formed b) =
      and_in (links && places) (eqb (length b) (place_start b (places_of b)))
      (and_in links places (all_in (links_of b) (link_fits b) (λ j l. line_in b j (x.link_lines j l))) (all_in (places_of b) (place_fits b) (place_in x)))
      (equal_test x.long)
      in
      accepts_none (sheet_tests b) (
        λ t. T_not (headed b) t (head_in x),
        (
          λ t. let l = ltb→lt 64 (points_of b) t in omega (arith, x.points),
          (
            λ t. let l = ltb→lt (points_of b) (places_of b) t in omega (arith, x.places),
            (λ t. T_not (formed b) t form, (all_inside x.walk, (none_repeated x.walk, tt))),
          ),
        ),
      )

-- ---- the rows that are read

module _ (b : List ℕ) (x : Accepted b) where
  pub small_links : Small b (links_of b)
  small_links i l = let line = x.link_lines i l in (omega (arith, line.up, line.inside, x.points), omega (arith, line.inside, x.points))

  pub length_read : length (rows_of b) ≡ points_of b
  unfolding rows_of
  length_read =
      let long : length (joined_rows b (links_of b)) ≡ 64 = rows_length b (links_of b) in
      length-take-le (points_of b) (joined_rows b (links_of b)) (omega (arith, x.points))

  pub row_read : (u : ℕ) → u < points_of b → at (rows_of b) u ≡ at (joined_rows b (links_of b)) u
  unfolding rows_of
  row_read u l = get_or-take (points_of b) (joined_rows b (links_of b)) u 0 l

  pub words_read : (u : ℕ) → u < points_of b → at (rows_of b) u < 2 ^ 64
  words_read u l = subst (λ (y : ℕ). y < 2 ^ 64) (sym (row_read u l)) (rows_words b (links_of b) u)

  pub arcs_read : (u v : ℕ) → u < points_of b → arcs (rows_of b) u v ≡ any_below (links_of b) (λ i. joins (from_of b i) (to_of b i) u v)
  unfolding arcs
  arcs_read u v l = ap (λ (y : ℕ). member y v) (row_read u l) ∙ member_rows b (links_of b) small_links u v

  -- what an arc's link says of its ends
  ends : {u v : ℕ} → u < points_of b → T (arcs (rows_of b) u v) → (v < points_of b) × (u ≡ v → ⊥)
  ends {u} {v} l t =
      let s = any_out (links_of b) (λ i. joins (from_of b i) (to_of b i) u v) (subst (λ (a : Bool). T a) (arcs_read u v l) t) in
      go (x.link_lines s.at s.below) (joins_out (from_of b s.at) (to_of b s.at) u v s.holds)
    where
      go : {i : ℕ} → Line b i → ((from_of b i ≡ u) × (to_of b i ≡ v)) ⊎ ((from_of b i ≡ v) × (to_of b i ≡ u)) → (v < points_of b) × (u ≡ v → ⊥)
      go line (inl e) = (omega (arith, line.inside, e.1), λ same. omega (arith, line.up, e.0, e.1))
      go line (inr e) = (omega (arith, line.up, line.inside, e.0, e.1), λ same. omega (arith, line.up, e.0, e.1))

  arcs_back : {u v : ℕ} → u < points_of b → v < points_of b → arcs (rows_of b) u v ≡ arcs (rows_of b) v u
  arcs_back {u} {v} lu lv =
      arcs_read u v lu
      ∙ any_same (links_of b) (λ i. joins (from_of b i) (to_of b i) u v) (λ i. joins (from_of b i) (to_of b i) v u) (λ i _. joins_back (from_of b i) (to_of b i) u v)
      ∙ sym (arcs_read v u lv)

  pub valid_rows : (kind : ℕ) → kind ≤ 6 → Accepts (open_tests kind Mark.TwoWay (rows_of b))
  unfolding open_tests is_two_way
  valid_rows kind known =
      let rows = rows_of b in
      let long : length rows ≡ points_of b = length_read in (
        λ t. let l = ltb→lt 6 kind t in omega arith,
        (
          λ t. let l = ltb→lt 64 (length rows) t in omega (arith, x.points),
          (
            λ t.
                let o = bit_outside_out rows t in
                let e = ends {u = o.0} {v = o.1} (omega (arith, o.2)) o.5 in
                omega (arith, e.0, o.4),
            (
              λ t. let o = self_loop_out rows t in (ends {u = o.0} {v = o.0} (omega (arith, o.1)) o.2).1 refl,
              (
                λ t.
                    let o = one_way-out rows t in
                    o.5 (subst (λ (a : Bool). T a) (arcs_back {u = o.0} {v = o.1} (omega (arith, o.2)) (omega (arith, o.3))) o.4),
                tt,
              ),
            ),
          ),
        ),
      )
