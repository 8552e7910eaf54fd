-- Sheets and what they hold belong together, one to one.
--   ValidRead b         what is read of b is a valid graph, with as many points as line 1 says, and a walk of it
--   valid_read          so it is where b is not refused
--   ReadsBack rows w    the sheet of the rows and the walk w is not refused, and they are what is read of it
--   reads_back          so it is for every valid graph and every walk of it
--   only_sheet          a sheet that is not refused is the sheet of what is read of it
--   kinds_judged        what is printed for a kind is the verdict of judge, never a refusal
-- Assumes nothing.
use Prim.Native.Nat.{ℕ, ◌*◌, ◌/◌, ◌%◌, ◌^◌, ◌≤◌, ◌<◌}
use mathlib.Core.Path.{◌≡◌, sym, ap, ◌∙◌, subst}
use mathlib.Core.List.{List}
use mathlib.Core.Option.{none}
use native.Mathlib.Omega.{arith}
use lib.ListN.{length}
use Rattle.searches.specs.Kind.{search_of}
use Rattle.searches.specs.Ordering.{arcs, at, IsOrdering}
use Rattle.searches.specs.Violation.{judge}
use Rattle.searches.specs.Answer.{open_tests, judge_tests, Accepts, judge_answer}
use Rattle.searches.specs.declared.Mark.{Mark}
use Rattle.searches.proofs.Answers.{accepted_ordering, ordering_accepted, judge_accepted}
use Rattle.sheet.specs.Sheet.{points_of, links_of, places_of, from_of, to_of, place_at, tabulate, walk_of, rows_of, read_answer}
use Rattle.sheet.specs.Written.{is_link, link_list, sheet_of}
use Rattle.sheet.proofs.Sheets.{tabulate_length, tabulate_at}
use Rattle.sheet.proofs.Accepted.{Accepted, accepted_in, accepted_out, length_read, words_read, valid_rows}
use Rattle.sheet.proofs.Listed.{lists_one_way}
use Rattle.sheet.proofs.Written.{Written, sheet_written, written_sheet}
use Rattle.sheet.proofs.ReadBack.{walk_back, written_accepted, rows_back}
use Rattle.sheet.proofs.Links.{valid_graph, parts, fits, number_of, numbers_list}

-- ---- what is read is valid

pub record ValidRead (b : List ℕ) : Type 0 where
  pub graph : (kind : ℕ) → kind ≤ 6 → Accepts (open_tests kind Mark.TwoWay (rows_of b))
  pub points : length (rows_of b) ≡ points_of b
  pub words : (u : ℕ) → u < points_of b → at (rows_of b) u < 2 ^ 64
  pub walk : IsOrdering (points_of b) (walk_of b) (places_of b)

pub valid_read : (b : List ℕ) → read_answer b ≡ none → ValidRead b
valid_read b e =
    let x = accepted_out b e in
    record { graph = valid_rows b x; points = length_read b x; words = words_read b x; walk = x.walk }

-- the verdict that is printed for a kind
pub kinds_judged : (b : List ℕ) → read_answer b ≡ none → (kind : ℕ) → kind ≤ 6
    → judge_answer kind Mark.TwoWay (rows_of b) (walk_of b) ≡ judge (search_of kind) (arcs (rows_of b)) (length (rows_of b)) (walk_of b) (length (walk_of b))
unfolding walk_of
kinds_judged b e kind l =
    let x = valid_read b e in
    let ordering : IsOrdering (length (rows_of b)) (walk_of b) (length (walk_of b)) =
    subst (λ (n : ℕ). IsOrdering n (walk_of b) (length (walk_of b))) (sym x.points)
    (subst (λ (k : ℕ). IsOrdering (points_of b) (walk_of b) k) (sym (tabulate_length (place_at b) (places_of b))) x.walk)
    in
    judge_accepted kind Mark.TwoWay (rows_of b) (walk_of b) (ordering_accepted kind Mark.TwoWay (rows_of b) (walk_of b) (x.graph kind l) ordering)

-- ---- what is written is read back

pub record ReadsBack (rows w : List ℕ) : Type 0 where
  pub answer : read_answer (sheet_of rows w) ≡ none
  pub points : points_of (sheet_of rows w) ≡ length rows
  pub places : places_of (sheet_of rows w) ≡ length w
  pub graph : rows_of (sheet_of rows w) ≡ rows
  pub walk : walk_of (sheet_of rows w) ≡ w

-- the rows are those of a graph that judge does not refuse, each a word of 64 bits
pub reads_back : (kind : ℕ) (rows w : List ℕ) → Accepts (judge_tests kind Mark.TwoWay rows w) → ((u : ℕ) → u < length rows → at rows u < 2 ^ 64) → ReadsBack rows w
reads_back kind rows w a words =
    let valid = accepted_ordering kind Mark.TwoWay rows w a in
    let g = valid_graph kind rows valid.0 in
    let o = valid.1 in
    let x = sheet_written rows w (fits rows g o) in
    let b = sheet_of rows w in
    record {
      answer = accepted_in b (written_accepted b rows w g o x);
      points = x.points;
      places = x.places;
      graph = rows_back b rows w g o x words;
      walk = walk_back b rows w g o x;
    }

-- ---- what is read was written

module _ (b : List ℕ) (x : Accepted b) where
  -- the links that are written are those that were read
  links_same : tabulate (links_of b) (number_of b) ≡ link_list (rows_of b)
  unfolding link_list
  links_same = lists_one_way (is_link (rows_of b)) (64 * length (rows_of b)) (links_of b) (number_of b) (numbers_list b x)

  links_long : links_of b ≡ length (link_list (rows_of b))
  links_long = sym (tabulate_length (number_of b) (links_of b)) ∙ ap length links_same

  link_same : (j : ℕ) → j < length (link_list (rows_of b)) → at (link_list (rows_of b)) j ≡ number_of b j
  link_same j l = ap (λ (y : List ℕ). at y j) (sym links_same) ∙ tabulate_at (number_of b) (links_of b) j (omega (arith, links_long))

  link_parts : (j : ℕ) → j < length (link_list (rows_of b)) → (from_of b j ≡ at (link_list (rows_of b)) j / 64) × (to_of b j ≡ at (link_list (rows_of b)) j % 64)
  unfolding number_of
  link_parts j l =
      let e = parts (from_of b j) (to_of b j) (omega (arith, (x.link_lines j (omega (arith, links_long))).inside, x.points)) in
      (sym (ap (λ (c : ℕ). c / 64) (link_same j l) ∙ e.0), sym (ap (λ (c : ℕ). c % 64) (link_same j l) ∙ e.1))

  walk_long : length (walk_of b) ≡ places_of b
  unfolding walk_of
  walk_long = tabulate_length (place_at b) (places_of b)

  walk_same : (j : ℕ) → j < length (walk_of b) → place_at b j ≡ at (walk_of b) j
  unfolding walk_of
  walk_same j l = sym (tabulate_at (place_at b) (places_of b) j (omega (arith, walk_long)))

  read_written : Written b (rows_of b) (walk_of b)
  read_written = record {
    points = sym (length_read b x);
    links = links_long;
    places = sym walk_long;
    ended = x.ended;
    from = λ j l. (link_parts j l).0;
    to = λ j l. (link_parts j l).1;
    link_ended = λ j l. (x.link_lines j (omega (arith, links_long))).ended;
    place = walk_same;
    place_ended = λ j l. x.place_lines j (omega (arith, walk_long));
    long = x.long;
  }

pub only_sheet : (b : List ℕ) → read_answer b ≡ none → b ≡ sheet_of (rows_of b) (walk_of b)
only_sheet b e =
    let x = accepted_out b e in
    let o : IsOrdering (length (rows_of b)) (walk_of b) (length (walk_of b)) =
    subst (λ (n : ℕ). IsOrdering n (walk_of b) (length (walk_of b))) (sym (length_read b x)) (subst (λ (k : ℕ). IsOrdering (points_of b) (walk_of b) k) (sym (walk_long b x)) x.walk)
    in
    written_sheet b (rows_of b) (walk_of b) (fits (rows_of b) (valid_graph 0 (rows_of b) (valid_rows b x 0 (omega arith))) o) (read_written b x)
