-- How long a sheet can be.
--   triangle n             how many pairs there are below n;   triangle_doubled   twice that is n (n - 1);   triangle_grows
--   remaining n u v        how many of them, in ascending order, there are from the pair u, v on
--   links_few              link lines that have the form are no more than the pairs of points;   links_halved   at most n (n - 1) / 2
--   links_most             at most 2016 where there are at most 64 points
--   longest_links          a sheet that is not refused has at most n (n - 1) / 2 links
--   longest_sheet          and at most `longest` bytes;   formed_short   as has every sheet whose lines have the form
--   longest_plan           a valid graph of n vertices has at most n (n - 1) / 2 links
--   longest_written        the sheet of a valid graph and a walk of it has at most `longest` bytes
-- Assumes nothing.
use Prim.Native.Nat.{ℕ, zero, suc, ◌+◌, ◌-◌, ◌*◌, ◌^◌, ◌≤◌, ◌<◌}
use mathlib.Core.Path.{◌≡◌, refl, ap, ◌∙◌, subst}
use mathlib.Core.Logic.{◌⊎◌, inl, inr}
use mathlib.Core.List.{List, []}
use mathlib.Core.Option.{none}
use native.Mathlib.Nat.{mul-suc, suc-mul}
use native.Mathlib.Omega.{arith}
use lib.Dec.{T}
use lib.ListN.{length}
use Rattle.bitset.proofs.Tests.{below_or}
use Rattle.searches.specs.Ordering.{at, IsOrdering}
use Rattle.searches.specs.Answer.{open_tests, judge_tests, Accepts}
use Rattle.searches.specs.declared.Mark.{Mark}
use Rattle.sheet.specs.Sheet.{points_of, links_of, places_of, link_start, from_of, to_of, before_from, before_to}
use Rattle.sheet.specs.Sheet.{place_start, formed, read_answer}
use Rattle.sheet.specs.Written.{link_list, sheet_of, longest}
use Rattle.sheet.proofs.Accepted.{Line, line_out, accepted_out}
use Rattle.sheet.proofs.Form.{formed_out}
use Rattle.sheet.proofs.Links.{below_out, valid_graph, fits}
use Rattle.sheet.proofs.Written.{sheet_written}
use Rattle.sheet.proofs.ReadBack.{written_accepted}
use Rattle.sheet.proofs.RoundTrip.{reads_back}

-- ---- pairs

pub triangle : ℕ → ℕ
triangle zero = 0
triangle (suc n) = triangle n + n

doubled : (n : ℕ) → 2 * triangle (suc n) ≡ suc n * n
unfolding triangle
doubled zero = refl
doubled (suc n) = omega (arith, doubled n, suc-mul (suc n) (suc n), mul-suc (suc n) n)

pub triangle_doubled : (n : ℕ) → 2 * triangle n ≡ n * (n - 1)
unfolding triangle
triangle_doubled zero = refl
triangle_doubled (suc n) =
    let e : n ≡ suc n - 1 = omega arith in
    doubled n ∙ ap (λ (x : ℕ). suc n * x) e

pub triangle_grows : (m n : ℕ) → m ≤ n → triangle m ≤ triangle n
unfolding triangle
triangle_grows m zero l = let e : m ≡ 0 = omega arith in omega (arith, ap triangle e)
triangle_grows m (suc n) l = go (below_or n m) (triangle_grows m n)
  where
    go : (n < m) ⊎ (m ≤ n) → (m ≤ n → triangle m ≤ triangle n) → triangle m ≤ triangle n + n
    go (inl h) rest = let e : m ≡ suc n = omega arith in omega (arith, ap triangle e)
    go (inr h) rest = omega (arith, rest h)

-- ---- links

module _ (n : ℕ) where
  -- those with a greater first number, and those with first number u from v on
  abbrev remaining : ℕ → ℕ → ℕ
  remaining u v = triangle (n - suc u) + (n - v)

  -- those are among the pairs of numbers from u on
  remaining_from : {u v : ℕ} → u < v → v < n → remaining u v ≤ triangle (n - u)
  unfolding triangle
  remaining_from {u} {v} up inside =
      let e : n - u ≡ suc (n - suc u) = omega arith in
      omega (arith, ap triangle e)

  remaining_falls : {u v u' v' : ℕ} → v < n → u' < v' → v' < n → (u < u') ⊎ ((u ≡ u') × (v < v')) → remaining u' v' < remaining u v
  remaining_falls {u} {v} {u'} {v'} before up inside (inl l) =
      omega (arith, remaining_from up inside, triangle_grows (n - u') (n - suc u) (omega arith))
  remaining_falls {u} {v} {u'} {v'} before up inside (inr l) =
      let e : n - suc u ≡ n - suc u' = omega arith in
      omega (arith, ap triangle e)

module _ (b : List ℕ) where
  -- the links before link i, and the pairs from it on, are no more than all pairs
  ranked : (i : ℕ) → ((j : ℕ) → j ≤ i → Line b j) → i + remaining (points_of b) (from_of b i) (to_of b i) ≤ triangle (points_of b)
  unfolding before_from before_to
  ranked zero lines =
      let here = lines 0 (omega arith) in
      omega (arith, remaining_from (points_of b) here.up here.inside, triangle_grows (points_of b - from_of b 0) (points_of b) (omega arith))
  ranked (suc i) lines =
      let here = lines (suc i) (omega arith) in
      let last = lines i (omega arith) in
      omega (arith, ranked i (λ j l. lines j (omega arith)), remaining_falls (points_of b) last.inside here.up here.inside (below_out (from_of b i) (to_of b i) (from_of b (suc i)) (to_of b (suc i)) here.after))

  pub links_few : (j : ℕ) → ((i : ℕ) → i < j → Line b i) → j ≤ triangle (points_of b)
  links_few zero lines = omega arith
  links_few (suc j) lines = omega (arith, ranked j (λ i l. lines i (omega arith)), (lines j (omega arith)).inside)

  pub links_halved : (j : ℕ) → ((i : ℕ) → i < j → Line b i) → 2 * j ≤ points_of b * (points_of b - 1)
  links_halved j lines = omega (arith, links_few j lines, triangle_doubled (points_of b))

  pub links_most : (j : ℕ) → ((i : ℕ) → i < j → Line b i) → points_of b ≤ 64 → j ≤ 2016
  unfolding triangle
  links_most j lines few = omega (arith, links_few j lines, triangle_grows (points_of b) 64 few)

-- ---- sheets

module _ (b : List ℕ) (points : points_of b ≤ 64) (places : places_of b ≤ points_of b) where
  lines_short : ((j : ℕ) → j < links_of b → Line b j) → length b ≡ place_start b (places_of b) → length b ≤ longest
  unfolding place_start link_start
  lines_short lines long = omega (arith, links_most b (links_of b) lines points)

  pub formed_short : T (formed b) → length b ≤ longest
  formed_short t = let x = formed_out b t in lines_short (λ j l. line_out b j (x.0 j l)) x.2

module _ (b : List ℕ) (read : read_answer b ≡ none) where
  pub longest_links : 2 * links_of b ≤ points_of b * (points_of b - 1)
  longest_links = links_halved b (links_of b) (accepted_out b read).link_lines

  pub longest_sheet : length b ≤ longest
  longest_sheet = let x = accepted_out b read in lines_short b x.points x.places x.link_lines x.long

pub longest_plan : (kind : ℕ) (rows : List ℕ) → Accepts (open_tests kind Mark.TwoWay rows) → 2 * length (link_list rows) ≤ length rows * (length rows - 1)
longest_plan kind rows valid =
    let b = sheet_of rows [] in
    let graph = valid_graph kind rows valid in
    let nothing : IsOrdering (length rows) [] 0 = record { long = omega arith; vertices = λ p l. absurd (omega arith); distinct = λ p q h l. absurd (omega arith) } in
    let written = sheet_written rows [] (fits rows graph nothing) in
    let few = links_halved b (links_of b) (written_accepted b rows [] graph nothing written).link_lines in
    subst (λ (n : ℕ). 2 * length (link_list rows) ≤ n * (n - 1)) written.points (subst (λ (m : ℕ). 2 * m ≤ points_of b * (points_of b - 1)) written.links few)

pub longest_written : (kind : ℕ) (rows w : List ℕ) → Accepts (judge_tests kind Mark.TwoWay rows w) → ((u : ℕ) → u < length rows → at rows u < 2 ^ 64) → length (sheet_of rows w) ≤ longest
longest_written kind rows w valid words = longest_sheet (sheet_of rows w) (reads_back kind rows w valid words).answer
