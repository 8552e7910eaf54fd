-- The links of a graph, each by its number, and the links that a sheet lists.
--   Graph rows                 what a valid two-way graph's rows are: at most 64, within, no loops, both ways;   valid_graph
--   below_out                  the greater of two pairs has the greater first point, or the same and the greater second
--   before_in, before_out      pairs in ascending order are numbers in ascending order
--   parts                      the two points of a number
--   link_in, link_out          which numbers stand for links;   links_listed   link_list lists them
--   fits                       the numbers of a valid graph's sheet have fields
--   number_of b j               the number of link j of a sheet
--   numbers_list               a sheet that is not refused lists the links of the rows that are read of it
-- Assumes nothing.
use Prim.Native.Nat.{ℕ, zero, suc, ◌+◌, ◌*◌, ◌/◌, ◌%◌, ◌≤◌, ◌<◌}
use mathlib.Core.Path.{◌≡◌, sym, ap₂, subst}
use mathlib.Core.Bool.{Bool, ◌&&◌, ◌||◌}
use mathlib.Core.Logic.{◌⊎◌, inl, inr}
use mathlib.Core.List.{List}
use native.Mathlib.Omega.{arith}
use lib.Dec.{T, ltb, eqb, ltb→lt, lt→ltb, eqb→eq}
use lib.ListN.{length}
use Rattle.bitset.proofs.Tests.{and_in, and_out, or_inl, or_inr, or_out, decided, below_or, below_suc}
use Rattle.bitset.proofs.Below.{any_out, any_at}
use Rattle.searches.specs.Ordering.{arcs, at, IsOrdering}
use Rattle.searches.specs.Answer.{is_two_way, open_tests, Accepts}
use Rattle.searches.specs.declared.Mark.{Mark}
use Rattle.searches.proofs.Ordering.{ordering_fits}
use Rattle.searches.proofs.Refusals.{bit_outside_in, self_loop-in, one_way-in}
use Rattle.searches.proofs.Answers.{valid_small}
use Rattle.sheet.specs.Sheet.{points_of, links_of, from_of, to_of, before_from, before_to, rows_of}
use Rattle.lines.specs.Line.{is_below}
use Rattle.sheet.specs.Written.{is_link, link_list}
use Rattle.sheet.proofs.Standing.{equal_test}
use Rattle.sheet.proofs.Joined.{joins, joins_in, joins_out}
use Rattle.sheet.proofs.Accepted.{Line, Accepted, length_read, arcs_read}
use Rattle.sheet.proofs.Listed.{Lists, listed, listed_few}
use Rattle.sheet.proofs.Written.{Fits}

-- ---- valid graphs

pub record Graph (rows : List ℕ) : Type 0 where
  pub few : length rows ≤ 64
  pub inside : (u v : ℕ) → u < length rows → v < 64 → T (arcs rows u v) → v < length rows
  pub loopless : (u : ℕ) → u < length rows → T (arcs rows u u) → ⊥
  pub both_ways : (u v : ℕ) → u < length rows → v < length rows → T (arcs rows u v) → T (arcs rows v u)

pub valid_graph : (kind : ℕ) (rows : List ℕ) → Accepts (open_tests kind Mark.TwoWay rows) → Graph rows
unfolding open_tests is_two_way
valid_graph kind rows a = record {
  few = valid_small kind Mark.TwoWay rows a;
  inside = λ u v l h t. within u v l h t (below_or v (length rows));
  loopless = λ u l t. a.1.1.1.0 (self_loop-in rows u l t);
  both_ways = λ u v l h t. back u v l h t (decided (arcs rows v u));
}
  where
    within : (u v : ℕ) → u < length rows → v < 64 → T (arcs rows u v) → (v < length rows) ⊎ (length rows ≤ v) → v < length rows
    within u v l h t (inl g) = g
    within u v l h t (inr g) = absurd (a.1.1.0 (bit_outside_in rows u v l h g t))

    back : (u v : ℕ) → u < length rows → v < length rows → T (arcs rows u v) → T (arcs rows v u) ⊎ (T (arcs rows v u) → ⊥) → T (arcs rows v u)
    back u v l h t (inl s) = s
    back u v l h t (inr out) = absurd (a.1.1.1.1.0 (one_way-in rows u v l h t out))

-- ---- pairs and numbers

module _ (p q p' q' : ℕ) where
  pub before_in : 64 * p + q < 64 * p' + q' → q' < 64 → T (is_below p q p' q')
  unfolding is_below
  before_in l h = go (below_or p p')
    where
      go : (p < p') ⊎ (p' ≤ p) → T (ltb p p' || (eqb p p' && ltb q q'))
      go (inl g) = or_inl (ltb p p') (eqb p p' && ltb q q') (lt→ltb p p' g)
      go (inr g) =
          let e : p ≡ p' = omega arith in
          or_inr (ltb p p') (eqb p p' && ltb q q')
          (and_in (eqb p p') (ltb q q') (equal_test e) (lt→ltb q q' (omega arith)))

  pub below_out : T (is_below p q p' q') → (p < p') ⊎ ((p ≡ p') × (q < q'))
  unfolding is_below
  below_out t = go (or_out (ltb p p') (eqb p p' && ltb q q') t)
    where
      go : T (ltb p p') ⊎ T (eqb p p' && ltb q q') → (p < p') ⊎ ((p ≡ p') × (q < q'))
      go (inl s) = inl (ltb→lt p p' s)
      go (inr s) = let both = and_out (eqb p p') (ltb q q') s in inr (eqb→eq p p' both.0, ltb→lt q q' both.1)

  pub before_out : T (is_below p q p' q') → q < 64 → 64 * p + q < 64 * p' + q'
  before_out t h = go (below_out t)
    where
      go : (p < p') ⊎ ((p ≡ p') × (q < q')) → 64 * p + q < 64 * p' + q'
      go (inl l) = omega arith
      go (inr l) = omega arith

pub parts : (u v : ℕ) → v < 64 → ((64 * u + v) / 64 ≡ u) × ((64 * u + v) % 64 ≡ v)
parts u v h = (omega arith, omega arith)

module _ (rows : List ℕ) where
  pub link_out : (c : ℕ) → T (is_link rows c) → (c / 64 < c % 64) × T (arcs rows (c / 64) (c % 64))
  unfolding is_link
  link_out c t =
      let both = and_out (ltb (c / 64) (c % 64)) (arcs rows (c / 64) (c % 64)) t in
      (ltb→lt (c / 64) (c % 64) both.0, both.1)

  pub link_in : (u v : ℕ) → u < v → v < 64 → T (arcs rows u v) → T (is_link rows (64 * u + v))
  unfolding is_link
  link_in u v l h t =
      let e = parts u v h in
      subst (λ (b : Bool). T b) (sym (ap₂ (λ (x y : ℕ). ltb x y && arcs rows x y) e.0 e.1)) (and_in (ltb u v) (arcs rows u v) (lt→ltb u v l) t)

  pub links_listed : Lists (length (link_list rows)) (at (link_list rows)) (64 * length rows) (is_link rows)
  unfolding link_list
  links_listed = listed (is_link rows) (64 * length rows)

  pub fits : {w : List ℕ} → Graph rows → IsOrdering (length rows) w (length w) → Fits rows w
  unfolding link_list
  fits {w} g o =
      let few : length rows ≤ 64 = g.few in
      let short : length w ≤ length rows = ordering_fits (length rows) o in
      record {
        points = omega arith;
        links = omega (arith, listed_few (is_link rows) (64 * length rows));
        places = omega arith;
        link = λ j l. omega (arith, links_listed.below j l);
        place = λ j l. omega (arith, o.vertices j l);
      }

-- ---- the links that a sheet lists

unfoldable pub number_of : List ℕ → ℕ → ℕ
number_of b j = 64 * from_of b j + to_of b j

module _ (b : List ℕ) (x : Accepted b) where
  rising : (i j : ℕ) → i < j → j < links_of b → number_of b i < number_of b j
  unfolding number_of before_from before_to
  rising i zero h l = absurd (omega arith)
  rising i (suc j) h l = go (rising i j) (below_suc j i h)
    where
      next : 64 * from_of b j + to_of b j < 64 * from_of b (suc j) + to_of b (suc j)
      next =
          before_out (from_of b j) (to_of b j) (from_of b (suc j)) (to_of b (suc j)) (x.link_lines (suc j) l).after
          (omega (arith, (x.link_lines j (omega arith)).inside, x.points))

      go : (i < j → j < links_of b → number_of b i < number_of b j) → (i < j) ⊎ (i ≡ j) → 64 * from_of b i + to_of b i < 64 * from_of b (suc j) + to_of b (suc j)
      go rest (inl g) = let r : 64 * from_of b i + to_of b i < 64 * from_of b j + to_of b j = rest g (omega arith) in omega (arith, next)
      go rest (inr e) = subst (λ (y : ℕ). 64 * from_of b y + to_of b y < 64 * from_of b (suc j) + to_of b (suc j)) (sym e) next

  -- each number stands for a link of the rows
  listed_link : (j : ℕ) → j < links_of b → T (is_link (rows_of b) (number_of b j))
  unfolding number_of
  listed_link j l =
      let line = x.link_lines j l in
      let from : from_of b j < points_of b = omega (arith, line.up, line.inside) in
      link_in (rows_of b) (from_of b j) (to_of b j) line.up (omega (arith, line.inside, x.points))
      (subst (λ (t : Bool). T t) (sym (arcs_read b x (from_of b j) (to_of b j) from))
      (any_at (links_of b) (λ i. joins (from_of b i) (to_of b i) (from_of b j) (to_of b j)) j l (joins_in (from_of b j) (to_of b j))))

  -- each link of the rows is listed
  link_listed : (c : ℕ) → c < 64 * points_of b → T (is_link (rows_of b) c) → (j : ℕ) × (j < links_of b) × (number_of b j ≡ c)
  unfolding number_of
  link_listed c l t =
      let link = link_out (rows_of b) c t in
      let s = any_out (links_of b) (λ i. joins (from_of b i) (to_of b i) (c / 64) (c % 64)) (subst (λ (a : Bool). T a) (arcs_read b x (c / 64) (c % 64) (omega arith)) link.1) in
      (s.at, s.below, go link.0 (x.link_lines s.at s.below) (joins_out (from_of b s.at) (to_of b s.at) (c / 64) (c % 64) s.holds))
    where
      go : {i : ℕ} → c / 64 < c % 64 → Line b i → ((from_of b i ≡ c / 64) × (to_of b i ≡ c % 64)) ⊎ ((from_of b i ≡ c % 64) × (to_of b i ≡ c / 64)) → 64 * from_of b i + to_of b i ≡ c
      go up line (inl e) = omega (arith, e.0, e.1)
      go up line (inr e) = absurd (omega (arith, line.up, e.0, e.1))

  pub numbers_list : Lists (links_of b) (number_of b) (64 * length (rows_of b)) (is_link (rows_of b))
  unfolding number_of
  numbers_list =
      subst (λ (y : ℕ). Lists (links_of b) (number_of b) (64 * y) (is_link (rows_of b))) (sym (length_read b x)) (record {
        below = λ j l. let line = x.link_lines j l in omega (arith, line.up, line.inside, x.points);
        holds = listed_link;
        all = link_listed;
        ascending = rising;
      })
