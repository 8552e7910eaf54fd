-- What the lines of a file come to, as the code keeps it, line by line.
--   halted, read_more       where reading stops, and where it goes on
--   Grown d l d', grown     what one line leaves alone
--   points_inside           both ends of a link between points
--   edged d u v rows        with a link more, and these rows;   link_outside, link_inside   a link that is none between points, and one that is
--   capped_above            a number above 64 is so with the cap, too
--   Followed d es r         the links es were taken up behind the p line;   followed   so they are
--   heading n m             the p line of a plan with n points and m links
--   Gathers ls r, gathers   no p line stands in front; or n is above 64; or the links behind it were taken up
-- Assumes nothing.
use Prim.Native.Nat.{ℕ, ◌+◌, ◌-◌, ◌≤◌, ◌<◌}
use mathlib.Core.Path.{◌≡◌, refl, sym, ap, ap₂, ◌∙◌, subst}
use mathlib.Core.Bool.{Bool, true, false, cond, ◌&&◌, ◌||◌, or_assoc}
use mathlib.Core.Logic.{◌⊎◌, inl, inr}
use mathlib.Core.List.{List, [], ◌∷◌}
use native.Mathlib.Omega.{arith}
use borrow.Author.Tests.{le-leb, lt-leb}
use lib.Dec.{T, leb, eqb, leb→le}
use lib.ListN.{length, replicate}
use Rattle.bitset.proofs.Tests.{and_in, and_out, decided, is_true, is_false, below_or}
use Rattle.lines.specs.Line.{joined}
use Rattle.sheet.proofs.Joined.{joined_length}
use Rattle.edge_lines.specs.Reading.{most, capped, capped_line}
use Rattle.edge_lines.specs.declared.Line.{Line}
use Rattle.edge_lines.proofs.Numerals.{capped_small, capped_large}
use Rattle.dimacs.specs.Import.{is_comment, uncommented, is_problem, headed}
use Rattle.dimacs.specs.Import.{is_point, is_edge, is_loop, every, any, with_link, with_links}
use Rattle.dimacs.specs.Drawing.{blank, broken, begun, linked, added, read_on, capped_lines}
use Rattle.dimacs.specs.declared.draw.Drawing.{Drawing}
use Rattle.dimacs.proofs.Points.{point_out}

-- ---- one line more

pub halted : (d : Drawing) (ls : List Line) → d.sound ≡ false → read_on d ls ≡ d
unfolding read_on
halted d [] e = refl
halted d (l ∷ ls) e = ap (λ (t : Bool). cond t (read_on (added l d) ls) d) e

pub read_more : (d : Drawing) (l : Line) (ls : List Line) → d.sound ≡ true → read_on d (l ∷ ls) ≡ read_on (added l d) ls
unfolding read_on
read_more d l ls e = ap (λ (t : Bool). cond t (read_on (added l d) ls) d) e

-- what holds of both choices holds of the one that is taken
either : {A : Type 0} (P : A → Type 0) (t : Bool) (x y : A) → (T t → P x) → ((T t → ⊥) → P y) → P (cond t x y)
either P true x y first second = first tt
either P false x y first second = second (λ f. f)

pub record Grown (d : Drawing) (l : Line) (d' : Drawing) : Type 0 where
  pub edges : (d'.edges ≡ d.edges) ⊎ ((d'.edges ≡ d.edges + 1) × (l ≡ Line.Other → ⊥))
  pub small : (T d.sound → d.n ≤ 64) → T d'.sound → d'.n ≤ 64
  pub room : length d'.rows ≡ length d.rows

module _ (d : Drawing) where
  stopped : (l : Line) → Grown d l (broken d)
  unfolding broken
  stopped l = record { edges = inl refl; small = λ _ t. absurd t; room = refl }

  pub grown : (l : Line) → Grown d l (added l d)
  unfolding added begun linked
  grown Line.Comment = record { edges = inl refl; small = λ s. s; room = refl }
  grown (Line.Problem n m) =
      either (Grown d (Line.Problem n m)) d.headed _ _ (λ _. stopped (Line.Problem n m)) (λ _. record { edges = inl refl; small = λ _ t. leb→le n 64 t; room = refl })
  grown (Line.Edge u v) =
      either (Grown d (Line.Edge u v)) (is_point d.n u && is_point d.n v) _ _
      (λ _. record {
        edges = inr (refl, λ e. let clash : ◌≡◌ {A = ℕ} 0 1 = cc in omega arith);
        small = λ s. s;
        room = joined_length d.rows (u - 1) (v - 1);
      })
      (λ _. stopped (Line.Edge u v))
  grown Line.Other = stopped Line.Other

-- ---- the lines behind the p line

pub record Followed (d : Drawing) (es : List Line) (r : Drawing) : Type 0 where
  pub headed : r.headed ≡ d.headed
  pub points : r.n ≡ d.n
  pub announced : r.m ≡ d.m
  pub sound : r.sound ≡ every (is_edge d.n) es
  pub counted : T (every (is_edge d.n) es) → r.edges ≡ d.edges + length es
  pub looped : T (every (is_edge d.n) es) → r.looped ≡ (d.looped || any is_loop es)
  pub rows : T (every (is_edge d.n) es) → r.rows ≡ with_links d.rows es

-- ---- points of a small plan are below the cap

-- both ends of a link
pub points_inside : (n u v : ℕ) → n ≤ 64 → (is_point n u && is_point n v) ≡ true → (1 ≤ u) × (u ≤ 64) × (1 ≤ v) × (v ≤ 64)
points_inside n u v l e =
    let both = and_out (is_point n u) (is_point n v) (subst (λ (b : Bool). T b) (sym e) tt) in
    let from = point_out n u both.0 in
    let to = point_out n v both.1 in
    (from.0, omega arith, to.0, omega arith)

point_small : (n x : ℕ) → n ≤ 64 → T (is_point n x) → capped x ≡ x
point_small n x l t = capped_small x (omega (arith, point_out n x t))

capped_point : (n x : ℕ) → n ≤ 64 → is_point n (capped x) ≡ is_point n x
capped_point n x l = go (below_or x most)
  where
    far : (y : ℕ) → most ≤ y → is_point n y ≡ false
    far y g = is_false (is_point n y) (λ t. omega (arith, point_out n y t))

    go : (x < most) ⊎ (most ≤ x) → is_point n (capped x) ≡ is_point n x
    go (inl h) = ap (is_point n) (capped_small x h)
    go (inr h) = ap (is_point n) (capped_large x h) ∙ far most (omega arith) ∙ sym (far x h)

-- ---- a link, taken up or not

-- with a link more, and these rows
abbrev pub edged : Drawing → ℕ → ℕ → List ℕ → Drawing
edged d u v rows = record { headed = d.headed; sound = d.sound; n = d.n; m = d.m; edges = d.edges + 1; looped = d.looped || eqb u v; rows = rows }

module _ (d : Drawing) (u v : ℕ) where
  with_edge : Drawing
  with_edge = edged d u v (joined (u - 1) (v - 1) d.rows)

  pub link_outside : (is_point d.n u && is_point d.n v) ≡ false → linked u v d ≡ broken d
  unfolding linked
  link_outside e = ap (λ (t : Bool). cond t (edged d u v (joined (u - 1) (v - 1) d.rows)) (broken d)) e

  pub link_inside : (is_point d.n u && is_point d.n v) ≡ true → linked u v d ≡ edged d u v (joined (u - 1) (v - 1) d.rows)
  unfolding linked
  link_inside e = ap (λ (t : Bool). cond t (edged d u v (joined (u - 1) (v - 1) d.rows)) (broken d)) e

-- a number above 64 is so with the cap, too
pub capped_above : (n : ℕ) → 64 < n → 64 < capped n
capped_above n h = go (below_or n most)
  where
    go : (n < most) ⊎ (most ≤ n) → 64 < capped n
    go (inl l) = omega (arith, capped_small n l)
    go (inr l) = omega (arith, capped_large n l)

or_none : (b : Bool) → b ≡ (b || false)
or_none true = refl
or_none false = refl

-- ---- the links, one after the other

module _ (d : Drawing) where
  -- one of the lines is no link between points
  ended : (es : List Line) → every (is_edge d.n) es ≡ false → Followed d es (broken d)
  unfolding broken
  ended es e =
      let never : T (every (is_edge d.n) es) → ⊥ = λ t. subst (λ (b : Bool). T b) e t in
      record {
        headed = refl;
        points = refl;
        announced = refl;
        sound = sym e;
        counted = λ t. absurd (never t);
        looped = λ t. absurd (never t);
        rows = λ t. absurd (never t);
      }

  broke : (l : Line) (ls es : List Line) → d.sound ≡ true → added (capped_line l) d ≡ broken d → every (is_edge d.n) es ≡ false
      → Followed d es (read_on d (capped_line l ∷ capped_lines ls))
  unfolding broken
  broke l ls es sound stops e =
      subst (λ (r : Drawing). Followed d es r)
      (sym (read_more d (capped_line l) (capped_lines ls) sound ∙ ap (λ (x : Drawing). read_on x (capped_lines ls)) stops ∙ halted (broken d) (capped_lines ls) refl)) (ended es e)

  added_edge : (u v : ℕ) → d.n ≤ 64 → T (is_point d.n u) → T (is_point d.n v) → added (capped_line (Line.Edge u v)) d ≡ with_edge d u v
  unfolding added capped_line with_edge
  added_edge u v l x y =
      ap₂ (λ (a b : ℕ). linked a b d) (point_small d.n u l x) (point_small d.n v l y)
      ∙ link_inside d u v (is_true (is_point d.n u && is_point d.n v) (and_in (is_point d.n u) (is_point d.n v) x y))

  added_outside : (u v : ℕ) → d.n ≤ 64 → (is_point d.n u && is_point d.n v) ≡ false → added (capped_line (Line.Edge u v)) d ≡ broken d
  unfolding added capped_line
  added_outside u v l e = link_outside d (capped u) (capped v) (ap₂ (λ (a b : Bool). a && b) (capped_point d.n u l) (capped_point d.n v l) ∙ e)

  more_followed : (u v : ℕ) (es : List Line) {r : Drawing} → (is_point d.n u && is_point d.n v) ≡ true → Followed (with_edge d u v) es r → Followed d (Line.Edge u v ∷ es) r
  unfolding every any is_edge is_loop with_links with_link with_edge
  more_followed u v es {r} e f =
      let all = every (is_edge d.n) es in
      let same : ((is_point d.n u && is_point d.n v) && all) ≡ all = ap (λ (t : Bool). t && all) e in
      let rest : T ((is_point d.n u && is_point d.n v) && all) → T all = λ t. subst (λ (b : Bool). T b) same t in
      record {
        headed = f.headed;
        points = f.points;
        announced = f.announced;
        sound = f.sound ∙ sym same;
        counted = λ t. omega (arith, f.counted (rest t));
        looped = λ t. f.looped (rest t) ∙ or_assoc d.looped (eqb u v) (any is_loop es);
        rows = λ t. f.rows (rest t);
      }

  -- a second p line
  added_again : (n m : ℕ) → d.headed ≡ true → added (capped_line (Line.Problem n m)) d ≡ broken d
  unfolding added capped_line begun
  added_again n m e =
      ap (λ (t : Bool). cond t (broken d) (record { headed = true; sound = leb (capped n) 64; n = capped n; m = capped m; edges = d.edges; looped = d.looped; rows = d.rows })) e

pub followed : (d : Drawing) (ls : List Line) → d.sound ≡ true → d.headed ≡ true → d.n ≤ 64 → Followed d (uncommented ls) (read_on d (capped_lines ls))
unfolding uncommented is_comment capped_lines read_on every any is_edge with_links added capped_line with_edge
followed d [] sound head l =
    let same : d.looped ≡ (d.looped || false) = or_none d.looped in
    record {
      headed = refl;
      points = refl;
      announced = refl;
      sound = sound;
      counted = λ _. omega arith;
      looped = λ _. same;
      rows = λ _. refl;
    }
followed d (Line.Comment ∷ ls) sound head l = subst (λ (r : Drawing). Followed d (uncommented ls) r) (sym (read_more d Line.Comment (capped_lines ls) sound)) (followed d ls sound head l)
followed d (Line.Problem n m ∷ ls) sound head l = broke d (Line.Problem n m) ls (Line.Problem n m ∷ uncommented ls) sound (added_again d n m head) refl
followed d (Line.Edge u v ∷ ls) sound head l = go (decided (is_point d.n u && is_point d.n v)) (followed (with_edge d u v) ls sound head l)
  where
    inside : Bool
    inside = is_point d.n u && is_point d.n v

    go : T (is_point d.n u && is_point d.n v) ⊎ (T (is_point d.n u && is_point d.n v) → ⊥) → Followed (with_edge d u v) (uncommented ls) (read_on (with_edge d u v) (capped_lines ls))
        → Followed d (Line.Edge u v ∷ uncommented ls) (read_on d (capped_line (Line.Edge u v) ∷ capped_lines ls))
    go (inl t) rest =
        let both = and_out (is_point d.n u) (is_point d.n v) t in
        subst (λ (r : Drawing). Followed d (Line.Edge u v ∷ uncommented ls) r)
        (sym (read_more d (capped_line (Line.Edge u v)) (capped_lines ls) sound ∙ ap (λ (x : Drawing). read_on x (capped_lines ls)) (added_edge d u v l both.0 both.1)))
        (more_followed d u v (uncommented ls) (is_true _ t) rest)
    go (inr out) rest =
        let outside : (is_point d.n u && is_point d.n v) ≡ false = is_false _ out in
        broke d (Line.Edge u v) ls (Line.Edge u v ∷ uncommented ls) sound (added_outside d u v l outside) (ap (λ (t : Bool). t && every (is_edge d.n) (uncommented ls)) outside)
followed d (Line.Other ∷ ls) sound head l = broke d Line.Other ls (Line.Other ∷ uncommented ls) sound refl refl

-- ---- the whole file

-- the p line of a small plan
abbrev pub heading : ℕ → ℕ → Drawing
heading n m = record { headed = true; sound = leb n 64; n = n; m = m; edges = 0; looped = false; rows = replicate 64 0 }

pub data Gathers (ls : List Line) (r : Drawing) : Type 0 where
  headless : headed ls ≡ false → r.headed ≡ false → Gathers ls r
  large : (n m : ℕ) (es : List Line) → ls ≡ Line.Problem n m ∷ es → 64 < n → r ≡ heading (capped n) (capped m) → Gathers ls r
  small : (n m : ℕ) (es : List Line) → ls ≡ Line.Problem n m ∷ es → n ≤ 64 → Followed (heading n (capped m)) es r → Gathers ls r

no_point : (x : ℕ) → is_point 0 x ≡ false
no_point x = is_false (is_point 0 x) (λ t. omega (arith, point_out 0 x t))

-- a line in front of the p line that is no comment
before_head : (l : Line) (ls es : List Line) → added (capped_line l) blank ≡ broken blank → headed es ≡ false → Gathers es (read_on blank (capped_line l ∷ capped_lines ls))
unfolding broken
before_head l ls es stops e =
    headless e (ap (λ (r : Drawing). r.headed)
    (read_more blank (capped_line l) (capped_lines ls) refl ∙ ap (λ (x : Drawing). read_on x (capped_lines ls)) stops ∙ halted (broken blank) (capped_lines ls) refl))

pub gathers : (ls : List Line) → Gathers (uncommented ls) (read_on blank (capped_lines ls))
unfolding uncommented is_comment capped_lines read_on headed is_problem added capped_line begun linked
gathers [] = headless refl refl
gathers (Line.Comment ∷ ls) = gathers ls
gathers (Line.Problem n m ∷ ls) = go (below_or 64 n)
  where
    go : (64 < n) ⊎ (n ≤ 64) → Gathers (Line.Problem n m ∷ uncommented ls) (read_on (heading (capped n) (capped m)) (capped_lines ls))
    go (inl h) =
        large n m (uncommented ls) refl h (halted (heading (capped n) (capped m)) (capped_lines ls) (lt-leb (capped n) 64 (capped_above n h)))
    go (inr h) =
        let same : capped n ≡ n = capped_small n (omega arith) in
        small n m (uncommented ls) refl h
        (subst (λ (x : ℕ). Followed (heading n (capped m)) (uncommented ls) (read_on (heading x (capped m)) (capped_lines ls))) (sym same)
        (followed (heading n (capped m)) ls (le-leb n 64 h) refl h))
gathers (Line.Edge u v ∷ ls) =
    before_head (Line.Edge u v) ls (Line.Edge u v ∷ uncommented ls)
    (added_outside blank u v (omega arith) (ap (λ (t : Bool). t && is_point 0 v) (no_point u))) refl
gathers (Line.Other ∷ ls) = before_head Line.Other ls (Line.Other ∷ uncommented ls) refl refl
