-- A link that is said once more, in a line of its own, changes nothing but the number of links that the p line has to announce.
--   every_more, any_more      a test of all lines, of one of them, where there is one line more
--   once, twice               the lines of a file, and those with the link between u and v once more
--   repeated_plan             they are those of a plan again;   repeated_rows   the same rows are drawn
--   repeated_link             import does not refuse the second file, and gives the same rows
-- Assumes nothing.
use Prim.Native.Nat.{ℕ, suc, ◌<◌}
use mathlib.Core.Path.{◌≡◌, refl, sym, ap, ap₂, ◌∙◌, subst}
use mathlib.Core.Bool.{Bool, ◌||◌, or_comm, or_assoc}
use mathlib.Core.Logic.{◌⊎◌, inl, inr}
use mathlib.Core.List.{List, [], ◌∷◌, ◌++◌}
use mathlib.Core.Option.{none}
use native.Mathlib.Omega.{arith}
use lib.Dec.{T, eqb, eqb→eq}
use lib.ListN.{length, take, length-append}
use Rattle.bitset.proofs.Tests.{and_in, and_out, or_inr, or_out, same_test}
use Rattle.searches.specs.Answer.{first_refusal}
use Rattle.sheet.proofs.Joined.{joins_out}
use Rattle.edge_lines.specs.declared.Line.{Line}
use Rattle.dimacs.specs.Import.{content, is_problem, points_in, announced_in, headed, points, announced, following, is_edge, is_loop, every, any, drawn_rows, import_tests}
use Rattle.dimacs.specs.File.{SaysLink}
use Rattle.dimacs.proofs.Points.{edge_in}
use Rattle.dimacs.proofs.Links.{links_pair, pair_joins, linked_by, linked_back, linked_in, said_inside, said_loop, same_links_same_rows}
use Rattle.dimacs.proofs.Accepted.{Plan, accepted_out, accepted_in}

-- ---- one line more

module _ (test : Line → Bool) (l : Line) (ys : List Line) where
  pub every_more : (xs : List Line) → T (test l) → T (every test (xs ++ ys)) → T (every test (xs ++ l ∷ ys))
  unfolding every
  every_more [] t all = and_in (test l) (every test ys) t all
  every_more (x ∷ xs) t all =
      let both = and_out (test x) (every test (xs ++ ys)) all in
      and_in (test x) (every test (xs ++ l ∷ ys)) both.0 (every_more xs t both.1)

  pub any_more : (xs : List Line) → any test (xs ++ l ∷ ys) ≡ (test l || any test (xs ++ ys))
  unfolding any
  any_more [] = refl
  any_more (x ∷ xs) =
      let others = any test (xs ++ ys) in
      ap (λ (b : Bool). test x || b) (any_more xs)
      ∙ sym (or_assoc (test x) (test l) others) ∙ ap (λ (b : Bool). b || others) (or_comm (test x) (test l)) ∙ or_assoc (test l) (test x) others

-- a test beside one that follows from it
absorbed : (a b : Bool) → (T a → T b) → (a || b) ≡ b
absorbed a b follows = same_test (a || b) b (λ t. go (or_out a b t)) (or_inr a b)
  where
    go : T a ⊎ T b → T b
    go (inl t) = follows t
    go (inr t) = t

-- ---- a link once more

module _ (n m u v : ℕ) (xs ys : List Line) where
  abbrev once : List Line
  once = Line.Problem n m ∷ (xs ++ ys)

  abbrev twice : List Line
  twice = Line.Problem n (suc m) ∷ (xs ++ Line.Edge (suc u) (suc v) ∷ ys)

  pair_said : SaysLink u v (xs ++ ys) → (x y : ℕ) → T (links_pair x y (Line.Edge (suc u) (suc v))) → T (linked_by (xs ++ ys) x y)
  pair_said s x y t = go (joins_out u v x y (subst (λ (b : Bool). T b) (pair_joins u v x y) t))
    where
      go : ((u ≡ x) × (v ≡ y)) ⊎ ((u ≡ y) × (v ≡ x)) → T (linked_by (xs ++ ys) x y)
      go (inl e) = subst (λ (b : Bool). T b) (ap₂ (λ (p q : ℕ). linked_by (xs ++ ys) p q) e.0 e.1) (linked_in (xs ++ ys) u v s)
      go (inr e) =
          subst (λ (b : Bool). T b) (linked_back (xs ++ ys) u v ∙ ap₂ (λ (p q : ℕ). linked_by (xs ++ ys) p q) e.1 e.0) (linked_in (xs ++ ys) u v s)

  pub repeated_plan : {most : ℕ} → Plan once most → SaysLink u v (xs ++ ys) → Plan twice most
  unfolding headed points announced following is_problem points_in announced_in is_loop
  repeated_plan x s =
      let l = Line.Edge (suc u) (suc v) in
      let inside = said_inside n (xs ++ ys) x.links u v s in
      let from : u < n = inside.0 in
      let to : v < n = inside.1 in
      let counted : length (xs ++ ys) ≡ m = x.counted in
      record {
        headed = tt;
        small = x.small;
        links =
            every_more (is_edge n) l ys xs
            (edge_in n (suc u) (suc v) (record { from_low = omega arith; from_high = omega arith; to_low = omega arith; to_high = omega arith })) x.links;
        counted = simp length-append (omega (arith, length-append xs ys));
        loopless = λ t. loop (or_out (eqb (suc u) (suc v)) (any is_loop (xs ++ ys)) (subst (λ (b : Bool). T b) (any_more is_loop l ys xs) t));
        room = x.room;
      }
    where
      loop : T (eqb (suc u) (suc v)) ⊎ T (any is_loop (xs ++ ys)) → ⊥
      loop (inl t) =
          let e : suc u ≡ suc v = eqb→eq (suc u) (suc v) t in
          let same : v ≡ u = omega arith in
          x.loopless (said_loop (xs ++ ys) u (subst (λ (y : ℕ). SaysLink u y (xs ++ ys)) same s))
      loop (inr t) = x.loopless t

  pub repeated_rows : {most : ℕ} → Plan once most → SaysLink u v (xs ++ ys) → drawn_rows twice ≡ drawn_rows once
  unfolding drawn_rows points following points_in linked_by
  repeated_rows x s =
      let l = Line.Edge (suc u) (suc v) in
      ap (λ (rows : List ℕ). take n rows)
      (same_links_same_rows n x.small (xs ++ l ∷ ys) (xs ++ ys) (repeated_plan x s).links x.links
      (λ p q. any_more (links_pair p q) l ys xs ∙ absorbed (links_pair p q l) (linked_by (xs ++ ys) p q) (pair_said s p q)))

pub repeated_link : (b b' out : List ℕ) (n m u v : ℕ) (xs ys : List Line)
    → content b ≡ Line.Problem n m ∷ (xs ++ ys) → content b' ≡ Line.Problem n (suc m) ∷ (xs ++ Line.Edge (suc u) (suc v) ∷ ys) → SaysLink u v (xs ++ ys)
    → first_refusal (import_tests b out) ≡ none → (first_refusal (import_tests b' out) ≡ none) × (drawn_rows (content b') ≡ drawn_rows (content b))
repeated_link b b' out n m u v xs ys e e' s accepted =
    let x = subst (λ (ls : List Line). Plan ls (length out)) e (accepted_out b out accepted) in (
      accepted_in b' out (subst (λ (ls : List Line). Plan ls (length out)) (sym e') (repeated_plan n m u v xs ys x s)),
      ap drawn_rows e' ∙ repeated_rows n m u v xs ys x s ∙ sym (ap drawn_rows e),
    )
