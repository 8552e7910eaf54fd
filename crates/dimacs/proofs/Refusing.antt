-- Each refusal is given exactly in its stated case, and in the stated order.                                          [02: K13]
--   import_order, export_order             the numbers of the tests, in the order in which they are tried
--   import_refuses, refuses_import         import answers refusal r exactly where r's test is the first one that holds
--   import_reads, read_import              it reads a plan exactly where no test holds, and answers the number of points of the p line
--   import_kept                            refused, the output list is what it was
--   export_refuses, refuses_export, export_writes, written_export, export_kept   the same of export, which answers the length of the text
--   headed_parts, headed_out, headed_in    what the test for the p line means: it stands first
--   LinksPoints n l, AllLinkPoints n ls    l is a link between points from 1 to n; each of the lines ls is one
--   link_out, link_in, every_out, every_in  what the tests for these mean
--   formed_out, formed_in                  what the test of the lines behind the p line means: links between points, as many as announced
--   looped_out, looped_in                  what the test for loops means: one of these lines links a point with itself
-- Assumes nothing.
use Prim.Native.Nat.{ℕ}
use mathlib.Core.Path.{◌≡◌, refl, sym, ap, subst}
use mathlib.Core.Logic.{◌↔◌, ◌⊎◌, inl, inr}
use mathlib.Core.List.{List, [], ◌∷◌, ◌++◌}
use mathlib.Core.Option.{Option, none, some}
use native.Mathlib.Omega.{arith}
use lib.Dec.{T, eqb, eqb→eq, eqb_refl}
use lib.ListN.{length}
use Rattle.bitset.proofs.Tests.{and_in, and_out, or_inl, or_inr, or_out}
use Rattle.searches.specs.Answer.{first_refusal, Refuses, Accepts, two_way_tests}
use Rattle.searches.specs.declared.Mark.{Mark}
use Rattle.searches.proofs.Refusals.{refuses_first, first_refuses, none_accepts, numbers}
use Rattle.edge_lines.specs.declared.Line.{Line}
use Rattle.dimacs.specs.Import.{content, is_problem, points_in, announced_in, headed, points, announced, following, is_edge, is_loop, every, any, formed, looped}
use Rattle.dimacs.specs.Import.{import_tests, import_answer, import_output}
use Rattle.dimacs.specs.Import as importing
use Rattle.dimacs.specs.Export.{edge_file, export_tests, export_answer, export_output}
use Rattle.dimacs.specs.Export as exporting
use Rattle.dimacs.proofs.Points.{Linking, edge_out, edge_in}

-- ---- the order in which the numbers are tried

pub import_order : (b out : List ℕ) → numbers (import_tests b out) ≡ 27 ∷ 2 ∷ 27 ∷ 4 ∷ 10 ∷ []
unfolding numbers import_tests
import_order b out = refl

pub export_order : (mark : Mark) (rows out : List ℕ) → numbers (export_tests mark rows out) ≡ 2 ∷ 3 ∷ 4 ∷ 25 ∷ 5 ∷ 10 ∷ []
unfolding numbers export_tests two_way_tests
export_order mark rows out = refl

-- ---- an answer by the first refusal: `done` where there is none

module _ {A : Type 0} (done : A) (refusal : ℕ → A) where
  first_refused : (first : Option ℕ) (r : ℕ) → (done ≡ refusal r → ⊥) → ((q : ℕ) → refusal q ≡ refusal r → q ≡ r) → elim first [
    | none ↦ done
    | some q ↦ refusal q
  ] ≡ refusal r → first ≡ some r
  first_refused none r other alone e = absurd (other e)
  first_refused (some q) r other alone e = ap some (alone q e)

  first_none : (first : Option ℕ) (a : A) → ((q : ℕ) → a ≡ refusal q → ⊥) → elim first [
    | none ↦ done
    | some q ↦ refusal q
  ] ≡ a → (first ≡ none) × (done ≡ a)
  first_none none a other e = (refl, e)
  first_none (some q) a other e = absurd (other q (sym e))

-- ---- what import answers

read_not_refused : (k q : ℕ) → importing.read k ≡ importing.refused q → ⊥
read_not_refused k q e = let z : ◌≡◌ {A = ℕ} 0 1 = cc in omega arith

module _ (b out : List ℕ) where
  import_first : (r : ℕ) → import_answer b out ≡ importing.refused r → first_refusal (import_tests b out) ≡ some r
  unfolding import_answer
  import_first r e = first_refused _ importing.refused (first_refusal (import_tests b out)) r (read_not_refused (points (content b)) r) (λ q e. cc) e

  import_none : (k : ℕ) → import_answer b out ≡ importing.read k → (first_refusal (import_tests b out) ≡ none) × (importing.read (points (content b)) ≡ importing.read k)
  unfolding import_answer
  import_none k e = first_none _ importing.refused (first_refusal (import_tests b out)) (importing.read k) (read_not_refused k) e

  pub import_refuses : (r : ℕ) → import_answer b out ≡ importing.refused r → Refuses r (import_tests b out)
  import_refuses r e = first_refuses (import_tests b out) r (import_first r e)

  pub refuses_import : (r : ℕ) → Refuses r (import_tests b out) → import_answer b out ≡ importing.refused r
  unfolding import_answer
  refuses_import r x = rw (refuses_first (import_tests b out) r x, import_answer)

  pub import_reads : (first_refusal (import_tests b out) ≡ none) ↔ (import_answer b out ≡ importing.read (points (content b)))
  unfolding import_answer
  import_reads = (λ e. rw (e, import_answer), λ e. (import_none (points (content b)) e).0)

  -- whatever number is read, it is the one of the p line, and no test holds
  pub read_import : (k : ℕ) → import_answer b out ≡ importing.read k → Accepts (import_tests b out) × (k ≡ points (content b))
  read_import k e = let x = import_none k e in (none_accepts (import_tests b out) x.0, cc)

  pub import_kept : (r : ℕ) → import_answer b out ≡ importing.refused r → import_output b out ≡ out
  unfolding import_output
  import_kept r e = rw (import_first r e, import_output)

-- ---- what export answers

written_not_refused : (k q : ℕ) → exporting.written k ≡ exporting.refused q → ⊥
written_not_refused k q e = let z : ◌≡◌ {A = ℕ} 0 1 = cc in omega arith

module _ (mark : Mark) (rows out : List ℕ) where
  export_first : (r : ℕ) → export_answer mark rows out ≡ exporting.refused r → first_refusal (export_tests mark rows out) ≡ some r
  unfolding export_answer
  export_first r e = first_refused _ exporting.refused (first_refusal (export_tests mark rows out)) r (written_not_refused (length (edge_file rows)) r) (λ q e. cc) e

  export_none : (k : ℕ) → export_answer mark rows out ≡ exporting.written k
      → (first_refusal (export_tests mark rows out) ≡ none) × (exporting.written (length (edge_file rows)) ≡ exporting.written k)
  unfolding export_answer
  export_none k e = first_none _ exporting.refused (first_refusal (export_tests mark rows out)) (exporting.written k) (written_not_refused k) e

  pub export_refuses : (r : ℕ) → export_answer mark rows out ≡ exporting.refused r → Refuses r (export_tests mark rows out)
  export_refuses r e = first_refuses (export_tests mark rows out) r (export_first r e)

  pub refuses_export : (r : ℕ) → Refuses r (export_tests mark rows out) → export_answer mark rows out ≡ exporting.refused r
  unfolding export_answer
  refuses_export r x = rw (refuses_first (export_tests mark rows out) r x, export_answer)

  pub export_writes : (first_refusal (export_tests mark rows out) ≡ none) ↔ (export_answer mark rows out ≡ exporting.written (length (edge_file rows)))
  unfolding export_answer
  export_writes = (λ e. rw (e, export_answer), λ e. (export_none (length (edge_file rows)) e).0)

  -- whatever number is answered, it is the length of the text, and no test holds
  pub written_export : (k : ℕ) → export_answer mark rows out ≡ exporting.written k → Accepts (export_tests mark rows out) × (k ≡ length (edge_file rows))
  written_export k e = let x = export_none k e in (none_accepts (export_tests mark rows out) x.0, cc)

  pub export_kept : (r : ℕ) → export_answer mark rows out ≡ exporting.refused r → export_output mark rows out ≡ out
  unfolding export_output
  export_kept r e = rw (export_first r e, export_output)

-- ---- the p line

pub headed_parts : (ls : List Line) → T (headed ls) → ls ≡ Line.Problem (points ls) (announced ls) ∷ following ls
unfolding headed is_problem points points_in announced announced_in following
headed_parts [] t = absurd t
headed_parts (Line.Comment ∷ ls) t = absurd t
headed_parts (Line.Problem n m ∷ ls) t = refl
headed_parts (Line.Edge u v ∷ ls) t = absurd t
headed_parts (Line.Other ∷ ls) t = absurd t

pub headed_out : (ls : List Line) → T (headed ls) → (n : ℕ) × (m : ℕ) × (rest : List Line) × (ls ≡ Line.Problem n m ∷ rest)
headed_out ls t = (points ls, announced ls, following ls, headed_parts ls t)

pub headed_in : (ls : List Line) (n m : ℕ) (rest : List Line) → ls ≡ Line.Problem n m ∷ rest → T (headed ls)
unfolding headed is_problem
headed_in ls n m rest e = subst (λ (x : List Line). T (headed x)) (sym e) tt

-- ---- the lines behind it

pub record LinksPoints (n : ℕ) (l : Line) : Type 0 where
  pub from : ℕ
  pub to : ℕ
  pub link : l ≡ Line.Edge from to
  pub points : Linking n from to

abbrev pub AllLinkPoints : ℕ → List Line → Type 0
AllLinkPoints n [] = Unit {0}
AllLinkPoints n (l ∷ ls) = LinksPoints n l × AllLinkPoints n ls

pub link_out : (n : ℕ) (l : Line) → T (is_edge n l) → LinksPoints n l
unfolding is_edge
link_out n Line.Comment t = absurd t
link_out n (Line.Problem k m) t = absurd t
link_out n (Line.Edge u v) t = record { from = u; to = v; link = refl; points = edge_out n u v t }
link_out n Line.Other t = absurd t

pub link_in : (n : ℕ) (l : Line) → LinksPoints n l → T (is_edge n l)
link_in n l x = subst (λ (k : Line). T (is_edge n k)) (sym x.link) (edge_in n x.from x.to x.points)

pub every_out : (n : ℕ) (ls : List Line) → T (every (is_edge n) ls) → AllLinkPoints n ls
unfolding every
every_out n [] t = tt
every_out n (l ∷ ls) t = let both = and_out (is_edge n l) (every (is_edge n) ls) t in (link_out n l both.0, every_out n ls both.1)

pub every_in : (n : ℕ) (ls : List Line) → AllLinkPoints n ls → T (every (is_edge n) ls)
unfolding every
every_in n [] x = tt
every_in n (l ∷ ls) x = and_in (is_edge n l) (every (is_edge n) ls) (link_in n l x.0) (every_in n ls x.1)

pub formed_out : (ls : List Line) → T (formed ls) → AllLinkPoints (points ls) (following ls) × (length (following ls) ≡ announced ls)
unfolding formed
formed_out ls t =
    let both = and_out (every (is_edge (points ls)) (following ls)) (eqb (length (following ls)) (announced ls)) t in
    (every_out (points ls) (following ls) both.0, eqb→eq (length (following ls)) (announced ls) both.1)

pub formed_in : (ls : List Line) → AllLinkPoints (points ls) (following ls) → length (following ls) ≡ announced ls → T (formed ls)
unfolding formed
formed_in ls x e =
    and_in (every (is_edge (points ls)) (following ls)) (eqb (length (following ls)) (announced ls)) (every_in (points ls) (following ls) x)
    (subst (λ (m : ℕ). T (eqb (length (following ls)) m)) e (eqb_refl (length (following ls))))

-- ---- links of a point with itself

loop_out : (l : Line) → T (is_loop l) → (u : ℕ) × (l ≡ Line.Edge u u)
unfolding is_loop
loop_out Line.Comment t = absurd t
loop_out (Line.Problem n m) t = absurd t
loop_out (Line.Edge u v) t = (u, ap (λ (x : ℕ). Line.Edge u x) (sym (eqb→eq u v t)))
loop_out Line.Other t = absurd t

any_loop_out : (ls : List Line) → T (any is_loop ls) → (u : ℕ) × (xs : List Line) × (ys : List Line) × (ls ≡ xs ++ Line.Edge u u ∷ ys)
unfolding any
any_loop_out [] t = absurd t
any_loop_out (l ∷ ls) t = go (or_out (is_loop l) (any is_loop ls) t) (any_loop_out ls)
  where
    go : T (is_loop l) ⊎ T (any is_loop ls) → (T (any is_loop ls) → (u : ℕ) × (xs : List Line) × (ys : List Line) × (ls ≡ xs ++ Line.Edge u u ∷ ys))
        → (u : ℕ) × (xs : List Line) × (ys : List Line) × (l ∷ ls ≡ xs ++ Line.Edge u u ∷ ys)
    go (inl t) later = let x = loop_out l t in (x.0, [], ls, ap (λ (k : Line). k ∷ ls) x.1)
    go (inr t) later = let x = later t in (x.0, l ∷ x.1, x.2, ap (λ (k : List Line). l ∷ k) x.3)

any_loop_in : (u : ℕ) (xs ys : List Line) → T (any is_loop (xs ++ Line.Edge u u ∷ ys))
unfolding any is_loop
any_loop_in u [] ys = or_inl (eqb u u) (any is_loop ys) (eqb_refl u)
any_loop_in u (l ∷ xs) ys = or_inr (is_loop l) (any is_loop (xs ++ Line.Edge u u ∷ ys)) (any_loop_in u xs ys)

pub looped_out : (ls : List Line) → T (looped ls) → (u : ℕ) × (xs : List Line) × (ys : List Line) × (following ls ≡ xs ++ Line.Edge u u ∷ ys)
unfolding looped
looped_out ls t = any_loop_out (following ls) t

pub looped_in : (ls : List Line) (u : ℕ) (xs ys : List Line) → following ls ≡ xs ++ Line.Edge u u ∷ ys → T (looped ls)
unfolding looped
looped_in ls u xs ys e = subst (λ (x : List Line). T (any is_loop x)) (sym e) (any_loop_in u xs ys)
