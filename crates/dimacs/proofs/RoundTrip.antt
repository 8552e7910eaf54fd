-- The edge file of a two-way graph: what its lines say, and that import reads the same graph back.
--   two_way_graph             what export does not refuse is a valid two-way graph (Graph)
--   edges_of cs                the lines of the links with these numbers
--   edges_length, edges_file, edges_kept       as many as there are numbers; what is written for them; none is a comment
--   Between u v c             c is the number of a link between u and v;   edges_linked, linked_edges   which links these lines are
--   exported_lines rows        the p line, and behind it the lines of the links;   exported_file   the file is that of these lines
--   exported_kept, exported_content            none of them is a comment, and they are what the file says
--   Rising n cs               each number is of two vertices below n, smaller vertex first;   links_rising   so are those of a graph
--   exported_plan             the lines are those of a plan;   arc_linked, linked_arc   each link of the rows is one of them, and no other
--   arcs_same                 the links that are read are those of the rows;   rows_back   so the rows are read back
--   exported_links            every link stands there once, smaller vertex first, ascending
--   exported_draws            the file is one of a plan of these links
--   round_trip                import answers the number of points, and leaves the rows in the output list
-- Assumes nothing.
use Prim.Native.Nat.{ℕ, zero, suc, ◌+◌, ◌*◌, ◌/◌, ◌%◌, ◌^◌, ◌≤◌, ◌<◌}
use mathlib.Core.Path.{◌≡◌, refl, sym, ap, ap₂, ◌∙◌, subst}
use mathlib.Core.Bool.{Bool}
use mathlib.Core.Logic.{◌⊎◌, inl, inr}
use mathlib.Core.List.{List, [], ◌∷◌, ◌++◌}
use mathlib.Core.Option.{none}
use native.Mathlib.Omega.{arith}
use lib.Dec.{T, eqb, ltb→lt, eqb→eq}
use lib.ListN.{length, drop}
use lib.Seq.{append_snoc, ext_get_or}
use Rattle.bitset.proofs.Tests.{and_in, or_inl, or_inr, or_out, same_test, three_ways}
use Rattle.bitset.proofs.Word.{equal_members}
use Rattle.searches.specs.Ordering.{arcs, at}
use Rattle.searches.specs.Answer.{is_two_way, open_tests, two_way_tests, first_refusal}
use Rattle.searches.specs.declared.Mark.{Mark}
use Rattle.searches.proofs.Refusals.{none_accepts}
use Rattle.sheet.specs.Written.{is_link, link_list, lines}
use Rattle.sheet.proofs.Joined.{joins_out}
use Rattle.sheet.proofs.Listed.{Lists}
use Rattle.sheet.proofs.Links.{Graph, valid_graph, parts, link_in, link_out, links_listed}
use Rattle.edge_lines.specs.Writing.{IsFile, problem_text, edge_text}
use Rattle.edge_lines.specs.declared.Line.{Line}
use Rattle.edge_lines.proofs.Told.{file_told}
use Rattle.plan_text.specs.Text.{head_text, link_text, plan_text}
use Rattle.plan_text.specs.declared.Format.{Format}
use Rattle.dimacs.specs.Import.{is_comment, uncommented, content, is_problem, points_in, announced_in, headed, points, announced, following}
use Rattle.dimacs.specs.Import.{is_edge, is_loop, every, any, drawn_rows, read, import_answer, import_output}
use Rattle.dimacs.specs.Export.{edge_file}
use Rattle.dimacs.specs.File.{Draws}
use Rattle.dimacs.proofs.Points.{edge_in}
use Rattle.dimacs.proofs.Links.{joins_ends, links_pair, pair_joins, linked_by, linked_back}
use Rattle.dimacs.proofs.Accepted.{Plan, accepted_in, answer_read, output_read, rows_length, rows_words, arcs_drawn}

pub two_way_graph : (rows : List ℕ) → first_refusal (two_way_tests Mark.TwoWay rows) ≡ none → Graph rows
unfolding two_way_tests open_tests is_two_way
two_way_graph rows e =
    let a = none_accepts (two_way_tests Mark.TwoWay rows) e in
    valid_graph 0 rows (λ t. let l = ltb→lt 6 0 t in omega arith, (a.0, (a.1.0, (a.1.1.0, (a.1.1.1.1.0, tt)))))

-- ---- the lines of the links

unfoldable pub edges_of : List ℕ → List Line
edges_of [] = []
edges_of (c ∷ cs) = Line.Edge (suc (c / 64)) (suc (c % 64)) ∷ edges_of cs

pub edges_length : (cs : List ℕ) → length (edges_of cs) ≡ length cs
unfolding edges_of
edges_length [] = refl
edges_length (c ∷ cs) = ap suc (edges_length cs)

edges_file : (cs : List ℕ) → IsFile (edges_of cs) (lines (link_text Format.Edges) cs)
unfolding edges_of lines link_text
edges_file [] = refl
edges_file (c ∷ cs) =
    let line = edge_text (suc (c / 64)) (suc (c % 64)) in
    let rest = lines (link_text Format.Edges) cs in
    (line, rest, refl, append_snoc line 10 rest, edges_file cs)

edges_kept : (cs : List ℕ) → uncommented (edges_of cs) ≡ edges_of cs
unfolding edges_of uncommented is_comment
edges_kept [] = refl
edges_kept (c ∷ cs) = ap (λ (ls : List Line). Line.Edge (suc (c / 64)) (suc (c % 64)) ∷ ls) (edges_kept cs)

-- the two vertices of a number
abbrev Between : ℕ → ℕ → ℕ → Type 0
Between u v c = ((c / 64 ≡ u) × (c % 64 ≡ v)) ⊎ ((c / 64 ≡ v) × (c % 64 ≡ u))

edges_linked : (cs : List ℕ) (u v j : ℕ) → j < length cs → Between u v (at cs j) → T (linked_by (edges_of cs) u v)
unfolding edges_of linked_by any
edges_linked [] u v j l e = absurd (omega arith)
edges_linked (c ∷ cs) u v zero l e =
    or_inl (links_pair u v (Line.Edge (suc (c / 64)) (suc (c % 64)))) (linked_by (edges_of cs) u v)
    (subst (λ (b : Bool). T b) (sym (pair_joins (c / 64) (c % 64) u v)) (joins_ends (c / 64) (c % 64) u v e))
edges_linked (c ∷ cs) u v (suc j) l e =
    or_inr (links_pair u v (Line.Edge (suc (c / 64)) (suc (c % 64)))) (linked_by (edges_of cs) u v) (edges_linked cs u v j (omega arith) e)

linked_edges : (cs : List ℕ) (u v : ℕ) → T (linked_by (edges_of cs) u v) → (j : ℕ) × (j < length cs) × Between u v (at cs j)
unfolding edges_of linked_by any
linked_edges [] u v t = absurd t
linked_edges (c ∷ cs) u v t = go (linked_edges cs u v) (or_out (links_pair u v (Line.Edge (suc (c / 64)) (suc (c % 64)))) (linked_by (edges_of cs) u v) t)
  where
    go : (T (linked_by (edges_of cs) u v) → (j : ℕ) × (j < length cs) × Between u v (at cs j))
        → T (links_pair u v (Line.Edge (suc (c / 64)) (suc (c % 64)))) ⊎ T (linked_by (edges_of cs) u v) → (j : ℕ) × (j < suc (length cs)) × Between u v (at (c ∷ cs) j)
    go rest (inl s) = (0, omega arith, joins_out (c / 64) (c % 64) u v (subst (λ (b : Bool). T b) (pair_joins (c / 64) (c % 64) u v) s))
    go rest (inr s) = let y = rest s in (suc y.0, omega (arith, y.1), y.2)

-- ---- the file

abbrev pub exported_lines : List ℕ → List Line
exported_lines rows = Line.Problem (length rows) (length (link_list rows)) ∷ edges_of (link_list rows)

module _ (rows : List ℕ) where
  exported_file : IsFile (exported_lines rows) (edge_file rows)
  unfolding edge_file plan_text head_text
  exported_file =
      let line = problem_text (length rows) (length (link_list rows)) in
      let rest = lines (link_text Format.Edges) (link_list rows) in
      (line, rest, refl, append_snoc line 10 rest, edges_file (link_list rows))

  exported_kept : uncommented (exported_lines rows) ≡ exported_lines rows
  unfolding uncommented is_comment
  exported_kept = ap (λ (ls : List Line). Line.Problem (length rows) (length (link_list rows)) ∷ ls) (edges_kept (link_list rows))

  pub exported_content : content (edge_file rows) ≡ exported_lines rows
  unfolding content
  exported_content = ap uncommented (file_told (exported_lines rows) (edge_file rows) exported_file) ∙ exported_kept

-- ---- links between vertices below n, smaller vertex first

module _ (n : ℕ) where
  abbrev Rising : List ℕ → Type 0
  Rising cs = (j : ℕ) → j < length cs → (at cs j / 64 < at cs j % 64) × (at cs j % 64 < n)

  rising_edges : (cs : List ℕ) → Rising cs → T (every (is_edge n) (edges_of cs))
  unfolding edges_of every
  rising_edges [] each = tt
  rising_edges (c ∷ cs) each =
      let here = each 0 (omega arith) in
      let from : c / 64 < n = omega (arith, here.0, here.1) in
      let to : c % 64 < n = here.1 in
      and_in (is_edge n (Line.Edge (suc (c / 64)) (suc (c % 64)))) (every (is_edge n) (edges_of cs))
      (edge_in n (suc (c / 64)) (suc (c % 64)) (record { from_low = omega arith; from_high = omega arith; to_low = omega arith; to_high = omega arith }))
      (rising_edges cs (λ j l. each (suc j) (omega arith)))

  rising_loopless : (cs : List ℕ) → Rising cs → T (any is_loop (edges_of cs)) → ⊥
  unfolding edges_of any is_loop
  rising_loopless [] each t = t
  rising_loopless (c ∷ cs) each t = go (rising_loopless cs (λ j l. each (suc j) (omega arith))) (or_out (eqb (suc (c / 64)) (suc (c % 64))) (any is_loop (edges_of cs)) t)
    where
      go : (T (any is_loop (edges_of cs)) → ⊥) → T (eqb (suc (c / 64)) (suc (c % 64))) ⊎ T (any is_loop (edges_of cs)) → ⊥
      go rest (inl s) = let same = eqb→eq (suc (c / 64)) (suc (c % 64)) s in omega (arith, (each 0 (omega arith)).0)
      go rest (inr s) = rest s

module _ (rows : List ℕ) (g : Graph rows) where
  links_rising : Rising (length rows) (link_list rows)
  links_rising j l =
      let c = at (link_list rows) j in
      let link = link_out rows c ((links_listed rows).holds j l) in
      (link.0, g.inside (c / 64) (c % 64) (omega (arith, (links_listed rows).below j l)) (omega arith) link.1)

  exported_plan : (most : ℕ) → length rows ≤ most → Plan (exported_lines rows) most
  unfolding headed points announced following is_problem points_in announced_in
  exported_plan most l = record {
    headed = tt;
    small = g.few;
    links = rising_edges (length rows) (link_list rows) links_rising;
    counted = edges_length (link_list rows);
    loopless = rising_loopless (length rows) (link_list rows) links_rising;
    room = l;
  }

  -- ---- the links are those of the rows

  -- smaller vertex first
  up_linked : {u v : ℕ} → u < v → v < length rows → T (arcs rows u v) → T (linked_by (edges_of (link_list rows)) u v)
  up_linked {u} {v} l h t =
      let few : length rows ≤ 64 = g.few in
      let s = (links_listed rows).all (64 * u + v) (omega arith) (link_in rows u v l (omega arith) t) in
      let e = parts u v (omega arith) in
      edges_linked (link_list rows) u v s.0 s.1 (inl (ap (λ (c : ℕ). c / 64) s.2 ∙ e.0, ap (λ (c : ℕ). c % 64) s.2 ∙ e.1))

  arc_linked : (u v : ℕ) → u < length rows → v < 64 → T (arcs rows u v) → T (linked_by (edges_of (link_list rows)) u v)
  arc_linked u v l h t = go (g.inside u v l h t) (three_ways u v)
    where
      go : v < length rows → (u < v) ⊎ ((u ≡ v) ⊎ (v < u)) → T (linked_by (edges_of (link_list rows)) u v)
      go inside (inl up) = up_linked up inside t
      go inside (inr (inl e)) = absurd (g.loopless u l (subst (λ (y : ℕ). T (arcs rows u y)) (sym e) t))
      go inside (inr (inr down)) = subst (λ (b : Bool). T b) (linked_back (edges_of (link_list rows)) v u) (up_linked down l (g.both_ways u v l inside t))

  linked_arc : (u v : ℕ) → T (linked_by (edges_of (link_list rows)) u v) → T (arcs rows u v)
  linked_arc u v t =
      let s = linked_edges (link_list rows) u v t in
      let c = at (link_list rows) s.0 in
      let here = links_rising s.0 s.1 in
      go c (omega (arith, here.0, here.1)) here.1 (link_out rows c ((links_listed rows).holds s.0 s.1)).1 s.2
    where
      go : (c : ℕ) → c / 64 < length rows → c % 64 < length rows → T (arcs rows (c / 64) (c % 64)) → Between u v c → T (arcs rows u v)
      go c from to arc (inl e) = subst (λ (b : Bool). T b) (ap₂ (λ (y z : ℕ). arcs rows y z) e.0 e.1) arc
      go c from to arc (inr e) = subst (λ (b : Bool). T b) (ap₂ (λ (y z : ℕ). arcs rows y z) e.1 e.0) (g.both_ways (c / 64) (c % 64) from to arc)

  arcs_same : (u v : ℕ) → u < length rows → v < 64 → arcs (drawn_rows (exported_lines rows)) u v ≡ arcs rows u v
  unfolding points points_in following
  arcs_same u v l h =
      arcs_drawn (exported_plan (length rows) (omega arith)) u v l
      ∙ same_test (linked_by (edges_of (link_list rows)) u v) (arcs rows u v) (linked_arc u v) (arc_linked u v l h)

  rows_back : ((u : ℕ) → u < length rows → at rows u < 2 ^ 64) → drawn_rows (exported_lines rows) ≡ rows
  unfolding arcs points points_in
  rows_back words =
      let x = exported_plan (length rows) (omega arith) in
      let long : length (drawn_rows (exported_lines rows)) ≡ length rows = rows_length x in
      ext_get_or 0 (drawn_rows (exported_lines rows)) rows long (λ u l. equal_members 64 (rows_words x u (omega arith)) (words u (omega arith)) (λ v h. arcs_same u v (omega arith) h))

-- ---- what is exported

module _ (rows : List ℕ) (valid : first_refusal (two_way_tests Mark.TwoWay rows) ≡ none) where
  pub exported_links : Lists (length (link_list rows)) (at (link_list rows)) (64 * length rows) (is_link rows)
      × ((j : ℕ) → j < length (link_list rows) → (at (link_list rows) j / 64 < at (link_list rows) j % 64) × (at (link_list rows) j % 64 < length rows))
  exported_links = (links_listed rows, links_rising rows (two_way_graph rows valid))

  pub exported_draws : Draws (edge_file rows) (length rows) (edges_of (link_list rows))
  exported_draws = record {
    lines = exported_lines rows;
    file = exported_file rows;
    said = exported_kept rows ∙ ap (λ (m : ℕ). Line.Problem (length rows) m ∷ edges_of (link_list rows)) (sym (edges_length (link_list rows)));
    links = rising_edges (length rows) (link_list rows) (links_rising rows (two_way_graph rows valid));
  }

-- every link is read back, and nothing else
pub round_trip : (rows out : List ℕ) → first_refusal (two_way_tests Mark.TwoWay rows) ≡ none
    → ((u : ℕ) → u < length rows → at rows u < 2 ^ 64) → length rows ≤ length out
    → (import_answer (edge_file rows) out ≡ read (length rows)) × (import_output (edge_file rows) out ≡ rows ++ drop (length rows) out)
unfolding points points_in
round_trip rows out valid words room =
    let g = two_way_graph rows valid in
    let said = exported_content rows in
    let accepted = accepted_in (edge_file rows) out (subst (λ (ls : List Line). Plan ls (length out)) (sym said) (exported_plan rows g (length out) room)) in (
      answer_read (edge_file rows) out accepted ∙ ap (λ (ls : List Line). read (points ls)) said,
      output_read (edge_file rows) out accepted ∙ ap (λ (ls : List Line). drawn_rows ls ++ drop (points ls) out) said
          ∙ ap (λ (l : List ℕ). l ++ drop (length rows) out) (rows_back rows g words),
    )
