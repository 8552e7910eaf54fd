-- What 02 asks of DIMACS edge files, over the definitions that the promises of `import` and `export` cite. Each theorem's comment says which sentence it is;
-- the work is done in the modules that the proofs cite. `out` is the output list of import, `text` that of export.
-- That the file and the rows that a call gets are not altered: they are passed as `&`. That the calls end is part of their proofs.
-- Assumes nothing.
use Prim.Native.Nat.{ℕ, suc, ◌*◌, ◌/◌, ◌%◌, ◌^◌, ◌≤◌, ◌<◌}
use mathlib.Core.Path.{◌≡◌, refl, sym, ap, ◌∙◌}
use mathlib.Core.Logic.{◌↔◌}
use mathlib.Core.List.{List, [], ◌∷◌, ◌++◌}
use mathlib.Core.Option.{none}
use lib.Dec.{T}
use lib.ListN.{length, take, drop}
use lib.Seq.{take_at, drop_at}
use Rattle.searches.specs.Ordering.{arcs, at}
use Rattle.searches.specs.Answer.{open_tests, two_way_tests, first_refusal, Accepts, Refuses}
use Rattle.searches.specs.declared.Mark.{Mark}
use Rattle.searches.proofs.Refusals.{numbers}
use Rattle.sheet.specs.Written.{is_link, link_list}
use Rattle.sheet.proofs.Listed.{Lists}
use Rattle.plan_text.proofs.Texts.{text_short}
use Rattle.edge_lines.specs.Writing.{Ended, Unbroken}
use Rattle.edge_lines.specs.declared.Line.{Line}
use Rattle.dimacs.specs.Import.{content, headed, points, following, formed, drawn_rows, import_tests, import_answer, import_output}
use Rattle.dimacs.specs.Import as importing
use Rattle.dimacs.specs.Export.{edge_file, export_tests, export_answer, export_output}
use Rattle.dimacs.specs.Export as exporting
use Rattle.dimacs.specs.File.{Draws, SaysLink}
use Rattle.dimacs.proofs.Refusing as refusing
use Rattle.dimacs.proofs.Drawn as drawn
use Rattle.dimacs.proofs.Comments as comments
use Rattle.dimacs.proofs.Accepted as accepted
use Rattle.dimacs.proofs.Repeated as repeated
use Rattle.dimacs.proofs.RoundTrip as again
use Rattle.dimacs.proofs.Exporting as exported

-- ---- the format

-- a file as a writer writes it has the form, its p line says n, and its links are those that were written
pub written_read : (b : List ℕ) (n : ℕ) (es : List Line) → Draws b n es → T (headed (content b)) × (points (content b) ≡ n) × (following (content b) ≡ es) × T (formed (content b))
written_read b n es d = (drawn.draws_headed b n es d, drawn.draws_points b n es d, drawn.draws_following b n es d, drawn.draws_formed b n es d)

-- and what has the form is a file as a writer writes it
pub read_written : (b : List ℕ) → T (headed (content b)) → T (formed (content b)) → Draws b (points (content b)) (following (content b))
read_written = drawn.read_draws

-- ---- import

module _ (b out : List ℕ) where
  -- import checks the form up to the p line, then 2, the other lines, 4, then 10
  pub import_order : numbers (import_tests b out) ≡ 27 ∷ 2 ∷ 27 ∷ 4 ∷ 10 ∷ []
  import_order = refusing.import_order b out

  -- each refusal exactly in its case, that is where no test before it holds
  pub import_refuses : (r : ℕ) → (import_answer b out ≡ importing.refused r) ↔ Refuses r (import_tests b out)
  import_refuses r = (refusing.import_refuses b out r, refusing.refuses_import b out r)

  -- a plan is read exactly where no test holds
  pub import_reads : (first_refusal (import_tests b out) ≡ none) ↔ (import_answer b out ≡ importing.read (points (content b)))
  import_reads = refusing.import_reads b out

  -- refused, the output list is what it was
  pub import_kept : (r : ℕ) → import_answer b out ≡ importing.refused r → import_output b out ≡ out
  import_kept = refusing.import_kept b out

  -- what holds where the file is not refused
  module _ (reads : first_refusal (import_tests b out) ≡ none) where
    abbrev n : ℕ
    n = points (content b)

    abbrev rows : List ℕ
    rows = drawn_rows (content b)

    -- the rows of the plan are at the front of the output list, one for each point; entries after the result stay
    pub import_written : (take n (import_output b out) ≡ rows) × (drop n (import_output b out) ≡ drop n out) × (length rows ≡ n)
    import_written =
        let long : length rows ≡ n = accepted.rows_length (accepted.accepted_out b out reads) in
        let is = accepted.output_read b out reads in (
          ap (λ (l : List ℕ). take n l) is ∙ take_at rows (drop n out) n long,
          ap (λ (l : List ℕ). drop n l) is ∙ drop_at rows (drop n out) n long,
          long,
        )

    -- whatever import accepts says the links that it gives, no more and no fewer
    pub import_links : (u v : ℕ) → u < n → T (arcs rows u v) ↔ SaysLink u v (following (content b))
    import_links = accepted.links_said (accepted.accepted_out b out reads)

    -- they are the rows of a valid two-way plan, each a word of 64 bits
    pub import_valid : (kind : ℕ) → kind ≤ 6 → Accepts (open_tests kind Mark.TwoWay rows)
    import_valid = accepted.valid_drawn (accepted.accepted_out b out reads)

    pub import_words : (u : ℕ) → u < n → at rows u < 2 ^ 64
    import_words = accepted.rows_words (accepted.accepted_out b out reads)

-- comment lines at any place: one more or less changes nothing, in a file that is refused neither
pub comment_anywhere : (x comment y : List ℕ) → Ended x → Unbroken comment → (out : List ℕ)
    → (import_answer (x ++ (99 ∷ comment ++ 10 ∷ y)) out ≡ import_answer (x ++ y) out) × (import_output (x ++ (99 ∷ comment ++ 10 ∷ y)) out ≡ import_output (x ++ y) out)
comment_anywhere = comments.comment_anywhere

-- a link may come more than once, either way round: one that is said already, with m one larger, gives the same rows
pub repeated_link : (b b' out : List ℕ) (n m u v : ℕ) (xs ys : List Line) → content b ≡ Line.Problem n m ∷ (xs ++ ys)
    → content b' ≡ Line.Problem n (suc m) ∷ (xs ++ Line.Edge (suc u) (suc v) ∷ ys) → SaysLink u v (xs ++ ys)
    → first_refusal (import_tests b out) ≡ none → (first_refusal (import_tests b' out) ≡ none) × (drawn_rows (content b') ≡ drawn_rows (content b))
repeated_link = repeated.repeated_link

-- ---- export

module _ (mark : Mark) (rows text : List ℕ) where
  -- export checks 2 to 5, with 25 for a one-way plan directly after 4, then 10
  pub export_order : numbers (export_tests mark rows text) ≡ 2 ∷ 3 ∷ 4 ∷ 25 ∷ 5 ∷ 10 ∷ []
  export_order = refusing.export_order mark rows text

  pub export_refuses : (r : ℕ) → (export_answer mark rows text ≡ exporting.refused r) ↔ Refuses r (export_tests mark rows text)
  export_refuses r = (refusing.export_refuses mark rows text r, refusing.refuses_export mark rows text r)

  -- a text is written exactly where no test holds, and its length is answered
  pub export_writes : (first_refusal (export_tests mark rows text) ≡ none) ↔ (export_answer mark rows text ≡ exporting.written (length (edge_file rows)))
  export_writes = refusing.export_writes mark rows text

  -- refused, the output list is what it was
  pub export_kept : (r : ℕ) → export_answer mark rows text ≡ exporting.refused r → export_output mark rows text ≡ text
  export_kept = refusing.export_kept mark rows text

  -- else the text is at its front, and bytes after the result stay
  pub export_written : first_refusal (export_tests mark rows text) ≡ none
      → (take (length (edge_file rows)) (export_output mark rows text) ≡ edge_file rows) × (drop (length (edge_file rows)) (export_output mark rows text) ≡ drop (length (edge_file rows)) text)
  export_written none-holds =
      let is = (exported.export_done mark rows text (sym none-holds)).1 in
      let behind = drop (length (edge_file rows)) text in (
        ap (λ (l : List ℕ). take (length (edge_file rows)) l) (sym is) ∙ take_at (edge_file rows) behind (length (edge_file rows)) refl,
        ap (λ (l : List ℕ). drop (length (edge_file rows)) l) (sym is) ∙ drop_at (edge_file rows) behind (length (edge_file rows)) refl,
      )

module _ (rows : List ℕ) (valid : first_refusal (two_way_tests Mark.TwoWay rows) ≡ none) where
  -- the p line with the number of distinct links, and then the links: what is written is such a file
  pub export_draws : Draws (edge_file rows) (length rows) (again.edges_of (link_list rows))
  export_draws = again.exported_draws rows valid

  -- every link once, smaller point first, ascending
  pub export_links : Lists (length (link_list rows)) (at (link_list rows)) (64 * length rows) (is_link rows)
      × ((j : ℕ) → j < length (link_list rows) → (at (link_list rows) j / 64 < at (link_list rows) j % 64) × (at (link_list rows) j % 64 < length rows))
  export_links = again.exported_links rows valid

  -- it has at most 16,143 bytes
  pub export_longest : length (edge_file rows) ≤ 16143
  unfolding edge_file
  export_longest = text_short rows valid

  -- importing that yields the plan again: every row, and the number of points
  pub imported_again : ((u : ℕ) → u < length rows → at rows u < 2 ^ 64) → (out : List ℕ) → length rows ≤ length out
      → (import_answer (edge_file rows) out ≡ importing.read (length rows)) × (import_output (edge_file rows) out ≡ rows ++ drop (length rows) out)
  imported_again words out room = again.round_trip rows out valid words room
