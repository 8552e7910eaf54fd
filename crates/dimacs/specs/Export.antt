-- Export: a two-way graph as a DIMACS edge file, for every mark, rows and output list there can be.                    [02: K13]
--   edge_file rows                 the text of a graph: the p line with the number of links, then every link once
--   export_tests mark rows out     what is refused: a graph that is not two-way, then an output list that is too short for the text
--   Exports                       written m: a text of m bytes; refused r: the refusal with number r
--   export_answer, export_output    what is answered, and what the output list then holds
--   exported_of                    an answer of the code as 02's number and value
use Rattle.std.specs.Prelude.{ℕ, Bool, List, [], ◌∷◌, ◌++◌, ltb, length, drop, Result, Ok, Err}
use Rattle.std.proofs.Math.Option.{none, some}
use Rattle.searches.specs.Answer.{two_way_tests, first_refusal, number}
use Rattle.searches.specs.declared.Refusal.{Refusal}
use Rattle.searches.specs.declared.Mark.{Mark}
use Rattle.plan_text.specs.Text.{plan_text}
use Rattle.plan_text.specs.declared.Format.{Format}

-- the p line, then every link once                                                                                [02: K13, export]
unfoldable pub edge_file : List ℕ → List ℕ
edge_file rows = plan_text Format.Edges rows

pub data Exports : Type 0 where
  written : ℕ → Exports
  refused : ℕ → Exports

module _ (mark : Mark) (rows out : List ℕ) where
  unfoldable pub export_tests : List (ℕ × Bool)
  export_tests = two_way_tests mark rows ++ (10, ltb (length out) (length (edge_file rows))) ∷ []

  unfoldable pub export_answer : Exports
  export_answer =
      elim (first_refusal export_tests) [
        | none ↦ written (length (edge_file rows))
        | some r ↦ refused r
      ]

  -- on success the text, and behind it the bytes that stood there; on refusal what it was
  unfoldable pub export_output : List ℕ
  export_output =
      elim (first_refusal export_tests) [
        | none ↦ edge_file rows ++ drop (length (edge_file rows)) out
        | some r ↦ out
      ]

unfoldable pub exported_of : Result ℕ Refusal → Exports
exported_of (Ok m) = written m
exported_of (Err r) = refused (number r)
