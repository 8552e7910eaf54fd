-- Two unplaced vertices of an open walk compared: what is refused, and the answer for every state and every two numbers.
--   compare_tests t u v              what is refused: numbers and tests in 02's order, each on both vertices       [02: K6, K8]
--   Comparable t u v                what is not refused, condition by condition
--   stance t u v                    how u's label stands to v's after the walk, in the graph without the barred   [02: K6, K8]
--   Report                          told x: the answer x; refused r: the refusal with number r
--   reported refusal x              the refusal where there is one, else the answer x
--   compare_answer t u v             what is answered                                                              [02: K6]
--   report_of                        an answer of the code as 02's number or the answer told
use Rattle.std.specs.Prelude.{ℕ, ◌<◌, Bool, not, ◌||◌, List, [], ◌∷◌, T, leb, Result, Ok, Err}
use Rattle.std.proofs.Math.Option.{Option, none, some}
use Rattle.bitset.specs.Word.{member}
use Rattle.searches.specs.Kind.{search_of}
use Rattle.searches.specs.Ordering.{arcs, placed}
use Rattle.searches.specs.Without.{compared_without}
use Rattle.searches.specs.Answer.{first_refusal, unbarred, number}
use Rattle.searches.specs.declared.Refusal.{Refusal}
use Rattle.searches.specs.declared.Comparison.{Comparison}
use Rattle.traversal.specs.declared.Traversal.{Traversal}
use Rattle.traversal.specs.State.{plan, walk, well_formed}

module _ (t : Traversal) (u v : ℕ) where
  unfoldable pub compare_tests : List (ℕ × Bool)
  compare_tests =
      (13, not (well_formed t))
      ∷ (8, leb t.n u || leb t.n v)
      ∷ (24, member t.barred u || member t.barred v)
      ∷ (15, placed (walk t) t.k u || placed (walk t) t.k v)
      ∷ []

  pub record Comparable : Type 0 where
    -- the open walk is well formed
    pub formed : T (well_formed t)
    -- both are points of the plan
    pub first_vertex : u < t.n
    pub second_vertex : v < t.n
    -- neither is barred
    pub first_unbarred : T (member t.barred u) → ⊥
    pub second_unbarred : T (member t.barred v) → ⊥
    -- and neither is placed
    pub first_unplaced : T (placed (walk t) t.k u) → ⊥
    pub second_unplaced : T (placed (walk t) t.k v) → ⊥

  unfoldable pub stance : Comparison
  stance = compared_without (search_of t.kind.0) (arcs (plan t)) t.n (unbarred t.barred) (walk t) t.k u v

pub data Report : Type 0 where
  told : Comparison → Report
  refused : ℕ → Report

unfoldable pub reported : Option ℕ → Comparison → Report
reported none x = told x
reported (some r) x = refused r

unfoldable pub compare_answer : Traversal → ℕ → ℕ → Report
compare_answer t u v = reported (first_refusal (compare_tests t u v)) (stance t u v)

unfoldable pub report_of : Result Comparison Refusal → Report
report_of (Ok x) = told x
report_of (Err r) = refused (number r)
