-- A DIMACS edge file from the writer's side, and which links its lines say.                                              [02: K13]
--   Draws b n es         b is a file of a plan with n points: its lines are comments, one p line with n and as many links as there are in es, and behind it
--                        the lines es, links between points from 1 to n
--   SaysLink u v ls      one of these lines says the link between the vertices u and v, counted from 0, one way round or the other
use Rattle.std.specs.Prelude.{ℕ, suc, ◌≡◌, ◌⊎◌, List, [], ◌∷◌, T, length}
use Rattle.edge_lines.specs.Writing.{IsFile}
use Rattle.edge_lines.specs.declared.Line.{Line}
use Rattle.dimacs.specs.Import.{uncommented, every, is_edge}

pub record Draws (b : List ℕ) (n : ℕ) (es : List Line) : Type 0 where
  pub lines : List Line
  pub file : IsFile lines b
  pub said : uncommented lines ≡ Line.Problem n (length es) ∷ es
  pub links : T (every (is_edge n) es)

abbrev pub SaysLink : ℕ → ℕ → List Line → Type 0
SaysLink u v [] = ⊥
SaysLink u v (Line.Comment ∷ ls) = SaysLink u v ls
SaysLink u v (Line.Problem n m ∷ ls) = SaysLink u v ls
SaysLink u v (Line.Edge x y ∷ ls) = (((x ≡ suc u) × (y ≡ suc v)) ⊎ ((x ≡ suc v) × (y ≡ suc u))) ⊎ SaysLink u v ls
SaysLink u v (Line.Other ∷ ls) = SaysLink u v ls
