-- What the lines of a DIMACS edge file come to, one after the other, as the code keeps it.
--   blank                    before the first line
--   broken d                 stopped at a line that may not stand there
--   begun n m d, linked u v d      with the p line, with a link
--   added l d                with one line more;   read_on d ls   with these lines, up to one that may not stand there
--   capped_lines ls           the lines with their numbers capped
--   drawing_tests d size      what is refused of what a file came to, in 02's order
--   Drawable d               there is room for one link more
use Rattle.std.specs.Prelude.{ℕ, ◌+◌, ◌-◌, ◌≤◌, ◌<◌, ◌≡◌, Bool, true, false, cond, not, ◌&&◌, ◌||◌, List, [], ◌∷◌, ltb, leb, eqb, length, replicate}
use Rattle.lines.specs.Line.{joined}
use Rattle.edge_lines.specs.Reading.{most, capped_line}
use Rattle.edge_lines.specs.declared.Line.{Line}
use Rattle.dimacs.specs.Import.{is_point}
use Rattle.dimacs.specs.declared.draw.Drawing.{Drawing}

abbrev pub blank : Drawing
blank = record { headed = false; sound = true; n = 0; m = 0; edges = 0; looped = false; rows = replicate 64 0 }

unfoldable pub broken : Drawing → Drawing
broken d = record { headed = d.headed; sound = false; n = d.n; m = d.m; edges = d.edges; looped = d.looped; rows = d.rows }

unfoldable pub begun : ℕ → ℕ → Drawing → Drawing
begun n m d =
    cond d.headed (broken d)
    (record { headed = true; sound = leb n 64; n = n; m = m; edges = d.edges; looped = d.looped; rows = d.rows })

-- vertices are counted from 0
unfoldable pub linked : ℕ → ℕ → Drawing → Drawing
linked u v d =
    cond (is_point d.n u && is_point d.n v)
    (record {
      headed = d.headed;
      sound = d.sound;
      n = d.n;
      m = d.m;
      edges = d.edges + 1;
      looped = d.looped || eqb u v;
      rows = joined (u - 1) (v - 1) d.rows;
    }) (broken d)

unfoldable pub added : Line → Drawing → Drawing
added Line.Comment d = d
added (Line.Problem n m) d = begun n m d
added (Line.Edge u v) d = linked u v d
added Line.Other d = broken d

unfoldable pub read_on : Drawing → List Line → Drawing
read_on d [] = d
read_on d (l ∷ ls) = let rest = read_on (added l d) ls in cond d.sound rest d

unfoldable pub capped_lines : List Line → List Line
capped_lines [] = []
capped_lines (l ∷ ls) = capped_line l ∷ capped_lines ls

unfoldable pub drawing_tests : Drawing → ℕ → List (ℕ × Bool)
drawing_tests d size =
    (27, not d.headed)
    ∷ (2, ltb 64 d.n)
    ∷ (27, not (d.sound && eqb d.edges d.m))
    ∷ (4, d.looped)
    ∷ (10, ltb size d.n)
    ∷ []

pub record Drawable (d : Drawing) : Type 0 where
  pub small : d.n ≤ 64
  pub few : d.edges < most
  pub room : length d.rows ≡ 64
