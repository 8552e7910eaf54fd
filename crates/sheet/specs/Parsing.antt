-- What the lines of a sheet come to, one after the other. b is the list of the sheet's bytes, i an offset in it.
--   blank                     what is parsed before line 1
--   advanced g, advanced_by g j     one line, and j lines, read through the reader of g
--   step b s, steps b j s     the same on an offset and what the lines before it come to
--   parsed_of b                what the whole sheet comes to
--   parsed_tests p, parsed_answer p     what is refused of what a sheet comes to, in 01's order; the first that applies
--   parsed_line answer p       the line of an 11, counted from 1, else 0
--   Readable p                the count of lines is small, the ordering has 64 entries, and where all is sound and no place is outside, the places are points
use Rattle.std.specs.Prelude.{ℕ, zero, suc, ◌+◌, ◌<◌, ◌≤◌, ◌≡◌, Bool, true, false, cond, not, List, [], ◌∷◌, T, ltb, eqb, length, replicate}
use Rattle.std.proofs.Math.Option.{Option, none, some}
use Rattle.searches.specs.Ordering.{at}
use Rattle.searches.specs.Answer.{repeated, first_refusal}
use Rattle.lines.specs.Line.{next_line}
use Rattle.lines.specs.declared.Parsed.{Parsed}
use Rattle.sheet.specs.declared.reader.Progress.{Progress}

abbrev pub blank : Parsed
blank =
    record {
      good = 0;
      sound = true;
      width = 0;
      rest = 0;
      content = record { n = 0; m = 0; k = 0; from = 0; to = 0; outside = false; rows = replicate 64 0; ordering = replicate 64 0 };
    }

-- ---- many lines

abbrev pub advanced : Progress → Progress
advanced g =
    record {
      reader = record { sheet = g.reader.sheet; at = g.reader.at + (next_line g.reader.sheet.now g.reader.at g.parsed).width };
      parsed = next_line g.reader.sheet.now g.reader.at g.parsed;
    }

unfoldable pub advanced_by : Progress → ℕ → Progress
advanced_by g zero = g
advanced_by g (suc j) = let r = advanced_by g j in advanced r

-- the same on an offset and what the lines before it come to
unfoldable pub step : List ℕ → ℕ × Parsed → ℕ × Parsed
step b s = let p = next_line b s.0 s.1 in (s.0 + p.width, p)

unfoldable pub steps : List ℕ → ℕ → ℕ × Parsed → ℕ × Parsed
steps b zero s = s
steps b (suc j) s = let r = steps b j s in step b r

unfoldable pub parsed_of : List ℕ → Parsed
parsed_of b = let first = steps b 1 (0, blank) in (steps b first.1.rest first).1

-- ---- the answer

unfoldable pub parsed_tests : Parsed → List (ℕ × Bool)
parsed_tests p =
    (11, eqb p.good 0)
    ∷ (2, ltb 64 p.content.n)
    ∷ (6, ltb p.content.n p.content.k)
    ∷ (11, not p.sound)
    ∷ (8, p.content.outside)
    ∷ (9, repeated p.content.ordering p.content.k)
    ∷ []

unfoldable pub parsed_answer : Parsed → Option ℕ
parsed_answer p = first_refusal (parsed_tests p)

unfoldable pub parsed_line : Option ℕ → Parsed → ℕ
parsed_line none p = 0
parsed_line (some r) p = cond (eqb r 11) (p.good + 1) 0

-- ---- what is asked

pub record Readable (p : Parsed) : Type 0 where
  pub counted : p.good < 30000
  pub room : length p.content.ordering ≡ 64
  pub points : T p.sound → (p.content.outside ≡ false) → (p.content.k ≤ 64) × ((q : ℕ) → q < p.content.k → at p.content.ordering q < 64)
