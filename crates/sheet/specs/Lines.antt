-- What is read of the lines of a sheet.
--   beyond n b j              the number in the line of place j is no point
--   placed_bytes b k           64 bytes: the first k places, each by its lowest byte, and 0 behind them
--   held_in b                  what is read of a sheet: all that it holds, or nothing where it is refused;   held_unless   the same by the answer
--   nothing_held               no vertices, and no places
use Rattle.std.specs.Prelude.{ℕ, zero, suc, ◌%◌, Bool, List, leb, set, replicate}
use Rattle.std.proofs.Math.Option.{Option, none, some}
use Rattle.sheet.specs.Sheet.{points_of, links_of, places_of, joined_rows, place_at, read_answer}
use Rattle.sheet.specs.declared.read.Held.{Held}

unfoldable pub beyond : ℕ → List ℕ → ℕ → Bool
beyond n b j = leb n (place_at b j)

unfoldable pub placed_bytes : List ℕ → ℕ → List ℕ
placed_bytes b zero = replicate 64 0
placed_bytes b (suc j) = let rest = placed_bytes b j in set rest j (place_at b j % 256)

unfoldable pub held_unless : Option ℕ → List ℕ → Held
held_unless none b = record { n = points_of b; rows = joined_rows b (links_of b); k = places_of b; ordering = placed_bytes b (places_of b) }
held_unless (some r) b = record { n = 0; rows = replicate 64 0; k = 0; ordering = replicate 64 0 }

unfoldable pub nothing_held : Held
nothing_held = record { n = 0; rows = replicate 64 0; k = 0; ordering = replicate 64 0 }

unfoldable pub held_in : List ℕ → Held
held_in b = held_unless (read_answer b) b
