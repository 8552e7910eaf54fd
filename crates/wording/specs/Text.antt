-- Texts as lists of bytes.
--   bytes text     the bytes of a text, the number of each character: one byte each where all are ASCII, as here
use Rattle.std.specs.Prelude.{ℕ, List, [] as nil, ◌∷◌ as ◌then◌}
use Prim.Native.Char.{code}
use Prim.Native.String.{String, [], ◌∷◌}

unfoldable pub bytes : String → List ℕ
bytes [] = nil
bytes (c ∷ text) = code c then bytes text
