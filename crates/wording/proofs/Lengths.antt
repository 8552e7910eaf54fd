-- How long sentences are.
--   failure_length      of a walk that fails, by the lengths of the name and of the numbers
--   sentence_fits       at most 54 bytes where the numbers of the points fit in a byte,
--   sentence_longest    at most 50 where they are below 64
-- Assumes nothing.
use mathlib.Core.Path.{◌≡◌}
use Prim.Native.Nat.{ℕ, ◌+◌, ◌≤◌, ◌<◌}
use native.Mathlib.Omega.{arith}
use lib.ListN.{length, length-append}
use Rattle.searches.specs.Kind.{Search}
use Rattle.searches.specs.Violation.{Verdict, passes, fails, refused}
use Rattle.wording.specs.Text.{bytes}
use Rattle.wording.specs.Decimal.{decimal}
use Rattle.wording.specs.Sentence.{name, sentence, PointsBelow}
use Rattle.wording.proofs.Decimals.{short_two, short_three}
use Rattle.wording.proofs.Named.{name_short}

failure_length : (s : Search) (a b c : ℕ)
    → length (sentence s (fails a b c)) ≡ length (name s) + (10 + (length (decimal b) + (2 + (length (decimal a) + (10 + (length (decimal c) + (12 + (length (decimal b) + 1))))))))
unfolding sentence bytes
failure_length s a b c = simp length-append (omega arith)

-- by how many digits a number below m can have
within : (m k : ℕ) → ((x : ℕ) → x < m → length (decimal x) ≤ k) → (s : Search) (v : Verdict) → PointsBelow m v → length (sentence s v) ≤ 42 + (k + (k + (k + k)))
unfolding sentence bytes
within m k short s passes p = simp length-append (omega (arith, name_short s))
within m k short s (fails a b c) p = omega (arith, failure_length s a b c, name_short s, short a p.0, short b p.1, short c p.2)
within m k short s (refused r) p = omega arith

pub sentence_fits : (s : Search) (v : Verdict) → PointsBelow 256 v → length (sentence s v) ≤ 54
sentence_fits = within 256 3 (λ x l. short_three x (omega arith))

pub sentence_longest : (s : Search) (v : Verdict) → PointsBelow 64 v → length (sentence s v) ≤ 50
sentence_longest = within 64 2 (λ x l. short_two x (omega arith))
