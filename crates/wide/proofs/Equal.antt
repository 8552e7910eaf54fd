-- What `==` and `!=` say: of two numbers, as the kinds of two searches, and of the answer of a comparison.
--   equal_told, unequal_told       `==` says that they are equal, or not
--   equal_asked, unequal_asked     `!=` does
--   same_ahead, same_level         the answer is that the first is ahead; that the two are level
-- Assumes nothing.
use Prim.Native.Nat.{ℕ}
use mathlib.Core.Path.{◌≡◌, refl, sym, ◌∙◌}
use mathlib.Core.Bool.{Bool, true, false, not}
use mathlib.Core.Logic.{◌≢◌}
use lib.Dec.{eqb, eqb→eq}
use denote.Enum.Bare.{sameb}
use Rattle.std.proofs.lemmas.Bool.{eqb-false}
use Rattle.bitset.proofs.Tests.{said_true, not_true, not_false}
use Rattle.searches.specs.Comparison.{is_ahead, is_level}
use Rattle.searches.specs.declared.Comparison.{Comparison}
use Rattle.searches.specs.contracts.Comparison.{the_type}

module _ {r : Bool} {x y : ℕ} where
  pub equal_told : r ≡ eqb x y → r ≡ true → x ≡ y
  equal_told e said = eqb→eq x y (said_true (eqb x y) e said)

  pub unequal_told : r ≡ eqb x y → r ≡ false → x ≢ y
  unequal_told e said = eqb-false x y (sym e ∙ said)

  pub equal_asked : r ≡ not (eqb x y) → r ≡ false → x ≡ y
  equal_asked e said = eqb→eq x y (said_true (eqb x y) refl (not_false (eqb x y) (sym e ∙ said)))

  pub unequal_asked : r ≡ not (eqb x y) → r ≡ true → x ≢ y
  unequal_asked e said = eqb-false x y (not_true (eqb x y) (sym e ∙ said))

pub same_ahead : (answer : Comparison) → sameb the_type answer Comparison.Ahead ≡ is_ahead answer
unfolding is_ahead
same_ahead Comparison.Ahead = refl
same_ahead Comparison.Behind = refl
same_ahead Comparison.Level = refl
same_ahead Comparison.Neither = refl

pub same_level : (answer : Comparison) → sameb the_type answer Comparison.Level ≡ is_level answer
unfolding is_level
same_level Comparison.Ahead = refl
same_level Comparison.Behind = refl
same_level Comparison.Level = refl
same_level Comparison.Neither = refl
