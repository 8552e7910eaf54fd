-- `checks::number::number` meets its contract: a refusal's discriminant is its number.
-- Assumes nothing.
use mathlib.Core.Path.{◌≡◌, refl}
use Prim.Native.Nat.{◌+◌}
use denote.Enum.Declared.{tag_of}
use Rattle.searches.specs.contracts.Refusal.{the_type}
use Rattle.searches.specs.Answer.{number}
use Rattle.searches.specs.declared.Refusal.{Refusal}
use Rattle.checks.proofs.number.number.Goals as goal

numbered : (refusal : Refusal) → tag_of the_type refusal + 1 ≡ number refusal
unfolding number
numbered Refusal.UnknownKind = refl
numbered Refusal.TooManyVertices = refl
numbered Refusal.ArcOutOfRange = refl
numbered Refusal.SelfLoop = refl
numbered Refusal.OneWayArc = refl
numbered Refusal.OrderingTooLong = refl
numbered Refusal.TieBreakLength = refl
numbered Refusal.VertexOutOfRange = refl
numbered Refusal.RepeatedVertex = refl
numbered Refusal.OutputTooShort = refl
numbered Refusal.MalformedSheet = refl
numbered Refusal.StartFails = refl
numbered Refusal.MalformedTraversal = refl
numbered Refusal.AllPlaced = refl
numbered Refusal.AlreadyPlaced = refl
numbered Refusal.NotOffered = refl
numbered Refusal.NothingToTakeBack = refl
numbered Refusal.MalformedMinutes = refl
numbered Refusal.RateTooHigh = refl
numbered Refusal.OrderingFails = refl
numbered Refusal.NotBreadthFirst = refl
numbered Refusal.NotPlaced = refl
numbered Refusal.BarredOutOfRange = refl
numbered Refusal.BarredVertex = refl
numbered Refusal.OneWayGraph = refl
numbered Refusal.MalformedLists = refl
numbered Refusal.MalformedFile = refl

pub returns : goal.returns
returns c = numbered c.args.refusal
