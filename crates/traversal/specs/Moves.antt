-- Placings and takings back, one after the other, and the walk that they leave.
--   Move                          placing v, or taking back
--   moved t m, after t moves      the open walk that a call hands back; that a list of calls does, refused ones among them
--   front w                       w without its last vertex
--   remains s arc n kept w m      what is left of w after one call, the call refused or not, where only the kept vertices are in service
--   remaining s arc n kept w moves   of w and what is placed behind it, the vertices not taken back, in order; a placing of a vertex
--                                 that is not offered adds none
--   holding kind mark rows barred w   the open walk of this kind and mark that has these rows and barred vertices, holds w, and is 0 behind both
--   last_offered t b               the offered vertex that stands last in the tie-break b
--   following m t b               the open walk after m placings of that vertex
use Rattle.std.specs.Prelude.{ℕ, zero, suc, ◌-◌, Bool, cond, List, [], ◌∷◌, ◌++◌, length, take, replicate}
use Rattle.bitset.specs.Below.{last_below}
use Rattle.bitset.specs.Word.{member}
use Rattle.searches.specs.Kind.{Search}
use Rattle.searches.specs.Ordering.{at}
use Rattle.searches.specs.Without.{offered_without}
use Rattle.searches.specs.declared.Mark.{Mark}
use Rattle.traversal.specs.declared.Traversal.{Traversal}
use Rattle.traversal.specs.State.{state, offered_set, grown, shrunk}

pub data Move : Type 0 where
  placing : ℕ → Move
  taking_back : Move

unfoldable pub moved : Traversal → Move → Traversal
moved t (placing v) = grown t v
moved t taking_back = shrunk t

unfoldable pub after : Traversal → List Move → Traversal
after t [] = t
after t (m ∷ moves) = after (moved t m) moves

unfoldable pub front : List ℕ → List ℕ
front w = take (length w - 1) w

module _ (s : Search) (arc : ℕ → ℕ → Bool) (n : ℕ) (kept : ℕ → Bool) where
  unfoldable pub remains : List ℕ → Move → List ℕ
  remains w (placing v) = cond (offered_without s arc n kept w (length w) v) (w ++ v ∷ []) w
  remains w taking_back = front w

  unfoldable pub remaining : List ℕ → List Move → List ℕ
  remaining w [] = w
  remaining w (m ∷ moves) = remaining (remains w m) moves

unfoldable pub holding : ℕ → Mark → List ℕ → ℕ → List ℕ → Traversal
holding kind mark rows barred w =
    state (record { 0 = kind }) mark (length rows) (rows ++ replicate (64 - length rows) 0) barred (length w) (w ++ replicate (64 - length w) 0)

unfoldable pub last_offered : Traversal → List ℕ → ℕ
last_offered t b = at b (last_below (length b) (λ q. member (offered_set t) (at b q)))

unfoldable pub following : ℕ → Traversal → List ℕ → Traversal
following zero t b = t
following (suc m) t b = following m (grown t (last_offered t b)) b
