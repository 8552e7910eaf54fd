-- `plan_text::decimal::put_pair` meets its contract: the pieces of the line, one behind the other.
-- Assumes nothing.
use mathlib.Core.Path.{ap, ◌∙◌}
use mathlib.Core.List.{List, [], ◌∷◌, ◌++◌}
use Prim.Native.Nat.{ℕ, ◌+◌, ◌≤◌}
use native.Mathlib.Omega.{arith}
use lib.ListN.{length}
use lib.Seq.{sets}
use Rattle.wording.specs.Decimal.{decimal}
use Rattle.wording.proofs.Writing.{Written, written_more}
use Rattle.plan_text.proofs.Writing.{piece_room, front_room, pair_pieces}
use Rattle.plan_text.proofs.decimal.put_pair.Goals as goal
use Rattle.plan_text.proofs.decimal.put_pair.Goals.{After-put-first, After-put-second, After-put_decimal-end, After-put_decimal-gap, Start}

abbrev list_of : Start → List ℕ
list_of s = s.args.output.now

abbrev words_of : Start → List ℕ
words_of s = s.args.words.now

-- what is written, piece by piece
abbrev text_1 : Start → List ℕ
text_1 s = words_of s ++ decimal s.args.x

abbrev text_2 : Start → List ℕ
text_2 s = text_1 s ++ (32 ∷ [])

abbrev text_3 : Start → List ℕ
text_3 s = text_2 s ++ decimal s.args.y

abbrev text_4 : Start → List ℕ
text_4 s = text_3 s ++ (10 ∷ [])

-- there is room for it
room_4 : (s : Start) → s.args.at + length (text_4 s) ≤ length (list_of s)
room_4 s = omega (arith, s.requires.2, ap length (pair_pieces (words_of s) s.args.x s.args.y))

room_3 : (s : Start) → s.args.at + length (text_3 s) ≤ length (list_of s)
room_3 s = front_room (list_of s) s.args.at (text_3 s) (10 ∷ []) (room_4 s)

room_2 : (s : Start) → s.args.at + length (text_2 s) ≤ length (list_of s)
room_2 s = front_room (list_of s) s.args.at (text_2 s) (decimal s.args.y) (room_3 s)

room_1 : (s : Start) → s.args.at + length (text_1 s) ≤ length (list_of s)
room_1 s = front_room (list_of s) s.args.at (text_1 s) (32 ∷ []) (room_2 s)

written_0 : (c : After-put-first) → Written (list_of (goal.at.After-put-first c).Start) c.args.at (words_of (goal.at.After-put-first c).Start) c.put-first.new.output c.put-first.result
written_0 c = record { bytes = c.put-first.ensures.output; place = c.put-first.ensures.end }

written_1 : (c : After-put_decimal-gap) → Written (list_of (goal.at.After-put_decimal-gap c).Start) c.args.at (text_1 (goal.at.After-put_decimal-gap c).Start) c.put_decimal-gap.new.output c.put_decimal-gap.result
written_1 c =
    written_more (list_of (goal.at.After-put_decimal-gap c).Start) c.args.at (words_of (goal.at.After-put_decimal-gap c).Start) (decimal c.args.x) (written_0 (goal.at.After-put_decimal-gap c).After-put-first) c.put_decimal-gap.ensures.output c.put_decimal-gap.ensures.end

written_2 : (c : After-put-second) → Written (list_of (goal.at.After-put-second c).Start) c.args.at (text_2 (goal.at.After-put-second c).Start) c.put-second.new.output c.put-second.result
written_2 c =
    written_more (list_of (goal.at.After-put-second c).Start) c.args.at (text_1 (goal.at.After-put-second c).Start) (32 ∷ []) (written_1 (goal.at.After-put-second c).After-put_decimal-gap) c.put-second.ensures.output c.put-second.ensures.end

written_3 : (c : After-put_decimal-end) → Written (list_of (goal.at.After-put_decimal-end c).Start) c.args.at (text_3 (goal.at.After-put_decimal-end c).Start) c.put_decimal-end.new.output c.put_decimal-end.result
written_3 c =
    written_more (list_of (goal.at.After-put_decimal-end c).Start) c.args.at (text_2 (goal.at.After-put_decimal-end c).Start) (decimal c.args.y) (written_2 (goal.at.After-put_decimal-end c).After-put-second) c.put_decimal-end.ensures.output c.put_decimal-end.ensures.end

pub put-first-requires : goal.put-first-requires
put-first-requires c =
    front_room (list_of (goal.at.put-first-requires c).Start) c.args.at (words_of (goal.at.put-first-requires c).Start) (decimal c.args.x) (room_1 (goal.at.put-first-requires c).Start)

pub put_decimal-gap-requires : goal.put_decimal-gap-requires
put_decimal-gap-requires c =
    (c.requires.0, piece_room (list_of (goal.at.put_decimal-gap-requires c).Start) c.args.at (words_of (goal.at.put_decimal-gap-requires c).Start) (decimal c.args.x) (written_0 (goal.at.put_decimal-gap-requires c).After-put-first) (room_1 (goal.at.put_decimal-gap-requires c).Start))

pub put-second-requires : goal.put-second-requires
put-second-requires c =
    piece_room (list_of (goal.at.put-second-requires c).Start) c.args.at (text_1 (goal.at.put-second-requires c).Start) (32 ∷ []) (written_1 (goal.at.put-second-requires c).After-put_decimal-gap) (room_2 (goal.at.put-second-requires c).Start)

pub put_decimal-end-requires : goal.put_decimal-end-requires
put_decimal-end-requires c =
    (c.requires.1, piece_room (list_of (goal.at.put_decimal-end-requires c).Start) c.args.at (text_2 (goal.at.put_decimal-end-requires c).Start) (decimal c.args.y) (written_2 (goal.at.put_decimal-end-requires c).After-put-second) (room_3 (goal.at.put_decimal-end-requires c).Start))

pub put-requires : goal.put-requires
put-requires c =
    piece_room (list_of (goal.at.put-requires c).Start) c.args.at (text_3 (goal.at.put-requires c).Start) (10 ∷ []) (written_3 (goal.at.put-requires c).After-put_decimal-end) (room_4 (goal.at.put-requires c).Start)

pub returns : goal.returns
returns c =
    let is = pair_pieces (words_of (goal.at.returns c).Start) c.args.x c.args.y in
    let w = written_more (list_of (goal.at.returns c).Start) c.args.at (text_3 (goal.at.returns c).Start) (10 ∷ []) (written_3 (goal.at.returns c).After-put_decimal-end) c.put.ensures.output c.put.ensures.end in record {
      output = w.bytes ∙ ap (λ (b : List ℕ). sets (list_of (goal.at.returns c).Start) c.args.at b) is;
      end = w.place ∙ ap (λ (b : List ℕ). c.args.at + length b) is;
    }
