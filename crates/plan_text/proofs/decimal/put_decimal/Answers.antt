-- `plan_text::decimal::put_decimal` meets its contract: the digits before the last one, as far as they are written, and the last one.
-- Assumes nothing.
use mathlib.Core.Path.{refl, sym, ap, ◌∙◌}
use mathlib.Core.List.{List, [], ◌∷◌, ◌++◌}
use Prim.Native.Nat.{ℕ, ◌+◌, ◌/◌, ◌≤◌}
use native.Mathlib.Omega.{arith}
use lib.ListN.{length, set, length-set}
use lib.Seq.{sets}
use Rattle.fields.specs.Field.{ones}
use Rattle.wording.proofs.Writing.{Written, written_long, written_more}
use Rattle.plan_text.specs.Text.{shown}
use Rattle.plan_text.proofs.Digits.{decimal_shown}
use Rattle.plan_text.proofs.Writing.{piece_room, front_room}
use Rattle.plan_text.proofs.decimal.put_decimal.Goals as goal
use Rattle.plan_text.proofs.decimal.put_decimal.Goals.{After-put_unless_zero-hundreds, After-put_unless_zero-ones, After-put_unless_zero-tens, Start}

abbrev list_of : Start → List ℕ
list_of s = s.args.output.now

-- the digits, one after the other
abbrev text_1 : Start → List ℕ
text_1 s = shown (s.args.x / 10 / 10 / 10)

abbrev text_2 : Start → List ℕ
text_2 s = text_1 s ++ shown (s.args.x / 10 / 10)

abbrev text_3 : Start → List ℕ
text_3 s = text_2 s ++ shown (s.args.x / 10)

abbrev text_4 : Start → List ℕ
text_4 s = text_3 s ++ ones s.args.x ∷ []

-- there is room for them
room_4 : (s : Start) → s.args.at + length (text_4 s) ≤ length (list_of s)
room_4 s = omega (arith, s.requires.1, ap length (decimal_shown s.args.x s.requires.0))

room_3 : (s : Start) → s.args.at + length (text_3 s) ≤ length (list_of s)
room_3 s = front_room (list_of s) s.args.at (text_3 s) (ones s.args.x ∷ []) (room_4 s)

room_2 : (s : Start) → s.args.at + length (text_2 s) ≤ length (list_of s)
room_2 s = front_room (list_of s) s.args.at (text_2 s) (shown (s.args.x / 10)) (room_3 s)

written_1 : (c : After-put_unless_zero-hundreds)
    → Written (list_of (goal.at.After-put_unless_zero-hundreds c).Start) c.args.at (text_1 (goal.at.After-put_unless_zero-hundreds c).Start) c.put_unless_zero-hundreds.new.output c.put_unless_zero-hundreds.result
written_1 c = record { bytes = c.put_unless_zero-hundreds.ensures.output; place = c.put_unless_zero-hundreds.ensures.end }

written_2 : (c : After-put_unless_zero-tens)
    → Written (list_of (goal.at.After-put_unless_zero-tens c).Start) c.args.at (text_2 (goal.at.After-put_unless_zero-tens c).Start) c.put_unless_zero-tens.new.output c.put_unless_zero-tens.result
written_2 c =
    written_more (list_of (goal.at.After-put_unless_zero-tens c).Start) c.args.at (text_1 (goal.at.After-put_unless_zero-tens c).Start) (shown (c.args.x / 10 / 10)) (written_1 (goal.at.After-put_unless_zero-tens c).After-put_unless_zero-hundreds) c.put_unless_zero-tens.ensures.output
    c.put_unless_zero-tens.ensures.end

written_3 : (c : After-put_unless_zero-ones)
    → Written (list_of (goal.at.After-put_unless_zero-ones c).Start) c.args.at (text_3 (goal.at.After-put_unless_zero-ones c).Start) c.put_unless_zero-ones.new.output c.put_unless_zero-ones.result
written_3 c =
    written_more (list_of (goal.at.After-put_unless_zero-ones c).Start) c.args.at (text_2 (goal.at.After-put_unless_zero-ones c).Start) (shown (c.args.x / 10)) (written_2 (goal.at.After-put_unless_zero-ones c).After-put_unless_zero-tens) c.put_unless_zero-ones.ensures.output
    c.put_unless_zero-ones.ensures.end

pub put_unless_zero-hundreds-requires : goal.put_unless_zero-hundreds-requires
put_unless_zero-hundreds-requires c =
    front_room (list_of (goal.at.put_unless_zero-hundreds-requires c).Start) c.args.at (text_1 (goal.at.put_unless_zero-hundreds-requires c).Start) (shown (c.args.x / 10 / 10)) (room_2 (goal.at.put_unless_zero-hundreds-requires c).Start)

pub put_unless_zero-tens-requires : goal.put_unless_zero-tens-requires
put_unless_zero-tens-requires c =
    piece_room (list_of (goal.at.put_unless_zero-tens-requires c).Start) c.args.at (text_1 (goal.at.put_unless_zero-tens-requires c).Start) (shown (c.args.x / 10 / 10)) (written_1 (goal.at.put_unless_zero-tens-requires c).After-put_unless_zero-hundreds) (room_2 (goal.at.put_unless_zero-tens-requires c).Start)

pub put_unless_zero-ones-requires : goal.put_unless_zero-ones-requires
put_unless_zero-ones-requires c =
    piece_room (list_of (goal.at.put_unless_zero-ones-requires c).Start) c.args.at (text_2 (goal.at.put_unless_zero-ones-requires c).Start) (shown (c.args.x / 10)) (written_2 (goal.at.put_unless_zero-ones-requires c).After-put_unless_zero-tens) (room_3 (goal.at.put_unless_zero-ones-requires c).Start)

-- room for the last digit
last_room : (c : After-put_unless_zero-ones) → c.put_unless_zero-ones.result + 1 ≤ length c.put_unless_zero-ones.new.output
last_room c =
    piece_room (list_of (goal.at.After-put_unless_zero-ones c).Start) c.args.at (text_3 (goal.at.After-put_unless_zero-ones c).Start) (ones c.args.x ∷ []) (written_3 c) (room_4 (goal.at.After-put_unless_zero-ones c).Start)

pub bounds-output-ones : goal.bounds-output-ones
bounds-output-ones c = omega (arith, last_room (goal.at.bounds-output-ones c).After-put_unless_zero-ones)

pub overflow_add-result : goal.overflow_add-result
overflow_add-result c = omega (arith, last_room (goal.at.overflow_add-result c).After-put_unless_zero-ones)

pub shape_of-output : goal.shape_of-output
shape_of-output c =
    length-set c.put_unless_zero-ones.new.output c.put_unless_zero-ones.result c.ones_of.result ∙ written_long (list_of (goal.at.shape_of-output c).Start) c.args.at (written_3 (goal.at.shape_of-output c).After-put_unless_zero-ones)

pub returns : goal.returns
returns c =
    let is = sym (decimal_shown c.args.x c.requires.0) in
    let last = ap (λ (d : ℕ). set c.put_unless_zero-ones.new.output c.put_unless_zero-ones.result d) c.ones_of.ensures in
    let w = written_more (list_of (goal.at.returns c).Start) c.args.at (text_3 (goal.at.returns c).Start) (ones c.args.x ∷ []) (written_3 (goal.at.returns c).After-put_unless_zero-ones) last refl in record {
      output = w.bytes ∙ ap (λ (b : List ℕ). sets (list_of (goal.at.returns c).Start) c.args.at b) is;
      end = w.place ∙ ap (λ (b : List ℕ). c.args.at + length b) is;
    }
