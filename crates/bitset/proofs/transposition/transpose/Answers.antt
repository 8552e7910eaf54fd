-- `bitset::transposition::transpose` meets its contract: after the round with stride s the square is turned in blocks of s.
-- Assumes nothing.
use mathlib.Core.Path.{refl}
use native.Mathlib.Omega.{arith}
use Rattle.bitset.specs.Below.{any_below, differ}
use Rattle.bitset.specs.Word.{member}
use Rattle.bitset.specs.Matrix.{Stride}
use Rattle.bitset.proofs.Rounds.{stride, Turned, turned_start, turned_next, turned_end, turned_confined}
use Rattle.bitset.proofs.transposition.transpose.Goals as goal
use Rattle.bitset.proofs.transposition.transpose.Goals.{After-exchange_round, After-exchange_round-2, After-exchange_round-3, After-exchange_round-4, After-exchange_round-5, After-exchange_round-6}

stride_32 : Stride 32 4294967295
unfolding any_below differ member
stride_32 = stride 32 4294967295 (omega arith) (omega arith) refl refl

stride_16 : Stride 16 281470681808895
unfolding any_below differ member
stride_16 = stride 16 281470681808895 (omega arith) (omega arith) refl refl

stride_8 : Stride 8 71777214294589695
unfolding any_below differ member
stride_8 = stride 8 71777214294589695 (omega arith) (omega arith) refl refl

stride_4 : Stride 4 1085102592571150095
unfolding any_below differ member
stride_4 = stride 4 1085102592571150095 (omega arith) (omega arith) refl refl

stride_2 : Stride 2 3689348814741910323
unfolding any_below differ member
stride_2 = stride 2 3689348814741910323 (omega arith) (omega arith) refl refl

stride_1 : Stride 1 6148914691236517205
unfolding any_below differ member
stride_1 = stride 1 6148914691236517205 (omega arith) (omega arith) refl refl

pub exchange_round-requires : goal.exchange_round-requires
exchange_round-requires c = (c.requires.0, stride_32, turned_confined (turned_start c.args.words.now) c.requires.1)

turned_32 : (c : After-exchange_round) → Turned 32 c.args.words.now c.exchange_round.new.words
turned_32 c = turned_next stride_32 (turned_start c.args.words.now) c.exchange_round.ensures

pub exchange_round-requires-2 : goal.exchange_round-requires-2
exchange_round-requires-2 c = (c.requires.0, stride_16, turned_confined (turned_32 (goal.at.exchange_round-requires-2 c).After-exchange_round) c.requires.1)

turned_16 : (c : After-exchange_round-2) → Turned 16 c.args.words.now c.exchange_round-2.new.words
turned_16 c = turned_next stride_16 (turned_32 (goal.at.After-exchange_round-2 c).After-exchange_round) c.exchange_round-2.ensures

pub exchange_round-requires-3 : goal.exchange_round-requires-3
exchange_round-requires-3 c = (c.requires.0, stride_8, turned_confined (turned_16 (goal.at.exchange_round-requires-3 c).After-exchange_round-2) c.requires.1)

turned_8 : (c : After-exchange_round-3) → Turned 8 c.args.words.now c.exchange_round-3.new.words
turned_8 c = turned_next stride_8 (turned_16 (goal.at.After-exchange_round-3 c).After-exchange_round-2) c.exchange_round-3.ensures

pub exchange_round-requires-4 : goal.exchange_round-requires-4
exchange_round-requires-4 c = (c.requires.0, stride_4, turned_confined (turned_8 (goal.at.exchange_round-requires-4 c).After-exchange_round-3) c.requires.1)

turned_4 : (c : After-exchange_round-4) → Turned 4 c.args.words.now c.exchange_round-4.new.words
turned_4 c = turned_next stride_4 (turned_8 (goal.at.After-exchange_round-4 c).After-exchange_round-3) c.exchange_round-4.ensures

pub exchange_round-requires-5 : goal.exchange_round-requires-5
exchange_round-requires-5 c = (c.requires.0, stride_2, turned_confined (turned_4 (goal.at.exchange_round-requires-5 c).After-exchange_round-4) c.requires.1)

turned_2 : (c : After-exchange_round-5) → Turned 2 c.args.words.now c.exchange_round-5.new.words
turned_2 c = turned_next stride_2 (turned_4 (goal.at.After-exchange_round-5 c).After-exchange_round-4) c.exchange_round-5.ensures

pub exchange_round-requires-6 : goal.exchange_round-requires-6
exchange_round-requires-6 c = (c.requires.0, stride_1, turned_confined (turned_2 (goal.at.exchange_round-requires-6 c).After-exchange_round-5) c.requires.1)

turned_1 : (c : After-exchange_round-6) → Turned 1 c.args.words.now c.exchange_round-6.new.words
turned_1 c = turned_next stride_1 (turned_2 (goal.at.After-exchange_round-6 c).After-exchange_round-5) c.exchange_round-6.ensures

pub returns : goal.returns
returns c = turned_end (turned_1 c)
