-- `wording::write_pass` meets its contract: the name, and behind it that the walk passes.
-- Assumes nothing.
use mathlib.Core.Path.{refl}
use native.Mathlib.Omega.{arith}
use Rattle.searches.specs.Kind.{Search, search_of}
use Rattle.wording.specs.Text.{bytes}
use Rattle.wording.specs.Sentence.{name, sentence}
use Rattle.wording.proofs.Writing.{Begun, begun_name, begun_room, begun_more, begun_whole}
use Rattle.wording.proofs.write_pass.Goals as goal
use Rattle.wording.proofs.write_pass.Goals.{After-put_name-name, Start}

abbrev own : Start → Search
own s = search_of s.args.kind.0

named : (c : After-put_name-name) → Begun c.args.output.now (name (own (goal.at.After-put_name-name c).Start)) c.put_name-name.new.output c.put_name-name.result 7
named c = begun_name c.args.output.now (own (goal.at.After-put_name-name c).Start) c.put_name-name.ensures.output c.put_name-name.ensures.end

pub put-requires : goal.put-requires
put-requires c =
    begun_room c.args.output.now c.requires.1 8 (named (goal.at.put-requires c).After-put_name-name) (omega arith)

pub returns : goal.returns
unfolding sentence bytes
returns c =
    let l = c.args.output.now in
    let s = name (own (goal.at.returns c).Start) in
    let whole = begun_whole l _ refl (begun_more l s (bytes " passes.") 8 (omega arith) (named (goal.at.returns c).After-put_name-name) c.put.ensures.output c.put.ensures.end) in
    record { output = whole.0; end = whole.1 }
