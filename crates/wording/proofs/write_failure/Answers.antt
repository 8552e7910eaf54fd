-- `wording::write_failure` meets its contract: the name, and behind it the clauses of the sentence.
-- Assumes nothing.
use mathlib.Core.List.{List, ◌++◌}
use Prim.Native.Nat.{ℕ, ◌<◌}
use native.Mathlib.Omega.{arith}
use borrow.Author.Rules.{rules}
use Rattle.searches.specs.Kind.{Search, search_of}
use Rattle.wording.specs.Text.{bytes}
use Rattle.wording.specs.Decimal.{decimal}
use Rattle.wording.specs.Sentence.{name}
use Rattle.wording.proofs.Writing.{Begun, begun_name, begun_room, begun_more, begun_whole, clause_short, clauses_whole}
use Rattle.wording.proofs.write_failure.Goals as goal
use Rattle.wording.proofs.write_failure.Goals.{After-put_clause-again, After-put_clause-first, After-put_clause-last, After-put_clause-middle, After-put_name-name, Start}

abbrev own : Start → Search
own s = search_of s.args.kind.0

-- the numbers of the vertices fit in a byte
fits : (s : Start) → (s.args.violation.a.0 < 256) × (s.args.violation.b.0 < 256) × (s.args.violation.c.0 < 256)
fits s = search rules

-- what is written: the name, then clause by clause
abbrev text_1 : Start → List ℕ
text_1 s = name (own s) ++ (bytes " fails at " ++ decimal s.args.violation.b.0)

abbrev text_2 : Start → List ℕ
text_2 s = text_1 s ++ (bytes ": " ++ decimal s.args.violation.a.0)

abbrev text_3 : Start → List ℕ
text_3 s = text_2 s ++ (bytes " leads to " ++ decimal s.args.violation.c.0)

abbrev text_4 : Start → List ℕ
text_4 s = text_3 s ++ (bytes " and not to " ++ decimal s.args.violation.b.0)

begun_0 : (c : After-put_name-name) → Begun c.args.output.now (name (own (goal.at.After-put_name-name c).Start)) c.put_name-name.new.output c.put_name-name.result 7
begun_0 c = begun_name c.args.output.now (own (goal.at.After-put_name-name c).Start) c.put_name-name.ensures.output c.put_name-name.ensures.end

begun_1 : (c : After-put_clause-middle)
    → Begun c.args.output.now (text_1 (goal.at.After-put_clause-middle c).Start) c.put_clause-middle.new.output c.put_clause-middle.result 20
unfolding bytes
begun_1 c =
    let x = c.args.violation.b.0 in
    begun_more c.args.output.now (name (own (goal.at.After-put_clause-middle c).Start)) (bytes " fails at " ++ decimal x) 13 (clause_short (bytes " fails at ") x (fits (goal.at.After-put_clause-middle c).Start).1) (begun_0 (goal.at.After-put_clause-middle c).After-put_name-name) c.put_clause-middle.ensures.output
    c.put_clause-middle.ensures.end

begun_2 : (c : After-put_clause-first)
    → Begun c.args.output.now (text_2 (goal.at.After-put_clause-first c).Start) c.put_clause-first.new.output c.put_clause-first.result 25
unfolding bytes
begun_2 c =
    let x = c.args.violation.a.0 in
    begun_more c.args.output.now (text_1 (goal.at.After-put_clause-first c).Start) (bytes ": " ++ decimal x) 5 (clause_short (bytes ": ") x (fits (goal.at.After-put_clause-first c).Start).0) (begun_1 (goal.at.After-put_clause-first c).After-put_clause-middle) c.put_clause-first.ensures.output
    c.put_clause-first.ensures.end

begun_3 : (c : After-put_clause-last)
    → Begun c.args.output.now (text_3 (goal.at.After-put_clause-last c).Start) c.put_clause-last.new.output c.put_clause-last.result 38
unfolding bytes
begun_3 c =
    let x = c.args.violation.c.0 in
    begun_more c.args.output.now (text_2 (goal.at.After-put_clause-last c).Start) (bytes " leads to " ++ decimal x) 13 (clause_short (bytes " leads to ") x (fits (goal.at.After-put_clause-last c).Start).2) (begun_2 (goal.at.After-put_clause-last c).After-put_clause-first) c.put_clause-last.ensures.output
    c.put_clause-last.ensures.end

begun_4 : (c : After-put_clause-again)
    → Begun c.args.output.now (text_4 (goal.at.After-put_clause-again c).Start) c.put_clause-again.new.output c.put_clause-again.result 53
unfolding bytes
begun_4 c =
    let x = c.args.violation.b.0 in
    begun_more c.args.output.now (text_3 (goal.at.After-put_clause-again c).Start) (bytes " and not to " ++ decimal x) 15 (clause_short (bytes " and not to ") x (fits (goal.at.After-put_clause-again c).Start).1) (begun_3 (goal.at.After-put_clause-again c).After-put_clause-last) c.put_clause-again.ensures.output
    c.put_clause-again.ensures.end

pub put_clause-middle-requires : goal.put_clause-middle-requires
put_clause-middle-requires c =
    begun_room c.args.output.now c.requires.1 13 (begun_0 (goal.at.put_clause-middle-requires c).After-put_name-name) (omega arith)

pub put_clause-first-requires : goal.put_clause-first-requires
put_clause-first-requires c =
    begun_room c.args.output.now c.requires.1 5 (begun_1 (goal.at.put_clause-first-requires c).After-put_clause-middle) (omega arith)

pub put_clause-last-requires : goal.put_clause-last-requires
put_clause-last-requires c =
    begun_room c.args.output.now c.requires.1 13 (begun_2 (goal.at.put_clause-last-requires c).After-put_clause-first) (omega arith)

pub put_clause-again-requires : goal.put_clause-again-requires
put_clause-again-requires c =
    begun_room c.args.output.now c.requires.1 15 (begun_3 (goal.at.put_clause-again-requires c).After-put_clause-last) (omega arith)

pub put-requires : goal.put-requires
put-requires c =
    begun_room c.args.output.now c.requires.1 1 (begun_4 (goal.at.put-requires c).After-put_clause-again) (omega arith)

pub returns : goal.returns
unfolding bytes
returns c =
    let v = c.args.violation in
    let whole = begun_whole c.args.output.now (text_4 (goal.at.returns c).Start ++ bytes ".") (clauses_whole (own (goal.at.returns c).Start) v.a.0 v.b.0 v.c.0)
    (begun_more c.args.output.now (text_4 (goal.at.returns c).Start) (bytes ".") 1 (omega arith) (begun_4 (goal.at.returns c).After-put_clause-again) c.put.ensures.output c.put.ensures.end) in
    record { output = whole.0; end = whole.1 }
