-- `wide::fault::Turn::starts` meets its contract, word by word: no vertex of the words passed completes a violation.
-- Assumes nothing.
use Prim.Native.Nat.{◌<◌}
use mathlib.Core.Path.{◌≡◌, sym, ◌∙◌}
use native.Mathlib.Omega.{arith}
use Rattle.bitset.proofs.Passed.{passed_start, passed_more}
use Rattle.searches.specs.Kind.{search_of}
use Rattle.wide.proofs.Violating.{row_there, vertex_fits, turn_fits}
use Rattle.wide.proofs.Starting.{starts_word, started_word, starts_linked, starts_found, starts_unfound}
use Rattle.wide.proofs.fault.Turn.starts.Goals as goal
use Rattle.wide.proofs.fault.Turn.starts.Goals.{After-completes_in, In-loop-word}

pub contains-requires : goal.contains-requires
contains-requires c =
    (row_there c.args.self.now.faulty c.args.i.0 (omega (arith, c.args.self.now.faulty.turn, c.requires)) c.vertex_at-a.ensures, vertex_fits c.args.self.now.faulty c.args.self.now.j.0 c.args.self.now.faulty.turn c.vertex_at-b.ensures)

pub returns-then-contains : goal.returns-then-contains
returns-then-contains c =
    starts_linked c.args.self.now.faulty c.args.i.0 c.requires c.vertex_at-a.ensures c.vertex_at-b.ensures c.contains.ensures c.if-contains.true

pub loop-word-init : goal.loop-word-init
loop-word-init c = passed_start _ _

-- a is a vertex
small : (c : In-loop-word) → c.vertex_at-a.result.0 < 512
small c =
    vertex_fits c.args.self.now.faulty c.args.i.0 (omega (arith, c.args.self.now.faulty.turn, c.requires)) c.vertex_at-a.ensures

pub completes_in-requires : goal.completes_in-requires
completes_in-requires c =
    (c.loop-word-test.true, omega (arith, turn_fits c.args.self.now.faulty, c.requires), vertex_fits c.args.self.now.faulty c.args.self.now.j.0 c.args.self.now.faulty.turn c.vertex_at-b.ensures)

-- whether a vertex of the word completes a violation
answered : (c : After-completes_in)
    → let a = c.args in
    c.completes_in.result ≡ starts_word (search_of a.self.now.labels.now.kind.0) a.self.now.graph.table.now a.self.now.labels.now.words a.self.now.free.now a.i.0 c.vertex_at-a.result.0 c.vertex_at-b.result.0 c.loop-word.word
answered c =
    let a = c.args in
    c.completes_in.ensures
    ∙ started_word (search_of a.self.now.labels.now.kind.0) a.self.now.graph.table.now a.self.now.labels.now.words a.self.now.free.now a.i.0 c.vertex_at-a.result.0 c.vertex_at-b.result.0 c.loop-word.word
    c.loop-word-test.true c.common-front.ensures

pub returns-then-completes_in : goal.returns-then-completes_in
returns-then-completes_in c =
    starts_found c.args.self.now.faulty c.args.i.0 c.requires c.vertex_at-a.ensures c.vertex_at-b.ensures c.contains.ensures c.if-contains.false
    c.loop-word-test.true (sym (answered (goal.at.returns-then-completes_in c).After-completes_in) ∙ c.if-completes_in.true)

pub loop-word-preserved : goal.loop-word-preserved
loop-word-preserved c =
    passed_more c.loop-word.invariant c.loop-word-test.true (sym (answered (goal.at.loop-word-preserved c).After-completes_in) ∙ c.if-completes_in.false)

pub returns : goal.returns
returns c =
    starts_unfound c.args.self.now.faulty c.args.i.0 c.requires c.vertex_at-a.ensures c.vertex_at-b.ensures c.contains.ensures c.if-contains.false
    c.loop-word.invariant c.loop-word-test.false
