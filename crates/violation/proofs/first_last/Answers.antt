-- `violation::first_last` meets its contract: what the position has, or where there is none the number.
-- Assumes nothing.
use Rattle.searches.specs.Kind.{search_of}
use Rattle.violation.proofs.Searching.{last_by_position, last_numbered}
use Rattle.violation.proofs.first_last.Goals as goal

pub returns-in-Some : goal.returns-in-Some
returns-in-Some c =
    let a = c.args in
    last_by_position (search_of a.labels.now.kind.0) a.labels.now.words a.front a.i.0 a.mine.label a.ordering.now a.j.0 a.k c.in-Some.ensures.0
    c.in-Some.ensures.1 c.vertex_at.ensures

pub first_by_number-requires : goal.first_by_number-requires
first_by_number-requires c = (c.requires.0.bit, c.requires.1)

pub returns-in-None : goal.returns-in-None
returns-in-None c =
    let a = c.args in
    last_numbered (search_of a.labels.now.kind.0) a.labels.now.words a.front a.i.0 a.mine.label a.ordering.now a.j.0 a.k c.in-None.ensures
    c.first_by_number.result c.first_by_number.ensures
