-- `choice::leader` meets its contract.
-- Assumes nothing.
use mathlib.Core.Path.{◌≡◌, ap, ◌∙◌}
use mathlib.Core.Bool.{not, ◌&&◌}
use Rattle.searches.specs.Kind.{search_of}
use Rattle.searches.specs.Label.{outranks}
use Rattle.searches.specs.Comparison.{is_ahead, is_level}
use Rattle.searches.proofs.Comparing.{ahead_told, level_told}
use Rattle.tables.specs.Rows.{row_of}
use Rattle.wide.proofs.Leading.{leads_next, leads_still}
use Rattle.wide.proofs.Equal.{same_ahead, same_level}
use Rattle.wide.proofs.choice.leader.Goals as goal
use Rattle.wide.proofs.choice.leader.Goals.{After-eq-level}

-- what is told of the two: whether next is ahead, and whether none is
answered : (c : After-eq-level)
    → let a = c.args in
    let s = search_of a.labels.now.kind.0 in
    let lead = row_of a.labels.now.words a.lead.0 in
    let next = row_of a.labels.now.words a.next.0 in
    (c.eq-ahead.result ≡ outranks s 512 next lead) × (c.eq-level.result ≡ (not (outranks s 512 next lead) && not (outranks s 512 lead next)))
answered c =
    let a = c.args in
    let s = search_of a.labels.now.kind.0 in
    let lead = row_of a.labels.now.words a.lead.0 in
    let next = row_of a.labels.now.words a.next.0 in
    let is = c.compare-answer.ensures in
    (c.eq-ahead.ensures ∙ same_ahead c.compare-answer.result ∙ ap is_ahead is ∙ ahead_told s 512 next lead, c.eq-level.ensures ∙ same_level c.compare-answer.result ∙ ap is_level is ∙ level_told s 512 next lead c.requires.0.other)

pub returns-then-ahead-level : goal.returns-then-ahead-level
returns-then-ahead-level c = λ among r.
    leads_next _ _ _ c.requires.0.other _ _ c.requires.2 among r (answered (goal.at.returns-then-ahead-level c).After-eq-level).0 (answered (goal.at.returns-then-ahead-level c).After-eq-level).1 c.if-ahead-level.true

pub returns-else-ahead-level : goal.returns-else-ahead-level
returns-else-ahead-level c = λ among r.
    leads_still _ _ _ c.requires.0.other _ _ c.requires.2 among r (answered (goal.at.returns-else-ahead-level c).After-eq-level).0 (answered (goal.at.returns-else-ahead-level c).After-eq-level).1 c.if-ahead-level.false
