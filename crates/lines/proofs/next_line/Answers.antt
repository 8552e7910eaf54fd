-- `lines::next_line` meets its contract: each line is read after the tests before it were tried.
-- Assumes nothing.
use mathlib.Core.Path.{refl, ◌∙◌}
use Prim.Native.Nat.{◌+◌, ◌≤◌, ◌<◌}
use native.Mathlib.Omega.{arith}
use borrow.Author.Tests.{le-leb, lt-leb, eq-eqb}
use Rattle.bitset.proofs.Tests.{not_false, said_true}
use Rattle.lines.proofs.LineByLine.{chosen_first, chosen_second, due, first_due, link_due, AtPlaces, place_due}
use Rattle.lines.proofs.next_line.Goals as goal
use Rattle.lines.proofs.next_line.Goals.{Else-good-content, Else-not-parsed}

-- ---- the tests in their order

behind_links_lem : (c : Else-good-content)
    → AtPlaces c.args.sheet.now c.args.at c.args.parsed
behind_links_lem c =
    place_due c.args.sheet.now c.args.at c.args.parsed c.if-not-parsed.false c.if-good-eq0.false c.if-good-content.false

-- ---- what is asked on the way

-- n, m and k are small
few : (c : Else-not-parsed) → let p = c.args.parsed in (p.content.n ≤ 64) × (p.content.k ≤ p.content.n) × (p.content.m < 10000)
few c = c.requires.1 (said_true c.args.parsed.sound refl (not_false _ c.if-not-parsed.false))

pub link_line-requires : goal.link_line-requires
link_line-requires c =
    (c.requires.0, record { few = (few (goal.at.link_line-requires c).Else-not-parsed).0; counted = omega (arith, (few (goal.at.link_line-requires c).Else-not-parsed).2, c.if-good-content.true) })

pub overflow_add-content : goal.overflow_add-content
overflow_add-content c = omega (arith, few (goal.at.overflow_add-content c).Else-not-parsed)

pub place_line-requires : goal.place_line-requires
place_line-requires c =
    (c.requires.0, record { behind = c.if-good-content.false; room = omega (arith, few (goal.at.place_line-requires c).Else-not-parsed, c.if-good-content-2.true); counted = (few (goal.at.place_line-requires c).Else-not-parsed).2 })

-- ---- the lines

pub returns-then-not-parsed : goal.returns-then-not-parsed
returns-then-not-parsed c =
    c.halt.ensures ∙ chosen_first (due c.args.sheet.now c.args.at c.args.parsed) c.if-not-parsed.true

pub returns-then-good-eq0 : goal.returns-then-good-eq0
returns-then-good-eq0 c =
    let p = c.args.parsed in
    c.first_line.ensures ∙ chosen_first (first_due c.args.sheet.now c.args.at p c.if-not-parsed.false) (eq-eqb p.good 0 c.if-good-eq0.true)

pub returns-then-good-content : goal.returns-then-good-content
returns-then-good-content c =
    let p = c.args.parsed in
    c.link_line.ensures
    ∙ chosen_first (link_due c.args.sheet.now c.args.at p c.if-not-parsed.false c.if-good-eq0.false) (le-leb p.good p.content.m c.if-good-content.true)

pub returns-then-good-content-2 : goal.returns-then-good-content-2
returns-then-good-content-2 c =
    let p = c.args.parsed in
    c.place_line.ensures ∙ chosen_first (behind_links_lem (goal.at.returns-then-good-content-2 c).Else-good-content) (le-leb p.good (p.content.m + p.content.k) c.if-good-content-2.true)

pub returns : goal.returns
returns c =
    let p = c.args.parsed in
    c.end.ensures ∙ chosen_second (behind_links_lem (goal.at.returns c).Else-good-content) (lt-leb p.good (p.content.m + p.content.k) c.if-good-content-2.false)
