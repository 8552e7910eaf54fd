-- `choice::last_of` meets its contract: `most` is the greatest rank so far. The measure is the word that is left.
-- Assumes nothing.
use Prim.Native.Nat.{ℕ, ◌<◌, ◌≤◌}
use mathlib.Core.Path.{◌≡◌, sym, ap, ◌∙◌, subst}
use mathlib.Core.List.{List}
use mathlib.Core.Logic.{◌⊎◌}
use native.Mathlib.Omega.{arith}
use lib.Dec.{T}
use lib.ListN.{get_or}
use Rattle.bitset.specs.Word.{member, removed}
use Rattle.bitset.proofs.Scan.{first_member, removed_less, taken_out}
use Rattle.searches.specs.Ordering.{at}
use Rattle.choice.proofs.Ranking.{Ranking, ranking_start, ranking_next, ranking_fits, ranking_end}
use Rattle.choice.proofs.last_of.Goals as goal
use Rattle.choice.proofs.last_of.Goals.{After-smallest}

-- the smallest number of what is left is in it
found : (c : After-smallest) → (c.smallest.result < 64) × T (member c.loop-rest.rest c.smallest.result)
found c =
    let rest = c.loop-rest.rest in
    subst (λ (u : ℕ). (u < 64) × T (member rest u)) (sym c.smallest.ensures) (first_member rest c.loop-rest.invariant.left (omega arith))

pub loop-rest-init : goal.loop-rest-init
loop-rest-init c = ranking_start c.args.tie_break.now c.args.ranks.now c.args.set c.ranges.set.fits

pub bounds-ranks-smallest : goal.bounds-ranks-smallest
bounds-ranks-smallest c = omega (arith, (found (goal.at.bounds-ranks-smallest c).After-smallest).0)

pub loop-rest-smaller : goal.loop-rest-smaller
loop-rest-smaller c =
    subst (λ (x : ℕ). x < c.loop-rest.rest) (sym (taken_out c.loop-rest.rest c.without_smallest-rest.ensures c.smallest.ensures)) (removed_less c.loop-rest.rest c.smallest.result c.loop-rest.invariant.left (found (goal.at.loop-rest-smaller c).After-smallest).1)

-- what is taken out of the word is ranked, whatever the greatest rank then is: no less than either, and one of the two
moved : {t ranks : List ℕ} {set most rest m rest' : ℕ} (u : ℕ) → Ranking t ranks set most rest → T (member rest u) → rest' ≡ removed rest u
    → most ≤ m → get_or ranks u 0 ≤ m → (m ≡ most) ⊎ (m ≡ get_or ranks u 0) → Ranking t ranks set m rest'
moved {t} {ranks} {set} {m = m} u k there out more reaches which =
    subst (λ (x : ℕ). Ranking t ranks set m x) (sym out) (ranking_next t ranks set k u there more reaches which)

-- the facts on the two branches are found by what they say, and not by name
pub loop-rest-preserved : goal.loop-rest-preserved
loop-rest-preserved c =
    moved c.smallest.result c.loop-rest.invariant (found (goal.at.loop-rest-preserved c).After-smallest).1
    (taken_out c.loop-rest.rest c.without_smallest-rest.ensures c.smallest.ensures)
    (grind arith) (grind arith) (grind arith)

pub overflow_cast-most : goal.overflow_cast-most
overflow_cast-most c =
    omega (arith, c.requires.0, ranking_fits c.args.tie_break.now c.args.ranks.now c.args.set c.requires.1 c.requires.2 c.loop-rest.invariant)

pub returns : goal.returns
returns c =
    let a = c.args in
    c.entry.ensures
    ∙ ap (λ (q : ℕ). at a.tie_break.now q) (ranking_end a.tie_break.now a.ranks.now a.set c.requires.1 c.requires.2 c.loop-rest.invariant c.loop-rest-test.false)
