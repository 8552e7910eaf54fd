-- `route::position_of` meets its contract: the chain finds the first position that holds the vertex.
-- Assumes nothing.
use mathlib.Core.Path.{◌≡◌, subst}
use Prim.Native.Nat.{ℕ, ◌<◌}
use borrow.Author.Tests.{tests}
use lib.Dec.{eqb}
use lib.ListN.{length}
use Rattle.std.proofs.Common.{rules}
use Rattle.std.specs.Prelude.{Option, MatchOption}
use Rattle.std.proofs.lemmas.Iterator.{YieldsList-from_slice}
use Rattle.std.proofs.lemmas.Iterator.Search.{position_from_yields_List}
use Rattle.route.specs.WayBack.{position_of}
use Rattle.route.proofs.Chains.{found_or_none}
use Rattle.route.proofs.position_of.Goals as goal
use Rattle.route.proofs.position_of.Goals.{After-position}

found : (c : After-position)
    → let a = c.args in
    MatchOption c.position.result (position_of a.ordering.now a.vertex.0 ≡ length a.ordering.now)
    (λ p. (p ≡ position_of a.ordering.now a.vertex.0) × (p < length a.ordering.now))
unfolding position_of
found c =
    let a = c.args in
    found_or_none (λ u. eqb u a.vertex.0) a.ordering.now
    (position_from_yields_List (λ u. eqb u a.vertex.0) _ _ c.position.result c.position.ensures.ran (YieldsList-from_slice a.ordering.now cc) (λ x b q k. search (rules, tests)))

pub returns-in_err-p : goal.returns-in_err-p
returns-in_err-p c =
    let a = c.args in
    rw c.from_residual.ensures
    (subst (λ (o : Option ℕ). MatchOption o (position_of a.ordering.now a.vertex.0 ≡ length a.ordering.now) (λ p. (p ≡ position_of a.ordering.now a.vertex.0) × (p < length a.ordering.now)))
    c.in_err-p.was (found (goal.at.returns-in_err-p c).After-position))

pub returns : goal.returns
returns c =
    let a = c.args in
    subst (λ (o : Option ℕ). MatchOption o (position_of a.ordering.now a.vertex.0 ≡ length a.ordering.now) (λ p. (p ≡ position_of a.ordering.now a.vertex.0) × (p < length a.ordering.now)))
    c.in_ok-p.was (found (goal.at.returns c).After-position)
