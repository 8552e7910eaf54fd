-- `chordal::order::write_numbers` meets its contract: one number more each turn.
-- Assumes nothing.
use Prim.Native.Nat.{ℕ}
use mathlib.Core.Path.{◌≡◌, refl, ap, ◌∙◌, subst}
use mathlib.Core.List.{List, ◌++◌, append-nil}
use native.Mathlib.Omega.{arith}
use lib.ListN.{drop_of_length-le}
use Rattle.chordal.specs.Descent.{numbers}
use Rattle.chordal.proofs.Listing.{Filled, filled_none, filled_more}
use Rattle.chordal.proofs.order.write_numbers.Goals as goal

pub loop-p-init : goal.loop-p-init
loop-p-init c = filled_none _ _

pub loop-p-preserved : goal.loop-p-preserved
loop-p-preserved c = filled_more _ _ c.loop-p.invariant (omega (arith, c.requires)) refl

pub returns : goal.returns
returns c =
    let x = c.loop-p.invariant in
    let all : c.loop-p.p ≡ 64 = omega (arith, x.within, c.requires) in
    (subst (λ (k : ℕ). Filled (λ v. v) c.args.list.now c.loop-p.list k) all x).written
    ∙ ap (λ (rest : List ℕ). numbers 64 ++ rest) (drop_of_length-le c.args.list.now {i = 64} (omega (arith, c.requires))) ∙ append-nil (numbers 64)
