-- `wide::place::smallest_with` meets its contract.
-- Assumes nothing.
use mathlib.Core.Path.{sym, subst}
use Prim.Native.Nat.{ℕ}
use lib.Dec.{T, eqb, eqb→eq, eqb_refl}
use Rattle.bitset.proofs.Tests.{cond_yes, cond_no}
use Rattle.wide.proofs.place.smallest_with.Goals as goal

pub returns-then-kept-eq512 : goal.returns-then-kept-eq512
returns-then-kept-eq512 c =
    let a = c.args in
    sym (cond_yes (eqb a.kept 512) a.latest a.kept (subst (λ (x : ℕ). T (eqb x 512)) (sym c.if-kept-eq512.true) (eqb_refl 512)))

pub returns-else-kept-eq512 : goal.returns-else-kept-eq512
returns-else-kept-eq512 c =
    let a = c.args in
    sym (cond_no (eqb a.kept 512) a.latest a.kept (λ t. c.if-kept-eq512.false (eqb→eq a.kept 512 t)))
