-- `cents::cents_to_even` meets its contract: one less than halves up where x / 60 is halfway and that is odd, else the same.
-- Assumes nothing.
use mathlib.Core.Path.{◌≡◌, sym, ap, ◌∙◌}
use Prim.Native.Nat.{ℕ, ◌-◌, ◌%◌}
use native.Mathlib.Omega.{arith}
use Rattle.cents.specs.Cents.{cents_halves_up}
use Rattle.cents.proofs.Cents.{to_even_less, to_even_same}
use Rattle.cents.proofs.cents_to_even.Goals as goal
use Rattle.cents.proofs.cents_to_even.Goals.{else-product-eq30-via-then-product-eq30+else-up-eq1, else-product-eq30-via-else-product-eq30}

pub cents_halves_up-up-requires : goal.cents_halves_up-up-requires
cents_halves_up-up-requires c = c.requires

pub overflow_sub-result : goal.overflow_sub-result
unfolding cents_halves_up
overflow_sub-result c = omega (arith, c.cents_halves_up-up.ensures, c.if-product-eq30.true)

pub returns-then-up-eq1 : goal.returns-then-up-eq1
returns-then-up-eq1 c =
    let x = c.args.product in
    let up = c.cents_halves_up-up in
    ap (λ (q : ℕ). q - 1) up.ensures ∙ sym (to_even_less x c.if-product-eq30.true (omega (arith, up.ensures)))

pub returns-else-product-eq30 : goal.returns-else-product-eq30
returns-else-product-eq30 c = c.cents_halves_up-up.ensures ∙ sym (to_even_same c.args.product never)
  where
    never : c.args.product % 60 ≡ 30 → cents_halves_up c.args.product % 2 ≡ 1 → ⊥
    never half odd =
        elim c.else-product-eq30.branch [
          | else-product-eq30-via-then-product-eq30+else-up-eq1 w ↦ w.if-up-eq1.false (ap (λ (q : ℕ). q % 2) c.cents_halves_up-up.ensures ∙ odd)
          | else-product-eq30-via-else-product-eq30 w ↦ w.if-product-eq30.false half
        ]
