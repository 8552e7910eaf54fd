-- `cents::cents_by` meets its contract: each rule has its function.
-- Assumes nothing.
use mathlib.Core.Path.{sym, ap, ◌∙◌}
use Rattle.cents.specs.Cents.{cents_by}
use Rattle.cents.specs.declared.Halves.{Halves}
use Rattle.cents.proofs.cents_by.Goals as goal

pub cents_halves_up-requires : goal.cents_halves_up-requires
cents_halves_up-requires c = c.requires

pub cents_to_even-requires : goal.cents_to_even-requires
cents_to_even-requires c = c.requires

pub returns-in-Up : goal.returns-in-Up
unfolding cents_by
returns-in-Up c =
    let a = c.args in
    c.cents_halves_up.ensures ∙ sym (ap (λ (halves : Halves). cents_by halves a.product) c.in-Up.is)

pub returns-in-ToEven : goal.returns-in-ToEven
unfolding cents_by
returns-in-ToEven c =
    let a = c.args in
    c.cents_to_even.ensures ∙ sym (ap (λ (halves : Halves). cents_by halves a.product) c.in-ToEven.is)
