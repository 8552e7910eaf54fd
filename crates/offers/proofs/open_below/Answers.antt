-- `offers::open_below` meets its contract: the set holds the open vertices that were passed.
-- Assumes nothing.
use Prim.Native.Nat.{ℕ}
use mathlib.Core.Path.{◌≡◌, refl, sym, ap, ◌∙◌}
use native.Mathlib.Omega.{arith}
use Rattle.searches.specs.Kind.{search_of}
use Rattle.offers.specs.Open.{open_in}
use Rattle.bitset.specs.Word.{set_below}
use Rattle.bitset.proofs.Joining.{set_more, set_same}
use Rattle.offers.proofs.open_below.Goals as goal
use Rattle.offers.proofs.open_below.Goals.{then-is_open, else-is_open}

pub loop-v-init : goal.loop-v-init
unfolding set_below
loop-v-init c = (omega arith, refl)

pub loop-v-preserved : goal.loop-v-preserved
loop-v-preserved c =
    let test = open_in (search_of c.args.labels.now.kind.0) c.args.labels.now.words c.args.free in (
      omega arith,
      elim c.if-is_open.branch [
        | then-is_open w ↦ w.set-is ∙ w.insert-set.ensures ∙ set_more test c.loop-v.invariant.1 (sym c.is_open.ensures ∙ w.if-is_open.true)
        | else-is_open w ↦ w.set-is ∙ set_same test c.loop-v.invariant.1 (sym c.is_open.ensures ∙ w.if-is_open.false)
      ],
    )

pub returns : goal.returns
returns c =
    let a = c.args in
    let all : c.loop-v.v ≡ a.n = omega (arith, c.loop-v.invariant.0) in
    c.loop-v.invariant.1 ∙ ap (λ (m : ℕ). set_below m (open_in (search_of a.labels.now.kind.0) a.labels.now.words a.free)) all
