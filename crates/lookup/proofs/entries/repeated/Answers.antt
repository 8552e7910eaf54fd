-- `lookup::entries::repeated` meets its contract: the set holds the entries that were passed, and is smaller than their number where one stood there twice.
-- Assumes nothing.
use mathlib.Core.Path.{◌≡◌, ap, ◌∙◌, subst}
use mathlib.Core.Bool.{not}
use Prim.Native.Nat.{ℕ, ◌<◌}
use native.Mathlib.Omega.{arith}
use lib.Dec.{eqb}
use lib.Seq.{length-take-le, get_or-take}
use Rattle.bitset.specs.Word.{inserted}
use Rattle.lookup.proofs.Seen.{Counted, counted_none, counted_more}
use Rattle.lookup.proofs.entries.repeated.Goals as goal

pub loop-vertex-init : goal.loop-vertex-init
loop-vertex-init c = counted_none _

pub loop-vertex-preserved : goal.loop-vertex-preserved
loop-vertex-preserved c =
    let list = c.args.list.now in
    let q = c.loop-vertex.vertex-index in
    let passed : q < c.args.k = omega (arith, c.loop-vertex-test.true, length-take-le c.args.k list c.requires.k_in_bounds) in
    let added = c.insert-seen.ensures ∙ ap (inserted c.loop-vertex.seen) (get_or-take c.args.k list q 0 passed) in
    rw added (counted_more c.loop-vertex.invariant (c.requires.by_index q passed))

pub returns : goal.returns
returns c =
    let k = c.args.k in
    let list = c.args.list.now in
    let all : c.loop-vertex.vertex-index ≡ k =
    omega (arith, c.loop-vertex-test.false, c.loop-vertex.auto.vertex-index-end, length-take-le k list c.requires.k_in_bounds)
    in
    ap (λ (m : ℕ). not (eqb m k)) c.size.ensures ∙ (subst (λ (q : ℕ). Counted list c.loop-vertex.seen q) all c.loop-vertex.invariant).tells
