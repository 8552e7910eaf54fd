-- `choice::choose` meets its contract: in MNS no entry that was passed, from the end on, is open, and in the other searches the offered vertices
-- are at hand.
-- Assumes nothing.
use Prim.Native.Nat.{ℕ}
use mathlib.Core.Path.{ap, ◌∙◌, subst}
use mathlib.Core.Bool.{Bool}
use lib.Dec.{T}
use lib.ListN.{length}
use Rattle.bitset.specs.Word.{member}
use Rattle.bitset.proofs.Tests.{said_true, said_false}
use Rattle.bitset.proofs.Below.{last_same}
use Rattle.std.proofs.Common.{Iter}
use Rattle.std.specs.declared.iter.Rev.{Rev}
use Rattle.searches.specs.Kind.{search_of}
use Rattle.searches.specs.Ordering.{at}
use Rattle.offers.specs.Open.{open_in, chosen_in}
use Rattle.labels.proofs.Comparison.{other_kind, search_of_mns}
use Rattle.offers.proofs.Narrowing.{open_out, offered_at}
use Rattle.choice.proofs.Choosing.{passed_start, passed_next, passed_found, passed_none}
use Rattle.choice.proofs.choose.Goals as goal

pub last_of-requires : goal.last_of-requires
last_of-requires c =
    let a = c.args in
    let k = search_of a.labels.now.kind.0 in
    let is = offered_at k a.labels.now.words c.requires.0 (search_of_mns a.labels.now.kind.0 (other_kind a.labels.now.kind.0 5 c.ne.ensures c.if-ne.true)) c.ranges.free.fits in
    (c.requires.2, c.requires.3, λ v t. c.requires.4 v (open_out k a.labels.now.words a.free v (subst (λ (b : Bool). T b) (is v) t)).0)

pub returns-then-ne : goal.returns-then-ne
unfolding chosen_in
returns-then-ne c =
    let a = c.args in
    let t = a.tie_break.now in
    let k = search_of a.labels.now.kind.0 in
    c.last_of.ensures
    ∙ ap (λ (q : ℕ). at t q) (last_same (length t) (λ q. member a.offered (at t q)) (λ q. open_in k a.labels.now.words a.free (at t q))
    (λ q _. offered_at k a.labels.now.words c.requires.0 (search_of_mns a.labels.now.kind.0 (other_kind a.labels.now.kind.0 5 c.ne.ensures c.if-ne.true)) c.ranges.free.fits (at t q)))

pub loop-v-init : goal.loop-v-init
loop-v-init c =
    let a = c.args in
    let left = ap (λ (x : Rev (Iter ℕ)). x.iter.rest.now) c.into_iter-v-iterator.ensures.into_iter_gives ∙ ap (λ (x : Iter ℕ). x.rest.now) c.rev-v-items.ensures.source ∙ c.iter.ensures.rest in
    passed_start (search_of a.labels.now.kind.0) a.labels.now.words a.free a.tie_break.now left

pub is_open-requires : goal.is_open-requires
is_open-requires c = (c.requires.0, c.requires.1)

pub returns-then-is_open : goal.returns-then-is_open
returns-then-is_open c =
    let a = c.args in
    let k = search_of a.labels.now.kind.0 in
    passed_found k a.labels.now.words a.free a.tie_break.now c.next.new.self.iter.rest.now c.in-Some.v.now c.loop-v.invariant c.in-Some.ensures.steps
    (said_true (open_in k a.labels.now.words a.free c.in-Some.v.now) c.is_open.ensures c.if-is_open.true)

pub loop-v-preserved : goal.loop-v-preserved
loop-v-preserved c =
    let a = c.args in
    let k = search_of a.labels.now.kind.0 in
    passed_next k a.labels.now.words a.free a.tie_break.now c.next.new.self.iter.rest.now c.in-Some.v.now c.loop-v.invariant c.in-Some.ensures.steps
    (said_false (open_in k a.labels.now.words a.free c.in-Some.v.now) c.is_open.ensures c.if-is_open.false)

pub returns : goal.returns
returns c =
    let a = c.args in
    let k = search_of a.labels.now.kind.0 in
    c.entry.ensures ∙ passed_none k a.labels.now.words a.free a.tie_break.now c.loop-v.invariant c.in-None.ensures.steps.0
