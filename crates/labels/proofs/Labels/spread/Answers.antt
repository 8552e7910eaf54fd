-- `labels::Labels::spread` meets its contract: what is left of the row makes of the labels, and of the running values beside them, what the row makes of
-- them at the start. That the weights are those of the labels is kept by the type. The measure is the word that is left.
-- Assumes nothing.
use Prim.Native.Nat.{ℕ, ◌+◌, ◌<◌}
use mathlib.Core.Path.{◌≡◌, refl, sym, ap, ◌∙◌, subst}
use lib.Dec.{T}
use lib.ListN.{length, get_or, set}
use native.Mathlib.Omega.{arith}
use native.Mathlib.Numerals.{add-one}
use Rattle.bitset.specs.Below.{count_below}
use Rattle.bitset.specs.Word.{member}
use Rattle.bitset.proofs.Scan.{first_member, removed_less, taken_out}
use Rattle.searches.specs.Kind.{search_of}
use Rattle.searches.specs.Running.{smallest_in, largest_in}
use Rattle.searches.specs.declared.Kind.{Kind}
use Rattle.labels.specs.Weights.{smallest_byte, largest_byte, weight_of}
use Rattle.labels.specs.Words.{label_with, smallest_with, largest_with, spread_to, smallest_to, largest_to}
use Rattle.labels.proofs.Spreading.{SpreadingAll, spread_start, spread_next, spread_length, spread_due, spread_end}
use Rattle.labels.proofs.Weights.{weighed_at, weighed_set}
use Rattle.labels.proofs.Labels.spread.Goals as goal
use Rattle.labels.proofs.Labels.spread.Given.{Over}
use Rattle.labels.proofs.Labels.spread.Goals.{After-insert-label, After-smallest-v, Start}

-- the smallest number of what is left is in it
found : (g : Over) (c : After-smallest-v g)
    → (c.smallest-v.result < 64) × T (member c.loop-rest.rest c.smallest-v.result)
found g c =
    let rest = c.loop-rest.rest in
    subst (λ (v : ℕ). (v < 64) × T (member rest v)) (sym c.smallest-v.ensures) (first_member rest c.loop-rest.invariant.0.0.word (omega arith))

pub loop-rest-init : goal.loop-rest-init
loop-rest-init g c =
    let a = c.args in
    let word = c.ranges.row.fits in (
      (
        spread_start (label_with a.position.0) a.row 64 a.self.now.words word,
        spread_start (smallest_with a.position.0) a.row 64 a.self.now.smallest word,
        spread_start (largest_with a.position.0) a.row 64 a.self.now.largest word,
      ),
      refl,
    )

-- the lists have 64 elements
long : (g : Over) (s : Start g) → (length s.args.self.now.words ≡ 64) × (length s.args.self.now.smallest ≡ 64) × (length s.args.self.now.largest ≡ 64)
long g s =
    let a = s.args in
    let p = a.position.0 in
    let all = s.requires.1.long in (
      sym (spread_length (label_with p) a.row a.self.now.words 64) ∙ all.0,
      sym (spread_length (smallest_with p) a.row a.self.now.smallest 64) ∙ all.1,
      sym (spread_length (largest_with p) a.row a.self.now.largest 64) ∙ all.2,
    )

-- what is written of the vertex is what it has at the end
due : (g : Over) (c : After-insert-label g)
    → let a = c.args in
    let v = c.smallest-v.result in
    (c.insert-label.result ≡ get_or (spread_to a.row a.position.0 a.self.now.words) v 0)
    × (c.smallest_with-first.result ≡ get_or (smallest_to a.row a.position.0 a.self.now.smallest) v 0)
    × (a.position.0 + 1 ≡ get_or (largest_to a.row a.position.0 a.self.now.largest) v 0)
due g c =
    let a = c.args in
    let p = a.position.0 in
    let v = c.smallest-v.result in
    let k = c.loop-rest in (
      c.insert-label.ensures ∙ spread_due (label_with p) a.row 64 a.self.now.words k.self.words k.rest k.invariant.0.0 (omega (arith, (long g (goal.at.After-insert-label g c).Start).0)) v (found g (goal.at.After-insert-label g c).After-smallest-v).0 (found g (goal.at.After-insert-label g c).After-smallest-v).1,
      c.smallest_with-first.ensures ∙ spread_due (smallest_with p) a.row 64 a.self.now.smallest k.self.smallest k.rest k.invariant.0.1 (omega (arith, (long g (goal.at.After-insert-label g c).Start).1)) v (found g (goal.at.After-insert-label g c).After-smallest-v).0 (found g (goal.at.After-insert-label g c).After-smallest-v).1,
      add-one p ∙ spread_due (largest_with p) a.row 64 a.self.now.largest k.self.largest k.rest k.invariant.0.2 (omega (arith, (long g (goal.at.After-insert-label g c).Start).2)) v (found g (goal.at.After-insert-label g c).After-smallest-v).0 (found g (goal.at.After-insert-label g c).After-smallest-v).1,
    )

pub weigh-weight-requires : goal.weigh-weight-requires
weigh-weight-requires g c =
    let a = c.args in
    let v = c.smallest-v.result in
    let all = c.requires.1 in
    let row = c.loop-rest.invariant.0.0.part v (found g (goal.at.weigh-weight-requires g c).After-smallest-v).1 in
    let is = due g (goal.at.weigh-weight-requires g c).After-insert-label in
    record {
      before = get_or c.loop-rest.self.words v 0;
      place = c.requires.0;
      joined = c.insert-label.ensures;
      weighed = rw (sym c.loop-rest.invariant.1) (weighed_at (search_of c.loop-rest.self.kind.0) c.loop-rest.self.weighed v);
      tallied = all.tallied v (found g (goal.at.weigh-weight-requires g c).After-smallest-v).0 row ∙ ap (λ (x : ℕ). count_below 64 (member x)) (sym is.0);
      keeps_smallest = is.1 ∙ all.keeps_smallest v (found g (goal.at.weigh-weight-requires g c).After-smallest-v).0 row ∙ ap (λ (x : ℕ). smallest_byte (smallest_in 64 (member x))) (sym is.0);
      keeps_largest = is.2 ∙ all.keeps_largest v (found g (goal.at.weigh-weight-requires g c).After-smallest-v).0 row ∙ ap (λ (x : ℕ). largest_byte (largest_in 64 (member x))) (sym is.0);
    }

pub loop-rest-smaller : goal.loop-rest-smaller
loop-rest-smaller g c =
    subst (λ (x : ℕ). x < c.loop-rest.rest) (sym (taken_out c.loop-rest.rest c.without_smallest-rest.ensures c.smallest-v.ensures)) (removed_less c.loop-rest.rest c.smallest-v.result c.loop-rest.invariant.0.0.word (found g (goal.at.loop-rest-smaller g c).After-smallest-v).1)

pub loop-rest-preserved : goal.loop-rest-preserved
loop-rest-preserved g c =
    let a = c.args in
    let p = a.position.0 in
    let v = c.smallest-v.result in
    let k = c.loop-rest in
    let t = (found g (goal.at.loop-rest-preserved g c).After-smallest-v).1 in (
      subst (λ (x : ℕ). SpreadingAll p a.row a.self.now.words a.self.now.smallest a.self.now.largest (set k.self.words v c.insert-label.result) (set k.self.smallest v c.smallest_with-first.result) (set k.self.largest v (p + 1)) x)
          (sym (taken_out k.rest c.without_smallest-rest.ensures c.smallest-v.ensures)) (
            spread_next (label_with p) a.row 64 a.self.now.words k.self.words (set k.self.words v c.insert-label.result) k.rest k.invariant.0.0 v t (found g (goal.at.loop-rest-preserved g c).After-smallest-v).0 refl c.insert-label.ensures,
            spread_next (smallest_with p) a.row 64 a.self.now.smallest k.self.smallest (set k.self.smallest v c.smallest_with-first.result) k.rest k.invariant.0.1 v t (found g (goal.at.loop-rest-preserved g c).After-smallest-v).0 refl c.smallest_with-first.ensures,
            spread_next (largest_with p) a.row 64 a.self.now.largest k.self.largest (set k.self.largest v (p + 1)) k.rest k.invariant.0.2 v t (found g (goal.at.loop-rest-preserved g c).After-smallest-v).0 refl (add-one p),
          ),
      k.invariant.1,
    )

-- the labels weigh what is kept of them, with the vertex weighed anew
pub invariant_of-self : goal.invariant_of-self
invariant_of-self g c =
    let k = c.loop-rest.self in
    let label = c.insert-label.result in
    let weighs = c.weigh-weight.ensures ∙ ap (λ (x : Kind). weight_of (search_of x.0) label) (sym c.loop-rest.invariant.1) in
    record { weighed = weighed_set (search_of k.kind.0) c.smallest-v.result label k.weighed refl refl weighs }

pub returns : goal.returns
returns g c =
    let a = c.args in
    let k = c.loop-rest in
    let p = a.position.0 in
    let over =
    subst (λ (x : ℕ). SpreadingAll p a.row a.self.now.words a.self.now.smallest a.self.now.largest k.self.words k.self.smallest k.self.largest x)
    c.loop-rest-test.false k.invariant.0
    in
    record {
      kind = k.invariant.1;
      words = spread_end (label_with p) a.row 64 a.self.now.words k.self.words over.0;
      smallest = spread_end (smallest_with p) a.row 64 a.self.now.smallest k.self.smallest over.1;
      largest = spread_end (largest_with p) a.row 64 a.self.now.largest k.self.largest over.2;
    }
