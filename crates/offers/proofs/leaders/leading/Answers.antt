-- `offers::leaders::leading` meets its contract: of those that were met so far, the leaders are the ones that none is ahead of. The measure is the word
-- that is left.
-- Assumes nothing.
use Prim.Native.Nat.{ℕ, ◌<◌, ◌^◌}
use mathlib.Core.Path.{◌≡◌, sym, ap, ◌∙◌, subst}
use mathlib.Core.Bool.{Bool, true, false, not, cond, ◌&&◌}
use native.Mathlib.Omega.{arith}
use lib.Dec.{T}
use lib.ListN.{get_or}
use Rattle.bitset.specs.Word.{member, united}
use Rattle.bitset.proofs.Scan.{first_member, removed_less, taken_out}
use Rattle.searches.specs.Kind.{Search, search_of}
use Rattle.searches.specs.Comparison.{is_ahead, is_level}
use Rattle.labels.specs.Words.{profile_of, ahead_in}
use Rattle.labels.proofs.Comparison.{equals_ahead, equals_level, ahead_answered, level_answered}
use Rattle.labels.specs.Weights.{weight_of}
use Rattle.labels.proofs.Profiles.{label_of, profile_own, weight_of_lem, profile_kept, profile_of_halves}
use Rattle.offers.proofs.Leading.{Leading, leading_start, leading_next, leading_end}
use Rattle.offers.proofs.leaders.leading.Goals as goal
use Rattle.offers.proofs.leaders.leading.Goals.{After-profile-next, After-smallest-first, After-smallest-u}

-- the smallest of those that are known is one of them
known : (c : After-smallest-first) → (c.smallest-first.result < 64) × T (member c.args.known c.smallest-first.result)
known c =
    subst (λ (u : ℕ). (u < 64) × T (member c.args.known u)) (sym c.smallest-first.ensures) (first_member c.args.known c.ranges.known.fits c.requires.1)

pub overflow_cast-first : goal.overflow_cast-first
overflow_cast-first c = omega (arith, (known c).0)

pub profile-start-requires : goal.profile-start-requires
profile-start-requires c = (known c).0

pub loop-rest-init : goal.loop-rest-init
loop-rest-init c =
    let a = c.args in
    let k = search_of a.labels.now.kind.0 in
    let of = profile_kept k c.args.labels.now.weighed c.smallest-first.result c.profile-start.ensures in
    record {
      left = c.ranges.rivals.fits;
      shows = weight_of_lem k c.profile-start.result (profile_own k (get_or a.labels.now.words c.smallest-first.result 0) of);
      leads = λ other. leading_start k other a.labels.now.words a.known a.rivals c.smallest-first.result c.ranges.known.fits c.ranges.rivals.fits c.requires.2 (known (goal.at.loop-rest-init c).After-smallest-first).0 (known (goal.at.loop-rest-init c).After-smallest-first).1
          (label_of k (get_or a.labels.now.words c.smallest-first.result 0) of);
    }

-- the smallest number of what is left is in it
found : (c : After-smallest-u) → (c.smallest-u.result < 64) × T (member c.loop-rest.rest c.smallest-u.result)
found c =
    let rest = c.loop-rest.rest in
    subst (λ (u : ℕ). (u < 64) × T (member rest u)) (sym c.smallest-u.ensures) (first_member rest c.loop-rest.invariant.left (omega arith))

pub overflow_cast-number : goal.overflow_cast-number
overflow_cast-number c = omega (arith, (found c).0)

pub profile-next-requires : goal.profile-next-requires
profile-next-requires c = (found c).0

-- what was looked at of it is the profile of its label
made : (c : After-profile-next)
    → let a = c.args in
    c.profile-next.result ≡ profile_of (search_of a.labels.now.kind.0) (get_or a.labels.now.words c.smallest-u.result 0)
made c =
    profile_kept (search_of c.args.labels.now.kind.0) c.args.labels.now.weighed c.smallest-u.result c.profile-next.ensures

pub compare-answer-requires : goal.compare-answer-requires
compare-answer-requires c =
    let a = c.args in
    (profile_own (search_of a.labels.now.kind.0) (get_or a.labels.now.words c.smallest-u.result 0) (made (goal.at.compare-answer-requires c).After-profile-next), profile_of_halves (search_of a.labels.now.kind.0) c.loop-rest.invariant.shows)

pub loop-rest-smaller : goal.loop-rest-smaller
loop-rest-smaller c =
    subst (λ (x : ℕ). x < c.loop-rest.rest) (sym (taken_out c.loop-rest.rest c.without_smallest-rest.ensures c.smallest-u.ensures)) (removed_less c.loop-rest.rest c.smallest-u.result c.loop-rest.invariant.left (found (goal.at.loop-rest-smaller c).After-smallest-u).1)

-- the weight of one of two labels
either : (s : Search) (b : Bool) (x y : ℕ) {v w z : ℕ} → v ≡ weight_of s x → w ≡ weight_of s y → z ≡ cond b x y → cond b v w ≡ weight_of s z
either s true x y of-x of-y e = of-x ∙ ap (weight_of s) (sym e)
either s false x y of-x of-y e = of-y ∙ ap (weight_of s) (sym e)

pub loop-rest-preserved : goal.loop-rest-preserved
loop-rest-preserved c =
    let a = c.args in
    let k = search_of a.labels.now.kind.0 in
    let other = c.requires.0 in
    let u = c.smallest-u.result in
    let label = get_or a.labels.now.words u 0 in
    let best = c.loop-rest.label in
    let of = label_of k label (made (goal.at.loop-rest-preserved c).After-profile-next) in
    let own = profile_own k label (made (goal.at.loop-rest-preserved c).After-profile-next) in
    let is-ahead = c.eq-ahead.ensures ∙ equals_ahead c.compare-answer.result ∙ ap is_ahead c.compare-answer.ensures ∙ ahead_answered k c.profile-next.result.label best ∙ ap (λ (x : ℕ). ahead_in k x best) of in
    let is-level = c.eq-level.ensures ∙ equals_level c.compare-answer.result ∙ ap is_level c.compare-answer.ensures ∙ level_answered k other c.profile-next.result.label best
    ∙ ap (λ (x : ℕ). not (ahead_in k x best) && not (ahead_in k best x)) of
    in
    let at_lead = c.leader-label.ensures ∙ ap (λ (x : ℕ). cond c.eq-ahead.result x best) of in
    let rest = sym (taken_out c.loop-rest.rest c.without_smallest-rest.ensures c.smallest-u.ensures) in
    record {
      left = subst (λ (x : ℕ). x < 2 ^ 64) rest (leading_next k other a.labels.now.words (c.loop-rest.invariant.leads other) u (found (goal.at.loop-rest-preserved c).After-smallest-u).0 (found (goal.at.loop-rest-preserved c).After-smallest-u).1 is-ahead is-level c.led-best.ensures at_lead).left;
      shows =
          c.leader-weight.ensures
          ∙ either k c.eq-ahead.result c.profile-next.result.label best (weight_of_lem k c.profile-next.result own) c.loop-rest.invariant.shows c.leader-label.ensures;
      leads = λ o. subst (λ (x : ℕ). Leading k o a.labels.now.words (united a.known a.rivals) x c.led-best.result c.leader-label.result) rest
          (leading_next k o a.labels.now.words (c.loop-rest.invariant.leads o) u (found (goal.at.loop-rest-preserved c).After-smallest-u).0 (found (goal.at.loop-rest-preserved c).After-smallest-u).1 is-ahead is-level c.led-best.ensures at_lead);
    }

pub returns : goal.returns
returns c =
    let a = c.args in
    leading_end (search_of a.labels.now.kind.0) c.requires.0 a.labels.now.words (c.loop-rest.invariant.leads c.requires.0) c.loop-rest-test.false
