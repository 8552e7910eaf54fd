-- A label that gets more positions stays ahead of whom it was ahead of.
--   outranks_more      of the others nothing is asked but that their labels are as they were
-- Assumes nothing.
use mathlib.Core.Bool.{Bool, not}
use mathlib.Core.Logic.{◌⊎◌, inl, inr}
use Prim.Native.Nat.{ℕ, ◌≤◌, ◌<◌}
use native.Mathlib.Omega.{arith}
use lib.Dec.{T, ltb, ltb→lt, lt→ltb, not_T, T_not}
use Rattle.bitset.specs.Below.{count_below}
use Rattle.bitset.proofs.Tests.{and_in, and_out, below_or}
use Rattle.bitset.proofs.Count.{count_extra}
use Rattle.searches.specs.Kind.{Search, generic, bfs, dfs, lex_bfs, lex_dfs, mns, mcs}
use Rattle.searches.specs.Label.{outranks}
use Rattle.searches.specs.Violation.{condition, Meets}
use Rattle.searches.proofs.Reason.{outranks→reason, reason→outranks}

module _ (k : ℕ) (c more b : ℕ → Bool) (grows : (p : ℕ) → p < k → T (c p) → T (more p)) where
  counted_more : count_below k c ≤ count_below k more
  counted_more = go (below_or (count_below k more) (count_below k c))
    where
      go : (count_below k more < count_below k c) ⊎ (count_below k c ≤ count_below k more) → count_below k c ≤ count_below k more
      go (inl l) =
          let x = count_extra k c more l in
          let both = and_out (c x.at) (not (more x.at)) x.holds in
          absurd (T_not (more x.at) both.1 (grows x.at x.below both.0))
      go (inr l) = l

  -- who is not in the larger label is not in the smaller one
  outside : (d : ℕ) → d < k → T (not (more d)) → T (not (c d))
  outside d l t = not_T (c d) (λ p. T_not (more d) t (grows d l p))

  meets_more : (s : Search) (i : ℕ) → Meets (condition s i) k c b → Meets (condition s i) k more b
  unfolding condition
  meets_more generic i m = m
  meets_more bfs i m = m
  meets_more dfs i m = m
  meets_more lex_bfs i m = λ d l p x. let both = and_out (ltb d i) (not (more d)) x in m d l p (and_in (ltb d i) (not (c d)) both.0 (outside d l both.1))
  meets_more lex_dfs i m = λ d l p x. let both = and_out (ltb i d) (not (more d)) x in m d l p (and_in (ltb i d) (not (c d)) both.0 (outside d l both.1))
  meets_more mns i m = λ d l p x. m d l p (outside d l x)
  meets_more mcs i m = lt→ltb (count_below k b) (count_below k more) (omega (arith, ltb→lt (count_below k b) (count_below k c) m, counted_more))

  pub outranks_more : (s : Search) → T (outranks s k c b) → T (outranks s k more b)
  outranks_more s t =
      let r = outranks→reason k c b s t in
      reason→outranks k more b s (record {
        position = r.position;
        below = r.below;
        ours = grows r.position r.below r.ours;
        theirs = r.theirs;
        unexcused = meets_more s r.position r.unexcused;
      })
