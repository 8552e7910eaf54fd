-- Who is ahead by one search is ahead by another.
--   AheadToo s s'           who is ahead by s' is ahead by s too
--   ahead_generic           by Generic, so by every search;   ahead_of_none   a label that has a position is ahead of one that has none
--   ahead_lex_bfs_bfs, ..    the other pairs of `carries_to`
-- Assumes nothing.
use mathlib.Core.Bool.{Bool, not, ◌&&◌}
use Prim.Native.Nat.{ℕ, ◌<◌}
use lib.Dec.{T, ltb, lt→ltb, not_T}
use Rattle.bitset.specs.Below.{count_below}
use Rattle.bitset.proofs.Tests.{and_out, not_not}
use Rattle.bitset.proofs.Count.{count_proper}
use Rattle.searches.specs.Kind.{Search, generic, bfs, dfs, lex_bfs, lex_dfs, mns, mcs}
use Rattle.searches.specs.Label.{outranks}
use Rattle.searches.specs.Violation.{none_excuses, condition}
use Rattle.searches.proofs.Reason.{Reason, outranks→reason, reason→outranks}

abbrev pub AheadToo : Search → Search → Type 0
AheadToo s s' = (k : ℕ) (c b : ℕ → Bool) → T (outranks s' k c b) → T (outranks s k c b)

-- what excuses less often leaves a reason
fewer_excuses : (e e' : ℕ → ℕ → Bool → Bool) → ((i d : ℕ) (in_c : Bool) → T (e i d in_c) → T (e' i d in_c)) → (k : ℕ) (c b : ℕ → Bool)
    → Reason (λ i. none_excuses (e' i)) k c b → Reason (λ i. none_excuses (e i)) k c b
fewer_excuses e e' fewer k c b r = record {
  position = r.position;
  below = r.below;
  ours = r.ours;
  theirs = r.theirs;
  unexcused = λ d l p x. r.unexcused d l p (fewer r.position d (c d) x);
}

pub ahead_lex_bfs_bfs : AheadToo lex_bfs bfs
unfolding condition
ahead_lex_bfs_bfs k c b t =
    reason→outranks k c b lex_bfs
    (fewer_excuses (λ i d in_c. ltb d i && not in_c) (λ i d in_c. ltb d i) (λ i d in_c x. (and_out (ltb d i) (not in_c) x).0) k c b (outranks→reason k c b bfs t))

pub ahead_lex_dfs_dfs : AheadToo lex_dfs dfs
unfolding condition
ahead_lex_dfs_dfs k c b t =
    reason→outranks k c b lex_dfs
    (fewer_excuses (λ i d in_c. ltb i d && not in_c) (λ i d in_c. ltb i d) (λ i d in_c x. (and_out (ltb i d) (not in_c) x).0) k c b (outranks→reason k c b dfs t))

pub ahead_lex_bfs_mns : AheadToo lex_bfs mns
unfolding condition
ahead_lex_bfs_mns k c b t =
    reason→outranks k c b lex_bfs
    (fewer_excuses (λ i d in_c. ltb d i && not in_c) (λ i d in_c. not in_c) (λ i d in_c x. (and_out (ltb d i) (not in_c) x).1) k c b (outranks→reason k c b mns t))

pub ahead_lex_dfs_mns : AheadToo lex_dfs mns
unfolding condition
ahead_lex_dfs_mns k c b t =
    reason→outranks k c b lex_dfs
    (fewer_excuses (λ i d in_c. ltb i d && not in_c) (λ i d in_c. not in_c) (λ i d in_c x. (and_out (ltb i d) (not in_c) x).1) k c b (outranks→reason k c b mns t))

-- a label that has all of another's positions and one more is larger
pub ahead_mcs_mns : AheadToo mcs mns
unfolding condition outranks
ahead_mcs_mns k c b t =
    let r = outranks→reason k c b mns t in
    lt→ltb (count_below k b) (count_below k c)
    (count_proper k b c (λ d l p. not_not (c d) (not_T (not (c d)) (r.unexcused d l p))) r.position r.below r.ours r.theirs)

pub ahead_of_none : (s : Search) (k : ℕ) (c b : ℕ → Bool) (p : ℕ) → p < k → T (c p) → ((d : ℕ) → d < k → T (b d) → ⊥) → T (outranks s k c b)
unfolding condition
ahead_of_none s k c b p l inside none = go s
  where
    unexcused_reason : (e : ℕ → ℕ → Bool → Bool) → Reason (λ i. none_excuses (e i)) k c b
    unexcused_reason e = record { position = p; below = l; ours = inside; theirs = none p l; unexcused = λ d h x _. none d h x }

    go : (s : Search) → T (outranks s k c b)
    go generic = reason→outranks k c b generic (unexcused_reason _)
    go bfs = reason→outranks k c b bfs (unexcused_reason _)
    go dfs = reason→outranks k c b dfs (unexcused_reason _)
    go lex_bfs = reason→outranks k c b lex_bfs (unexcused_reason _)
    go lex_dfs = reason→outranks k c b lex_dfs (unexcused_reason _)
    go mns = reason→outranks k c b mns (unexcused_reason _)
    go mcs = ahead_mcs_mns k c b (reason→outranks k c b mns (unexcused_reason _))

pub ahead_generic : (s : Search) → AheadToo s generic
unfolding condition
ahead_generic s k c b t = let r = outranks→reason k c b generic t in ahead_of_none s k c b r.position r.below r.ours (λ d l p. r.unexcused d l p tt)
