-- The comparison of two labels that are kept as words, search by search, and the test for an excuse.
--   empty_word                              a word has no member exactly when it is 0
--   bfs_words, lex_dfs_words, mns_words, generic_words   BFS by the first positions, and the others: what is compared is what ahead_in says
--   ranked_words, mns_compared                   what is told of these tests is what compared_in says
--   equals_ahead, equals_level                   an answer is `Ahead`, or `Level`, exactly when it says that the first is ahead, or that the two are level
--   ahead_answered, level_answered               what that says of who is ahead, and of who is level
--   unexcused_*                             likewise for unexcused_in
--   is_kind, no_kind, other_kind                  what the test for a kind byte says, and the test for another one
--   of_kind, search_of_other, search_of_mns   from a kind byte to its search
-- Assumes nothing.
use mathlib.Core.Path.{◌≡◌, refl, sym, ap, ap₂, ◌∙◌, subst}
use mathlib.Core.Bool.{Bool, true, false, not, ◌&&◌}
use mathlib.Core.Logic.{◌≢◌}
use Prim.Native.Nat.{ℕ, zero, suc, ◌<◌, ◌^◌}
use native.Mathlib.Omega.{arith}
use denote.Enum.Bare.{sameb}
use lib.Dec.{T, ltb, leb, eqb, eqb→eq, eqb_refl, not_T, T_not}
use Rattle.bitset.specs.Below.{any_below, first_below, last_below, differ, within, only}
use Rattle.bitset.specs.Word.{member, difference, from_up}
use Rattle.bitset.proofs.Tests.{and_true, same_test, not_true, said_true, said_false}
use Rattle.bitset.proofs.Below.{any_out, any_at, any_same, first_same}
use Rattle.bitset.proofs.Word as word
use Rattle.searches.specs.Kind.{Search, generic, bfs, dfs, lex_bfs, lex_dfs, mns, mcs, search_of}
use Rattle.searches.specs.Label.{empty, settled, outranks}
use Rattle.searches.specs.Comparison.{told_by, is_ahead, is_level}
use Rattle.searches.specs.Violation.{condition, meets}
use Rattle.searches.specs.declared.Comparison.{Comparison}
use Rattle.searches.specs.contracts.Comparison.{the_type}
use Rattle.searches.proofs.Comparing.{ahead_told, level_told}
use Rattle.searches.proofs.ByNumbers as numbers
use Rattle.searches.proofs.Unexcused as unexcused
use Rattle.labels.specs.Words.{ahead_in, compared_in, unexcused_in}

-- ---- words as sets

pub empty_word : (x : ℕ) → x < 2 ^ 64 → empty 64 (member x) ≡ eqb x 0
unfolding empty
empty_word x h = same_test (not (any_below 64 (member x))) (eqb x 0) forth back
  where
    forth : T (not (any_below 64 (member x))) → T (eqb x 0)
    forth t =
        subst (λ (y : ℕ). T (eqb y 0)) (sym (word.empty 64 h (λ p l m. T_not (any_below 64 (member x)) t (any_at 64 (member x) p l m)))) (eqb_refl 0)

    back : T (eqb x 0) → T (not (any_below 64 (member x)))
    back t = not_T (any_below 64 (member x)) (λ u. let s = any_out 64 (member x) u in word.empty_back (eqb→eq x 0 t) s.at s.holds)

-- ---- who is ahead

module _ (c b : ℕ) where
  pub bfs_words : ltb (first_below 64 (member c)) (first_below 64 (member b)) ≡ ahead_in bfs c b
  unfolding ahead_in
  bfs_words = sym (numbers.bfs_first 64 (member c) (member b))

  pub lex_dfs_words : (any_below 64 (differ (member c) (member b)) && member c (last_below 64 (differ (member c) (member b)))) ≡ ahead_in lex_dfs c b
  unfolding ahead_in outranks settled
  lex_dfs_words = refl

  pub mns_words : (within 64 (member b) (member c) && not (within 64 (member c) (member b))) ≡ ahead_in mns c b
  unfolding ahead_in outranks
  mns_words = refl

  pub generic_words : c < 2 ^ 64 → b < 2 ^ 64 → (not (eqb c 0) && eqb b 0) ≡ ahead_in generic c b
  unfolding ahead_in outranks
  generic_words hc hb = ap₂ (λ (x y : Bool). not x && y) (sym (empty_word c hc)) (sym (empty_word b hb))

-- ---- how the one stands to the other

-- who is ahead tells it, except in MNS
pub ranked_words : (s : Search) → s ≢ mns → (c b : ℕ) {ahead behind : Bool} → ahead ≡ ahead_in s c b → behind ≡ ahead_in s b c
    → told_by ahead behind true ≡ compared_in s c b
unfolding compared_in ahead_in
ranked_words s other c b is is' = numbers.ranked_compared 64 (member c) (member b) s other is is'

-- in MNS two inclusions do: where none is ahead, each holds or none does
pub mns_compared : (c b : ℕ) {covers covered : Bool} → covers ≡ within 64 (member b) (member c) → covered ≡ within 64 (member c) (member b)
    → told_by (covers && not covered) (covered && not covers) covers ≡ compared_in mns c b
unfolding compared_in
mns_compared c b is is' = numbers.mns_compared 64 (member c) (member b) is is'

-- an answer, compared with `Ahead`
pub equals_ahead : (answer : Comparison) → sameb the_type answer Comparison.Ahead ≡ is_ahead answer
unfolding is_ahead
equals_ahead Comparison.Ahead = refl
equals_ahead Comparison.Behind = refl
equals_ahead Comparison.Level = refl
equals_ahead Comparison.Neither = refl

-- and with `Level`
pub equals_level : (answer : Comparison) → sameb the_type answer Comparison.Level ≡ is_level answer
unfolding is_level
equals_level Comparison.Ahead = refl
equals_level Comparison.Behind = refl
equals_level Comparison.Level = refl
equals_level Comparison.Neither = refl

-- the answer that the first is ahead
pub ahead_answered : (s : Search) (c b : ℕ) → is_ahead (compared_in s c b) ≡ ahead_in s c b
unfolding compared_in ahead_in
ahead_answered s c b = ahead_told s 64 (member c) (member b)

-- the answer that the two are level
pub level_answered : (s : Search) → s ≢ mns → (c b : ℕ) → is_level (compared_in s c b) ≡ (not (ahead_in s c b) && not (ahead_in s b c))
unfolding compared_in ahead_in
level_answered s other c b = level_told s 64 (member c) (member b) other

-- ---- the kind byte

pub is_kind : (kind k : ℕ) {r : Bool} → r ≡ eqb kind k → r ≡ true → kind ≡ k
is_kind kind k e t = eqb→eq kind k (said_true (eqb kind k) e t)

pub no_kind : (kind k : ℕ) {r : Bool} → r ≡ eqb kind k → r ≡ false → kind ≢ k
no_kind kind k e f is = said_false (eqb kind k) e f (subst (λ (x : ℕ). T (eqb kind x)) is (eqb_refl kind))

pub other_kind : (kind k : ℕ) {r : Bool} → r ≡ not (eqb kind k) → r ≡ true → kind ≢ k
other_kind kind k e t = no_kind kind k refl (not_true (eqb kind k) (sym e ∙ t))

pub of_kind : {kind k : ℕ} {r : Bool} (f : Search → Bool) → kind ≡ k → r ≡ f (search_of k) → r ≡ f (search_of kind)
of_kind {kind} {k} {r} f e h = subst (λ (x : ℕ). r ≡ f (search_of x)) (sym e) h

pub search_of_other : (kind : ℕ) → kind ≢ 1 → kind ≢ 2 → kind ≢ 3 → kind ≢ 4 → kind ≢ 5 → kind ≢ 6 → search_of kind ≡ generic
unfolding search_of
search_of_other zero a b c d e f = refl
search_of_other (suc zero) a b c d e f = absurd (a refl)
search_of_other (suc (suc zero)) a b c d e f = absurd (b refl)
search_of_other (suc (suc (suc zero))) a b c d e f = absurd (c refl)
search_of_other (suc (suc (suc (suc zero)))) a b c d e f = absurd (d refl)
search_of_other (suc (suc (suc (suc (suc zero))))) a b c d e f = absurd (e refl)
search_of_other (suc (suc (suc (suc (suc (suc zero)))))) a b c d e f = absurd (f refl)
search_of_other (suc (suc (suc (suc (suc (suc (suc more))))))) a b c d e f = refl

-- no other byte names MNS
pub search_of_mns : (kind : ℕ) → kind ≢ 5 → search_of kind ≢ mns
unfolding search_of
search_of_mns kind other same = go kind other (subst (λ (s : Search). T (is_mns s)) (sym same) tt)
  where
    is_mns : Search → Bool
    is_mns generic = false
    is_mns bfs = false
    is_mns dfs = false
    is_mns lex_bfs = false
    is_mns lex_dfs = false
    is_mns mns = true
    is_mns mcs = false

    go : (k : ℕ) → k ≢ 5 → T (is_mns (search_of k)) → ⊥
    go zero o t = t
    go (suc zero) o t = t
    go (suc (suc zero)) o t = t
    go (suc (suc (suc zero))) o t = t
    go (suc (suc (suc (suc zero)))) o t = t
    go (suc (suc (suc (suc (suc zero))))) o t = o refl
    go (suc (suc (suc (suc (suc (suc zero)))))) o t = t
    go (suc (suc (suc (suc (suc (suc (suc more))))))) o t = t

-- ---- who is excused

module _ (i c b : ℕ) where
  pub unexcused_generic : b < 2 ^ 64 → eqb b 0 ≡ unexcused_in generic i c b
  unfolding unexcused_in condition meets empty
  unexcused_generic hb = sym (empty_word b hb) ∙ ap not (any_same 64 (member b) (λ d. member b d && true) (λ d _. and_true (member b d)))

  pub unexcused_mns : within 64 (member b) (member c) ≡ unexcused_in mns i c b
  unfolding unexcused_in
  unexcused_mns = numbers.within_first 64 (member c) (member b) ∙ unexcused.unexcused_mns 64 i (member c) (member b)

  pub unexcused_bfs : i < 64 → leb i (first_below 64 (member b)) ≡ unexcused_in bfs i c b
  unfolding unexcused_in condition meets
  unexcused_bfs l = unexcused.none_sooner 64 i (member b) (omega arith)

  pub unexcused_lex_bfs : i < 64 → leb i (first_below 64 (member (difference b c))) ≡ unexcused_in lex_bfs i c b
  unfolding unexcused_in only
  unexcused_lex_bfs l =
      ap (λ (p : ℕ). leb i p) (first_same 64 (member (difference b c)) (only (member b) (member c)) (λ d _. word.member_difference b c d))
      ∙ unexcused.unexcused_lex_bfs 64 i (member c) (member b) (omega arith)

  pub unexcused_lex_dfs : not (any_below 64 (from_up (suc i) (difference b c))) ≡ unexcused_in lex_dfs i c b
  unfolding unexcused_in condition meets from_up only
  unexcused_lex_dfs =
      ap not (any_same 64 (from_up (suc i) (difference b c)) (λ d. only (member b) (member c) d && ltb i d)
      (λ d _. ap (λ (x : Bool). ltb i d && x) (word.member_difference b c d) ∙ swapped (ltb i d) (member b d && not (member c d))))
      ∙ unexcused.only_turned 64 i (member c) (member b) (λ d. ltb i d)
    where
      swapped : (x y : Bool) → (x && y) ≡ (y && x)
      swapped true true = refl
      swapped true false = refl
      swapped false true = refl
      swapped false false = refl
