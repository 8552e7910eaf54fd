-- The verdict from the words: the replay stops at the middle of the first violation, and the searches there find its other two vertices. Only the
-- vertices of a set take part.
--   offered_unless_stopped, stops_middle    the replay stops at a vertex that is not offered: the middle of a violation
--   later_same, unexcused_same              the two conditions on c that the words decide
--   violates_same, last_same, first_same    the tests of the two searches
--   first_before, words_found               the searches find something
--   judge_passes_words, judge_fails_words   and the verdict is what they find
-- Assumes nothing.
use mathlib.Core.Path.{◌≡◌, refl, sym, ap, ◌∙◌, subst}
use mathlib.Core.Bool.{Bool, true, false, not, ◌&&◌, and_comm}
use mathlib.Core.List.{List}
use Prim.Native.Nat.{ℕ, suc, ◌+◌, ◌≤◌, ◌<◌}
use native.Mathlib.Omega.{arith}
use lib.Dec.{T, ltb, eqb, ltb→lt, lt→ltb, not_T}
use lib.ListN.{length, get_or}
use Rattle.bitset.specs.Below.{first_below}
use Rattle.bitset.specs.Word.{member}
use Rattle.bitset.proofs.Tests.{and_out, and_same, eqb_comm, is_true, cond_yes, cond_no}
use Rattle.bitset.proofs.Below.{any_out, any_same, first, first_found, first_same as first-same-test}
use Rattle.bitset.proofs.Word as word
use Rattle.searches.specs.Kind.{Search}
use Rattle.searches.specs.Ordering.{arcs, at, placed, IsOrdering}
use Rattle.searches.specs.Label.{label}
use Rattle.searches.specs.Violation.{condition, meets, violates, Verdict, passes, fails, third, is_last}
use Rattle.searches.proofs.Ordering.{ordering_unplaced, ordering_fits}
use Rattle.searches.proofs.Kept.{kept_last, kept_first, kept_middle, judge_kept, offered_kept}
use Rattle.searches.proofs.Middle.{kept_unless_middle}
use Rattle.labels.specs.Words.{unexcused_in}
use Rattle.offers.specs.Open.{open_in}
use Rattle.steps.specs.Steps.{AreVertices, labels_after, free_after, stops_at}
use Rattle.violation.specs.Fault.{violates_in, last_in, first_in}
use Rattle.steps.proofs.Representation.{meets_cut, free_members, free_unplaced, label_members, open_offered}

module _ (s : Search) (rows : List ℕ) (all : ℕ) (w : List ℕ) (k : ℕ) (small : length rows ≤ 64) (inside : AreVertices (length rows) all) (o : IsOrdering (length rows) w k)
    (stays : (p : ℕ) → p < k → T (member all (at w p))) where
  abbrev n : ℕ
  n = length rows

  abbrev arc : ℕ → ℕ → Bool
  arc = arcs rows

  -- the words after the first j vertices
  abbrev labels : ℕ → List ℕ
  labels = labels_after rows all w

  abbrev free : ℕ → ℕ
  free = free_after all w

  -- ---- where the replay stops

  -- the vertex whose turn it is is unplaced
  turn_free : (j : ℕ) → j < k → T (member (free j) (at w j))
  turn_free j l = subst (λ (b : Bool). T b) (sym (free_unplaced all w j (at w j) (stays j l))) (not_T (placed w j (at w j)) (ordering_unplaced n o j l))

  pub offered_unless_stopped : (j : ℕ) → j < k → offered_kept s arc n (member all) w j (at w j) ≡ not (stops_at s rows all w j)
  unfolding stops_at open_in
  offered_unless_stopped j l =
      sym (open_offered s rows all w k small inside o j (omega arith) (at w j))
      ∙ ap (λ (b : Bool). b && not (stops_at s rows all w j)) (is_true (member (free j) (at w j)) (turn_free j l))

  pub stops_middle : (j : ℕ) → j < k → stops_at s rows all w j ≡ kept_middle s arc n (member all) w k j
  stops_middle j l =
      flip (stops_at s rows all w j) (kept_middle s arc n (member all) w k j)
      (sym (offered_unless_stopped j l) ∙ kept_unless_middle s arc n (member all) w k o stays j l)
    where
      flip : (a b : Bool) → not a ≡ not b → a ≡ b
      flip true true e = refl
      flip true false e = sym e
      flip false true e = sym e
      flip false false e = refl

  -- ---- the searches for the other two vertices

  pub later_same : (j c : ℕ) → (member (free j) c && not (eqb c (at w j))) ≡ (member all c && not (placed w (suc j) c))
  unfolding free_after
  later_same j c =
      ap (λ (b : Bool). member (free j) c && not b) (eqb_comm c (at w j))
      ∙ and_comm (member (free j) c) (not (eqb (at w j) c)) ∙ sym (word.member_removed (free j) (at w j) c) ∙ free_members all w (suc j) c

  pub unexcused_same : (j i c b : ℕ) → j ≤ k → T (member (free j) c) → T (member (free j) b)
      → unexcused_in s i (get_or (labels j) c 0) (get_or (labels j) b 0)
      ≡ meets (condition s i) j (label arc w c) (label arc w b)
  unfolding unexcused_in
  unexcused_same j i c b h c-free b-free =
      meets_cut j 64 (member (get_or (labels j) c 0)) (member (get_or (labels j) b 0)) (label arc w c) (label arc w b) (omega (arith, ordering_fits n o))
      (label_members rows all w k small inside o j h c c-free) (label_members rows all w k small inside o j h b b-free) (condition s i)

  pub violates_same : (j i c : ℕ) → j < k → violates_in s rows w (labels j) (free j) j i c ≡ (member all c && violates s arc w i j c)
  unfolding violates_in violates
  violates_same j i c l =
      and_same leads_later (unexcused_in s i (get_or (labels j) c 0) (get_or (labels j) (at w j) 0)) own (λ t. unexcused_same j i c (at w j) (omega arith) (is_free t) (turn_free j l))
      ∙ ap (λ (later : Bool). leads && later && own) (later_same j c) ∙ pull leads (member all c) (not (placed w (suc j) c)) own
    where
      leads : Bool
      leads = arc (at w i) c && not (arc (at w i) (at w j))

      own : Bool
      own = meets (condition s i) j (label arc w c) (label arc w (at w j))

      leads_later : Bool
      leads_later = leads && (member (free j) c && not (eqb c (at w j)))

      is_free : T leads_later → T (member (free j) c)
      is_free t = (and_out (member (free j) c) (not (eqb c (at w j))) (and_out leads (member (free j) c && not (eqb c (at w j))) t).1).0

      pull : (x a b y : Bool) → (x && (a && b) && y) ≡ (a && (x && b && y))
      pull true true b y = refl
      pull true false b y = refl
      pull false true b y = refl
      pull false false b y = refl

  pub last_same : (j i e : ℕ) → j < k → last_in s rows w (labels j) (free j) j k i e ≡ kept_last s arc n (member all) w k j i e
  unfolding last_in kept_last is_last
  last_same j i e l = violates_same j i (third w k e) l

  pub first_same : (j i : ℕ) → j < k → first_in s rows w (labels j) (free j) j k i ≡ kept_first s arc n (member all) w k j i
  unfolding first_in kept_first
  first_same j i l = any_same (k + n) (last_in s rows w (labels j) (free j) j k i) (kept_last s arc n (member all) w k j i) (λ e _. last_same j i e l)

  -- ---- the verdict

  same_middle : first_below k (stops_at s rows all w) ≡ first_below k (kept_middle s arc n (member all) w k)
  same_middle = first-same-test k (stops_at s rows all w) (kept_middle s arc n (member all) w k) stops_middle

  pub judge_passes_words : k ≤ first_below k (stops_at s rows all w) → judge_kept s arc n (member all) w k ≡ passes
  unfolding judge_kept
  judge_passes_words l =
      let j = first_below k (kept_middle s arc n (member all) w k) in
      cond_no (ltb j k) _ passes (λ t. omega (arith, same_middle, ltb→lt j k t))

  module _ (j : ℕ) (stops : j ≡ first_below k (stops_at s rows all w)) (l : j < k) (i : ℕ)
      (starts : i ≡ first_below j (first_in s rows w (labels j) (free j) j k)) where
    same_first : i ≡ first_below j (kept_first s arc n (member all) w k j)
    same_first = starts ∙ first-same-test j (first_in s rows w (labels j) (free j) j k) (kept_first s arc n (member all) w k j) (λ x _. first_same j x l)

    -- the middle and the first vertex are met
    middle_met : T (kept_middle s arc n (member all) w k j)
    middle_met =
        subst (λ (x : ℕ). T (kept_middle s arc n (member all) w k x)) (sym (stops ∙ same_middle))
        ((first k (kept_middle s arc n (member all) w k)).holds (omega (arith, same_middle)))

    pub first_before : i < j
    unfolding kept_middle
    first_before = omega (arith, same_first, first_found (any_out j (kept_first s arc n (member all) w k j) middle_met))

    first_met : T (kept_first s arc n (member all) w k j i)
    first_met =
        subst (λ (x : ℕ). T (kept_first s arc n (member all) w k j x)) (sym same_first)
        ((first j (kept_first s arc n (member all) w k j)).holds (omega (arith, same_first, first_before)))

    module _ (e : ℕ) (ends : e ≡ first_below (k + n) (last_in s rows w (labels j) (free j) j k i)) where
      same_last : e ≡ first_below (k + n) (kept_last s arc n (member all) w k j i)
      same_last = ends ∙ first-same-test (k + n) (last_in s rows w (labels j) (free j) j k i) (kept_last s arc n (member all) w k j i) (λ x _. last_same j i x l)

      pub words_found : (i < j) × (e < k + n)
      unfolding kept_first
      words_found = (first_before, omega (arith, same_last, first_found (any_out (k + n) (kept_last s arc n (member all) w k j i) first_met)))

      pub judge_fails_words : judge_kept s arc n (member all) w k ≡ fails (at w i) (at w j) (third w k e)
      unfolding judge_kept
      judge_fails_words =
          cond_yes (ltb m k) (from m) passes (lt→ltb m k (omega (arith, same_middle))) ∙ ap from (sym (stops ∙ same_middle))
          ∙ ap (λ (x : ℕ). fails (at w x) (at w j) (third w k (first_below (k + n) (kept_last s arc n (member all) w k j x)))) (sym same_first)
          ∙ ap (λ (x : ℕ). fails (at w i) (at w j) (third w k x)) (sym same_last)
        where
          m : ℕ
          m = first_below k (kept_middle s arc n (member all) w k)

          -- the verdict from the position of the middle vertex
          from : ℕ → Verdict
          from x =
              let a = first_below x (kept_first s arc n (member all) w k x) in
              fails (at w a) (at w x) (third w k (first_below (k + n) (kept_last s arc n (member all) w k x a)))
