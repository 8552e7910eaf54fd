-- Which passes carry over, and that no others do.
--   search_of_kind, kind_below   the kind byte of a search names it, and is below 7;   same_search   it names no other;   judged_as   what judge answers for it
--   Each Q xs, each_one          Q holds of each of xs; so, where these are searches, of any one of them
--   ahead_carries                for all pairs of the table: who is ahead by s' is ahead by s
--   offered_carries              so a vertex that s offers is offered by s'
--   carries_over                 so a pass of s is a pass of s';   carries_over_answers, carries_over_parts   as the calls answer
--   not_bfs, .. lex_dfs_not_mcs   six plans, each with a walk
--   other_pairs                   a row for each of the 31 pairs that the table does not have: the two searches and one of the six
--   rows_right                   in each row the walk passes the first search and fails the second, the plan taken as two-way
--   ToldApart mark s s'          a walk that passes s and fails s', and its plan of this mark;   told_apart, row_tells   there is one where the pair has a row
--   none_missing, every_pair     every pair is in the table, or has a row
--   does_not_carry_over_answers, does_not_carry_over   so a pass need not carry over where the table has no pair
-- Assumes nothing.
use mathlib.Core.Path.{◌≡◌, refl, sym, ap, ◌∙◌, subst}
use mathlib.Core.Bool.{Bool, true, false, ◌&&◌, ◌||◌}
use mathlib.Core.Logic.{⊎_elim}
use mathlib.Core.List.{List, [], ◌∷◌}
use Prim.Native.Nat.{ℕ, ◌<◌}
use native.Mathlib.Omega.{arith}
use lib.Dec.{T, eqb, eqb→eq}
use lib.ListN.{length, take}
use Rattle.bitset.specs.Below.{any_below, all_below, first_below, count_below}
use Rattle.bitset.specs.Word.{member}
use Rattle.bitset.proofs.Tests.{and_out, or_out}
use Rattle.bitset.proofs.Below.{all_out}
use Rattle.searches.specs.Kind.{Search, generic, bfs, dfs, lex_bfs, lex_dfs, mns, mcs, search_of, kind_of}
use Rattle.searches.specs.Ordering.{arcs, placed, IsOrdering}
use Rattle.searches.specs.Label.{label}
use Rattle.searches.specs.Run.{offered}
use Rattle.searches.specs.Violation.{condition, meets, violates}
use Rattle.searches.specs.Violation.{Verdict, passes, fails, refused, Fails, third, is_last, is_first, is_middle, judge}
use Rattle.searches.specs.Answer.{bit_outside, self_loop, one_way, is_two_way, BothWays, vertex_outside, repeated, is_pass, open_tests, judge_tests, first_refusal, Accepts, judge_answer}
use Rattle.searches.specs.declared.Mark.{Mark}
use Rattle.searches.specs.CarryOver.{further, carries_to, one_of, carries}
use Rattle.searches.proofs.AheadToo.{AheadToo, ahead_generic, ahead_lex_bfs_bfs, ahead_lex_bfs_mns, ahead_lex_dfs_dfs, ahead_lex_dfs_mns, ahead_mcs_mns}
use Rattle.searches.proofs.Ordering.{up_to}
use Rattle.searches.proofs.Run.{offered_in, offered_out}
use Rattle.searches.proofs.CarryOn.{greedy_passes, passes_greedy}
use Rattle.searches.proofs.Answers.{ordering_accepted, accepted_ordering, judge_accepted, passes_accepts, is_pass_out, valid_any_kind}
use Rattle.searches.proofs.Marks.{valid_both_ways, either_judge}
use Rattle.searches.proofs.Examples.{row_of, rows_of, P}

-- ---- searches by their kind bytes

pub search_of_kind : (s : Search) → search_of (kind_of s) ≡ s
unfolding search_of kind_of
search_of_kind generic = refl
search_of_kind bfs = refl
search_of_kind dfs = refl
search_of_kind lex_bfs = refl
search_of_kind lex_dfs = refl
search_of_kind mns = refl
search_of_kind mcs = refl

same_search : (s x : Search) → T (eqb (kind_of s) (kind_of x)) → x ≡ s
same_search s x e = sym (search_of_kind x) ∙ ap search_of (sym (eqb→eq (kind_of s) (kind_of x) e)) ∙ search_of_kind s

pub kind_below : (s : Search) → kind_of s < 7
unfolding kind_of
kind_below generic = omega arith
kind_below bfs = omega arith
kind_below dfs = omega arith
kind_below lex_bfs = omega arith
kind_below lex_dfs = omega arith
kind_below mns = omega arith
kind_below mcs = omega arith

judged_as : (s : Search) (mark : Mark) (rows w : List ℕ) → Accepts (open_tests (kind_of s) mark rows) → IsOrdering (length rows) w (length w)
    → judge_answer (kind_of s) mark rows w ≡ judge s (arcs rows) (length rows) w (length w)
judged_as s mark rows w a o =
    judge_accepted (kind_of s) mark rows w (ordering_accepted (kind_of s) mark rows w a o)
    ∙ ap (λ (x : Search). judge x (arcs rows) (length rows) w (length w)) (search_of_kind s)

-- ---- the pairs of the table

abbrev Each : {A : Type 0} → (A → Type 0) → List A → Type 0
Each Q [] = Unit {0}
Each Q (x ∷ xs) = Q x × Each Q xs

each_one : (Q : Search → Type 0) (ss : List Search) → Each Q ss → (s : Search) → T (one_of s ss) → Q s
unfolding one_of
each_one Q [] all s t = absurd t
each_one Q (x ∷ xs) all s t =
    ⊎_elim (λ e. subst Q (same_search s x e) all.0) (each_one Q xs all.1 s) (or_out (eqb (kind_of s) (kind_of x)) (one_of s xs) t)

further_ahead : (s : Search) → Each (AheadToo s) (further s)
unfolding further
further_ahead generic = tt
further_ahead bfs = tt
further_ahead dfs = tt
further_ahead lex_bfs = (ahead_lex_bfs_bfs, (ahead_lex_bfs_mns, tt))
further_ahead lex_dfs = (ahead_lex_dfs_dfs, (ahead_lex_dfs_mns, tt))
further_ahead mns = tt
further_ahead mcs = (ahead_mcs_mns, tt)

pub ahead_carries : (s s' : Search) → T (carries s s') → AheadToo s s'
unfolding carries carries_to
ahead_carries s s' pair = each_one (AheadToo s) (carries_to s) (λ k c b t. t, (ahead_generic s, further_ahead s)) s' pair

module _ (s s' : Search) (pair : T (carries s s')) where
  pub offered_carries : (arc : ℕ → ℕ → Bool) (n : ℕ) (w : List ℕ) (k v : ℕ) → T (offered s arc n w k v) → T (offered s' arc n w k v)
  offered_carries arc n w k v t =
      let o = offered_out s arc n w k v t in
      offered_in s' arc n w k v (record {
        vertex = o.vertex;
        unplaced = o.unplaced;
        unbeaten = λ u l out ahead. o.unbeaten u l out (ahead_carries s s' pair k (label arc w u) (label arc w v) ahead);
      })

  -- 02: K1, which passes carry over: where the table has the pair, a pass of s is a pass of s', for every graph, every ordering and every cut k of it
  pub carries_over : (arc : ℕ → ℕ → Bool) (n : ℕ) (w : List ℕ) (k : ℕ) → IsOrdering n w k → judge s arc n w k ≡ passes → judge s' arc n w k ≡ passes
  carries_over arc n w k o p = greedy_passes s' arc n w k o.long (λ j l. offered_carries arc n w j _ (passes_greedy s arc n w k o p j l))

module _ (kind kind' : ℕ) (pair : T (carries (search_of kind) (search_of kind'))) (known : kind' < 7) where
  -- 02: K1, the same as the calls answer: for every plan, a walk that judge passes for the first kind it passes for the second,
  pub carries_over_answers : (mark : Mark) (rows w : List ℕ) → judge_answer kind mark rows w ≡ passes → judge_answer kind' mark rows w ≡ passes
  carries_over_answers mark rows w p =
      let a = passes_accepts kind mark rows w p in
      let x = accepted_ordering kind mark rows w a in
      judge_accepted kind' mark rows w (ordering_accepted kind' mark rows w (valid_any_kind kind kind' mark rows known x.0) x.1)
      ∙ carries_over (search_of kind) (search_of kind') pair (arcs rows) (length rows) w (length w) x.1 (sym (judge_accepted kind mark rows w a) ∙ p)

  -- and so every part of a walk
  pub carries_over_parts : (mark : Mark) (rows w : List ℕ) (k : ℕ) → judge_answer kind mark rows (take k w) ≡ passes → judge_answer kind' mark rows (take k w) ≡ passes
  carries_over_parts mark rows w k = carries_over_answers mark rows (take k w)

-- ---- the other pairs

record Witness : Type 0 where
  plan : List ℕ
  walk : List ℕ

-- passes all but BFS and LexBFS
not_bfs : Witness
not_bfs = record { plan = P; walk = 0 ∷ 1 ∷ 3 ∷ [] }

-- passes all but DFS and LexDFS
not_dfs : Witness
not_dfs = record { plan = P; walk = 0 ∷ 1 ∷ 2 ∷ [] }

-- passes Generic and BFS only
only_bfs : Witness
only_bfs = record { plan = rows_of 4 ((0, 1) ∷ (0, 2) ∷ (0, 3) ∷ (1, 3) ∷ []); walk = 0 ∷ 1 ∷ 2 ∷ [] }

-- passes Generic and DFS only
only_dfs : Witness
only_dfs = record { plan = rows_of 4 ((0, 1) ∷ (0, 3) ∷ (1, 2) ∷ (1, 3) ∷ []); walk = 0 ∷ 1 ∷ 2 ∷ [] }

-- passes Generic, BFS, LexBFS and MNS only
lex_bfs_not_mcs : Witness
lex_bfs_not_mcs = record { plan = rows_of 5 ((0, 1) ∷ (0, 2) ∷ (0, 3) ∷ (1, 4) ∷ (2, 4) ∷ []); walk = 0 ∷ 1 ∷ 2 ∷ 3 ∷ [] }

-- passes Generic, DFS, LexDFS and MNS only
lex_dfs_not_mcs : Witness
lex_dfs_not_mcs = record { plan = rows_of 5 ((0, 1) ∷ (0, 2) ∷ (0, 4) ∷ (1, 2) ∷ (1, 4) ∷ (2, 3) ∷ []); walk = 0 ∷ 1 ∷ 2 ∷ 3 ∷ [] }

data Row : Type 0 where
  row : (from to : Search) (witness : Witness) → Row

other_pairs : List Row
other_pairs =
    row generic bfs not_bfs
    ∷ row generic dfs not_dfs
    ∷ row generic lex_bfs not_bfs
    ∷ row generic lex_dfs not_dfs
    ∷ row generic mns only_bfs
    ∷ row generic mcs only_bfs
    ∷ row bfs dfs not_dfs
    ∷ row bfs lex_bfs only_bfs
    ∷ row bfs lex_dfs not_dfs
    ∷ row bfs mns only_bfs
    ∷ row bfs mcs only_bfs
    ∷ row dfs bfs not_bfs
    ∷ row dfs lex_bfs not_bfs
    ∷ row dfs lex_dfs only_dfs
    ∷ row dfs mns only_dfs
    ∷ row dfs mcs only_dfs
    ∷ row lex_bfs dfs not_dfs
    ∷ row lex_bfs lex_dfs not_dfs
    ∷ row lex_bfs mcs lex_bfs_not_mcs
    ∷ row lex_dfs bfs not_bfs
    ∷ row lex_dfs lex_bfs not_bfs
    ∷ row lex_dfs mcs lex_dfs_not_mcs
    ∷ row mns bfs not_bfs
    ∷ row mns dfs not_dfs
    ∷ row mns lex_bfs not_bfs
    ∷ row mns lex_dfs not_dfs
    ∷ row mns mcs lex_bfs_not_mcs
    ∷ row mcs bfs not_bfs
    ∷ row mcs dfs not_dfs
    ∷ row mcs lex_bfs not_bfs
    ∷ row mcs lex_dfs not_dfs
    ∷ []

is_fail : Verdict → Bool
is_fail passes = false
is_fail (fails a b c) = true
is_fail (refused r) = false

is_fail_out : (v : Verdict) → T (is_fail v) → Fails v
unfolding is_fail
is_fail_out passes t = absurd t
is_fail_out (fails a b c) t = (a, b, c, refl)
is_fail_out (refused r) t = absurd t

verdict : Search → Witness → Verdict
verdict s x = judge_answer (kind_of s) Mark.TwoWay x.plan x.walk

abbrev Right : Row → Type 0
Right (row s s' x) = (verdict s x ≡ passes) × Fails (verdict s' x)

right : List Row → Bool
right [] = true
right (row s s' x ∷ rs) = is_pass (verdict s x) && is_fail (verdict s' x) && right rs

right_out : (rs : List Row) → T (right rs) → Each Right rs
unfolding right
right_out [] t = tt
right_out (row s s' x ∷ rs) t =
    let both = and_out (is_pass (verdict s x) && is_fail (verdict s' x)) (right rs) t in
    let here = and_out (is_pass (verdict s x)) (is_fail (verdict s' x)) both.0 in
    ((is_pass_out (verdict s x) here.0, is_fail_out (verdict s' x) here.1), right_out rs both.1)

-- 02: K1, in each row the walk passes the first search and fails the second
rows_right : Each Right other_pairs
unfolding right verdict other_pairs not_bfs not_dfs only_bfs only_dfs lex_bfs_not_mcs lex_dfs_not_mcs is_fail rows_of row_of P up_to
    any_below first_below count_below member search_of kind_of arcs placed label condition meets violates
    third is_last is_first is_middle judge bit_outside self_loop one_way is_two_way vertex_outside repeated is_pass open_tests judge_tests first_refusal judge_answer
rows_right = right_out other_pairs tt

-- ---- every pair is in the table, or has a row

-- a valid plan, and a walk of it that passes s and fails s'
pub record ToldApart (mark : Mark) (s s' : Search) : Type 0 where
  pub plan : List ℕ
  pub walk : List ℕ
  pub valid : Accepts (open_tests (kind_of s) mark plan)
  pub ordering : IsOrdering (length plan) walk (length walk)
  pub passing : judge_answer (kind_of s) mark plan walk ≡ passes
  pub failing : Fails (judge_answer (kind_of s') mark plan walk)

-- the plan is valid, so every link goes both ways, and the other mark gets the same answers
told_apart : (mark : Mark) (s s' : Search) (x : Witness) → Right (row s s' x) → ToldApart mark s s'
unfolding verdict is_two_way
told_apart mark s s' x right =
    let passing = same s ∙ right.0 in
    let o = accepted_ordering (kind_of s) mark x.plan x.walk (passes_accepts (kind_of s) mark x.plan x.walk passing) in
    let f = right.1 in
    record { plan = x.plan; walk = x.walk; valid = o.0; ordering = o.1; passing = passing; failing = (f.0, f.1, f.2, same s' ∙ f.3) }
  where
    both_ways : BothWays x.plan
    both_ways =
        valid_both_ways (kind_of s) Mark.TwoWay x.plan
        (accepted_ordering (kind_of s) Mark.TwoWay x.plan x.walk (passes_accepts (kind_of s) Mark.TwoWay x.plan x.walk right.0)).0 tt

    same : (z : Search) → judge_answer (kind_of z) mark x.plan x.walk ≡ judge_answer (kind_of z) Mark.TwoWay x.plan x.walk
    same z = either_judge (kind_of z) mark Mark.TwoWay x.plan both_ways x.walk

module _ (s s' : Search) where
  same_pair : Search → Search → Bool
  same_pair from to = eqb (kind_of s) (kind_of from) && eqb (kind_of s') (kind_of to)

  has_row : List Row → Bool
  has_row [] = false
  has_row (row from to x ∷ rs) = same_pair from to || has_row rs

  row_tells : (mark : Mark) (rs : List Row) → Each Right rs → T (has_row rs) → ToldApart mark s s'
  unfolding has_row same_pair
  row_tells mark [] all t = absurd t
  row_tells mark (row from to x ∷ rs) all t = ⊎_elim here (row_tells mark rs all.1) (or_out (same_pair from to) (has_row rs) t)
    where
      here : T (same_pair from to) → ToldApart mark s s'
      here e =
          let both = and_out (eqb (kind_of s) (kind_of from)) (eqb (kind_of s') (kind_of to)) e in
          subst (λ (z : Search). ToldApart mark z s') (same_search s from both.0)
          (subst (ToldApart mark from) (same_search s' to both.1) (told_apart mark from to x all.0))

accounted_for : Search → Search → Bool
accounted_for s s' = carries s s' || has_row s s' other_pairs

none_missing : T (all_below 7 (λ kind. all_below 7 (λ kind'. accounted_for (search_of kind) (search_of kind'))))
unfolding accounted_for carries carries_to further one_of has_row same_pair other_pairs all_below search_of kind_of
none_missing = tt

every_pair : (s s' : Search) → T (accounted_for s s')
every_pair s s' =
    subst (λ (x : Search). T (accounted_for x s')) (search_of_kind s)
    (subst (λ (x : Search). T (accounted_for (search_of (kind_of s)) x)) (search_of_kind s')
    (all_out 7 (λ kind'. accounted_for (search_of (kind_of s)) (search_of kind'))
    (all_out 7 (λ kind. all_below 7 (λ kind'. accounted_for (search_of kind) (search_of kind'))) none_missing (kind_of s) (kind_below s))
    (kind_of s') (kind_below s')))

module _ (s s' : Search) (other : T (carries s s') → ⊥) where
  -- 02: K1, which passes carry over: no others do. Where the table has no pair, judge passes some walk of some valid plan, of either mark, for s and
  -- fails it for s',
  pub does_not_carry_over_answers : (mark : Mark) → ToldApart mark s s'
  unfolding accounted_for
  does_not_carry_over_answers mark = ⊎_elim (λ t. absurd (other t)) (row_tells s s' mark other_pairs rows_right) (or_out (carries s s') (has_row s s' other_pairs) (every_pair s s'))

  -- and so, of graphs, some ordering passes s and fails s'
  pub does_not_carry_over : (arc : ℕ → ℕ → Bool) × (n : ℕ) × (w : List ℕ) × (k : ℕ)
      × IsOrdering n w k × (judge s arc n w k ≡ passes) × Fails (judge s' arc n w k)
  does_not_carry_over =
      let x = does_not_carry_over_answers Mark.TwoWay in
      let f = x.failing in
      let valid = valid_any_kind (kind_of s) (kind_of s') Mark.TwoWay x.plan (kind_below s') x.valid in (
        arcs x.plan,
        length x.plan,
        x.walk,
        length x.walk,
        x.ordering,
        sym (judged_as s Mark.TwoWay x.plan x.walk x.valid x.ordering) ∙ x.passing,
        (f.0, f.1, f.2, sym (judged_as s' Mark.TwoWay x.plan x.walk valid x.ordering) ∙ f.3),
      )
