-- `wide::compare::is_unexcused` meets its contract: each search's own condition, by what only the second label has, or by the weights.
-- Assumes nothing.
use mathlib.Core.Path.{◌≡◌, sym, ap, ap₂, ◌∙◌, subst}
use mathlib.Core.Bool.{Bool}
use Prim.Native.Nat.{ℕ, ◌+◌, ◌-◌, ◌<◌, ◌≤◌}
use native.Mathlib.Numerals.{add-one}
use native.Mathlib.Omega.{arith}
use lib.Dec.{ltb, leb, eqb}
use lib.ListN.{get_or}
use Rattle.searches.specs.Kind.{Search, dfs, mcs, search_of}
use Rattle.searches.specs.Violation.{condition, meets}
use Rattle.searches.proofs.Unexcused.{unexcused_lex_bfs, unexcused_lex_dfs, unexcused_mns}
use Rattle.labels.proofs.Comparison.{of_kind, search_of_other}
use Rattle.tables.specs.Rows.{row_of}
use Rattle.wide.specs.Store.{weight_in}
use Rattle.wide.proofs.Comparing.{weight_small}
use Rattle.wide.proofs.Excusing.{unexcused_generic, unexcused_bfs, unexcused_dfs, unexcused_mcs}
use Rattle.wide.proofs.Equal.{equal_told, unequal_told}
use Rattle.wide.proofs.compare.is_unexcused.Goals as goal
use Rattle.wide.proofs.compare.is_unexcused.Goals.{Start}

-- the two labels
abbrev ours : Start → ℕ → Bool
ours s = row_of s.args.labels.now.words s.args.c.0

abbrev theirs : Start → ℕ → Bool
theirs s = row_of s.args.labels.now.words s.args.b.0

-- the condition of a search
abbrev own : Start → Search → Bool
own s x = meets (condition x s.args.i.0) 512 (ours s) (theirs s)

-- a test that is the condition of the search, made on the weight that is kept of the second
by_weight_lem : (s : Start) {x : Search} → search_of s.args.labels.now.kind.0 ≡ x → (test : ℕ → Bool) → test (weight_in x 512 (theirs s)) ≡ own s x
    → test (get_or s.args.labels.now.weights s.args.b.0 0) ≡ own s (search_of s.args.labels.now.kind.0)
by_weight_lem s e test h =
    ap test (s.args.labels.now.stored.weighed.is s.args.b.0 s.requires.2)
    ∙ subst (λ (y : Search). test (weight_in y 512 (theirs s)) ≡ own s y) (sym e) h

-- weights are small
fits : (s : Start) (v : ℕ) → v < 512 → get_or s.args.labels.now.weights v 0 ≤ 512
fits s v l =
    subst (λ (x : ℕ). x ≤ 512) (sym (s.args.labels.now.stored.weighed.is v l)) (weight_small (search_of s.args.labels.now.kind.0) (row_of s.args.labels.now.words v))

pub returns-then-eq : goal.returns-then-eq
unfolding search_of row_of
returns-then-eq c =
    of_kind (own (goal.at.returns-then-eq c).Start) (equal_told c.eq.ensures c.if-eq.true)
    (ap (λ (x : ℕ). leb c.args.i.0 x) c.first_only.ensures
    ∙ unexcused_lex_bfs 512 c.args.i.0 (ours (goal.at.returns-then-eq c).Start) (theirs (goal.at.returns-then-eq c).Start) (omega (arith, c.requires.0)))

pub returns-then-eq-2 : goal.returns-then-eq-2
unfolding search_of row_of
returns-then-eq-2 c =
    of_kind (own (goal.at.returns-then-eq-2 c).Start) (equal_told c.eq-2.ensures c.if-eq-2.true)
    (ap₂ (λ (x y : ℕ). leb x y) c.last_only.ensures (add-one c.args.i.0) ∙ unexcused_lex_dfs 512 c.args.i.0 (ours (goal.at.returns-then-eq-2 c).Start) (theirs (goal.at.returns-then-eq-2 c).Start))

pub returns-then-eq-3 : goal.returns-then-eq-3
unfolding search_of row_of
returns-then-eq-3 c =
    of_kind (own (goal.at.returns-then-eq-3 c).Start) (equal_told c.eq-3.ensures c.if-eq-3.true)
    (ap (λ (x : ℕ). eqb x 512) c.first_only-then-eq-3.ensures ∙ unexcused_mns 512 c.args.i.0 (ours (goal.at.returns-then-eq-3 c).Start) (theirs (goal.at.returns-then-eq-3 c).Start))

pub returns-then-eq-4 : goal.returns-then-eq-4
unfolding search_of
returns-then-eq-4 c =
    by_weight_lem (goal.at.returns-then-eq-4 c).Start (ap search_of (equal_told c.eq-4.ensures c.if-eq-4.true)) (λ x. leb x (512 - c.args.i.0)) (unexcused_bfs c.args.i.0 (ours (goal.at.returns-then-eq-4 c).Start) (theirs (goal.at.returns-then-eq-4 c).Start) (omega (arith, c.requires.0)))

pub returns-then-eq-5 : goal.returns-then-eq-5
unfolding search_of
returns-then-eq-5 c =
    by_weight_lem (goal.at.returns-then-eq-5 c).Start (ap search_of (equal_told c.eq-5.ensures c.if-eq-5.true)) (λ x. leb x (c.args.i.0 + 1))
    (ap (λ (m : ℕ). leb (weight_in dfs 512 (theirs (goal.at.returns-then-eq-5 c).Start)) m) (add-one c.args.i.0) ∙ unexcused_dfs c.args.i.0 (ours (goal.at.returns-then-eq-5 c).Start) (theirs (goal.at.returns-then-eq-5 c).Start))

pub returns-then-eq-6 : goal.returns-then-eq-6
unfolding search_of
returns-then-eq-6 c =
    let e = ap search_of (equal_told c.eq-6.ensures c.if-eq-6.true) in
    by_weight_lem (goal.at.returns-then-eq-6 c).Start e (λ x. ltb x (get_or c.args.labels.now.weights c.args.c.0 0))
    (ap (λ (m : ℕ). ltb (weight_in mcs 512 (theirs (goal.at.returns-then-eq-6 c).Start)) m) (c.args.labels.now.stored.weighed.is c.args.c.0 c.requires.1 ∙ ap (λ (y : Search). weight_in y 512 (ours (goal.at.returns-then-eq-6 c).Start)) e)
    ∙ unexcused_mcs c.args.i.0 (ours (goal.at.returns-then-eq-6 c).Start) (theirs (goal.at.returns-then-eq-6 c).Start))

pub returns : goal.returns
returns c =
    by_weight_lem (goal.at.returns c).Start
    (search_of_other c.args.labels.now.kind.0 (unequal_told c.eq-4.ensures c.if-eq-4.false) (unequal_told c.eq-5.ensures c.if-eq-5.false) (unequal_told c.eq.ensures c.if-eq.false) (unequal_told c.eq-2.ensures c.if-eq-2.false) (unequal_told c.eq-3.ensures c.if-eq-3.false) (unequal_told c.eq-6.ensures c.if-eq-6.false))
    (λ x. eqb x 0) (unexcused_generic c.args.i.0 (ours (goal.at.returns c).Start) (theirs (goal.at.returns c).Start))
