-- `violation::is_unexcused` meets its contract: each search by its law.
-- Assumes nothing.
use mathlib.Core.Path.{sym, ap, ◌∙◌}
use mathlib.Core.Bool.{not}
use Prim.Native.Nat.{ℕ, suc, ◌+◌, ◌-◌, ◌<◌, ◌^◌}
use native.Mathlib.Omega.{arith}
use native.Mathlib.Numerals.{add-one}
use lib.Dec.{leb}
use borrow.Author.Rules.{rules}
use Rattle.bitset.specs.Below.{any_below, first_below}
use Rattle.bitset.specs.Word.{member, difference, from_up}
use Rattle.searches.specs.Kind.{Search, search_of}
use Rattle.searches.specs.Comparison.{is_ahead}
use Rattle.labels.specs.Weights.{weight_of}
use Rattle.labels.specs.Words.{unexcused_in}
use Rattle.labels.proofs.Comparison.{is_kind, no_kind, equals_ahead, ahead_answered, unexcused_generic, unexcused_mns, unexcused_lex_bfs, unexcused_lex_dfs, of_kind, search_of_other}
use Rattle.labels.proofs.Weights.{bfs_unexcused, dfs_unexcused}
use Rattle.labels.proofs.Profiles.{weight_of_lem, unexcused_mcs}
use Rattle.violation.proofs.is_unexcused.Goals as goal
use Rattle.violation.proofs.is_unexcused.Goals.{Start}

pub returns-then-eq : goal.returns-then-eq
unfolding search_of
returns-then-eq c =
    let x = c.args in
    let is = is_kind x.kind.0 1 c.eq.ensures c.if-eq.true in
    ap (λ (w : ℕ). leb w (64 - x.position.0)) (weight_of_lem (search_of x.kind.0) x.b c.requires.2 ∙ ap (λ (k : ℕ). weight_of (search_of k) x.b.label) is)
    ∙ bfs_unexcused x.position.0 x.c.label x.b.label c.requires.0 ∙ ap (λ (k : ℕ). unexcused_in (search_of k) x.position.0 x.c.label x.b.label) (sym is)

pub returns-then-eq-2 : goal.returns-then-eq-2
unfolding search_of
returns-then-eq-2 c =
    let x = c.args in
    let is = is_kind x.kind.0 2 c.eq-2.ensures c.if-eq-2.true in
    ap (λ (p : ℕ). leb x.b.weight p) (add-one x.position.0)
    ∙ ap (λ (w : ℕ). leb w (suc x.position.0)) (weight_of_lem (search_of x.kind.0) x.b c.requires.2 ∙ ap (λ (k : ℕ). weight_of (search_of k) x.b.label) is)
    ∙ dfs_unexcused x.position.0 x.c.label x.b.label ∙ ap (λ (k : ℕ). unexcused_in (search_of k) x.position.0 x.c.label x.b.label) (sym is)

pub returns-then-eq-3 : goal.returns-then-eq-3
unfolding search_of
returns-then-eq-3 c =
    let x = c.args in
    of_kind (λ k. unexcused_in k x.position.0 x.c.label x.b.label) (is_kind x.kind.0 3 c.eq-3.ensures c.if-eq-3.true)
    (ap (λ (p : ℕ). leb x.position.0 p) c.smallest.ensures ∙ ap (λ (y : ℕ). leb x.position.0 (first_below 64 (member y))) c.without.ensures
    ∙ unexcused_lex_bfs x.position.0 x.c.label x.b.label (omega arith))

pub returns-then-eq-4 : goal.returns-then-eq-4
unfolding search_of
returns-then-eq-4 c =
    let x = c.args in
    of_kind (λ k. unexcused_in k x.position.0 x.c.label x.b.label) (is_kind x.kind.0 4 c.eq-4.ensures c.if-eq-4.true)
    (ap not c.any_from.ensures ∙ ap (λ (y : ℕ). not (any_below 64 (from_up (x.position.0 + 1) y))) c.without-then-eq-4.ensures
    ∙ ap (λ (p : ℕ). not (any_below 64 (from_up p (difference x.b.label x.c.label)))) (add-one x.position.0) ∙ unexcused_lex_dfs x.position.0 x.c.label x.b.label)

pub returns-then-eq-5 : goal.returns-then-eq-5
unfolding search_of
returns-then-eq-5 c =
    let x = c.args in
    of_kind (λ k. unexcused_in k x.position.0 x.c.label x.b.label) (is_kind x.kind.0 5 c.eq-5.ensures c.if-eq-5.true) (c.subset.ensures ∙ unexcused_mns x.position.0 x.c.label x.b.label)

pub compare-requires : goal.compare-requires
compare-requires c = (c.requires.1, c.requires.2)

pub returns-then-eq-6 : goal.returns-then-eq-6
unfolding search_of
returns-then-eq-6 c =
    let x = c.args in
    let k = search_of x.kind.0 in
    c.eq-then-eq-6.ensures ∙ equals_ahead c.compare.result ∙ ap is_ahead c.compare.ensures ∙ ahead_answered k x.c.label x.b.label
    ∙ unexcused_mcs k (ap search_of (is_kind x.kind.0 6 c.eq-6.ensures c.if-eq-6.true)) x.position.0 x.c.label x.b.label

-- a label is a word
b_word : (s : Start) → s.args.b.label < 2 ^ 64
b_word s = search rules

pub returns : goal.returns
returns c =
    let x = c.args in
    unexcused_generic x.position.0 x.c.label x.b.label (b_word (goal.at.returns c).Start)
    ∙ ap (λ (k : Search). unexcused_in k x.position.0 x.c.label x.b.label)
    (sym
    (search_of_other x.kind.0 (no_kind x.kind.0 1 c.eq.ensures c.if-eq.false) (no_kind x.kind.0 2 c.eq-2.ensures c.if-eq-2.false) (no_kind x.kind.0 3 c.eq-3.ensures c.if-eq-3.false) (no_kind x.kind.0 4 c.eq-4.ensures c.if-eq-4.false)
    (no_kind x.kind.0 5 c.eq-5.ensures c.if-eq-5.false) (no_kind x.kind.0 6 c.eq-6.ensures c.if-eq-6.false)))
