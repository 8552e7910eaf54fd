-- `labels::compare` meets its contract: MNS by two inclusions, the others by the weights, told both ways round.
-- Assumes nothing.
use mathlib.Core.Path.{sym, ap, ◌∙◌}
use Prim.Native.Nat.{ℕ, ◌<◌, ◌^◌}
use borrow.Author.Rules.{rules}
use Rattle.searches.specs.Kind.{search_of}
use Rattle.labels.specs.Words.{compared_in}
use Rattle.labels.proofs.Comparison.{ranked_words, mns_compared, is_kind, no_kind, search_of_mns}
use Rattle.labels.proofs.Profiles.{profiles_ahead}
use Rattle.labels.proofs.compare.Goals as goal
use Rattle.labels.proofs.compare.Goals.{Start}

-- labels are words
c_word : (s : Start) → s.args.c.label < 2 ^ 64
c_word s = search rules

b_word : (s : Start) → s.args.b.label < 2 ^ 64
b_word s = search rules

pub returns-then-eq : goal.returns-then-eq
unfolding search_of
returns-then-eq c =
    let x = c.args in
    c.told_by.ensures ∙ mns_compared x.c.label x.b.label c.subset-covers.ensures c.subset-covered.ensures
    ∙ ap (λ (k : ℕ). compared_in (search_of k) x.c.label x.b.label) (sym (is_kind x.kind.0 5 c.eq.ensures c.if-eq.true))

pub returns : goal.returns
returns c =
    let x = c.args in
    let k = search_of x.kind.0 in
    let other = search_of_mns x.kind.0 (no_kind x.kind.0 5 c.eq.ensures c.if-eq.false) in
    c.told_by-2.ensures
    ∙ ranked_words k other x.c.label x.b.label (profiles_ahead k other x.c x.b c.requires.0 c.requires.1 (c_word (goal.at.returns c).Start) (b_word (goal.at.returns c).Start))
    (profiles_ahead k other x.b x.c c.requires.1 c.requires.0 (b_word (goal.at.returns c).Start) (c_word (goal.at.returns c).Start))
