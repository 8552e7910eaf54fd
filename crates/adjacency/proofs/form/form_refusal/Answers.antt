-- `adjacency::form::form_refusal` meets its contract: each case is tried after those before it.
-- Assumes nothing.
use mathlib.Core.List.{List}
use mathlib.Core.Path.{◌≡◌, sym, ap, ◌∙◌, subst}
use mathlib.Core.Bool.{Bool, false, not}
use Prim.Native.Nat.{ℕ}
use lib.Dec.{T, eqb}
use lib.ListN.{drop, length}
use borrow.Author.Tests.{eq-eqb, ne_eqb}
use Rattle.bitset.specs.Below.{any_below}
use Rattle.searches.specs.Ordering.{at}
use Rattle.searches.specs.Answer.{number, refusal_of}
use Rattle.checks.proofs.Tried.{Tried, tried_none, tried_one, refused_here, accepted_here}
use Rattle.adjacency.specs.Layout.{size_of, falls_at, form_tests, IsCover}
use Rattle.adjacency.proofs.Layouts.{cover_of}
use Rattle.adjacency.proofs.form.form_refusal.Goals as goal
use Rattle.adjacency.proofs.form.form_refusal.Goals.{Else-count-eq0, Else-fall, Else-offset-length, Else-offset-ne0, Else-unsorted, Start}

abbrev offsets_of : Start → List ℕ
offsets_of c = c.args.offsets.now

abbrev neighbours_of : Start → List ℕ
neighbours_of c = c.args.neighbours.now

-- the first i cases do not hold
abbrev Past : ℕ → Start → Type 0
Past i c = Tried (form_tests (offsets_of c) (neighbours_of c)) (drop i (form_tests (offsets_of c) (neighbours_of c)))

-- each of them
never : {b : Bool} → b ≡ false → T b → ⊥
never e t = subst (λ (b : Bool). T b) e t

not_empty : (c : Else-count-eq0) → eqb (length (offsets_of (goal.at.Else-count-eq0 c).Start)) 0 ≡ false
not_empty c = ne_eqb _ _ c.if-count-eq0.false

starts : (c : Else-offset-ne0) → not (eqb (at (offsets_of (goal.at.Else-offset-ne0 c).Start) 0) 0) ≡ false
starts c = ap not (eq-eqb _ _ (sym c.offset.ensures.entry ∙ c.if-offset-ne0.false))

rises : (c : Else-fall) → any_below (size_of (offsets_of (goal.at.Else-fall c).Start)) (falls_at (offsets_of (goal.at.Else-fall c).Start)) ≡ false
rises c = sym c.fall.ensures ∙ c.if-fall.false

ends : (c : Else-offset-length) → not (eqb (at (offsets_of (goal.at.Else-offset-length c).Start) (size_of (offsets_of (goal.at.Else-offset-length c).Start))) (length (neighbours_of (goal.at.Else-offset-length c).Start))) ≡ false
unfolding size_of
ends c = ap not (eq-eqb _ _ (sym c.offset-2.ensures.entry ∙ c.if-offset-length.false))

past_1 : (c : Else-count-eq0) → Past 1 (goal.at.Else-count-eq0 c).Start
unfolding form_tests
past_1 c = tried_one (tried_none _) (not_empty c)

past_2 : (c : Else-offset-ne0) → Past 2 (goal.at.Else-offset-ne0 c).Start
unfolding form_tests
past_2 c = tried_one (past_1 (goal.at.Else-offset-ne0 c).Else-count-eq0) (starts c)

past_3 : (c : Else-fall) → Past 3 (goal.at.Else-fall c).Start
unfolding form_tests
past_3 c = tried_one (past_2 (goal.at.Else-fall c).Else-offset-ne0) (rises c)

past_4 : (c : Else-offset-length) → Past 4 (goal.at.Else-offset-length c).Start
unfolding form_tests
past_4 c = tried_one (past_3 (goal.at.Else-offset-length c).Else-fall) (ends c)

past_5 : (c : Else-unsorted) → Past 5 (goal.at.Else-unsorted c).Start
unfolding form_tests
past_5 c = tried_one (past_4 (goal.at.Else-unsorted c).Else-offset-length) (sym c.unsorted.ensures ∙ c.if-unsorted.false)

-- the offsets cover the neighbour list
cover : (c : Else-offset-length) → IsCover (offsets_of (goal.at.Else-offset-length c).Start) (neighbours_of (goal.at.Else-offset-length c).Start)
cover c =
    cover_of _ _ (never (not_empty (goal.at.Else-offset-length c).Else-count-eq0)) (never (starts (goal.at.Else-offset-length c).Else-offset-ne0)) (never (rises (goal.at.Else-offset-length c).Else-fall)) (never (ends c))

pub returns-then-count-eq0 : goal.returns-then-count-eq0
unfolding form_tests number refusal_of
returns-then-count-eq0 c = refused_here (tried_none _) (eq-eqb _ _ c.if-count-eq0.true)

pub returns-then-offset-ne0 : goal.returns-then-offset-ne0
unfolding form_tests number refusal_of
returns-then-offset-ne0 c = refused_here (past_1 (goal.at.returns-then-offset-ne0 c).Else-count-eq0) (ap not (ne_eqb _ _ (λ same. c.if-offset-ne0.true (c.offset.ensures.entry ∙ same))))

pub returns-then-fall : goal.returns-then-fall
unfolding form_tests number refusal_of
returns-then-fall c = refused_here (past_2 (goal.at.returns-then-fall c).Else-offset-ne0) (sym c.fall.ensures ∙ c.if-fall.true)

pub returns-then-offset-length : goal.returns-then-offset-length
unfolding form_tests size_of number refusal_of
returns-then-offset-length c = refused_here (past_3 (goal.at.returns-then-offset-length c).Else-fall) (ap not (ne_eqb _ _ (λ same. c.if-offset-length.true (c.offset-2.ensures.entry ∙ same))))

pub unsorted-requires : goal.unsorted-requires
unsorted-requires c = cover c

pub returns-then-unsorted : goal.returns-then-unsorted
unfolding form_tests number refusal_of
returns-then-unsorted c = refused_here (past_4 (goal.at.returns-then-unsorted c).Else-offset-length) (sym c.unsorted.ensures ∙ c.if-unsorted.true)

pub returns-then-vertex_outside : goal.returns-then-vertex_outside
unfolding form_tests size_of number refusal_of
returns-then-vertex_outside c = refused_here (past_5 (goal.at.returns-then-vertex_outside c).Else-unsorted) (sym c.vertex_outside.ensures ∙ c.if-vertex_outside.true)

pub returns : goal.returns
unfolding form_tests size_of refusal_of
returns c = accepted_here (tried_one (past_5 (goal.at.returns c).Else-unsorted) (sym c.vertex_outside.ensures ∙ c.if-vertex_outside.false))
