-- `traversal::Traversal::place_refusal` meets its contract: each answer is given after the tests before it were tried. The facts on the tests are found by
-- what they say, and not by name.
-- Assumes nothing.
use mathlib.Core.Path.{◌≡◌, refl, sym, ap, ◌∙◌, subst}
use mathlib.Core.Bool.{Bool, true, false, not}
use Prim.Native.Nat.{ℕ, ◌<◌}
use native.Mathlib.Omega.{arith}
use Rattle.std.proofs.Common.{rules}
use borrow.Author.Tests.{le-leb, lt-leb}
use lib.Dec.{T, eqb}
use lib.ListN.{drop, length}
use Rattle.bitset.specs.Word.{member}
use Rattle.bitset.proofs.Tests.{not_true, not_false, said_true}
use Rattle.searches.specs.Kind.{search_of}
use Rattle.searches.specs.Ordering.{placed}
use Rattle.searches.specs.Answer.{number, refusal_of}
use Rattle.checks.proofs.Tried.{Tried, tried_none, tried_one, refused_here, accepted_here}
use Rattle.offers.specs.Open.{open_in}
use Rattle.engine.specs.declared.after.Moment.{Moment}
use Rattle.traversal.specs.declared.Traversal.{Traversal}
use Rattle.steps.specs.Steps.{whole, labels_after, free_after}
use Rattle.traversal.specs.State.{plan, walk, in_service, well_formed, Surveyed, WellFormed, offers, place_tests, place_answer}
use Rattle.traversal.proofs.WellFormed.{surveyed_words, well_formed_out, open_offers, free_offers, free_none, free_some}
use Rattle.traversal.proofs.Traversal.place_refusal.Goals as goal
use Rattle.traversal.proofs.Traversal.place_refusal.Goals.{Start}

-- the arrays have 64 entries
arrays : (s : Start) → (length s.args.self.now.rows ≡ 64) × (length s.args.self.now.ordering ≡ 64)
arrays s = (search rules, search rules)

-- the first i tests do not hold
abbrev Past : ℕ → Traversal → ℕ → Type 0
Past i t v = Tried (place_tests t v) (drop i (place_tests t v))

-- ---- what is known once 13 does not apply

module _ (t : Traversal) (full : (length t.rows ≡ 64) × (length t.ordering ≡ 64)) {m : Moment} (sound : true ≡ well_formed t) (is : Surveyed t m) where
  formed : WellFormed t
  formed = well_formed_out t full.0 full.1 (said_true (well_formed t) sound refl)

  words : (m.labels.words ≡ labels_after (plan t) (whole t.n t.barred) (walk t) t.k) × (m.free ≡ free_after (whole t.n t.barred) (walk t) t.k)
  words = surveyed_words t full.0 full.1 is (said_true (well_formed t) sound refl)

  -- where none is unplaced, all that are not barred are placed
  none_left : m.free ≡ 0 → eqb t.k (in_service t) ≡ true
  none_left e = free_none t full.0 full.1 formed words.0 words.1 e

  some_left : 0 < m.free → eqb t.k (in_service t) ≡ false
  some_left l = free_some t full.0 full.1 formed words.0 words.1 l

  -- a vertex that is not barred is placed or unplaced
  unplaced : (v : ℕ) → v < t.n → member t.barred v ≡ false → not (placed (walk t) t.k v) ≡ member m.free v
  unplaced v l out = sym (free_offers t full.0 full.1 formed words.0 words.1 v l (λ x. subst (λ (b : Bool). T b) out x))

  may_be_next : (v : ℕ) → offers t v ≡ open_in (search_of m.labels.kind.0) m.labels.words m.free v
  may_be_next v = sym (ap (λ (kind : ℕ). open_in (search_of kind) m.labels.words m.free v) is.of_kind ∙ open_offers t full.0 full.1 formed words.0 words.1 v)

  -- ---- the tests in their order

  past_1 : (v : ℕ) → Past 1 t v
  unfolding place_tests
  past_1 v = tried_one (tried_none _) (ap not (sym sound))

  past_2 : (v : ℕ) → 0 < m.free → Past 2 t v
  unfolding place_tests
  past_2 v left = tried_one (past_1 v) (some_left left)

  past_3 : (v : ℕ) → 0 < m.free → v < t.n → Past 3 t v
  unfolding place_tests
  past_3 v left inside = tried_one (past_2 v left) (lt-leb _ _ inside)

  past_4 : (v : ℕ) → 0 < m.free → v < t.n → member t.barred v ≡ false → Past 4 t v
  unfolding place_tests
  past_4 v left inside out = tried_one (past_3 v left inside) out

  past_5 : (v : ℕ) → 0 < m.free → v < t.n → member t.barred v ≡ false → member m.free v ≡ true → Past 5 t v
  unfolding place_tests
  past_5 v left inside out free = tried_one (past_4 v left inside out) (not_true _ (unplaced v inside out ∙ free))

  past_6 : (v : ℕ) → 0 < m.free → v < t.n → member t.barred v ≡ false → member m.free v ≡ true → open_in (search_of m.labels.kind.0) m.labels.words m.free v ≡ true → Past 6 t v
  unfolding place_tests
  past_6 v left inside out free offered = tried_one (past_5 v left inside out free) (ap not (may_be_next v ∙ offered))

pub returns-in_default : goal.returns-in_default
unfolding place_answer place_tests number refusal_of
returns-in_default c = refused_here (tried_none _) (ap not (sym c.in_default.ensures.formed))

pub returns-then-moment-eq0 : goal.returns-then-moment-eq0
unfolding place_answer place_tests number refusal_of
returns-then-moment-eq0 c =
    let t : Traversal = c.args.self.now in
    let full = arrays (goal.at.returns-then-moment-eq0 c).Start in
    let e = c.in-Some.ensures in
    refused_here (past_1 t full e.formed e.moment c.args.vertex.0) (none_left t full e.formed e.moment (omega arith))

pub returns-then-self-v : goal.returns-then-self-v
unfolding place_answer place_tests number refusal_of
returns-then-self-v c =
    let t : Traversal = c.args.self.now in
    let full = arrays (goal.at.returns-then-self-v c).Start in
    let e = c.in-Some.ensures in
    refused_here (past_2 t full e.formed e.moment c.args.vertex.0 (omega arith)) (le-leb _ _ (omega arith))

pub returns-then-contains : goal.returns-then-contains
unfolding place_answer place_tests number refusal_of
returns-then-contains c =
    let t : Traversal = c.args.self.now in
    let full = arrays (goal.at.returns-then-contains c).Start in
    let e = c.in-Some.ensures in
    refused_here (past_3 t full e.formed e.moment c.args.vertex.0 (omega arith) (omega arith)) (sym c.contains.ensures ∙ search rules)

pub returns-then-not-contains : goal.returns-then-not-contains
unfolding place_answer place_tests number refusal_of
returns-then-not-contains c =
    let t : Traversal = c.args.self.now in
    let full = arrays (goal.at.returns-then-not-contains c).Start in
    let e = c.in-Some.ensures in
    let out : member t.barred c.args.vertex.0 ≡ false = sym c.contains.ensures ∙ search rules in
    refused_here (past_4 t full e.formed e.moment c.args.vertex.0 (omega arith) (omega arith) out)
    (not_false _ (unplaced t full e.formed e.moment c.args.vertex.0 (omega arith) out ∙ sym c.contains-2.ensures ∙ search rules))

pub returns-then-not-is_open : goal.returns-then-not-is_open
unfolding place_answer place_tests number refusal_of
returns-then-not-is_open c =
    let t : Traversal = c.args.self.now in
    let full = arrays (goal.at.returns-then-not-is_open c).Start in
    let e = c.in-Some.ensures in
    let closed : c.is_open.result ≡ false = search rules in
    refused_here
    (past_5 t full e.formed e.moment c.args.vertex.0 (omega arith) (omega arith) (sym c.contains.ensures ∙ search rules)
    (sym c.contains-2.ensures ∙ search rules))
    (ap not (may_be_next t full e.formed e.moment c.args.vertex.0 ∙ sym c.is_open.ensures ∙ closed))

pub returns : goal.returns
unfolding place_answer place_tests number refusal_of
returns c =
    let t : Traversal = c.args.self.now in
    let full = arrays (goal.at.returns c).Start in
    let e = c.in-Some.ensures in
    accepted_here
    (past_6 t full e.formed e.moment c.args.vertex.0 (omega arith) (omega arith) (sym c.contains.ensures ∙ search rules)
    (sym c.contains-2.ensures ∙ search rules) (sym c.is_open.ensures ∙ search rules))
