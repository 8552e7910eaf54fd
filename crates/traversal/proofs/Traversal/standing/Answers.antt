-- `traversal::Traversal::standing` meets its contract: each refusal is given after the tests before it were tried, and where none applies the words of
-- the moment tell how the two stand. The facts on the tests are found by what they say, and not by name.
-- Assumes nothing.
use mathlib.Core.Path.{◌≡◌, refl, sym, ap, ap₂, ◌∙◌, subst}
use mathlib.Core.Bool.{Bool, true, false, not, ◌||◌, not-not}
use Prim.Native.Nat.{ℕ, ◌<◌}
use native.Mathlib.Omega.{arith}
use Rattle.std.proofs.Common.{rules}
use borrow.Author.Tests.{leb-false}
use lib.Dec.{T, leb}
use lib.ListN.{drop, get_or, length}
use Rattle.bitset.proofs.Tests.{not_false, or_false, said_true}
use Rattle.bitset.specs.Word.{member}
use Rattle.searches.specs.Kind.{search_of}
use Rattle.searches.specs.Ordering.{placed}
use Rattle.searches.specs.Answer.{number}
use Rattle.checks.proofs.Tried.{Tried, tried_none, tried_one, refused_here, accepted_here}
use Rattle.labels.specs.Words.{profile_of, compared_in}
use Rattle.labels.proofs.Profiles.{label_of, profile_own, profile_kept}
use Rattle.engine.specs.declared.after.Moment.{Moment}
use Rattle.traversal.specs.declared.Traversal.{Traversal}
use Rattle.steps.specs.Steps.{whole, labels_after, free_after}
use Rattle.traversal.specs.State.{plan, walk, well_formed, Surveyed, WellFormed}
use Rattle.traversal.specs.Compare.{compare_tests, stance, told, report_of}
use Rattle.traversal.proofs.WellFormed.{surveyed_words, surveyed_weighed, well_formed_out, free_offers, compared_stance}
use Rattle.traversal.proofs.Telling.{report_refused, report_told}
use Rattle.traversal.proofs.Traversal.standing.Goals as goal
use Rattle.traversal.proofs.Traversal.standing.Goals.{After-profile-b, After-profile-c, Start}

-- the arrays have 64 entries
arrays : (s : Start) → (length s.args.self.now.rows ≡ 64) × (length s.args.self.now.ordering ≡ 64)
arrays s = (search rules, search rules)

-- the first i tests do not hold
abbrev Past : ℕ → Traversal → ℕ → ℕ → Type 0
Past i t u v = Tried (compare_tests t u v) (drop i (compare_tests t u v))

-- ---- what is known once 13 does not apply

module _ (t : Traversal) (full : (length t.rows ≡ 64) × (length t.ordering ≡ 64)) {m : Moment} (sound : true ≡ well_formed t) (is : Surveyed t m) where
  formed : WellFormed t
  formed = well_formed_out t full.0 full.1 (said_true (well_formed t) sound refl)

  words : (m.labels.words ≡ labels_after (plan t) (whole t.n t.barred) (walk t) t.k) × (m.free ≡ free_after (whole t.n t.barred) (walk t) t.k)
  words = surveyed_words t full.0 full.1 is (said_true (well_formed t) sound refl)

  -- two that are unplaced stand as their labels do
  stands : (u v : ℕ) → T (member m.free u) → T (member m.free v)
      → compared_in (search_of t.kind.0) (get_or m.labels.words u 0) (get_or m.labels.words v 0) ≡ stance t u v
  stands u v first second = compared_stance t full.0 full.1 formed words.0 words.1 u v first second

  -- who is not unplaced is placed
  stands_in_lem : (v : ℕ) {r : Bool} → v < t.n → member t.barred v ≡ false → r ≡ member m.free v → placed (walk t) t.k v ≡ not r
  stands_in_lem v l out e =
      sym (ap not (e ∙ free_offers t full.0 full.1 formed words.0 words.1 v l (λ x. subst (λ (b : Bool). T b) out x)) ∙ not-not (placed (walk t) t.k v))

  past_1 : (u v : ℕ) → Past 1 t u v
  unfolding compare_tests
  past_1 u v = tried_one (tried_none _) (ap not (sym sound))

  -- ---- and once 8 does not

  module _ (u v : ℕ) (within : (leb t.n u || leb t.n v) ≡ false) where
    inside : (u < t.n) × (v < t.n)
    inside =
        let both = or_false (leb t.n u) (leb t.n v) within in
        (leb-false t.n u both.0, leb-false t.n v both.1)

    -- both are numbers of labels
    below_64 : (u < 64) × (v < 64)
    below_64 = (omega (arith, inside.0, formed.points), omega (arith, inside.1, formed.points))

    past_2 : Past 2 t u v
    unfolding compare_tests
    past_2 = tried_one (past_1 u v) within

    -- ---- and once 24 does not

    module _ (in_service : (member t.barred u || member t.barred v) ≡ false) where
      either_placed : {a b : Bool} → a ≡ member m.free u → b ≡ member m.free v → (placed (walk t) t.k u || placed (walk t) t.k v) ≡ (not a || not b)
      either_placed first second =
          let both = or_false (member t.barred u) (member t.barred v) in_service in
          ap₂ (λ (x y : Bool). x || y) (stands_in_lem u inside.0 both.0 first) (stands_in_lem v inside.1 both.1 second)

      past_3 : Past 3 t u v
      unfolding compare_tests
      past_3 = tried_one past_2 in_service

      past_4 : {a b : Bool} → a ≡ member m.free u → b ≡ member m.free v → (not a || not b) ≡ false → Past 4 t u v
      unfolding compare_tests
      past_4 first second free = tried_one past_3 (either_placed first second ∙ free)

-- two answers on two tests, where either holds or none
either : {a b x y c : Bool} → a ≡ x → b ≡ y → (a || b) ≡ c → (x || y) ≡ c
either first second is = ap₂ (λ (x y : Bool). x || y) (sym first) (sym second) ∙ is

-- both are unplaced
unplaced : (free u v : ℕ) {a b : Bool} → a ≡ member free u → b ≡ member free v → (not a || not b) ≡ false → T (member free u) × T (member free v)
unplaced free u v {a} {b} first second none =
    let both = or_false (not a) (not b) none in
    (said_true (member free u) first (not_false _ both.0), said_true (member free v) second (not_false _ both.1))

pub returns-in_default : goal.returns-in_default
unfolding compare_tests number report_of
returns-in_default c =
    report_refused c.args.self.now c.args.first.0 c.args.second.0 (refused_here (tried_none _) (ap not (sym c.in_default.ensures.formed)))

pub returns-then-outside : goal.returns-then-outside
unfolding compare_tests number report_of
returns-then-outside c =
    let t : Traversal = c.args.self.now in
    let full = arrays (goal.at.returns-then-outside c).Start in
    let e = c.in-Some.ensures in
    report_refused t c.args.first.0 c.args.second.0
    (refused_here (past_1 t full e.formed e.moment c.args.first.0 c.args.second.0) (search rules))

pub returns-then-out_of_service : goal.returns-then-out_of_service
unfolding compare_tests number report_of
returns-then-out_of_service c =
    let t : Traversal = c.args.self.now in
    let full = arrays (goal.at.returns-then-out_of_service c).Start in
    let e = c.in-Some.ensures in
    report_refused t c.args.first.0 c.args.second.0
    (refused_here (past_2 t full e.formed e.moment c.args.first.0 c.args.second.0 (search rules))
    (either c.contains.ensures c.contains-2.ensures (search rules)))

pub returns-then-taken : goal.returns-then-taken
unfolding compare_tests number report_of
returns-then-taken c =
    let a = c.args in
    let t : Traversal = a.self.now in
    let full = arrays (goal.at.returns-then-taken c).Start in
    let e = c.in-Some.ensures in
    let within : (leb t.n a.first.0 || leb t.n a.second.0) ≡ false = search rules in
    let in_service : (member t.barred a.first.0 || member t.barred a.second.0) ≡ false = either c.contains.ensures c.contains-2.ensures (search rules) in
    report_refused t a.first.0 a.second.0
    (refused_here (past_3 t full e.formed e.moment a.first.0 a.second.0 within in_service)
    (either_placed t full e.formed e.moment a.first.0 a.second.0 within in_service c.contains-3.ensures c.contains-4.ensures ∙ search rules))

-- ---- what is compared

pub profile-c-requires : goal.profile-c-requires
profile-c-requires c =
    let e = c.in-Some.ensures in
    (below_64 c.args.self.now (arrays (goal.at.profile-c-requires c).Start) e.formed e.moment c.args.first.0 c.args.second.0 (search rules)).0

pub profile-b-requires : goal.profile-b-requires
profile-b-requires c =
    let e = c.in-Some.ensures in
    (below_64 c.args.self.now (arrays (goal.at.profile-b-requires c).Start) e.formed e.moment c.args.first.0 c.args.second.0 (search rules)).1

-- what was looked at of the two are the profiles of their labels
first_made : (c : After-profile-c)
    → c.profile-c.result ≡ profile_of (search_of c.args.self.now.kind.0) (get_or c.in-Some.moment.labels.words c.args.first.0 0)
first_made c =
    let t : Traversal = c.args.self.now in
    profile_kept (search_of t.kind.0) (surveyed_weighed t c.in-Some.ensures.moment) c.args.first.0 c.profile-c.ensures

second_made : (c : After-profile-b)
    → c.profile-b.result ≡ profile_of (search_of c.args.self.now.kind.0) (get_or c.in-Some.moment.labels.words c.args.second.0 0)
second_made c =
    let t : Traversal = c.args.self.now in
    profile_kept (search_of t.kind.0) (surveyed_weighed t c.in-Some.ensures.moment) c.args.second.0 c.profile-b.ensures

pub compare-requires : goal.compare-requires
compare-requires c =
    let a = c.args in
    let words = c.in-Some.moment.labels.words in
    let k = search_of a.self.now.kind.0 in
    (profile_own k (get_or words a.first.0 0) (first_made (goal.at.compare-requires c).After-profile-c), profile_own k (get_or words a.second.0 0) (second_made (goal.at.compare-requires c).After-profile-b))

pub returns : goal.returns
unfolding compare_tests report_of
returns c =
    let a = c.args in
    let t : Traversal = a.self.now in
    let full = arrays (goal.at.returns c).Start in
    let e = c.in-Some.ensures in
    let words = c.in-Some.moment.labels.words in
    let k = search_of t.kind.0 in
    let free : (not c.contains-3.result || not c.contains-4.result) ≡ false = search rules in
    let both = unplaced c.in-Some.moment.free a.first.0 a.second.0 c.contains-3.ensures c.contains-4.ensures free in
    ap told
    (c.compare.ensures
    ∙ ap₂ (λ (x y : ℕ). compared_in k x y) (label_of k (get_or words a.first.0 0) (first_made (goal.at.returns c).After-profile-c)) (label_of k (get_or words a.second.0 0) (second_made (goal.at.returns c).After-profile-b))
    ∙ stands t full e.formed e.moment a.first.0 a.second.0 both.0 both.1)
    ∙ report_told t a.first.0 a.second.0
    (accepted_here
    (past_4 t full e.formed e.moment a.first.0 a.second.0 (search rules) (either c.contains.ensures c.contains-2.ensures (search rules))
    c.contains-3.ensures c.contains-4.ensures free))
