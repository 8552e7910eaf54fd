-- `offers::leaders::narrowed` meets its contract: whoever is left out is behind one of those that are compared.
-- Assumes nothing.
use Prim.Native.Nat.{ℕ, zero, suc, ◌<◌, ◌^◌}
use mathlib.Core.Path.{◌≡◌, refl, sym, ap, ◌∙◌, subst}
use mathlib.Core.Bool.{Bool, ◌||◌, not}
use mathlib.Core.Logic.{⊎_elim, ◌≢◌}
use native.Mathlib.Omega.{arith}
use lib.Dec.{T, eqb, eqb→eq, eqb_refl, not_T}
use lib.ListN.{get_or}
use Rattle.bitset.specs.Below.{first_below}
use Rattle.bitset.specs.Word.{member, united}
use Rattle.bitset.proofs.Tests.{and_in, or_inl, or_inr, or_out, decided, same_test}
use Rattle.bitset.proofs.Scan.{first_member}
use Rattle.bitset.proofs.Word as word
use Rattle.searches.specs.Kind.{search_of, mns}
use Rattle.searches.proofs.StrictOrder.{outranks_irreflexive}
use Rattle.labels.specs.Words.{ahead_in}
use Rattle.offers.specs.Open.{Level}
use Rattle.labels.proofs.Comparison.{is_kind, no_kind, search_of_mns}
use Rattle.offers.proofs.Reached.{front_word}
use Rattle.offers.proofs.Narrowing.{none_reached, offers_stay, offers_grown, offers_front}
use Rattle.offers.proofs.leaders.narrowed.Goals as goal
use Rattle.offers.proofs.leaders.narrowed.Goals.{After-insert-first, After-smallest, Else-eq, Else-still-ne0, Joined-stay-eq0, Start, then-stay-eq0, else-stay-eq0}

-- the search is not MNS
other : (c : Else-eq) → search_of c.args.labels.now.kind.0 ≢ mns
other c = search_of_mns c.args.labels.now.kind.0 (no_kind c.args.labels.now.kind.0 5 c.eq.ensures c.if-eq.false)

pub returns-then-eq : goal.returns-then-eq
unfolding search_of
returns-then-eq c = record { word = c.ranges.free.fits; exact = λ not_mns. absurd (not_mns (ap search_of (is_kind c.args.labels.now.kind.0 5 c.eq.ensures c.if-eq.true))) }

pub leading-requires : goal.leading-requires
leading-requires c =
    let a = c.args in
    let k = search_of a.labels.now.kind.0 in (
      other (goal.at.leading-requires c).Else-eq,
      omega arith,
      subst (λ (x : ℕ). Level k a.labels.now.words x) (sym c.without-still.ensures) (c.requires.0.level (other (goal.at.leading-requires c).Else-eq)),
    )

pub returns-then-still-ne0 : goal.returns-then-still-ne0
returns-then-still-ne0 c =
    let a = c.args in
    let still = c.without-still.result in
    let word : still < 2 ^ 64 = subst (λ (x : ℕ). x < 2 ^ 64) (sym c.without-still.ensures) (word.difference_word c.ranges.stay.fits a.grown) in
    let first = first_member still word (omega arith) in
    offers_stay (search_of a.labels.now.kind.0) a.labels.now.words a.free a.stay a.grown c.requires.0 (other (goal.at.returns-then-still-ne0 c).Else-eq) still c.leading.result
    (first_below 64 (member still)) c.without-still.ensures first.0 first.1 c.leading.ensures

-- all that stay grew
grew : (c : Else-still-ne0) → let a = c.args in (v : ℕ) → T (member a.stay v) → T (member a.grown v)
grew c v t =
    let a = c.args in
    ⊎_elim (λ x. x) (λ out. absurd (word.empty_back c.if-still-ne0.false v
    (subst (λ (b : Bool). T b) (sym (ap (λ (x : ℕ). member x v) c.without-still.ensures ∙ word.member_difference a.stay a.grown v))
    (and_in (member a.stay v) (not (member a.grown v)) t (not_T (member a.grown v) out))))) (decided (member a.grown v))

-- one that stays
one_stays : (s : Start) → (s.args.stay ≡ 0 → ⊥) → (first_below 64 (member s.args.stay) < 64) × T (member s.args.stay (first_below 64 (member s.args.stay)))
one_stays s some = first_member s.args.stay s.ranges.stay.fits (omega arith)

pub returns-then-rivals-eq0 : goal.returns-then-rivals-eq0
returns-then-rivals-eq0 c =
    let a = c.args in
    elim c.if-stay-eq0.branch [
      | then-stay-eq0 w ↦ none_reached (search_of a.labels.now.kind.0) a.labels.now.words a.free a.reached c.ranges.free.fits c.requires.1 (sym w.common-rivals.ensures ∙ sym w.rivals-is ∙ c.if-rivals-eq0.true)
      | else-stay-eq0 w ↦
          let x = one_stays (goal.at.returns-then-rivals-eq0 c).Start w.if-stay-eq0.false in
          absurd (word.empty_back (sym w.rivals-is ∙ c.if-rivals-eq0.true) (first_below 64 (member a.stay)) (grew (goal.at.returns-then-rivals-eq0 c).Else-still-ne0 (first_below 64 (member a.stay)) x.1))
    ]

-- the rivals are a word
rivals_word : (c : Joined-stay-eq0) → c.if-stay-eq0.rivals < 2 ^ 64
rivals_word c =
    let a = c.args in
    elim c.if-stay-eq0.branch [
      | then-stay-eq0 w ↦ subst (λ (x : ℕ). x < 2 ^ 64) (sym w.rivals-is) (front_word a.free a.reached w.common-rivals.ensures c.ranges.free.fits)
      | else-stay-eq0 w ↦ subst (λ (x : ℕ). x < 2 ^ 64) (sym w.rivals-is) c.ranges.grown.fits
    ]

-- the first of them
first : (c : After-smallest) → (c.smallest.result < 64) × T (member c.if-stay-eq0.rivals c.smallest.result)
first c =
    subst (λ (u : ℕ). (u < 64) × T (member c.if-stay-eq0.rivals u)) (sym c.smallest.ensures) (first_member c.if-stay-eq0.rivals (rivals_word (goal.at.After-smallest c).Joined-stay-eq0) (omega arith))

-- is alone in the set
alone : (c : After-insert-first) (v : ℕ) → member c.insert-first.result v ≡ (eqb c.smallest.result v || member 0 v)
alone c v = ap (λ (x : ℕ). member x v) c.insert-first.ensures ∙ word.member_inserted 0 (first (goal.at.After-insert-first c).After-smallest).0 v

only : (c : After-insert-first) (v : ℕ) → T (member c.insert-first.result v) → c.smallest.result ≡ v
only c v t =
    let u = c.smallest.result in
    ⊎_elim (λ e. eqb→eq u v e) (λ z. absurd (word.empty_back refl v z)) (or_out (eqb u v) (member 0 v) (subst (λ (b : Bool). T b) (alone c v) t))

itself : (c : After-insert-first) → T (member c.insert-first.result c.smallest.result)
itself c = let u = c.smallest.result in subst (λ (b : Bool). T b) (sym (alone c u)) (or_inl (eqb u u) (member 0 u) (eqb_refl u))

pub leading-requires-2 : goal.leading-requires-2
unfolding ahead_in
leading-requires-2 c =
    let a = c.args in
    let k = search_of a.labels.now.kind.0 in
    let u = c.smallest.result in (
      other (goal.at.leading-requires-2 c).Else-eq,
      positive c.insert-first.result u (itself c),
      λ x y _ _ t z ahead. outranks_irreflexive k 64 (member (get_or a.labels.now.words u 0))
          (subst (λ (q : ℕ). T (ahead_in k (get_or a.labels.now.words u 0) (get_or a.labels.now.words q 0))) (sym (only c y z))
          (subst (λ (q : ℕ). T (ahead_in k (get_or a.labels.now.words q 0) (get_or a.labels.now.words y 0))) (sym (only c x t)) ahead)),
    )
  where
    positive : (x p : ℕ) → T (member x p) → 0 < x
    positive zero p t = absurd (word.empty_back refl p t)
    positive (suc x) p t = omega arith

-- with it the rivals are as many as before
rivals_all : (c : After-insert-first) (v : ℕ) → member (united c.insert-first.result c.if-stay-eq0.rivals) v ≡ member c.if-stay-eq0.rivals v
rivals_all c v =
    let one = c.insert-first.result in
    let rivals = c.if-stay-eq0.rivals in
    word.member_united one rivals v
    ∙ same_test (member one v || member rivals v) (member rivals v)
    (λ t. ⊎_elim (λ x. subst (λ (q : ℕ). T (member rivals q)) (only c v x) (first (goal.at.After-insert-first c).After-smallest).1) (λ x. x) (or_out (member one v) (member rivals v) t))
    (λ t. or_inr (member one v) (member rivals v) t)

pub returns : goal.returns
returns c =
    let a = c.args in
    let k = search_of a.labels.now.kind.0 in
    let u = c.smallest.result in
    let all = united c.insert-first.result c.if-stay-eq0.rivals in
    elim c.if-stay-eq0.branch [
      | then-stay-eq0 w ↦
          offers_front k a.labels.now.words a.free a.reached all c.leading-2.result u c.requires.1 c.requires.2
          (λ v. rivals_all (goal.at.returns c).After-insert-first v ∙ ap (λ (x : ℕ). member x v) (w.rivals-is ∙ w.common-rivals.ensures)) (first (goal.at.returns c).After-smallest).0
          (subst (λ (b : Bool). T b) (sym (rivals_all (goal.at.returns c).After-insert-first u)) (first (goal.at.returns c).After-smallest).1) c.leading-2.ensures
      | else-stay-eq0 w ↦
          let x = one_stays (goal.at.returns c).Start w.if-stay-eq0.false in
          offers_grown k a.labels.now.words a.free a.stay a.grown c.requires.0 (other (goal.at.returns c).Else-eq) all c.leading-2.result (first_below 64 (member a.stay))
          (λ v. rivals_all (goal.at.returns c).After-insert-first v ∙ ap (λ (y : ℕ). member y v) w.rivals-is) x.0 x.1 (grew (goal.at.returns c).Else-still-ne0) c.leading-2.ensures
    ]
