-- What the named answers say of the graph without some vertices.
--   passes_without, without_passes   passes: in that graph;   without_fails   fails there
--   fails_named                      fails: the vertices shown are named, and are the first violation in that graph;   fails_without   by their numbers
--   offered_grows, grows_offered     the offered vertices are those with which a passed walk of kept vertices passes when it grows by one
--   numbered_named                   a list of new numbers, named back, has these numbers
--   passes_back, back_passes         a walk of all kept vertices passes exactly when it comes back by its reverse with the others put in front
-- Assumes nothing.
use mathlib.Core.Path.{◌≡◌, refl, sym, ap, ap₂, ◌∙◌, subst}
use mathlib.Core.Bool.{Bool, true, false, cond}
use mathlib.Core.List.{List, [], ◌∷◌, ◌++◌, reverse, reverse-cons, append-nil}
use Prim.Native.Nat.{ℕ, suc, ◌<◌}
use native.Mathlib.Omega.{arith}
use lib.Dec.{T}
use lib.ListN.{length}
use Rattle.bitset.specs.Below.{count_below}
use Rattle.bitset.proofs.Tests.{and_in, and_out, cond_yes, cond_no}
use Rattle.searches.specs.Kind.{Search}
use Rattle.searches.specs.Ordering.{at, IsOrdering, IsFullOrdering}
use Rattle.searches.specs.Run.{offered}
use Rattle.searches.specs.Violation.{Verdict, passes, fails, refused, Fails, FirstViolation, judge}
use Rattle.searches.specs.CarryOn.{carry_on}
use Rattle.searches.specs.Answer.{is_pass}
use Rattle.searches.proofs.Answers.{is_pass_in, is_pass_out}
use Rattle.searches.proofs.Ordering.{length_grown, grown_last}
use Rattle.searches.proofs.Judge.{Judged, judge_says}
use Rattle.searches.proofs.Passing as passing
use Rattle.searches.proofs.CarryOn.{carry_on_carries, reverse_full, passes_comes_back, comes_back_passes}
use Rattle.searches.specs.Without.{number_of, name_of, numbered, named, arcs_of, IsKeptOrdering, named_verdict, judge_without, offered_without, carry_on_without}
use Rattle.searches.proofs.Naming.{number_name, name_kept}
use Rattle.searches.proofs.Renumbered.{numbered_ordering}
use Rattle.searches.proofs.OfferedKept.{offered_kept_lem, offered_kept_out}
use Rattle.searches.proofs.CarryOnKept.{numbered_append, numbered_grown, numbered_length, named_numbered, kept_grown}

-- ---- verdicts

module _ (s : Search) (arc : ℕ → ℕ → Bool) (n : ℕ) (kept : ℕ → Bool) where
  abbrev n' : ℕ
  n' = count_below n kept

  abbrev arc' : ℕ → ℕ → Bool
  arc' = arcs_of n kept arc

  pub passes_without : (w : List ℕ) (k : ℕ) → judge_without s arc n kept w k ≡ passes → judge s arc' n' (numbered kept w) k ≡ passes
  unfolding judge_without named_verdict is_pass
  passes_without w k e =
      let v = judge s arc' n' (numbered kept w) k in
      is_pass_out v (same v (is_pass_in (named_verdict n kept v) e))
    where
      same : (v : Verdict) → T (is_pass (named_verdict n kept v)) → T (is_pass v)
      same passes t = t
      same (fails a b c) t = t
      same (refused r) t = t

  pub without_passes : (w : List ℕ) (k : ℕ) → judge s arc' n' (numbered kept w) k ≡ passes → judge_without s arc n kept w k ≡ passes
  unfolding judge_without named_verdict
  without_passes w k e = ap (named_verdict n kept) e

  pub without_fails : (w : List ℕ) (k : ℕ) → Fails (judge s arc' n' (numbered kept w) k) → Fails (judge_without s arc n kept w k)
  unfolding judge_without named_verdict
  without_fails w k x = (name_of n kept x.0, name_of n kept x.1, name_of n kept x.2, ap (named_verdict n kept) x.3)

  shown : Verdict → ℕ × ℕ × ℕ
  shown passes = (0, 0, 0)
  shown (fails a b c) = (a, b, c)
  shown (refused r) = (0, 0, 0)

  -- a, b and c are the names of the first violation's vertices
  pub record FirstNamed (w : List ℕ) (k a b c : ℕ) : Type 0 where
    pub number_a : ℕ
    pub number_b : ℕ
    pub number_c : ℕ
    pub first : FirstViolation s arc' n' (numbered kept w) k number_a number_b number_c
    pub a_named : name_of n kept number_a ≡ a
    pub b_named : name_of n kept number_b ≡ b
    pub c_named : name_of n kept number_c ≡ c

  module _ (w : List ℕ) (k : ℕ) (o : IsOrdering n w k) (stays : (p : ℕ) → p < k → T (kept (at w p))) (a b c : ℕ) (e : judge_without s arc n kept w k ≡ fails a b c) where
    o' : IsOrdering n' (numbered kept w) k
    o' = numbered_ordering n kept w k o stays

    pub fails_named : FirstNamed w k a b c
    unfolding judge_without named_verdict shown is_pass
    fails_named = go (judge s arc' n' (numbered kept w) k) (judge_says s arc' n' (numbered kept w) k o') e
      where
        go : (v : Verdict) → Judged s arc' n' (numbered kept w) k v → named_verdict n kept v ≡ fails a b c → FirstNamed w k a b c
        go passes x p = absurd (subst (λ (v : Verdict). T (is_pass v)) p tt)
        go (fails a' b' c') x p =
            let triple = ap shown p in
            record {
              number_a = a';
              number_b = b';
              number_c = c';
              first = x;
              a_named = ap (λ (y : ℕ × ℕ × ℕ). y.0) triple;
              b_named = ap (λ (y : ℕ × ℕ × ℕ). y.1) triple;
              c_named = ap (λ (y : ℕ × ℕ × ℕ). y.2) triple;
            }
        go (refused r) x p = absurd x

    pub fails_without : FirstViolation s arc' n' (numbered kept w) k (number_of kept a) (number_of kept b) (number_of kept c)
    fails_without =
        let x = fails_named in
        let v = x.first in
        let below_a : x.number_a < n' = subst (λ (i : ℕ). i < n') v.a_stands (o'.vertices v.i (omega (arith, v.is.before, v.is.middle))) in
        let below_b : x.number_b < n' = subst (λ (i : ℕ). i < n') v.b_stands (o'.vertices v.j v.is.middle) in
        let ea : x.number_a ≡ number_of kept a = back x.number_a a below_a x.a_named in
        let eb : x.number_b ≡ number_of kept b = back x.number_b b below_b x.b_named in
        let ec : x.number_c ≡ number_of kept c = back x.number_c c v.is.vertex x.c_named in
        subst (λ (y : ℕ). FirstViolation s arc' n' (numbered kept w) k (number_of kept a) (number_of kept b) y) ec
        (subst (λ (y : ℕ). FirstViolation s arc' n' (numbered kept w) k (number_of kept a) y x.number_c) eb
        (subst (λ (y : ℕ). FirstViolation s arc' n' (numbered kept w) k y x.number_b x.number_c) ea v))
      where
        back : (i v : ℕ) → i < n' → name_of n kept i ≡ v → i ≡ number_of kept v
        back i v l p = sym (number_name kept n i l) ∙ ap (λ (x : ℕ). number_of kept x) p

  -- ---- growing by one

  module _ (w : List ℕ) (v : ℕ) (x : IsKeptOrdering n kept w (length w)) where
    abbrev w' : List ℕ
    w' = numbered kept w

    abbrev i : ℕ
    i = number_of kept v

    -- by the numbers, which are as many
    grows_there : IsOrdering n' w' (length w) → judge s arc' n' w' (length w) ≡ passes → T (offered s arc' n' w' (length w) i)
        → judge s arc' n' (w' ++ i ∷ []) (suc (length w)) ≡ passes
    grows_there =
        subst (λ (k : ℕ). IsOrdering n' w' k → judge s arc' n' w' k ≡ passes → T (offered s arc' n' w' k i) → judge s arc' n' (w' ++ i ∷ []) (suc k) ≡ passes)
        (numbered_length kept w x.stays) (λ o p t. (passing.offered_grows s arc' n' w' i o p t).1)

    offered_there : IsOrdering n' (w' ++ i ∷ []) (suc (length w)) → judge s arc' n' (w' ++ i ∷ []) (suc (length w)) ≡ passes → T (offered s arc' n' w' (length w) i)
    offered_there =
        subst (λ (k : ℕ). IsOrdering n' (w' ++ i ∷ []) (suc k) → judge s arc' n' (w' ++ i ∷ []) (suc k) ≡ passes → T (offered s arc' n' w' k i))
        (numbered_length kept w x.stays) (passing.grows_offered s arc' n' w' i)

    pub offered_grows : judge_without s arc n kept w (length w) ≡ passes → T (offered_without s arc n kept w (length w) v)
        → IsKeptOrdering n kept (w ++ v ∷ []) (suc (length w)) × (judge_without s arc n kept (w ++ v ∷ []) (suc (length w)) ≡ passes)
    unfolding offered_without
    offered_grows p t =
        let z = offered_kept_out s arc n kept w (length w) v (subst (λ (b : Bool). T b) (offered_kept_lem s arc n kept w (length w) x.ordering x.stays v) t) in
        let there =
        grows_there (numbered_ordering n kept w (length w) x.ordering x.stays) (passes_without w (length w) p)
        (and_out (kept v) (offered s arc' n' w' (length w) i) t).1
        in (
          subst (λ (k : ℕ). IsKeptOrdering n kept (w ++ v ∷ []) k) (length_grown w v) (kept_grown n kept w v x z.1 z.0 z.2),
          without_passes (w ++ v ∷ []) (suc (length w)) (ap (λ (l : List ℕ). judge s arc' n' l (suc (length w))) (numbered_grown kept w v z.0) ∙ there),
        )

    pub grows_offered : IsKeptOrdering n kept (w ++ v ∷ []) (suc (length w)) → judge_without s arc n kept (w ++ v ∷ []) (suc (length w)) ≡ passes
        → T (offered_without s arc n kept w (length w) v)
    unfolding offered_without
    grows_offered o p =
        let t : T (kept v) = subst (λ (u : ℕ). T (kept u)) (grown_last w v) (o.stays (length w) (omega arith)) in
        let e = numbered_grown kept w v t in
        and_in (kept v) (offered s arc' n' w' (length w) i) t
        (offered_there
        (subst (λ (l : List ℕ). IsOrdering n' l (suc (length w))) e (numbered_ordering n kept (w ++ v ∷ []) (suc (length w)) o.ordering o.stays))
        (ap (λ (l : List ℕ). judge s arc' n' l (suc (length w))) (sym e) ∙ passes_without (w ++ v ∷ []) (suc (length w)) p))

-- ---- the reverse, with the others put in front

module _ (kept : ℕ → Bool) where
  numbered_none : (b : List ℕ) → ((p : ℕ) → p < length b → T (kept (at b p)) → ⊥) → numbered kept b ≡ []
  unfolding numbered
  numbered_none [] out = refl
  numbered_none (v ∷ b) out =
      cond_no (kept v) (number_of kept v ∷ numbered kept b) (numbered kept b) (out 0 (omega arith)) ∙ numbered_none b (λ p l. out (suc p) (omega arith))

  numbered_reverse : (w : List ℕ) → numbered kept (reverse w) ≡ reverse (numbered kept w)
  unfolding numbered
  numbered_reverse [] = refl
  numbered_reverse (v ∷ w) =
      ap (numbered kept) (reverse-cons v w) ∙ numbered_append kept (reverse w) (v ∷ []) ∙ ap (λ (l : List ℕ). l ++ numbered kept (v ∷ [])) (numbered_reverse w)
      ∙ go (kept v)
    where
      go : (b : Bool) → reverse (numbered kept w) ++ cond b (number_of kept v ∷ []) [] ≡ reverse (cond b (number_of kept v ∷ numbered kept w) (numbered kept w))
      go true = sym (reverse-cons (number_of kept v) (numbered kept w))
      go false = append-nil (reverse (numbered kept w))

pub numbered_named : (n : ℕ) (kept : ℕ → Bool) (r : List ℕ) → ((p : ℕ) → p < length r → at r p < count_below n kept) → numbered kept (named n kept r) ≡ r
unfolding numbered named
numbered_named n kept [] below = refl
numbered_named n kept (i ∷ r) below =
    let l : i < count_below n kept = below 0 (omega arith) in
    cond_yes (kept (name_of n kept i)) (number_of kept (name_of n kept i) ∷ numbered kept (named n kept r)) (numbered kept (named n kept r)) (name_kept kept n i l)
    ∙ ap₂ (λ (x : ℕ) (y : List ℕ). x ∷ y) (number_name kept n i l) (numbered_named n kept r (λ p h. below (suc p) (omega arith)))

module _ (s : Search) (arc : ℕ → ℕ → Bool) (n : ℕ) (kept : ℕ → Bool) (b w : List ℕ) (out : (p : ℕ) → p < length b → T (kept (at b p)) → ⊥)
    (x : IsKeptOrdering n kept w (length w)) (whole : length w ≡ count_below n kept) where
  all : IsFullOrdering (count_below n kept) (numbered kept w)
  all = record {
    ordering = subst (λ (k : ℕ). IsOrdering (count_below n kept) (numbered kept w) k) whole (numbered_ordering n kept w (length w) x.ordering x.stays);
    full = numbered_length kept w x.stays ∙ whole;
  }

  tie_break : numbered kept (b ++ reverse w) ≡ reverse (numbered kept w)
  tie_break = numbered_append kept b (reverse w) ∙ ap (λ (l : List ℕ). l ++ numbered kept (reverse w)) (numbered_none kept b out) ∙ numbered_reverse kept w

  again : carry_on_without s arc n kept (b ++ reverse w) [] 0 ≡ named n kept (carry_on s (arcs_of n kept arc) (count_below n kept) (reverse (numbered kept w)) [] 0)
  unfolding carry_on_without numbered
  again = ap (λ (t : List ℕ). named n kept (carry_on s (arcs_of n kept arc) (count_below n kept) t [] 0)) tie_break

  back : named n kept (numbered kept w) ≡ w
  back = named_numbered n kept w (λ p l. (x.ordering.vertices p l, x.stays p l))

  pub passes_back : judge_without s arc n kept w (count_below n kept) ≡ passes → carry_on_without s arc n kept (b ++ reverse w) [] 0 ≡ w
  passes_back e =
      again ∙ ap (named n kept) (passes_comes_back (count_below n kept) (numbered kept w) all s (arcs_of n kept arc) (passes_without s arc n kept w (count_below n kept) e)) ∙ back

  pub back_passes : carry_on_without s arc n kept (b ++ reverse w) [] 0 ≡ w → judge_without s arc n kept w (count_below n kept) ≡ passes
  back_passes e =
      without_passes s arc n kept w (count_below n kept)
      (comes_back_passes (count_below n kept) (numbered kept w) all s (arcs_of n kept arc)
      (sym (numbered_named n kept r inside) ∙ ap (numbered kept) (sym again ∙ e)))
    where
      r : List ℕ
      r = carry_on s (arcs_of n kept arc) (count_below n kept) (reverse (numbered kept w)) [] 0

      full : IsFullOrdering (count_below n kept) r
      full =
          (carry_on_carries s (arcs_of n kept arc) (count_below n kept) (reverse (numbered kept w)) (reverse_full (count_below n kept) (numbered kept w) all) [] 0 (omega arith) (omega arith)
          (λ j l. absurd (omega arith))).full

      inside : (p : ℕ) → p < length r → at r p < count_below n kept
      inside p l = full.ordering.vertices p (omega (arith, l, full.full))
