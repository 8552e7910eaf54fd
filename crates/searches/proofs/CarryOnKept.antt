-- Carrying on in the graph without some vertices, named back, is carrying on in the whole graph with the kept vertices alone offered.
--   numbered_append, numbered_grown, numbered_length, numbered_take, named_numbered   the kept vertices of a list by their numbers
--   part_stays, kept_grown   orderings of kept vertices, cut and grown by one
--   some_kept            while fewer than all kept vertices are placed, a kept vertex is offered
--   chosen_offered, choice_kept_lem   the choice is offered, and the choices agree
--   carry_on-kept         and so does what they lead to
-- Assumes nothing.
use mathlib.Core.Path.{◌≡◌, refl, sym, ap, ap₂, ◌∙◌, subst}
use mathlib.Core.Bool.{Bool, true, false, cond, ◌&&◌}
use mathlib.Core.Logic.{◌⊎◌, inl, inr}
use mathlib.Core.List.{List, [], ◌∷◌, ◌++◌}
use Prim.Native.Nat.{ℕ, zero, suc, ◌+◌, ◌-◌, ◌≤◌, ◌<◌}
use native.Mathlib.Omega.{arith}
use lib.Dec.{T}
use lib.ListN.{length, take, drop, take-append-drop}
use lib.Seq.{length-take-le, take_at}
use Rattle.bitset.specs.Below.{count_below}
use Rattle.bitset.proofs.Tests.{and_in, cond_yes, below_suc}
use Rattle.bitset.proofs.Below.{Some, any_in, last}
use Rattle.searches.specs.Kind.{Search}
use Rattle.searches.specs.Ordering.{at, placed, IsOrdering, IsFullOrdering}
use Rattle.searches.specs.Run.{offered}
use Rattle.searches.specs.CarryOn.{choice, grow, carry_on}
use Rattle.searches.proofs.Ordering.{placed_in, placed_out, all_placed, length_grown, grown_agree, grown_last, take_agree, agree_sym, ordering_agree, ordering_fits}
use Rattle.searches.proofs.Run.{some_offered}
use Rattle.searches.specs.Without.{number_of, name_of, numbered, named, arcs_of, IsKeptOrdering, offered_without, carry_on_without}
use Rattle.searches.proofs.Kept.{offered_kept, choice_kept, grow_kept, carry_on_kept}
use Rattle.searches.proofs.Naming.{name_below, name_kept, number_name, name_number}
use Rattle.searches.proofs.Renumbered.{numbered_ordering}
use Rattle.searches.proofs.OfferedKept.{offered_kept_lem, offered_kept_out}
use Rattle.searches.proofs.PassedOver.{last_numbered}

-- ---- lists of kept vertices

pub part_stays : (n : ℕ) (kept : ℕ → Bool) (w : List ℕ) (k : ℕ) → IsOrdering n w k → ((p : ℕ) → p < k → T (kept (at w p))) → IsKeptOrdering n kept (take k w) (length (take k w))
part_stays n kept w k o stays =
    let len : length (take k w) ≡ k = length-take-le k w o.long in
    record {
      ordering =
          subst (λ (m : ℕ). IsOrdering n (take k w) m) (sym len)
          (ordering_agree n (take k w) (omega (arith, len)) (agree_sym k (take k w) w (take_agree k w)) o);
      stays = λ p l. let h : p < k = omega (arith, l, len) in subst (λ (v : ℕ). T (kept v)) (sym (take_agree k w p h)) (stays p h);
    }

pub numbered_append : (kept : ℕ → Bool) (w x : List ℕ) → numbered kept (w ++ x) ≡ numbered kept w ++ numbered kept x
unfolding numbered
numbered_append kept [] x = refl
numbered_append kept (v ∷ w) x = go (kept v) (numbered_append kept w x)
  where
    go : (b : Bool) → numbered kept (w ++ x) ≡ numbered kept w ++ numbered kept x
        → cond b (number_of kept v ∷ numbered kept (w ++ x)) (numbered kept (w ++ x)) ≡ cond b (number_of kept v ∷ numbered kept w) (numbered kept w) ++ numbered kept x
    go true e = ap (λ (l : List ℕ). number_of kept v ∷ l) e
    go false e = e

pub numbered_length : (kept : ℕ → Bool) (w : List ℕ) → ((p : ℕ) → p < length w → T (kept (at w p))) → length (numbered kept w) ≡ length w
unfolding numbered
numbered_length kept [] stays = refl
numbered_length kept (v ∷ w) stays =
    ap length (cond_yes (kept v) (number_of kept v ∷ numbered kept w) (numbered kept w) (stays 0 (omega arith)))
    ∙ ap suc (numbered_length kept w (λ p l. stays (suc p) (omega arith)))

pub named_numbered : (n : ℕ) (kept : ℕ → Bool) (w : List ℕ) → ((p : ℕ) → p < length w → (at w p < n) × T (kept (at w p))) → named n kept (numbered kept w) ≡ w
unfolding numbered named
named_numbered n kept [] stays = refl
named_numbered n kept (v ∷ w) stays =
    let here = stays 0 (omega arith) in
    ap (named n kept) (cond_yes (kept v) (number_of kept v ∷ numbered kept w) (numbered kept w) here.1)
    ∙ ap₂ (λ (x : ℕ) (l : List ℕ). x ∷ l) (name_number kept n v here.0 here.1) (named_numbered n kept w (λ p l. stays (suc p) (omega arith)))

pub numbered_grown : (kept : ℕ → Bool) (w : List ℕ) (v : ℕ) → T (kept v) → numbered kept (w ++ v ∷ []) ≡ numbered kept w ++ number_of kept v ∷ []
unfolding numbered
numbered_grown kept w v t = numbered_append kept w (v ∷ []) ∙ ap (λ (l : List ℕ). numbered kept w ++ l) (cond_yes (kept v) (number_of kept v ∷ []) [] t)

pub numbered_take : (n : ℕ) (kept : ℕ → Bool) (w : List ℕ) (k : ℕ) → IsKeptOrdering n kept w k → take k (numbered kept w) ≡ numbered kept (take k w)
numbered_take n kept w k x =
    let len : length (numbered kept (take k w)) ≡ k =
    numbered_length kept (take k w) (part_stays n kept w k x.ordering x.stays).stays ∙ length-take-le k w x.ordering.long
    in
    ap (λ (y : List ℕ). take k (numbered kept y)) (sym (take-append-drop k w)) ∙ ap (take k) (numbered_append kept (take k w) (drop k w))
    ∙ take_at (numbered kept (take k w)) (numbered kept (drop k w)) k len

-- one more kept vertex that is not placed
module _ (n : ℕ) (kept : ℕ → Bool) (w : List ℕ) (v : ℕ) (x : IsKeptOrdering n kept w (length w)) where
  abbrev grown : List ℕ
  grown = w ++ v ∷ []

  at_grown : (P : ℕ → Type 0) → ((p : ℕ) → p < length w → P (at w p)) → P v → (p : ℕ) → p < length grown → P (at grown p)
  at_grown P old new p h = go (below_suc (length w) p (omega (arith, h, length_grown w v)))
    where
      go : (p < length w) ⊎ (p ≡ length w) → P (at grown p)
      go (inl g) = subst P (sym (grown_agree w v p g)) (old p g)
      go (inr e) = subst P (sym (ap (λ (q : ℕ). at grown q) e ∙ grown_last w v)) new

  pub kept_grown : v < n → T (kept v) → (T (placed w (length w) v) → ⊥) → IsKeptOrdering n kept (w ++ v ∷ []) (length (w ++ v ∷ []))
  kept_grown l t out = record {
    ordering = record {
      long = omega arith;
      vertices = at_grown (λ u. u < n) x.ordering.vertices l;
      distinct = λ p q h i e. distinct p q h (below_suc (length w) q (omega (arith, i, length_grown w v))) e;
    };
    stays = at_grown (λ u. T (kept u)) x.stays t;
  }
    where
      distinct : (p q : ℕ) → p < q → (q < length w) ⊎ (q ≡ length w) → at grown p ≡ at grown q → ⊥
      distinct p q h (inl g) e = x.ordering.distinct p q h g (sym (grown_agree w v p (omega arith)) ∙ e ∙ grown_agree w v q g)
      distinct p q h (inr g) e =
          out (placed_in w (length w) v p (omega arith) (sym (grown_agree w v p (omega arith)) ∙ e ∙ ap (λ (z : ℕ). at grown z) g ∙ grown_last w v))

-- ---- carrying on

module _ (s : Search) (arc : ℕ → ℕ → Bool) (n : ℕ) (kept : ℕ → Bool) (t : List ℕ) (names : IsFullOrdering n t) where
  abbrev n' : ℕ
  n' = count_below n kept

  abbrev arc' : ℕ → ℕ → Bool
  arc' = arcs_of n kept arc

  abbrev t' : List ℕ
  t' = numbered kept t

  module _ (w : List ℕ) (x : IsKeptOrdering n kept w (length w)) (l : length w < n') where
    abbrev k : ℕ
    k = length w

    abbrev w' : List ℕ
    w' = numbered kept w

    -- offered in the whole graph among the kept: kept, and offered without the others
    open_same : (v : ℕ) → offered_kept s arc n kept w k v ≡ (kept v && offered s arc' n' w' k (number_of kept v))
    unfolding offered_without
    open_same v = sym (offered_kept_lem s arc n kept w k x.ordering x.stays v)

    pub some_kept : Some (length t) (λ q. offered_kept s arc n kept w k (at t q))
    some_kept =
        let u = some_offered s arc' n' (numbered_ordering n kept w k x.ordering x.stays) l in
        let v : ℕ = name_of n kept u.at in
        let p = placed_out t n v (all_placed n names.ordering v (name_below kept n u.at u.below)) in
        let offers : T (kept v && offered s arc' n' w' k (number_of kept v)) =
        and_in (kept v) (offered s arc' n' w' k (number_of kept v)) (name_kept kept n u.at u.below)
        (subst (λ (i : ℕ). T (offered s arc' n' w' k i)) (sym (number_name kept n u.at u.below)) u.holds)
        in
        record {
          at = p.0;
          below = omega (arith, p.1, names.full);
          holds = subst (λ (z : ℕ). T (offered_kept s arc n kept w k z)) (sym p.2) (subst (λ (b : Bool). T b) (sym (open_same v)) offers);
        }

    abbrev c : ℕ
    c = choice_kept s arc n kept t w k

    pub choice_kept_lem : choice s arc' n' t' w' (length w') ≡ number_of kept c
    unfolding choice choice_kept
    choice_kept_lem =
        ap (choice s arc' n' t' w') (numbered_length kept w x.stays)
        ∙ last_numbered kept (offered_kept s arc n kept w k) (offered s arc' n' w' k) open_same t (any_in some_kept)

    pub chosen_offered : T (offered_kept s arc n kept w k c)
    unfolding choice_kept
    chosen_offered = (last some_kept).holds

    pub chosen_kept : T (kept c)
    chosen_kept = (offered_kept_out s arc n kept w k c chosen_offered).0

    pub chosen_vertex : (c < n) × (T (placed w k c) → ⊥)
    chosen_vertex = let y = offered_kept_out s arc n kept w k c chosen_offered in (y.1, y.2)

    abbrev more : List ℕ
    more = w ++ c ∷ []

    pub stays_more : IsKeptOrdering n kept more (length more)
    stays_more = kept_grown n kept w c x chosen_vertex.0 chosen_kept chosen_vertex.1

    numbered_more : w' ++ choice s arc' n' t' w' (length w') ∷ [] ≡ numbered kept more
    numbered_more = ap (λ (i : ℕ). w' ++ i ∷ []) choice_kept_lem ∙ sym (numbered_grown kept w c chosen_kept)

  grow_kept_lem : (m : ℕ) (w : List ℕ) → IsKeptOrdering n kept w (length w) → length w + m ≡ n' → named n kept (grow s arc' n' t' m (numbered kept w)) ≡ grow_kept s arc n kept t m w
  unfolding grow grow_kept
  grow_kept_lem zero w x e = named_numbered n kept w (λ p l. (x.ordering.vertices p l, x.stays p l))
  grow_kept_lem (suc m) w x e =
      let l : length w < n' = omega arith in
      ap (λ (y : List ℕ). named n kept (grow s arc' n' t' m y)) (numbered_more w x l)
      ∙ grow_kept_lem m (w ++ choice_kept s arc n kept t w (length w) ∷ []) (stays_more w x l) (omega (arith, e, length_grown w (choice_kept s arc n kept t w (length w))))

  pub carry_on-kept : (w : List ℕ) (k : ℕ) → IsOrdering n w k → ((p : ℕ) → p < k → T (kept (at w p))) → carry_on_without s arc n kept t w k ≡ carry_on_kept s arc n kept t w k
  unfolding carry_on_without carry_on carry_on_kept
  carry_on-kept w k o stays =
      let len : length (take k w) ≡ k = length-take-le k w o.long in
      let fits : k ≤ n' = ordering_fits n' (numbered_ordering n kept w k o stays) in
      ap (λ (y : List ℕ). named n kept (grow s arc' n' t' (n' - k) y)) (numbered_take n kept w k (record { ordering = o; stays = stays }))
      ∙ grow_kept_lem (n' - k) (take k w) (part_stays n kept w k o stays) (omega arith)
