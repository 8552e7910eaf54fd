-- The tail of the output list while it is filled, behind a walk of k vertices.
--   Filling s table n t w k tail₀ ..   i vertices are chosen, and carrying on from here gives what carrying on from the walk does
--   filling_start
--   filling_below, filling_inside      there is a vertex left, and room for it
--   filling_choosable, filling_placeable, filling_next   it can be chosen, placed, and is
--   filling_end
-- Assumes nothing.
use mathlib.Core.Path.{◌≡◌, refl, sym, ap, ap₂, ◌∙◌, subst}
use mathlib.Core.Bool.{Bool, true}
use mathlib.Core.List.{List, [], ◌∷◌, ◌++◌, append-nil, append_assoc}
use Prim.Native.Nat.{ℕ, zero, suc, ◌+◌, ◌-◌, ◌≤◌, ◌<◌}
use native.Mathlib.Omega.{arith}
use native.Mathlib.Numerals.{add-one}
use lib.Dec.{T}
use lib.ListN.{length, take, drop, set, length-set, take-append-drop}
use lib.Seq.{take_all, take-suc-set, drop-set-lt, drop-drop, drop_at}
use Rattle.searches.specs.Kind.{Search}
use Rattle.searches.specs.Ordering.{at, IsOrdering}
use Rattle.searches.specs.Table.{arcs_wide}
use Rattle.searches.specs.Run.{offered}
use Rattle.searches.specs.CarryOn.{choice, grow, carry_on}
use Rattle.searches.specs.declared.Mark.{Mark}
use Rattle.searches.proofs.Ordering.{Agree, agree_sym, ordering_fits, length_grown, grown_agree, grown_last}
use Rattle.searches.proofs.Run.{Offered, offered_out}
use Rattle.searches.proofs.CarryOn.{chosen_offered}
use Rattle.searches.proofs.CarryOnKept.{kept_grown}
use Rattle.wide.specs.Store.{Stored, Placed, chosen_in}
use Rattle.wide.specs.Steps.{Staged, Placeable, Ranked, Choosable, Begun}
use Rattle.wide.proofs.Staging.{staged_agree, staged_placeable, staged_next}
use Rattle.wide.proofs.Offering.{staged_chosen, staged_choosable}

module _ (s : Search) (table : List ℕ) (n : ℕ) (t w : List ℕ) (k : ℕ) (tail₀ : List ℕ) where
  abbrev arc : ℕ → ℕ → Bool
  arc = arcs_wide 8 table

  -- the walk so far is w and the vertices chosen
  pub record Filling (tail labels smallest largest weights placed' free reached : List ℕ) (i : ℕ) : Type 0 where
    pub upto : k + i ≤ n
    pub long : length tail ≡ length tail₀
    pub walked : length (w ++ take i tail) ≡ k + i
    pub ordering : IsOrdering n (w ++ take i tail) (k + i)
    pub left : grow s arc n t (n - (k + i)) (w ++ take i tail) ≡ carry_on s arc n t w k
    pub rest : drop i tail ≡ drop i tail₀
    pub staged : Staged s table n (w ++ take i tail) (k + i) labels smallest largest weights placed' free reached

  module _ {mark : Mark} {labels₀ smallest₀ largest₀ weights₀ placed₀ free₀ reached₀ : List ℕ} (b : Begun s mark table n t tail₀ k labels₀ smallest₀ largest₀ weights₀ placed₀ free₀ reached₀ w) where
    pub filling_start : Filling tail₀ labels₀ smallest₀ largest₀ weights₀ placed₀ free₀ reached₀ 0
    unfolding carry_on
    filling_start =
        let none : w ≡ w ++ [] = sym (append-nil w) in
        let here : k ≡ k + 0 = omega arith in
        record {
          upto = omega (arith, ordering_fits n b.ordering);
          long = refl;
          walked = ap length (append-nil w) ∙ b.upto ∙ here;
          ordering = subst (λ (x : List ℕ). IsOrdering n x (k + 0)) none (subst (λ (m : ℕ). IsOrdering n w m) here b.ordering);
          left = ap₂ (λ (m : ℕ) (x : List ℕ). grow s arc n t (n - m) x) (sym here) (append-nil w ∙ sym (take_all k w (omega (arith, b.upto))));
          rest = refl;
          staged = subst (λ (x : List ℕ). Staged s table n x (k + 0) labels₀ smallest₀ largest₀ weights₀ placed₀ free₀ reached₀) none
              (subst (λ (m : ℕ). Staged s table n w m labels₀ smallest₀ largest₀ weights₀ placed₀ free₀ reached₀) here b.staged);
        }

    -- one vertex more
    module _ {tail labels smallest largest weights placed' free reached : List ℕ} {i : ℕ} (f : Filling tail labels smallest largest weights placed' free reached i) (l : i < n - k) where
      abbrev x : List ℕ
      x = w ++ take i tail

      small : n ≤ 512
      small = b.graph.small

      pub filling_below : k + i < n
      filling_below = omega (arith, l, ordering_fits n b.ordering)

      pub filling_inside : i < length tail
      filling_inside = omega (arith, filling_below, f.long, b.room)

      pub filling_choosable : {ranks : List ℕ} → Ranked t ranks → Choosable s labels weights free reached t ranks
      filling_choosable ranked = staged_choosable f.staged small (omega (arith, filling_below, small)) t b.tie_break ranked f.ordering filling_below

      module _ {v : ℕ} (at_v : v ≡ chosen_in s labels free t) where
        chosen : v ≡ choice s arc n t x (length x)
        chosen =
            at_v ∙ staged_chosen f.staged small (omega (arith, filling_below, small)) t b.tie_break
            ∙ ap (λ (m : ℕ). choice s arc n t x m) (sym f.walked)

        through : IsOrdering n x (length x)
        through = subst (λ (m : ℕ). IsOrdering n x m) (sym f.walked) f.ordering

        offers : Offered s arc n x (length x) v
        offers =
            offered_out s arc n x (length x) v
            (subst (λ (u : ℕ). T (offered s arc n x (length x) u)) (sym chosen) (chosen_offered s arc n t b.tie_break x through (omega (arith, filling_below, f.walked))))

        more : IsOrdering n (x ++ v ∷ []) (suc (k + i))
        more =
            subst (λ (m : ℕ). IsOrdering n (x ++ v ∷ []) m) (length_grown x v ∙ ap suc f.walked)
            (kept_grown n (λ _. true) x v (record { ordering = through; stays = λ _ _. tt }) offers.vertex tt offers.unplaced).ordering

        same : Agree (k + i) x (x ++ v ∷ [])
        same = subst (λ (m : ℕ). Agree m x (x ++ v ∷ [])) f.walked (agree_sym (length x) (x ++ v ∷ []) x (grown_agree x v))

        last : v ≡ at (x ++ v ∷ []) (k + i)
        last = sym (ap (λ (m : ℕ). at (x ++ v ∷ []) m) (sym f.walked) ∙ grown_last x v)

        agreed : Staged s table n (x ++ v ∷ []) (k + i) labels smallest largest weights placed' free reached
        agreed = staged_agree f.staged (x ++ v ∷ []) same

        pub filling_placeable : Placeable s mark table labels smallest largest weights placed' free reached v (k + i)
        filling_placeable = staged_placeable agreed b.graph more last

        -- the tail with v written
        written : w ++ take (suc i) (set tail i v) ≡ x ++ v ∷ []
        written = ap (λ (y : List ℕ). w ++ y) (take-suc-set tail i v filling_inside) ∙ sym (append_assoc w (take i tail) (v ∷ []))

        grow_more : (m : ℕ) → n - (k + i) ≡ suc m → grow s arc n t m (x ++ v ∷ []) ≡ grow s arc n t (n - (k + i)) x
        unfolding grow
        grow_more m e = ap (λ (u : ℕ). grow s arc n t m (x ++ u ∷ [])) chosen ∙ sym (ap (λ (d : ℕ). grow s arc n t d x) e)

        shift : (ls : List ℕ) → drop (suc i) ls ≡ drop 1 (drop i ls)
        shift ls = ap (λ (m : ℕ). drop m ls) (sym (add-one i)) ∙ sym (drop-drop 1 i ls)

        pub filling_next : {labels' smallest' largest' weights' placed'' free' reached' : List ℕ} → Placed table v (k + i) labels placed' free reached labels' placed'' free' reached'
            → Stored s labels' smallest' largest' weights' → Filling (set tail i v) labels' smallest' largest' weights' placed'' free' reached' (i + 1)
        filling_next {labels'} {smallest'} {largest'} {weights'} {placed''} {free'} {reached'} step stored =
            let next : suc (k + i) ≡ k + suc i = omega arith in
            subst (λ (m : ℕ). Filling (set tail i v) labels' smallest' largest' weights' placed'' free' reached' m) (sym (add-one i)) (record {
              upto = omega (arith, filling_below);
              long = length-set tail i v ∙ f.long;
              walked = ap length written ∙ length_grown x v ∙ ap suc f.walked ∙ next;
              ordering = subst (λ (y : List ℕ). IsOrdering n y (k + suc i)) (sym written) (subst (λ (m : ℕ). IsOrdering n (x ++ v ∷ []) m) next more);
              left = ap (λ (y : List ℕ). grow s arc n t (n - (k + suc i)) y) written ∙ grow_more (n - (k + suc i)) (omega (arith, filling_below)) ∙ f.left;
              rest = drop-set-lt (suc i) tail i v (omega arith) ∙ shift tail ∙ ap (λ (y : List ℕ). drop 1 y) f.rest ∙ sym (shift tail₀);
              staged = subst (λ (y : List ℕ). Staged s table n y (k + suc i) labels' smallest' largest' weights' placed'' free' reached') (sym written)
                  (subst (λ (m : ℕ). Staged s table n (x ++ v ∷ []) m labels' smallest' largest' weights' placed'' free' reached') next
                  (staged_next agreed b.graph more last step stored));
            })

    pub filling_end : {tail labels smallest largest weights placed' free reached : List ℕ} {i : ℕ} → Filling tail labels smallest largest weights placed' free reached i → n - k ≤ i
        → tail ≡ drop k (carry_on s arc n t w k) ++ drop (n - k) tail₀
    unfolding grow
    filling_end {tail} {i = i} f l =
        let done : i ≡ n - k = omega (arith, l, f.upto) in
        sym (take-append-drop i tail)
        ∙ ap₂ (λ (a c : List ℕ). a ++ c)
        (sym (drop_at w (take i tail) k b.upto) ∙ ap (λ (y : List ℕ). drop k y) (ends (n - (k + i)) (w ++ take i tail) (omega (arith, l)) ∙ f.left))
        (f.rest ∙ ap (λ (m : ℕ). drop m tail₀) done)
      where
        ends : (m : ℕ) (y : List ℕ) → m ≡ 0 → y ≡ grow s arc n t m y
        ends zero y e = refl
        ends (suc m) y e = absurd (omega arith)
