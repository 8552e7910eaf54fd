-- The free vertices that are reached, written word by word, and all free ones beside them, for where none is reached.
--   Fronting free reached front all some i      the words below i are written; where `some` holds a vertex was found
--   fronting_start, fronting_next               where the loop begins, and after a turn
--   fronting_some, fronting_all                 where a vertex was found the first is the front; the second may always be taken for it
-- Assumes nothing.
use mathlib.Core.Path.{◌≡◌, refl, sym, ap, ap₂, ◌∙◌, subst}
use mathlib.Core.Bool.{Bool, false, not, ◌&&◌, ◌||◌}
use mathlib.Core.Logic.{◌⊎◌, inl, inr, ⊎_elim}
use mathlib.Core.List.{List}
use Prim.Native.Nat.{ℕ, ◌+◌, ◌*◌, ◌/◌, ◌%◌, ◌≤◌, ◌<◌, ◌^◌}
use native.Mathlib.Omega.{arith}
use native.Mathlib.Numerals.{add-one}
use lib.Dec.{T, eqb, eqb_refl, T_not}
use lib.ListN.{length, get_or, set, length-set}
use lib.Seq.{get_or-set_same, get_or-set_other}
use Rattle.bitset.specs.Word.{member, common}
use Rattle.bitset.proofs.Tests.{and_in, and_out, or_out, below_suc}
use Rattle.bitset.proofs.Word.{member_common, some_member}
use Rattle.tables.specs.Rows.{in_set}
use Rattle.wide.specs.Choice.{Fronted}
use Rattle.tables.proofs.Bits.{in_word_lem}
use Rattle.wide.proofs.Beaten.{front_in_lem}

-- a list of eight words of which the first i are as f says, and one more
written : (words : List ℕ) (f : ℕ → ℕ) (i x : ℕ) → length words ≡ 8 → i < 8 → x ≡ f i → ((w : ℕ) → w < i → get_or words w 0 ≡ f w) → (w : ℕ) → w < i + 1 → get_or (set words i x) w 0 ≡ f w
written words f i x size l e before w h = go (below_suc i w (subst (λ (m : ℕ). w < m) (add-one i) h))
  where
    go : (w < i) ⊎ (w ≡ i) → get_or (set words i x) w 0 ≡ f w
    go (inl g) = get_or-set_other words i w x 0 (λ same. omega arith) ∙ before w g
    go (inr same) = ap (λ (y : ℕ). get_or (set words i x) y 0) same ∙ get_or-set_same words i x 0 (omega arith) ∙ e ∙ ap f (sym same)

module _ (free reached : List ℕ) where
  abbrev both : ℕ → ℕ
  both i = common (get_or free i 0) (get_or reached i 0)

  pub record Fronting (front all : List ℕ) (some : Bool) (i : ℕ) : Type 0 where
    pub within : i ≤ 8
    pub sizes : (length front ≡ 8) × (length all ≡ 8)
    pub front_is : (w : ℕ) → w < i → get_or front w 0 ≡ both w
    pub all_is : (w : ℕ) → w < i → get_or all w 0 ≡ get_or free w 0
    pub found : T some → (v : ℕ) × (v < 512) × T (in_set free v && in_set reached v)

  pub fronting_start : (front all : List ℕ) → length front ≡ 8 → length all ≡ 8 → Fronting front all false 0
  fronting_start front all h g = record {
    within = omega arith;
    sizes = (h, g);
    front_is = λ w l. absurd (omega arith);
    all_is = λ w l. absurd (omega arith);
    found = λ t. absurd t;
  }

  pub fronting_next : {front all : List ℕ} {some : Bool} {i word : ℕ} → Fronting front all some i → i < 8 → word ≡ both i → word < 2 ^ 64
      → Fronting (set front i word) (set all i (get_or free i 0)) (some || not (eqb word 0)) (i + 1)
  fronting_next {front} {all} {some} {i} {word} r l e fits = record {
    within = omega arith;
    sizes = (length-set front i word ∙ r.sizes.0, length-set all i (get_or free i 0) ∙ r.sizes.1);
    front_is = written front both i word r.sizes.0 l e r.front_is;
    all_is = written all (λ w. get_or free w 0) i (get_or free i 0) r.sizes.1 l refl r.all_is;
    found = λ t. ⊎_elim r.found here (or_out some (not (eqb word 0)) t);
  }
    where
      here : T (not (eqb word 0)) → (v : ℕ) × (v < 512) × T (in_set free v && in_set reached v)
      here t =
          let other : (word ≡ 0) → ⊥ = λ z. T_not (eqb word 0) t (subst (λ (x : ℕ). T (eqb x 0)) (sym z) (eqb_refl 0)) in
          let pos : 0 < word = omega (arith, other) in
          let q = some_member 64 fits pos in
          let v = 64 * i + q.at in
          (v, omega (arith, q.below), subst (λ (b : Bool). T b) (ap (λ (x : ℕ). member x q.at) e ∙ front_in_lem free reached i q.at l q.below) q.holds)

  module _ {front all : List ℕ} {some : Bool} {i : ℕ} (r : Fronting front all some i) (h : 8 ≤ i) where
    in_front : (v : ℕ) → v < 512 → in_set front v ≡ (in_set free v && in_set reached v)
    in_front v l =
        in_word_lem front v l ∙ ap (λ (x : ℕ). member x (v % 64)) (r.front_is (v / 64) (omega arith)) ∙ member_common (get_or free (v / 64) 0) (get_or reached (v / 64) 0) (v % 64)
        ∙ ap₂ (λ (x y : Bool). x && y) (sym (in_word_lem free v l)) (sym (in_word_lem reached v l))

    out_of : (v : ℕ) → v < 512 → T (in_set front v) → T (in_set free v) × T (in_set reached v)
    out_of v l t = and_out (in_set free v) (in_set reached v) (subst (λ (b : Bool). T b) (in_front v l) t)

    pub fronting_some : T some → Fronted free reached front
    fronting_some t = record {
      size = r.sizes.0;
      part = λ v l x. (out_of v l x).0;
      others = λ u v l g x out y. (λ z. out (subst (λ (b : Bool). T b) (sym (in_front u l)) (and_in (in_set free u) (in_set reached u) x z)), (out_of v g y).1);
      some = λ u l x. let w = r.found t in (w.0, w.1, subst (λ (b : Bool). T b) (sym (in_front w.0 w.1)) w.2);
    }

    in_all : (v : ℕ) → v < 512 → in_set all v ≡ in_set free v
    in_all v l = in_word_lem all v l ∙ ap (λ (x : ℕ). member x (v % 64)) (r.all_is (v / 64) (omega arith)) ∙ sym (in_word_lem free v l)

    pub fronting_all : Fronted free reached all
    fronting_all = record {
      size = r.sizes.1;
      part = λ v l x. subst (λ (b : Bool). T b) (in_all v l) x;
      others = λ u v l g x out y. absurd (out (subst (λ (b : Bool). T b) (sym (in_all u l)) x));
      some = λ u l x. (u, l, subst (λ (b : Bool). T b) (sym (in_all u l)) x);
    }
