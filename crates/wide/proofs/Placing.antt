-- The step that places a vertex: word by word of its row, the unplaced vertices of the word get the position, and `reached` gets the word.
--   Placing s table v p free labels₀ reached₀ labels smallest largest weights reached i   the words of v's row below i are done
--   place_vertex                      the placed vertex is one of 512
--   place_start_lem, place_due, place_next, place_end   the loop over the words begins, what is due, how it goes on, and ends
-- Assumes nothing.
use mathlib.Core.Path.{◌≡◌, refl, sym, ap, ap₂, ◌∙◌, subst}
use mathlib.Core.Bool.{Bool, true, false, not, ◌&&◌, ◌||◌}
use mathlib.Core.Logic.{◌⊎◌, inl, inr}
use mathlib.Core.List.{List}
use Prim.Native.Nat.{ℕ, ◌+◌, ◌*◌, ◌/◌, ◌%◌, ◌≤◌, ◌<◌, ◌^◌}
use native.Mathlib.Omega.{arith}
use lib.Dec.{T, eqb, ltb, eqb→eq, eqb_refl, ltb→lt, lt→ltb}
use lib.ListN.{length, get_or, set, length-set}
use lib.Seq.{get_or-set_same, get_or-set_other}
use Rattle.bitset.specs.Word.{member, common, united}
use Rattle.bitset.proofs.Tests.{and_out, and_same, or_inl, or_inr, or_out, decided, is_true, same_test}
use Rattle.bitset.proofs.Word.{member_common, member_united, common_word}
use Rattle.searches.specs.Kind.{Search}
use Rattle.searches.specs.Table.{arcs_wide}
use Rattle.searches.specs.declared.Mark.{Mark}
use Rattle.tables.specs.Rows.{in_set, row_of, in_word, with_bit, without_bit}
use Rattle.wide.specs.Store.{Stored, Cleared, Tallied, Raised, Placed}
use Rattle.wide.specs.Steps.{Placeable}
use Rattle.wide.specs.Place.{Spreadable}
use Rattle.tables.proofs.Bits.{arc_word, in_word_lem, in_without_bit, length_with_bit, length_without_bit}
use Rattle.wide.proofs.Storing.{tallied_same}
use Rattle.wide.proofs.Spreading.{in_word_vertex}

-- a word below i + 1 is below i or i itself
below_next : (x i : ℕ) → ltb x (i + 1) ≡ (ltb x i || eqb x i)
below_next x i = same_test (ltb x (i + 1)) (ltb x i || eqb x i) (λ t. forth (ltb→lt x (i + 1) t) (decided (eqb x i))) (λ t. lt→ltb x (i + 1) (back (or_out (ltb x i) (eqb x i) t)))
  where
    forth : x < i + 1 → T (eqb x i) ⊎ (T (eqb x i) → ⊥) → T (ltb x i || eqb x i)
    forth l (inl t) = or_inr (ltb x i) (eqb x i) t
    forth l (inr out) = or_inl (ltb x i) (eqb x i) (lt→ltb x i (strictly (λ e. out (subst (λ (y : ℕ). T (eqb x y)) e (eqb_refl x)))))
      where
        strictly : (x ≡ i → ⊥) → x < i
        strictly other = omega (arith, l, other)

    back : T (ltb x i) ⊎ T (eqb x i) → x < i + 1
    back (inl t) = omega (arith, ltb→lt x i t)
    back (inr t) = omega (arith, eqb→eq x i t)

-- what is put in under a test that fails
unraised : (l x b y : Bool) → (T b → ⊥) → (l || (x && (b && y))) ≡ l
unraised l x true y out = absurd (out tt)
unraised true x false y out = refl
unraised false true false y out = refl
unraised false false false y out = refl

pub record Placing (s : Search) (table : List ℕ) (v p : ℕ) (free labels₀ reached₀ labels smallest largest weights reached : List ℕ) (i : ℕ) : Type 0 where
  pub stored : Stored s labels smallest largest weights
  pub size : length reached ≡ 8
  pub joined : (u : ℕ) → u < 512 → in_set reached u ≡ (in_set reached₀ u || (ltb (u / 64) i && arcs_wide 8 table v u))
  pub label : (u q : ℕ) → u < 512 → row_of labels u q ≡ (row_of labels₀ u q || (eqb q p && (ltb (u / 64) i && (arcs_wide 8 table v u && in_set free u))))

module _ {s : Search} {mark : Mark} {table labels₀ smallest₀ largest₀ weights₀ placed₀ free₀ reached₀ : List ℕ} {v p : ℕ}
    (a : Placeable s mark table labels₀ smallest₀ largest₀ weights₀ placed₀ free₀ reached₀ v p) where
  pub place_vertex : v < 512
  place_vertex = let g = a.graph.1 in omega (arith, a.vertex, g.small, g.whole)

  pub place_start_lem : (free : List ℕ) {labels smallest largest weights : List ℕ} → Stored s labels smallest largest weights
      → Placing s table v p free labels reached₀ labels smallest largest weights reached₀ 0
  place_start_lem free {labels} stored = record {
    stored = stored;
    size = a.sizes.2;
    joined = λ u l. sym (unraised (in_set reached₀ u) true (ltb (u / 64) 0) (arcs_wide 8 table v u) (nothing u));
    label = λ u q l. sym (unraised (row_of labels u q) (eqb q p) (ltb (u / 64) 0) (arcs_wide 8 table v u && in_set free u) (nothing u));
  }
    where
      nothing : (u : ℕ) → T (ltb (u / 64) 0) → ⊥
      nothing u t = omega (arith, ltb→lt (u / 64) 0 t)

  -- labels₁ is what is kept once the label of v is cleared
  module _ {placed free labels₁ : List ℕ} (put : placed ≡ with_bit placed₀ 0 v) (taken : free ≡ without_bit free₀ 0 v) (cleared : Cleared v labels₀ labels₁) where
    -- a vertex that is still unplaced is another one, and was so before
    was_free : (u : ℕ) → u < 512 → T (in_set free u) → T (not (eqb v u)) × T (in_set free₀ u)
    was_free u l t =
        and_out (not (eqb v u)) (in_set free₀ u)
        (subst (λ (b : Bool). T b) (ap (λ (x : List ℕ). in_set x u) taken ∙ in_without_bit free₀ v u a.sizes.1 place_vertex l) t)

    module _ {labels smallest largest weights reached : List ℕ} {i : ℕ} (k : Placing s table v p free labels₁ reached₀ labels smallest largest weights reached i)
        (index : i < 8) {row grown : ℕ} (is_row : row ≡ get_or table (8 * v + i) 0) (is-grown : grown ≡ common row (get_or free i 0)) where
      row_at : (u : ℕ) → u < 512 → u / 64 ≡ i → member row (u % 64) ≡ arcs_wide 8 table v u
      row_at u l e = ap (λ (x : ℕ). member x (u % 64)) (is_row ∙ ap (λ (x : ℕ). get_or table (8 * v + x) 0) (sym e)) ∙ sym (arc_word 8 table v u l)

      grown_word : (u : ℕ) → u < 512 → in_word grown i u ≡ (eqb (u / 64) i && (arcs_wide 8 table v u && in_set free u))
      unfolding in_word
      grown_word u l = and_same (eqb (u / 64) i) (member grown (u % 64)) (arcs_wide 8 table v u && in_set free u) (λ t.
          let e = eqb→eq (u / 64) i t in
          ap (λ (x : ℕ). member x (u % 64)) is-grown ∙ member_common row (get_or free i 0) (u % 64)
          ∙ ap₂ (λ (x y : Bool). x && y) (row_at u l e) (ap (λ (x : ℕ). member (get_or free x 0) (u % 64)) (sym e) ∙ sym (in_word_lem free u l)))

      -- the labels of the unplaced vertices of word i are as they were
      untouched : (u q : ℕ) → u < 512 → u / 64 ≡ i → T (in_set free u) → row_of labels u q ≡ row_of labels₀ u q
      untouched u q l e t =
          k.label u q l ∙ unraised (row_of labels₁ u q) (eqb q p) (ltb (u / 64) i) (arcs_wide 8 table v u && in_set free u) (λ b. omega (arith, e, ltb→lt (u / 64) i b))
          ∙ cleared.label u q l ∙ ap (λ (b : Bool). b && row_of labels₀ u q) (is_true (not (eqb v u)) (was_free u l t).0)

      -- a vertex of what grows: unplaced, and v leads to it
      parts : (u : ℕ) → T (in_word grown i u) → (u < 512) × (u / 64 ≡ i) × T (arcs_wide 8 table v u) × T (in_set free u)
      parts u t =
          let l = in_word_vertex grown i u index t in
          let both = and_out (eqb (u / 64) i) (arcs_wide 8 table v u && in_set free u) (subst (λ (b : Bool). T b) (grown_word u l) t) in
          let rest = and_out (arcs_wide 8 table v u) (in_set free u) both.1 in
          (l, eqb→eq (u / 64) i both.0, rest.0, rest.1)

      pub place_due : row < 2 ^ 64 → Spreadable s mark table placed labels smallest largest weights grown i p
      place_due fits = record {
        place = a.position;
        index = index;
        fits = subst (λ (x : ℕ). x < 2 ^ 64) (sym is-grown) (common_word fits (get_or free i 0));
        stored = k.stored;
        inside = λ u t. let x = parts u t in a.vertices u x.0 (was_free u x.0 x.3).1;
        earlier = λ u q t there. let x = parts u t in a.earlier u q x.0 (subst (λ (b : Bool). T b) (untouched u q x.0 x.1 x.3) there);
        tallied = λ u t.
            let x = parts u t in
            tallied_same mark table placed labels₀ labels u p a.stored.weighed.room k.stored.weighed.room x.0 a.position (λ q. untouched u q x.0 x.1 x.3)
            (subst (λ (y : List ℕ). Tallied mark table y labels₀ u p) (sym put) (a.tallied u (was_free u x.0 x.3).1 x.2));
      }

      module _ {reached' : List ℕ} (written : reached' ≡ set reached i (united (get_or reached i 0) row)) where
        joined_word : (u : ℕ) → u < 512 → in_set reached' u ≡ (in_set reached u || (eqb (u / 64) i && arcs_wide 8 table v u))
        joined_word u l = ap (λ (x : List ℕ). in_set x u) written ∙ in_word_lem _ u l ∙ go (decided (eqb (u / 64) i))
          where
            y : ℕ
            y = united (get_or reached i 0) row

            go : T (eqb (u / 64) i) ⊎ (T (eqb (u / 64) i) → ⊥) → member (get_or (set reached i y) (u / 64) 0) (u % 64) ≡ (in_set reached u || (eqb (u / 64) i && arcs_wide 8 table v u))
            go (inl t) =
                let e = eqb→eq (u / 64) i t in
                ap (λ (x : ℕ). member (get_or (set reached i y) x 0) (u % 64)) e
                ∙ ap (λ (x : ℕ). member x (u % 64)) (get_or-set_same reached i y 0 (omega (arith, k.size)))
                ∙ member_united (get_or reached i 0) row (u % 64)
                ∙ ap₂ (λ (x z : Bool). x || z) (ap (λ (x : ℕ). member (get_or reached x 0) (u % 64)) (sym e) ∙ sym (in_word_lem reached u l)) (row_at u l e)
                ∙ ap (λ (b : Bool). in_set reached u || (b && arcs_wide 8 table v u)) (sym (is_true (eqb (u / 64) i) t))
            go (inr out) =
                ap (λ (x : ℕ). member x (u % 64))
                (get_or-set_other reached i (u / 64) y 0 (λ e. out (subst (λ (x : ℕ). T (eqb (u / 64) x)) e (eqb_refl (u / 64)))))
                ∙ sym (in_word_lem reached u l) ∙ sym (unraised (in_set reached u) true (eqb (u / 64) i) (arcs_wide 8 table v u) out)

        pub place_next : {labels' smallest' largest' weights' : List ℕ} → Raised p (in_word grown i) labels labels' → Stored s labels' smallest' largest' weights'
            → Placing s table v p free labels₁ reached₀ labels' smallest' largest' weights' reached' (i + 1)
        place_next raised stored' = record {
          stored = stored';
          size = ap length written ∙ length-set reached i _ ∙ k.size;
          joined = λ u l.
              joined_word u l ∙ ap (λ (b : Bool). b || (eqb (u / 64) i && arcs_wide 8 table v u)) (k.joined u l)
              ∙ one_more (in_set reached₀ u) (ltb (u / 64) i) (eqb (u / 64) i) (arcs_wide 8 table v u)
              ∙ ap (λ (b : Bool). in_set reached₀ u || (b && arcs_wide 8 table v u)) (sym (below_next (u / 64) i));
          label = λ u q l.
              let both : Bool = arcs_wide 8 table v u && in_set free u in
              raised.label u q l ∙ ap₂ (λ (x y : Bool). x || (eqb q p && y)) (k.label u q l) (grown_word u l)
              ∙ one_grown (row_of labels₁ u q) (eqb q p) (ltb (u / 64) i) (eqb (u / 64) i) both
              ∙ ap (λ (b : Bool). row_of labels₁ u q || (eqb q p && (b && both))) (sym (below_next (u / 64) i));
        }
          where
            one_more : (r b e x : Bool) → ((r || (b && x)) || (e && x)) ≡ (r || ((b || e) && x))
            one_more true b e x = refl
            one_more false true true true = refl
            one_more false true false true = refl
            one_more false true true false = refl
            one_more false true false false = refl
            one_more false false e x = refl

            one_grown : (l x b e y : Bool) → ((l || (x && (b && y))) || (x && (e && y))) ≡ (l || (x && ((b || e) && y)))
            one_grown l true b e y = one_more l b e y
            one_grown true false b e y = refl
            one_grown false false b e y = refl

    pub place_end : {labels smallest largest weights reached : List ℕ} {i : ℕ} → Placing s table v p free labels₁ reached₀ labels smallest largest weights reached i → 8 ≤ i
        → Placed table v p labels₀ placed₀ free₀ reached₀ labels placed free reached
    place_end {i = i} k over = record {
      placed_then = put;
      free_then = taken;
      sizes = (ap length put ∙ length_with_bit placed₀ 0 v ∙ a.sizes.0, ap length taken ∙ length_without_bit free₀ 0 v ∙ a.sizes.1, k.size);
      reached_then = λ u l. k.joined u l ∙ ap (λ (b : Bool). in_set reached₀ u || (b && arcs_wide 8 table v u)) (done u l);
      label = λ u q l. k.label u q l ∙ ap₂ (λ (x b : Bool). x || (eqb q p && (b && (arcs_wide 8 table v u && in_set free u)))) (cleared.label u q l) (done u l);
    }
      where
        done : (u : ℕ) → u < 512 → ltb (u / 64) i ≡ true
        done u l = is_true (ltb (u / 64) i) (lt→ltb (u / 64) i (omega arith))
