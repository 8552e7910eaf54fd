-- A position put into the labels of the vertices of a word, one after the other.
--   in_word_out, in_word_vertex         a vertex of word i, by word and bit, and as one of 512
--   in_word_removed                    a word with one vertex less
--   Spreading s labels₀ word i p labels smallest largest weights rest   the vertices of the word that are not in `rest` have the position
--   spread_start, spread_due, spread_next, spread_end   the loop over a word begins, what is due, how it goes on, and ends
-- Assumes nothing.
use mathlib.Core.Path.{◌≡◌, refl, sym, ap, ap₂, ◌∙◌, subst}
use mathlib.Core.Bool.{Bool, true, false, not, ◌&&◌, ◌||◌, or-false}
use mathlib.Core.List.{List}
use Prim.Native.Nat.{ℕ, ◌+◌, ◌*◌, ◌/◌, ◌%◌, ◌<◌, ◌^◌}
use native.Mathlib.Omega.{arith}
use lib.Dec.{T, eqb, eqb→eq, eqb_refl}
use Rattle.bitset.specs.Word.{member, removed}
use Rattle.bitset.proofs.Tests.{and_out, same_test, eqb_comm}
use Rattle.bitset.proofs.Word.{member_removed, removed_word, empty_back}
use Rattle.bitset.proofs.Scan.{removed_in}
use Rattle.searches.specs.Kind.{Search}
use Rattle.searches.specs.declared.Mark.{Mark}
use Rattle.tables.specs.Rows.{row_of, in_word, with_bit}
use Rattle.wide.specs.Store.{Stored, Raisable, Raised}
use Rattle.wide.specs.Place.{Spreadable}
use Rattle.tables.proofs.Bits.{in_word-at, row_with_bit}
use Rattle.wide.proofs.Storing.{tallied_same}

-- ---- the vertices of a word

pub in_word_out : (word i v : ℕ) → T (in_word word i v) → (v / 64 ≡ i) × T (member word (v % 64))
unfolding in_word
in_word_out word i v t = let both = and_out (eqb (v / 64) i) (member word (v % 64)) t in (eqb→eq (v / 64) i both.0, both.1)

pub in_word_vertex : (word i v : ℕ) → i < 8 → T (in_word word i v) → v < 512
in_word_vertex word i v l t = omega (arith, (in_word_out word i v t).0)

pub in_word_removed : (word i e v : ℕ) → e < 64 → in_word (removed word e) i v ≡ (not (eqb (64 * i + e) v) && in_word word i v)
unfolding in_word
in_word_removed word i e v l = go (eqb (v / 64) i) (λ t. eqb→eq (v / 64) i t)
  where
    here : v / 64 ≡ i → eqb e (v % 64) ≡ eqb (64 * i + e) v
    here same =
        same_test (eqb e (v % 64)) (eqb (64 * i + e) v)
        (λ t. let x : 64 * i + e ≡ v = omega (arith, eqb→eq e (v % 64) t) in subst (λ (y : ℕ). T (eqb (64 * i + e) y)) x (eqb_refl (64 * i + e)))
        (λ t. let x : e ≡ v % 64 = omega (arith, eqb→eq (64 * i + e) v t) in subst (λ (y : ℕ). T (eqb e y)) x (eqb_refl e))

    nothing : (b : Bool) → false ≡ (b && false)
    nothing true = refl
    nothing false = refl

    go : (b : Bool) → (T b → v / 64 ≡ i) → (b && member (removed word e) (v % 64)) ≡ (not (eqb (64 * i + e) v) && (b && member word (v % 64)))
    go true same = member_removed word e (v % 64) ∙ ap (λ (x : Bool). not x && member word (v % 64)) (here (same tt))
    go false same = nothing (not (eqb (64 * i + e) v))

-- ---- the loop over a word

pub record Spreading (s : Search) (labels₀ : List ℕ) (word i p : ℕ) (labels smallest largest weights : List ℕ) (rest : ℕ) : Type 0 where
  pub fits : rest < 2 ^ 64
  pub part : (q : ℕ) → T (member rest q) → T (member word q)
  pub stored : Stored s labels smallest largest weights
  pub label : (v q : ℕ) → v < 512 → row_of labels v q ≡ (row_of labels₀ v q || (eqb q p && (in_word word i v && not (in_word rest i v))))

module _ {s : Search} {mark : Mark} {table placed labels₀ smallest₀ largest₀ weights₀ : List ℕ} {word i p : ℕ}
    (a : Spreadable s mark table placed labels₀ smallest₀ largest₀ weights₀ word i p) where
  pub spread_start : Spreading s labels₀ word i p labels₀ smallest₀ largest₀ weights₀ word
  spread_start = record {
    fits = a.fits;
    part = λ q t. t;
    stored = a.stored;
    label = λ v q l. none (row_of labels₀ v q) (eqb q p) (in_word word i v);
  }
    where
      none : (l x w : Bool) → l ≡ (l || (x && (w && not w)))
      none true x w = refl
      none false true true = refl
      none false true false = refl
      none false false w = refl

  module _ {labels smallest largest weights : List ℕ} {rest e : ℕ} (k : Spreading s labels₀ word i p labels smallest largest weights rest) (l : e < 64) (there : T (member rest e)) where
    abbrev vertex : ℕ
    vertex = 64 * i + e

    below : vertex < 512
    below = omega (arith, a.index)

    in_rest : T (in_word rest i vertex)
    in_rest = subst (λ (b : Bool). T b) (sym (in_word-at rest i e l)) there

    in_word_lem : T (in_word word i vertex)
    in_word_lem = subst (λ (b : Bool). T b) (sym (in_word-at word i e l)) (k.part e there)

    -- the label of a vertex whose turn comes is as it was
    untouched : (q : ℕ) → row_of labels vertex q ≡ row_of labels₀ vertex q
    untouched q = k.label vertex q below ∙ go (row_of labels₀ vertex q) (eqb q p) (in_word word i vertex) (in_word rest i vertex) in_rest
      where
        go : (l x w r : Bool) → T r → (l || (x && (w && not r))) ≡ l
        go true x w r t = refl
        go false x w false t = absurd t
        go false false w true t = refl
        go false true true true t = refl
        go false true false true t = refl

    pub spread_due : Raisable s mark table placed labels smallest largest weights vertex p
    spread_due = record {
      place = a.place;
      inside = a.inside vertex in_word_lem;
      vertex = below;
      stored = k.stored;
      earlier = λ q t. a.earlier vertex q in_word_lem (subst (λ (b : Bool). T b) (untouched q) t);
      tallied = tallied_same mark table placed labels₀ labels vertex p a.stored.weighed.room k.stored.weighed.room below a.place untouched (a.tallied vertex in_word_lem);
    }

    pub spread_next : {labels' smallest' largest' weights' : List ℕ} {rest' : ℕ} → labels' ≡ with_bit labels vertex p → rest' ≡ removed rest e
        → Stored s labels' smallest' largest' weights' → Spreading s labels₀ word i p labels' smallest' largest' weights' rest'
    spread_next {labels'} {smallest'} {largest'} {weights'} put taken stored' =
        subst (λ (x : ℕ). Spreading s labels₀ word i p labels' smallest' largest' weights' x) (sym taken) (record {
          fits = removed_word k.fits e;
          part = λ q t. k.part q (removed_in rest e q t).1;
          stored = stored';
          label = λ v q h.
              ap (λ (x : List ℕ). row_of x v q) put ∙ row_with_bit labels vertex p v q k.stored.weighed.room below a.place h
              ∙ ap₂ (λ (x y : Bool). x || (eqb vertex v && y)) (k.label v q h) (eqb_comm p q)
              ∙ go (row_of labels₀ v q) (eqb q p) (in_word word i v) (in_word rest i v) (eqb vertex v) (at_vertex v rest in_rest) (at_vertex v word in_word_lem)
              ∙ ap (λ (x : Bool). row_of labels₀ v q || (eqb q p && (in_word word i v && not x))) (sym (in_word_removed rest i e v l));
        })
      where
        at_vertex : (v x : ℕ) → T (in_word x i vertex) → T (eqb vertex v) → T (in_word x i v)
        at_vertex v x t same = subst (λ (y : ℕ). T (in_word x i y)) (eqb→eq vertex v same) t

        go : (l x w r e : Bool) → (T e → T r) → (T e → T w) → ((l || (x && (w && not r))) || (e && x)) ≡ (l || (x && (w && not (not e && r))))
        go true x w r e f g = refl
        go false x w r false f g = or-false (x && (w && not r))
        go false x w false true f g = absurd (f tt)
        go false x false true true f g = absurd (g tt)
        go false true true true true f g = refl
        go false false true true true f g = refl

  pub spread_end : {labels smallest largest weights : List ℕ} {rest : ℕ} → Spreading s labels₀ word i p labels smallest largest weights rest → rest ≡ 0
      → Raised p (in_word word i) labels₀ labels
  spread_end {labels} {rest = rest} k over = record {
    label = λ v q l.
        k.label v q l
        ∙ ap (λ (x : Bool). row_of labels₀ v q || (eqb q p && x)) (done (in_word word i v) (in_word rest i v) (λ t. empty_back over (v % 64) (in_word_out rest i v t).1));
  }
    where
      done : (w r : Bool) → (T r → ⊥) → (w && not r) ≡ w
      done w true out = absurd (out tt)
      done true false out = refl
      done false false out = refl
