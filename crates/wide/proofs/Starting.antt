-- Whether a vertex starts a violation with the vertex whose turn it is: what it leads to is tried word by word.
--   started a b c, starts_word a b word     c is led to by a, free and completes a violation;   some vertex of a word does
--   completes_yes, completes_itself, completes_excused   what is tried of one vertex
--   first_by_number                        candidates may be looked for by number alone
--   started_violates                       on a vertex, this is the test on three vertices
--   started_word                           what is tried of a word
--   starts_linked, starts_found, starts_unfound   what is then known of the search through all words
-- Assumes nothing.
use mathlib.Core.Path.{◌≡◌, refl, sym, ap, ap₂, ◌∙◌, subst}
use mathlib.Core.Logic.{◌⊎◌, inl, inr}
use mathlib.Core.Bool.{Bool, true, false, not, ◌&&◌}
use mathlib.Core.List.{List}
use Prim.Native.Nat.{ℕ, ◌+◌, ◌*◌, ◌-◌, ◌≤◌, ◌<◌}
use native.Mathlib.Omega.{arith}
use lib.Dec.{T, ltb, eqb, ltb→lt, eqb→eq, eqb_refl, not_T, T_not}
use lib.ListN.{get_or}
use Rattle.bitset.specs.Below.{any_below}
use Rattle.bitset.specs.Word.{member, common}
use Rattle.bitset.proofs.Tests.{and_in, and_out, decided, same_test, is_true, is_false, said_true, said_false}
use Rattle.bitset.proofs.Below.{any_out, any_at, any_same, any_fewer}
use Rattle.bitset.proofs.Passed.{Passed, any_found, any_unfound}
use Rattle.bitset.proofs.Word.{member_common}
use Rattle.searches.specs.Kind.{Search}
use Rattle.searches.specs.Ordering.{at, placed}
use Rattle.searches.specs.Table.{arcs_wide}
use Rattle.searches.specs.Violation.{condition, meets, violates, third, is_last, is_first}
use Rattle.searches.proofs.Judge.{third_other, third_vertex}
use Rattle.tables.specs.Rows.{in_set, row_of}
use Rattle.tables.proofs.Bits.{arc_word_at, in_word_at_lem, row_below, any_words}
use Rattle.wide.specs.Fault.{completes, Faulty}
use Rattle.wide.proofs.Violating.{unlinked, linked_both, placed_before, middle_itself, unexcused_violates}

pub first_by_number : (s : Search) (arc : ℕ → ℕ → Bool) (n : ℕ) (w : List ℕ) (k j i : ℕ) → ((p : ℕ) → p < k → at w p < n)
    → is_first s arc n w k j i ≡ any_below n (violates s arc w i j)
unfolding is_first is_last
first_by_number s arc n w k j i vertices = same_test (any_below (k + n) candidate) (any_below n (violates s arc w i j)) forth back
  where
    candidate : ℕ → Bool
    candidate e = violates s arc w i j (third w k e)

    forth : T (any_below (k + n) candidate) → T (any_below n (violates s arc w i j))
    forth t =
        let e = any_out (k + n) candidate t in
        any_at n (violates s arc w i j) (third w k e.at) (third_vertex w k n vertices e.at e.below) e.holds

    back : T (any_below n (violates s arc w i j)) → T (any_below (k + n) candidate)
    back t =
        let c = any_out n (violates s arc w i j) t in
        let number : (k + c.at) - k ≡ c.at = omega arith in
        any_at (k + n) candidate (k + c.at) (omega (arith, c.below))
        (subst (λ (v : ℕ). T (violates s arc w i j v)) (sym (third_other w k (k + c.at) (omega arith) ∙ number)) c.holds)

module _ (s : Search) (labels : List ℕ) (i b c : ℕ) where
  abbrev own : Bool
  own = meets (condition s i) 512 (row_of labels c) (row_of labels b)

  pub completes_yes : {r : Bool} → (c ≡ b → ⊥) → r ≡ own → r ≡ true → T (completes s labels i b c)
  unfolding completes
  completes_yes other e said = and_in (not (eqb c b)) own (not_T (eqb c b) (λ t. other (eqb→eq c b t))) (said_true own e said)

  pub completes_itself : c ≡ b → T (completes s labels i b c) → ⊥
  unfolding completes
  completes_itself same t = T_not (eqb c b) (and_out (not (eqb c b)) own t).0 (subst (λ (y : ℕ). T (eqb c y)) same (eqb_refl c))

  pub completes_excused : {r : Bool} → r ≡ own → r ≡ false → T (completes s labels i b c) → ⊥
  unfolding completes
  completes_excused e said t = said_false own e said (and_out (not (eqb c b)) own t).1

module _ (s : Search) (table labels free : List ℕ) (i : ℕ) where
  abbrev pub started : ℕ → ℕ → ℕ → Bool
  started a b c = (arcs_wide 8 table a c && in_set free c) && completes s labels i b c

  abbrev pub starts_word : ℕ → ℕ → ℕ → Bool
  starts_word a b word = any_below 64 (λ q. started a b (64 * word + q))

  pub started_word : (a b word : ℕ) {front : ℕ} → word < 8 → front ≡ common (get_or table (8 * a + word) 0) (get_or free word 0)
      → any_below 64 (λ q. member front q && completes s labels i b (64 * word + q)) ≡ starts_word a b word
  started_word a b word {front} l e =
      any_same 64 (λ q. member front q && completes s labels i b (64 * word + q)) (λ q. started a b (64 * word + q))
      (λ q h. ap (λ (t : Bool). t && completes s labels i b (64 * word + q)) (in_both q h))
    where
      in_both : (q : ℕ) → q < 64 → member front q ≡ (arcs_wide 8 table a (64 * word + q) && in_set free (64 * word + q))
      in_both q h =
          ap (λ (y : ℕ). member y q) e ∙ member_common (get_or table (8 * a + word) 0) (get_or free word 0) q
          ∙ ap₂ (λ (y z : Bool). y && z) (sym (arc_word_at 8 table a word q l h)) (sym (in_word_at_lem free word q l h))

module _ {s : Search} {table : List ℕ} {n : ℕ} {w : List ℕ} {k : ℕ} {labels weights free : List ℕ} {j : ℕ} (x : Faulty s table n w k labels weights free j)
    (i : ℕ) (l : i < j) {a b : ℕ} (at_a : a ≡ at w i) (at_b : b ≡ at w j) where
  abbrev arc : ℕ → ℕ → Bool
  arc = arcs_wide 8 table

  abbrev goal : ℕ → Bool
  goal = violates s arc w i j

  by_number : is_first s arc n w k j i ≡ any_below n goal
  by_number = first_by_number s arc n w k j i x.ordering.vertices

  pub starts_linked : {r : Bool} → r ≡ arc a b → r ≡ true → false ≡ is_first s arc n w k j i
  starts_linked e said =
      sym (by_number ∙ is_false (any_below n goal) (λ t.
      let c = any_out n goal t in
      subst (λ (y : Bool). T y) (sym (linked_both x i c.at l c.below at_a at_b e said)) c.holds))

  module _ {r : Bool} (asked : r ≡ arc a b) (apart : r ≡ false) where
    pub started_violates : (c : ℕ) → c < n → started s table labels free i a b c ≡ goal c
    unfolding completes
    started_violates c vertex = go (decided (arc a c)) (decided (in_set free c)) (decided (eqb c b))
      where
        go : T (arc a c) ⊎ (T (arc a c) → ⊥) → T (in_set free c) ⊎ (T (in_set free c) → ⊥) → T (eqb c b) ⊎ (T (eqb c b) → ⊥)
            → ((arc a c && in_set free c) && (not (eqb c b) && own s labels i b c)) ≡ goal c
        go (inr out) _ _ =
            let none = is_false (arc a c) out in
            ap (λ (t : Bool). (t && in_set free c) && (not (eqb c b) && own s labels i b c)) none ∙ unlinked x i c l vertex at_a refl none
        go (inl linked) (inr out) _ =
            let none = is_false (in_set free c) out in
            ap₂ (λ (t u : Bool). (t && u) && (not (eqb c b) && own s labels i b c)) (is_true (arc a c) linked) none ∙ placed_before x i c l vertex refl none
        go (inl linked) (inl there) (inl same) =
            ap₂ (λ (t u : Bool). (t && u) && (not (eqb c b) && own s labels i b c)) (is_true (arc a c) linked) (is_true (in_set free c) there)
            ∙ ap (λ (t : Bool). not t && own s labels i b c) (is_true (eqb c b) same) ∙ middle_itself x i c l vertex at_b (eqb→eq c b same)
        go (inl linked) (inl there) (inr other) =
            ap₂ (λ (t u : Bool). (t && u) && (not (eqb c b) && own s labels i b c)) (is_true (arc a c) linked) (is_true (in_set free c) there)
            ∙ ap (λ (t : Bool). not t && own s labels i b c) (is_false (eqb c b) other)
            ∙ unexcused_violates x i c l vertex at_a at_b refl (is_true (arc a c) linked) asked apart refl (is_true (in_set free c) there)
            (λ same. other (subst (λ (y : ℕ). T (eqb c y)) same (eqb_refl c))) refl

    -- only vertices are free
    started_vertex : (c : ℕ) → T (started s table labels free i a b c) → c < n
    started_vertex c t =
        let both = and_out (arc a c) (in_set free c) (and_out (arc a c && in_set free c) (completes s labels i b c) t).0 in
        let known = subst (λ (y : Bool). T y) (x.free_is c (row_below table a c both.0)) both.1 in
        ltb→lt c n (and_out (ltb c n) (not (placed w j c)) known).0

    by_word : is_first s arc n w k j i ≡ any_below 8 (starts_word s table labels free i a b)
    by_word =
        by_number ∙ sym (any_fewer n 512 x.small (started s table labels free i a b) goal started_violates started_vertex) ∙ any_words (started s table labels free i a b)

    pub starts_found : {word : ℕ} → word < 8 → starts_word s table labels free i a b word ≡ true → true ≡ is_first s arc n w k j i
    starts_found h holds = any_found 8 (starts_word s table labels free i a b) h holds ∙ sym by_word

    pub starts_unfound : {word : ℕ} → Passed 8 (starts_word s table labels free i a b) word → 8 ≤ word → false ≡ is_first s arc n w k j i
    starts_unfound p h = any_unfound p h ∙ sym by_word
