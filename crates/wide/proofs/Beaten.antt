-- Who is ahead of a vertex, in the wide form: looked for word by word, among the free vertices that are reached.
--   front_in_lem                        the free and reached vertices of a word
--   ahead_reached                   a free vertex that is ahead of another is reached
--   beaten_word                     so only the reached ones of a word need be compared
--   beaten_found, beaten_unfound    what is then known of the search through all words
--   closed_outside, open_unbeaten   a vertex is open when it is free and not beaten
-- Assumes nothing.
use mathlib.Core.Path.{◌≡◌, sym, ap, ap₂, ◌∙◌, subst}
use mathlib.Core.Bool.{Bool, true, false, not, ◌&&◌}
use mathlib.Core.List.{List}
use Prim.Native.Nat.{ℕ, ◌+◌, ◌*◌, ◌≤◌, ◌<◌}
use native.Mathlib.Omega.{arith}
use lib.Dec.{T}
use lib.ListN.{get_or}
use Rattle.bitset.specs.Below.{any_below}
use Rattle.bitset.specs.Word.{member, common}
use Rattle.bitset.proofs.Tests.{and_in, and_out, same_test}
use Rattle.bitset.proofs.Below.{any_at, any_same}
use Rattle.bitset.proofs.Passed.{Passed, any_found, any_unfound}
use Rattle.bitset.proofs.Word.{member_common}
use Rattle.searches.specs.Kind.{Search}
use Rattle.searches.specs.Label.{outranks}
use Rattle.searches.proofs.Reason.{outranks→reason}
use Rattle.tables.specs.Rows.{in_set, row_of}
use Rattle.wide.specs.Store.{Covers, beats_in, beaten_in, open_in}
use Rattle.tables.proofs.Bits.{in_word_at_lem, any_words}

pub front_in_lem : (free reached : List ℕ) (i q : ℕ) → i < 8 → q < 64
    → member (common (get_or free i 0) (get_or reached i 0)) q ≡ (in_set free (64 * i + q) && in_set reached (64 * i + q))
front_in_lem free reached i q l h =
    member_common (get_or free i 0) (get_or reached i 0) q ∙ ap₂ (λ (x y : Bool). x && y) (sym (in_word_at_lem free i q l h)) (sym (in_word_at_lem reached i q l h))

module _ (s : Search) (labels free : List ℕ) where
  module _ (reached : List ℕ) (covers : Covers labels free reached) where
    pub ahead_reached : (u v : ℕ) → u < 512 → T (in_set free u) → T (outranks s 512 (row_of labels u) (row_of labels v)) → T (in_set reached u)
    ahead_reached u v l x t =
        let r = outranks→reason 512 (row_of labels u) (row_of labels v) s t in
        subst (λ (b : Bool). T b) (sym (covers u l x)) (any_at 512 (row_of labels u) r.position r.below r.ours)

    pub beaten_word : (b i : ℕ) {word : ℕ} → i < 8 → word ≡ common (get_or free i 0) (get_or reached i 0)
        → any_below 64 (λ q. member word q && outranks s 512 (row_of labels (64 * i + q)) (row_of labels b)) ≡ any_below 64 (λ q. beats_in s labels free b (64 * i + q))
    unfolding beats_in
    beaten_word b i {word} l e = any_same 64 (λ q. member word q && ahead q) (λ q. in_set free (64 * i + q) && ahead q) at_q
      where
        ahead : ℕ → Bool
        ahead q = outranks s 512 (row_of labels (64 * i + q)) (row_of labels b)

        in_both : (q : ℕ) → q < 64 → member word q ≡ (in_set free (64 * i + q) && in_set reached (64 * i + q))
        in_both q h = ap (λ (x : ℕ). member x q) e ∙ front_in_lem free reached i q l h

        at_q : (q : ℕ) → q < 64 → (member word q && ahead q) ≡ (in_set free (64 * i + q) && ahead q)
        at_q q h = same_test (member word q && ahead q) (in_set free (64 * i + q) && ahead q) forth back
          where
            forth : T (member word q && ahead q) → T (in_set free (64 * i + q) && ahead q)
            forth t =
                let r = and_out (member word q) (ahead q) t in
                let f = and_out (in_set free (64 * i + q)) (in_set reached (64 * i + q)) (subst (λ (x : Bool). T x) (in_both q h) r.0) in
                and_in (in_set free (64 * i + q)) (ahead q) f.0 r.1

            back : T (in_set free (64 * i + q) && ahead q) → T (member word q && ahead q)
            back t =
                let r = and_out (in_set free (64 * i + q)) (ahead q) t in
                let m = ahead_reached (64 * i + q) b (omega arith) r.0 r.1 in
                and_in (member word q) (ahead q) (subst (λ (x : Bool). T x) (sym (in_both q h)) (and_in (in_set free (64 * i + q)) (in_set reached (64 * i + q)) r.0 m)) r.1

  abbrev pub beats_word : ℕ → ℕ → Bool
  beats_word b i = any_below 64 (λ q. beats_in s labels free b (64 * i + q))

  pub beaten_found : (b : ℕ) {i : ℕ} → i < 8 → beats_word b i ≡ true → true ≡ beaten_in s labels free b
  unfolding beaten_in
  beaten_found b l holds = any_found 8 (beats_word b) l holds ∙ sym (any_words (beats_in s labels free b))

  pub beaten_unfound : (b : ℕ) {i : ℕ} → Passed 8 (beats_word b) i → 8 ≤ i → false ≡ beaten_in s labels free b
  unfolding beaten_in
  beaten_unfound b p l = any_unfound p l ∙ sym (any_words (beats_in s labels free b))

  pub closed_outside : (v : ℕ) → in_set free v ≡ false → false ≡ open_in s labels free v
  unfolding open_in
  closed_outside v out = sym (ap (λ (b : Bool). b && not (beaten_in s labels free v)) out)

  pub open_unbeaten : (v : ℕ) {r : Bool} → in_set free v ≡ true → r ≡ beaten_in s labels free v → not r ≡ open_in s labels free v
  unfolding open_in
  open_unbeaten v inside e = ap not e ∙ sym (ap (λ (b : Bool). b && not (beaten_in s labels free v)) inside)
