-- The weight of a label: the greater one is ahead, in every search but MNS.
--   mirrored_word, member_mirrored   the set counted from the other end;   mirrored_inserted   with a number put in
--   mirrored_ahead                   LexBFS is LexDFS on sets that are counted from the other end
--   weight_ahead                     the greater weight is ahead
--   smallest_upto                    the byte of a smallest position is at most 64
--   bfs_unexcused, dfs_unexcused     whether a position is excused, by the weight
--   weight_none                      an empty label weighs 0
--   weighed_none, weighed_at, weighed_set   the list of the weights: at the start, of one vertex, with one changed
-- Assumes nothing.
use mathlib.Core.Path.{◌≡◌, refl, sym, ap, ap₂, ◌∙◌, subst}
use mathlib.Core.Bool.{Bool, true, false, cond, not, ◌&&◌, ◌||◌}
use mathlib.Core.Logic.{◌≢◌}
use mathlib.Core.List.{List, [], ◌∷◌, map}
use Prim.Native.Nat.{ℕ, zero, suc, ◌-◌, ◌≤◌, ◌<◌, ◌^◌}
use native.Mathlib.Omega.{arith}
use lib.Dec.{T, ltb, leb, eqb, ltb→lt, lt→ltb, leb→le, le→leb, eqb→eq, eqb_refl, leb-suc-zero}
use lib.ListN.{get_or, set, replicate, get_or-map}
use Rattle.bitset.specs.Below.{first_below}
use Rattle.bitset.specs.Word.{member, inserted}
use Rattle.bitset.proofs.Tests.{and_in, and_out, is_true, same_test}
use Rattle.bitset.proofs.Below.{first, first_unique, any_out}
use Rattle.bitset.proofs.Count.{count_none}
use Rattle.bitset.proofs.Word as word
use Rattle.bitset.proofs.WordOrder.{order_decided}
use Rattle.searches.specs.Kind.{Search, generic, bfs, dfs, lex_bfs, lex_dfs, mns, mcs}
use Rattle.searches.specs.Label.{outranks}
use Rattle.searches.specs.Running.{smallest_in}
use Rattle.searches.specs.Violation.{condition}
use Rattle.searches.proofs.Reason.{Reason, outranks→reason, reason→outranks}
use Rattle.labels.specs.Weights.{smallest_byte, mirrored_below, mirrored, weight_of}
use Rattle.labels.specs.Words.{Weighed, ahead_in, unexcused_in}
use Rattle.labels.proofs.Comparison.{bfs_words, lex_dfs_words, generic_words, unexcused_bfs}
use Rattle.labels.proofs.Extremes.{smallest_byte_lem, largest_empty, dfs_bytes, unexcused_dfs}
use Rattle.bitset.proofs.Joining.{suc_split, joined_if}

-- ---- the set counted from the other end

below_word : (k x : ℕ) → mirrored_below k x < 2 ^ 64
unfolding mirrored_below
below_word zero x = omega arith
below_word (suc p) x = go (below_word p x) (member x p)
  where
    go : mirrored_below p x < 2 ^ 64 → (b : Bool) → cond b (inserted (mirrored_below p x) (63 - p)) (mirrored_below p x) < 2 ^ 64
    go h true = word.inserted_word h (63 - p)
    go h false = h

pub mirrored_word : (x : ℕ) → mirrored x < 2 ^ 64
unfolding mirrored
mirrored_word x = below_word 64 x

-- the two ends
turned : (p q : ℕ) → p < 64 → q < 64 → eqb (63 - p) q ≡ eqb p (63 - q)
turned p q l h = same_test (eqb (63 - p) q) (eqb p (63 - q)) forth back
  where
    forth : T (eqb (63 - p) q) → T (eqb p (63 - q))
    forth t = let e = eqb→eq (63 - p) q t in let e' : 63 - q ≡ p = omega arith in subst (λ (y : ℕ). T (eqb p y)) (sym e') (eqb_refl p)

    back : T (eqb p (63 - q)) → T (eqb (63 - p) q)
    back t = let e = eqb→eq p (63 - q) t in let e' : q ≡ 63 - p = omega arith in subst (λ (y : ℕ). T (eqb (63 - p) y)) (sym e') (eqb_refl (63 - p))

below_members : (k : ℕ) → k ≤ 64 → (x q : ℕ) → q < 64 → member (mirrored_below k x) q ≡ (ltb (63 - q) k && member x (63 - q))
unfolding mirrored_below
below_members zero h x q l = word.member_zero q ∙ ap (λ (b : Bool). b && member x (63 - q)) (sym (leb-suc-zero (63 - q)))
below_members (suc p) h x q l =
    joined_if (member x p) (mirrored_below p x) {q = 63 - p} (omega arith) q
    ∙ ap₂ (λ (a b : Bool). (a && member x p) || b) (turned p q h l) (below_members p (omega arith) x q l)
    ∙ suc_split p (63 - q) (member x)

pub member_mirrored : (x q : ℕ) → q < 64 → member (mirrored x) q ≡ member x (63 - q)
unfolding mirrored
member_mirrored x q l =
    below_members 64 (omega arith) x q l ∙ ap (λ (b : Bool). b && member x (63 - q)) (is_true (ltb (63 - q) 64) (lt→ltb (63 - q) 64 (omega arith)))

pub mirrored_inserted : (x p : ℕ) → p < 64 → inserted (mirrored x) (63 - p) ≡ mirrored (inserted x p)
mirrored_inserted x p l =
    word.equal_members 64 (word.inserted_word (mirrored_word x) (63 - p)) (mirrored_word (inserted x p)) (λ q h.
    word.member_inserted (mirrored x) {e = 63 - p} (omega arith) q ∙ ap₂ (λ (a b : Bool). a || b) (turned p q l h) (member_mirrored x q h)
    ∙ sym (word.member_inserted x {e = p} l (63 - q)) ∙ sym (member_mirrored (inserted x p) q h))

module _ (c b : ℕ) where
  -- a number of the set, from the other end
  across : (x q : ℕ) → q < 64 → T (member x q) → T (member (mirrored x) (63 - q))
  across x q l t =
      let e : 63 - (63 - q) ≡ q = omega arith in
      subst (λ (y : Bool). T y) (sym (member_mirrored x (63 - q) (omega arith) ∙ ap (member x) e)) t

  back_again : (x q : ℕ) → q < 64 → T (member (mirrored x) q) → T (member x (63 - q))
  back_again x q l t = subst (λ (y : Bool). T y) (member_mirrored x q l) t

  pub mirrored_ahead : ahead_in lex_dfs (mirrored c) (mirrored b) ≡ ahead_in lex_bfs c b
  unfolding ahead_in condition
  mirrored_ahead =
      same_test (outranks lex_dfs 64 (member (mirrored c)) (member (mirrored b))) (outranks lex_bfs 64 (member c) (member b))
      (λ t. reason→outranks 64 (member c) (member b) lex_bfs (forth (outranks→reason 64 (member (mirrored c)) (member (mirrored b)) lex_dfs t)))
      (λ t. reason→outranks 64 (member (mirrored c)) (member (mirrored b)) lex_dfs (back (outranks→reason 64 (member c) (member b) lex_bfs t)))
    where
      forth : Reason (condition lex_dfs) 64 (member (mirrored c)) (member (mirrored b)) → Reason (condition lex_bfs) 64 (member c) (member b)
      forth r =
          let i : ℕ = r.position in
          let l : i < 64 = r.below in
          let e : 63 - (63 - i) ≡ i = omega arith in
          record {
            position = 63 - i;
            below = omega arith;
            ours = back_again c i l r.ours;
            theirs = λ t. r.theirs (subst (λ (y : ℕ). T (member (mirrored b) y)) e (across b (63 - i) (omega arith) t));
            unexcused = λ d h x y.
                let both = and_out (ltb d (63 - i)) (not (member c d)) y in
                let d< : d < 63 - i = ltb→lt d (63 - i) both.0 in
                let e' : 63 - (63 - d) ≡ d = omega arith in
                r.unexcused (63 - d) (omega arith) (across b d h x)
                (and_in (ltb i (63 - d)) (not (member (mirrored c) (63 - d))) (lt→ltb i (63 - d) (omega arith))
                (subst (λ (z : Bool). T (not z)) (sym (member_mirrored c (63 - d) (omega arith) ∙ ap (member c) e')) both.1));
          }

      back : Reason (condition lex_bfs) 64 (member c) (member b) → Reason (condition lex_dfs) 64 (member (mirrored c)) (member (mirrored b))
      back r =
          let i : ℕ = r.position in
          let l : i < 64 = r.below in
          let e : 63 - (63 - i) ≡ i = omega arith in
          record {
            position = 63 - i;
            below = omega arith;
            ours = across c i l r.ours;
            theirs = λ t. r.theirs (subst (λ (y : ℕ). T (member b y)) e (back_again b (63 - i) (omega arith) t));
            unexcused = λ d h x y.
                let both = and_out (ltb (63 - i) d) (not (member (mirrored c) d)) y in
                let d< : 63 - i < d = ltb→lt (63 - i) d both.0 in
                r.unexcused (63 - d) (omega arith) (back_again b d h x)
                (and_in (ltb (63 - d) i) (not (member c (63 - d))) (lt→ltb (63 - d) i (omega arith))
                (subst (λ (z : Bool). T (not z)) (member_mirrored c d h) both.1));
          }

-- ---- the greater weight is ahead

-- the smallest position, or 64
pub smallest_upto : (x : ℕ) → smallest_byte (smallest_in 64 (member x)) ≤ 64
smallest_upto x = omega (arith, smallest_byte_lem (member x), (first 64 (member x)).within)

module _ (c b : ℕ) (c_word : c < 2 ^ 64) (b_word : b < 2 ^ 64) where
  bfs_weight : ltb (64 - smallest_byte (smallest_in 64 (member b))) (64 - smallest_byte (smallest_in 64 (member c))) ≡ ahead_in bfs c b
  bfs_weight =
      same_test (ltb (64 - f b) (64 - f c)) (ltb (f c) (f b)) (λ t. lt→ltb (f c) (f b) (omega (arith, ltb→lt (64 - f b) (64 - f c) t)))
      (λ t. lt→ltb (64 - f b) (64 - f c) (omega (arith, ltb→lt (f c) (f b) t, smallest_upto b, smallest_upto c)))
      ∙ ap₂ (λ (x y : ℕ). ltb x y) (smallest_byte_lem (member c)) (smallest_byte_lem (member b)) ∙ bfs_words c b
    where
      f : ℕ → ℕ
      f x = smallest_byte (smallest_in 64 (member x))

  generic_weight : ltb (cond (eqb b 0) 0 1) (cond (eqb c 0) 0 1) ≡ ahead_in generic c b
  generic_weight = go (eqb c 0) (eqb b 0) ∙ generic_words c b c_word b_word
    where
      go : (x y : Bool) → ltb (cond y 0 1) (cond x 0 1) ≡ (not x && y)
      go true true = refl
      go true false = refl
      go false true = refl
      go false false = refl

  pub weight_ahead : (s : Search) → s ≢ mns → ltb (weight_of s b) (weight_of s c) ≡ ahead_in s c b
  unfolding weight_of ahead_in outranks
  weight_ahead generic other = generic_weight
  weight_ahead bfs other = bfs_weight
  weight_ahead dfs other = dfs_bytes c b
  weight_ahead lex_bfs other =
      order_decided 64 (mirrored_word b) (mirrored_word c) ∙ lex_dfs_words (mirrored c) (mirrored b) ∙ mirrored_ahead c b
  weight_ahead lex_dfs other = order_decided 64 b_word c_word ∙ lex_dfs_words c b
  weight_ahead mns other = absurd (other refl)
  weight_ahead mcs other = refl

-- ---- who is excused, in BFS and DFS

module _ (i c b : ℕ) where
  pub bfs_unexcused : i < 64 → leb (weight_of bfs b) (64 - i) ≡ unexcused_in bfs i c b
  unfolding weight_of
  bfs_unexcused l =
      same_test (leb (64 - f) (64 - i)) (leb i f) (λ t. le→leb i f (omega (arith, leb→le (64 - f) (64 - i) t, smallest_upto b)))
      (λ t. le→leb (64 - f) (64 - i) (omega (arith, leb→le i f t)))
      ∙ ap (λ (x : ℕ). leb i x) (smallest_byte_lem (member b)) ∙ unexcused_bfs i c b l
    where
      f : ℕ
      f = smallest_byte (smallest_in 64 (member b))

  pub dfs_unexcused : leb (weight_of dfs b) (suc i) ≡ unexcused_in dfs i c b
  unfolding weight_of
  dfs_unexcused = unexcused_dfs c b i

-- ---- the list of the weights

pub weight_none : (s : Search) → weight_of s 0 ≡ 0
unfolding weight_of mirrored
weight_none generic = refl
weight_none bfs =
    let e : 64 ≡ first_below 64 (member 0) = first_unique (record { within = omega arith; holds = λ l. absurd (omega arith); least = λ i l. word.empty_back refl i }) in
    omega (arith, smallest_byte_lem (member 0))
weight_none dfs = largest_empty (member 0) (λ t. let x = any_out 64 (member 0) t in word.empty_back refl x.at x.holds)
weight_none lex_bfs = word.empty 64 (mirrored_word 0) (λ q l t. word.empty_back refl (63 - q) (subst (λ (y : Bool). T y) (member_mirrored 0 q l) t))
weight_none lex_dfs = refl
weight_none mns = refl
weight_none mcs = count_none 64 (member 0) (λ p _. word.empty_back refl p)

module _ (s : Search) where
  none_weighs : (n : ℕ) → replicate n 0 ≡ map (weight_of s) (replicate n 0)
  none_weighs zero = refl
  none_weighs (suc n) = ap₂ (λ (x : ℕ) (l : List ℕ). x ∷ l) (sym (weight_none s)) (none_weighs n)

  pub weighed_none : {labels weights : List ℕ} → labels ≡ replicate 64 0 → weights ≡ replicate 64 0 → Weighed s labels weights
  weighed_none empty start = record { same = start ∙ none_weighs 64 ∙ ap (map (weight_of s)) (sym empty) }

  pub weighed_at : {labels weights : List ℕ} → Weighed s labels weights → (v : ℕ) → get_or weights v 0 ≡ weight_of s (get_or labels v 0)
  weighed_at {labels} e v =
      ap (λ (l : List ℕ). get_or l v 0) e.same ∙ ap (λ (d : ℕ). get_or (map (weight_of s) labels) v d) (sym (weight_none s)) ∙ get_or-map (weight_of s) labels v 0

  map_set : (l : List ℕ) (v x : ℕ) → set (map (weight_of s) l) v (weight_of s x) ≡ map (weight_of s) (set l v x)
  map_set [] v x = refl
  map_set (y ∷ l) zero x = refl
  map_set (y ∷ l) (suc v) x = ap (λ (r : List ℕ). weight_of s y ∷ r) (map_set l v x)

  pub weighed_set : {labels weights labels' weights' : List ℕ} (v x : ℕ) {y : ℕ} → Weighed s labels weights → labels' ≡ set labels v x → weights' ≡ set weights v y
      → y ≡ weight_of s x → Weighed s labels' weights'
  weighed_set {labels} v x e at-labels at-weights same = record {
    same = at-weights ∙ ap₂ (λ (l : List ℕ) (z : ℕ). set l v z) e.same same ∙ map_set labels v x ∙ ap (map (weight_of s)) (sym at-labels);
  }
