-- The greatest weight, and what it says where weights alone are compared.
--   by_weight_other, by_weight_mns    which kind bytes name such a search
--   weight_tells                      there the greater weight is ahead
--   no_weight                         an empty label weighs nothing
--   Highest f k r                     r is the greatest of the first k values of f, 0 where k is
--   highest_start, highest_next       where a loop over them begins, and one value more
--   place_yes, place_no               the place of a vertex that has the weight, 0 for another
--   highest_most, highest_last        the greatest weight;   of the vertices that have it, the greatest place in the tie-break
--   beaten_lighter                    who weighs less than the most is beaten
--   last_heaviest                     the heaviest one that stands last in the tie-break is chosen
-- Assumes nothing.
use mathlib.Core.Path.{◌≡◌, refl, sym, ap, ap₂, ◌∙◌, subst}
use mathlib.Core.Bool.{Bool, true, cond, not, ◌&&◌}
use mathlib.Core.Logic.{◌⊎◌, inl, inr, ◌≢◌}
use mathlib.Core.List.{List}
use mathlib.Core.Option.{Option}
use Prim.Native.Nat.{ℕ, zero, suc, ◌+◌, ◌-◌, ◌≤◌, ◌<◌}
use native.Mathlib.Omega.{arith}
use native.Mathlib.Numerals.{add-one}
use lib.Dec.{T, ltb, eqb, ltb→lt, lt→ltb, eqb→eq, eqb_refl, not_T, T_not}
use lib.ListN.{length, get_or}
use Rattle.bitset.specs.Below.{any_below, last_below, past_last}
use Rattle.bitset.proofs.Tests.{and_in, and_out, decided, same_test, is_false, cond_yes, cond_no, below_or, below_suc}
use Rattle.bitset.proofs.Below.{any_out, any_at, last_unique}
use Rattle.bitset.proofs.Count.{count_none}
use Rattle.searches.specs.Kind.{Search, generic, bfs, dfs, lex_bfs, lex_dfs, mns, mcs, search_of}
use Rattle.searches.specs.Ordering.{at}
use Rattle.searches.specs.Label.{empty, outranks}
use Rattle.searches.proofs.Reason.{outranks→reason}
use Rattle.searches.proofs.Running.{smallest_absent}
use Rattle.tables.specs.Rows.{in_set, row_of}
use Rattle.wide.specs.Store.{smallest_kept, weight_in, by_weight, Weighed, Bare, IsMost, beats_in, beaten_in, open_in, chosen_in}
use Rattle.wide.specs.Steps.{Choosable}
use Rattle.wide.specs.Choice.{LastAt}
use Rattle.wide.proofs.Comparing.{largest_past, weight_ahead}

-- ---- the searches that compare weights alone

pub by_weight_other : (kind : ℕ) → kind ≢ 3 → kind ≢ 4 → kind ≢ 5 → by_weight (search_of kind) ≡ true
unfolding by_weight search_of
by_weight_other zero x y z = refl
by_weight_other (suc zero) x y z = refl
by_weight_other (suc (suc zero)) x y z = refl
by_weight_other (suc (suc (suc zero))) x y z = absurd (x refl)
by_weight_other (suc (suc (suc (suc zero)))) x y z = absurd (y refl)
by_weight_other (suc (suc (suc (suc (suc zero))))) x y z = absurd (z refl)
by_weight_other (suc (suc (suc (suc (suc (suc zero)))))) x y z = refl
by_weight_other (suc (suc (suc (suc (suc (suc (suc more))))))) x y z = refl

-- of the bytes other than LexBFS and LexDFS, all but MNS
pub by_weight_mns : (kind : ℕ) → kind ≢ 3 → kind ≢ 4 → not (eqb kind 5) ≡ by_weight (search_of kind)
unfolding by_weight search_of
by_weight_mns kind x y = go (decided (eqb kind 5))
  where
    go : T (eqb kind 5) ⊎ (T (eqb kind 5) → ⊥) → not (eqb kind 5) ≡ by_weight (search_of kind)
    go (inl t) = subst (λ (k : ℕ). not (eqb k 5) ≡ by_weight (search_of k)) (sym (eqb→eq kind 5 t)) refl
    go (inr other) =
        ap not (is_false (eqb kind 5) other) ∙ sym (by_weight_other kind x y (λ e. other (subst (λ (k : ℕ). T (eqb k 5)) (sym e) (eqb_refl 5))))

weight_tells : (s : Search) → T (by_weight s) → (c b : ℕ → Bool) → ltb (weight_in s 512 b) (weight_in s 512 c) ≡ outranks s 512 c b
unfolding by_weight search_of
weight_tells generic t c b = weight_ahead c b 0 (λ e. omega arith) (λ e. omega arith) (λ e. omega arith)
weight_tells bfs t c b = weight_ahead c b 1 (λ e. omega arith) (λ e. omega arith) (λ e. omega arith)
weight_tells dfs t c b = weight_ahead c b 2 (λ e. omega arith) (λ e. omega arith) (λ e. omega arith)
weight_tells lex_bfs t c b = absurd t
weight_tells lex_dfs t c b = absurd t
weight_tells mns t c b = absurd t
weight_tells mcs t c b = weight_ahead c b 6 (λ e. omega arith) (λ e. omega arith) (λ e. omega arith)

pub no_weight : (f : ℕ → Bool) → (T (any_below 512 f) → ⊥) → (s : Search) → weight_in s 512 f ≡ 0
unfolding weight_in empty smallest_kept past_last
no_weight f none generic = ap (λ (b : Bool). cond (not b) 0 1) (is_false (any_below 512 f) none)
no_weight f none bfs = ap (λ (x : Option ℕ). 512 - smallest_kept x) (smallest_absent 512 f none)
no_weight f none dfs = largest_past 512 f ∙ ap (λ (b : Bool). cond b (suc (last_below 512 f)) 0) (is_false (any_below 512 f) none)
no_weight f none lex_bfs = refl
no_weight f none lex_dfs = refl
no_weight f none mns = count_none 512 f (λ q l t. none (any_at 512 f q l t))
no_weight f none mcs = count_none 512 f (λ q l t. none (any_at 512 f q l t))

-- ---- the greatest of some values

pub record Highest (f : ℕ → ℕ) (k r : ℕ) : Type 0 where
  pub upto : (v : ℕ) → v < k → f v ≤ r
  pub found : (r ≡ 0) ⊎ ((v : ℕ) × (v < k) × (f v ≡ r))

pub highest_start : (f : ℕ → ℕ) → Highest f 0 0
highest_start f = record { upto = λ v l. absurd (omega arith); found = inl refl }

pub highest_next : {f : ℕ → ℕ} {k r : ℕ} → Highest f k r → (x : ℕ) → x ≡ f k → {r' : ℕ} → r ≤ r' → x ≤ r' → (r' ≡ x) ⊎ (r' ≡ r) → Highest f (k + 1) r'
highest_next {f} {k} {r} h x e {r'} up top which = record { upto = λ v l. under v (below_suc k v (subst (λ (m : ℕ). v < m) (add-one k) l)); found = held which h.found }
  where
    under : (v : ℕ) → (v < k) ⊎ (v ≡ k) → f v ≤ r'
    under v (inl l) = omega (arith, h.upto v l)
    under v (inr same) = subst (λ (u : ℕ). f u ≤ r') (sym same) (omega (arith, e))

    held : (r' ≡ x) ⊎ (r' ≡ r) → (r ≡ 0) ⊎ ((v : ℕ) × (v < k) × (f v ≡ r)) → (r' ≡ 0) ⊎ ((v : ℕ) × (v < k + 1) × (f v ≡ r'))
    held (inl new) old = inr (k, omega arith, sym e ∙ sym new)
    held (inr kept) (inl none) = inl (kept ∙ none)
    held (inr kept) (inr old) = inr (old.0, omega (arith, old.1), old.2 ∙ sym kept)

pub highest_most : {weights : List ℕ} {k r : ℕ} → Highest (λ v. get_or weights v 0) k r → 512 ≤ k → k ≤ 512 → IsMost weights r
highest_most {weights} {k} {r} h l g = record { most = λ v b. h.upto v (omega arith); found = held h.found }
  where
    held : (r ≡ 0) ⊎ ((v : ℕ) × (v < k) × (get_or weights v 0 ≡ r)) → (v : ℕ) × (v < 512) × (get_or weights v 0 ≡ r)
    held (inl none) = (0, omega arith, omega (arith, h.upto 0 (omega arith)))
    held (inr v) = (v.0, omega (arith, v.1), v.2)

-- where the vertex stands, if it has the weight
abbrev pub place_at : List ℕ → List ℕ → ℕ → ℕ → ℕ
place_at weights ranks most v = cond (eqb (get_or weights v 0) most) (get_or ranks v 0) 0

module _ (weights ranks : List ℕ) (most v : ℕ) where
  pub place_yes : get_or weights v 0 ≡ most → place_at weights ranks most v ≡ get_or ranks v 0
  place_yes e = cond_yes (eqb (get_or weights v 0) most) (get_or ranks v 0) 0 (subst (λ (x : ℕ). T (eqb x most)) (sym e) (eqb_refl most))

  pub place_no : get_or weights v 0 ≢ most → place_at weights ranks most v ≡ 0
  place_no other = cond_no (eqb (get_or weights v 0) most) (get_or ranks v 0) 0 (λ t. other (eqb→eq (get_or weights v 0) most t))

pub highest_last : {weights ranks : List ℕ} {most k r : ℕ} → Highest (place_at weights ranks most) k r → 512 ≤ k → k ≤ 512 → LastAt weights ranks most r
highest_last {weights} {ranks} {most} {k} {r} h l g = record { upto = under; found = held h.found }
  where
    under : (v : ℕ) → v < 512 → get_or weights v 0 ≡ most → get_or ranks v 0 ≤ r
    under v b e = subst (λ (x : ℕ). x ≤ r) (place_yes weights ranks most v e) (h.upto v (omega arith))

    at_v : (v : ℕ) → v < 512 → place_at weights ranks most v ≡ r → T (eqb (get_or weights v 0) most) ⊎ (T (eqb (get_or weights v 0) most) → ⊥)
        → (r ≡ 0) ⊎ ((v : ℕ) × (v < 512) × (get_or weights v 0 ≡ most) × (get_or ranks v 0 ≡ r))
    at_v v b e (inl t) = let same = eqb→eq (get_or weights v 0) most t in inr (v, b, same, sym (place_yes weights ranks most v same) ∙ e)
    at_v v b e (inr out) = inl (sym e ∙ cond_no (eqb (get_or weights v 0) most) (get_or ranks v 0) 0 out)

    held : (r ≡ 0) ⊎ ((v : ℕ) × (v < k) × (place_at weights ranks most v ≡ r)) → (r ≡ 0) ⊎ ((v : ℕ) × (v < 512) × (get_or weights v 0 ≡ most) × (get_or ranks v 0 ≡ r))
    held (inl none) = inl none
    held (inr v) = at_v v.0 (omega (arith, v.1)) v.2 (decided (eqb (get_or weights v.0 0) most))

-- ---- who has it

module _ (s : Search) (by : T (by_weight s)) (labels free : List ℕ) {weights : List ℕ} (w : Weighed s labels weights) (bare : Bare labels free) {most : ℕ} (m : IsMost weights most) where
  told : (u v : ℕ) → u < 512 → v < 512 → ltb (get_or weights v 0) (get_or weights u 0) ≡ outranks s 512 (row_of labels u) (row_of labels v)
  told u v l h = ap₂ (λ (x y : ℕ). ltb x y) (w.is v h) (w.is u l) ∙ weight_tells s by (row_of labels u) (row_of labels v)

  pub beaten_lighter : (b : ℕ) → b < 512 → ltb (get_or weights b 0) most ≡ beaten_in s labels free b
  unfolding beaten_in beats_in
  beaten_lighter b h = same_test (ltb (get_or weights b 0) most) (any_below 512 (λ u. in_set free u && ahead u)) forth back
    where
      ahead : ℕ → Bool
      ahead u = outranks s 512 (row_of labels u) (row_of labels b)

      forth : T (ltb (get_or weights b 0) most) → T (any_below 512 (λ u. in_set free u && ahead u))
      forth t =
          let u = m.found in
          let a : T (ahead u.0) = subst (λ (x : Bool). T x) (ap (λ (x : ℕ). ltb (get_or weights b 0) x) (sym u.2) ∙ told u.0 b u.1 h) t in
          let r = outranks→reason 512 (row_of labels u.0) (row_of labels b) s a in
          any_at 512 (λ u. in_set free u && ahead u) u.0 u.1 (and_in (in_set free u.0) (ahead u.0) (bare u.0 r.position u.1 r.ours) a)

      back : T (any_below 512 (λ u. in_set free u && ahead u)) → T (ltb (get_or weights b 0) most)
      back t =
          let u = any_out 512 (λ u. in_set free u && ahead u) t in
          let a = (and_out (in_set free u.at) (ahead u.at) u.holds).1 in
          let less = ltb→lt (get_or weights b 0) (get_or weights u.at 0) (subst (λ (x : Bool). T x) (sym (told u.at b u.below h)) a) in
          lt→ltb (get_or weights b 0) most (omega (arith, less, m.most u.at u.below))

  module _ (some : 0 < most) where
    -- the heaviest are free
    heaviest_free : (v : ℕ) → v < 512 → get_or weights v 0 ≡ most → T (in_set free v)
    heaviest_free v l e = go (decided (any_below 512 (row_of labels v)))
      where
        go : T (any_below 512 (row_of labels v)) ⊎ (T (any_below 512 (row_of labels v)) → ⊥) → T (in_set free v)
        go (inl t) = let p = any_out 512 (row_of labels v) t in bare v p.at l p.holds
        go (inr none) = absurd (omega (arith, w.is v l, no_weight (row_of labels v) none s))

    -- they are open, and nobody else
    heaviest_open : (v : ℕ) → v < 512 → get_or weights v 0 ≡ most → T (open_in s labels free v)
    unfolding open_in
    heaviest_open v l e =
        and_in (in_set free v) (not (beaten_in s labels free v)) (heaviest_free v l e) (not_T (beaten_in s labels free v) (λ t.
        omega (arith, ltb→lt (get_or weights v 0) most (subst (λ (x : Bool). T x) (sym (beaten_lighter v l)) t))))

    open_heaviest : (v : ℕ) → v < 512 → T (open_in s labels free v) → get_or weights v 0 ≡ most
    unfolding open_in
    open_heaviest v l t = go (below_or (get_or weights v 0) most)
      where
        go : (get_or weights v 0 < most) ⊎ (most ≤ get_or weights v 0) → get_or weights v 0 ≡ most
        go (inl less) =
            absurd (T_not (beaten_in s labels free v) (and_out (in_set free v) (not (beaten_in s labels free v)) t).1 (subst (λ (x : Bool). T x) (beaten_lighter v l) (lt→ltb (get_or weights v 0) most less)))
        go (inr more) = omega (arith, m.most v l)

    pub last_heaviest : {reached t ranks : List ℕ} → Choosable s labels weights free reached t ranks → {r : ℕ} → LastAt weights ranks most r
        → (r < length t) × (at t r ≡ chosen_in s labels free t)
    unfolding chosen_in
    last_heaviest {reached} {t} {ranks} c {r} last = (
      inside,
      ap (λ (q : ℕ). at t q) (last_unique (record {
        below = inside;
        holds = subst (λ (v : ℕ). T (open_in s labels free v)) (sym stands) (heaviest_open one.0 one.1 one.2);
        greatest = later;
      })),
    )
      where
        Held : Type 0
        Held = (v : ℕ) × (v < 512) × (get_or weights v 0 ≡ most) × (get_or ranks v 0 ≡ r)

        one : Held
        one = go last.found
          where
            go : (r ≡ 0) ⊎ Held → Held
            go (inl first) = let u = m.found in (u.0, u.1, u.2, omega (arith, last.upto u.0 u.1 u.2))
            go (inr v) = v

        place : (get_or ranks one.0 0 < length t) × (at t (get_or ranks one.0 0) ≡ one.0)
        place = c.named one.0 one.1 (heaviest_free one.0 one.1 one.2)

        inside : r < length t
        inside = subst (λ (q : ℕ). q < length t) one.3 place.0

        stands : at t r ≡ one.0
        stands = ap (λ (q : ℕ). at t q) (sym one.3) ∙ place.1

        later : (q : ℕ) → q < length t → T (open_in s labels free (at t q)) → q ≤ r
        later q l o = let entry = c.ranked.entry q l in omega (arith, entry.1, last.upto (at t q) entry.0 (open_heaviest (at t q) entry.0 o))
