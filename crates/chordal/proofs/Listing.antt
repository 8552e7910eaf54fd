-- Lists written from the front, one entry after the other, and a list written from the end of its front.
--   listed_length, listed_at       what a listed sequence is;   listed_front   a list that has its entries in front
--   Filled f out₀ out k            out is out₀ with the first k entries of f written over its front
--   filled_none, filled_more       where a loop begins, and after one entry more
--   filled_length, filled_at, filled_behind     what such a list is
--   filled_anew, filled_through    a loop that goes on from a list that was begun before it
--   Turning w n out₀ out q         out is out₀ with the first q vertices of w written over its first n entries, from the last one on
--   turning_start, turning_next, turning_end
-- Assumes nothing.
use Prim.Native.Nat.{ℕ, zero, suc, ◌+◌, ◌-◌, ◌≤◌, ◌<◌}
use mathlib.Core.Path.{◌≡◌, refl, sym, ap, ap₂, ◌∙◌}
use mathlib.Core.Logic.{◌⊎◌, inl, inr}
use mathlib.Core.List.{List, [], ◌∷◌, ◌++◌}
use native.Mathlib.Omega.{arith}
use native.Mathlib.Numerals.{add-one}
use lib.ListN.{length, get_or, take, drop, set, length-append, length-drop, length-set, take-append-drop, get_or-append}
use lib.Seq.{length-take-le, drop-cons, set_at, append_snoc, drop_at, drop-drop, drop-set-lt, get_or-take, get_or-set_same, get_or-set_other, ext_get_or}
use Rattle.bitset.proofs.Tests.{below_suc, three_ways}
use Rattle.searches.specs.Ordering.{at}
use Rattle.searches.proofs.Ordering.{length_grown, grown_agree, grown_last}
use Rattle.chordal.specs.Descent.{listed, turned}

pub listed_length : (k : ℕ) (f : ℕ → ℕ) → length (listed k f) ≡ k
unfolding listed
listed_length zero f = refl
listed_length (suc k) f = length_grown (listed k f) (f k) ∙ ap suc (listed_length k f)

pub listed_at : (k : ℕ) (f : ℕ → ℕ) (p : ℕ) → p < k → at (listed k f) p ≡ f p
unfolding listed
listed_at zero f p l = absurd (omega arith)
listed_at (suc k) f p l = go (below_suc k p l) (listed_at k f p)
  where
    go : (p < k) ⊎ (p ≡ k) → (p < k → at (listed k f) p ≡ f p) → at (listed k f ++ f k ∷ []) p ≡ f p
    go (inl h) rest = grown_agree (listed k f) (f k) p (omega (arith, listed_length k f)) ∙ rest h
    go (inr e) rest = ap (λ (q : ℕ). at (listed k f ++ f k ∷ []) q) (e ∙ sym (listed_length k f)) ∙ grown_last (listed k f) (f k) ∙ ap f (sym e)

listed_front : (k : ℕ) (f : ℕ → ℕ) (out₀ out : List ℕ) → k ≤ length out → ((p : ℕ) → p < k → at out p ≡ f p) → drop k out ≡ drop k out₀
    → out ≡ listed k f ++ drop k out₀
listed_front k f out₀ out room front behind =
    sym (take-append-drop k out) ∙ ap₂ (λ (x y : List ℕ). x ++ y) (ext_get_or 0 (take k out) (listed k f) (long ∙ sym (listed_length k f)) same) behind
  where
    long : length (take k out) ≡ k
    long = length-take-le k out room

    same : (p : ℕ) → p < length (take k out) → at (take k out) p ≡ at (listed k f) p
    same p l = let h : p < k = omega (arith, long) in get_or-take k out p 0 h ∙ front p h ∙ sym (listed_at k f p h)

module _ (f : ℕ → ℕ) where
  pub record Filled (out₀ out : List ℕ) (k : ℕ) : Type 0 where
    pub within : k ≤ length out₀
    pub written : out ≡ listed k f ++ drop k out₀

  pub filled_none : (out : List ℕ) → Filled out out 0
  unfolding listed
  filled_none out = record { within = omega arith; written = refl }

  pub filled_more : {out₀ out : List ℕ} {k : ℕ} (v : ℕ) → Filled out₀ out k → k < length out₀ → v ≡ f k → Filled out₀ (set out k v) (k + 1)
  unfolding listed
  filled_more {out₀} {out} {k} v x room e = record {
    within = omega arith;
    written =
        ap (λ (l : List ℕ). set l k v) (x.written ∙ ap (λ (l : List ℕ). listed k f ++ l) (drop-cons out₀ k 0 room))
        ∙ set_at (listed k f) (get_or out₀ k 0) (drop (suc k) out₀) v k (listed_length k f)
        ∙ ap (λ (u : ℕ). listed k f ++ u ∷ drop (suc k) out₀) e
        ∙ sym (append_snoc (listed k f) (f k) (drop (suc k) out₀))
        ∙ ap (λ (m : ℕ). listed m f ++ drop m out₀) (sym (add-one k));
  }

  pub filled_length : {out₀ out : List ℕ} {k : ℕ} → Filled out₀ out k → length out ≡ length out₀
  filled_length {out₀} {out} {k} x =
      let e = ap length x.written ∙ length-append (listed k f) (drop k out₀) in
      omega (arith, e, listed_length k f, length-drop k out₀, x.within)

  pub filled_at : {out₀ out : List ℕ} {k : ℕ} → Filled out₀ out k → (p : ℕ) → p < k → at out p ≡ f p
  filled_at {out₀} {out} {k} x p h =
      ap (λ (l : List ℕ). at l p) x.written ∙ get_or-append (listed k f) (drop k out₀) 0 p (omega (arith, listed_length k f)) ∙ listed_at k f p h

  pub filled_behind : {out₀ out : List ℕ} {k : ℕ} → Filled out₀ out k → drop k out ≡ drop k out₀
  filled_behind {out₀} {out} {k} x = ap (λ (l : List ℕ). drop k l) x.written ∙ drop_at (listed k f) (drop k out₀) k (listed_length k f)

  pub filled_anew : {out₀ out : List ℕ} {k : ℕ} → Filled out₀ out k → Filled out out k
  filled_anew {out₀} {out} {k} x = record {
    within = omega (arith, filled_length x, x.within);
    written = x.written ∙ ap (λ (l : List ℕ). listed k f ++ l) (sym (filled_behind x));
  }

  pub filled_through : {out₀ begun out : List ℕ} {j k : ℕ} → Filled out₀ begun j → j ≤ k → Filled begun out k → Filled out₀ out k
  filled_through {out₀} {begun} {out} {j} {k} x h y = record {
    within = omega (arith, filled_length x, y.within);
    written = y.written ∙ ap (λ (l : List ℕ). listed k f ++ l) (apart begun ∙ ap (λ (l : List ℕ). drop (k - j) l) (filled_behind x) ∙ sym (apart out₀));
  }
    where
      apart : (l : List ℕ) → drop k l ≡ drop (k - j) (drop j l)
      apart l = ap (λ (m : ℕ). drop m l) (let e : k ≡ j + (k - j) = omega arith in e) ∙ sym (drop-drop (k - j) j l)

-- ---- turned round

module _ (w : List ℕ) (n : ℕ) (out₀ : List ℕ) where
  pub record Turning (out : List ℕ) (q : ℕ) : Type 0 where
    pub within : q ≤ n
    pub long : length out ≡ length out₀
    pub written : (p : ℕ) → p < n → n ≤ p + q → at out p ≡ turned w n p
    pub behind : drop n out ≡ drop n out₀

  pub turning_start : Turning out₀ 0
  turning_start = record { within = omega arith; long = refl; written = λ p h k. absurd (omega arith); behind = refl }

  pub turning_next : {out : List ℕ} {q v : ℕ} → Turning out q → q < n → n ≤ length out₀ → v ≡ at w q → Turning (set out (n - 1 - q) v) (q + 1)
  turning_next {out} {q} {v} x l room e = record {
    within = omega arith;
    long = length-set out (n - 1 - q) v ∙ x.long;
    written = λ p h k. go p h (three_ways p (n - 1 - q)) k;
    behind = drop-set-lt n out (n - 1 - q) v (omega arith) ∙ x.behind;
  }
    where
      go : (p : ℕ) → p < n → (p < n - 1 - q) ⊎ ((p ≡ n - 1 - q) ⊎ (n - 1 - q < p)) → n ≤ p + (q + 1) → at (set out (n - 1 - q) v) p ≡ turned w n p
      go p h (inl early) k = absurd (omega arith)
      go p h (inr (inl here)) k =
          ap (λ (i : ℕ). at (set out (n - 1 - q) v) i) here ∙ get_or-set_same out (n - 1 - q) v 0 (omega (arith, x.long)) ∙ e
          ∙ ap (λ (i : ℕ). at w i) (let same : q ≡ n - suc p = omega arith in same)
      go p h (inr (inr later)) k = get_or-set_other out (n - 1 - q) p v 0 (λ same. omega arith) ∙ x.written p h (omega arith)

  pub turning_end : {out : List ℕ} {q : ℕ} → Turning out q → n ≤ q → n ≤ length out₀ → out ≡ listed n (turned w n) ++ drop n out₀
  turning_end {out} {q} x l room = listed_front n (turned w n) out₀ out (omega (arith, x.long)) (λ p h. x.written p h (omega arith)) x.behind
