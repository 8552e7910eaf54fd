-- Only a vertex that is reached, whose label has a position, is ahead of another.
--   front_word, front_free   the free and reached vertices: a word, and free
--   ahead_reached     who is ahead is reached
--   beaten_reached    who is beaten by a free vertex is beaten by one that is also reached
--   covers_spread     with the row of a placed vertex put in, the reached vertices are covered again
-- Assumes nothing.
use mathlib.Core.Path.{◌≡◌, sym, ap, ◌∙◌, subst}
use mathlib.Core.Bool.{Bool, ◌&&◌, ◌||◌}
use mathlib.Core.Logic.{◌⊎◌, inl, inr}
use mathlib.Core.List.{List}
use Prim.Native.Nat.{ℕ, ◌<◌, ◌^◌}
use lib.Dec.{T}
use lib.ListN.{get_or}
use Rattle.bitset.specs.Word.{member, united, common}
use Rattle.bitset.proofs.Tests.{and_in, and_out, or_inl, or_inr, decided, same_test}
use Rattle.bitset.proofs.Below.{any_same}
use Rattle.bitset.proofs.Word.{member_united, member_common, common_word, empty_back}
use Rattle.searches.specs.Kind.{Search}
use Rattle.searches.proofs.Reason.{outranks→reason}
use Rattle.labels.specs.Words.{ahead_in, label_with, spread_to}
use Rattle.offers.specs.Open.{beaten_in, Covers}
use Rattle.labels.proofs.Spreading.{spread_outside}

module _ (free reached : ℕ) {front : ℕ} (e : front ≡ common free reached) where
  pub front_word : free < 2 ^ 64 → front < 2 ^ 64
  front_word h = subst (λ (x : ℕ). x < 2 ^ 64) (sym e) (common_word h reached)

  in_front : (u : ℕ) → member front u ≡ (member free u && member reached u)
  in_front u = ap (λ (x : ℕ). member x u) e ∙ member_common free reached u

  pub front_free : (u : ℕ) → T (member front u) → T (member free u)
  front_free u t = (and_out (member free u) (member reached u) (subst (λ (b : Bool). T b) (in_front u) t)).0

module _ (s : Search) (labels : List ℕ) (reached : ℕ) (covers : Covers reached labels) where
  pub ahead_reached : (u mine : ℕ) → u < 64 → T (ahead_in s (get_or labels u 0) mine) → T (member reached u)
  unfolding ahead_in
  ahead_reached u mine l t = go (decided (member reached u))
    where
      go : T (member reached u) ⊎ (T (member reached u) → ⊥) → T (member reached u)
      go (inl inside) = inside
      go (inr out) =
          let r = outranks→reason 64 (member (get_or labels u 0)) (member mine) s t in
          absurd (empty_back (covers u l out) r.position r.ours)

  pub beaten_reached : (free mine : ℕ) {front : ℕ} → front ≡ common free reached → beaten_in s labels front mine ≡ beaten_in s labels free mine
  unfolding beaten_in
  beaten_reached free mine {front} e =
      any_same 64 (λ u. member front u && ahead u) (λ u. member free u && ahead u) (λ u l. same_test (member front u && ahead u) (member free u && ahead u) (forth u) (back u l))
    where
      ahead : ℕ → Bool
      ahead u = ahead_in s (get_or labels u 0) mine

      forth : (u : ℕ) → T (member front u && ahead u) → T (member free u && ahead u)
      forth u t = let both = and_out (member front u) (ahead u) t in and_in (member free u) (ahead u) (front_free free reached e u both.0) both.1

      back : (u : ℕ) → u < 64 → T (member free u && ahead u) → T (member front u && ahead u)
      back u l t =
          let both = and_out (member free u) (ahead u) t in
          and_in (member front u) (ahead u)
          (subst (λ (b : Bool). T b) (sym (in_front free reached e u)) (and_in (member free u) (member reached u) both.0 (ahead_reached u mine l both.1))) both.1

pub covers_spread : (labels : List ℕ) (reached row grown p : ℕ) {labels' : List ℕ} {reached' : ℕ} → Covers reached labels
    → ((v : ℕ) → T (member grown v) → T (member row v)) → labels' ≡ spread_to grown p labels → reached' ≡ united reached row → Covers reached' labels'
covers_spread labels reached row grown p {labels'} {reached'} covers part at-labels at-reached v l out =
    ap (λ (ls : List ℕ). get_or ls v 0) at-labels ∙ spread_outside (label_with p) grown labels 64 v (λ t. outside (or_inr (member reached v) (member row v) (part v t)))
    ∙ covers v l (λ t. outside (or_inl (member reached v) (member row v) t))
  where
    outside : T (member reached v || member row v) → ⊥
    outside t = out (subst (λ (b : Bool). T b) (sym (ap (λ (x : ℕ). member x v) at-reached ∙ member_united reached row v)) t)
