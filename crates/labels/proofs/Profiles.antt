-- What is compared of a vertex: what a profile shows of its label.
--   profile_kept                what is kept of a vertex is the profile of its label
--   label_of, profile_own, weight_of_lem   what the profile of a label shows;   profile_of_halves   a label and its weight are one
--   profiles_ahead              the greater weight is ahead
--   unexcused_mcs               MCS's own condition is just that
-- Assumes nothing.
use mathlib.Core.Path.{◌≡◌, refl, sym, ap, ap₂, ◌∙◌, subst}
use mathlib.Core.Logic.{◌≢◌}
use mathlib.Core.List.{List}
use Prim.Native.Nat.{ℕ, ◌<◌, ◌^◌}
use lib.Dec.{ltb}
use lib.ListN.{get_or}
use Rattle.searches.specs.Kind.{Search, mns, mcs}
use Rattle.searches.specs.Label.{outranks}
use Rattle.searches.specs.Violation.{condition, meets}
use Rattle.labels.specs.Weights.{weight_of}
use Rattle.labels.specs.Words.{Weighed, profile_of, profile_at, ahead_in, unexcused_in}
use Rattle.labels.specs.declared.profile.Profile.{Profile}
use Rattle.labels.proofs.Weights.{weight_ahead, weighed_at}

-- what the profile of a label shows
pub label_of : (s : Search) (label : ℕ) {x : Profile} → x ≡ profile_of s label → x.label ≡ label
unfolding profile_of
label_of s label e = ap (λ (y : Profile). y.label) e

pub profile_own : (s : Search) (label : ℕ) {x : Profile} → x ≡ profile_of s label → x ≡ profile_of s x.label
profile_own s label e = e ∙ ap (profile_of s) (sym (label_of s label e))

pub weight_of_lem : (s : Search) (x : Profile) → x ≡ profile_of s x.label → x.weight ≡ weight_of s x.label
unfolding profile_of
weight_of_lem s x e = ap (λ (y : Profile). y.weight) e

-- a label and its weight are a profile
pub profile_of_halves : (s : Search) {label weight : ℕ} → weight ≡ weight_of s label → record { label = label; weight = weight } ≡ profile_of s label
unfolding profile_of
profile_of_halves s {label} e = ap (λ (w : ℕ). profile label w) e
  where
    profile : ℕ → ℕ → Profile
    profile label weight = record { label = label; weight = weight }

pub profile_kept : (s : Search) {labels weights : List ℕ} → Weighed s labels weights → (v : ℕ) {x : Profile} → x ≡ profile_at labels weights v
    → x ≡ profile_of s (get_or labels v 0)
unfolding profile_of profile_at
profile_kept s e v at = at ∙ profile_of_halves s (weighed_at s e v)

pub profiles_ahead : (s : Search) → s ≢ mns → (c b : Profile) → c ≡ profile_of s c.label → b ≡ profile_of s b.label → c.label < 2 ^ 64 → b.label < 2 ^ 64
    → ltb b.weight c.weight ≡ ahead_in s c.label b.label
profiles_ahead s other c b of_c of-b c_word b_word =
    ap₂ (λ (x y : ℕ). ltb x y) (weight_of_lem s b of-b) (weight_of_lem s c of_c) ∙ weight_ahead c.label b.label c_word b_word s other

-- what is asked besides is that c is ahead
pub unexcused_mcs : (s : Search) → s ≡ mcs → (i c b : ℕ) → ahead_in s c b ≡ unexcused_in s i c b
unfolding ahead_in outranks unexcused_in condition meets
unexcused_mcs s e i c b = subst (λ (k : Search). ahead_in k c b ≡ unexcused_in k i c b) (sym e) refl
