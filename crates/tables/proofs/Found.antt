-- What is known of a number that was looked for below a bound, as an Option: found_below.
--   found_at, found_none       the loop found it, or found none
--   some_first, none_first     what is found is the first below the bound; where none is found, the first is the bound itself
--   some_there, there          where any_below does, something is found
--   first_inside               the first, where it is below the bound, is what is found
-- Assumes nothing.
use mathlib.Core.Path.{◌≡◌, sym, ap, ◌∙◌, subst}
use mathlib.Core.Bool.{Bool, true}
use Prim.Native.Nat.{ℕ, ◌≤◌, ◌<◌}
use native.Mathlib.Omega.{arith}
use lib.Dec.{T}
use Rattle.std.specs.Prelude.{Option, Some, None}
use Rattle.std.specs.Option.{unwrap_or, is_some, option_map, IsSome}
use Rattle.bitset.specs.Below.{any_below, first_below, found_below}
use Rattle.bitset.proofs.Below as below
use Rattle.bitset.proofs.Below.{any_out, first}
use Rattle.bitset.proofs.Tests.{is_true}
use Rattle.bitset.proofs.Passed.{Passed}
use Rattle.bitset.proofs.Chains.{found_first, found_or, found_test}

module _ {n : ℕ} {f : ℕ → Bool} {i : ℕ} where
  pub found_at : Passed n f i → i < n → f i ≡ true → Some i ≡ found_below n f
  found_at p l holds = found_first n f (Some i) (l, subst (λ (b : Bool). T b) (sym holds) tt, p.none)

  pub found_none : Passed n f i → n ≤ i → None ≡ found_below n f
  found_none p l = found_first n f None (λ x h t. p.none x (omega arith) t)

-- what was found is the first, and f holds there
module _ (n : ℕ) (f : ℕ → Bool) where
  pub some_first : {i : ℕ} → Some i ≡ found_below n f → (i < n) × (i ≡ first_below n f) × T (f i)
  some_first {i} e =
      let same : i ≡ first_below n f = ap (λ (o : Option ℕ). unwrap_or o n) e ∙ found_or n f in
      let any : T (any_below n f) = subst (λ (b : Bool). T b) (ap (λ (o : Option ℕ). is_some o) e ∙ found_test n f) tt in
      let inside : first_below n f < n = below.first_found (any_out n f any) in
      (omega (arith, same, inside), same, subst (λ (u : ℕ). T (f u)) (sym same) ((first n f).holds inside))

  pub none_first : None ≡ found_below n f → n ≡ first_below n f
  none_first e = ap (λ (o : Option ℕ). unwrap_or o n) e ∙ found_or n f

  -- there is one where f holds at some number
  pub some_there : {X : Type 0} (h : X → ℕ) (r : Option X) → option_map h r ≡ found_below n f → T (any_below n f) → IsSome r
  some_there h None e t = absurd (omega (arith, none_first e, below.first_found (any_out n f t)))
  some_there h (Some x) e t = cc

  pub there : (r : Option ℕ) → r ≡ found_below n f → T (any_below n f) → IsSome r
  there r e t = ap (λ (o : Option ℕ). is_some o) e ∙ found_test n f ∙ is_true (any_below n f) t

  pub first_inside : {i : ℕ} → i ≡ first_below n f → i < n → Some i ≡ found_below n f
  first_inside {i} e l =
      let inside : first_below n f < n = omega (arith, e) in
      found_first n f (Some i) (l, subst (λ (u : ℕ). T (f u)) (sym e) ((first n f).holds inside), λ x h t. (first n f).least x (omega (arith, e)) t)
