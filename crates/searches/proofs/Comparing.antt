-- Two labels compared: exactly one of the four answers holds.
--   ahead_first, ahead_told          the answer is that the first is ahead exactly where it is
--   level_left, level_told           except in MNS, it is that they are level exactly where neither is ahead
--   compared_ranked, compared_mns    who is ahead decides the answer, in MNS with the equality of labels
--   neither_in, neither_out          what is left where the other three answers do not hold
--   exactly_one                      compared: the one answer that holds
--   neither_mns                      neither comes with MNS alone;   turned_round   the two turned round;   level_itself   a label and itself
-- Assumes nothing.
use mathlib.Core.Path.{◌≡◌, refl, sym, ap, ◌∙◌, subst}
use mathlib.Core.Bool.{Bool, true, false, not, ◌&&◌}
use mathlib.Core.Logic.{◌⊎◌, inl, inr, ◌≢◌, ◌↔◌}
use Prim.Native.Nat.{ℕ}
use lib.Dec.{T, not_T, T_not}
use Rattle.bitset.proofs.Tests.{and_in, and_out, decided, cond_yes, cond_no, cond_else}
use Rattle.searches.specs.Kind.{Search, mns}
use Rattle.searches.specs.Label.{outranks}
use Rattle.searches.specs.Comparison.{alike, level, stands, told_by, compared, is_ahead, is_level, turned}
use Rattle.searches.specs.declared.Comparison.{Comparison}
use Rattle.searches.proofs.StrictOrder.{outranks_irreflexive, outranks_transitive}
use Rattle.searches.proofs.Level.{Unranked, except_mns, level_unranked, unranked_level, level_refl, level_sym}

-- the first of three tests that holds
pub ahead_first : (x y z : Bool) → is_ahead (told_by x y z) ≡ x
unfolding is_ahead told_by
ahead_first true y z = refl
ahead_first false true z = refl
ahead_first false false true = refl
ahead_first false false false = refl

-- what is left of two tests
level_left : (x y : Bool) → is_level (told_by x y true) ≡ (not x && not y)
unfolding is_level told_by
level_left true y = refl
level_left false true = refl
level_left false false = refl

-- in MNS equal labels are level
pub compared_mns : (k : ℕ) (c b : ℕ → Bool) → told_by (outranks mns k c b) (outranks mns k b c) (alike k c b) ≡ compared mns k c b
unfolding compared level
compared_mns k c b = refl

module _ (s : Search) (k : ℕ) (c b : ℕ → Bool) where
  -- the answer is that the first is ahead exactly where it is
  pub ahead_told : is_ahead (compared s k c b) ≡ outranks s k c b
  unfolding compared
  ahead_told = ahead_first (outranks s k c b) (outranks s k b c) (level s k c b)

  -- except in MNS who is ahead decides
  pub compared_ranked : s ≢ mns → told_by (outranks s k c b) (outranks s k b c) true ≡ compared s k c b
  unfolding compared told_by
  compared_ranked other =
      cond_else (outranks s k c b) Comparison.Ahead (λ ahead. cond_else (outranks s k b c) Comparison.Behind (λ behind.
      sym (cond_yes (level s k c b) Comparison.Level Comparison.Neither (unranked_level s other k c b (ahead, behind)))))

  pub level_told : s ≢ mns → is_level (compared s k c b) ≡ (not (outranks s k c b) && not (outranks s k b c))
  level_told other = ap is_level (sym (compared_ranked other)) ∙ level_left (outranks s k c b) (outranks s k b c)

  neither_out : T (stands s k c b Comparison.Neither) → Unranked s k c b × (T (level s k c b) → ⊥)
  unfolding stands
  neither_out t =
      let outer = and_out (not (outranks s k c b) && not (outranks s k b c)) (not (level s k c b)) t in
      let inner = and_out (not (outranks s k c b)) (not (outranks s k b c)) outer.0 in
      ((T_not (outranks s k c b) inner.0, T_not (outranks s k b c) inner.1), T_not (level s k c b) outer.1)

  neither_in : Unranked s k c b → (T (level s k c b) → ⊥) → T (stands s k c b Comparison.Neither)
  unfolding stands
  neither_in u apart =
      and_in (not (outranks s k c b) && not (outranks s k b c)) (not (level s k c b))
      (and_in (not (outranks s k c b)) (not (outranks s k b c)) (not_T (outranks s k c b) u.0) (not_T (outranks s k b c) u.1))
      (not_T (level s k c b) apart)

  only : (answer : Comparison) → T (stands s k c b answer) → compared s k c b ≡ answer
  unfolding compared told_by stands
  only Comparison.Ahead t = cond_yes (outranks s k c b) _ _ t
  only Comparison.Behind t =
      cond_no (outranks s k c b) _ _ (λ ahead. outranks_irreflexive s k c (outranks_transitive s k c b c ahead t)) ∙ cond_yes (outranks s k b c) _ _ t
  only Comparison.Level t =
      let u = level_unranked s k c b t in
      cond_no (outranks s k c b) _ _ u.0 ∙ cond_no (outranks s k b c) _ _ u.1 ∙ cond_yes (level s k c b) _ _ t
  only Comparison.Neither t =
      let left = neither_out t in
      cond_no (outranks s k c b) _ _ left.0.0 ∙ cond_no (outranks s k b c) _ _ left.0.1 ∙ cond_no (level s k c b) _ _ left.1

  some_answer : (answer : Comparison) × T (stands s k c b answer)
  unfolding stands
  some_answer = go (decided (outranks s k c b)) (decided (outranks s k b c)) (decided (level s k c b))
    where
      go : T (outranks s k c b) ⊎ (T (outranks s k c b) → ⊥) → T (outranks s k b c) ⊎ (T (outranks s k b c) → ⊥) → T (level s k c b) ⊎ (T (level s k c b) → ⊥)
          → (answer : Comparison) × T (stands s k c b answer)
      go (inl t) y z = (Comparison.Ahead, t)
      go (inr x) (inl t) z = (Comparison.Behind, t)
      go (inr x) (inr y) (inl t) = (Comparison.Level, t)
      go (inr x) (inr y) (inr z) = (Comparison.Neither, neither_in (x, y) z)

  -- 02: K6, exactly one of the four holds, and it is the answer
  pub exactly_one : (answer : Comparison) → T (stands s k c b answer) ↔ (compared s k c b ≡ answer)
  exactly_one answer = (
    only answer,
    λ e. let x = some_answer in subst (λ (y : Comparison). T (stands s k c b y)) (sym (only x.0 x.1) ∙ e) x.1,
  )

  -- 02: K6, neither comes with MNS alone
  pub neither_mns : compared s k c b ≡ Comparison.Neither → s ≡ mns
  neither_mns e =
      let left = neither_out ((exactly_one Comparison.Neither).1 e) in
      except_mns (λ x. Unranked x k c b → (T (level x k c b) → ⊥) → x ≡ mns) (λ _ _. refl)
      (λ x other u apart. absurd (apart (unranked_level x other k c b u))) s left.0 left.1

module _ (s : Search) (k : ℕ) (c b : ℕ → Bool) where
  stands_turned : (answer : Comparison) → T (stands s k c b answer) → T (stands s k b c (turned answer))
  unfolding stands turned
  stands_turned Comparison.Ahead t = t
  stands_turned Comparison.Behind t = t
  stands_turned Comparison.Level t = level_sym s k c b t
  stands_turned Comparison.Neither t =
      let left = neither_out s k c b t in
      neither_in s k b c (left.0.1, left.0.0) (λ back. left.1 (level_sym s k b c back))

  -- 02: K6, turning the two round turns ahead and behind
  pub turned_round : compared s k b c ≡ turned (compared s k c b)
  turned_round =
      (exactly_one s k b c (turned (compared s k c b))).0 (stands_turned (compared s k c b) ((exactly_one s k c b (compared s k c b)).1 refl))

-- 02: K6, a point is level with itself
pub level_itself : (s : Search) (k : ℕ) (c : ℕ → Bool) → compared s k c c ≡ Comparison.Level
unfolding stands
level_itself s k c = (exactly_one s k c c Comparison.Level).0 (level_refl s k c)
