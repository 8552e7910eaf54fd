-- Searching and counting among the numbers below a bound. A test `ℕ → Bool` with a bound beside it is a set of numbers.
--   any_below n f      f holds at some number below n
--   all_below n f      f holds at every number below n
--   first_below n f    the least number below n at which f holds, n where there is none
--   found_below n f    that number as an Option, which holds none where there is none
--   last_below n f     the greatest number below n at which f holds, 0 where there is none
--   count_below n f    how many numbers below n there are at which f holds
--   differ f g p      p is in just one of the two sets
--   within n f g      every number below n that is in f is in g
--   only f g p        p is in f and not in g
--   past_last n f      one more than the greatest number below n in f, 0 where there is none
-- Each search takes the top number first and leaves the rest unread once that decides.
use Rattle.std.specs.Prelude.{ℕ, zero, suc, Bool, true, false, cond, not, ◌&&◌, ◌||◌, ltb, Option, Some, None}
use Rattle.std.specs.Bool.{beq}

unfoldable pub any_below : ℕ → (ℕ → Bool) → Bool
any_below zero f = false
any_below (suc n) f = let rest = any_below n f in f n || rest

unfoldable pub all_below : ℕ → (ℕ → Bool) → Bool
all_below zero f = true
all_below (suc n) f = let rest = all_below n f in f n && rest

unfoldable pub first_below : ℕ → (ℕ → Bool) → ℕ
first_below zero f = zero
first_below (suc n) f =
    let rest = first_below n f in
    let top = cond (f n) n (suc n) in
    cond (ltb rest n) rest top

unfoldable pub found_below : ℕ → (ℕ → Bool) → Option ℕ
found_below n f = let first = first_below n f in cond (ltb first n) (Some first) None

unfoldable pub last_below : ℕ → (ℕ → Bool) → ℕ
last_below zero f = zero
last_below (suc n) f = let rest = last_below n f in cond (f n) n rest

unfoldable pub count_below : ℕ → (ℕ → Bool) → ℕ
count_below zero f = zero
count_below (suc n) f = let rest = count_below n f in cond (f n) (suc rest) rest

unfoldable pub differ : (ℕ → Bool) → (ℕ → Bool) → ℕ → Bool
differ f g p = not (beq (f p) (g p))

unfoldable pub within : ℕ → (ℕ → Bool) → (ℕ → Bool) → Bool
within n f g = all_below n (λ p. not (f p) || g p)

unfoldable pub only : (ℕ → Bool) → (ℕ → Bool) → ℕ → Bool
only f g p = f p && not (g p)

unfoldable pub past_last : ℕ → (ℕ → Bool) → ℕ
past_last n f = cond (any_below n f) (suc (last_below n f)) 0
