-- `dimacs::import::drawing_refusal` meets its contract: the tests are tried in their order.
-- Assumes nothing.
use mathlib.Core.Path.{◌≡◌, ap}
use mathlib.Core.Bool.{true, false, not, ◌&&◌}
use mathlib.Core.List.{[], ◌∷◌}
use Prim.Native.Nat.{ℕ, ◌≤◌}
use native.Mathlib.Omega.{arith}
use borrow.Author.Tests.{lt-ltb, le-ltb}
use lib.Dec.{ltb, eqb}
use Rattle.searches.specs.Answer.{number, refusal_of}
use Rattle.checks.proofs.Tried.{Tried, tried_none, tried_one, refused_here, accepted_here}
use Rattle.dimacs.specs.Drawing.{drawing_tests}
use Rattle.dimacs.specs.declared.draw.Drawing.{Drawing}
use Rattle.dimacs.proofs.import.drawing_refusal.Goals as goal

-- ---- the tests in their order: each takes as facts what those before it said, wherever they were tried

module _ (d : Drawing) (size : ℕ) where
  -- a p line comes first
  headed : not d.headed ≡ false → Tried (drawing_tests d size) ((2, ltb 64 d.n) ∷ (27, not (d.sound && eqb d.edges d.m)) ∷ (4, d.looped) ∷ (10, ltb size d.n) ∷ [])
  unfolding drawing_tests
  headed first = tried_one (tried_none (drawing_tests d size)) first

  small : not d.headed ≡ false → d.n ≤ 64 → Tried (drawing_tests d size) ((27, not (d.sound && eqb d.edges d.m)) ∷ (4, d.looped) ∷ (10, ltb size d.n) ∷ [])
  small first few = tried_one (headed first) (le-ltb _ _ few)

  formed : not d.headed ≡ false → d.n ≤ 64 → d.sound && eqb d.edges d.m ≡ true → Tried (drawing_tests d size) ((4, d.looped) ∷ (10, ltb size d.n) ∷ [])
  formed first few form = tried_one (small first few) (ap not form)

  loopless : not d.headed ≡ false → d.n ≤ 64 → d.sound && eqb d.edges d.m ≡ true → d.looped ≡ false → Tried (drawing_tests d size) ((10, ltb size d.n) ∷ [])
  loopless first few form unlooped = tried_one (formed first few form) unlooped

-- ---- the answers

pub returns-then-not-drawing : goal.returns-then-not-drawing
unfolding number refusal_of drawing_tests
returns-then-not-drawing c =
    let d : Drawing = c.args.drawing in
    let headless : not d.headed ≡ true = grind arith in
    refused_here (tried_none (drawing_tests d c.args.size)) headless

pub returns-then-n-gt64 : goal.returns-then-n-gt64
unfolding number refusal_of
returns-then-n-gt64 c = refused_here (headed c.args.drawing c.args.size (grind arith)) (lt-ltb _ _ (omega arith))

pub returns-then-malformed : goal.returns-then-malformed
unfolding number refusal_of
returns-then-malformed c =
    let d : Drawing = c.args.drawing in
    let unformed : d.sound && eqb d.edges d.m ≡ false = grind arith in
    refused_here (small d c.args.size (grind arith) (omega arith)) (ap not unformed)

pub returns-then-looped : goal.returns-then-looped
unfolding number refusal_of
returns-then-looped c =
    let d : Drawing = c.args.drawing in
    let looped : d.looped ≡ true = grind arith in
    refused_here (formed d c.args.size (grind arith) (omega arith) (grind arith)) looped

pub returns-then-size-n : goal.returns-then-size-n
unfolding number refusal_of
returns-then-size-n c = refused_here (loopless c.args.drawing c.args.size (grind arith) (omega arith) (grind arith) (grind arith)) (lt-ltb _ _ (omega arith))

pub returns : goal.returns
unfolding refusal_of
returns c =
    let d : Drawing = c.args.drawing in
    accepted_here (tried_one (loopless d c.args.size (grind arith) (omega arith) (grind arith) (grind arith)) (le-ltb c.args.size d.n (omega arith)))
