-- The judgement of a sheet is that of its first 18,478 bytes, one more than the longest valid sheet has.
--   cut_judged       judging these is judging the whole
--   read_itself      what a buffer holds was read from some input: from these bytes themselves
--   written_fits     what is written of a judgement fits an output list with room for 147 bytes
-- Assumes nothing.
use Prim.Native.Nat.{ℕ, suc, ◌≤◌}
use mathlib.Core.Path.{◌≡◌, refl, sym, ap}
use mathlib.Core.List.{List}
use native.Mathlib.Omega.{arith}
use lib.ListN.{length, take, length-take}
use lib.Seq.{sets, take_all, length-sets}
use Rattle.sheet.specs.Written.{longest}
use Rattle.sheet.proofs.Cut.{cut_unless}
use Rattle.judgement.specs.Judged.{judged_unless, judgement, ReadInto}
use Rattle.judgement.proofs.Writing.{judgement_short}

pub cut_judged : (b : List ℕ) → judgement (take (suc longest) b) ≡ judgement b
unfolding judgement judged_unless
cut_judged b = cut_unless b judged_unless (λ r c. refl)

pub read_itself : (buffer : List ℕ) (count : ℕ) → ReadInto buffer count (take count buffer)
read_itself buffer count = record { prefix = sym (take_all (length buffer) (take count buffer) (omega (arith, length-take count buffer))) }

pub written_fits : (buffer : List ℕ) (count : ℕ) (out : List ℕ) {out' : List ℕ} {r : ℕ} → ((b : List ℕ) → ReadInto buffer count b → out' ≡ sets out 0 (judgement b))
    → ((b : List ℕ) → ReadInto buffer count b → r ≡ length (judgement b)) → 147 ≤ length out → r ≤ length out'
written_fits buffer count out written long room =
    let b = take count buffer in
    let held = read_itself buffer count in
    omega (arith, ap length (written b held), length-sets out 0 (judgement b), long b held, judgement_short b)
