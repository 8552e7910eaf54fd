-- `admission::rows::Table::word_one_way` meets its contract: the vertices of the word that were taken out have `u` in their rows.
-- Assumes nothing.
use mathlib.Core.Path.{◌≡◌, sym, ap, ◌∙◌, subst}
use mathlib.Core.Bool.{not}
use Prim.Native.Nat.{ℕ, ◌+◌, ◌*◌, ◌<◌}
use native.Mathlib.Omega.{arith}
use lib.Dec.{T}
use Rattle.std.proofs.Common.{rules}
use Rattle.bitset.specs.Word.{member}
use Rattle.bitset.specs.Below.{first_below}
use Rattle.bitset.proofs.Tests.{said_true, said_false}
use Rattle.bitset.proofs.Scan.{scan_start, scan_next, scan_found, scan_end, first_member, removed_less}
use Rattle.searches.specs.Table.{arcs_wide}
use Rattle.admission.proofs.Outside.{word_inside, one_sided_word}
use Rattle.admission.proofs.rows.Table.word_one_way.Goals as goal
use Rattle.admission.proofs.rows.Table.word_one_way.Goals.{After-contains, In-loop-rest}

pub overflow_mul-rest : goal.overflow_mul-rest
overflow_mul-rest c = omega (arith, c.args.self.sized.small, c.requires.0)

pub overflow_add-rest : goal.overflow_add-rest
overflow_add-rest c = omega (arith, c.args.self.sized.small, c.requires.0, c.requires.1)

pub bounds-self-u : goal.bounds-self-u
bounds-self-u c = omega (arith, c.args.self.sized.whole, c.requires.0, c.requires.1)

pub loop-rest-init : goal.loop-rest-init
loop-rest-init c = scan_start 64 _ (search rules)

-- the smallest vertex that is left in the word
found : (c : In-loop-rest)
    → let rest = c.loop-rest.rest in
    (first_below 64 (member rest) < 64) × T (member rest (first_below 64 (member rest)))
found c = first_member c.loop-rest.rest c.loop-rest.invariant.word (omega (arith, c.loop-rest-test.true))

-- it is one of the n vertices
inside : (c : In-loop-rest) → 64 * c.args.i + first_below 64 (member c.loop-rest.rest) < c.args.self.n
inside c =
    let a = c.args in
    let f = found c in
    word_inside a.self.n a.self.words.now a.u c.requires.2 a.i _ c.requires.1 f.0 (c.loop-rest.invariant.part _ f.1)

pub smallest-requires : goal.smallest-requires
smallest-requires c = tt

pub overflow_add-v : goal.overflow_add-v
overflow_add-v c = omega (arith, c.smallest.ensures, inside (goal.at.overflow_add-v c).In-loop-rest, c.args.self.sized.small)

pub contains-requires : goal.contains-requires
contains-requires c =
    (omega (arith, c.smallest.ensures, inside (goal.at.contains-requires c).In-loop-rest, c.args.self.sized.whole), omega (arith, c.args.self.sized.small, c.requires.0))

-- what the call answers, by the smallest vertex itself
asked : (c : After-contains)
    → let a = c.args in
    c.contains.result ≡ arcs_wide 8 a.self.words.now (64 * a.i + first_below 64 (member c.loop-rest.rest)) a.u
asked c =
    let a = c.args in
    c.contains.ensures ∙ ap (λ (q : ℕ). arcs_wide 8 a.self.words.now (64 * a.i + q) a.u) c.smallest.ensures

pub returns-then-not-contains : goal.returns-then-not-contains
returns-then-not-contains c =
    let f = found (goal.at.returns-then-not-contains c).In-loop-rest in
    scan_found c.loop-rest.invariant _ f.0 f.1 (said_true _ (ap not (asked (goal.at.returns-then-not-contains c).After-contains)) (ap not c.if-not-contains.true))
    ∙ one_sided_word _ _ _ c.requires.1

pub without_smallest-rest-requires : goal.without_smallest-rest-requires
without_smallest-rest-requires c = tt

pub loop-rest-smaller : goal.loop-rest-smaller
loop-rest-smaller c =
    subst (λ (m : ℕ). m < c.loop-rest.rest) (sym c.without_smallest-rest.ensures)
    (removed_less c.loop-rest.rest _ c.loop-rest.invariant.word (found (goal.at.loop-rest-smaller c).In-loop-rest).1)

pub loop-rest-preserved : goal.loop-rest-preserved
loop-rest-preserved c =
    rw c.without_smallest-rest.ensures
    (scan_next c.loop-rest.invariant _ (λ _. said_false _ (ap not (asked (goal.at.loop-rest-preserved c).After-contains)) (ap not c.if-not-contains.false)))

pub returns : goal.returns
returns c = scan_end c.loop-rest.invariant c.loop-rest-test.false ∙ one_sided_word _ _ _ c.requires.1
