-- `traversal::Traversal::offered` meets its contract: 13, or the set of the open vertices, which are the offered ones.
-- Assumes nothing.
use mathlib.Core.Path.{◌≡◌, refl, sym, ap, ◌∙◌}
use Prim.Native.Nat.{ℕ}
use lib.ListN.{length}
use borrow.Author.Rules.{rules}
use Rattle.bitset.specs.Word.{set_below}
use Rattle.bitset.proofs.Tests.{said_true}
use Rattle.offers.specs.Open.{open_in}
use Rattle.searches.specs.Kind.{search_of}
use Rattle.searches.specs.Answer.{refusal_of, number}
use Rattle.traversal.specs.State.{well_formed}
use Rattle.traversal.proofs.WellFormed.{parts, surveyed_words, well_formed_out, open_offers}
use Rattle.traversal.proofs.Answered.{offered_whole, offered_refused}
use Rattle.traversal.proofs.Traversal.offered.Goals as goal
use Rattle.traversal.proofs.Traversal.offered.Goals.{Start}

-- the arrays have 64 entries
arrays : (s : Start) → (length s.args.self.rows ≡ 64) × (length s.args.self.ordering ≡ 64)
arrays s = (search rules, search rules)

pub returns-in_default-clause-answer : goal.returns-in_default-clause-answer
unfolding refusal_of number
returns-in_default-clause-answer c = (offered_refused c.args.self (sym c.in_default.ensures.formed)).1

pub returns-in_default-clause-refused : goal.returns-in_default-clause-refused
returns-in_default-clause-refused c = sym (offered_refused c.args.self (sym c.in_default.ensures.formed)).0

pub open_below-set-requires : goal.open_below-set-requires
open_below-set-requires c = (parts c.args.self (said_true (well_formed c.args.self) c.in-Some.ensures.formed refl)).points

pub returns : goal.returns
unfolding refusal_of
returns c =
    let t = c.args.self in
    let full = arrays (goal.at.returns c).Start in
    let e = c.in-Some.ensures in
    let moment = c.in-Some.moment in
    let sound = said_true (well_formed t) e.formed refl in
    let words = surveyed_words t full.0 full.1 e.moment sound in
    let formed = well_formed_out t full.0 full.1 sound in
    let whole = offered_whole t (sym e.formed) (open_offers t full.0 full.1 formed words.0 words.1) in
    record {
      state = refl;
      refused = tt;
      set = (c.open_below-set.ensures ∙ ap (λ (kind : ℕ). set_below t.n (open_in (search_of kind) moment.labels.words moment.free)) e.moment.of_kind) ∙ whole.0;
      answer = whole.1;
    }
