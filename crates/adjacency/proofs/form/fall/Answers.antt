-- `adjacency::form::fall` meets its contract: offsets that are not in order fall somewhere.
-- Assumes nothing.
use lib.Dec.{leb}
use borrow.Author.Tests.{tests}
use Rattle.std.proofs.Common.{rules}
use Rattle.std.proofs.lemmas.List.Sorted.{answers_always}
use Rattle.adjacency.proofs.Layouts.{fall_told}
use Rattle.adjacency.proofs.form.fall.Goals as goal

pub returns : goal.returns
returns c = fall_told c.args.offsets.now c.is_sorted_by.result (c.is_sorted_by.ensures.cases leb (answers_always _ _ _ (λ f a r g called. search (rules, tests))))
