-- `adjacency::form::unsorted_in` meets its contract: the part is in strict order, or a number of it is at most the one before it.
-- Assumes nothing.
use lib.Dec.{ltb}
use borrow.Author.Tests.{tests}
use Rattle.std.proofs.Common.{rules}
use Rattle.std.proofs.lemmas.List.Sorted.{answers_always}
use Rattle.adjacency.proofs.Layouts.{unsorted_told}
use Rattle.adjacency.proofs.form.unsorted_in.Goals as goal

pub returns : goal.returns
returns c = unsorted_told c.args.list.now c.requires.0 c.requires.1 c.is_sorted_by.result (c.is_sorted_by.ensures.cases ltb (answers_always _ _ _ (λ f a r g called. search (rules, tests))))
