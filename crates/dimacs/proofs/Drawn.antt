-- Writer and reader of a file agree: what a file draws is what is read of it.                                              [02: K13]
--   draws_content                                            what is read of a file that draws a plan: its p line, then its links
--   draws_headed, draws_points, draws_following, draws_formed   so it has its p line, its points, its links, and is formed
--   read_draws                                               a file with its p line, and formed, draws what is read of it
-- Assumes nothing.
use Prim.Native.Nat.{ℕ}
use mathlib.Core.Path.{◌≡◌, sym, ap, ◌∙◌, subst}
use mathlib.Core.List.{List, [], ◌∷◌}
use lib.Dec.{T, eqb, eqb_refl}
use lib.ListN.{length}
use Rattle.bitset.proofs.Tests.{and_in, and_out}
use Rattle.edge_lines.specs.declared.Line.{Line}
use Rattle.edge_lines.specs.Reading.{told}
use Rattle.edge_lines.specs.Writing.{AllSay}
use Rattle.edge_lines.proofs.Told.{file_told, told_file}
use Rattle.dimacs.specs.Import.{is_comment, uncommented, content, points_in, announced_in, headed, points, announced, following, is_edge, every, formed}
use Rattle.dimacs.specs.File.{Draws}
use Rattle.dimacs.proofs.Refusing.{headed_parts, headed_in, formed_out, every_in}

-- ---- what is written is read

module _ (b : List ℕ) (n : ℕ) (es : List Line) (d : Draws b n es) where
  pub draws_content : content b ≡ Line.Problem n (length es) ∷ es
  unfolding content
  draws_content = ap uncommented (file_told d.lines b d.file) ∙ d.said

  pub draws_headed : T (headed (content b))
  draws_headed = headed_in (content b) n (length es) es draws_content

  pub draws_points : points (content b) ≡ n
  unfolding points points_in
  draws_points = ap points draws_content

  pub draws_following : following (content b) ≡ es
  unfolding following
  draws_following = ap following draws_content

  pub draws_formed : T (formed (content b))
  unfolding formed points points_in following announced announced_in
  draws_formed =
      subst (λ (ls : List Line). T (formed ls)) (sym draws_content) (and_in (every (is_edge n) es) (eqb (length es) (length es)) d.links (eqb_refl (length es)))

-- ---- what is read was written

every_say : (n : ℕ) (ls : List Line) → T (every (is_edge n) ls) → AllSay ls
unfolding every is_edge
every_say n [] t = tt
every_say n (Line.Comment ∷ ls) t = absurd t
every_say n (Line.Problem k m ∷ ls) t = absurd t
every_say n (Line.Edge u v ∷ ls) t = every_say n ls (and_out (is_edge n (Line.Edge u v)) (every (is_edge n) ls) t).1
every_say n (Line.Other ∷ ls) t = absurd t

-- a comment has one of the forms
uncommented_say : (ls : List Line) → AllSay (uncommented ls) → AllSay ls
unfolding uncommented is_comment
uncommented_say [] a = tt
uncommented_say (Line.Comment ∷ ls) a = uncommented_say ls a
uncommented_say (Line.Problem n m ∷ ls) a = uncommented_say ls a
uncommented_say (Line.Edge u v ∷ ls) a = uncommented_say ls a
uncommented_say (Line.Other ∷ ls) a = absurd a

module _ (b : List ℕ) (h : T (headed (content b))) (f : T (formed (content b))) where
  links : T (every (is_edge (points (content b))) (following (content b)))
  links = every_in (points (content b)) (following (content b)) (formed_out (content b) f).0

  all_say : AllSay (told b)
  unfolding content
  all_say = uncommented_say (told b) (subst (λ (ls : List Line). AllSay ls) (sym (headed_parts (content b) h)) (every_say (points (content b)) (following (content b)) links))

  pub read_draws : Draws b (points (content b)) (following (content b))
  unfolding content
  read_draws = record {
    lines = told b;
    file = told_file b all_say;
    said = headed_parts (content b) h ∙ ap (λ (m : ℕ). Line.Problem (points (content b)) m ∷ following (content b)) (sym (formed_out (content b) f).1);
    links = links;
  }
