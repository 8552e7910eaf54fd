-- A comment line, wherever it stands, changes nothing.                                                              [02: K13]
--   same_import         files that say the same, comments left out, have the same answer and the same output list
--   comment_content     what the file says is the same with the comment and without it
--   comment_anywhere    and so are answer and output list, where the file is refused too
-- Assumes nothing.
use Prim.Native.Nat.{ℕ}
use mathlib.Core.Path.{◌≡◌, refl, sym, ap, ap₂, ◌∙◌}
use mathlib.Core.Bool.{Bool, true, false, cond}
use mathlib.Core.List.{List, [], ◌∷◌, ◌++◌}
use mathlib.Core.Option.{Option, none, some}
use lib.ListN.{drop}
use Rattle.searches.specs.Answer.{first_refusal}
use Rattle.edge_lines.specs.declared.Line.{Line}
use Rattle.edge_lines.specs.Reading.{told}
use Rattle.edge_lines.specs.Writing.{Ended, Unbroken}
use Rattle.edge_lines.proofs.Said.{says_said, says_unbroken}
use Rattle.edge_lines.proofs.Told.{told_line, told_both}
use Rattle.dimacs.specs.Import.{is_comment, uncommented, content, points, drawn_rows, read, refused, import_tests, import_answer, import_output}

uncommented_both : (k ls : List Line) → uncommented (k ++ ls) ≡ uncommented k ++ uncommented ls
unfolding uncommented
uncommented_both [] ls = refl
uncommented_both (l ∷ k) ls = go (is_comment l) (uncommented k) (uncommented_both k ls)
  where
    go : {m : List Line} (c : Bool) (n : List Line) → m ≡ n ++ uncommented ls → cond c m (l ∷ m) ≡ cond c n (l ∷ n) ++ uncommented ls
    go true n e = e
    go false n e = ap (λ (x : List Line). l ∷ x) e

-- ---- answer and output depend only on what the file says

module _ (b c out : List ℕ) (same : content b ≡ content c) where
  same_tests : import_tests b out ≡ import_tests c out
  unfolding import_tests
  same_tests = rw same

  pub same_import : (import_answer b out ≡ import_answer c out) × (import_output b out ≡ import_output c out)
  unfolding import_answer import_output
  same_import = (
    ap₂ (λ (first : Option ℕ) (ls : List Line). elim first [
      | none ↦ read (points ls)
      | some r ↦ refused r
    ]) (ap first_refusal same_tests) same,
    ap₂ (λ (first : Option ℕ) (ls : List Line). elim first [
      | none ↦ drawn_rows ls ++ drop (points ls) out
      | some r ↦ out
    ]) (ap first_refusal same_tests) same,
  )

-- ---- a comment line

module _ (x text y : List ℕ) (ended : Ended x) (unbroken : Unbroken text) where
  line_told : told (99 ∷ text ++ 10 ∷ y) ≡ Line.Comment ∷ told y
  line_told =
      told_line (99 ∷ text) y (says_unbroken Line.Comment (99 ∷ text) (text, refl, unbroken))
      ∙ ap (λ (l : Line). l ∷ told y) (says_said Line.Comment (99 ∷ text) (text, refl, unbroken))

  -- x, then the line: the byte of c, a text, a line end; then y
  pub comment_content : content (x ++ (99 ∷ text ++ 10 ∷ y)) ≡ content (x ++ y)
  unfolding content uncommented is_comment
  comment_content =
      ap uncommented (told_both x (99 ∷ text ++ 10 ∷ y) ended) ∙ uncommented_both (told x) (told (99 ∷ text ++ 10 ∷ y))
      ∙ ap (λ (ls : List Line). uncommented (told x) ++ uncommented ls) line_told
      ∙ sym (uncommented_both (told x) (told y)) ∙ ap uncommented (sym (told_both x y ended))

  pub comment_anywhere : (out : List ℕ) → (import_answer (x ++ (99 ∷ text ++ 10 ∷ y)) out ≡ import_answer (x ++ y) out)
      × (import_output (x ++ (99 ∷ text ++ 10 ∷ y)) out ≡ import_output (x ++ y) out)
  comment_anywhere out = same_import (x ++ (99 ∷ text ++ 10 ∷ y)) (x ++ y) out comment_content
