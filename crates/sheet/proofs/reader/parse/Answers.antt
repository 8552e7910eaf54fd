-- `sheet::reader::parse` meets its contract: line 1, then as many lines as it says, are the whole sheet.
-- Assumes nothing.
use Prim.Native.Nat.{ℕ, ◌+◌, ◌*◌, ◌<◌}
use mathlib.Core.Path.{◌≡◌, refl, sym, ap, ◌∙◌, subst}
use mathlib.Core.List.{List}
use native.Mathlib.Omega.{arith}
use denote.Ref.{Bor}
use Rattle.lines.specs.Line.{Sound}
use Rattle.lines.specs.declared.Parsed.{Parsed}
use Rattle.sheet.specs.Parsing.{blank, advanced_by}
use Rattle.sheet.specs.declared.reader.Progress.{Progress}
use Rattle.sheet.proofs.Onward.{after_sound, after_whole, after_few}
use Rattle.sheet.proofs.reader.parse.Goals as goal

-- the reader before line 1
abbrev start : Bor (List ℕ) → Parsed → Progress
start sheet parsed = record { reader = record { sheet = sheet; at = 0 }; parsed = parsed }

-- what is parsed before line 1 is sound
start_sound : (p : Parsed) → p ≡ blank → Sound p
start_sound p none_yet = subst (λ (x : Parsed). Sound x) (sym none_yet) (λ _. (omega arith, omega arith, omega arith))

pub advance_by-whole-requires : goal.advance_by-whole-requires
advance_by-whole-requires c =
    let g = start c.args.sheet c.blank.result in
    subst (λ (r : Progress). (r.reader.at + 13 * r.parsed.rest < 900000) × Sound r.parsed) (sym c.advance_by-first.ensures)
    (after_few g refl c.blank.ensures, after_sound g (start_sound c.blank.result c.blank.ensures) 1)

pub returns : goal.returns
returns c =
    let g = start c.args.sheet c.blank.result in
    ap (λ (d : Progress). d.parsed) (c.advance_by-whole.ensures ∙ ap (λ (r : Progress). advanced_by r r.parsed.rest) c.advance_by-first.ensures)
    ∙ after_whole g refl c.blank.ensures
