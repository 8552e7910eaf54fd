-- The loop over the lines of a file.
--   line_long                     a line that has one of the forms takes two bytes at least
--   Gathering file d at           what the lines up to `at` come to, as far as the loop needs it
--   gathering_start, gathering_few, gathering_drawable, gathering_next, gathering_stop, gathering_end      its turns
-- Assumes nothing.
use Prim.Native.Nat.{ℕ, suc, ◌+◌, ◌*◌, ◌-◌, ◌^◌, ◌≤◌, ◌<◌}
use mathlib.Core.Path.{◌≡◌, refl, sym, ap, ap₂, ◌∙◌, subst}
use mathlib.Core.Bool.{Bool, true, false, cond}
use mathlib.Core.Logic.{◌⊎◌, inl, inr}
use mathlib.Core.List.{List, [], ◌∷◌}
use native.Mathlib.Omega.{arith}
use borrow.Author.Tests.{ne_eqb}
use lib.Dec.{T, eqb}
use lib.ListN.{length, drop, length-drop, length-append, length-replicate}
use Rattle.wording.specs.Text.{bytes}
use Rattle.wording.specs.Reading.{is_other, front, behind}
use Rattle.edge_lines.specs.Reading.{begins, is_pair, said, told, told_from, next_said, behind_line, most, capped_line}
use Rattle.edge_lines.specs.declared.Line.{Line}
use Rattle.edge_lines.proofs.Spanned.{front_behind}
use Rattle.edge_lines.proofs.Scanning.{left_none}
use Rattle.edge_lines.proofs.Told.{told_next}
use Rattle.dimacs.specs.Drawing.{blank, added, read_on, capped_lines, Drawable}
use Rattle.dimacs.specs.declared.draw.Drawing.{Drawing}
use Rattle.dimacs.proofs.Gathered.{halted, read_more, grown}

-- a line without bytes has none of the forms
empty_said : said [] ≡ Line.Other
unfolding said begins is_pair bytes
empty_said = refl

pub line_long : (b : List ℕ) → (next_said b ≡ Line.Other → ⊥) → 2 + length (behind_line b) ≤ length b
unfolding next_said behind_line
line_long b formed = go (front (is_other 10) b) (behind (is_other 10) b) refl refl
  where
    go : (f r : List ℕ) → front (is_other 10) b ≡ f → behind (is_other 10) b ≡ r → 2 + length (drop 1 (behind (is_other 10) b)) ≤ length b
    go f [] e h = absurd (formed (ap (λ (x : List ℕ). cond (eqb (length x) 0) Line.Other (said (front (is_other 10) b))) h))
    go [] (c ∷ r) e h = absurd (formed (ap₂ (λ (x y : List ℕ). cond (eqb (length x) 0) Line.Other (said y)) h e
        ∙ ap (λ (t : Bool). cond t Line.Other (said [])) (ne_eqb (suc (length r)) 0 (λ z. omega arith)) ∙ empty_said))
    go (a ∷ f) (c ∷ r) e h =
        omega (arith, ap length (sym (front_behind (is_other 10) b)), length-append (front (is_other 10) b) (behind (is_other 10) b), ap length e, ap length h, ap (λ (x : List ℕ). length (drop 1 x)) h)

pub record Gathering (file : List ℕ) (d : Drawing) (at : ℕ) : Type 0 where
  pub upto : at ≤ length file
  pub same : read_on d (capped_lines (told (drop at file))) ≡ read_on blank (capped_lines (told file))
  pub few : 2 * d.edges ≤ at
  pub small : T d.sound → d.n ≤ 64
  pub room : length d.rows ≡ 64

module _ (file : List ℕ) where
  pub gathering_start : Gathering file blank 0
  gathering_start = record { upto = omega arith; same = refl; few = omega arith; small = λ _. omega arith; room = length-replicate {A = ℕ} 64 0 }

  module _ {d : Drawing} {at : ℕ} (g : Gathering file d at) where
    pub gathering_few : length file < 2 ^ 64 → d.edges < most
    gathering_few l = omega (arith, g.few, g.upto)

    pub gathering_drawable : length file < 2 ^ 64 → d.sound ≡ true → Drawable d
    gathering_drawable l e = record { small = g.small (subst (λ (b : Bool). T b) (sym e) tt); few = gathering_few l; room = g.room }

    pub gathering_stop : d.sound ≡ false → d ≡ read_on blank (capped_lines (told file))
    gathering_stop e = sym (halted d (capped_lines (told (drop at file))) e) ∙ g.same

    pub gathering_end : length file ≤ at → d ≡ read_on blank (capped_lines (told file))
    unfolding told told_from capped_lines read_on
    gathering_end h = ap (λ (b : List ℕ). read_on d (capped_lines (told b))) (sym (left_none file h)) ∙ g.same

    pub gathering_next : {line : Line} {d' : Drawing} {at' : ℕ} → at < length file → d.sound ≡ true → line ≡ capped_line (next_said (drop at file))
        → drop at' file ≡ behind_line (drop at file) → at < at' → at' ≤ length file → d' ≡ added line d → Gathering file d' at'
    unfolding capped_lines capped_line
    gathering_next {line} {d'} {at'} inside sound is rest onward upto made =
        let b = drop at file in
        let long : length b ≡ length file - at = length-drop at file in
        let grew = grown d line in
        let next : read_on d (capped_lines (told b)) ≡ read_on (added line d) (capped_lines (told (drop at' file))) =
        ap (λ (ls : List Line). read_on d (capped_lines ls)) (told_next b (omega arith)) ∙ ap (λ (l : Line). read_on d (l ∷ capped_lines (told (behind_line b)))) (sym is)
        ∙ read_more d line (capped_lines (told (behind_line b))) sound ∙ ap (λ (x : List ℕ). read_on (added line d) (capped_lines (told x))) (sym rest)
        in
        subst (λ (x : Drawing). Gathering file x at') (sym made) (record {
          upto = upto;
          same = sym next ∙ g.same;
          few = count grew.edges;
          small = grew.small g.small;
          room = grew.room ∙ g.room;
        })
      where
        count : ((added line d).edges ≡ d.edges) ⊎ (((added line d).edges ≡ d.edges + 1) × (line ≡ Line.Other → ⊥)) → 2 * (added line d).edges ≤ at'
        count (inl e) = omega (arith, g.few)
        count (inr e) =
            let b = drop at file in
            let formed : next_said b ≡ Line.Other → ⊥ = λ o. e.1 (is ∙ ap capped_line o) in
            omega (arith, g.few, e.0, line_long b formed, length-drop at file, length-drop at' file, ap length rest)
