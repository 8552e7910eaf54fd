-- How the reading of a sheet ends: in line 1, at n or k, in a later line, or behind the last one.
--   large b, few_small       n or k is too large; where neither is
--   Agrees b p               p says of the sheet what the definitions say, as far as the answer asks for it
--   parsed_agrees            what the sheet comes to does
-- Assumes nothing.
use Prim.Native.Nat.{ℕ, zero, suc, ◌+◌, ◌-◌, ◌≤◌, ◌<◌}
use mathlib.Core.Path.{◌≡◌, refl, sym, ap, ap₂, ◌∙◌, subst}
use mathlib.Core.Bool.{Bool, false, cond, not, ◌&&◌, ◌||◌}
use mathlib.Core.Logic.{◌⊎◌, inl, inr}
use mathlib.Core.List.{List}
use native.Mathlib.Omega.{arith}
use borrow.Author.Tests.{ne_eqb}
use lib.Dec.{T, ltb, eqb, T_not}
use lib.ListN.{length, length-replicate}
use Rattle.bitset.specs.Below.{any_below, all_below}
use Rattle.bitset.proofs.Tests.{is_true, is_false, decided, below_or, cond_yes, cond_no}
use Rattle.bitset.proofs.Below.{all_in}
use Rattle.sheet.specs.Sheet.{points_of, links_of, places_of, headed, link_fits, place_start, place_fits, formed, line_fits, stops_in, joined_rows}
use Rattle.sheet.specs.Lines.{beyond, placed_bytes}
use Rattle.sheet.specs.Parsing.{blank, step, steps, parsed_of}
use Rattle.lines.specs.Line.{halted, begun, head_read, end_read, next_line}
use Rattle.lines.specs.declared.Parsed.{Parsed}
use Rattle.sheet.proofs.Form.{first_out, fits_before, out_there, not_large, head_out, formed_out, line_link, line_place}
use Rattle.sheet.proofs.Sheets.{bytes_length}
use Rattle.sheet.proofs.Stopping.{stops_at}
use Rattle.sheet.proofs.Parsing.{links_so, places_so, link_malformed, place_malformed, none_malformed}

-- ---- line 1

module _ (b : List ℕ) where
  abbrev pub large : Bool
  large = ltb 64 (points_of b) || ltb (points_of b) (places_of b)

  abbrev first_line_lem : Parsed
  first_line_lem = begun (points_of b) (links_of b) (places_of b) blank

  -- line 1 is due first
  first_due : next_line b 0 blank ≡ cond (headed b) first_line_lem (halted blank)
  unfolding next_line head_read headed points_of links_of places_of
  first_due = refl

  after_first : T (headed b) → parsed_of b ≡ (steps b first_line_lem.rest (13, first_line_lem)).1
  unfolding parsed_of steps step begun
  after_first t =
      let due : next_line b 0 blank ≡ first_line_lem = first_due ∙ cond_yes (headed b) first_line_lem (halted blank) t in
      ap (λ (p : Parsed). (steps b p.rest (0 + p.width, p)).1) due

  in_first : (T (headed b) → ⊥) → parsed_of b ≡ halted blank
  unfolding parsed_of steps step
  in_first f =
      let due : next_line b 0 blank ≡ halted blank = first_due ∙ cond_no (headed b) first_line_lem (halted blank) f in
      ap (λ (p : Parsed). (steps b p.rest (0 + p.width, p)).1) due

  -- ---- the first line that is malformed

  lines_linked : T (headed b) → (j : ℕ) → j ≤ links_of b → ((i : ℕ) → i < j → T (link_fits b i)) → (l : ℕ) → l < suc j → T (line_fits b l)
  unfolding line_fits
  lines_linked head j few fit zero h = head
  lines_linked head j few fit (suc i) h = subst (λ (x : Bool). T x) (sym (line_link b i (omega arith))) (fit i (omega arith))

  lines_placed : T (headed b) → ((i : ℕ) → i < links_of b → T (link_fits b i)) → (j : ℕ) → ((i : ℕ) → i < j → T (place_fits b i)) → (l : ℕ) → l < suc (links_of b + j) → T (line_fits b l)
  lines_placed head linked j fit l h = go (below_or l (suc (links_of b)))
    where
      go : (l < suc (links_of b)) ⊎ (suc (links_of b) ≤ l) → T (line_fits b l)
      go (inl low) = lines_linked head (links_of b) (omega arith) linked l low
      go (inr high) =
          let i = l - 1 in
          let same : suc i ≡ l = omega arith in
          subst (λ (x : ℕ). T (line_fits b x)) same (subst (λ (x : Bool). T x) (sym (line_place b i (omega arith))) (fit (i - links_of b) (omega arith)))

  -- ---- what the code has at the end

  pub record Agrees (p : Parsed) : Type 0 where
    -- no line has the form exactly when line 1 has not
    pub head : eqb p.good 0 ≡ not (headed b)
    -- n and k are those of line 1
    pub points : T (headed b) → p.content.n ≡ points_of b
    pub places : T (headed b) → p.content.k ≡ places_of b
    -- a sound sheet has a line 1 that is not too large, and where it has one, it is sound exactly when it has the form
    pub sound : T p.sound → T (headed b) × (large ≡ false)
    pub form : T (headed b) → large ≡ false → p.sound ≡ formed b
    -- where it is refused with 11, the next line is the one in which it stops having the form
    pub line : (T (headed b) → (large ≡ false) × (T (formed b) → ⊥)) → suc p.good ≡ stops_in b
    -- what it holds, where it has the form
    pub outside : T (headed b) → large ≡ false → T (formed b) → p.content.outside ≡ any_below (places_of b) (beyond (points_of b) b)
    pub rows : T (headed b) → large ≡ false → T (formed b) → p.content.rows ≡ joined_rows b (links_of b)
    pub ordering : T (headed b) → large ≡ false → T (formed b) → p.content.ordering ≡ placed_bytes b (places_of b)
    -- what the decision needs in any case
    pub room : length p.content.ordering ≡ 64
    pub few : p.good < 30000

  unheaded_agrees : (T (headed b) → ⊥) → Agrees (halted blank)
  unfolding line_fits
  unheaded_agrees f =
      record {
        head = sym (ap not (is_false (headed b) f));
        points = λ t. absurd (f t);
        places = λ t. absurd (f t);
        sound = λ t. absurd t;
        form = λ t. absurd (f t);
        line = λ _. stops_at b 0 (omega arith) (λ l h. absurd (omega arith)) (λ _. f);
        outside = λ t. absurd (f t);
        rows = λ t. absurd (f t);
        ordering = λ t. absurd (f t);
        room = length-replicate {A = ℕ} 64 0;
        few = omega arith;
      }

  large_agrees : T (headed b) → T large → Agrees first_line_lem
  unfolding begun
  large_agrees t is-large =
      record {
        head = sym (ap not (is_true (headed b) t));
        points = λ _. refl;
        places = λ _. refl;
        sound = λ s. absurd (T_not large s is-large);
        form = λ _ small. absurd (not_large small);
        line = λ unless. absurd (not_large (unless t).0);
        outside = λ _ small. absurd (not_large small);
        rows = λ _ small. absurd (not_large small);
        ordering = λ _ small. absurd (not_large small);
        room = length-replicate {A = ℕ} 64 0;
        few = omega arith;
      }
    where
      not_large : large ≡ false → ⊥
      not_large small = subst (λ (x : Bool). T x) small is-large

  pub few_small : large ≡ false → (points_of b ≤ 64) × (places_of b ≤ points_of b)
  few_small small = not_large (points_of b) (places_of b) (λ t. subst (λ (x : Bool). T x) small t)

  module _ (head : T (headed b)) (small : large ≡ false) where
    few_lines : links_of b + places_of b < 20000
    few_lines = let x = few_small small in omega (arith, x.0, x.1, (head_out b head).0)

    -- what the whole sheet comes to
    abbrev whole_read : Parsed
    whole_read = (steps b (links_of b + places_of b + 1) (13, first_line_lem)).1

    parsed_whole : parsed_of b ≡ whole_read
    unfolding begun
    parsed_whole = after_first head ∙ ap (λ (x : Bool). (steps b (cond x 0 (links_of b + places_of b + 1)) (13, first_line_lem)).1) small

    -- a line after the first is malformed: g lines have the form, the next one has not
    late_agrees : (g : ℕ) (p : Parsed) → p.good ≡ suc g → p.content.n ≡ points_of b → p.content.k ≡ places_of b → length p.content.ordering ≡ 64
        → suc (suc g) ≡ stops_in b → (T (formed b) → ⊥) → g ≤ links_of b + places_of b → Agrees (halted p)
    late_agrees g p good points places room stops unformed low =
        record {
          head = ne_eqb p.good 0 (λ e. omega (arith, good)) ∙ sym (ap not (is_true (headed b) head));
          points = λ _. points;
          places = λ _. places;
          sound = λ t. absurd t;
          form = λ _ _. sym (is_false (formed b) unformed);
          line = λ _. ap suc good ∙ stops;
          outside = λ _ _ t. absurd (unformed t);
          rows = λ _ _ t. absurd (unformed t);
          ordering = λ _ _ t. absurd (unformed t);
          room = room;
          few = omega (arith, good, low, few_lines);
        }

    link_agrees : (j : ℕ) → j < links_of b → ((i : ℕ) → i < j → T (link_fits b i)) → (T (link_fits b j) → ⊥) → Agrees whole_read
    link_agrees j l fit out =
        let so = link_malformed b small j l fit out in
        subst Agrees (sym so.1)
        (late_agrees j (links_so b small so.0 j) refl refl refl (length-replicate {A = ℕ} 64 0)
        (stops_at b (suc j) (omega arith) (lines_linked head j (omega arith) fit) (λ _ t. out (subst (λ (x : Bool). T x) (line_link b j l) t)))
        (λ t. out ((formed_out b t).0 j l)) (omega arith))

    module _ (linked : (i : ℕ) → i < links_of b → T (link_fits b i)) where
      place_agrees : (j : ℕ) → j < places_of b → ((i : ℕ) → i < j → T (place_fits b i)) → (T (place_fits b j) → ⊥) → Agrees whole_read
      place_agrees j l fit out =
          let so = place_malformed b small linked j l fit out in
          subst Agrees (sym so.1)
          (late_agrees (links_of b + j) (places_so b small so.0 j) refl refl refl (bytes_length b j)
          (stops_at b (suc (links_of b + j)) (omega arith) (lines_placed head linked j fit) (λ _ t. out (subst (λ (x : Bool). T x) (line_place b (links_of b + j) (omega arith) ∙ ap (λ (i : ℕ). place_fits b i) (let same : links_of b + j - links_of b ≡ j = omega arith in same)) t)))
          (λ t. out ((formed_out b t).1 j l)) (omega arith))

      end_agrees : ((i : ℕ) → i < places_of b → T (place_fits b i)) → Agrees whole_read
      unfolding end_read formed
      end_agrees fit =
          let so = none_malformed b small linked fit in
          let all_linked = is_true (all_below (links_of b) (link_fits b)) (all_in (links_of b) (link_fits b) linked) in
          let all_placed = is_true (all_below (places_of b) (place_fits b)) (all_in (places_of b) (place_fits b) fit) in
          subst Agrees (sym so.1) (record {
            head = ne_eqb (suc (links_of b + places_of b)) 0 (λ e. omega arith) ∙ sym (ap not (is_true (headed b) head));
            points = λ _. refl;
            places = λ _. refl;
            sound = λ _. (head, small);
            form = λ _ _. sym (ap₂ (λ (x y : Bool). (x && y) && eqb (length b) (place_start b (places_of b))) all_linked all_placed);
            line = λ _. stops_at b (suc (links_of b + places_of b)) (omega arith) (lines_placed head linked (places_of b) fit) (λ l. absurd (omega arith));
            outside = λ _ _ _. refl;
            rows = λ _ _ _. refl;
            ordering = λ _ _ _. refl;
            room = bytes_length b (places_of b);
            few = omega (arith, few_lines);
          })

    -- the first line that is malformed is a link's, or a place's, or there is none
    whole_agrees : Agrees whole_read
    whole_agrees = link_first (below_or (first_out (links_of b) (link_fits b)) (links_of b))
      where
        place_first : ((i : ℕ) → i < links_of b → T (link_fits b i)) → (first_out (places_of b) (place_fits b) < places_of b) ⊎ (places_of b ≤ first_out (places_of b) (place_fits b)) → Agrees whole_read
        place_first linked (inl l) = place_agrees linked (first_out (places_of b) (place_fits b)) l (fits_before (places_of b) (place_fits b)) (out_there (places_of b) (place_fits b) l)
        place_first linked (inr l) = end_agrees linked (λ i h. fits_before (places_of b) (place_fits b) i (omega arith))

        link_first : (first_out (links_of b) (link_fits b) < links_of b) ⊎ (links_of b ≤ first_out (links_of b) (link_fits b)) → Agrees whole_read
        link_first (inl l) = link_agrees (first_out (links_of b) (link_fits b)) l (fits_before (links_of b) (link_fits b)) (out_there (links_of b) (link_fits b) l)
        link_first (inr l) = place_first (λ i h. fits_before (links_of b) (link_fits b) i (omega arith)) (below_or (first_out (places_of b) (place_fits b)) (places_of b))

  pub parsed_agrees : Agrees (parsed_of b)
  unfolding begun steps
  parsed_agrees = go (decided (headed b)) (decided large)
    where
      go : T (headed b) ⊎ (T (headed b) → ⊥) → T large ⊎ (T large → ⊥) → Agrees (parsed_of b)
      go (inr f) any-size = subst Agrees (sym (in_first f)) (unheaded_agrees f)
      go (inl t) (inl l) =
          subst Agrees (sym (after_first t ∙ ap (λ (x : Bool). (steps b (cond x 0 (links_of b + places_of b + 1)) (13, first_line_lem)).1) (is_true large l))) (large_agrees t l)
      go (inl t) (inr s) = subst Agrees (sym (parsed_whole t (is_false large s))) (whole_agrees t (is_false large s))
