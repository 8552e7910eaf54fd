-- What the whole sheet comes to: the lines are read one after the other, from where the one before them ended, until one is malformed.
--   next_link, next_place, next_end     the line that is due
--   links_read, places_read             so many links, so many places have the form: what they come to, and where they end
--   stays_halted                        where a line was malformed, the reading has come to its end
--   link_malformed, place_malformed, none_malformed   what the whole sheet comes to, where line 1 has the form and is not too large
-- Assumes nothing.
use Prim.Native.Nat.{ℕ, zero, suc, ◌+◌, ◌-◌, ◌*◌, ◌%◌, ◌≤◌, ◌<◌}
use mathlib.Core.Path.{◌≡◌, refl, sym, ap, ◌∙◌}
use mathlib.Core.Bool.{Bool, true, false, cond, not, ◌||◌, or_comm}
use mathlib.Core.List.{List}
use native.Mathlib.Omega.{arith}
use borrow.Author.Tests.{le-leb, lt-leb}
use lib.Dec.{T, ltb, leb}
use lib.ListN.{set, replicate}
use Rattle.bitset.specs.Below.{any_below}
use Rattle.bitset.proofs.Tests.{cond_yes, cond_no}
use Rattle.sheet.specs.Sheet.{points_of, links_of, places_of, link_start, from_of, to_of, before_from, before_to, link_fits, joined_rows, place_start, place_at, place_fits}
use Rattle.lines.specs.Line.{joined}
use Rattle.sheet.specs.Lines.{beyond, placed_bytes}
use Rattle.sheet.specs.Parsing.{blank, step, steps}
use Rattle.lines.specs.Line.{halted, begun, link_added, link_read, place_added, place_read, end_read, next_line}
use Rattle.lines.specs.declared.Parsed.{Parsed}
use Rattle.lines.proofs.LineByLine.{chosen_first, chosen_second, link_due, AtPlaces, place_due}

-- ---- the line that is due

module _ (b : List ℕ) (i : ℕ) (p : Parsed) (sound : p.sound ≡ true) where
  pub next_link : 0 < p.good → p.good ≤ p.content.m → next_line b i p ≡ link_read b i p
  next_link some few = sym (chosen_first (link_due b i p (ap not sound) (λ e. omega arith)) (le-leb p.good p.content.m few))

  behind_links_lem : p.content.m < p.good → AtPlaces b i p
  behind_links_lem past = place_due b i p (ap not sound) (λ e. omega arith) past

  pub next_place : p.content.m < p.good → p.good ≤ p.content.m + p.content.k → next_line b i p ≡ place_read b i p
  next_place past few = sym (chosen_first (behind_links_lem past) (le-leb p.good (p.content.m + p.content.k) few))

  pub next_end : p.content.m + p.content.k < p.good → next_line b i p ≡ end_read b i p
  next_end past = sym (chosen_second (behind_links_lem (omega arith)) (lt-leb p.good (p.content.m + p.content.k) past))

-- ---- many lines

module _ (b : List ℕ) where
  step_to : (i : ℕ) (p : Parsed) {i' : ℕ} {r : Parsed} → next_line b i p ≡ r → i + r.width ≡ i' → step b (i, p) ≡ (i', r)
  unfolding step
  step_to i p {i'} {r} e moved = ap (λ (x : Parsed). (i + x.width, x)) e ∙ ap (λ (x : ℕ). (x, r)) moved

  steps_add : (i j : ℕ) (s : ℕ × Parsed) → steps b (i + j) s ≡ steps b i (steps b j s)
  unfolding steps
  steps_add zero j s = ap (λ (x : ℕ). steps b x s) (let e : 0 + j ≡ j = omega arith in e)
  steps_add (suc i) j s = ap (λ (x : ℕ). steps b x s) (let e : suc i + j ≡ suc (i + j) = omega arith in e) ∙ ap (step b) (steps_add i j s)

  -- where a line was malformed, the reading has come to its end
  stays_halted : (j i : ℕ) (p : Parsed) → (steps b j (i, halted p)).1 ≡ halted p
  unfolding steps step next_line
  stays_halted zero i p = refl
  stays_halted (suc j) i p = ap (λ (x : Parsed). next_line b (steps b j (i, halted p)).0 x) (stays_halted j i p)

-- ---- a sheet whose line 1 has the form and is not too large

module _ (b : List ℕ) (small : (ltb 64 (points_of b) || ltb (points_of b) (places_of b)) ≡ false) where
  abbrev n : ℕ
  n = points_of b

  abbrev m : ℕ
  m = links_of b

  abbrev k : ℕ
  k = places_of b

  -- so many lines had the form
  abbrev standing : ℕ → ℕ → ℕ → ℕ → Bool → List ℕ → List ℕ → Parsed
  standing good width from to outside rows ordering =
      record {
        good = good;
        sound = true;
        width = width;
        rest = m + k + 1;
        content = record { n = n; m = m; k = k; from = from; to = to; outside = outside; rows = rows; ordering = ordering };
      }

  -- line 1 and j links
  abbrev pub links_so : ℕ → ℕ → Parsed
  links_so width j = standing (suc j) width (before_from b j) (before_to b j) false (joined_rows b j) (replicate 64 0)

  -- line 1, all links and j places
  abbrev pub places_so : ℕ → ℕ → Parsed
  places_so width j = standing (suc (m + j)) width (before_from b m) (before_to b m) (any_below j (beyond n b)) (joined_rows b m) (placed_bytes b j)

  begins : begun n m k blank ≡ links_so 13 0
  unfolding begun before_from before_to joined_rows
  begins =
      ap (λ (large : Bool). record {
        good = 1;
        sound = not large;
        width = 13;
        rest = cond large 0 (m + k + 1);
        content = record { n = n; m = m; k = k; from = 0; to = 0; outside = false; rows = replicate 64 0; ordering = replicate 64 0 };
      }) small

  -- the line of link j
  link_next : (width j : ℕ) → j < m → next_line b (link_start j) (links_so width j) ≡ cond (link_fits b j) (links_so 9 (suc j)) (halted (links_so width j))
  unfolding link_read link_added link_fits from_of to_of before_from before_to joined_rows
  link_next width j l =
      next_link b (link_start j) (links_so width j) refl (omega arith) (omega arith)
      ∙ ap (λ (good : ℕ). cond (link_fits b j) (standing good 9 (from_of b j) (to_of b j) false (joined (from_of b j) (to_of b j) (joined_rows b j)) (replicate 64 0)) (halted (links_so width j)))
      (let e : suc j + 1 ≡ suc (suc j) = omega arith in e)

  -- the line of place j
  place_next : (width j : ℕ) → j < k → next_line b (place_start b j) (places_so width j) ≡ cond (place_fits b j) (places_so 5 (suc j)) (halted (places_so width j))
  unfolding place_read place_added place_fits place_at any_below beyond placed_bytes
  place_next width j l =
      next_place b (place_start b j) (places_so width j) refl (omega arith) (omega arith)
      ∙ (λ z. cond (place_fits b j) (standing (one_more z) 5 (before_from b m) (before_to b m) (or_comm (any_below j (beyond n b)) (leb n (place_at b j)) z) (joined_rows b m) (set (placed_bytes b j) (here z) (place_at b j % 256))) (halted (places_so width j)))
    where
      one_more : suc (m + j) + 1 ≡ suc (m + suc j)
      one_more = omega arith

      here : suc (m + j) - 1 - m ≡ j
      here = omega arith

  -- line 1 has been read
  abbrev first : ℕ × Parsed
  first = (13, begun n m k blank)

  pub links_read : (j : ℕ) → j ≤ m → ((i : ℕ) → i < j → T (link_fits b i)) → (width : ℕ) × (steps b j first ≡ (link_start j, links_so width j))
  unfolding steps link_start
  links_read zero l fit = (13, ap (λ (p : Parsed). (13, p)) begins)
  links_read (suc j) l fit =
      let so = links_read j (omega arith) (λ i h. fit i (omega arith)) in
      let due = link_next so.0 j l ∙ cond_yes (link_fits b j) (links_so 9 (suc j)) (halted (links_so so.0 j)) (fit j (omega arith)) in
      (9, ap (step b) so.1 ∙ step_to b (link_start j) (links_so so.0 j) due (omega arith))

  module _ (linked : (i : ℕ) → i < m → T (link_fits b i)) where
    pub places_read : (j : ℕ) → j ≤ k → ((i : ℕ) → i < j → T (place_fits b i)) → (width : ℕ) × (steps b (m + j) first ≡ (place_start b j, places_so width j))
    unfolding steps place_start any_below placed_bytes
    places_read zero l fit =
        let so = links_read m (omega arith) linked in
        let none_yet : m + 0 ≡ m = omega arith in
        let all_there : m ≡ m + 0 = omega arith in
        let there : link_start m ≡ link_start m + 5 * 0 = omega arith in (
          so.0,
          ap (λ (x : ℕ). steps b x first) none_yet ∙ so.1
              ∙ (λ z. (there z, standing (suc (all_there z)) so.0 (before_from b m) (before_to b m) false (joined_rows b m) (replicate 64 0))),
        )
    places_read (suc j) l fit =
        let so = places_read j (omega arith) (λ i h. fit i (omega arith)) in
        let due = place_next so.0 j l ∙ cond_yes (place_fits b j) (places_so 5 (suc j)) (halted (places_so so.0 j)) (fit j (omega arith)) in
        let one_more : m + suc j ≡ suc (m + j) = omega arith in
        (5, ap (λ (x : ℕ). steps b x first) one_more ∙ ap (step b) so.1 ∙ step_to b (place_start b j) (places_so so.0 j) due (omega arith))

  -- ---- how the reading ends

  abbrev whole_read : Parsed
  whole_read = (steps b (m + k + 1) first).1

  -- after j lines one is malformed
  malformed : (j i : ℕ) (p : Parsed) → j ≤ m + k → steps b j first ≡ (i, p) → next_line b i p ≡ halted p → whole_read ≡ halted p
  unfolding steps
  malformed j i p l so due =
      let split : m + k + 1 ≡ (m + k - j) + suc j = omega arith in
      let stopped : steps b (suc j) first ≡ (i, halted p) = ap (step b) so ∙ step_to b i p due (omega arith) in
      ap (λ (x : ℕ). (steps b x first).1) split
      ∙ ap (λ (s : ℕ × Parsed). s.1) (steps_add b (m + k - j) (suc j) first ∙ ap (steps b (m + k - j)) stopped)
      ∙ stays_halted b (m + k - j) i p

  pub link_malformed : (j : ℕ) → j < m → ((i : ℕ) → i < j → T (link_fits b i)) → (T (link_fits b j) → ⊥) → (width : ℕ) × (whole_read ≡ halted (links_so width j))
  link_malformed j l fit out =
      let so = links_read j (omega arith) fit in
      let due = link_next so.0 j l ∙ cond_no (link_fits b j) (links_so 9 (suc j)) (halted (links_so so.0 j)) out in
      (so.0, malformed j (link_start j) (links_so so.0 j) (omega arith) so.1 due)

  module _ (linked : (i : ℕ) → i < m → T (link_fits b i)) where
    pub place_malformed : (j : ℕ) → j < k → ((i : ℕ) → i < j → T (place_fits b i)) → (T (place_fits b j) → ⊥) → (width : ℕ) × (whole_read ≡ halted (places_so width j))
    place_malformed j l fit out =
        let so = places_read linked j (omega arith) fit in
        let due = place_next so.0 j l ∙ cond_no (place_fits b j) (places_so 5 (suc j)) (halted (places_so so.0 j)) out in
        (so.0, malformed (m + j) (place_start b j) (places_so so.0 j) (omega arith) so.1 due)

    pub none_malformed : ((i : ℕ) → i < k → T (place_fits b i)) → (width : ℕ) × (whole_read ≡ end_read b (place_start b k) (places_so width k))
    unfolding steps step
    none_malformed placed =
        let so = places_read linked k (omega arith) placed in
        let last : m + k + 1 ≡ suc (m + k) = omega arith in (
          so.0,
          ap (λ (x : ℕ). (steps b x first).1) last ∙ ap (λ (s : ℕ × Parsed). (step b s).1) so.1
              ∙ next_end b (place_start b k) (places_so so.0 k) refl (omega arith),
        )
