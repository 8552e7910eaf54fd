-- The lines of a sheet, each parsed from where it begins.
--   Chosen test x y z        z is the choice between x and y by the test;   chosen_first, chosen_second   which one, where the test is known
--   chosen_out               where the test does not hold, it is the second
--   joined_as                the two rows of a link, written one after the other
--   Headed, Linked           line 1, a link's line is chosen by the test of its fields and its last byte
--   headed_read, linked_read, placed_read     the fields and the last byte that were read are those of the line
--   head_there, place_there   the test on line 1, on a place's line holds where the fields stand there and the line ends
--   head_missing, link_missing, place_missing     where a field is missing or the line does not end, nothing is read
--   headed_by, linked_by_lem     what line 1, a link's line leaves, by its parts
--   numbers_out              the test on line 1: its numbers are below 10000, and it ends
--   head_small, link_small   the numbers of line 1 have four columns; the points of a link fit the rows
--   due, first_due, link_due, place_due     the line that is due, where the tests before it are known;   AtPlaces   behind the links
-- Assumes nothing.
use Prim.Native.Nat.{ℕ, ◌+◌, ◌≤◌, ◌<◌}
use mathlib.Core.Path.{◌≡◌, refl, sym, ap, ap₂, ◌∙◌, subst}
use mathlib.Core.Bool.{Bool, true, false, cond, not, ◌&&◌, ◌||◌}
use mathlib.Core.List.{List}
use native.Mathlib.Omega.{arith}
use borrow.Author.Tests.{lt-ltb, lt-leb, eq-eqb, ne_eqb}
use lib.Dec.{T, ltb, leb, eqb, ltb→lt, eqb→eq}
use lib.ListN.{set}
use Rattle.bitset.specs.Word.{inserted}
use Rattle.bitset.proofs.Tests.{and_out}
use Rattle.searches.specs.Ordering.{at}
use Rattle.fields.specs.Field.{field_at}
use Rattle.lines.specs.Line.{is_below, link_fits_at, joined}
use Rattle.lines.specs.Line.{halted, begun, head_read, link_added, link_read, place_added, place_read, end_read, next_line}
use Rattle.lines.specs.declared.Parsed.{Parsed}

pub record Chosen {A : Type 0} (test : Bool) (x y chosen : A) : Type 0 where
  pub same : cond test x y ≡ chosen

pub chosen_first : {A : Type 0} {test : Bool} {x y chosen : A} → Chosen test x y chosen → test ≡ true → x ≡ chosen
chosen_first {x = x} {y = y} c holds = sym (ap (λ (t : Bool). cond t x y) holds) ∙ c.same

pub chosen_second : {A : Type 0} {test : Bool} {x y chosen : A} → Chosen test x y chosen → test ≡ false → y ≡ chosen
chosen_second {x = x} {y = y} c fails = sym (ap (λ (t : Bool). cond t x y) fails) ∙ c.same

chosen_out : {A : Type 0} {test : Bool} {x y chosen : A} → Chosen test x y chosen → (T test → ⊥) → y ≡ chosen
chosen_out {test = true} c out = absurd (out tt)
chosen_out {test = false} c out = c.same

-- the two rows of a link, written one after the other
pub joined_as : (u v : ℕ) (rows : List ℕ) {x y : ℕ} → x ≡ inserted (at rows u) v → y ≡ inserted (at (set rows u x) v) u → set (set rows u x) v y ≡ joined u v rows
unfolding joined
joined_as u v rows {x} at_x at_y =
    ap (λ (y : ℕ). set (set rows u x) v y) at_y ∙ ap (λ (x : ℕ). set (set rows u x) v (inserted (at (set rows u x) v) u)) at_x

module _ (b : List ℕ) (i : ℕ) (p : Parsed) where
  -- ---- line 1

  abbrev pub Headed : (n m k e : ℕ) → Type 0
  Headed n m k e = Chosen (((ltb n 10000 && ltb m 10000) && ltb k 10000) && eqb e 10) (begun n m k p) (halted p) (head_read b i p)

  pub headed_read : {n m k e : ℕ} → n ≡ field_at b i → m ≡ field_at b (i + 4) → k ≡ field_at b (i + 8) → e ≡ at b (i + 12) → Headed n m k e
  unfolding head_read
  headed_read {n} {m} {k} {e} at_n at-m at-k at_e =
      let line : ℕ → ℕ → ℕ → ℕ → Parsed = λ x y z w. cond (((ltb x 10000 && ltb y 10000) && ltb z 10000) && eqb w 10) (begun x y z p) (halted p) in
      record { same = ap₂ (λ (x y : ℕ). line x y k e) at_n at-m ∙ ap₂ (λ (z w : ℕ). line (field_at b i) (field_at b (i + 4)) z w) at-k at_e }

  pub head_missing : (field_at b i < 10000 → field_at b (i + 4) < 10000 → field_at b (i + 8) < 10000 → at b (i + 12) ≡ 10 → ⊥) → halted p ≡ head_read b i p
  head_missing out = chosen_out (headed_read refl refl refl refl) (λ t.
      let n = field_at b i in
      let m = field_at b (i + 4) in
      let k = field_at b (i + 8) in
      let all = and_out ((ltb n 10000 && ltb m 10000) && ltb k 10000) (eqb (at b (i + 12)) 10) t in
      let three = and_out (ltb n 10000 && ltb m 10000) (ltb k 10000) all.0 in
      let two = and_out (ltb n 10000) (ltb m 10000) three.0 in
      out (ltb→lt n 10000 two.0) (ltb→lt m 10000 two.1) (ltb→lt k 10000 three.1) (eqb→eq (at b (i + 12)) 10 all.1))

  -- line 1 with so many steps behind it
  abbrev begun_with : ℕ → ℕ → ℕ → ℕ → Parsed
  begun_with n m k rest =
      record {
        good = 1;
        sound = not (ltb 64 n || ltb n k);
        width = 13;
        rest = rest;
        content = record { n = n; m = m; k = k; from = 0; to = 0; outside = false; rows = p.content.rows; ordering = p.content.ordering };
      }

  pub headed_by : {n m k : ℕ} {fits large : Bool} → Chosen fits (begun n m k p) (halted p) (head_read b i p) → fits ≡ true → (ltb 64 n || ltb n k) ≡ large
      → begun_with n m k (cond large 0 (m + k + 1)) ≡ head_read b i p
  unfolding begun
  headed_by {n} {m} {k} line t same = sym (ap (λ (large : Bool). begun_with n m k (cond large 0 (m + k + 1))) same) ∙ chosen_first line t

  -- ---- links

  abbrev pub Linked : (u v e : ℕ) → Type 0
  Linked u v e = Chosen (((ltb u v && ltb v p.content.n) && eqb e 10) && is_below p.content.from p.content.to u v) (link_added u v p) (halted p) (link_read b i p)

  pub linked_read : {u v e : ℕ} → u ≡ field_at b i → v ≡ field_at b (i + 4) → e ≡ at b (i + 4 + 4) → Linked u v e
  unfolding link_read link_fits_at
  linked_read {u} {v} {e} at_u at_v at_e =
      let line : ℕ → ℕ → ℕ → Parsed =
      λ x y z. cond (((ltb x y && ltb y p.content.n) && eqb z 10) && is_below p.content.from p.content.to x y) (link_added x y p) (halted p) in
      record { same = ap₂ (λ (x y : ℕ). line x y e) at_u at_v ∙ ap (λ (z : ℕ). line (field_at b i) (field_at b (i + 4)) z) at_e }

  pub link_missing : p.content.n ≤ 64 → (field_at b i < 10000 → field_at b (i + 4) < 10000 → ⊥) → halted p ≡ link_read b i p
  link_missing few out = chosen_out (linked_read refl refl refl) (λ t.
      let u = field_at b i in
      let v = field_at b (i + 4) in
      let line = (and_out ((ltb u v && ltb v p.content.n) && eqb (at b (i + 4 + 4)) 10) (is_below p.content.from p.content.to u v) t).0 in
      let both = and_out (ltb u v) (ltb v p.content.n) (and_out (ltb u v && ltb v p.content.n) (eqb (at b (i + 4 + 4)) 10) line).0 in
      let first = ltb→lt u v both.0 in
      let second = ltb→lt v p.content.n both.1 in
      out (omega arith) (omega arith))

  -- a link with the rows that it leaves
  abbrev grown_with : ℕ → ℕ → List ℕ → Parsed
  grown_with u v rows =
      record {
        good = p.good + 1;
        sound = true;
        width = 9;
        rest = p.rest;
        content =
            record {
              n = p.content.n;
              m = p.content.m;
              k = p.content.k;
              from = u;
              to = v;
              outside = p.content.outside;
              rows = rows;
              ordering = p.content.ordering;
            };
      }

  pub linked_by_lem : {u v : ℕ} {fits : Bool} {rows : List ℕ} → Chosen fits (link_added u v p) (halted p) (link_read b i p) → fits ≡ true → rows ≡ joined u v p.content.rows
      → grown_with u v rows ≡ link_read b i p
  unfolding link_added
  linked_by_lem {u} {v} line t same = ap (λ (x : List ℕ). grown_with u v x) same ∙ chosen_first line t

  -- ---- places

  pub placed_read : {v e : ℕ} → v ≡ field_at b i → e ≡ at b (i + 4) → Chosen (ltb v 10000 && eqb e 10) (place_added v p) (halted p) (place_read b i p)
  unfolding place_read
  placed_read at_v at_e = record { same = ap₂ (λ (x y : ℕ). cond (ltb x 10000 && eqb y 10) (place_added x p) (halted p)) at_v at_e }

  pub place_missing : (field_at b i < 10000 → at b (i + 4) ≡ 10 → ⊥) → halted p ≡ place_read b i p
  place_missing out = chosen_out (placed_read refl refl) (λ t.
      let both = and_out (ltb (field_at b i) 10000) (eqb (at b (i + 4)) 10) t in
      out (ltb→lt (field_at b i) 10000 both.0) (eqb→eq (at b (i + 4)) 10 both.1))

-- ---- what the tests say

-- the test on line 1: its numbers are below 10000, and it ends
pub numbers_out : (n m k : ℕ) (ends : Bool) → T (((ltb n 10000 && ltb m 10000) && ltb k 10000) && ends) → (m < 10000) × (k < 10000) × T ends
numbers_out n m k ends t =
    let all = and_out ((ltb n 10000 && ltb m 10000) && ltb k 10000) ends t in
    let two = and_out (ltb n 10000 && ltb m 10000) (ltb k 10000) all.0 in
    (ltb→lt m 10000 (and_out (ltb n 10000) (ltb m 10000) two.0).1, ltb→lt k 10000 two.1, all.1)

-- where the fields stand there and the line ends, line 1, a place's line has the form
pub head_there : {n m k e : ℕ} → n < 10000 → m < 10000 → k < 10000 → e ≡ 10 → (((ltb n 10000 && ltb m 10000) && ltb k 10000) && eqb e 10) ≡ true
head_there {n} {m} {k} {e} at_n at-m at-k at_e =
    ap₂ (λ (x y : Bool). x && y)
    (ap₂ (λ (x y : Bool). x && y) (ap₂ (λ (x y : Bool). x && y) (lt-ltb n 10000 at_n) (lt-ltb m 10000 at-m)) (lt-ltb k 10000 at-k)) (eq-eqb e 10 at_e)

pub place_there : {v e : ℕ} → v < 10000 → e ≡ 10 → (ltb v 10000 && eqb e 10) ≡ true
place_there {v} {e} at_v at_e = ap₂ (λ (x y : Bool). x && y) (lt-ltb v 10000 at_v) (eq-eqb e 10 at_e)

-- the numbers of line 1 have four columns
pub head_small : (n m k : ℕ) (ends : Bool) → (((ltb n 10000 && ltb m 10000) && ltb k 10000) && ends) ≡ true → (m < 10000) × (k < 10000)
head_small n m k ends t = let x = numbers_out n m k ends (subst (λ (y : Bool). T y) (sym t) tt) in (x.0, x.1)

-- the points of a link fit the rows
pub link_small : (u v n : ℕ) (ends later : Bool) → n ≤ 64 → (((ltb u v && ltb v n) && ends) && later) ≡ true → (u < 64) × (v < 64)
link_small u v n ends later few t =
    let line = (and_out ((ltb u v && ltb v n) && ends) later (subst (λ (x : Bool). T x) (sym t) tt)).0 in
    let both = and_out (ltb u v) (ltb v n) (and_out (ltb u v && ltb v n) ends line).0 in
    let a = ltb→lt u v both.0 in
    let c = ltb→lt v n both.1 in
    (omega arith, omega arith)

-- ---- the line that is due

module _ (b : List ℕ) (i : ℕ) (p : Parsed) where
  abbrev behind_links : Parsed
  behind_links = cond (leb p.good (p.content.m + p.content.k)) (place_read b i p) (end_read b i p)

  abbrev behind_first : Parsed
  behind_first = cond (leb p.good p.content.m) (link_read b i p) behind_links

  pub due : Chosen (not p.sound) (halted p) (cond (eqb p.good 0) (head_read b i p) behind_first) (next_line b i p)
  unfolding next_line
  due = record { same = refl }

  pub first_due : not p.sound ≡ false → Chosen (eqb p.good 0) (head_read b i p) behind_first (next_line b i p)
  first_due sound = record { same = chosen_second due sound }

  pub link_due : not p.sound ≡ false → (p.good ≡ 0 → ⊥) → Chosen (leb p.good p.content.m) (link_read b i p) behind_links (next_line b i p)
  link_due sound some = record { same = chosen_second (first_due sound) (ne_eqb p.good 0 some) }

  abbrev pub AtPlaces : Type 0
  AtPlaces = Chosen (leb p.good (p.content.m + p.content.k)) (place_read b i p) (end_read b i p) (next_line b i p)

  pub place_due : not p.sound ≡ false → (p.good ≡ 0 → ⊥) → p.content.m < p.good → AtPlaces
  place_due sound some past = record { same = chosen_second (link_due sound some) (lt-leb p.good p.content.m past) }
