-- One line of a sheet after the other: the form of a link's line, and what each line comes to. b is the list of the sheet's bytes, i an offset in it.
--   is_below p q p' q'         the pair p, q comes before the pair p', q'
--   link_fits_at b i n p q      the line at i has the form, its two points are below n, smaller first, and come after p, q
--   joined u v rows           the rows with one link more
--   halted p                  stopped at a malformed line, with what was parsed before it
--   head_read b i p, link_read b i p, place_read b i p     line 1, a link's line, a place's line begins at i
--   begun, link_added, place_added     what each comes to where it has the form
--   end_read b i p             the sheet ends at i, or does not
--   next_line b i p            the line that is due: line 1, a link, a place, or the end; none where a line was malformed
--   Sound p                   n, m and k are small while the next line is worth reading
--   LinkDue p, PlaceDue p     there is room for the line of a link, of a place, and the count of lines is small
use Rattle.std.specs.Prelude.{ℕ, ◌+◌, ◌-◌, ◌%◌, ◌<◌, ◌≤◌, Bool, true, false, cond, not, ◌&&◌, ◌||◌, List, T, ltb, leb, eqb, length, set}
use Rattle.bitset.specs.Word.{inserted}
use Rattle.searches.specs.Ordering.{at}
use Rattle.fields.specs.Field.{field_at}
use Rattle.lines.specs.declared.Parsed.{Parsed}

unfoldable pub is_below : ℕ → ℕ → ℕ → ℕ → Bool
is_below p q p' q' = ltb p p' || (eqb p p' && ltb q q')

-- the line at i has the form, its two points are below n, smaller first, and come after p, q
unfoldable pub link_fits_at : List ℕ → ℕ → ℕ → ℕ → ℕ → Bool
link_fits_at b i n p q =
    ((ltb (field_at b i) (field_at b (i + 4)) && ltb (field_at b (i + 4)) n) && eqb (at b (i + 4 + 4)) 10)
    && is_below p q (field_at b i) (field_at b (i + 4))

-- both rows get their bit
unfoldable pub joined : ℕ → ℕ → List ℕ → List ℕ
joined u v rows =
    let half = set rows u (inserted (at rows u) v) in
    set half v (inserted (at half v) u)

abbrev pub halted : Parsed → Parsed
halted p = record { good = p.good; sound = false; width = 0; rest = p.rest; content = p.content }

-- ---- one line

-- line 1 with the numbers n, m and k
unfoldable pub begun : ℕ → ℕ → ℕ → Parsed → Parsed
begun n m k p =
    let large = ltb 64 n || ltb n k in
    record {
      good = 1;
      sound = not large;
      width = 13;
      rest = cond large 0 (m + k + 1);
      content = record { n = n; m = m; k = k; from = 0; to = 0; outside = false; rows = p.content.rows; ordering = p.content.ordering };
    }

unfoldable pub head_read : List ℕ → ℕ → Parsed → Parsed
head_read b i p =
    let n = field_at b i in
    let m = field_at b (i + 4) in
    let k = field_at b (i + 8) in
    cond (((ltb n 10000 && ltb m 10000) && ltb k 10000) && eqb (at b (i + 12)) 10) (begun n m k p) (halted p)

-- a link between u and v
unfoldable pub link_added : ℕ → ℕ → Parsed → Parsed
link_added u v p =
    record {
      good = p.good + 1;
      sound = true;
      width = 9;
      rest = p.rest;
      content =
          record {
            n = p.content.n;
            m = p.content.m;
            k = p.content.k;
            from = u;
            to = v;
            outside = p.content.outside;
            rows = joined u v p.content.rows;
            ordering = p.content.ordering;
          };
    }

unfoldable pub link_read : List ℕ → ℕ → Parsed → Parsed
link_read b i p = cond (link_fits_at b i p.content.n p.content.from p.content.to) (link_added (field_at b i) (field_at b (i + 4)) p) (halted p)

-- a place with the number v
unfoldable pub place_added : ℕ → Parsed → Parsed
place_added v p =
    record {
      good = p.good + 1;
      sound = true;
      width = 5;
      rest = p.rest;
      content =
          record {
            n = p.content.n;
            m = p.content.m;
            k = p.content.k;
            from = p.content.from;
            to = p.content.to;
            outside = p.content.outside || leb p.content.n v;
            rows = p.content.rows;
            ordering = set p.content.ordering (p.good - 1 - p.content.m) (v % 256);
          };
    }

unfoldable pub place_read : List ℕ → ℕ → Parsed → Parsed
place_read b i p = cond (ltb (field_at b i) 10000 && eqb (at b (i + 4)) 10) (place_added (field_at b i) p) (halted p)

unfoldable pub end_read : List ℕ → ℕ → Parsed → Parsed
end_read b i p = record { good = p.good; sound = eqb (length b) i; width = 0; rest = p.rest; content = p.content }

unfoldable pub next_line : List ℕ → ℕ → Parsed → Parsed
next_line b i p =
    cond (not p.sound) (halted p)
    (cond (eqb p.good 0) (head_read b i p)
    (cond (leb p.good p.content.m) (link_read b i p)
    (cond (leb p.good (p.content.m + p.content.k)) (place_read b i p) (end_read b i p))))

-- ---- what is asked

abbrev pub Sound : Parsed → Type 0
Sound p = T p.sound → (p.content.n ≤ 64) × (p.content.k ≤ p.content.n) × (p.content.m < 10000)

pub record LinkDue (p : Parsed) : Type 0 where
  pub few : p.content.n ≤ 64
  pub counted : p.good < 20000

pub record PlaceDue (p : Parsed) : Type 0 where
  pub behind : p.content.m < p.good
  pub room : p.good ≤ p.content.m + 64
  pub counted : p.content.m < 10000
