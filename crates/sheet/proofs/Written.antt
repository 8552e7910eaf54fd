-- The sheet of a graph and a walk, and what is read of it.
--   Fits rows w            every number of the sheet is below 10000, so that it has a field
--   Written b rows w       what is read of b, line by line, is what the sheet of the rows and the walk w says
--   sheet_written          it is read of that sheet;   written_sheet   and of no other bytes
-- Assumes nothing.
use Prim.Native.Nat.{ℕ, ◌+◌, ◌*◌, ◌/◌, ◌%◌, ◌<◌}
use mathlib.Core.Path.{◌≡◌, refl, sym, ap, ap₂, ◌∙◌, subst}
use mathlib.Core.List.{List, [], ◌∷◌, ◌++◌}
use native.Mathlib.Omega.{arith}
use lib.ListN.{length, length-append}
use Rattle.searches.specs.Ordering.{at}
use Rattle.fields.specs.Field.{field, field_at}
use Rattle.sheet.specs.Sheet.{points_of, links_of, places_of, link_start, from_of, to_of, place_start, place_at}
use Rattle.sheet.specs.Written.{link_list, first_line, link_line, place_line, lines, sheet_of}
use Rattle.sheet.proofs.Standing.{Stands, stands_whole, whole_stands, stands_left, stands_right, stands_both, lines_length, stands_line, lines_stand, stands_byte, byte_stands, field_read, field_written}

pub record Fits (rows w : List ℕ) : Type 0 where
  pub points : length rows < 10000
  pub links : length (link_list rows) < 10000
  pub places : length w < 10000
  pub link : (j : ℕ) → j < length (link_list rows) → at (link_list rows) j < 10000
  pub place : (j : ℕ) → j < length w → at w j < 10000

pub record Written (b rows w : List ℕ) : Type 0 where
  pub points : points_of b ≡ length rows
  pub links : links_of b ≡ length (link_list rows)
  pub places : places_of b ≡ length w
  pub ended : at b 12 ≡ 10
  pub from : (j : ℕ) → j < length (link_list rows) → from_of b j ≡ at (link_list rows) j / 64
  pub to : (j : ℕ) → j < length (link_list rows) → to_of b j ≡ at (link_list rows) j % 64
  pub link_ended : (j : ℕ) → j < length (link_list rows) → at b (link_start j + 4 + 4) ≡ 10
  pub place : (j : ℕ) → j < length w → place_at b j ≡ at w j
  pub place_ended : (j : ℕ) → j < length w → at b (place_start b j + 4) ≡ 10
  pub long : length b ≡ place_start b (places_of b)

-- ---- one line

link_sized : (c : ℕ) → length (link_line c) ≡ 9
unfolding link_line field
link_sized c = refl

place_sized : (v : ℕ) → length (place_line v) ≡ 5
unfolding place_line field
place_sized v = refl

module _ (b : List ℕ) where
  -- what line 1 says
  record First (n m k : ℕ) : Type 0 where
    pub points : points_of b ≡ n
    pub links : links_of b ≡ m
    pub places : places_of b ≡ k
    pub ended : at b 12 ≡ 10

  module _ {n m k : ℕ} (hn : n < 10000) (hm : m < 10000) (hk : k < 10000) where
    first_read : Stands b 0 (first_line n m k) → First n m k
    unfolding first_line points_of links_of places_of
    first_read s =
        let a = field_read b 0 n (field m ++ (field k ++ 10 ∷ [])) hn s in
        let c = field_read b 4 m (field k ++ 10 ∷ []) hm a.1 in
        let d = field_read b 8 k (10 ∷ []) hk c.1 in
        record { points = a.0; links = c.0; places = d.0; ended = stands_byte b 12 d.1 }

    first_written : First n m k → Stands b 0 (first_line n m k)
    unfolding first_line points_of links_of places_of
    first_written x =
        field_written b 0 n (field m ++ (field k ++ 10 ∷ [])) hn x.points
        (field_written b 4 m (field k ++ 10 ∷ []) hm x.links (field_written b 8 k (10 ∷ []) hk x.places (byte_stands b 12 x.ended)))

  module _ (i : ℕ) {c : ℕ} (h : c < 10000) where
    link_read_lem : Stands b i (link_line c) → (field_at b i ≡ c / 64) × (field_at b (i + 4) ≡ c % 64) × (at b (i + 4 + 4) ≡ 10)
    unfolding link_line
    link_read_lem s =
        let a = field_read b i (c / 64) (field (c % 64) ++ 10 ∷ []) (omega arith) s in
        let d = field_read b (i + 4) (c % 64) (10 ∷ []) (omega arith) a.1 in
        (a.0, d.0, stands_byte b (i + 4 + 4) d.1)

    link_written : field_at b i ≡ c / 64 → field_at b (i + 4) ≡ c % 64 → at b (i + 4 + 4) ≡ 10 → Stands b i (link_line c)
    unfolding link_line
    link_written p q e =
        field_written b i (c / 64) (field (c % 64) ++ 10 ∷ []) (omega arith) p
        (field_written b (i + 4) (c % 64) (10 ∷ []) (omega arith) q (byte_stands b (i + 4 + 4) e))

    place_read_lem : Stands b i (place_line c) → (field_at b i ≡ c) × (at b (i + 4) ≡ 10)
    unfolding place_line
    place_read_lem s = let a = field_read b i c (10 ∷ []) h s in (a.0, stands_byte b (i + 4) a.1)

    place_written : field_at b i ≡ c → at b (i + 4) ≡ 10 → Stands b i (place_line c)
    unfolding place_line
    place_written p e = field_written b i c (10 ∷ []) h p (byte_stands b (i + 4) e)

-- ---- all lines

module _ (b rows w : List ℕ) where
  -- where the lines of the places begin
  places_start : 13 + length (lines link_line (link_list rows)) ≡ link_start (length (link_list rows))
  unfolding link_start
  places_start = ap (λ (y : ℕ). 13 + y) (lines_length b link_line 9 link_sized (link_list rows))

  sheet_length_lem : length (sheet_of rows w) ≡ link_start (length (link_list rows)) + 5 * length w
  unfolding sheet_of first_line field
  sheet_length_lem =
      let links = lines link_line (link_list rows) in
      let places = lines place_line w in
      length-append (first_line (length rows) (length (link_list rows)) (length w)) (links ++ places)
      ∙ omega (arith, length-append links places, places_start, lines_length b place_line 5 place_sized w)

  -- where the line of place j begins
  place_here : links_of b ≡ length (link_list rows) → (j : ℕ) → 13 + length (lines link_line (link_list rows)) + 5 * j ≡ place_start b j
  unfolding place_start
  place_here e j = ap (λ (y : ℕ). y + 5 * j) (places_start ∙ ap link_start (sym e))

  -- where the sheet ends
  sheet_end : links_of b ≡ length (link_list rows) → places_of b ≡ length w → place_start b (places_of b) ≡ link_start (length (link_list rows)) + 5 * length w
  unfolding place_start
  sheet_end e e' = ap₂ (λ (x y : ℕ). link_start x + 5 * y) e e'

  -- each line of the sheet stands in its place
  record Lined : Type 0 where
    pub first : Stands b 0 (first_line (length rows) (length (link_list rows)) (length w))
    pub link : (j : ℕ) → j < length (link_list rows) → Stands b (link_start j) (link_line (at (link_list rows) j))
    pub place : (j : ℕ) → j < length w → Stands b (13 + length (lines link_line (link_list rows)) + 5 * j) (place_line (at w j))

  lined : Stands b 0 (sheet_of rows w) → Lined
  unfolding sheet_of first_line field link_start
  lined s =
      let head = first_line (length rows) (length (link_list rows)) (length w) in
      let links = lines link_line (link_list rows) in
      let places = lines place_line w in
      let rest : Stands b 13 (links ++ places) = stands_right b 0 head (links ++ places) s in
      record {
        first = stands_left b 0 head (links ++ places) s;
        link = stands_line b link_line 9 link_sized 13 (link_list rows) (stands_left b 13 links places rest);
        place = stands_line b place_line 5 place_sized (13 + length links) w (stands_right b 13 links places rest);
      }

  unlined : Lined → Stands b 0 (sheet_of rows w)
  unfolding sheet_of first_line field link_start
  unlined x =
      let head = first_line (length rows) (length (link_list rows)) (length w) in
      let links = lines link_line (link_list rows) in
      let places = lines place_line w in
      stands_both b 0 head (links ++ places) x.first
      (stands_both b 13 links places (lines_stand b link_line 9 link_sized 13 (link_list rows) x.link)
      (lines_stand b place_line 5 place_sized (13 + length links) w x.place))

  module _ (f : Fits rows w) where
    stands_written : Stands b 0 (sheet_of rows w) → length b ≡ length (sheet_of rows w) → Written b rows w
    unfolding from_of to_of place_at
    stands_written s e =
        let x = lined s in
        let head = first_read b f.points f.links f.places x.first in
        record {
          points = head.points;
          links = head.links;
          places = head.places;
          ended = head.ended;
          from = λ j l. (link x j l).0;
          to = λ j l. (link x j l).1;
          link_ended = λ j l. (link x j l).2;
          place = λ j l. (place x head.links j l).0;
          place_ended = λ j l. (place x head.links j l).1;
          long = e ∙ sheet_length_lem ∙ sym (sheet_end head.links head.places);
        }
      where
        link : Lined → (j : ℕ) → j < length (link_list rows)
            → (field_at b (link_start j) ≡ at (link_list rows) j / 64) × (field_at b (link_start j + 4) ≡ at (link_list rows) j % 64) × (at b (link_start j + 4 + 4) ≡ 10)
        link x j l = link_read_lem b (link_start j) (f.link j l) (x.link j l)

        place : Lined → links_of b ≡ length (link_list rows) → (j : ℕ) → j < length w → (field_at b (place_start b j) ≡ at w j) × (at b (place_start b j + 4) ≡ 10)
        place x e j l =
            place_read_lem b (place_start b j) (f.place j l) (subst (λ (y : ℕ). Stands b y (place_line (at w j))) (place_here e j) (x.place j l))

    pub written_sheet : Written b rows w → b ≡ sheet_of rows w
    unfolding from_of to_of place_at place_start
    written_sheet x =
        whole_stands b (sheet_of rows w) (x.long ∙ sheet_end x.links x.places ∙ sym sheet_length_lem) (unlined (record {
          first = first_written b f.points f.links f.places (record { points = x.points; links = x.links; places = x.places; ended = x.ended });
          link = λ j l. link_written b (link_start j) (f.link j l) (x.from j l) (x.to j l) (x.link_ended j l);
          place = λ j l.
              subst (λ (y : ℕ). Stands b y (place_line (at w j))) (sym (place_here x.links j))
              (place_written b (place_start b j) (f.place j l) (x.place j l) (x.place_ended j l));
        }))

pub sheet_written : (rows w : List ℕ) → Fits rows w → Written (sheet_of rows w) rows w
sheet_written rows w f = stands_written (sheet_of rows w) rows w f (stands_whole (sheet_of rows w)) refl
