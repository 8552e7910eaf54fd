-- The loops of the conversions, turn by turn.
--   neighbours_few                      the first u vertices have at most 64 neighbours each
--   Counting rows count u               the neighbours of the first u vertices are counted;   counting_start, counting_next, counting_end
--   Numbering row begin list₀ list end rest   the numbers of `row` that are not in `rest` are written from `begin` on, up to `end`;   numbering_*
--   front_more                          a list that is written from the front on: one entry more
--   Laying rows offsets₀ neighbours₀ offsets neighbours end u   the lists of the first u vertices are written, and the offsets up to u's;   laying_*
--   Copying rows copy₀ copy u           the first u rows are written;   copying_*
-- Assumes nothing.
use Prim.Native.Nat.{ℕ, zero, suc, ◌+◌, ◌-◌, ◌*◌, ◌^◌, ◌≤◌, ◌<◌}
use mathlib.Core.Path.{◌≡◌, refl, sym, ap, ap₂, ◌∙◌, subst}
use mathlib.Core.List.{List, ◌∷◌, ◌++◌, append_assoc}
use native.Mathlib.Omega.{arith}
use native.Mathlib.Numerals.{add-one}
use lib.ListN.{length, get_or, set, take, drop, length-append, length-drop, length-set}
use lib.Seq.{paste, paste-zero, paste-suc, length-paste, take-length, take_at, drop-append-add, drop-drop, drop-cons, drop-set-lt, get_or-drop, set_at, append_snoc}
use Rattle.bitset.specs.Below.{first_below, count_below}
use Rattle.bitset.specs.Word.{member, removed}
use Rattle.bitset.proofs.Below.{first}
use Rattle.bitset.proofs.Count.{count_le}
use Rattle.bitset.proofs.Word.{removed_word, empty_back}
use Rattle.bitset.proofs.Scan.{first_member, removed_in, removed_other}
use Rattle.searches.specs.Ordering.{arcs}
use Rattle.adjacency.specs.Layout.{list_of}
use Rattle.adjacency.proofs.Rows.{list_of_length}
use Rattle.conversion.specs.Conversion.{numbers_below, neighbours_below, neighbours_of, offsets_of}
use Rattle.conversion.proofs.Numbers.{numbers_none, numbers_length, numbers_first}
use Rattle.conversion.proofs.Neighbours.{neighbours_more, neighbours_upto}

-- ---- how many neighbours

pub neighbours_few : (rows : List ℕ) (u : ℕ) → length (neighbours_below rows u) ≤ 64 * u
unfolding neighbours_below
neighbours_few rows zero = omega arith
neighbours_few rows (suc u) =
    omega (arith, neighbours_few rows u, neighbours_more rows u, numbers_length 64 (arcs rows u), count_le 64 (arcs rows u))

pub record Counting (rows : List ℕ) (count u : ℕ) : Type 0 where
  pub upto : u ≤ length rows
  pub counted : count ≡ length (neighbours_below rows u)

pub counting_start : (rows : List ℕ) → Counting rows 0 0
unfolding neighbours_below
counting_start rows = record { upto = omega arith; counted = refl }

pub counting_next : {rows : List ℕ} {count u : ℕ} → Counting rows count u → u < length rows → {more : ℕ} → more ≡ count_below 64 (member (get_or rows u 0))
    → Counting rows (count + more) (u + 1)
unfolding arcs
counting_next {rows} {count} {u} c l {more} e =
    subst (λ (m : ℕ). Counting rows (count + more) m) (sym (add-one u)) (record {
      upto = l;
      counted = omega (arith, c.counted, e, neighbours_more rows u, numbers_length 64 (arcs rows u));
    })

pub counting_end : {rows : List ℕ} {count u : ℕ} → Counting rows count u → length rows ≤ u → count ≡ length (neighbours_of rows)
unfolding neighbours_of
counting_end {rows} {count} {u} c l =
    let all : u ≡ length rows = omega (arith, c.upto) in
    c.counted ∙ ap (λ (m : ℕ). length (neighbours_below rows m)) all

-- ---- the numbers of a word

pub record Numbering (row begin : ℕ) (list₀ list : List ℕ) (end rest : ℕ) : Type 0 where
  pub done : ℕ
  pub upto : done ≤ length (numbers_below 64 (member row))
  pub place : end ≡ begin + done
  pub word : rest < 2 ^ 64
  pub left : drop done (numbers_below 64 (member row)) ≡ numbers_below 64 (member rest)
  pub written : list ≡ paste list₀ begin (numbers_below 64 (member row)) done

-- the smallest number of a word that is not 0 comes first
smallest_first : (rest : ℕ) → rest < 2 ^ 64 → 0 < rest
    → numbers_below 64 (member rest) ≡ first_below 64 (member rest) ∷ numbers_below 64 (member (removed rest (first_below 64 (member rest))))
smallest_first rest word pos =
    let v : ℕ = first_below 64 (member rest) in
    let found = first_member rest word pos in
    numbers_first 64 (member rest) (member (removed rest v)) v found.0 found.1 (first 64 (member rest)).least
    (λ t. (removed_in rest v v t).0 refl) (λ u other. sym (removed_other rest v u other))

-- an entry more of a list whose rest is known
head_of : (list : List ℕ) (done v : ℕ) (rest : List ℕ) → drop done list ≡ v ∷ rest → (done < length list) × (get_or list done 0 ≡ v) × (drop (suc done) list ≡ rest)
head_of list done v rest e =
    let here : done + 0 ≡ done = omega arith in
    let next : done + 1 ≡ suc done = omega arith in
    let longer : suc (length rest) ≡ length list - done = sym (ap length e) ∙ length-drop done list in (
      omega arith,
      ap (λ (p : ℕ). get_or list p 0) (sym here) ∙ sym (get_or-drop done list 0 0) ∙ ap (λ (l : List ℕ). get_or l 0 0) e,
      ap (λ (p : ℕ). drop p list) (sym next) ∙ sym (drop-drop 1 done list) ∙ ap (λ (l : List ℕ). drop 1 l) e,
    )

module _ (row begin : ℕ) (list₀ : List ℕ) (room : begin + length (numbers_below 64 (member row)) ≤ length list₀) where
  abbrev numbers : List ℕ
  numbers = numbers_below 64 (member row)

  pub numbering_start : row < 2 ^ 64 → Numbering row begin list₀ list₀ begin row
  numbering_start word = record { done = 0; upto = omega arith; place = omega arith; word = word; left = refl; written = paste-zero list₀ begin numbers }

  pub numbering_length : {list : List ℕ} {end rest : ℕ} → Numbering row begin list₀ list end rest → length list ≡ length list₀
  numbering_length x = ap length x.written ∙ length-paste list₀ begin numbers x.done (omega (arith, x.upto)) x.upto

  -- there is room for one more
  pub numbering_room : {list : List ℕ} {end rest : ℕ} → Numbering row begin list₀ list end rest → 0 < rest → end < length list
  numbering_room {rest = rest} x pos =
      let h = head_of numbers x.done _ _ (x.left ∙ smallest_first rest x.word pos) in
      omega (arith, x.place, h.0, numbering_length x)

  pub numbering_next : {list : List ℕ} {end rest : ℕ} → Numbering row begin list₀ list end rest → 0 < rest → {v less : ℕ}
      → v ≡ first_below 64 (member rest) → less ≡ removed rest (first_below 64 (member rest)) → Numbering row begin list₀ (set list end v) (end + 1) less
  numbering_next {list} {end} {rest} x pos {v} {less} found taken =
      let h = head_of numbers x.done _ _ (x.left ∙ smallest_first rest x.word pos) in
      record {
        done = suc x.done;
        upto = h.0;
        place = omega (arith, x.place);
        word = subst (λ (y : ℕ). y < 2 ^ 64) (sym taken) (removed_word x.word (first_below 64 (member rest)));
        left = h.2 ∙ ap (λ (y : ℕ). numbers_below 64 (member y)) (sym taken);
        written =
            ap (λ (l : List ℕ). set l end v) x.written
            ∙ ap₂ (λ (p y : ℕ). set (paste list₀ begin numbers x.done) p y) x.place (found ∙ sym h.1)
            ∙ paste-suc list₀ begin numbers x.done 0 (omega (arith, h.0)) h.0;
      }

  numbering_all : {list : List ℕ} {end rest : ℕ} (x : Numbering row begin list₀ list end rest) → rest ≡ 0 → x.done ≡ length (numbers_below 64 (member row))
  numbering_all {rest = rest} x over =
      let none : length (drop x.done numbers) ≡ 0 = ap length (x.left ∙ numbers_none 64 (member rest) (λ v _. empty_back over v)) in
      omega (arith, length-drop x.done numbers, none, x.upto)

  pub numbering_end : {list : List ℕ} {end rest : ℕ} → Numbering row begin list₀ list end rest → rest ≡ 0
      → (end ≡ begin + length (numbers_below 64 (member row))) × (list ≡ take begin list₀ ++ (numbers_below 64 (member row) ++ drop end list₀))
  numbering_end {list} {end} {rest} x over =
      let all = numbering_all x over in (
        omega (arith, x.place, all),
        x.written
            ∙ ap₂ (λ (m e : ℕ). take begin list₀ ++ take m numbers ++ drop e list₀) all (sym x.place)
            ∙ ap (λ (l : List ℕ). take begin list₀ ++ l ++ drop end list₀) (take-length numbers) ∙ append_assoc (take begin list₀) numbers (drop end list₀),
      )

-- ---- the lists

pub record Laying (rows offsets₀ neighbours₀ offsets neighbours : List ℕ) (end u : ℕ) : Type 0 where
  pub upto : u ≤ length rows
  pub place : end ≡ length (neighbours_below rows u)
  pub offsets_laid : offsets ≡ list_of (suc u) (λ v. length (neighbours_below rows v)) ++ drop (suc u) offsets₀
  pub neighbours_laid : neighbours ≡ neighbours_below rows u ++ drop (length (neighbours_below rows u)) neighbours₀

-- a list that is written from the front: one entry more
pub front_more : (f : ℕ → ℕ) (list₀ list : List ℕ) (k : ℕ) → k < length list₀ → list ≡ list_of k f ++ drop k list₀ → set list k (f k) ≡ list_of (suc k) f ++ drop (suc k) list₀
unfolding list_of
front_more f list₀ list k l e =
    ap (λ (x : List ℕ). set x k (f k)) (e ∙ ap (λ (x : List ℕ). list_of k f ++ x) (drop-cons list₀ k 0 l))
    ∙ set_at (list_of k f) (get_or list₀ k 0) (drop (suc k) list₀) (f k) k (list_of_length f k)
    ∙ sym (append_snoc (list_of k f) (f k) (drop (suc k) list₀))

front_length : (f : ℕ → ℕ) (list₀ list : List ℕ) (k : ℕ) → k ≤ length list₀ → list ≡ list_of k f ++ drop k list₀ → length list ≡ length list₀
front_length f list₀ list k l e =
    ap length e ∙ length-append (list_of k f) (drop k list₀) ∙ omega (arith, list_of_length f k, length-drop k list₀)

-- the first offset, 0, is written before the loop
module _ (rows offsets₀ neighbours₀ : List ℕ) (long : length rows < length offsets₀) (room : length (neighbours_of rows) ≤ length neighbours₀) where
  abbrev before : ℕ → ℕ
  before u = length (neighbours_below rows u)

  abbrev begun : List ℕ
  begun = set offsets₀ 0 0

  begun_long : length rows < length (set offsets₀ 0 0)
  begun_long = omega (arith, length-set offsets₀ 0 0)

  pub laying_start : Laying rows (set offsets₀ 0 0) neighbours₀ (set offsets₀ 0 0) neighbours₀ 0 0
  unfolding neighbours_below list_of
  laying_start = record {
    upto = omega arith;
    place = refl;
    offsets_laid = front_more before offsets₀ offsets₀ 0 (omega arith) refl ∙ ap (λ (l : List ℕ). 0 ∷ l) (sym (drop-set-lt 1 offsets₀ 0 0 (omega arith)));
    neighbours_laid = refl;
  }

  module _ {offsets neighbours : List ℕ} {end u : ℕ} (x : Laying rows (set offsets₀ 0 0) neighbours₀ offsets neighbours end u) where
    -- the lists are as long as they were
    pub laying_lengths : (length offsets ≡ length offsets₀) × (length neighbours ≡ length neighbours₀)
    laying_lengths = (
      front_length before begun offsets (suc u) (omega (arith, x.upto, begun_long)) x.offsets_laid ∙ length-set offsets₀ 0 0,
      ap length x.neighbours_laid ∙ length-append (neighbours_below rows u) (drop (before u) neighbours₀)
          ∙ omega (arith, length-drop (before u) neighbours₀, neighbours_upto rows u x.upto),
    )

    pub laying_end : length rows ≤ u
        → (offsets ≡ offsets_of rows ++ drop (suc (length rows)) offsets₀) × (neighbours ≡ neighbours_of rows ++ drop (length (neighbours_of rows)) neighbours₀)
    unfolding offsets_of neighbours_of
    laying_end h =
        let all : u ≡ length rows = omega (arith, x.upto) in (
          x.offsets_laid ∙ ap (λ (m : ℕ). list_of (suc m) before ++ drop (suc m) begun) all
              ∙ ap (λ (l : List ℕ). list_of (suc (length rows)) before ++ l) (drop-set-lt (suc (length rows)) offsets₀ 0 0 (omega arith)),
          x.neighbours_laid ∙ ap (λ (m : ℕ). neighbours_below rows m ++ drop (length (neighbours_below rows m)) neighbours₀) all,
        )

    module _ (l : u < length rows) where
      -- there is room for the neighbours of u
      pub laying_room : end + length (numbers_below 64 (member (get_or rows u 0))) ≤ length neighbours
      unfolding arcs
      laying_room = omega (arith, x.place, neighbours_more rows u, neighbours_upto rows (suc u) l, laying_lengths)

      -- what stood before them stays, and so does what stands behind them
      laid_front : take end neighbours ≡ neighbours_below rows u
      laid_front =
          ap (λ (y : List ℕ). take end y) x.neighbours_laid ∙ take_at (neighbours_below rows u) (drop (before u) neighbours₀) end (sym x.place)

      laid_back : {m : ℕ} → m ≡ length (neighbours_below rows (suc u)) → drop m neighbours ≡ drop (length (neighbours_below rows (suc u))) neighbours₀
      laid_back {m} e =
          let own : ℕ = length (numbers_below 64 (arcs rows u)) in
          ap₂ (λ (k : ℕ) (y : List ℕ). drop k y) (e ∙ neighbours_more rows u) x.neighbours_laid
          ∙ drop-append-add (neighbours_below rows u) (drop (before u) neighbours₀) own ∙ drop-drop own (before u) neighbours₀
          ∙ ap (λ (k : ℕ). drop k neighbours₀) (sym (neighbours_more rows u))

      pub laying_next : {after : List ℕ} {next : ℕ} → next ≡ end + length (numbers_below 64 (member (get_or rows u 0)))
          → after ≡ take end neighbours ++ (numbers_below 64 (member (get_or rows u 0)) ++ drop next neighbours)
          → Laying rows (set offsets₀ 0 0) neighbours₀ (set offsets (u + 1) next) after next (u + 1)
      unfolding arcs neighbours_below
      laying_next {after} {next} ends writes =
          let own : List ℕ = numbers_below 64 (arcs rows u) in
          let place : next ≡ before (suc u) = omega (arith, ends, x.place, neighbours_more rows u) in
          subst (λ (m : ℕ). Laying rows begun neighbours₀ (set offsets m next) after next m) (sym (add-one u)) (record {
            upto = l;
            place = place;
            offsets_laid = ap (λ (y : ℕ). set offsets (suc u) y) place ∙ front_more before begun offsets (suc u) (omega (arith, begun_long)) x.offsets_laid;
            neighbours_laid =
                writes ∙ ap₂ (λ (front back : List ℕ). front ++ (own ++ back)) laid_front (laid_back place)
                ∙ sym (append_assoc (neighbours_below rows u) own (drop (before (suc u)) neighbours₀));
          })

-- ---- the rows

pub record Copying (rows copy₀ copy : List ℕ) (u : ℕ) : Type 0 where
  pub upto : u ≤ length rows
  pub copied : copy ≡ paste copy₀ 0 rows u

module _ (rows copy₀ : List ℕ) (room : length rows ≤ length copy₀) where
  pub copying_start : Copying rows copy₀ copy₀ 0
  copying_start = record { upto = omega arith; copied = paste-zero copy₀ 0 rows }

  module _ {copy : List ℕ} {u : ℕ} (x : Copying rows copy₀ copy u) where
    pub copying_length : length copy ≡ length copy₀
    copying_length = ap length x.copied ∙ length-paste copy₀ 0 rows u (omega (arith, x.upto)) x.upto

    pub copying_next : u < length rows → {row : ℕ} → row ≡ get_or rows u 0 → Copying rows copy₀ (set copy u row) (u + 1)
    copying_next l {row} e =
        let here : u ≡ 0 + u = omega arith in
        subst (λ (m : ℕ). Copying rows copy₀ (set copy u row) m) (sym (add-one u)) (record {
          upto = l;
          copied =
              ap₂ (λ (c : List ℕ) (y : ℕ). set c u y) x.copied e ∙ ap (λ (p : ℕ). set (paste copy₀ 0 rows u) p (get_or rows u 0)) here
              ∙ paste-suc copy₀ 0 rows u 0 (omega arith) l;
        })

    pub copying_end : length rows ≤ u → copy ≡ rows ++ drop (length rows) copy₀
    copying_end l =
        let all : u ≡ length rows = omega (arith, x.upto) in
        let end : 0 + length rows ≡ length rows = omega arith in
        x.copied ∙ ap (λ (m : ℕ). paste copy₀ 0 rows m) all ∙ ap₂ (λ (front : List ℕ) (m : ℕ). front ++ drop m copy₀) (take-length rows) end
