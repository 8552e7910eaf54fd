-- Texts written piece by piece, and the loops over the links, turn by turn.
--   piece_room, front_room                 there is room for the next piece of a text, and for the front of a text, where there is room for the text
--   pair_pieces                            a line with two numbers, piece by piece
--   links_counted                          the numbers that stand for a link, counted, are as many as there are links
--   Listing format rows l begin out at c   the lines of the links below c are written from `begin` on, up to `at`;   listing_*
-- Assumes nothing.
use Prim.Native.Nat.{ℕ, zero, suc, ◌+◌, ◌*◌, ◌≤◌, ◌<◌}
use mathlib.Core.Path.{◌≡◌, refl, sym, ap, ◌∙◌, subst}
use mathlib.Core.Bool.{Bool, true, false, cond}
use mathlib.Core.List.{List, [], ◌∷◌, ◌++◌, append_assoc, map-id}
use native.Mathlib.Numerals.{add-one}
use native.Mathlib.Omega.{arith}
use lib.Dec.{T}
use lib.ListN.{length, length-append}
use lib.Seq.{sets}
use Rattle.std.specs.List.{count_by, range_with_len}
use Rattle.std.proofs.lemmas.List.FromFn.{sum_by-map-range_with_len_more}
use Rattle.sheet.specs.Written.{list_below, is_link, link_list, lines}
use Rattle.wording.specs.Decimal.{decimal}
use Rattle.wording.proofs.Writing.{Written, written_long, written_more}
use Rattle.edge_lines.specs.Writing.{pair_text}
use Rattle.plan_text.specs.Text.{link_text}
use Rattle.plan_text.specs.declared.Format.{Format}
use Rattle.plan_text.proofs.Texts.{below_holds, below_fails, lines_below_grow}

-- ---- pieces

module _ (l : List ℕ) (at : ℕ) where
  pub piece_room : (text more : List ℕ) {out : List ℕ} {end : ℕ} → Written l at text out end → at + length (text ++ more) ≤ length l → end + length more ≤ length out
  piece_room text more w enough = omega (arith, w.place, written_long l at w, length-append text more)

  pub front_room : (text rest : List ℕ) → at + length (text ++ rest) ≤ length l → at + length text ≤ length l
  front_room text rest enough = omega (arith, length-append text rest)

pub pair_pieces : (words : List ℕ) (x y : ℕ) → (((words ++ decimal x) ++ (32 ∷ [])) ++ decimal y) ++ (10 ∷ []) ≡ pair_text words x y ++ 10 ∷ []
unfolding pair_text
pair_pieces words x y = simp append_assoc

-- ---- counting the links

-- one number more
count_more : (f : ℕ → Bool) (k : ℕ) → count_by f (range_with_len 0 (k + 1)) ≡ count_by f (range_with_len 0 k) + cond (f k) 1 0
count_more f k =
    ap (count_by f) (sym (map-id (range_with_len 0 (k + 1))))
    ∙ sum_by-map-range_with_len_more (λ x. cond (f x) 1 0) (λ x. x) 0 k k (omega arith)
    ∙ ap (λ (l : List ℕ). count_by f l + cond (f k) 1 0) (map-id (range_with_len 0 k))

count_list : (f : ℕ → Bool) (k : ℕ) → count_by f (range_with_len 0 k) ≡ length (list_below k f)
unfolding list_below
count_list f zero = refl
count_list f (suc k) =
    ap (λ (m : ℕ). count_by f (range_with_len 0 m)) (sym (add-one k)) ∙ count_more f k ∙ ap (λ (m : ℕ). m + cond (f k) 1 0) (count_list f k) ∙ go (f k)
  where
    go : (t : Bool) → length (list_below k f) + cond t 1 0 ≡ length (cond t (list_below k f ++ k ∷ []) (list_below k f))
    go true = sym (length-append (list_below k f) (k ∷ []))
    go false = omega arith

pub links_counted : (rows : List ℕ) {m : ℕ} → m ≡ count_by (is_link rows) (range_with_len 0 (64 * length rows)) → m ≡ length (link_list rows)
unfolding link_list
links_counted rows e = e ∙ count_list (is_link rows) (64 * length rows)

-- ---- writing their lines

pub record Listing (format : Format) (rows l : List ℕ) (begin : ℕ) (out : List ℕ) (at c : ℕ) : Type 0 where
  pub upto : c ≤ 64 * length rows
  pub written : Written l begin (lines (link_text format) (list_below c (is_link rows))) out at

module _ (format : Format) (rows l : List ℕ) (begin : ℕ) where
  abbrev text : ℕ → List ℕ
  text c = lines (link_text format) (list_below c (is_link rows))

  pub listing_start : Listing format rows l begin l begin 0
  unfolding list_below lines
  listing_start = record { upto = omega arith; written = record { bytes = refl; place = omega arith } }

  module _ {out : List ℕ} {at c : ℕ} (x : Listing format rows l begin out at c) where
    -- the line of a link fits where all lines do
    pub listing_room : begin + length (lines (link_text format) (link_list rows)) ≤ length l → c < 64 * length rows → T (is_link rows c)
        → at + length (link_text format c) ≤ length out
    unfolding link_list
    listing_room enough h t =
        piece_room l begin (text c) (link_text format c) x.written
        (omega (arith, ap length (below_holds (link_text format) (is_link rows) c t), lines_below_grow (link_text format) (is_link rows) (suc c) (64 * length rows) h))

    pub listing_link : c < 64 * length rows → T (is_link rows c) → {out' : List ℕ} {at' : ℕ} → out' ≡ sets out at (link_text format c)
        → at' ≡ at + length (link_text format c) → Listing format rows l begin out' at' (c + 1)
    listing_link h t {out'} {at'} at_out at-end =
        subst (λ (m : ℕ). Listing format rows l begin out' at' m) (sym (add-one c)) (record {
          upto = h;
          written =
              subst (λ (b : List ℕ). Written l begin b out' at') (sym (below_holds (link_text format) (is_link rows) c t))
              (written_more l begin (text c) (link_text format c) x.written at_out at-end);
        })

    pub listing_other : c < 64 * length rows → (T (is_link rows c) → ⊥) → {out' : List ℕ} {at' : ℕ} → out' ≡ out → at' ≡ at → Listing format rows l begin out' at' (c + 1)
    listing_other h other {out'} {at'} at_out at-end =
        subst (λ (m : ℕ). Listing format rows l begin out' at' m) (sym (add-one c)) (record {
          upto = h;
          written =
              subst (λ (b : List ℕ). Written l begin b out' at') (sym (below_fails (link_text format) (is_link rows) c other))
              (record { bytes = at_out ∙ x.written.bytes; place = at-end ∙ x.written.place });
        })

    pub listing_length : length out ≡ length l
    listing_length = written_long l begin x.written

    pub listing_end : 64 * length rows ≤ c → Written l begin (lines (link_text format) (link_list rows)) out at
    unfolding link_list
    listing_end h =
        let all : c ≡ 64 * length rows = omega (arith, x.upto) in
        subst (λ (m : ℕ). Written l begin (lines (link_text format) (list_below m (is_link rows))) out at) all x.written
