-- What is written piece by piece.
--   copied_there                bytes copied to their place
--   number_one, number_two, number_three   a number, digit by digit
--   Written l at text out end   the text stands from at on, up to end;   written_long, written_more   the list's length, and with a piece behind it
--   Begun l text out end most   the same at the front of the list, with at most so many bytes;   begun_name, begun_room, begun_more, begun_whole
--   front_left                  what stands behind a text at the front of a list
--   clause_short, clauses_whole   words and a number behind them; a sentence made of such clauses
-- Assumes nothing.
use mathlib.Core.Path.{◌≡◌, sym, ap, ap₂, ◌∙◌}
use mathlib.Core.List.{List, ◌++◌, append_assoc}
use Prim.Native.Nat.{ℕ, suc, ◌+◌, ◌/◌, ◌≤◌, ◌<◌}
use native.Mathlib.Numerals.{add-one}
use native.Mathlib.Omega.{arith}
use borrow.Rule.Slice.PartMut.{put_mid}
use lib.ListN.{length, set, take, drop, length-append, take-append-drop}
use lib.Seq.{sets, sets-eq, length-sets}
use Rattle.std.proofs.lemmas.Slice.{take-put_mid, drop-put_mid}
use Rattle.fields.specs.Field.{ones}
use Rattle.fields.proofs.Writing.{sets_append}
use Rattle.searches.specs.Kind.{Search}
use Rattle.searches.specs.Violation.{fails}
use Rattle.wording.specs.Text.{bytes}
use Rattle.wording.specs.Decimal.{decimal}
use Rattle.wording.specs.Sentence.{name, sentence}
use Rattle.wording.proofs.Decimals.{decimal_one, decimal_two, decimal_three, short_three}
use Rattle.wording.proofs.Named.{name_short}

-- ---- bytes copied to their place

pub copied_there : (l : List ℕ) (at : ℕ) (b : List ℕ) {k : ℕ} {now : List ℕ} → at + length b ≤ length l → k ≡ length b → now ≡ b → put_mid at k l now ≡ sets l at b
copied_there l at b {k} {now} room many same =
    let end : ℕ = at + length b in
    let as_many : length now ≡ length b = ap length same in
    sym (take-append-drop end (put_mid at k l now))
    ∙ ap₂ (λ (x y : List ℕ). x ++ y) (take-put_mid at k l now end (omega arith) (omega arith)) (drop-put_mid at k l now end (omega arith) (omega arith) (omega arith))
    ∙ ap (λ (x : List ℕ). take at l ++ x ++ drop end l) same
    ∙ sym (sets-eq b l at room)

-- ---- the digits of a number

module _ (l : List ℕ) (at x : ℕ) where
  pub number_one : {a : ℕ} → x < 10 → a ≡ ones x → (set l at a ≡ sets l at (decimal x)) × (at + 1 ≡ at + length (decimal x))
  number_one {a} h p =
      let is = decimal_one x h in
      (ap (λ (y : ℕ). set l at y) p ∙ ap (λ (y : List ℕ). sets l at y) (sym is), ap (λ (y : List ℕ). at + length y) (sym is))

  pub number_two : {a b : ℕ} → 10 ≤ x → x < 100 → a ≡ ones (x / 10) → b ≡ ones x
      → (set (set l at a) (at + 1) b ≡ sets l at (decimal x)) × (at + 2 ≡ at + length (decimal x))
  number_two {a} {b} g h p q =
      let is = decimal_two x g h in (
        ap₂ (λ (y z : ℕ). set (set l at y) (at + 1) z) p q
            ∙ ap (λ (m : ℕ). set (set l at (ones (x / 10))) m (ones x)) (add-one at)
            ∙ ap (λ (y : List ℕ). sets l at y) (sym is),
        ap (λ (y : List ℕ). at + length y) (sym is),
      )

  pub number_three : {a b c : ℕ} → 100 ≤ x → x < 1000 → a ≡ ones (x / 10 / 10) → b ≡ ones (x / 10) → c ≡ ones x
      → (set (set (set l at a) (at + 1) b) (at + 2) c ≡ sets l at (decimal x)) × (at + 3 ≡ at + length (decimal x))
  number_three {a} {b} {c} g h p q r =
      let is = decimal_three x g h in
      let two : at + 2 ≡ suc (suc at) = omega arith in (
        ap₂ (λ (y z : ℕ). set (set (set l at y) (at + 1) z) (at + 2) c) p q
            ∙ ap (λ (y : ℕ). set (set (set l at (ones (x / 10 / 10))) (at + 1) (ones (x / 10))) (at + 2) y) r
            ∙ ap₂ (λ (m k : ℕ). set (set (set l at (ones (x / 10 / 10))) m (ones (x / 10))) k (ones x)) (add-one at) two
            ∙ ap (λ (y : List ℕ). sets l at y) (sym is),
        ap (λ (y : List ℕ). at + length y) (sym is),
      )

-- ---- pieces behind each other

pub record Written (l : List ℕ) (at : ℕ) (text out : List ℕ) (end : ℕ) : Type 0 where
  pub bytes : out ≡ sets l at text
  pub place : end ≡ at + length text

module _ (l : List ℕ) (at : ℕ) where
  -- the list is as long as it was
  pub written_long : {text out : List ℕ} {end : ℕ} → Written l at text out end → length out ≡ length l
  written_long {text} w = ap length w.bytes ∙ length-sets l at text

  pub written_more : (text : List ℕ) {out : List ℕ} {end : ℕ} (more : List ℕ) {out' : List ℕ} {end' : ℕ} → Written l at text out end → out' ≡ sets out end more
      → end' ≡ end + length more → Written l at (text ++ more) out' end'
  written_more text more w at_out at_end = record {
    bytes = at_out ∙ ap₂ (λ (x : List ℕ) (m : ℕ). sets x m more) w.bytes w.place ∙ sym (sets_append l at text more);
    place =
        at_end ∙ ap (λ (m : ℕ). m + length more) w.place ∙ (let e : at + length text + length more ≡ at + length (text ++ more) = omega (arith, length-append text more) in e);
  }

-- ---- at the front of a list

-- a text of at most so many bytes
pub record Begun (l text out : List ℕ) (end most : ℕ) : Type 0 where
  pub written : Written l 0 text out end
  pub short : end ≤ most

module _ (l : List ℕ) where
  pub begun_name : (s : Search) {out : List ℕ} {end : ℕ} → out ≡ sets l 0 (name s) → end ≡ length (name s) → Begun l (name s) out end 7
  begun_name s at_out at_end = record {
    written = record { bytes = at_out; place = omega (arith, at_end) };
    short = omega (arith, at_end, name_short s);
  }

  -- there is room for more bytes
  pub begun_room : 96 ≤ length l → (more : ℕ) {text out : List ℕ} {end most : ℕ} → Begun l text out end most → most + more ≤ 96 → end + more ≤ length out
  begun_room long more b h = omega (arith, written_long l 0 b.written, b.short)

  pub begun_more : (text more : List ℕ) (m : ℕ) {out : List ℕ} {end most : ℕ} {out' : List ℕ} {end' : ℕ} → length more ≤ m → Begun l text out end most
      → out' ≡ sets out end more → end' ≡ end + length more → Begun l (text ++ more) out' end' (most + m)
  begun_more text more m h b at_out at_end = record { written = written_more l 0 text more b.written at_out at_end; short = omega (arith, b.short) }

  -- the whole text: what is written, and where it ends
  pub begun_whole : (text : List ℕ) {whole out : List ℕ} {end most : ℕ} → text ≡ whole → Begun l text out end most → (out ≡ sets l 0 whole) × (end ≡ length whole)
  begun_whole text is b =
      (b.written.bytes ∙ ap (λ (x : List ℕ). sets l 0 x) is, b.written.place ∙ ap (λ (x : List ℕ). 0 + length x) is ∙ omega arith)

  -- what stood behind it stays
  pub front_left : (text : List ℕ) → length text ≤ length l → sets l 0 text ≡ text ++ drop (length text) l
  front_left text h =
      let here : 0 + length text ≡ length text = omega arith in
      sets-eq text l 0 (omega arith) ∙ ap (λ (m : ℕ). text ++ drop m l) here

-- ---- the clauses of a sentence: words, and behind them a number

pub clause_short : (words : List ℕ) (x : ℕ) → x < 256 → length (words ++ decimal x) ≤ length words + 3
clause_short words x l = omega (arith, length-append words (decimal x), short_three x (omega arith))

pub clauses_whole : (s : Search) (a b c : ℕ)
    → name s ++ (bytes " fails at " ++ decimal b) ++ (bytes ": " ++ decimal a) ++ (bytes " leads to " ++ decimal c) ++ (bytes " and not to " ++ decimal b) ++ bytes "."
    ≡ sentence s (fails a b c)
unfolding sentence
clauses_whole s a b c = simp append_assoc
