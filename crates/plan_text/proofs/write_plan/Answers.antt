-- `plan_text::write_plan` meets its contract: the first line, and then each turn the line of a link, if the number is that of one.
-- Assumes nothing.
use mathlib.Core.Path.{◌≡◌, ap, ◌∙◌}
use mathlib.Core.List.{List}
use Prim.Native.Nat.{ℕ, ◌+◌, ◌≤◌, ◌<◌}
use native.Mathlib.Omega.{arith}
use lib.ListN.{length, length-append}
use lib.Seq.{sets}
use Rattle.bitset.proofs.Tests.{said_true, said_false}
use Rattle.sheet.specs.Written.{is_link, link_list, lines}
use Rattle.wording.proofs.Writing.{Written, written_long, written_more}
use Rattle.plan_text.specs.Text.{head_text, link_text, plan_text}
use Rattle.plan_text.proofs.Texts.{vertices_few, links_most, text_room}
use Rattle.plan_text.proofs.Writing.{links_counted, piece_room, listing_start, listing_room, listing_link, listing_other, listing_length, listing_end}
use Rattle.plan_text.proofs.write_plan.Goals as goal
use Rattle.plan_text.proofs.write_plan.Goals.{After-link_count, After-write_head-at, At-loop-c, In-loop-c, Start, then-is_link, else-is_link}

-- at most 64 vertices, and the whole text fits
few : (s : Start) → length s.args.rows.now ≤ 64
few s = vertices_few s.args.rows.now s.requires.0

fits : (s : Start) → length (plan_text s.args.format s.args.rows.now) ≤ length s.args.output.now
fits s = omega (arith, s.requires.1, text_room s.args.rows.now s.requires.0 s.args.format)

-- so the first line does
head_fits : (s : Start)
    → let rows = s.args.rows.now in
    length (head_text s.args.format (length rows) (length (link_list rows))) ≤ length s.args.output.now
unfolding plan_text
head_fits s =
    let rows = s.args.rows.now in
    omega (arith, fits s, length-append (head_text s.args.format (length rows) (length (link_list rows))) (lines (link_text s.args.format) (link_list rows)))

pub link_count-requires : goal.link_count-requires
link_count-requires c = few (goal.at.link_count-requires c).Start

-- the links are counted
links : (c : After-link_count) → c.link_count.result ≡ length (link_list c.args.rows.now)
links c = links_counted c.args.rows.now c.link_count.ensures

-- the first line is that of the text
first : (c : After-link_count)
    → let a = c.args in
    let rows = a.rows.now in
    head_text a.format (length rows) c.link_count.result ≡ head_text a.format (length rows) (length (link_list rows))
first c = let a = c.args in ap (λ (m : ℕ). head_text a.format (length a.rows.now) m) (links c)

pub write_head-at-requires : goal.write_head-at-requires
write_head-at-requires c =
    let rows = c.args.rows.now in (
      omega (arith, few (goal.at.write_head-at-requires c).Start),
      omega (arith, links (goal.at.write_head-at-requires c).After-link_count, links_most rows c.requires.0),
      omega (arith, ap length (first (goal.at.write_head-at-requires c).After-link_count), head_fits (goal.at.write_head-at-requires c).Start),
    )

pub overflow_mul-c-end : goal.overflow_mul-c-end
overflow_mul-c-end c = omega (arith, few (goal.at.overflow_mul-c-end c).Start)

-- the first line is written
begun : (c : After-write_head-at)
    → let a = c.args in
    Written a.output.now 0 (head_text a.format (length a.rows.now) (length (link_list a.rows.now))) c.write_head-at.new.output c.write_head-at.result
begun c =
    let a = c.args in
    let is = first (goal.at.After-write_head-at c).After-link_count in
    record { bytes = c.write_head-at.ensures.output ∙ ap (λ (b : List ℕ). sets a.output.now 0 b) is; place = c.write_head-at.ensures.end ∙ ap length is ∙ omega arith }

-- and there is room for the others
rest_fits : (c : After-write_head-at)
    → let a = c.args in
    c.write_head-at.result + length (lines (link_text a.format) (link_list a.rows.now)) ≤ length c.write_head-at.new.output
unfolding plan_text
rest_fits c =
    let rows = c.args.rows.now in
    piece_room c.args.output.now 0 (head_text c.args.format (length rows) (length (link_list rows))) (lines (link_text c.args.format) (link_list rows)) (begun c)
    (omega (arith, fits (goal.at.After-write_head-at c).Start))

pub loop-c-init : goal.loop-c-init
loop-c-init c = listing_start _ _ _ _

pub is_link-requires : goal.is_link-requires
is_link-requires c = c.loop-c-test.true

abbrev rows_of : At-loop-c → List ℕ
rows_of c = c.args.rows.now

small : (c : In-loop-c) → c.loop-c.c < 4096
small c = omega (arith, c.loop-c-test.true, few (goal.at.In-loop-c c).Start)

pub write_link-at-requires : goal.write_link-at-requires
write_link-at-requires c =
    let link = said_true (is_link (rows_of (goal.at.write_link-at-requires c).At-loop-c) c.loop-c.c) c.is_link.ensures c.if-is_link.true in
    (small (goal.at.write_link-at-requires c).In-loop-c, listing_room _ _ _ _ c.loop-c.invariant (rest_fits (goal.at.write_link-at-requires c).After-write_head-at) c.loop-c-test.true link)

pub overflow_step-c : goal.overflow_step-c
overflow_step-c c = omega (arith, small (goal.at.overflow_step-c c).In-loop-c)

pub loop-c-smaller : goal.loop-c-smaller
loop-c-smaller c = omega (arith, c.loop-c-test.true)

pub loop-c-preserved : goal.loop-c-preserved
loop-c-preserved c =
    let is = is_link (rows_of (goal.at.loop-c-preserved c).At-loop-c) c.loop-c.c in
    elim c.if-is_link.branch [
      | then-is_link w ↦
          listing_link _ _ _ _ c.loop-c.invariant c.loop-c-test.true (said_true is c.is_link.ensures w.if-is_link.true)
          (w.output-is ∙ w.write_link-at.ensures.output) (w.at-is ∙ w.write_link-at.ensures.end)
      | else-is_link w ↦
          listing_other _ _ _ _ c.loop-c.invariant c.loop-c-test.true (said_false is c.is_link.ensures w.if-is_link.false) w.output-is w.at-is
    ]

pub shape_of-output : goal.shape_of-output
shape_of-output c =
    let a = c.args in
    listing_length _ _ _ _ c.loop-c.invariant ∙ written_long a.output.now 0 (begun (goal.at.shape_of-output c).After-write_head-at)

pub returns : goal.returns
unfolding plan_text
returns c =
    let a = c.args in
    let rows = a.rows.now in
    let rest = listing_end _ _ _ _ c.loop-c.invariant c.loop-c-test.false in
    let whole =
    written_more a.output.now 0 (head_text a.format (length rows) (length (link_list rows))) (lines (link_text a.format) (link_list rows)) (begun (goal.at.returns c).After-write_head-at) rest.bytes rest.place
    in
    record {
      output = whole.bytes;
      end = omega (arith, whole.place);
    }
