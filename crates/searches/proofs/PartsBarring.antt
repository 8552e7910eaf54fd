-- Parts of a walk as the calls answer on them where vertices are barred: over the graph without these.
--   kept_prefix, kept_begins    a part of a walk of kept vertices; a list that begins with it
--   judge_begins, prefix_judged lists that begin alike are judged alike: a part, as a list of its own, is
--   passes_part                 passes: in the graph without the barred
--   carried, first_bytes        what is carried on there, named back, is what the first bytes of the output hold
--   output_kept                 for every input: what carry-on leaves as it was
--   part_carried                a part at the front of an output list, carried on
--   passes_written_again, written_again_passes   the reversed walk with the barred in front, by the calls
-- Assumes nothing.
use mathlib.Core.Path.{◌≡◌, refl, sym, ap, ◌∙◌, subst}
use mathlib.Core.Logic.{◌⊎◌, inl, inr, ◌↔◌}
use mathlib.Core.Bool.{Bool}
use mathlib.Core.List.{List, [], ◌∷◌, ◌++◌, reverse}
use mathlib.Core.Option.{none}
use Prim.Native.Nat.{ℕ, zero, suc, ◌≤◌, ◌<◌}
use native.Mathlib.Omega.{arith}
use lib.Dec.{T}
use lib.ListN.{length, take, drop, length-append, length-drop, length-map}
use lib.Seq.{take_at, drop_at, take-take, take-append-le, length-take-le}
use Rattle.bitset.specs.Below.{count_below}
use Rattle.bitset.proofs.Count.{count_le}
use Rattle.searches.specs.Kind.{Search, search_of}
use Rattle.searches.specs.Ordering.{arcs, at, IsFullOrdering}
use Rattle.searches.specs.Violation.{passes, judge}
use Rattle.searches.specs.CarryOn.{carry_on, CarriedOn}
use Rattle.searches.specs.Without.{name_of, numbered, named, arcs_of, named_verdict, IsKeptOrdering, judge_without, carry_on_without}
use Rattle.searches.specs.Answer.{Accepts, Refuses, unbarred, open_tests_barring, carry_on_tests_barring, judge_barring, carry_on_barring, output_barring}
use Rattle.searches.specs.declared.Mark.{Mark}
use Rattle.searches.proofs.Ordering.{begins_agree, agree_sym, ordering_prefix, ordering_agree, ordering_fits}
use Rattle.searches.proofs.Passing.{judge_take}
use Rattle.searches.proofs.CarryOn.{greedy_passes}
use Rattle.searches.proofs.Refusals.{accepts_none, accepts_or_refuses}
use Rattle.searches.proofs.Renumbered.{numbered_ordering}
use Rattle.searches.proofs.CarryOnKept.{part_stays, numbered_take, named_numbered}
use Rattle.searches.proofs.Full.{numbered_full}
use Rattle.searches.proofs.ComesBack.{passes_without, without_passes, numbered_named, passes_back, back_passes}
use Rattle.searches.proofs.Barring as barring
use Rattle.searches.proofs.Demands as demands

-- ---- walks of kept vertices that begin alike

pub kept_prefix : {n : ℕ} {kept : ℕ → Bool} {w : List ℕ} {k : ℕ} (m : ℕ) → m ≤ k → IsKeptOrdering n kept w k → IsKeptOrdering n kept w m
kept_prefix {n} m l x = record { ordering = ordering_prefix n m l x.ordering; stays = λ p h. x.stays p (omega arith) }

module _ (n : ℕ) (kept : ℕ → Bool) (w out : List ℕ) (m : ℕ) (x : IsKeptOrdering n kept w m) (front : take m out ≡ take m w) where
  pub kept_begins : IsKeptOrdering n kept out m
  kept_begins =
      let a = begins_agree m w out x.ordering.long front in
      record {
        ordering = ordering_agree n out a.0 (agree_sym m out w a.1) x.ordering;
        stays = λ p l. subst (λ (v : ℕ). T (kept v)) (sym (a.1 p l)) (x.stays p l);
      }

  numbered_begins : take m (numbered kept out) ≡ take m (numbered kept w)
  numbered_begins = numbered_take n kept out m kept_begins ∙ ap (numbered kept) front ∙ sym (numbered_take n kept w m x)

  pub judge_begins : (s : Search) (arc : ℕ → ℕ → Bool) → judge_without s arc n kept out m ≡ judge_without s arc n kept w m
  unfolding judge_without
  judge_begins s arc =
      let arc' = arcs_of n kept arc in
      let n' = count_below n kept in
      ap (named_verdict n kept) (sym (judge_take s arc' n' (numbered kept out) m)
      ∙ ap (λ (l : List ℕ). judge s arc' n' l m) numbered_begins ∙ judge_take s arc' n' (numbered kept w) m)

named_take : (n : ℕ) (kept : ℕ → Bool) (k : ℕ) (r : List ℕ) → take k (named n kept r) ≡ named n kept (take k r)
unfolding named
named_take n kept zero r = refl
named_take n kept (suc k) [] = refl
named_take n kept (suc k) (i ∷ r) = ap (λ (l : List ℕ). name_of n kept i ∷ l) (named_take n kept k r)

module _ (kind : ℕ) (mark : Mark) (rows : List ℕ) (barred : ℕ) where
  abbrev s : Search
  s = search_of kind

  abbrev arc : ℕ → ℕ → Bool
  arc = arcs rows

  abbrev n : ℕ
  n = length rows

  abbrev kept : ℕ → Bool
  kept = unbarred barred

  -- the graph without the barred
  abbrev n' : ℕ
  n' = count_below n kept

  abbrev arc' : ℕ → ℕ → Bool
  arc' = arcs_of n kept arc

  -- ---- judge

  module _ (valid : Accepts (open_tests_barring kind mark rows barred)) (w : List ℕ) (k : ℕ) (x : IsKeptOrdering n kept w k) where
    pub prefix_judged : judge_barring kind mark rows barred (take k w) ≡ judge_without s arc n kept w k
    prefix_judged =
        barring.judge_accepted kind mark rows barred (take k w)
        (barring.kept_judged kind mark rows barred (take k w) valid (part_stays n kept w k x.ordering x.stays))
        ∙ ap (λ (m : ℕ). judge_without s arc n kept (take k w) m) (length-take-le k w x.ordering.long)
        ∙ judge_begins n kept w (take k w) k x (take-take k k w (omega arith)) s arc

    pub passes_part : (judge_barring kind mark rows barred (take k w) ≡ passes) ↔ (judge s arc' n' (numbered kept w) k ≡ passes)
    passes_part = (λ p. passes_without s arc n kept w k (sym prefix_judged ∙ p), λ p. prefix_judged ∙ without_passes s arc n kept w k p)

  -- ---- carry-on

  module _ (t out : List ℕ) (k : ℕ) (lists : barring.Lists kind mark rows barred t out k) (p : judge_without s arc n kept out k ≡ passes) where
    abbrev r : List ℕ
    r = carry_on s arc' n' (numbered kept t) (numbered kept out) k

    carried : CarriedOn s arc' n' (numbered kept t) (numbered kept out) k r
    carried =
        demands.carried_on s arc' n' (numbered kept out) k (numbered_ordering n kept out k lists.start.ordering lists.start.stays) k (omega arith)
        (numbered kept t) (numbered_full n kept t lists.tie_break) (passes_without s arc n kept out k p)

    output : output_barring kind mark rows barred t out k ≡ named n kept r ++ drop n' out
    unfolding carry_on_without
    output = barring.carry_on_done kind mark rows barred t out k (barring.start_accepted kind mark rows barred t out k lists p)

    named_length : length (named n kept r) ≡ n'
    unfolding named
    named_length = length-map r (name_of n kept) ∙ carried.full.full

    pub first_bytes : take n' (output_barring kind mark rows barred t out k) ≡ named n kept (carry_on s arc' n' (numbered kept t) (numbered kept out) k)
    first_bytes = ap (λ (l : List ℕ). take n' l) output ∙ take_at (named n kept r) (drop n' out) n' named_length

    bytes_numbered : numbered kept (take n' (output_barring kind mark rows barred t out k)) ≡ r
    bytes_numbered =
        ap (numbered kept) first_bytes
        ∙ numbered_named n kept r (λ q l. carried.full.ordering.vertices q (omega (arith, l, carried.full.full)))

    done_kept : (take k (output_barring kind mark rows barred t out k) ≡ take k out) × (drop n' (output_barring kind mark rows barred t out k) ≡ drop n' out)
        × (length (output_barring kind mark rows barred t out k) ≡ length out)
    done_kept =
        let fits : k ≤ n' = ordering_fits n' (numbered_ordering n kept out k lists.start.ordering lists.start.stays) in
        let part = part_stays n kept out k lists.start.ordering lists.start.stays in (
          ap (λ (l : List ℕ). take k l) output ∙ take-append-le k (named n kept r) (drop n' out) (omega (arith, named_length))
              ∙ named_take n kept k r ∙ ap (named n kept) (carried.begins ∙ numbered_take n kept out k lists.start)
              ∙ named_numbered n kept (take k out) (λ q l. (part.ordering.vertices q l, part.stays q l)),
          ap (λ (l : List ℕ). drop n' l) output ∙ drop_at (named n kept r) (drop n' out) n' named_length,
          ap length output ∙ length-append (named n kept r) (drop n' out) ∙ omega (arith, named_length, length-drop n' out, lists.room, count_le n kept),
        )

  -- the first k bytes, the bytes from the number of unbarred vertices on and the length, for every input
  pub output_kept : (t out : List ℕ) (k : ℕ)
      → (take k (output_barring kind mark rows barred t out k) ≡ take k out) × (drop n' (output_barring kind mark rows barred t out k) ≡ drop n' out)
      × (length (output_barring kind mark rows barred t out k) ≡ length out)
  output_kept t out k = go (accepts_or_refuses (carry_on_tests_barring kind mark rows barred t out k))
    where
      go : Accepts (carry_on_tests_barring kind mark rows barred t out k) ⊎ ((q : ℕ) × Refuses q (carry_on_tests_barring kind mark rows barred t out k))
          → (take k (output_barring kind mark rows barred t out k) ≡ take k out) × (drop n' (output_barring kind mark rows barred t out k) ≡ drop n' out)
          × (length (output_barring kind mark rows barred t out k) ≡ length out)
      go (inl a) = let x = barring.accepted_start kind mark rows barred t out k a in done_kept t out k x.0 x.1
      go (inr x) =
          let e = barring.carry_on-kept kind mark rows barred t out k x.0 x.1 in
          (ap (λ (l : List ℕ). take k l) e, ap (λ (l : List ℕ). drop n' l) e, ap length e)

  pub part_carried : Accepts (open_tests_barring kind mark rows barred) → (w : List ℕ) (m : ℕ) → IsKeptOrdering n kept w m → (t out : List ℕ)
      → IsFullOrdering n t → n ≤ length out → take m out ≡ take m w → judge_without s arc n kept w m ≡ passes
      → (carry_on_barring kind mark rows barred t out m ≡ none)
      × CarriedOn s arc' n' (numbered kept t) (numbered kept w) m (numbered kept (take n' (output_barring kind mark rows barred t out m)))
      × (named n kept (numbered kept (take n' (output_barring kind mark rows barred t out m))) ≡ take n' (output_barring kind mark rows barred t out m))
  unfolding carry_on_barring
  part_carried valid w m x t out names room front p =
      let lists : barring.Lists kind mark rows barred t out m =
      record { valid = valid; room = room; tie_break = names; start = kept_begins n kept w out m x front }
      in
      let p' = judge_begins n kept w out m x front s arc ∙ p in
      let c = carried t out m lists p' in
      let e = bytes_numbered t out m lists p' in (
        accepts_none (carry_on_tests_barring kind mark rows barred t out m) (barring.start_accepted kind mark rows barred t out m lists p'),
        subst (λ (l : List ℕ). CarriedOn s arc' n' (numbered kept t) (numbered kept w) m l) (sym e)
            (record { full = c.full; begins = c.begins ∙ numbered_begins n kept w out m x front; passing = c.passing; chosen = c.chosen }),
        ap (named n kept) e ∙ sym (first_bytes t out m lists p'),
      )

  -- ---- the reversed walk, with the barred in front

  module _ (valid : Accepts (open_tests_barring kind mark rows barred)) (w b : List ℕ) (x : IsKeptOrdering n kept w (length w)) (whole : length w ≡ n')
      (names : IsFullOrdering n (b ++ reverse w)) (others : (p : ℕ) → p < length b → T (kept (at b p)) → ⊥) (out : List ℕ) (room : n ≤ length out) where
    answer : judge_barring kind mark rows barred w ≡ judge_without s arc n kept w n'
    answer =
        barring.judge_accepted kind mark rows barred w (barring.kept_judged kind mark rows barred w valid x)
        ∙ ap (λ (m : ℕ). judge_without s arc n kept w m) whole

    nothing_placed : IsKeptOrdering n kept out 0
    nothing_placed = record {
      ordering = record { long = omega arith; vertices = λ p l. absurd (omega arith); distinct = λ p q h l. absurd (omega arith) };
      stays = λ p l. absurd (omega arith);
    }

    written : take n' (output_barring kind mark rows barred (b ++ reverse w) out 0) ≡ carry_on_without s arc n kept (b ++ reverse w) [] 0
    unfolding carry_on_without carry_on
    written =
        first_bytes (b ++ reverse w) out 0 (record { valid = valid; room = room; tie_break = names; start = nothing_placed })
        (without_passes s arc n kept out 0 (greedy_passes s arc' n' (numbered kept out) 0 (omega arith) (λ j l. absurd (omega arith))))

    pub passes_written_again : judge_barring kind mark rows barred w ≡ passes → take n' (output_barring kind mark rows barred (b ++ reverse w) out 0) ≡ w
    passes_written_again p = written ∙ passes_back s arc n kept b w others x whole (sym answer ∙ p)

    pub written_again_passes : take n' (output_barring kind mark rows barred (b ++ reverse w) out 0) ≡ w → judge_barring kind mark rows barred w ≡ passes
    written_again_passes e = answer ∙ back_passes s arc n kept b w others x whole (sym written ∙ e)
