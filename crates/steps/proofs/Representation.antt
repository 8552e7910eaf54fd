-- The words hold the labels and the unplaced vertices of searches/, and what is computed on them is what is defined there.
--   cut_same, cut_below                      a set that ends at a bound;   meets_cut, outranks_cut, compared_cut   it is compared below it
--   free_word, free_members                  free_after: a word, which holds the unplaced vertices;   free_unplaced, free_stays, free_vertex, free_size
--   whole_members, whole_unbarred, whole_inside, whole_word   whole: a word, which holds the vertices that are not barred;   whole_count   how many
--   free_earlier, grown_member               who is unplaced later, and whose label grows
--   kept_length                              kept_after: 64 values;   kept_start, kept_next   of an unplaced vertex
--   label_members                            labels_after: words which hold the labels of the unplaced vertices
--   ahead_same, compared_same                who is ahead, and how two stand to each other;   beaten_same, open_offered   who is beaten, who is offered
-- Assumes nothing.
use mathlib.Core.Path.{◌≡◌, refl, sym, ap, ap₂, ◌∙◌, subst}
use mathlib.Core.Bool.{Bool, true, false, cond, not, ◌&&◌, ◌||◌, and_assoc}
use mathlib.Core.List.{List}
use Prim.Native.Nat.{ℕ, zero, suc, ◌+◌, ◌^◌, ◌≤◌, ◌<◌}
use native.Mathlib.Omega.{arith}
use lib.Dec.{T, ltb, eqb, ltb→lt, lt→ltb, leb-suc-zero, not_T}
use lib.ListN.{length, get_or, length-replicate, get_or-replicate}
use Rattle.bitset.specs.Below.{any_below, count_below}
use Rattle.bitset.specs.Word.{member, removed, full_below}
use Rattle.bitset.proofs.Tests.{and_same, and_out, and_true, same_test, is_true}
use Rattle.bitset.proofs.Below.{any_fewer}
use Rattle.bitset.proofs.Count.{count_fewer}
use Rattle.bitset.proofs.Scan.{removed_in, removed_size}
use Rattle.bitset.proofs.Word as word
use Rattle.searches.specs.Kind.{Search, mns}
use Rattle.searches.specs.Ordering.{arcs, at, placed, IsOrdering}
use Rattle.searches.specs.Answer.{unbarred}
use Rattle.searches.specs.Label.{label, outranks}
use Rattle.searches.specs.Comparison.{alike, told_by, compared}
use Rattle.searches.specs.Violation.{Condition, none_excuses, counted, condition, meets}
use Rattle.searches.proofs.Reason.{Reason, meets_in, meets_out, outranks→reason, reason→outranks}
use Rattle.searches.proofs.Ordering.{ordering_fits, ordering_unplaced}
use Rattle.searches.proofs.Kept.{offered_kept}
use Rattle.searches.proofs.Level.{alike_in, alike_out, except_mns}
use Rattle.searches.proofs.Comparing.{compared_mns, compared_ranked}
use Rattle.labels.specs.Words.{ahead_in, compared_in, label_with, changed_by}
use Rattle.offers.specs.Open.{beaten_in, open_in}
use Rattle.bitset.proofs.Joining.{suc_split}
use Rattle.labels.proofs.Spreading.{member_joined}
use Rattle.labels.proofs.Spreading.{spread_length, spread_at}
use Rattle.steps.specs.Steps.{whole, AreVertices, kept_after, labels_after, free_after, grown_by}

-- ---- sets that end at a bound

-- f is f' below j and holds nowhere else
module _ (j : ℕ) (f f' : ℕ → Bool) (cut : (p : ℕ) → f p ≡ (ltb p j && f' p)) where
  pub cut_same : (p : ℕ) → p < j → f p ≡ f' p
  cut_same p l = cut p ∙ ap (λ (b : Bool). b && f' p) (is_true (ltb p j) (lt→ltb p j l))

  pub cut_below : (p : ℕ) → T (f p) → p < j
  cut_below p t = ltb→lt p j (and_out (ltb p j) (f' p) (subst (λ (b : Bool). T b) (cut p) t)).0

module _ (j m : ℕ) (c b c' b' : ℕ → Bool) (l : j ≤ m) (c-cut : (p : ℕ) → c p ≡ (ltb p j && c' p)) (b-cut : (p : ℕ) → b p ≡ (ltb p j && b' p)) where
  c_same : (p : ℕ) → p < j → c p ≡ c' p
  c_same = cut_same j c c' c-cut

  b_same : (p : ℕ) → p < j → b p ≡ b' p
  b_same = cut_same j b b' b-cut

  pub meets_cut : (own : Condition) → meets own m c b ≡ meets own j c' b'
  unfolding meets
  meets_cut (none_excuses excuses) =
      ap not (any_fewer j m l (λ d. b d && excuses d (c d)) (λ d. b' d && excuses d (c' d))
      (λ d h. ap₂ (λ (x y : Bool). x && excuses d y) (b_same d h) (c_same d h)) (λ d t. cut_below j b b' b-cut d (and_out (b d) (excuses d (c d)) t).0))
  meets_cut (counted test) =
      ap₂ test (count_fewer j m l c c' c_same (cut_below j c c' c-cut)) (count_fewer j m l b b' b_same (cut_below j b b' b-cut))

  pub outranks_cut : (s : Search) → outranks s m c b ≡ outranks s j c' b'
  outranks_cut s =
      same_test (outranks s m c b) (outranks s j c' b') (λ t. reason→outranks j c' b' s (forth (outranks→reason m c b s t)))
      (λ t. reason→outranks m c b s (back (outranks→reason j c' b' s t)))
    where
      forth : Reason (condition s) m c b → Reason (condition s) j c' b'
      forth r =
          let h = cut_below j c c' c-cut r.position r.ours in
          record {
            position = r.position;
            below = h;
            ours = subst (λ (x : Bool). T x) (c_same r.position h) r.ours;
            theirs = λ t. r.theirs (subst (λ (x : Bool). T x) (sym (b_same r.position h)) t);
            unexcused =
                let own = condition s r.position in
                meets_out j c' b' own (subst (λ (x : Bool). T x) (meets_cut own) (meets_in m c b own r.unexcused));
          }

      back : Reason (condition s) j c' b' → Reason (condition s) m c b
      back r = record {
        position = r.position;
        below = omega (arith, r.below);
        ours = subst (λ (x : Bool). T x) (sym (c_same r.position r.below)) r.ours;
        theirs = λ t. r.theirs (subst (λ (x : Bool). T x) (b_same r.position r.below) t);
        unexcused =
            let own = condition s r.position in
            meets_out m c b own (subst (λ (x : Bool). T x) (sym (meets_cut own)) (meets_in j c' b' own r.unexcused));
      }

-- how the one stands to the other takes them both ways round
module _ (j m : ℕ) (c b c' b' : ℕ → Bool) (l : j ≤ m) (c-cut : (p : ℕ) → c p ≡ (ltb p j && c' p)) (b-cut : (p : ℕ) → b p ≡ (ltb p j && b' p)) where
  alike_cut : alike m c b ≡ alike j c' b'
  alike_cut = same_test (alike m c b) (alike j c' b') forth back
    where
      forth : T (alike m c b) → T (alike j c' b')
      forth t = alike_in j c' b' (λ p h. sym (cut_same j c c' c-cut p h) ∙ alike_out m c b t p (omega arith) ∙ cut_same j b b' b-cut p h)

      back : T (alike j c' b') → T (alike m c b)
      back t = alike_in m c b (λ p _. c-cut p ∙ and_same (ltb p j) (c' p) (b' p) (λ h. alike_out j c' b' t p (ltb→lt p j h)) ∙ sym (b-cut p))

  pub compared_cut : (s : Search) → compared s m c b ≡ compared s j c' b'
  compared_cut s =
      except_mns (λ x. compared x m c b ≡ compared x j c' b')
      (sym (compared_mns m c b) ∙ ap₂ (λ (x y : Bool). told_by x y (alike m c b)) (ahead mns) (behind mns)
      ∙ ap (told_by (outranks mns j c' b') (outranks mns j b' c')) alike_cut ∙ compared_mns j c' b') (λ x other.
      sym (compared_ranked x m c b other) ∙ ap₂ (λ (p q : Bool). told_by p q true) (ahead x) (behind x) ∙ compared_ranked x j c' b' other) s
    where
      ahead : (x : Search) → outranks x m c b ≡ outranks x j c' b'
      ahead = outranks_cut j m c b c' b' l c-cut b-cut

      behind : (x : Search) → outranks x m b c ≡ outranks x j b' c'
      behind = outranks_cut j m b c b' c' l b-cut c-cut

-- ---- the unplaced vertices

module _ (all : ℕ) (w : List ℕ) where
  pub free_members : (j v : ℕ) → member (free_after all w j) v ≡ (member all v && not (placed w j v))
  unfolding free_after placed any_below
  free_members zero v = and_true (member all v)
  free_members (suc j) v =
      word.member_removed (free_after all w j) (at w j) v ∙ ap (λ (b : Bool). not (eqb (at w j) v) && b) (free_members j v)
      ∙ neither (eqb (at w j) v) (member all v) (placed w j v)
    where
      neither : (a b c : Bool) → (not a && (b && not c)) ≡ (b && not (a || c))
      neither true true c = refl
      neither true false c = refl
      neither false b c = refl

  pub free_word : all < 2 ^ 64 → (j : ℕ) → free_after all w j < 2 ^ 64
  unfolding free_after
  free_word h zero = h
  free_word h (suc j) = word.removed_word (free_word h j) (at w j)

  pub free_unplaced : (j v : ℕ) → T (member all v) → member (free_after all w j) v ≡ not (placed w j v)
  free_unplaced j v t = free_members j v ∙ ap (λ (b : Bool). b && not (placed w j v)) (is_true (member all v) t)

  pub free_stays : (j v : ℕ) → T (member (free_after all w j) v) → T (member all v)
  free_stays j v t = (and_out (member all v) (not (placed w j v)) (subst (λ (b : Bool). T b) (free_members j v) t)).0

  pub free_vertex : {n : ℕ} → AreVertices n all → (j v : ℕ) → T (member (free_after all w j) v) → v < n
  free_vertex inside j v t = inside v (free_stays j v t)

  -- a placed vertex is one unplaced less
  pub free_size : {n : ℕ} (k : ℕ) → n ≤ 64 → IsOrdering n w k → ((p : ℕ) → p < k → T (member all (at w p))) → (j : ℕ) → j ≤ k
      → j + count_below 64 (member (free_after all w j)) ≡ count_below 64 (member all)
  unfolding free_after
  free_size k small o stays zero h = let e : count_below 64 (member (free_after all w 0)) ≡ count_below 64 (member all) = refl in omega arith
  free_size {n} k small o stays (suc j) h =
      let v : ℕ = at w j in
      let before = free_size k small o stays j (omega arith) in
      let here : T (member (free_after all w j) v) = subst (λ (b : Bool). T b) (sym (free_unplaced j v (stays j h))) (not_T (placed w j v) (ordering_unplaced n o j h)) in
      let more = removed_size (free_after all w j) v (omega (arith, o.vertices j h)) here in
      omega arith

-- ---- the vertices that are not barred

module _ {n : ℕ} (small : n ≤ 64) (barred : ℕ) where
  pub whole_members : (v : ℕ) → member (whole n barred) v ≡ (ltb v n && not (member barred v))
  unfolding whole
  whole_members v = word.member_difference (full_below n) barred v ∙ ap (λ (b : Bool). b && not (member barred v)) (word.member_full_below small v)

  pub whole_unbarred : (v : ℕ) → v < n → member (whole n barred) v ≡ unbarred barred v
  unfolding unbarred
  whole_unbarred v l = whole_members v ∙ ap (λ (b : Bool). b && not (member barred v)) (is_true (ltb v n) (lt→ltb v n l))

  pub whole_inside : AreVertices n (whole n barred)
  whole_inside v t = ltb→lt v n (and_out (ltb v n) (not (member barred v)) (subst (λ (b : Bool). T b) (whole_members v) t)).0

  pub whole_count : count_below 64 (member (whole n barred)) ≡ count_below n (unbarred barred)
  whole_count = count_fewer n 64 small (member (whole n barred)) (unbarred barred) whole_unbarred whole_inside

pub whole_word : (n barred : ℕ) → whole n barred < 2 ^ 64
unfolding whole
whole_word n barred = word.difference_word (word.full_below_word n) barred

-- ---- what is kept, vertex by vertex

module _ (rows : List ℕ) (all : ℕ) (w : List ℕ) where
  -- who is unplaced later is unplaced now, and of those the next vertex makes the labels grow that it leads to
  pub free_earlier : (j v : ℕ) → T (member (free_after all w (suc j)) v) → T (member (free_after all w j) v)
  unfolding free_after
  free_earlier j v t = (removed_in (free_after all w j) (at w j) v t).1

  pub grown_member : (j v : ℕ) → T (member (free_after all w (suc j)) v) → member (grown_by rows (free_after all w j) (at w j)) v ≡ member (get_or rows (at w j) 0) v
  unfolding free_after grown_by
  grown_member j v t =
      let free = removed (free_after all w j) (at w j) in
      word.member_common (get_or rows (at w j) 0) free v ∙ ap (λ (b : Bool). member (get_or rows (at w j) 0) v && b) (is_true (member free v) t) ∙ sym (and_true (member (get_or rows (at w j) 0) v))

module _ (put : ℕ → ℕ → ℕ) (start : ℕ) (rows : List ℕ) (all : ℕ) (w : List ℕ) where
  pub kept_length : (j : ℕ) → length (kept_after put start rows all w j) ≡ 64
  unfolding kept_after
  kept_length zero = length-replicate {A = ℕ} 64 start
  kept_length (suc j) = spread_length (put j) (grown_by rows (free_after all w j) (at w j)) (kept_after put start rows all w j) 64 ∙ kept_length j

  pub kept_start : (v : ℕ) → v < 64 → get_or (kept_after put start rows all w 0) v 0 ≡ start
  unfolding kept_after
  kept_start v l = get_or-replicate 64 v start 0 l

  -- of an unplaced vertex
  pub kept_next : (j v : ℕ) → v < 64 → T (member (free_after all w (suc j)) v)
      → get_or (kept_after put start rows all w (suc j)) v 0 ≡ changed_by (put j) (get_or rows (at w j) 0) v (get_or (kept_after put start rows all w j) v 0)
  unfolding kept_after changed_by
  kept_next j v l f =
      let old = get_or (kept_after put start rows all w j) v 0 in
      spread_at (put j) (grown_by rows (free_after all w j) (at w j)) (kept_after put start rows all w j) 64 v (omega (arith, kept_length j)) l
      ∙ ap (λ (b : Bool). cond b (put j old) old) (grown_member rows all w j v f)

-- ---- the labels

module _ (rows : List ℕ) (all : ℕ) (w : List ℕ) (k : ℕ) (small : length rows ≤ 64) (inside : AreVertices (length rows) all) (o : IsOrdering (length rows) w k) where
  -- of an unplaced vertex
  pub label_members : (j : ℕ) → j ≤ k → (v : ℕ) → T (member (free_after all w j) v) → (p : ℕ)
      → member (get_or (labels_after rows all w j) v 0) p ≡ (ltb p j && label (arcs rows) w v p)
  unfolding label arcs
  label_members zero h v f p =
      let l = free_vertex all w inside 0 v f in
      ap (λ (x : ℕ). member x p) (kept_start label_with 0 rows all w v (omega arith)) ∙ word.member_zero p
      ∙ ap (λ (b : Bool). b && label (arcs rows) w v p) (sym (leb-suc-zero p))
  label_members (suc j) h v f p =
      let row = get_or rows (at w j) 0 in
      let labels = labels_after rows all w j in
      let l = free_vertex all w inside (suc j) v f in
      ap (λ (x : ℕ). member x p) (kept_next label_with 0 rows all w j v (omega arith) f)
      ∙ member_joined row j v (get_or labels v 0) (omega (arith, ordering_fits (length rows) o)) p
      ∙ ap (λ (b : Bool). (eqb j p && member row v) || b) (label_members j (omega arith) v (free_earlier rows all w j v f) p) ∙ suc_split j p (label (arcs rows) w v)

-- ---- who is ahead, beaten, offered

module _ (s : Search) (rows : List ℕ) (all : ℕ) (w : List ℕ) (k : ℕ) (small : length rows ≤ 64) (inside : AreVertices (length rows) all) (o : IsOrdering (length rows) w k) where
  abbrev n : ℕ
  n = length rows

  abbrev arc : ℕ → ℕ → Bool
  arc = arcs rows

  -- the words after the first j vertices
  abbrev labels : ℕ → List ℕ
  labels = labels_after rows all w

  abbrev free : ℕ → ℕ
  free = free_after all w

  pub ahead_same : (j u v : ℕ) → j ≤ k → T (member (free j) u) → T (member (free j) v)
      → ahead_in s (get_or (labels j) u 0) (get_or (labels j) v 0) ≡ outranks s j (label arc w u) (label arc w v)
  unfolding ahead_in
  ahead_same j u v h a b =
      outranks_cut j 64 (member (get_or (labels j) u 0)) (member (get_or (labels j) v 0)) (label arc w u) (label arc w v)
      (omega (arith, ordering_fits n o)) (label_members rows all w k small inside o j h u a) (label_members rows all w k small inside o j h v b) s

  pub compared_same : (j u v : ℕ) → j ≤ k → T (member (free j) u) → T (member (free j) v)
      → compared_in s (get_or (labels j) u 0) (get_or (labels j) v 0) ≡ compared s j (label arc w u) (label arc w v)
  unfolding compared_in
  compared_same j u v h a b =
      compared_cut j 64 (member (get_or (labels j) u 0)) (member (get_or (labels j) v 0)) (label arc w u) (label arc w v)
      (omega (arith, ordering_fits n o)) (label_members rows all w k small inside o j h u a) (label_members rows all w k small inside o j h v b) s

  pub beaten_same : (j v : ℕ) → j ≤ k → T (member (free j) v)
      → beaten_in s (labels j) (free j) (get_or (labels j) v 0)
      ≡ any_below n (λ u. member all u && (not (placed w j u) && outranks s j (label arc w u) (label arc w v)))
  unfolding beaten_in
  beaten_same j v h l =
      any_fewer n 64 small (λ u. member (free j) u && ahead_in s (get_or (labels j) u 0) (get_or (labels j) v 0))
      (λ u. member all u && (not (placed w j u) && outranks s j (label arc w u) (label arc w v)))
      (λ u g. and_same (member (free j) u) _ _ (λ f. ahead_same j u v h f l)
      ∙ ap (λ (b : Bool). b && outranks s j (label arc w u) (label arc w v)) (free_members all w j u)
      ∙ and_assoc (member all u) (not (placed w j u)) (outranks s j (label arc w u) (label arc w v)))
      (λ u t. free_vertex all w inside j u (and_out (member (free j) u) (ahead_in s (get_or (labels j) u 0) (get_or (labels j) v 0)) t).0)

  -- offered are the unplaced vertices of `all` that none of these is ahead of
  pub open_offered : (j : ℕ) → j ≤ k → (v : ℕ) → open_in s (labels j) (free j) v ≡ offered_kept s arc n (member all) w j v
  unfolding open_in offered_kept
  open_offered j h v =
      let beaten = any_below n (λ u. member all u && (not (placed w j u) && outranks s j (label arc w u) (label arc w v))) in
      and_same (member (free j) v) _ _ (λ t. ap not (beaten_same j v h t)) ∙ ap (λ (b : Bool). b && not beaten) (free_members all w j v)
      ∙ and_assoc (member all v) (not (placed w j v)) (not beaten)
      ∙ and_same (member all v) (not (placed w j v) && not beaten) (ltb v n && not (placed w j v) && not beaten)
      (λ t. ap (λ (b : Bool). b && not (placed w j v) && not beaten) (sym (is_true (ltb v n) (lt→ltb v n (inside v t)))))
