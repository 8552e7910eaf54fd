-- The rows that the links of a file make, bit by bit.
--   links_pair u v l, linked_by ls u v the line l is the link between the vertices u and v, counted from 0; one of the lines is
--   pair_joins                       what the line of the points p + 1 and q + 1 links;   linked_back   a link leads both ways
--   joins_ends                       the two ends of a link are joined, either way round
--   linked_out, linked_in            one of the lines is that link exactly when the lines say it (SaysLink)
--   said_inside, said_loop           a link that is said is between vertices below n; that of a vertex with itself is a loop
--   links_length, links_words        with links more there are as many rows as before, each a word of 64 bits
--   member_links                     the bits of the links are set, and those that were set before, and no others
--   made_length, made_words, member_made   the same of the rows that begin with no link
--   same_links_same_rows             lines with the same links make the same rows
-- Assumes nothing.
use Prim.Native.Nat.{ℕ, suc, ◌-◌, ◌≤◌, ◌<◌}
use mathlib.Core.Path.{◌≡◌, refl, sym, ap, ap₂, ◌∙◌, subst}
use mathlib.Core.Bool.{Bool, false, ◌||◌, or_comm, or_assoc, or-false}
use mathlib.Core.Logic.{◌⊎◌, inl, inr}
use mathlib.Core.List.{List, [], ◌∷◌}
use native.Mathlib.Omega.{arith}
use lib.Dec.{T, eqb}
use lib.ListN.{length, set, replicate, length-replicate}
use lib.Seq.{ext_get_or}
use Rattle.bitset.specs.Below.{any_below}
use Rattle.bitset.specs.Word.{member, inserted}
use Rattle.bitset.proofs.Tests.{and_out, or_inl, or_inr, or_out}
use Rattle.bitset.proofs.Word.{inserted_word, equal_members}
use Rattle.searches.specs.Ordering.{at}
use Rattle.lines.specs.Line.{joined}
use Rattle.sheet.specs.Sheet.{joined_rows}
use Rattle.sheet.proofs.Standing.{equal_test}
use Rattle.sheet.proofs.Joined.{set_words, joined_length, joins, joins_in, joins_out, joins_back, member_joined, AllWords, rows_words, member_rows}
use Rattle.edge_lines.specs.declared.Line.{Line}
use Rattle.dimacs.specs.Import.{is_edge, is_loop, every, any, with_link, with_links}
use Rattle.dimacs.specs.File.{SaysLink}
use Rattle.dimacs.proofs.Points.{Linking, edge_out}

-- ---- one line

unfoldable pub links_pair : ℕ → ℕ → Line → Bool
links_pair u v Line.Comment = false
links_pair u v (Line.Problem n m) = false
links_pair u v (Line.Edge x y) = joins (x - 1) (y - 1) u v
links_pair u v Line.Other = false

-- as the vertices are counted from 0
pub pair_joins : (p q u v : ℕ) → links_pair u v (Line.Edge (suc p) (suc q)) ≡ joins p q u v
unfolding links_pair
pair_joins p q u v =
    let from : suc p - 1 ≡ p = omega arith in
    let to : suc q - 1 ≡ q = omega arith in
    ap₂ (λ (x y : ℕ). joins x y u v) from to

unfoldable pub linked_by : List Line → ℕ → ℕ → Bool
linked_by ls u v = any (links_pair u v) ls

-- ---- both ways

pair_back : (l : Line) (u v : ℕ) → links_pair u v l ≡ links_pair v u l
unfolding links_pair
pair_back Line.Comment u v = refl
pair_back (Line.Problem n m) u v = refl
pair_back (Line.Edge x y) u v = joins_back (x - 1) (y - 1) u v
pair_back Line.Other u v = refl

pub linked_back : (ls : List Line) (u v : ℕ) → linked_by ls u v ≡ linked_by ls v u
unfolding linked_by any
linked_back [] u v = refl
linked_back (l ∷ ls) u v = ap₂ (λ (a b : Bool). a || b) (pair_back l u v) (linked_back ls u v)

-- ---- what the lines say

-- the two ends of a link, either way round
pub joins_ends : (p q u v : ℕ) → ((p ≡ u) × (q ≡ v)) ⊎ ((p ≡ v) × (q ≡ u)) → T (joins p q u v)
joins_ends p q u v (inl e) = subst (λ (b : Bool). T b) (ap₂ (λ (y z : ℕ). joins p q y z) e.0 e.1) (joins_in p q)
joins_ends p q u v (inr e) = subst (λ (b : Bool). T b) (ap₂ (λ (y z : ℕ). joins p q y z) e.0 e.1 ∙ joins_back p q v u) (joins_in p q)

pub linked_in : (ls : List Line) (u v : ℕ) → SaysLink u v ls → T (linked_by ls u v)
unfolding linked_by any links_pair
linked_in [] u v s = s
linked_in (Line.Comment ∷ ls) u v s = linked_in ls u v s
linked_in (Line.Problem n m ∷ ls) u v s = linked_in ls u v s
linked_in (Line.Edge x y ∷ ls) u v (inl (inl e)) =
    or_inl (joins (x - 1) (y - 1) u v) (linked_by ls u v) (joins_ends (x - 1) (y - 1) u v (inl (omega (arith, e.0), omega (arith, e.1))))
linked_in (Line.Edge x y ∷ ls) u v (inl (inr e)) =
    or_inl (joins (x - 1) (y - 1) u v) (linked_by ls u v) (joins_ends (x - 1) (y - 1) u v (inr (omega (arith, e.0), omega (arith, e.1))))
linked_in (Line.Edge x y ∷ ls) u v (inr s) = or_inr (joins (x - 1) (y - 1) u v) (linked_by ls u v) (linked_in ls u v s)
linked_in (Line.Other ∷ ls) u v s = linked_in ls u v s

module _ (n : ℕ) where
  pub linked_out : (ls : List Line) → T (every (is_edge n) ls) → (u v : ℕ) → T (linked_by ls u v) → SaysLink u v ls
  unfolding every linked_by any links_pair is_edge
  linked_out [] edges u v t = t
  linked_out (Line.Comment ∷ ls) edges u v t = absurd edges
  linked_out (Line.Problem k m ∷ ls) edges u v t = absurd edges
  linked_out (Line.Edge x y ∷ ls) edges u v t =
      let both = and_out (is_edge n (Line.Edge x y)) (every (is_edge n) ls) edges in
      go (edge_out n x y both.0) (linked_out ls both.1 u v) (or_out (joins (x - 1) (y - 1) u v) (linked_by ls u v) t)
    where
      ends : Linking n x y → ((x - 1 ≡ u) × (y - 1 ≡ v)) ⊎ ((x - 1 ≡ v) × (y - 1 ≡ u)) → ((x ≡ suc u) × (y ≡ suc v)) ⊎ ((x ≡ suc v) × (y ≡ suc u))
      ends e (inl s) = inl (omega (arith, s.0), omega (arith, s.1))
      ends e (inr s) = inr (omega (arith, s.0), omega (arith, s.1))

      go : Linking n x y → (T (linked_by ls u v) → SaysLink u v ls) → T (joins (x - 1) (y - 1) u v) ⊎ T (linked_by ls u v)
          → (((x ≡ suc u) × (y ≡ suc v)) ⊎ ((x ≡ suc v) × (y ≡ suc u))) ⊎ SaysLink u v ls
      go e rest (inl s) = inl (ends e (joins_out (x - 1) (y - 1) u v s))
      go e rest (inr s) = inr (rest s)
  linked_out (Line.Other ∷ ls) edges u v t = absurd edges

-- ---- which links they are

said_ends : {n x y u v : ℕ} → Linking n x y → ((x ≡ suc u) × (y ≡ suc v)) ⊎ ((x ≡ suc v) × (y ≡ suc u)) → (u < n) × (v < n)
said_ends e (inl s) = (omega (arith, s.0), omega (arith, s.1))
said_ends e (inr s) = (omega (arith, s.1), omega (arith, s.0))

pub said_inside : (n : ℕ) (ls : List Line) → T (every (is_edge n) ls) → (u v : ℕ) → SaysLink u v ls → (u < n) × (v < n)
unfolding every is_edge
said_inside n [] edges u v s = absurd s
said_inside n (Line.Comment ∷ ls) edges u v s = absurd edges
said_inside n (Line.Problem k m ∷ ls) edges u v s = absurd edges
said_inside n (Line.Edge x y ∷ ls) edges u v (inl s) = said_ends (edge_out n x y (and_out (is_edge n (Line.Edge x y)) (every (is_edge n) ls) edges).0) s
said_inside n (Line.Edge x y ∷ ls) edges u v (inr s) = said_inside n ls (and_out (is_edge n (Line.Edge x y)) (every (is_edge n) ls) edges).1 u v s
said_inside n (Line.Other ∷ ls) edges u v s = absurd edges

pub said_loop : (ls : List Line) (u : ℕ) → SaysLink u u ls → T (any is_loop ls)
unfolding any is_loop
said_loop [] u s = s
said_loop (Line.Comment ∷ ls) u s = said_loop ls u s
said_loop (Line.Problem n m ∷ ls) u s = said_loop ls u s
said_loop (Line.Edge x y ∷ ls) u (inl (inl s)) = or_inl (eqb x y) (any is_loop ls) (equal_test (s.0 ∙ sym s.1))
said_loop (Line.Edge x y ∷ ls) u (inl (inr s)) = or_inl (eqb x y) (any is_loop ls) (equal_test (s.0 ∙ sym s.1))
said_loop (Line.Edge x y ∷ ls) u (inr s) = or_inr (eqb x y) (any is_loop ls) (said_loop ls u s)
said_loop (Line.Other ∷ ls) u s = said_loop ls u s

-- ---- the rows

module _ (rows : List ℕ) where
  link_length : (l : Line) → length (with_link rows l) ≡ length rows
  unfolding with_link joined
  link_length Line.Comment = refl
  link_length (Line.Problem n m) = refl
  link_length (Line.Edge x y) = joined_length rows (x - 1) (y - 1)
  link_length Line.Other = refl

  link_words : (l : Line) → AllWords rows → AllWords (with_link rows l)
  unfolding with_link joined
  link_words Line.Comment words = words
  link_words (Line.Problem n m) words = words
  link_words (Line.Edge x y) words =
      let half = set rows (x - 1) (inserted (at rows (x - 1)) (y - 1)) in
      let fine : AllWords half = set_words rows (x - 1) (inserted (at rows (x - 1)) (y - 1)) words (inserted_word (words (x - 1)) (y - 1)) in
      set_words half (y - 1) (inserted (at half (y - 1)) (x - 1)) fine (inserted_word (fine (y - 1)) (x - 1))
  link_words Line.Other words = words

  member_link : (n : ℕ) (l : Line) → n ≤ 64 → length rows ≡ 64 → T (is_edge n l) → (x y : ℕ)
      → member (at (with_link rows l) x) y ≡ (links_pair x y l || member (at rows x) y)
  unfolding with_link links_pair is_edge
  member_link n Line.Comment few long edge x y = refl
  member_link n (Line.Problem k m) few long edge x y = refl
  member_link n (Line.Edge p q) few long edge x y =
      let e = edge_out n p q edge in
      member_joined rows (p - 1) (q - 1) (omega arith) (omega arith) (omega arith) (omega arith) x y
  member_link n Line.Other few long edge x y = refl

pub links_length : (rows : List ℕ) (ls : List Line) → length (with_links rows ls) ≡ length rows
unfolding with_links
links_length rows [] = refl
links_length rows (l ∷ ls) = links_length (with_link rows l) ls ∙ link_length rows l

pub links_words : (rows : List ℕ) (ls : List Line) → AllWords rows → AllWords (with_links rows ls)
unfolding with_links
links_words rows [] words = words
links_words rows (l ∷ ls) words = links_words (with_link rows l) ls (link_words rows l words)

module _ (n : ℕ) (few : n ≤ 64) where
  pub member_links : (rows : List ℕ) (ls : List Line) → length rows ≡ 64 → T (every (is_edge n) ls) → (x y : ℕ)
      → member (at (with_links rows ls) x) y ≡ (linked_by ls x y || member (at rows x) y)
  unfolding with_links every linked_by any
  member_links rows [] long edges x y = refl
  member_links rows (l ∷ ls) long edges x y =
      let both = and_out (is_edge n l) (every (is_edge n) ls) edges in
      let here = links_pair x y l in
      let later = linked_by ls x y in
      let was = member (at rows x) y in
      member_links (with_link rows l) ls (link_length rows l ∙ long) both.1 x y
      ∙ ap (λ (b : Bool). later || b) (member_link rows n l few long both.0 x y)
      ∙ sym (or_assoc later here was) ∙ ap (λ (b : Bool). b || was) (or_comm later here)

-- ---- from no link on: the rows of a sheet without links

none_words : AllWords (replicate 64 0)
unfolding joined_rows
none_words = rows_words [] 0

member_none : (x y : ℕ) → member (at (replicate 64 0) x) y ≡ false
unfolding joined_rows any_below
member_none = member_rows [] 0 (λ i l. absurd (omega arith))

pub made_length : (ls : List Line) → length (with_links (replicate 64 0) ls) ≡ 64
made_length ls = links_length (replicate 64 0) ls ∙ length-replicate {A = ℕ} 64 0

pub made_words : (ls : List Line) → AllWords (with_links (replicate 64 0) ls)
made_words ls = links_words (replicate 64 0) ls none_words

module _ (n : ℕ) (few : n ≤ 64) where
  pub member_made : (ls : List Line) → T (every (is_edge n) ls) → (x y : ℕ) → member (at (with_links (replicate 64 0) ls) x) y ≡ linked_by ls x y
  member_made ls edges x y =
      member_links n few (replicate 64 0) ls (length-replicate {A = ℕ} 64 0) edges x y
      ∙ ap (λ (b : Bool). linked_by ls x y || b) (member_none x y) ∙ or-false (linked_by ls x y)

  pub same_links_same_rows : (ls ls' : List Line) → T (every (is_edge n) ls) → T (every (is_edge n) ls') → ((x y : ℕ) → linked_by ls x y ≡ linked_by ls' x y)
      → with_links (replicate 64 0) ls ≡ with_links (replicate 64 0) ls'
  same_links_same_rows ls ls' edges edges' same =
      ext_get_or 0 (with_links (replicate 64 0) ls) (with_links (replicate 64 0) ls') (made_length ls ∙ sym (made_length ls'))
      (λ x l. equal_members 64 (made_words ls x) (made_words ls' x) (λ y h. member_made ls edges x y ∙ same x y ∙ sym (member_made ls' edges' x y)))
