-- The names of the searches. Each rule is one test that is computed over all seven, and a law that says it of every search.
--   all_differ        the test that no two names are equal;   names_distinct   so no two kinds have the same name
--   rows, lengths     the table of the code;   row_long, row_named   the first bytes of a row, as many as its length says, are the name
--   name_spaceless    no name has a space
--   name_short        a name has at most seven bytes
--   search_named_lem      the search with the name of s is s
--   kind_alone        no two kinds below 7 name the same search
-- Assumes nothing.
use mathlib.Core.Path.{◌≡◌, sym, ap, ◌∙◌, subst}
use mathlib.Core.Bool.{Bool, true, not, ◌&&◌}
use mathlib.Core.List.{List, [], ◌∷◌}
use Prim.Native.Nat.{ℕ, ◌≤◌, ◌<◌}
use native.Mathlib.Omega.{arith}
use lib.Dec.{T, leb, leb→le, eqb, eqb→eq, T_not}
use lib.ListN.{length, take, get_or}
use Rattle.bitset.specs.Below.{all_below}
use Rattle.bitset.proofs.Tests.{and_out}
use Rattle.bitset.proofs.Below.{all_out, first_unique}
use Rattle.searches.specs.Kind.{Search, search_of, kind_of}
use Rattle.searches.proofs.CarryOver.{search_of_kind, kind_below}
use Rattle.wording.specs.Text.{bytes}
use Rattle.wording.specs.Sentence.{name}
use Rattle.wording.specs.Reading.{is_other, same, search_named}
use Rattle.wording.proofs.Spans.{Every, same_in, same_out}

abbrev name_at : ℕ → List ℕ
name_at kind = name (search_of kind)

-- what holds of the names of all kinds holds of the name of every search
of_each : (test : List ℕ → Bool) → T (all_below 7 (λ kind. test (name_at kind))) → (s : Search) → T (test (name s))
of_each test all s =
    subst (λ (x : Search). T (test (name x))) (search_of_kind s) (all_out 7 (λ kind. test (name_at kind)) all (kind_of s) (kind_below s))

-- ---- the names are distinct

abbrev differ : ℕ → ℕ → Bool
differ j i = not (same (name_at i) (name_at j))

-- tested once, over all pairs
all_differ : T (all_below 7 (λ j. all_below j (differ j)))
unfolding all_below search_of name bytes same
all_differ = tt

pub names_distinct : (i j : ℕ) → i < j → j < 7 → name (search_of i) ≡ name (search_of j) → ⊥
names_distinct i j l h e =
    let here = all_out j (differ j) (all_out 7 (λ j. all_below j (differ j)) all_differ j h) i l in
    T_not (same (name_at i) (name_at j)) here (subst (λ (b : List ℕ). T (same (name_at i) b)) e (same_in (name_at i)))

-- ---- the table: a row of bytes for each kind, and how many of them are its name

abbrev pub rows : List (List ℕ)
rows =
    bytes "Generic"
    ∷ bytes "BFS\0\0\0\0"
    ∷ bytes "DFS\0\0\0\0"
    ∷ bytes "LexBFS\0"
    ∷ bytes "LexDFS\0"
    ∷ bytes "MNS\0\0\0\0"
    ∷ bytes "MCS\0\0\0\0"
    ∷ []

abbrev pub lengths : List ℕ
lengths = 7 ∷ 3 ∷ 3 ∷ 6 ∷ 6 ∷ 3 ∷ 3 ∷ []

abbrev is_row : ℕ → Bool
is_row kind = leb (get_or lengths kind 0) (length (get_or rows kind []))

abbrev is_named : ℕ → Bool
is_named kind = same (take (get_or lengths kind 0) (get_or rows kind [])) (name_at kind)

pub row_long : (kind : ℕ) → kind < 7 → get_or lengths kind 0 ≤ length (get_or rows kind [])
unfolding all_below bytes
row_long kind l = leb→le (get_or lengths kind 0) (length (get_or rows kind [])) (all_out 7 is_row tt kind l)

pub row_named : (kind : ℕ) → kind < 7 → take (get_or lengths kind 0) (get_or rows kind []) ≡ name (search_of kind)
unfolding all_below search_of name bytes same
row_named kind l = same_out (take (get_or lengths kind 0) (get_or rows kind [])) (name_at kind) (all_out 7 is_named tt kind l)

-- ---- no name has a space

spaceless : List ℕ → Bool
spaceless [] = true
spaceless (c ∷ b) = is_other 32 c && spaceless b

spaceless_out : (b : List ℕ) → T (spaceless b) → Every (is_other 32) b
unfolding spaceless
spaceless_out [] t = tt
spaceless_out (c ∷ b) t = let both = and_out (is_other 32 c) (spaceless b) t in (both.0, spaceless_out b both.1)

pub name_spaceless : (s : Search) → Every (is_other 32) (name s)
unfolding all_below search_of name bytes is_other spaceless
name_spaceless s = spaceless_out (name s) (of_each spaceless tt s)

-- ---- how long they are

pub name_short : (s : Search) → length (name s) ≤ 7
unfolding all_below search_of name bytes
name_short s = leb→le (length (name s)) 7 (of_each (λ (b : List ℕ). leb (length b) 7) tt s)

-- ---- a name found in the table

pub search_named_lem : (s : Search) → search_named (name s) ≡ s
unfolding search_named
search_named_lem s = ap search_of (sym (first_unique (record {
  within = let l = kind_below s in omega arith;
  holds = λ _. subst (λ (x : Search). T (same (name x) (name s))) (sym (search_of_kind s)) (same_in (name s));
  least = λ i l t. names_distinct i (kind_of s) l (kind_below s) (same_out (name_at i) (name s) t ∙ ap name (sym (search_of_kind s)));
}))) ∙ search_of_kind s

-- ---- kinds by their searches

kind_again : (kind : ℕ) → kind < 7 → kind_of (search_of kind) ≡ kind
unfolding all_below search_of kind_of
kind_again kind l = eqb→eq (kind_of (search_of kind)) kind (all_out 7 (λ k. eqb (kind_of (search_of k)) k) tt kind l)

pub kind_alone : (kind kind' : ℕ) → kind < 7 → kind' < 7 → search_of kind ≡ search_of kind' → kind ≡ kind'
kind_alone kind kind' l l' e = sym (kind_again kind l) ∙ ap kind_of e ∙ kind_again kind' l'
