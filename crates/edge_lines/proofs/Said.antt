-- One line: what the writer writes is what the reader reads, and the reader takes nothing else.
--   every_unbroken     bytes of which each is not a line end
--   unbroken_both      two texts without a line end, one behind the other
--   says_unbroken      a text of a line has no line end
--   says_said          a text of the line l is read as l
--   said_says          a text that is read as a line of one of the forms is a text of it
-- Assumes nothing.
use mathlib.Core.Path.{◌≡◌, refl, sym, ap, ap₂, ◌∙◌, subst}
use mathlib.Core.Bool.{Bool, true, false, cond}
use mathlib.Core.List.{List, [], ◌∷◌, ◌++◌}
use Prim.Native.Nat.{ℕ}
use native.Mathlib.Omega.{arith}
use lib.Dec.{T, ltb, eqb, not_T, ltb→lt, eqb→eq}
use Rattle.bitset.proofs.Tests.{and_out, cond_yes}
use Rattle.wording.specs.Text.{bytes}
use Rattle.wording.specs.Decimal.{decimal, is_digit, value}
use Rattle.wording.specs.Reading.{is_other}
use Rattle.wording.proofs.Spans.{Every}
use Rattle.wording.proofs.Decimals.{decimal_count, decimal_digits}
use Rattle.edge_lines.specs.declared.Line.{Line}
use Rattle.edge_lines.specs.Writing.{pair_text, problem_text, edge_text, Unbroken, Says}
use Rattle.edge_lines.specs.Reading.{begins, first_digits, second_digits, is_pair, said}
use Rattle.edge_lines.proofs.Pairs.{begins_out, pair_in, pair_first, pair_second, pair_out}

-- ---- texts without a line end

pub every_unbroken : (b : List ℕ) → Every (is_other 10) b → Unbroken b
every_unbroken [] p = tt
every_unbroken (c ∷ b) p = (p.0, every_unbroken b p.1)

pub unbroken_both : (a b : List ℕ) → Unbroken a → Unbroken b → Unbroken (a ++ b)
unbroken_both [] b u v = v
unbroken_both (c ∷ a) b u v = (u.0, unbroken_both a b u.1 v)

digit_unbroken : (c : ℕ) → T (is_digit c) → T (is_other 10 c)
unfolding is_digit is_other
digit_unbroken c t = not_T (eqb c 10) (λ e. let ten = eqb→eq c 10 e in let low = ltb→lt 47 c (and_out (ltb 47 c) (ltb c 58) t).0 in omega arith)

digits_unbroken : (d : List ℕ) → Every is_digit d → Unbroken d
digits_unbroken [] p = tt
digits_unbroken (c ∷ d) p = (digit_unbroken c p.0, digits_unbroken d p.1)

pair_unbroken : (words : List ℕ) (x y : ℕ) → Unbroken words → Unbroken (pair_text words x y)
unfolding pair_text is_other
pair_unbroken words x y u =
    unbroken_both words (decimal x ++ 32 ∷ decimal y) u
    (unbroken_both (decimal x) (32 ∷ decimal y) (digits_unbroken (decimal x) (decimal_digits x)) (tt, digits_unbroken (decimal y) (decimal_digits y)))

pub says_unbroken : (l : Line) (b : List ℕ) → Says l b → Unbroken b
unfolding problem_text edge_text bytes is_other
says_unbroken Line.Comment b (text, e, u) = subst (λ (l : List ℕ). Unbroken l) (sym e) (tt, u)
says_unbroken (Line.Problem n m) b e = subst (λ (l : List ℕ). Unbroken l) (sym e) (pair_unbroken (bytes "p edge ") n m (tt, (tt, (tt, (tt, (tt, (tt, (tt, tt))))))))
says_unbroken (Line.Edge u v) b e = subst (λ (l : List ℕ). Unbroken l) (sym e) (pair_unbroken (bytes "e ") u v (tt, (tt, tt)))
says_unbroken Line.Other b s = absurd s

-- ---- what is written is read

-- the two numbers of a pair, as a line of some form
pair_read : (form : ℕ → ℕ → Line) (words : List ℕ) (x y : ℕ) (other : Line)
    → let b = pair_text words x y in cond (is_pair words b) (form (value (first_digits words b)) (value (second_digits words b))) other ≡ form x y
pair_read form words x y other =
    cond_yes (is_pair words (pair_text words x y)) _ other (pair_in words x y)
    ∙ ap₂ form (ap value (pair_first words x y) ∙ decimal_count x) (ap value (pair_second words x y) ∙ decimal_count y)

pub says_said : (l : Line) (b : List ℕ) → Says l b → said b ≡ l
unfolding said begins bytes problem_text edge_text pair_text is_pair
says_said Line.Comment b (text, e, u) = ap said e
says_said (Line.Problem n m) b e = ap said e ∙ pair_read (λ x y. Line.Problem x y) (bytes "p edge ") n m Line.Other
says_said (Line.Edge u v) b e = ap said e ∙ pair_read (λ x y. Line.Edge x y) (bytes "e ") u v _
says_said Line.Other b s = absurd s

-- ---- what is read was written

comment_out : (b : List ℕ) → Unbroken b → T (begins (bytes "c") b) → Says Line.Comment b
unfolding bytes begins
comment_out [] u t = absurd t
comment_out (c ∷ text) u t = (text, begins_out (bytes "c") (c ∷ text) t, u.1)

-- the first of three forms whose test holds
form_says : (b : List ℕ) (x y z : Line) (first second third : Bool) → (T first → Says x b) → (T second → Says y b) → (T third → Says z b)
    → (cond first x (cond second y (cond third z Line.Other)) ≡ Line.Other → ⊥) → Says (cond first x (cond second y (cond third z Line.Other))) b
form_says b x y z true second third f g h formed = f tt
form_says b x y z false true third f g h formed = g tt
form_says b x y z false false true f g h formed = h tt
form_says b x y z false false false f g h formed = absurd (formed refl)

pub said_says : (b : List ℕ) → Unbroken b → (said b ≡ Line.Other → ⊥) → Says (said b) b
unfolding said problem_text edge_text
said_says b u formed =
    form_says b Line.Comment (Line.Edge (value (first_digits (bytes "e ") b)) (value (second_digits (bytes "e ") b)))
    (Line.Problem (value (first_digits (bytes "p edge ") b)) (value (second_digits (bytes "p edge ") b)))
    (begins (bytes "c") b) (is_pair (bytes "e ") b) (is_pair (bytes "p edge ") b)
    (comment_out b u) (pair_out (bytes "e ") b) (pair_out (bytes "p edge ") b) formed
