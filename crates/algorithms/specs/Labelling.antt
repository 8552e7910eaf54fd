-- What algorithms 3, 5 and 6 of document 001 and algorithm 7 share. Every vertex has a label, at first a blank one, the start vertex another
-- (lines 1, 2). Each turn an unnumbered vertex is picked such that no unnumbered vertex has a larger label (4); it gets the next number i (5),
-- and i goes into the label of every unnumbered vertex to which it leads (6, 7). The order in line 6 changes nothing. Which of several such
-- vertices is picked is left open.
-- Restart: no rule is needed. Where no unnumbered vertex is led to, all labels are blank, none is larger, and any may be picked.
--   Labels                    a type of labels, the blank one, the start vertex's, a number put into one, and which of two is larger
--   first_labels ls s          the labels of a search from s
--   relabelled ls arc w v d   the labels after v got its number
--   LabelStep ls arc n        one turn
--   labelling ls arc n        the algorithm
use Rattle.std.specs.Prelude.{ℕ, suc, ◌<◌, ◌≡◌, Bool, cond, List, T, eqb, length}
use Rattle.algorithms.specs.Algorithm.{Algorithm, numbered, awaits}

pub record Labels : Type 1 where
  pub Label : Type 0
  pub blank : Label
  pub first : Label
  pub put : ℕ → Label → Label
  pub larger : Label → Label → Bool

module _ (ls : Labels) where
  unfoldable pub first_labels : ℕ → ℕ → ls.Label
  first_labels s u = cond (eqb s u) ls.first ls.blank

  unfoldable pub relabelled : (ℕ → ℕ → Bool) → List ℕ → ℕ → (ℕ → ls.Label) → ℕ → ls.Label
  relabelled arc w v d u = cond (awaits arc w v u) (ls.put (suc (length w)) (d u)) (d u)

  pub record LabelStep (arc : ℕ → ℕ → Bool) (n : ℕ) (w : List ℕ) (d : ℕ → ls.Label) (v : ℕ) (d' : ℕ → ls.Label) : Type 0 where
    pub vertex : v < n
    pub unnumbered : T (numbered w v) → ⊥
    pub largest : (u : ℕ) → u < n → (T (numbered w u) → ⊥) → T (ls.larger (d u) (d v)) → ⊥
    pub becomes : d' ≡ relabelled arc w v d

  abbrev pub labelling : (ℕ → ℕ → Bool) → ℕ → Algorithm
  labelling arc n = record { Data = ℕ → ls.Label; start = first_labels; Step = LabelStep arc n }
