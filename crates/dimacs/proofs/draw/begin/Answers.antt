-- `dimacs::draw::begin` meets its contract: a second p line stops the reading.
-- Assumes nothing.
use mathlib.Core.Path.{sym, ap, ◌∙◌}
use mathlib.Core.Bool.{Bool, true, cond}
use lib.Dec.{leb}
use Rattle.dimacs.specs.Drawing.{broken, begun}
use Rattle.dimacs.proofs.draw.begin.Goals as goal

pub returns-then-drawing : goal.returns-then-drawing
unfolding begun
returns-then-drawing c =
    let a = c.args in
    let d = a.drawing in
    c.halt.ensures
    ∙ sym (ap (λ (t : Bool). cond t (broken d) (record { headed = true; sound = leb a.n 64; n = a.n; m = a.m; edges = d.edges; looped = d.looped; rows = d.rows })) c.if-drawing.true)

pub returns : goal.returns
unfolding begun
returns c =
    let a = c.args in
    let d = a.drawing in
    sym (ap (λ (t : Bool). cond t (broken d) (record { headed = true; sound = leb a.n 64; n = a.n; m = a.m; edges = d.edges; looped = d.looped; rows = d.rows })) c.if-drawing.false)
