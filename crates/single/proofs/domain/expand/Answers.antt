-- `single::domain::expand` meets its contract. The invariant is `Growing`: the nodes from i on are grown. A node is read, and its
-- children are stored in its place. Assumes nothing.
use Rattle.std.proofs.Common.{◌≡◌, Bool, true, false, ap, ◌∙◌, arith}
use Rattle.words.specs.declared.Word.{Word}
use Rattle.single.proofs.GrowLaws.{growing_none, growing_more, growing_all}
use Rattle.single.proofs.domain.expand.Goals as goal

-- the children are those of the node that was read
of_node : (child : Bool → Word → Word) (both : Word × Word) (s : Word) {t : Word} → both ≡ (child false s, child true s) → s ≡ t
    → (both.0 ≡ child false t) × (both.1 ≡ child true t)
of_node child both s e q = (ap (λ (p : Word × Word). p.0) e ∙ ap (child false) q, ap (λ (p : Word × Word). p.1) e ∙ ap (child true) q)

pub loop-i-init : goal.loop-i-init
loop-i-init g c =
    let a = c.args in
    growing_none (g.G.Grow.child a.growth.now) a.next a.nodes.now c.requires _ (omega (arith, c.div_ceil-i.ensures)) (omega (arith, c.div_ceil-i.ensures))

pub loop-i-preserved : goal.loop-i-preserved
loop-i-preserved g c =
    let l = c.loop-i in
    let a = c.args in
    let child = g.G.Grow.child a.growth.now in
    let grown = of_node child _ _ c.children.ensures c.word_no.ensures in
    growing_more child a.next a.nodes.now c.requires l.i (omega arith) l.invariant c.set_children.ensures
    grown.0 grown.1 (omega arith)

pub returns : goal.returns
returns g c =
    let a = c.args in
    let l = c.loop-i in
    growing_all (g.G.Grow.child a.growth.now) a.next a.nodes.now c.requires l.i (omega arith) l.invariant
