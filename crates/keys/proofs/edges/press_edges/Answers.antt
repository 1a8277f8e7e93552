use Rattle.std.proofs.Common.{◌∙◌, ap, arith}
use Rattle.keys.specs.Edges.{edges_of}
use Rattle.keys.proofs.Cases.{front_at, front_long, edges_none, edges_more, edges_all}
use Rattle.keys.proofs.edges.press_edges.Goals as goal

pub loop-k-init : goal.loop-k-init
loop-k-init c = edges_none _ _ _

pub loop-k-preserved : goal.loop-k-preserved
loop-k-preserved c =
    let a = c.args in
    let l = c.loop-k in
    let long = front_long a.starts.now a.count _ c.told-starts c.places-n.ensures in
    let same = ap (λ k. edges_of k a.time l.r) (front_at a.starts.now c.places-n.result l.k-index (omega
    (arith, long))) in
    c.edges-r.ensures ∙ same ∙ edges_more _ _ _ _ _ l.invariant

pub returns : goal.returns
returns c =
    let a = c.args in
    let long = front_long a.starts.now a.count _ c.told-starts c.places-n.ensures in
    edges_all _ _ _ _ _ _ _ c.places-n.ensures (omega (arith, long)) (omega (arith, long)) c.loop-k.invariant
