use Rattle.std.proofs.Common.{◌≡◌, ◌<◌, not, ◌∙◌, ap, arith}
use Rattle.keys.specs.Script.{waits}
use Rattle.keys.proofs.Cases.{front_at, front_long, free_start, free_here, free_on, free_none}
use Rattle.keys.proofs.presses.free.Goals as goal

pub loop-i-init : goal.loop-i-init
loop-i-init c = free_start _ _ _ _ c.places-n.ensures

pub returns-then-expired : goal.returns-then-expired
returns-then-expired c =
    let a = c.args in
    let long = front_long a.starts.now a.count _ c.told-starts c.places-n.ensures in
    let less : c.loop-i.i < c.places-n.result = omega (arith, long) in
    let same = ap (λ t. not (waits t a.time)) (front_at a.starts.now c.places-n.result c.loop-i.i less) in
    free_here _ _ _ _ _ _ less c.loop-i.invariant (c.expired.ensures ∙ same) c.if-expired.true

pub loop-i-preserved : goal.loop-i-preserved
loop-i-preserved c =
    let a = c.args in
    let long = front_long a.starts.now a.count _ c.told-starts c.places-n.ensures in
    let less : c.loop-i.i < c.places-n.result = omega (arith, long) in
    let same = ap (λ t. not (waits t a.time)) (front_at a.starts.now c.places-n.result c.loop-i.i less) in
    free_on _ _ _ _ _ _ less c.loop-i.invariant (c.expired.ensures ∙ same) c.if-expired.false

pub returns : goal.returns
returns c =
    let a = c.args in
    let long = front_long a.starts.now a.count _ c.told-starts c.places-n.ensures in
    let all : c.places-n.result ≡ c.loop-i.i = omega (arith, long) in
    all ∙ free_none _ _ _ _ _ (omega (arith, long)) c.loop-i.invariant
