use Rattle.std.proofs.Common.{◌≡◌, ◌<◌, ◌≤◌, ◌+◌, ℕ, List, length, ap, ◌∙◌, arith, set, add-one}
use Rattle.timer.specs.declared.Event.{Event}
use Rattle.timer.specs.declared.Queue.{Queue}
use Rattle.timer.specs.Events.{queue_of, event_of, fit_of}
use Rattle.timer.proofs.Laid.{over, over_none, over_laid, fits}
use Rattle.timer.proofs.events.lay_into.Goals as goal

-- a turn's place lies in the slice
below : (i count held room longer : ℕ) → i < count → count ≡ fit_of held room → longer ≡ room → i < longer
below i count held room longer less is same = let most = (fits held room).1 in omega arith

-- one more event
more : (q : Queue) (ys zs : List Event) (i : ℕ) {e : Event} → zs ≡ over q ys i → e ≡ event_of q i
    → set zs i e ≡ over q ys (i + 1)
unfolding over
more q ys zs i is told = rw (add-one i, is, told)

-- as many as fit are all
all : (q : Queue) (ys zs : List Event) (i n : ℕ) → i ≤ n → n ≤ i → n ≡ fit_of q.ring.count (length ys) → zs ≡ over q
    ys i
    → zs ≡ over q ys (fit_of q.ring.count (length ys))
all q ys zs i n most least is laid = let same : i ≡ fit_of q.ring.count (length ys) = omega arith in laid ∙ ap
    (over q ys) same

pub loop-i-init : goal.loop-i-init
loop-i-init c = record {
  counted = c.fit_in-count.ensures;
  laid = over_none _ _;
}

pub offset_bounds-records-i : goal.offset_bounds-records-i
offset_bounds-records-i c =
    let less : c.loop-i.i < length c.loop-i.records = below _ _ _ _ _ c.loop-i-test.true c.loop-i.invariant.counted
    c.loop-i.auto.records in
    omega arith

pub bounds-records-i : goal.bounds-records-i
bounds-records-i c = below _ _ _ _ _ c.loop-i-test.true c.loop-i.invariant.counted c.loop-i.auto.records

pub loop-i-preserved : goal.loop-i-preserved
loop-i-preserved c = record {
  counted = c.loop-i.invariant.counted;
  laid = more _ _ _ _ c.loop-i.invariant.laid c.event_in.ensures;
}

pub returns : goal.returns
returns c =
    let q = queue_of c.args.onsets.now c.args.frequencies.now c.args.duties.now c.args.ring in
    let laid = all q c.args.records.now _ _ _ (omega arith) c.loop-i-test.false
    c.loop-i.invariant.counted c.loop-i.invariant.laid ∙ over_laid q c.args.records.now in
    rw (laid, c.loop-i.invariant.counted)
