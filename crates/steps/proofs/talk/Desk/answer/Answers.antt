use Rattle.std.proofs.Common.{get_or, refl, ap, length, length-append, ◌∙◌, arith}
use Rattle.steps.specs.Inner.{world_of}
use Rattle.steps.proofs.Runs.{spare_within, room_on, go_on, no_more}
use Rattle.steps.proofs.talk.Desk.answer.Goals as goal

pub loop-byte-init : goal.loop-byte-init
loop-byte-init c = record {
  room = rw c.requires.empty (omega (arith, spare_within c.args.self.now.session.over));
  said = rw c.requires.empty refl;
}

pub spell-requires : goal.spell-requires
spell-requires c = omega (arith, c.loop-byte.invariant.room, spare_within c.loop-byte.self.session.over)

pub loop-byte-preserved : goal.loop-byte-preserved
loop-byte-preserved c =
    let w = world_of c.loop-byte.self in
    let said = simp length-append at (ap length c.spell.ensures.text) in
    record {
      room = omega (
        arith,
        c.loop-byte.invariant.room,
        room_on w (get_or c.args.chunk.now c.loop-byte.byte-index 0) c.feed-fed.ensures,
      );
      said = go_on w _ _ c.loop-byte.byte-index _ (omega arith) c.feed-fed.ensures c.spell.ensures.text
          ∙ c.loop-byte.invariant.said;
    }

pub returns : goal.returns
returns c = no_more _ c.args.chunk.now c.loop-byte.byte-index (omega arith) c.loop-byte.invariant.said
