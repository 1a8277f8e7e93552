use Rattle.std.proofs.Common.{refl, sym, ◌∙◌, rules}
use Rattle.state.proofs.Each.{through_all}
use Rattle.state.proofs.Packs.{zeros_packed, packed_words, all_put}
use Rattle.state.proofs.wholes.put_parts.Goals as goal

pub loop-n-init : goal.loop-n-init
loop-n-init c = record {
  packed = (c.put_times.ensures _).packed ((c.put_panel.ensures _).packed ((c.put_chip.ensures _).packed
      zeros_packed));
  left = refl;
}

pub returns : goal.returns
returns c =
    packed_words c.args.x (c.put_keys.ensures.packed ((c.put_ring.ensures _).packed
    ((c.put_off.ensures _).packed ((c.put_tone.ensures _).packed (c.put_latch.ensures.packed
    ((c.put_converting.ensures _).packed ((c.put_vsync.ensures _).packed (c.put_irq.ensures.packed
    c.loop-n.invariant.packed)))))))) (all_put _ _ c.args.x (search rules) (c.put_chip.ensures _
    ).parts (c.put_panel.ensures _).parts (c.put_times.ensures _).parts
    (through_all _ _ _ _ c.loop-n-test.false c.loop-n.invariant.left)
    c.put_irq.ensures.parts (c.put_vsync.ensures _).parts (c.put_converting.ensures _).parts
    c.put_latch.ensures.parts (c.put_tone.ensures _).parts (c.put_off.ensures _).parts
    (c.put_ring.ensures _).parts c.put_keys.ensures.parts)
