use Rattle.state.proofs.wholes.parts_of.Goals as goal

pub returns : goal.returns
returns c =
    rw (
      c.chip_of-flash.ensures,
      c.panel_of-panel.ensures,
      c.clocks_of-clocks.ensures,
      c.latch_of-latch.ensures,
      c.tone_of-tone.ensures,
      c.off_of-off.ensures,
      c.ring_of-ring.ensures,
      c.keys_of-keys.ensures,
    )
