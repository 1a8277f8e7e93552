use Rattle.std.proofs.Common.{refl, ◌∙◌}
use Rattle.std.proofs.lemmas.Result.{err_from_is_err_and}
use Rattle.registers.specs.Ports.{slot_word}
use Rattle.state.specs.Bank.{parts_in}
use Rattle.bus.proofs.Slots.{slot_stored}
use Rattle.bus.proofs.BankedWords.{only_put, quiet, rest_put, rest_none, sound_full_lem, sound_same, sound_change}
use Rattle.bus.proofs.sounds.sound_write.Goals as goal

pub returns-in_err-sounded : goal.returns-in_err-sounded
returns-in_err-sounded c =
    let a = c.args in
    let x = parts_in a.cells.now a.floats.now in
    let p = err_from_is_err_and c.from_residual.result c.from_residual.ensures.1 in
    rw (p.1, p.2) (
      sound_full_lem a.slots.now x a.clock a.full (slot_word a.s) a.stored c.tone_of-tone.ensures
          c.in_err-sounded.ensures c.in_err-sounded.field-0.0 refl refl,
      rest_none refl,
    )

pub returns-in_default : goal.returns-in_default
returns-in_default c =
    let a = c.args in
    let x = parts_in a.cells.now a.floats.now in (
      sound_same a.slots.now x a.clock a.full (slot_word a.s) a.stored c.tone_of-tone.ensures
          (rw (← c.in_default.is) c.in_ok-sounded.ensures) refl
          (c.slot_set.ensures ∙ slot_stored a.s c.requires a.slots.now a.stored) c.accepted.ensures,
      rest_none (quiet c.accepted.ensures),
    )

pub returns : goal.returns
returns c =
    let a = c.args in
    let x = parts_in a.cells.now a.floats.now in
    let p = c.put_tone.ensures a.cells.now in (
      sound_change a.slots.now x a.clock a.full (slot_word a.s) a.stored c.tone_of-tone.ensures
          (rw (← c.in-Some.is) c.in_ok-sounded.ensures) refl
          (c.slot_set.ensures ∙ slot_stored a.s c.requires a.slots.now a.stored) p.parts,
      rest_put refl (only_put p.parts) p.packed,
    )
