use Rattle.std.proofs.Common.{arith, ◌≡◌, refl, eqb}
use Rattle.map.specs.Numbers.{SOUND_CONTROL, SOUND_RELOAD, SOUND_COMPARE}
use Rattle.registers.specs.Ports.{words_from, named_rows, own_words, slot_word}
use Rattle.bus.specs.Sounds.{sound_of}
use Rattle.bus.proofs.Slots.{slot_is}
use Rattle.bus.proofs.sounds.sound_after.Goals as goal

pub returns : goal.returns
unfolding sound_of own_words words_from named_rows
returns c =
    let s = c.args.s in
    let p : eqb (slot_word s) SOUND_CONTROL ≡ eqb s 32 = slot_is s c.requires 32 SOUND_CONTROL (omega arith) refl in
    let q : eqb (slot_word s) SOUND_RELOAD ≡ eqb s 34 = slot_is s c.requires 34 SOUND_RELOAD (omega arith) refl in
    let o : eqb (slot_word s) SOUND_COMPARE ≡ eqb s 35 = slot_is s c.requires 35 SOUND_COMPARE (omega arith) refl in
    rw (
      p,
      q,
      o,
      ← c.own_reg.ensures,
      ← c.own_reg-2.ensures,
      ← c.own_reg-3.ensures,
      ←
          c.choose-control.ensures,
      ← c.choose-reload.ensures,
      ← c.choose-compare.ensures,
    ) c.sound_update.ensures
