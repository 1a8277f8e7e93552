use Rattle.std.proofs.Common.{eqb, ◌%◌, ◌^◌, not, ◌≡◌, refl}
use Rattle.entries.proofs.Turns.{turn_read, turn_write, turn_take, turn_wipe, turn_live, turn_hold, turn_advance}
use Rattle.entries.proofs.Turns.{turn_next, turn_pending, turn_turbo, turn_counters, turn_pixel, answer_laid_lem}
use Rattle.entries.proofs.Turns.{not_laid}
use Rattle.system.proofs.Banks.{read_done, write_done, advance_done, next_done, pending_done, turbo_done, live_done}
use Rattle.system.proofs.Banks.{hold_done, take_done, fresh_packed}
use Rattle.system.specs.Bank.{machine_of}
use Rattle.system.specs.Inner.{parts_of}
use Rattle.state.specs.Bank.{parts_in}
use lib.Ieee.{binary64, of_bits}
use Rattle.entries.proofs.act.act.Goals as goal

pub returns-in-1 : goal.returns-in-1
returns-in-1 c =
    let a = c.args in
    let x = parts_in a.cells.now a.floats.now in
    let m = machine_of a.slots.now a.addresses.now a.values.now a.rtc.now a.page.now
    a.onsets.now a.frequencies.now a.duties.now a.starts.now a.codes.now x a.ram.now
    a.sram.now a.gpio.now a.fb.now in
    let i : x ≡ parts_of m.system = refl in (
      answer_laid_lem m a.e a.out.now a.to 1 c.in-1.is refl
          (turn_read m a.e c.in-1.is (read_done m.system
          a.ram.now a.sram.now a.gpio.now a.e.address a.e.size i c.read-got.ensures refl)
          c.word.ensures) c.lay.ensures,
      (λ k. k),
    )

pub returns-in-2 : goal.returns-in-2
returns-in-2 c =
    let a = c.args in
    let x = parts_in a.cells.now a.floats.now in
    let m = machine_of a.slots.now a.addresses.now a.values.now a.rtc.now a.page.now
    a.onsets.now a.frequencies.now a.duties.now a.starts.now a.codes.now x a.ram.now
    a.sram.now a.gpio.now a.fb.now in
    let i : x ≡ parts_of m.system = refl in
    let w = c.write-written.new in
    let y = parts_in w.cells w.floats in
    let m₁ = machine_of w.slots w.addresses w.values w.rtc w.page w.onsets
    w.frequencies w.duties a.starts.now a.codes.now y
    w.ram w.sram
    w.gpio w.fb in (
      answer_laid_lem m a.e a.out.now a.to 2 {m₁ = m₁} c.in-2.is refl (turn_write m a.e
          c.in-2.is {m₁ = m₁} (write_done m a.e.address a.e.size (a.e.value % 2 ^ 32)
          {r = m₁.system.registers} {rtc = m₁.system.rtc} {page = m₁.system.page} {ram = m₁.ram}
          {sram = m₁.sram} {gpio = m₁.gpio} {fb = m₁.fb} {d = y.devices} {k = y.keys} {q = m₁.system.queue} i
          c.write-written.ensures.0 c.write-written.ensures.1) c.plain.ensures) c.lay-in-2.ensures,
      c.write-written.ensures.2.packed,
    )

pub returns-in-3 : goal.returns-in-3
returns-in-3 c =
    let a = c.args in
    let x = parts_in a.cells.now a.floats.now in
    let m = machine_of a.slots.now a.addresses.now a.values.now a.rtc.now a.page.now
    a.onsets.now a.frequencies.now a.duties.now a.starts.now a.codes.now x a.ram.now
    a.sram.now a.gpio.now a.fb.now in
    let i : x ≡ parts_of m.system = refl in (
      answer_laid_lem m a.e a.out.now a.to 3 c.in-3.is refl (turn_advance m a.e c.in-3.is
          (advance_done m.system
          a.sram.now a.gpio.now (of_bits binary64 a.e.value) i c.advance-advanced.ensures.0)
          c.plain-in-3.ensures) c.lay-in-3.ensures,
      c.advance-advanced.ensures.1.packed,
    )

pub returns-in-4 : goal.returns-in-4
returns-in-4 c =
    let a = c.args in
    let x = parts_in a.cells.now a.floats.now in
    let m = machine_of a.slots.now a.addresses.now a.values.now a.rtc.now a.page.now
    a.onsets.now a.frequencies.now a.duties.now a.starts.now a.codes.now x a.ram.now
    a.sram.now a.gpio.now a.fb.now in
    let i : x ≡ parts_of m.system = refl in (
      answer_laid_lem m a.e a.out.now a.to 4 c.in-4.is refl
          (turn_next m a.e c.in-4.is (next_done m.system i
          a.sram.now c.next_event-next.ensures) refl c.moment.ensures) c.lay-in-4.ensures,
      (λ k. k),
    )

pub returns-in-5 : goal.returns-in-5
returns-in-5 c =
    let a = c.args in
    let x = parts_in a.cells.now a.floats.now in
    let m = machine_of a.slots.now a.addresses.now a.values.now a.rtc.now a.page.now
    a.onsets.now a.frequencies.now a.duties.now a.starts.now a.codes.now x a.ram.now
    a.sram.now a.gpio.now a.fb.now in
    let i : x ≡ parts_of m.system = refl in (
      answer_laid_lem m a.e a.out.now a.to 5 c.in-5.is refl (turn_pending m a.e c.in-5.is
          (pending_done m.system i
          (c.pending_irq-n.ensures a.floats.now)) c.numbers.ensures) c.lay-in-5.ensures,
      (λ k. k),
    )

pub returns-in-6 : goal.returns-in-6
returns-in-6 c =
    let a = c.args in
    let x = parts_in a.cells.now a.floats.now in
    let m = machine_of a.slots.now a.addresses.now a.values.now a.rtc.now a.page.now
    a.onsets.now a.frequencies.now a.duties.now a.starts.now a.codes.now x a.ram.now
    a.sram.now a.gpio.now a.fb.now in
    let i : x ≡ parts_of m.system = refl in (
      answer_laid_lem m a.e a.out.now a.to 6 c.in-6.is refl (turn_turbo m a.e c.in-6.is
          (turbo_done m.system (of_bits
          binary64 a.e.value) i (c.set_turbo-paced.ensures a.cells.now).0) c.plain-in-6.ensures)
          c.lay-in-6.ensures,
      (c.set_turbo-paced.ensures a.cells.now).1.packed,
    )

pub returns-in-7 : goal.returns-in-7
returns-in-7 c =
    let a = c.args in
    let x = parts_in a.cells.now a.floats.now in
    let m = machine_of a.slots.now a.addresses.now a.values.now a.rtc.now a.page.now
    a.onsets.now a.frequencies.now a.duties.now a.starts.now a.codes.now x a.ram.now
    a.sram.now a.gpio.now a.fb.now in
    let i : x ≡ parts_of m.system = refl in (
      answer_laid_lem m a.e a.out.now a.to 7 c.in-7.is refl
          (turn_live m a.e c.in-7.is (live_done m.system i
          a.e.address (not (eqb a.e.value 0)) c.set_live-changed.ensures.0) c.plain-in-7.ensures)
          c.lay-in-7.ensures,
      c.set_live-changed.ensures.1.packed,
    )

pub returns-in-8 : goal.returns-in-8
returns-in-8 c =
    let a = c.args in
    let x = parts_in a.cells.now a.floats.now in
    let m = machine_of a.slots.now a.addresses.now a.values.now a.rtc.now a.page.now
    a.onsets.now a.frequencies.now a.duties.now a.starts.now a.codes.now x a.ram.now
    a.sram.now a.gpio.now a.fb.now in
    let i : x ≡ parts_of m.system = refl in (
      answer_laid_lem m a.e a.out.now a.to 8 c.in-8.is refl
          (turn_hold m a.e c.in-8.is (hold_done m.system i
          a.e.address (of_bits binary64 a.e.value) c.hold_until-held.ensures.0) c.plain-in-8.ensures)
          c.lay-in-8.ensures,
      c.hold_until-held.ensures.1.packed,
    )

pub returns-in-9 : goal.returns-in-9
returns-in-9 c =
    let a = c.args in
    let x = parts_in a.cells.now a.floats.now in
    let m = machine_of a.slots.now a.addresses.now a.values.now a.rtc.now a.page.now
    a.onsets.now a.frequencies.now a.duties.now a.starts.now a.codes.now x a.ram.now
    a.sram.now a.gpio.now a.fb.now in
    let i : x ≡ parts_of m.system = refl in (
      answer_laid_lem m a.e a.out.now a.to 9 c.in-9.is refl
          (turn_take m a.e c.in-9.is (take_done m.system i
          (c.take_event-waited.ensures a.floats.now).0) c.sound.ensures) c.lay-in-9.ensures,
      (c.take_event-waited.ensures a.floats.now).1.packed,
    )

pub returns-in-10 : goal.returns-in-10
returns-in-10 c =
    let a = c.args in
    let x = parts_in a.cells.now a.floats.now in
    let m = machine_of a.slots.now a.addresses.now a.values.now a.rtc.now a.page.now
    a.onsets.now a.frequencies.now a.duties.now a.starts.now a.codes.now x a.ram.now
    a.sram.now a.gpio.now a.fb.now in
    let i : x ≡ parts_of m.system = refl in (
      answer_laid_lem m a.e a.out.now a.to 10 c.in-10.is refl (turn_counters m a.e c.in-10.is
          (c.counters.ensures
          a.floats.now)) c.lay-in-10.ensures,
      (λ k. k),
    )

pub returns-in-11 : goal.returns-in-11
returns-in-11 c =
    let a = c.args in
    let x = parts_in a.cells.now a.floats.now in
    let m = machine_of a.slots.now a.addresses.now a.values.now a.rtc.now a.page.now
    a.onsets.now a.frequencies.now a.duties.now a.starts.now a.codes.now x a.ram.now
    a.sram.now a.gpio.now a.fb.now in
    let i : x ≡ parts_of m.system = refl in (
      answer_laid_lem m a.e a.out.now a.to 11 c.in-11.is refl (turn_pixel m a.e c.in-11.is
          c.at-colours.ensures
          c.colour.ensures) c.lay-in-11.ensures,
      (λ k. k),
    )

pub shape_of-ram-in-12 : goal.shape_of-ram-in-12
shape_of-ram-in-12 c =
    c.wipe_all.auto.ram

pub shape_of-sram-in-12 : goal.shape_of-sram-in-12
shape_of-sram-in-12 c =
    c.wipe_all.auto.sram

pub returns-in-12 : goal.returns-in-12
returns-in-12 c =
    let a = c.args in
    let x = parts_in a.cells.now a.floats.now in
    let m = machine_of a.slots.now a.addresses.now a.values.now a.rtc.now a.page.now
    a.onsets.now a.frequencies.now a.duties.now a.starts.now a.codes.now x a.ram.now
    a.sram.now a.gpio.now a.fb.now in
    let w = c.wipe_all.new in
    let m₁ = machine_of w.slots w.addresses w.values w.rtc w.page w.onsets
    w.frequencies w.duties w.starts
    w.codes
    (parts_in w.cells w.floats)
    w.ram w.sram
    w.gpio w.fb in (
      answer_laid_lem m a.e a.out.now a.to 12 {m₁ = m₁} c.in-12.is refl (turn_wipe m a.e
          c.in-12.is {m₁ = m₁} c.wipe_all.ensures.0 c.plain-in-12.ensures) c.lay-in-12.ensures,
      (λ _. rw (c.wipe_all.ensures.1, c.wipe_all.ensures.2) fresh_packed),
    )

pub returns-in_default : goal.returns-in_default
returns-in_default c =
    let a = c.args in (
      not_laid (machine_of a.slots.now a.addresses.now a.values.now a.rtc.now a.page.now
          a.onsets.now a.frequencies.now a.duties.now a.starts.now a.codes.now
          (parts_in a.cells.now a.floats.now) a.ram.now a.sram.now a.gpio.now a.fb.now)
          a.e a.out.now a.to _ c.in_default.in_default-own.rest
          c.plain-in_default.ensures c.lay-in_default.ensures,
      (λ k. k),
    )
