use Rattle.std.proofs.Common.{ℕ, ◌+◌, ap, ◌∙◌, arith}
use Rattle.map.specs.Numbers.{RAM_SIZE, SRAM_SIZE, GPIO_SIZE}
use Rattle.script.proofs.Wiped.{good_memory}
use Rattle.session.specs.Fields.{part}
use Rattle.resuming.proofs.readers.read_memories.Goals as goal

-- src/readers.rt:116:18
-- src/readers.rt:116:18
-- src/readers.rt:117:17
-- src/readers.rt:117:17
-- src/readers.rt:118:18
-- src/readers.rt:118:18
-- src/readers.rt:119:21
-- src/readers.rt:119:5
-- src/readers.rt:120:22
-- src/readers.rt:120:5
-- src/readers.rt:121:22
-- src/readers.rt:121:5
-- src/readers.rt:122:20
-- src/readers.rt:122:5
-- src/readers.rt:103:1
pub returns : goal.returns
returns c =
    record {
      ram_is = c.copy_in.ensures ∙ ap (λ (k : ℕ). part c.args.s.now (c.args.at + 4)
          k) (good_memory c.args.ram.now c.args.sram.now c.args.gpio.now c.args.fb.now c.requires.0).ram_size;
      sram_is = c.copy_in-2.ensures ∙ ap (λ (k : ℕ). part c.args.s.now (c.args.at + 4 + RAM_SIZE + 4) k)
          (good_memory c.args.ram.now c.args.sram.now c.args.gpio.now c.args.fb.now c.requires.0).sram_size;
      gpio_is = c.copy_in-3.ensures ∙ ap (λ (k : ℕ). part c.args.s.now (c.args.at + 4 + RAM_SIZE + 4 + SRAM_SIZE + 4)
          k) (good_memory c.args.ram.now c.args.sram.now c.args.gpio.now c.args.fb.now c.requires.0).gpio_size;
      fb_is = c.copy_in-4.ensures ∙ ap (λ (k : ℕ). part c.args.s.now
          (c.args.at + 4 + RAM_SIZE + 4 + SRAM_SIZE + 4 + GPIO_SIZE + 4) k)
          (good_memory c.args.ram.now c.args.sram.now c.args.gpio.now c.args.fb.now c.requires.0).fb_size;
    }

pub copy_in-requires : goal.copy_in-requires
copy_in-requires c =
    omega (
      arith,
      c.requires.1,
      (good_memory c.args.ram.now c.args.sram.now c.args.gpio.now c.args.fb.now c.requires.0).ram_size,
    )

pub copy_in-requires-2 : goal.copy_in-requires-2
copy_in-requires-2 c =
    omega (
      arith,
      c.requires.1,
      (good_memory c.args.ram.now c.args.sram.now c.args.gpio.now c.args.fb.now c.requires.0).sram_size,
    )

pub copy_in-requires-3 : goal.copy_in-requires-3
copy_in-requires-3 c =
    omega (
      arith,
      c.requires.1,
      (good_memory c.args.ram.now c.args.sram.now c.args.gpio.now c.args.fb.now c.requires.0).gpio_size,
    )

pub copy_in-requires-4 : goal.copy_in-requires-4
copy_in-requires-4 c =
    omega (
      arith,
      c.requires.1,
      (good_memory c.args.ram.now c.args.sram.now c.args.gpio.now c.args.fb.now c.requires.0).fb_size,
    )
