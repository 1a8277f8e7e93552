-- Where an address lies.
use Rattle.std.specs.Prelude.{ℕ, ◌+◌, ◌-◌, Bool, cond, ◌&&◌, ◌||◌, leb}
use Rattle.map.specs.Numbers.{FLASH_BASE, RAM_SIZE, SRAM_BASE, SRAM_SIZE, GPIO_BASE, GPIO_SIZE, GPIO_END, REGISTERS_END}
use Rattle.memory.specs.declared.Place.{Place}
use Rattle.memory.specs.declared.Place.TheVariants.{Ram, Sram, Gpio, Register, Stray}

-- from the first to the last address
unfoldable pub within : ℕ → ℕ → ℕ → Bool
within first last a = leb first a && leb a last

unfoldable pub in_registers : ℕ → Bool
in_registers a =
    within GPIO_END 0xC0FFFFFF a || within 0xD0000000 0xD0FFFFFF a || within 0xFF000000 (REGISTERS_END - 1) a

unfoldable pub place_of : ℕ → Place
place_of a =
    cond (within FLASH_BASE (FLASH_BASE + RAM_SIZE - 1) a) (Ram (a - FLASH_BASE))
    (cond (within SRAM_BASE (SRAM_BASE + SRAM_SIZE - 1) a) (Sram (a - SRAM_BASE))
    (cond (within GPIO_BASE (GPIO_BASE + GPIO_SIZE - 1) a) (Gpio (a - GPIO_BASE))
    (cond (in_registers a) Register Stray)))
