-- The word that a register's address lies in is a register's too.
use Prim.Native.Nat.{ℕ, ◌-◌, ◌/◌, ◌%◌}
use mathlib.Core.Path.{◌≡◌, sym}
use native.Mathlib.Omega.{arith}
use Rattle.map.specs.Numbers.{SRAM_END, GPIO_END, REGISTERS_END}
use Rattle.whole.proofs.Choice.{by_same, by_less}
use Rattle.memory.specs.declared.Place.TheVariants.{Register}
use Rattle.memory.specs.Places.{place_of}
use Rattle.memory.proofs.Cases.{place_ram, place_sram, past_sram, place_gpio, place_low, place_middle}
use Rattle.memory.proofs.Cases.{place_high, past_high, place_stray}

pub word_register : (a : ℕ) → place_of a ≡ Register → place_of (a - a % 4) ≡ Register
word_register a e =
    by_same (a / 0x1000000) 0xC0
    (λ c. by_less a GPIO_END
    (λ less. absurd (let z : ◌≡◌ {A = ℕ} 0 1 = cc (place_gpio a c less) in omega arith))
    (λ past. sym (place_low (a - a % 4) (omega arith) (omega arith))))
    (λ not_c. by_same (a / 0x1000000) 0xD0
    (λ d. sym (place_middle (a - a % 4) (omega arith)))
    (λ not_d. by_same (a / 0x1000000) 0xFF
    (λ f. by_less a REGISTERS_END
    (λ less. sym (place_high (a - a % 4) (omega arith) (omega arith)))
    (λ past. absurd (let z : ◌≡◌ {A = ℕ} 0 1 = cc (past_high a f past) in omega arith)))
    (λ not_f. by_same (a / 0x1000000) 0x20
    (λ r. absurd (let z : ◌≡◌ {A = ℕ} 0 1 = cc (place_ram a r) in omega arith))
    (λ not_r. by_same (a / 0x1000000) 0xF8
    (λ s. by_less a SRAM_END
    (λ less. absurd (let z : ◌≡◌ {A = ℕ} 0 1 = cc (place_sram a s less) in omega arith))
    (λ past. absurd (let z : ◌≡◌ {A = ℕ} 0 1 = cc (past_sram a s past) in omega arith)))
    (λ not_s. absurd (let z : ◌≡◌ {A = ℕ} 0 1 = cc (place_stray a not_r not_c not_d not_s not_f) in omega arith))))))
