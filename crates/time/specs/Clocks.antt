-- The clocks after a wipe, the timers' words, and the system clock's.
use Rattle.std.specs.Prelude.{ℕ, ◌+◌, ◌*◌, false, List, replicate}
use Rattle.map.specs.Numbers.{SYSCLK_AT, TIMER_COUNT, TIMER_BASE, TIMER_RELOAD, TIMER_STEP}
use Rattle.memory.specs.Bytes.{loaded}
use Rattle.registers.specs.Words.{own_at}
use Rattle.timer.specs.Timers.{fresh_timer}
use Rattle.clock.specs.Times.{fresh_times}
use Rattle.clock.specs.Day.{fresh_irq}
use Rattle.state.specs.declared.Clocks.{Clocks}

unfoldable pub fresh_clocks : Clocks
fresh_clocks = record {
  times = fresh_times;
  timers = replicate TIMER_COUNT fresh_timer;
  irq = fresh_irq;
  vsync = 0;
  converting = false;
}

-- the system clock's word, at SYSCLK-VAR
abbrev pub clock_in : List ℕ → ℕ
clock_in sram = loaded sram SYSCLK_AT 4

-- the control and reload words of timer n
abbrev pub control_word : List ℕ → ℕ → ℕ
control_word slots n = own_at slots (TIMER_BASE + TIMER_STEP * n)

abbrev pub reload_word : List ℕ → ℕ → ℕ
reload_word slots n = own_at slots (TIMER_RELOAD + TIMER_STEP * n)
