-- The RTC chip behind its bus: rtc_command, with the address and data words.
use Rattle.std.specs.Prelude.{ℕ, List, Float}
use Rattle.map.specs.Numbers.{RTC_ADDRESS, RTC_DATA, RTC_COMMAND}
use Rattle.registers.specs.Words.{own_at, own_with}
use Rattle.clock.specs.declared.Rtc.{Rtc}
use Rattle.clock.specs.Rtc.{commanded_of}

pub record RtcDone : Type 0 where
  pub slots : List ℕ
  pub chip : Rtc

abbrev pub rtc_done : List ℕ → Rtc → RtcDone
rtc_done slots r = record { slots = slots; chip = r }

abbrev pub commanded_by : List ℕ → Rtc → Float → ℕ → RtcDone
commanded_by slots r game new = rtc_done slots (commanded_of r game (own_at slots RTC_ADDRESS)
    (own_at slots RTC_DATA) new)

unfoldable pub command_written : List ℕ → Rtc → Float → ℕ → RtcDone
command_written slots r game new = commanded_by (own_with slots RTC_COMMAND new) r game new
