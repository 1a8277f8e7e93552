-- The bank: every scalar of the state in two lists, the cells (whole numbers) and the floats; and the parts that they
-- make. A number is named by its place in its list; any numbers make a state.
use Rattle.std.specs.Prelude.{ℕ, ◌+◌, ◌%◌, ◌^◌, Bool, not, cond, List, [], ◌∷◌, get_or, eqb, ltb, Float, None, Some}
use Rattle.std.specs.Float.{nan}
use Rattle.map.specs.Numbers.{TIMER_COUNT}
use Rattle.state.specs.Each.{list_of}
use Rattle.flash.specs.declared.Mode.{Mode}
use Rattle.flash.specs.declared.Mode.TheVariants.{Rust, Strict}
use Rattle.flash.specs.declared.Chip.{Chip}
use Rattle.panel.specs.Lcd.{MaybeByte}
use Rattle.panel.specs.declared.Panel.{Panel}
use Rattle.clock.specs.declared.Times.{Times}
use Rattle.clock.specs.declared.Latch.{Latch}
use Rattle.clock.specs.declared.RtcIrq.{RtcIrq}
use Rattle.timer.specs.declared.Timer.{Timer}
use Rattle.timer.specs.declared.Tone.{Tone}
use Rattle.timer.specs.declared.Ring.{Ring}
use Rattle.keys.specs.declared.Keys.{Keys}
use Rattle.state.specs.declared.Clocks.{Clocks}
use Rattle.state.specs.declared.Devices.{Devices}
use Rattle.state.specs.declared.Parts.{Parts}
use Rattle.state.specs.Parts.{clocks_of, devices_of, parts}

-- ---- how many there are

abbrev pub cell_count : ℕ
cell_count = 51

abbrev pub float_count : ℕ
float_count = 16

-- ---- a number as another thing; a number of fewer bits is the cell modulo its width

abbrev pub flag_in : ℕ → Bool
flag_in n = not (eqb n 0)

unfoldable pub mode_in : ℕ → Mode
mode_in n = cond (eqb n 0) Rust Strict

-- a byte below 256; else none
unfoldable pub maybe_in : ℕ → MaybeByte
maybe_in n = cond (ltb n 256) (Some n) None

-- ---- the devices

unfoldable pub chip_in : List ℕ → Chip
chip_in l =
    record {
      mode = mode_in (get_or l 0 0);
      cs = flag_in (get_or l 1 0);
      wel = flag_in (get_or l 2 0);
      writes = get_or l 3 0;
      rx = get_or l 4 0 % 256;
      tx =
          record {
            cmd = get_or l 5 0 % 256;
            a1 = get_or l 6 0 % 256;
            a2 = get_or l 7 0 % 256;
            a3 = get_or l 8 0 % 256;
            pos = get_or l 9 0;
            long = flag_in (get_or l 10 0);
          };
    }

unfoldable pub panel_in : List ℕ → Panel
panel_in l =
    record {
      cmd = maybe_in (get_or l 11 0);
      args = get_or l 12 0 % 256 ∷ get_or l 13 0 % 256 ∷ get_or l 14 0 % 256 ∷ get_or l 15 0 % 256 ∷ [];
      count = get_or l 16 0 % 256;
      window = record {
        x0 = get_or l 17 0 % 65536;
        x1 = get_or l 18 0 % 65536;
        y0 = get_or l 19 0 % 65536;
        y1 = get_or l 20 0
            % 65536;
      };
      pen = record {
        x = get_or l 21 0 % 65536;
        y = get_or l 22 0 % 65536;
        half = maybe_in (get_or l 23 0);
        frames = get_or l 24
            0;
      };
    }

unfoldable pub times_in : List Float → Times
times_in f = record { now = get_or f 0 nan; game = get_or f 1 nan; turbo = get_or f 2 nan }

-- timer n of the six
unfoldable pub timer_in : List ℕ → List Float → ℕ → Timer
timer_in l f n = record {
  start = get_or f (3 + n) nan;
  seen = get_or l (25 + n) 0;
  pending = flag_in
      (get_or l (31 + n) 0);
}

abbrev pub timers_in : List ℕ → List Float → List Timer
timers_in l f = list_of (λ n. timer_in l f n) 0 TIMER_COUNT

unfoldable pub irq_in : List ℕ → List Float → RtcIrq
irq_in l f = record { fired = get_or l 37 0; base = get_or l 38 0 % 2 ^ 32; set = get_or f 9 nan }

abbrev pub clocks_in : List ℕ → List Float → Clocks
clocks_in l f = clocks_of (times_in f) (timers_in l f) (irq_in l f) (get_or l 39 0) (flag_in (get_or l 40 0))

unfoldable pub latch_in : List ℕ → List Float → Latch
latch_in l f = record { base = get_or l 41 0; since = get_or f 10 nan; out = get_or l 42 0 % 2 ^ 32 }

unfoldable pub tone_in : List Float → Tone
tone_in f = record { frequency = get_or f 11 nan; duty = get_or f 12 nan }

abbrev pub devices_in : List ℕ → List Float → Devices
devices_in l f = devices_of (chip_in l) (panel_in l) (clocks_in l f) (latch_in l f) (tone_in f)
    (flag_in (get_or l 43 0))

-- ---- beside the devices: the sound queue's ring, and the keys

unfoldable pub ring_in : List ℕ → Ring
ring_in l = record { head = get_or l 44 0 % 256; count = get_or l 45 0 }

unfoldable pub keys_in : List ℕ → List Float → Keys
keys_in l f =
    record {
      count = get_or l 46 0;
      live = record { a = flag_in (get_or l 47 0); b = flag_in (get_or l 48 0); c = flag_in (get_or l 49 0) };
      holds = record { a = get_or f 13 nan; b = get_or f 14 nan; c = get_or f 15 nan };
      applied = get_or l 50 0 % 2 ^ 32;
    }

-- ---- the whole

abbrev pub parts_in : List ℕ → List Float → Parts
parts_in l f = parts (devices_in l f) (ring_in l) (keys_in l f)
