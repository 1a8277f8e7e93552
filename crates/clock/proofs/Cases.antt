-- The branches of the definitions, as the functions meet them.
use Rattle.std.proofs.Common.{◌≡◌, ℕ, suc, ◌-◌, ◌*◌, ◌/◌, ◌%◌, ◌^◌, ◌<◌, ◌≤◌, true, false, ◌≢◌, List, get_or, set}
use Rattle.std.proofs.Common.{ℤ, pos, negsuc, ap, arith, eq-eqb, ne_eqb, le-leb}
use lib.Bits.{bit_and}
use lib.Signed.{mag}
use lib.Ieee.{Float, binary64, of_bits, lt, to_signed}
use lib.Ieee.Casts.{to_signed_in}
use borrow.Author.Tests.{lt-leb}
use Rattle.whole.specs.Cut.{twos}
use Rattle.whole.specs.Limits.{good_time, good_turbo}
use Rattle.whole.proofs.Words.{has_some, has_not}
use Rattle.std.specs.Prelude.{Ok, Err}
use Rattle.clock.specs.declared.Times.{Times}
use Rattle.std.specs.Prelude.{Ok, Err}
use Rattle.map.specs.declared.refusals.Refusal.TheVariants.{BadTime}
use Rattle.clock.specs.declared.Latch.{Latch}
use Rattle.clock.specs.Times.{game_after, moved_of, paced_of}
use Rattle.clock.specs.Rtc.{ticks_of, output_of, rtc_of, latched_of, commanded_of}
use Rattle.clock.specs.Day.{rem_euclid}

-- ---- time
module _ (s : Times) (to : Float) where
  pub moves_not : good_time to ≡ false → (Err BadTime) ≡ moved_of s to
  unfolding moved_of
  moves_not g = rw g

  pub paces : good_turbo to ≡ true → Ok (record { now = s.now; game = s.game; turbo = to }) ≡ paced_of s to
  unfolding paced_of
  paces h = rw h

  pub moves_back : good_time to ≡ true → lt to s.now ≡ true → (Err BadTime) ≡ moved_of s to
  unfolding moved_of
  moves_back g l = rw (g, l)

  pub moves_over : good_time to ≡ true → lt to s.now ≡ false → lt (of_bits binary64 0x41E0_0000_0000_0000)
      (game_after s to) ≡ true → (Err BadTime) ≡ moved_of s to
  unfolding moved_of
  moves_over g l h = rw (g, l, h)

  pub advance_moves : good_time to ≡ true → lt to s.now ≡ false → lt (of_bits binary64 0x41E0_0000_0000_0000)
      (game_after s to) ≡ false
      → Ok (record { now = to; game = game_after s to; turbo = s.turbo }) ≡ moved_of s to
  unfolding moved_of
  advance_moves g l h = rw (g, l, h)

-- ---- the time of day
-- the 64 bits t of an i64 tell its sign and its remainder
from : (z : ℤ) (t : ℕ) → mag z < 2 ^ 63 → t ≡ twos z → t < 2 ^ 63 → t % 86400 ≡ rem_euclid z 86400
from (pos n) t m e l = ap (λ (x : ℕ). x % 86400) e
from (negsuc n) t m e l = absurd (omega arith)

below : (z : ℤ) (t : ℕ) → mag z < 2 ^ 63 → t ≡ twos z → 2 ^ 63 ≤ t → 86399 - (2 ^ 64 - 1 - t) % 86400 ≡ rem_euclid z
    86400
below (pos n) t m e l = absurd (omega arith)
below (negsuc n) t m e l = ap (λ (x : ℕ). 86399 - x % 86400) (back n t m e)
  where
    back : (n t : ℕ) → n < 2 ^ 63 → t ≡ 2 ^ 64 - suc n → 2 ^ 64 - 1 - t ≡ n
    back n t m e = omega arith

pub day_from : (x : Float) (t : ℕ) → t ≡ twos (to_signed 63 x) → t < 2 ^ 63 → t % 86400 ≡ rem_euclid
    (to_signed 63 x) 86400
day_from x t e l = from (to_signed 63 x) t (to_signed_in 63 x) e l

pub day_below : (x : Float) (t : ℕ) → t ≡ twos (to_signed 63 x) → 2 ^ 63 ≤ t
    → 86399 - (2 ^ 64 - 1 - t) % 86400 ≡ rem_euclid (to_signed 63 x) 86400
day_below x t e l = below (to_signed 63 x) t (to_signed_in 63 x) e l

-- ---- the RTC chip
module _ (latch : Latch) (regs : List ℕ) (game : Float) (at : ℕ) where
  pub puts_first : (r : ℕ) → r ≡ get_or regs 0 0 → at ≡ 0 → bit_and r 0xEF ≡ output_of latch regs game at
  unfolding output_of
  puts_first r g h = rw (h, g)

  pub puts_low : (r : ℕ) → r ≡ get_or regs at 0 → at ≢ 0 → at < 0x30 → r ≡ output_of latch regs game at
  unfolding output_of
  puts_low r g n h = rw (lt-leb 0x30 at h, ne_eqb at 0 n, g)

  pub puts_high : (r : ℕ) → r ≡ get_or regs at 0 → at ≢ 0 → 0x35 < at → r ≡ output_of latch regs game at
  unfolding output_of
  puts_high r g n h = rw (le-leb 0x30 at (omega arith), lt-leb at 0x35 h, ne_eqb at 0 n, g)

  pub puts_ticks : (t : ℕ) → t ≡ ticks_of latch game → 0x30 ≤ at → at ≤ 0x35 → bit_and (t / 2 ^ (8 * (at - 0x30))) 0xFF
      ≡ output_of latch regs game at
  unfolding output_of
  puts_ticks t e l h = rw (le-leb 0x30 at l, le-leb at 0x35 h, e)

module _ (latch : Latch) (regs : List ℕ) (game : Float) (address word cmd : ℕ) where
  abbrev stored : List ℕ
  stored = set regs (address % 256) (word % 256)

  pub commands_latch : (r : Latch) → bit_and cmd 1 ≢ 0 → address % 256 ≡ 0x15 → r ≡ latched_of latch stored game
      → rtc_of stored r ≡ commanded_of (rtc_of regs latch) game address word cmd
  unfolding commanded_of
  commands_latch r c h e = rw (has_some cmd 1 c, eq-eqb (address % 256) 0x15 h, e)

  pub commands_put : bit_and cmd 1 ≢ 0 → address % 256 ≢ 0x15 → rtc_of stored latch ≡ commanded_of (rtc_of regs latch)
      game address word cmd
  unfolding commanded_of
  commands_put c h = rw (has_some cmd 1 c, ne_eqb (address % 256) 0x15 h)

  pub commands_ask : (o : ℕ) → bit_and cmd 1 ≡ 0 → bit_and cmd 2 ≢ 0 → o ≡ output_of latch regs game (address % 256)
      → rtc_of regs (record { base = latch.base; since = latch.since; out = o }) ≡ commanded_of (rtc_of regs latch)
      game address word cmd
  unfolding commanded_of
  commands_ask o c d e = rw (has_not cmd 1 c, has_some cmd 2 d, e)

  pub commands_nothing : bit_and cmd 1 ≡ 0 → bit_and cmd 2 ≡ 0 → rtc_of regs latch ≡ commanded_of
      (rtc_of regs latch) game
      address word cmd
  unfolding commanded_of
  commands_nothing c d = rw (has_not cmd 1 c, has_not cmd 2 d)
