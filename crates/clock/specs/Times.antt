-- Emulated time and game time, as document 000's advance moves them, and their limits.
use Rattle.std.specs.Prelude.{ℕ, cond, from_bits, Float, Result, Ok, Err}
use Rattle.std.specs.Float.{binary64}
use Rattle.std.specs.Float.Ieee.{add, sub, mul, lt}
use Rattle.map.specs.declared.refusals.Refusal.{Refusal}
use Rattle.map.specs.declared.refusals.Refusal.TheVariants.{BadTime, BadTurbo}
use Rattle.map.specs.Refusals.{number_of}
use Rattle.whole.specs.Limits.{good_time, good_turbo}
use Rattle.clock.specs.declared.Times.{Times}

abbrev pub fresh_times : Times
fresh_times = record {
  now = from_bits binary64 0;
  game = from_bits binary64 0;
  turbo = from_bits binary64
      0x3FF0_0000_0000_0000;
}

-- `game_time += (now - self.now) * self.turbo`
abbrev pub game_after : Times → Float → Float
game_after s to = add binary64 s.game (mul binary64 (sub binary64 to s.now) s.turbo)

-- later times, or why not
abbrev pub Moved : Type 0
Moved = Result Times Refusal

-- the same times at another turbo, or why not
abbrev pub Paced : Type 0
Paced = Result Times Refusal

-- refused: a time that is not good, one that goes back, and game time above 2,147,483,648.0
unfoldable pub moved_of : Times → Float → Moved
moved_of s to =
    cond (good_time to)
    (cond (lt to s.now) (Err BadTime)
    (cond (lt (from_bits binary64 0x41E0_0000_0000_0000) (game_after s to)) (Err BadTime)
    (Ok (record { now = to; game = game_after s to; turbo = s.turbo }))))
    (Err BadTime)

unfoldable pub paced_of : Times → Float → Paced
paced_of s to = cond (good_turbo to) (Ok (record { now = s.now; game = s.game; turbo = to })) (Err BadTurbo)

-- the numbers of the refusals
abbrev pub moved_refusal : Moved → ℕ
moved_refusal r = number_of r

abbrev pub paced_refusal : Paced → ℕ
paced_refusal r = number_of r
