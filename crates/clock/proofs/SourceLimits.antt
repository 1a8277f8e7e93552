-- Within the limits a periodic source has signalled exactly the whole periods that have passed.
use Rattle.std.proofs.Common.{◌≡◌, ℕ, ◌^◌, ◌≤◌, Bool, true, false, cond, T, ltb, pos, refl, le_trans, le_of_eq}
use Rattle.std.proofs.Common.{arith, lit<, lit≤, ltb-false}
use lib.Bits.{bit_or}
use lib.Ieee.{Float, fin, binary64, of_bits, mul, div, le, to_unsigned}
use Rattle.whole.specs.Bounds.{AtMost, WholePart}
use Rattle.whole.specs.Limits.{good_time}
use Rattle.whole.proofs.Clear.{at_most_clear}
use Rattle.whole.proofs.Cuts.{whole_part}
use Rattle.whole.proofs.Round.{mul_at_most, div_pow, good_at_most}
use Rattle.whole.proofs.Order.{good_clear}
use Rattle.whole.proofs.Mono.{mul_mono, div_mono, cut_mono}
use Rattle.clock.specs.declared.Signal.{Signal}
use Rattle.clock.specs.Sources.{signal_of, vsync_of, tick_of}
use Rattle.clock.specs.Within.{SecondsSeen, SyncsSeen}

-- more periods than were seen, or as many
signals : (n seen status bit : ℕ) → seen ≤ n → (signal_of n seen status bit).seen ≡ n
unfolding signal_of
signals n seen status bit h = by (ltb seen n) refl
  where
    by : (b : Bool) → ltb seen n ≡ b → (cond {A = Signal} b (record { seen = n; status = bit_or status bit })
        (record { seen = seen; status = status })).seen ≡ n
    by true e = refl
    by false e = let l : n ≤ seen = ltb-false seen n e in omega arith

-- 1.0
abbrev second : Float → Float
second game = div binary64 game (of_bits binary64 0x3FF0_0000_0000_0000)

pub second_limit : (game : Float) → AtMost game (2 ^ 31) → AtMost (second game) (2 ^ 31)
unfolding of_bits
second_limit game g = div_pow game 0 31 (lit< tt) g

-- THE CUT IS EXACT: the seconds that were signalled are the whole part of game time / 1.0, and stay so
pub second_exact : (game : Float) → AtMost game (2 ^ 31) → WholePart (second game) (to_unsigned 64 (second game))
second_exact game g = whole_part (second game) (2 ^ 31) (lit< tt) (second_limit game g)

pub ticks_seconds : (fired status : ℕ) (game later : Float) → SecondsSeen fired game → AtMost game (2 ^ 31)
    → AtMost later (2 ^ 31)
    → T (le game later) → SecondsSeen (tick_of fired later status).seen later
unfolding of_bits
ticks_seconds fired status game later h g k l =
    signals (to_unsigned 64 (second later)) fired status 2
    (le_trans (le_of_eq h)
    (cut_mono (second game) (second later) (at_most_clear (second game) (2 ^ 31) (second_limit game g))
    (at_most_clear (second later) (2 ^ 31) (second_limit later k))
    (div_mono game later 1 (pos 0) 1 (at_most_clear game (2 ^ 31) g) (at_most_clear later (2 ^ 31) k) (lit≤ tt) l)))

-- 60.0, which is 15 * 2 ^ 2
abbrev sixtieth : Float → Float
sixtieth now = mul binary64 now (of_bits binary64 0x404E_0000_0000_0000)

pub sixtieth_limit : (now : Float) → T (good_time now) → AtMost (sixtieth now) (2 ^ 27)
unfolding of_bits
sixtieth_limit now g = mul_at_most now (fin false 15 (pos 2)) 21 6 (lit< tt) (good_at_most now g) (lit≤ tt)

pub sixtieth_exact : (now : Float) → T (good_time now) → WholePart (sixtieth now) (to_unsigned 64 (sixtieth now))
sixtieth_exact now g = whole_part (sixtieth now) (2 ^ 27) (lit< tt) (sixtieth_limit now g)

pub vsyncs_seen : (last status : ℕ) (now later : Float) → SyncsSeen last now → T (good_time now) → T (good_time later)
    → T (le now later)
    → SyncsSeen (vsync_of last later status).seen later
unfolding of_bits
vsyncs_seen last status now later h g k l =
    signals (to_unsigned 64 (sixtieth later)) last status 0x2000
    (le_trans (le_of_eq h)
    (cut_mono (sixtieth now) (sixtieth later) (at_most_clear (sixtieth now) (2 ^ 27) (sixtieth_limit now g))
    (at_most_clear (sixtieth later) (2 ^ 27) (sixtieth_limit later k))
    (mul_mono now later (fin false 15 (pos 2)) (good_clear now g) (good_clear later k) tt l)))

pub fresh_seconds : SecondsSeen 0 (of_bits binary64 0)
unfolding of_bits div to_unsigned
fresh_seconds = refl

pub fresh_syncs : SyncsSeen 0 (of_bits binary64 0)
unfolding of_bits mul to_unsigned
fresh_syncs = refl
