-- Within the limits the time of day is exact and never negative; and the clock stays within them, and does not go back.
use Rattle.std.proofs.Common.{◌≡◌, ℕ, ◌+◌, ◌*◌, ◌/◌, ◌%◌, ◌^◌, ◌<◌, ◌≤◌, cond, T, eqb, ltb, pos, sym, subst}
use Rattle.std.proofs.Common.{arith, lit<}
use lib.Ieee.{Float, binary64, of_int, fits, add, sub, le, to_unsigned}
use Rattle.whole.specs.Bounds.{Clear, AtMost, WholePart}
use Rattle.whole.proofs.Clear.{at_most_clear}
use Rattle.whole.proofs.Cuts.{whole_part, signed_same}
use Rattle.whole.proofs.Round.{of_int_at_most, add_at_most, sub_at_most}
use Rattle.whole.proofs.Order.{grows, add_turns, le_trans_clear, le_refl_clear}
use Rattle.whole.proofs.Mono.{add_mono, sub_mono, cut_mono}
use Rattle.clock.specs.declared.RtcIrq.{RtcIrq}
use Rattle.clock.specs.Day.{tod_of, composed, set_of, fresh_irq}
use Rattle.clock.specs.Within.{DaySet}
use Rattle.clock.proofs.TimeLimits.{past_later, past_now, past_start}

-- (base as f64 + game - set)
abbrev seconds : RtcIrq → Float → Float
seconds irq game = sub binary64 (add binary64 (of_int binary64 (pos irq.base)) game) irq.set

module _ (irq : RtcIrq) (game : Float) (d : DaySet irq game) (g : AtMost game (2 ^ 31))
    (f : T (fits binary64 game)) where
  abbrev sum : Float
  sum = add binary64 (of_int binary64 (pos irq.base)) game

  base_limit : AtMost (of_int binary64 (pos irq.base)) (2 ^ 31)
  base_limit = of_int_at_most 31 irq.base (lit< tt) (small d.base)
    where
      small : {b : ℕ} → b < 86400 → b ≤ 2 ^ 31
      small h = omega arith

  sum_limit : AtMost sum (2 ^ 32)
  sum_limit = add_at_most (of_int binary64 (pos irq.base)) game 31 (lit< tt) base_limit g

  game_clear : Clear game
  game_clear = at_most_clear game (2 ^ 31) g

  base_clear : Clear (of_int binary64 (pos irq.base))
  base_clear = at_most_clear (of_int binary64 (pos irq.base)) (2 ^ 31) base_limit

  sum_turns : add binary64 game (of_int binary64 (pos irq.base)) ≡ sum
  sum_turns = add_turns game (of_int binary64 (pos irq.base)) game_clear base_clear

  game_before : T (le game sum)
  game_before =
      subst (λ (z : Float). T (le game z)) sum_turns
      (grows game (of_int binary64 (pos irq.base)) (2 ^ 32) f game_clear base_clear
      (subst (λ (z : Float). AtMost z (2 ^ 32)) (sym sum_turns) sum_limit))

  set_before : T (le irq.set sum)
  set_before =
      le_trans_clear irq.set game sum (at_most_clear irq.set (2 ^ 31) d.set.limit) game_clear
      (at_most_clear sum (2 ^ 32) sum_limit)
      d.set.before game_before

  pub seconds_limit : AtMost (seconds irq game) (2 ^ 32)
  seconds_limit = sub_at_most sum irq.set (2 ^ 31) 32 (lit< tt) sum_limit d.set.limit set_before

  -- THE CUT IS EXACT, and no second is negative
  pub seconds_exact : WholePart (seconds irq game) (to_unsigned 64 (seconds irq game))
  seconds_exact = whole_part (seconds irq game) (2 ^ 32) (lit< tt) seconds_limit

  pub tod_exact : tod_of irq game ≡ to_unsigned 64 (seconds irq game) % 86400
  unfolding tod_of
  tod_exact = rw (signed_same (seconds irq game) 32 (lit< tt) seconds_limit)

pub later_day : (irq : RtcIrq) (game later : Float) → AtMost game (2 ^ 31) → AtMost later (2 ^ 31) → T (le game later)
    → DaySet irq game → DaySet irq later
later_day irq game later g k l d = record { base = d.base; set = past_later irq.set game later g k l d.set }

pub seconds_go_on : (irq : RtcIrq) (game later : Float) → DaySet irq game → AtMost game (2 ^ 31)
    → T (fits binary64 game) → AtMost later (2 ^ 31)
    → T (fits binary64 later) → T (le game later)
    → to_unsigned 64 (seconds irq game) ≤ to_unsigned 64 (seconds irq later)
seconds_go_on irq game later d g f k e l =
    let u : DaySet irq later = later_day irq game later g k l d in
    let b = of_int binary64 (pos irq.base) in
    let x = add binary64 b game in
    let y = add binary64 b later in
    let c = at_most_clear b (2 ^ 31) (base_limit irq game d g f) in
    cut_mono (seconds irq game) (seconds irq later) (at_most_clear (seconds irq game) (2 ^ 32)
    (seconds_limit irq game d g f))
    (at_most_clear (seconds irq later) (2 ^ 32) (seconds_limit irq later u k e))
    (sub_mono x y irq.set (at_most_clear x (2 ^ 32) (sum_limit irq game d g f))
    (at_most_clear y (2 ^ 32) (sum_limit irq later u k e))
    (at_most_clear irq.set (2 ^ 31) d.set.limit)
    (add_mono b b game later c c (at_most_clear game (2 ^ 31) g) (at_most_clear later (2 ^ 31) k) (le_refl_clear b c) l)
    (set_before irq game d g f) (set_before irq later u k e))

pub sets_day : (irq : RtcIrq) (game : Float) (field value : ℕ) → AtMost game (2 ^ 31)
    → DaySet (set_of irq game field value) game
unfolding set_of
sets_day irq game field value g = record { base = within (tod_of irq game) field value; set = past_now game g }
  where
    parts : (h m s : ℕ) → h % 24 * 3600 + m % 60 * 60 + s % 60 < 86400
    parts h m s = omega arith

    within : (t field value : ℕ) → composed t field value < 86400
    within t field value = parts (cond (ltb 1 field) value (t / 3600)) (cond (eqb field 1) value (t / 60 % 60))
        (cond (eqb field 0) value (t % 60))

pub fresh_day : (game : Float) → AtMost game (2 ^ 31) → DaySet fresh_irq game
fresh_day game g = record { base = lit< tt; set = past_start game g }
