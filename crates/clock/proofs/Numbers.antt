-- The refusals by their numbers, each given exactly when its rule says; and the one outcome of a command.
use Rattle.std.proofs.Common.{◌≡◌, ℕ, Bool, true, false, cond, not, ◌&&◌, List, get_or, refl, ap}
use lib.Ieee.{Float, binary64, of_bits, lt}
use Rattle.whole.specs.Limits.{good_time, good_turbo}
use Rattle.whole.specs.Words.{lacks}
use Rattle.whole.proofs.Unique.{unique}
use Rattle.clock.specs.declared.Times.{Times}
use Rattle.std.specs.Prelude.{Ok, Err}
use Rattle.map.specs.declared.refusals.Refusal.TheVariants.{BadTime}
use Rattle.map.specs.declared.refusals.Refusal.TheVariants.{BadTurbo}
use Rattle.std.specs.Prelude.{Some, None}
use Rattle.clock.specs.declared.Latch.{Latch}
use Rattle.clock.specs.declared.Rtc.{Rtc}
use Rattle.clock.specs.Times.{game_after, moved_of, paced_of, moved_refusal, paced_refusal}
use Rattle.clock.specs.Rtc.{rtc_of, six_bytes, alarm_of, alarm_values}

-- refusal 1 of an advance: a time that is not good, one that goes back, game time above 2,147,483,648.0
pub moved_number : (s : Times) (to : Float)
    → moved_refusal (moved_of s to) ≡ cond (good_time to && not (lt to s.now) && not
    (lt (of_bits binary64 0x41E0_0000_0000_0000) (game_after s to))) 0 1
unfolding moved_of
moved_number s to = by (good_time to) (lt to s.now) (lt (of_bits binary64 0x41E0_0000_0000_0000) (game_after s to))
  where
    by : (a b c : Bool)
        → moved_refusal (cond a (cond b (Err BadTime) (cond c (Err BadTime) (Ok (record {
          now =
              to;
          game = game_after s to;
          turbo = s.turbo;
        })))) (Err BadTime)) ≡ cond (a && not b && not c) 0 1
    by false b c = refl
    by true true c = refl
    by true false true = refl
    by true false false = refl

pub paced_number : (s : Times) (to : Float) → paced_refusal (paced_of s to) ≡ cond (good_turbo to) 0 2
unfolding paced_of
paced_number s to = by (good_turbo to)
  where
    by : (b : Bool) → paced_refusal (cond b (Ok (record { now = s.now; game = s.game; turbo = to })) (Err BadTurbo))
        ≡ cond
        b 0 2
    by true = refl
    by false = refl

pub alarm_values_lem : (regs : List ℕ) → alarm_values (alarm_of regs) ≡ cond (lacks (get_or regs 0x40 0) 6) (0, 0)
    (1, six_bytes regs 0x20)
unfolding alarm_of
alarm_values_lem regs = by (lacks (get_or regs 0x40 0) 6)
  where
    by : (b : Bool) → alarm_values (cond b None (Some (six_bytes regs 0x20))) ≡ cond b (0, 0) (1, six_bytes regs 0x20)
    by true = refl
    by false = refl

-- of each command there is one later latch and one later list of registers
pub one_command : (d : Rtc) (r s : Latch) (m n : List ℕ) → rtc_of m r ≡ d → rtc_of n s ≡ d → (r ≡ s) × (m ≡ n)
one_command d r s m n h k =
    let e : rtc_of m r ≡ rtc_of n s = unique h k in
    (ap (λ (x : Rtc). x.latch) e, ap (λ (x : Rtc). x.regs) e)
