-- Time and game time stay within the limits, and do not go back.
use Rattle.std.proofs.Common.{◌≡◌, ℕ, ◌^◌, Bool, true, false, cond, T, sym, refl, subst, arith, lit<, lit≤}
use lib.Ieee.{Float, binary64, of_bits, fits, sub, mul, lt, le}
use lib.Ieee.Fits.{add-fits}
use Rattle.whole.specs.Bounds.{AtMost}
use Rattle.whole.specs.Limits.{good_time, good_turbo}
use Rattle.whole.proofs.Clear.{at_most_clear}
use Rattle.whole.proofs.Round.{mul_at_most, add_at_most, sub_at_most, good_at_most, turbo_at_most}
use Rattle.whole.proofs.Order.{good_clear, grows, le_trans_clear, le_refl_clear, le_of_not_lt, at_most_of_not_lt}
use Rattle.whole.proofs.Order.{zero_least}
use Rattle.clock.specs.declared.Times.{Times}
use Rattle.std.specs.Prelude.{Ok, Err}
use Rattle.map.specs.declared.refusals.Refusal.TheVariants.{BadTime}
use Rattle.map.specs.declared.refusals.Refusal.TheVariants.{BadTurbo}
use Rattle.clock.specs.Times.{fresh_times, game_after, moved_of, paced_of}
use Rattle.clock.specs.Within.{Within, Later, Past}

-- ---- time
-- (to - now) * turbo is at most 2 ^ 31, and the sum with game time at most 2 ^ 32
module _ (s : Times) (to : Float) (v : Within s) (g : T (good_time to)) (l : lt to s.now ≡ false) where
  now_le : T (le s.now to)
  now_le = le_of_not_lt s.now to (good_clear s.now v.now_good) (good_clear to g) l

  abbrev passed : Float
  passed = mul binary64 (sub binary64 to s.now) s.turbo

  passed_limit : AtMost passed (2 ^ 31)
  passed_limit =
      mul_at_most (sub binary64 to s.now) s.turbo 21 10 (lit< tt)
      (sub_at_most to s.now (2 ^ 21) 21 (lit< tt) (good_at_most to g) (good_at_most s.now v.now_good) now_le)
      (turbo_at_most s.turbo v.turbo_good)

  sum_limit : AtMost (game_after s to) (2 ^ 32)
  sum_limit = add_at_most s.game passed 31 (lit< tt) v.game_limit passed_limit

  goes_on : lt (of_bits binary64 0x41E0_0000_0000_0000) (game_after s to) ≡ false
      → Within (record { now = to; game = game_after s to; turbo = s.turbo }) × Later s
      (record { now = to; game = game_after s to; turbo = s.turbo })
  unfolding of_bits
  goes_on h = (
    record {
      now_good = g;
      turbo_good = v.turbo_good;
      game_limit = at_most_of_not_lt (game_after s to) (2 ^ 31) 31 refl (at_most_clear (game_after s to) (2 ^ 32)
          sum_limit) h;
      game_fits = add-fits binary64 s.game passed;
    },
    record {
      now_later = now_le;
      game_later = grows s.game passed (2 ^ 32) v.game_fits (at_most_clear s.game (2 ^ 31) v.game_limit)
          (at_most_clear passed (2 ^ 31) passed_limit) sum_limit;
    },
  )

-- AN ADVANCE KEEPS THE LIMITS, and neither time goes back
pub moves_within : (s t : Times) (to : Float) → Within s → moved_of s to ≡ Ok t → Within t × Later s t
unfolding moved_of
moves_within s t to v e = by (good_time to) refl (lt to s.now) refl (lt (of_bits binary64 0x41E0_0000_0000_0000)
    (game_after s to)) refl e
  where
    never : (t : Times) → (Err BadTime) ≡ Ok t → ⊥
    never t e = let z : ◌≡◌ {A = ℕ} 0 1 = cc in omega arith

    by : (a : Bool) → good_time to ≡ a → (b : Bool) → lt to s.now ≡ b → (c : Bool)
        → lt (of_bits binary64 0x41E0_0000_0000_0000) (game_after s to) ≡ c
        → cond a (cond b (Err BadTime) (cond c (Err BadTime) (Ok
        (record { now = to; game = game_after s to; turbo = s.turbo }))))
        (Err BadTime) ≡ Ok t → Within t × Later s t
    by true p false q false r e =
        let same : record { now = to; game = game_after s to; turbo = s.turbo } ≡ t = cc in
        subst (λ (u : Times). Within u × Later s u) same (goes_on s to v (subst T (sym p) tt) q r)
    by false p b q c r e = absurd (never t e)
    by true p true q c r e = absurd (never t e)
    by true p false q true r e = absurd (never t e)

-- another turbo keeps them too
pub paces_within : (s t : Times) (to : Float) → Within s → paced_of s to ≡ Ok t
    → Within t × (t.now ≡ s.now) × (t.game ≡ s.game)
unfolding paced_of
paces_within s t to v e = by (good_turbo to) refl e
  where
    never : (t : Times) → (Err BadTurbo) ≡ Ok t → ⊥
    never t e = let z : ◌≡◌ {A = ℕ} 0 1 = cc in omega arith

    by : (a : Bool) → good_turbo to ≡ a
        → cond a (Ok (record { now = s.now; game = s.game; turbo = to })) (Err BadTurbo) ≡
        Ok t
        → Within t × (t.now ≡ s.now) × (t.game ≡ s.game)
    by true p e =
        let same : record { now = s.now; game = s.game; turbo = to } ≡ t = cc in
        subst (λ (u : Times). Within u × (u.now ≡ s.now) × (u.game ≡ s.game)) same (
          record {
            now_good = v.now_good;
            turbo_good = subst T (sym p) tt;
            game_limit = v.game_limit;
            game_fits =
                v.game_fits;
          },
          refl,
          refl,
        )
    by false p e = absurd (never t e)

pub fresh_within : Within fresh_times
unfolding of_bits fits
fresh_within = record { now_good = tt; turbo_good = tt; game_limit = lit≤ tt; game_fits = tt }

-- what has been stays so
pub past_later : (then game later : Float) → AtMost game (2 ^ 31) → AtMost later (2 ^ 31) → T (le game later)
    → Past then game → Past then later
past_later then game later g k l p = record {
  limit = p.limit;
  before =
      le_trans_clear then game later (at_most_clear then (2 ^ 31) p.limit) (at_most_clear game (2 ^ 31) g)
      (at_most_clear later (2 ^ 31) k)
      p.before l;
}

pub past_now : (game : Float) → AtMost game (2 ^ 31) → Past game game
past_now game g = record { limit = g; before = le_refl_clear game (at_most_clear game (2 ^ 31) g) }

pub past_start : (game : Float) → AtMost game (2 ^ 31) → Past (of_bits binary64 0) game
unfolding of_bits
past_start game g = record { limit = lit≤ tt; before = zero_least game (at_most_clear game (2 ^ 31) g) }
