-- What holds of the keys within the limits, kept by every operation; and what a press must leave.
use Rattle.std.specs.Prelude.{ℕ, ◌≤◌, ◌<◌, ◌≡◌, Bool, true, cond, T, eqb, length, get_or, Float}
use Rattle.std.specs.Int.Bits.{bit_and}
use Rattle.std.specs.Float.{nan}
use Rattle.whole.specs.Limits.{good_time}
use Rattle.keys.specs.declared.Held.{Held}
use Rattle.keys.specs.declared.Keys.{Keys}
use Rattle.keys.specs.Keys.{Buttons, buttons}
use Rattle.keys.specs.Script.{places_of, waits, Script, script}

-- ---- the limits

-- the key of a press is A, B or C, and its time a good one
pub record Press (t : Float) (code : ℕ) : Type 0 where
  pub time : T (good_time t)
  pub key : code ≤ 2

pub record Within (b : Buttons) : Type 0 where
  pub starts : length b.starts ≡ 64
  pub codes : length b.codes ≡ 64
  pub count : b.keys.count ≤ 64
  pub presses : (i : ℕ) → i < places_of b.keys.count → Press (get_or b.starts i nan) (get_or b.codes i 0)
  pub hold_a : T (good_time b.keys.holds.a)
  pub hold_b : T (good_time b.keys.holds.b)
  pub hold_c : T (good_time b.keys.holds.c)
  -- no line but bits 5, 6 and 7
  pub applied : bit_and b.keys.applied 0xE0 ≡ b.keys.applied

-- ---- the state after an operation on a part of it

abbrev pub script_of : Buttons → Script
script_of b = script b.starts b.codes b.keys.count

abbrev pub with_count : Keys → ℕ → Keys
with_count k count = record { count = count; live = k.live; holds = k.holds; applied = k.applied }

abbrev pub with_applied : Keys → ℕ → Keys
with_applied k applied = record { count = k.count; live = k.live; holds = k.holds; applied = applied }

abbrev pub with_script : Buttons → Script → Buttons
with_script b s = buttons s.starts s.codes (with_count b.keys s.count)

abbrev pub with_keys : Buttons → Keys → Buttons
with_keys b k = buttons b.starts b.codes k

-- ---- a press

-- whether a key of the three is down
abbrev pub is_down : Held → ℕ → Bool
is_down h key = cond (eqb key 0) h.a (cond (eqb key 1) h.b h.c)

-- a press that waits stands where it stood
pub record Stands (old new : Script) (i : ℕ) : Type 0 where
  pub place : i < places_of new.count
  pub time : get_or new.starts i nan ≡ get_or old.starts i nan
  pub code : get_or new.codes i 0 ≡ get_or old.codes i 0

abbrev pub NoneLost : Script → Script → Float → Type 0
NoneLost old new now = (i : ℕ) → i < places_of old.count → waits (get_or old.starts i nan) now ≡ true
    → Stands old new i
