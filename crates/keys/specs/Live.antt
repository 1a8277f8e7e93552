-- Live keys and taps, and which keys are down.
use Rattle.std.specs.Prelude.{ℕ, zero, suc, Bool, cond, ◌&&◌, ◌||◌, List, leb, eqb, get_or, Float, Result, Ok, Err}
use Rattle.std.specs.Float.{nan}
use Rattle.std.specs.Float.Ieee.{lt, le}
use Rattle.map.specs.Numbers.{BAD_KEY, BAD_TIME, DONE}
use Rattle.map.specs.declared.refusals.Refusal.{Refusal}
use Rattle.map.specs.declared.refusals.Refusal.TheVariants.{BadTime, BadKey}
use Rattle.map.specs.Refusals.{code_of}
use Rattle.whole.specs.Limits.{good_time}
use Rattle.keys.specs.declared.Held.{Held}
use Rattle.keys.specs.declared.Holds.{Holds}
use Rattle.keys.specs.declared.Keys.{Keys}
use Rattle.keys.specs.Script.{end_of, places_of}

pub record Outcome : Type 0 where
  pub refusal : ℕ
  pub keys : Keys

abbrev pub outcome : ℕ → Keys → Outcome
outcome n keys = record { refusal = n; keys = keys }

-- ---- one key of three

abbrev pub held_with : Held → ℕ → Bool → Held
held_with h key down = record {
  a = cond (eqb key 0) down h.a;
  b = cond (eqb key 1) down h.b;
  c = cond
      (eqb key 2) down h.c;
}

abbrev pub holds_with : Holds → ℕ → Float → Holds
holds_with h key until = record {
  a = cond (eqb key 0) until h.a;
  b = cond (eqb key 1) until h.b;
  c = cond
      (eqb key 2) until h.c;
}

abbrev pub with_live : Keys → Held → Keys
with_live k live = record { count = k.count; live = live; holds = k.holds; applied = k.applied }

abbrev pub with_holds : Keys → Holds → Keys
with_holds k holds = record { count = k.count; live = k.live; holds = holds; applied = k.applied }

-- key not 0, 1 or 2: nothing changes
unfoldable pub live_of : Keys → ℕ → Bool → Outcome
live_of k key down = cond (leb key 2) (outcome DONE (with_live k (held_with k.live key down))) (outcome BAD_KEY k)

-- and of a tap, a time that is not good
unfoldable pub hold_of : Keys → ℕ → Float → Outcome
hold_of k key until =
    cond (leb key 2) (cond (good_time until) (outcome DONE (with_holds k (holds_with k.holds key until)))
    (outcome BAD_TIME k)) (outcome BAD_KEY k)

-- ---- the same in two steps: what is decided before anything changes, the key first, and then what is put

unfoldable pub key_refusal : ℕ → Result Unit Refusal
key_refusal key = cond (leb key 2) (Ok tt) (Err BadKey)

unfoldable pub tap_of : ℕ → Float → Result Float Refusal
tap_of key until = cond (leb key 2) (cond (good_time until) (Ok until) (Err BadTime)) (Err BadKey)

abbrev pub tap_put : Keys → ℕ → Result Float Refusal → Outcome
tap_put k key (Ok until) = outcome DONE (with_holds k (holds_with k.holds key until))
tap_put k key (Err r) = outcome (code_of r) k

-- ---- keys_held

-- t <= now && now < t + KEY_HOLD
abbrev pub down_of : Float → Float → Bool
down_of t now = le t now && lt now (end_of t)

-- the live keys, and the taps that are still held
abbrev pub tapped : Held → Holds → Float → Held
tapped live holds now = record {
  a = live.a || lt now holds.a;
  b = live.b || lt now holds.b;
  c = live.c || lt
      now holds.c;
}

-- one press more
abbrev pub also : Held → Float → ℕ → Float → Held
also h t code now = record {
  a = h.a || (eqb code 0 && down_of t now);
  b = h.b || (eqb code 1 && down_of t now);
  c = h.c || (eqb code 2 && down_of t now);
}

-- the first n presses more
unfoldable pub held_from : List Float → List ℕ → Held → Float → ℕ → Held
held_from starts codes h now zero = h
held_from starts codes h now (suc n) = also (held_from starts codes h now n) (get_or starts n nan)
    (get_or codes n 0) now

unfoldable pub held_of : List Float → List ℕ → Keys → Float → Held
held_of starts codes k now = held_from starts codes (tapped k.live k.holds now) now (places_of k.count)
