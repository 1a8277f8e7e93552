-- 01's table of refusals, each a condition on what an operation is given and on the machine that it comes to; and
-- their order. How a step comes to its answer is not asked here.
use Rattle.std.specs.Prelude.{ℕ, Bool, true, false, cond, not, ◌&&◌, ◌||◌, List, [], ◌∷◌, eqb, leb, length, Float}
use Rattle.std.specs.Int.Bits.{bit_and}
use Rattle.std.specs.Float.{binary64}
use Rattle.std.specs.Float.Ieee.{of_bits, lt}
use Rattle.whole.specs.Limits.{good_time, good_turbo}
use Rattle.map.specs.Numbers.{SOUND_CONTROL, SOUND_RELOAD, SOUND_COMPARE, BAD_TIME, BAD_TURBO, KEYS_FULL}
use Rattle.map.specs.Numbers.{REGISTERS_FULL, SOUND_FULL, STRAY_WRITE, BAD_KEY, BAD_SIZE, NO_EVENT, NO_NEXT_TIME}
use Rattle.registers.specs.declared.Registers.{Registers}
use Rattle.registers.specs.Words.{unstored, own_at, word_at}
use Rattle.registers.specs.Ports.{slot_of}
use Rattle.registers.specs.Within.{non_zero}
use Rattle.memory.specs.declared.Place.{Place}
use Rattle.memory.specs.declared.Place.TheVariants.{Ram, Sram, Gpio, Register, Stray}
use Rattle.memory.specs.Places.{place_of}
use Rattle.memory.specs.Access.{good_size, merged_of}
use Rattle.timer.specs.declared.Queue.{Queue}
use Rattle.timer.specs.declared.Tone.{Tone}
use Rattle.timer.specs.Sound.{tone_of, differ_of}
use Rattle.timer.specs.Events.{waiting}
use Rattle.clock.specs.declared.Times.{Times}
use Rattle.clock.specs.Times.{game_after}
use Rattle.keys.specs.Script.{places_of, waiting_in}
use Rattle.time.specs.Next.{finite, event_of}
use Rattle.bus.specs.Write.{word_address}
use Rattle.time.specs.Clocks.{clock_in}
use Rattle.system.specs.declared.System.{System}
use Rattle.system.specs.System.{Machine}
use Rattle.system.specs.Steps.{Op, read, write, advance, next_event, pending, turbo, live, hold, press}
use Rattle.system.specs.Steps.{take_event, counters, pixel, wipe}
use Rattle.system.specs.Steps.{peek8, peek32, poke, keys_held, irq_wanted, carry_on}

-- ---- what an operation is given

-- 9: access size not 1, 2 or 4
abbrev pub bad_size : ℕ → Bool
bad_size n = not (good_size n)

-- 8: key not 0, 1 or 2
abbrev pub bad_key : ℕ → Bool
bad_key key = not (leb key 2)

-- 1: a time is not finite, has its sign bit set, or exceeds 2,097,152.0
abbrev pub bad_time : Float → Bool
bad_time t = not (good_time t)

-- or an advance goes back, or would take game time above 2,147,483,648.0
abbrev pub bad_advance : Times → Float → Bool
bad_advance s t = bad_time t || lt t s.now || lt (of_bits binary64 0x41E0_0000_0000_0000) (game_after s t)

-- 2: turbo outside 1/1024 to 1024, or not a number
abbrev pub bad_turbo : Float → Bool
bad_turbo t = not (good_turbo t)

-- ---- writes

abbrev pub is_stray : Place → Bool
is_stray (Ram o) = false
is_stray (Sram o) = false
is_stray (Gpio o) = false
is_stray Register = false
is_stray Stray = true

abbrev pub is_register : Place → Bool
is_register (Ram o) = false
is_register (Sram o) = false
is_register (Gpio o) = false
is_register Register = true
is_register Stray = false

-- 6: a write's first byte is stray
abbrev pub stray_write : ℕ → Bool
stray_write a = is_stray (place_of a)

-- the new value is not zero, the word holds zero, it has no storage of its own (and is not one that is never stored),
-- and 256 others are non-zero
unfoldable pub no_room : Registers → ℕ → ℕ → Bool
no_room r word new =
    not (eqb new 0) && eqb (word_at r word) 0 && eqb (slot_of word) 76 && not (unstored word) && eqb
    (non_zero r.values) 256

-- the word that a write would make of the one that it reaches
abbrev pub new_word : Registers → ℕ → ℕ → ℕ → ℕ
new_word r a n v = merged_of (word_at r (word_address a)) a n v

-- 4
abbrev pub registers_full : Registers → ℕ → ℕ → ℕ → Bool
registers_full r a n v = is_register (place_of a) && no_room r (word_address a) (new_word r a n v)

-- control, reload and compare of timer 4, which the sound follows
abbrev pub sound_word : ℕ → Bool
sound_word word = eqb word SOUND_CONTROL || eqb word SOUND_RELOAD || eqb word SOUND_COMPARE

-- what is stored of it: of a control word all but bit 15
abbrev pub stored_of : ℕ → ℕ → ℕ
stored_of word new = cond (eqb word SOUND_CONTROL) (bit_and new 0xFFFF7FFF) new

-- what word w then holds
abbrev pub then_at : List ℕ → ℕ → ℕ → ℕ → ℕ
then_at slots word new w = cond (eqb word w) (stored_of word new) (own_at slots w)

abbrev pub tone_then : List ℕ → ℕ → ℕ → ℕ → Tone
tone_then slots clock word new = tone_of clock (then_at slots word new SOUND_CONTROL)
    (then_at slots word new SOUND_RELOAD)
    (then_at slots word new SOUND_COMPARE)

-- a write adds an event where the tone that timer 4's words then give is another
unfoldable pub adds_event : List ℕ → Tone → ℕ → ℕ → ℕ → Bool
adds_event slots tone clock word new = sound_word word && differ_of (tone_then slots clock word new) tone

-- 5: a write would add an event while 256 wait
abbrev pub sound_full : System → List ℕ → ℕ → ℕ → ℕ → Bool
sound_full s sram a n v =
    is_register (place_of a) && adds_event s.registers.slots s.devices.tone (clock_in sram) (word_address a)
    (new_word s.registers a n v)
    && eqb (length (waiting s.queue)) 256

-- ---- keys, events

-- 3: 64 presses have time + 0.15 > now
abbrev pub keys_full : System → Bool
keys_full s = eqb (waiting_in s.presses.starts s.devices.clocks.times.now (places_of s.keys.count)) 64

-- 12: no sound event waits
abbrev pub no_event : Queue → Bool
no_event q = eqb (length (waiting q)) 0

-- 13: the next event time is not finite
abbrev pub no_next_time : System → List ℕ → Bool
no_next_time s sram = not (finite (event_of s.registers.slots s.presses.starts s.devices.clocks s.keys
    (clock_in sram)))

-- ---- which refusals an operation can be given, and the order

pub record Reason : Type 0 where
  pub number : ℕ
  pub holds : Bool

abbrev pub reason : ℕ → Bool → Reason
reason n b = record { number = n; holds = b }

abbrev pub reasons_of : Machine → Op → List Reason
reasons_of m (read a n) = reason BAD_SIZE (bad_size n) ∷ []
reasons_of m (write a n v) =
    reason BAD_SIZE (bad_size n)
    ∷ reason STRAY_WRITE (stray_write a)
    ∷ reason REGISTERS_FULL (registers_full m.system.registers a n v)
    ∷ reason SOUND_FULL (sound_full m.system m.sram a n v)
    ∷ []
reasons_of m (advance t) = reason BAD_TIME (bad_advance m.system.devices.clocks.times t) ∷ []
reasons_of m next_event = reason NO_NEXT_TIME (no_next_time m.system m.sram) ∷ []
reasons_of m pending = []
reasons_of m (turbo t) = reason BAD_TURBO (bad_turbo t) ∷ []
reasons_of m (live k down) = reason BAD_KEY (bad_key k) ∷ []
reasons_of m (hold k t) = reason BAD_KEY (bad_key k) ∷ reason BAD_TIME (bad_time t) ∷ []
reasons_of m (press k t) =
    reason BAD_KEY (bad_key k)
    ∷ reason BAD_TIME (bad_time t)
    ∷ reason KEYS_FULL (keys_full m.system)
    ∷ []
reasons_of m take_event = reason NO_EVENT (no_event m.system.queue) ∷ []
reasons_of m counters = []
reasons_of m (pixel k) = []
reasons_of m wipe = []
reasons_of m (peek8 a) = []
reasons_of m (peek32 a) = []
reasons_of m (poke a bytes) = []
reasons_of m keys_held = []
reasons_of m irq_wanted = []
reasons_of m carry_on = []

-- Order: 9, 8, 1, 2, 6, 4, 5, 3; the last two come alone
unfoldable pub order : List ℕ
order =
    BAD_SIZE
    ∷ BAD_KEY
    ∷ BAD_TIME
    ∷ BAD_TURBO
    ∷ STRAY_WRITE
    ∷ REGISTERS_FULL
    ∷ SOUND_FULL
    ∷ KEYS_FULL
    ∷ NO_EVENT
    ∷ NO_NEXT_TIME
    ∷ []

-- whether the reason of a number is there and holds
unfoldable pub given : List Reason → ℕ → Bool
given [] n = false
given (r ∷ rs) n = cond (eqb r.number n) r.holds (given rs n)

-- the first number of a list that is given, or 0
unfoldable pub first_of : List ℕ → List Reason → ℕ
first_of [] rs = 0
first_of (n ∷ ns) rs = cond (given rs n) n (first_of ns rs)

unfoldable pub refusal_of : Machine → Op → ℕ
refusal_of m o = first_of order (reasons_of m o)
