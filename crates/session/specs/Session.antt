-- A session: the bytes of a machine, and the machine of bytes; what saving and resuming answer and leave.
use Rattle.std.specs.Prelude.{ℕ, ◌+◌, ◌≡◌, ◌≢◌, cond, List, ◌++◌, ltb, Float, length, set}
use Rattle.std.proofs.lemmas.List.Edits.{sets}
use Rattle.map.specs.Numbers.{DONE, BAD_MEMORY, BAD_SAVE, SAVE_TOO_SHORT, RAM_SIZE, SRAM_SIZE, GPIO_SIZE}
use Rattle.map.specs.Numbers.{FRAMEBUFFER_SIZE}
use Rattle.keys.specs.Script.{places_of, waiting_in}
use Rattle.timer.specs.Straight.{held_of}
use Rattle.state.specs.declared.Parts.{Parts}
use Rattle.state.specs.Bank.{parts_in}
use Rattle.state.specs.Packed.{cells_of, floats_of, Packed}
use Rattle.state.specs.Parts.{parts, clocks_put}
use Rattle.time.specs.Clocks.{clock_in}
use Rattle.time.specs.Resync.{clocks_resynced}
use Rattle.runner.specs.Script.{bad_memory}
use Rattle.system.specs.System.{Machine, Left, left}
use Rattle.system.specs.Bank.{machine_of}
use Rattle.session.specs.Fields.{part}
use Rattle.session.specs.Layout.{others_at, clocks_at, flash_at, presses_at, events_at, ram_at, sram_at, gpio_at, fb_at}
use Rattle.session.specs.Layout.{size_of}
use Rattle.session.specs.Sections.{used_of, timers_section, words_section, devices_sections, presses_section}
use Rattle.session.specs.Sections.{events_section, memory_sections}
use Rattle.session.specs.Read.{cells_in, floats_in, slots_in, places_in, starts_in, codes_in, column_in}
use Rattle.session.specs.Good.{good_session, others_in, presses_in, events_in}

-- ---- how many: other words, presses that wait, sound events

abbrev pub others_of : Machine → ℕ
others_of m = used_of m.system.registers.values

abbrev pub presses_of : Machine → ℕ
presses_of m =
    waiting_in m.system.presses.starts m.system.devices.clocks.times.now (places_of m.system.keys.count)

abbrev pub events_of : Machine → ℕ
events_of m = held_of m.system.queue.ring

abbrev pub saved_size : Machine → ℕ
saved_size m = size_of (others_of m) (presses_of m) (events_of m)

-- ---- the bytes of a machine

abbrev pub parts_of : Machine → Parts
parts_of m = parts m.system.devices m.system.queue.ring m.system.keys

unfoldable pub table_sections : Machine → List ℕ
table_sections m =
    presses_section m.system.presses.starts m.system.presses.codes m.system.devices.clocks.times.now
    (places_of m.system.keys.count) (presses_of m)
    ++ events_section m.system.queue (events_of m)

unfoldable pub bytes_in : Machine → List ℕ
bytes_in m =
    let l = cells_of (parts_of m) in
    let f = floats_of (parts_of m) in
    let r = m.system.registers in
    timers_section l f
    ++ (words_section r.slots r.addresses r.values (others_of m)
    ++ (devices_sections l f m.system.rtc m.system.page
    ++ (table_sections m ++ memory_sections m.ram m.sram m.gpio m.fb)))

-- ---- saving: 01's number, how many bytes, and the later output

pub record Saved : Type 0 where
  pub refusal : ℕ
  pub written : ℕ
  pub out : List ℕ

abbrev pub saved : ℕ → ℕ → List ℕ → Saved
saved n w out = record { refusal = n; written = w; out = out }

unfoldable pub save_of : Machine → List ℕ → Saved
save_of m out =
    cond (bad_memory m.ram m.sram m.gpio m.fb) (saved BAD_MEMORY 0 out)
    (cond (ltb (length out) (saved_size m)) (saved SAVE_TOO_SHORT 0 out)
    (saved DONE (saved_size m) (sets out 0 (bytes_in m))))

-- ---- the machine of bytes

-- the bank's words, with the ring and the number of presses
unfoldable pub bank_in : List ℕ → List ℕ
bank_in s = set (set (cells_in s (others_in s)) 45 (events_in s)) 46 (presses_in s)

-- as saved, but for the timers' period counts, which are 0
unfoldable pub parts_read : List ℕ → Parts
parts_read s = parts_in (bank_in s) (floats_in s (others_in s))

-- with the counts recomputed
unfoldable pub parts_back : List ℕ → List ℕ → Parts
parts_back s sram = clocks_put (parts_read s) (clocks_resynced (slots_in s) (parts_read s).devices.clocks
    (clock_in sram))

unfoldable pub machine_in : List ℕ → Machine
machine_in s =
    let n = others_in s in
    let k = presses_in s in
    let e = events_in s in
    let sram = part s (sram_at n k e + 4) SRAM_SIZE in
    machine_of (slots_in s) (places_in s others_at n) (places_in s (others_at + 4) n) (part s (clocks_at n + 76) 256)
    (part s (flash_at n + 24) 256) (column_in s (events_at n k + 4) e) (column_in s (events_at n k + 4 + 8) e)
    (column_in s (events_at n k + 4 + 16) e) (starts_in s (presses_at n + 4) k) (codes_in s (presses_at n + 4) k)
    (parts_back s sram)
    (part s (ram_at n k e + 4) RAM_SIZE) sram (part s (gpio_at n k e + 4) GPIO_SIZE)
    (part s (fb_at n k e + 4) FRAMEBUFFER_SIZE)

-- ---- resuming: 01's number, and the later machine

unfoldable pub resume_of : Machine → List ℕ → Left
resume_of m s =
    cond (bad_memory m.ram m.sram m.gpio m.fb) (left m BAD_MEMORY)
    (cond (good_session s) (left (machine_in s) DONE) (left m BAD_SAVE))

-- what a resume leaves of the bank's words: packed ones, or all as they were where it is refused
pub record Words (n : ℕ) (l : List ℕ) (f : List Float) (l' : List ℕ) (f' : List Float) : Type 0 where
  pub packed : n ≡ DONE → Packed l' f'
  pub still : n ≢ DONE → (l' ≡ l) × (f' ≡ f)
