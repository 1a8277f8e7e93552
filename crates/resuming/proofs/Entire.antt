-- Resuming as a whole, from what the functions that it calls answer.
use Prim.Native.Nat.{ℕ, ◌+◌, ◌*◌}
use mathlib.Core.Path.{◌≡◌, refl, ◌∙◌}
use mathlib.Core.Logic.{◌≢◌}
use mathlib.Core.Bool.{true, false}
use mathlib.Core.List.{List}
use lib.Ieee.{Float}
use lib.ListN.{set}
use Rattle.map.specs.Numbers.{DONE, BAD_MEMORY, BAD_SAVE}
use Rattle.state.specs.declared.Parts.{Parts}
use Rattle.state.specs.Bank.{clocks_in, parts_in}
use Rattle.state.specs.Packed.{Packed, StaysPacked}
use Rattle.state.specs.Parts.{clocks_put}
use Rattle.time.specs.Clocks.{clock_in}
use Rattle.time.specs.Resync.{clocks_resynced}
use Rattle.runner.specs.Script.{bad_memory}
use Rattle.system.specs.System.{Machine, left}
use Rattle.system.specs.Bank.{machine_of}
use Rattle.session.specs.Fields.{part}
use Rattle.session.specs.Layout.{flags_at, clocks_at, flash_at, ram_at}
use Rattle.session.specs.Read.{cells_in, floats_in, slots_in, places_in, starts_in, codes_in, column_in}
use Rattle.session.specs.Good.{others_in, good_session}
use Rattle.session.specs.Session.{bank_in, parts_read, parts_back, machine_in, resume_of, Words}
use Rattle.session.proofs.Packed.{good_packed}
use Rattle.resuming.specs.Inner.{Shape, TablesRead, MemoriesRead}

module _ (m : Machine) (s : List ℕ) where
  pub resume_bad : bad_memory m.ram m.sram m.gpio m.fb ≡ true → left m BAD_MEMORY ≡ resume_of m s
  unfolding resume_of
  resume_bad h = rw h

  module _ (unit : bad_memory m.ram m.sram m.gpio m.fb ≡ false) where
    pub resume_refused : good_session s ≡ false → left m BAD_SAVE ≡ resume_of m s
    unfolding resume_of
    resume_refused h = rw (unit, h)

    pub resume_done : good_session s ≡ true → {later : Machine} → later ≡ machine_in s → left later DONE ≡ resume_of m s
    unfolding resume_of
    resume_done h e = rw (unit, h, e)

pub words_still : (n : ℕ) (l : List ℕ) (f : List Float) → n ≢ DONE → Words n l f l f
words_still n l f h = record { packed = λ e. absurd (h e); still = λ e. (refl, refl) }

pub words_read : (l : List ℕ) (f : List Float) {l' : List ℕ} {f' : List Float} → Packed l' f' → Words DONE l f l' f'
words_read l f h = record { packed = λ e. h; still = λ e. absurd (e refl) }

-- parts of what is read, by where the flags begin
pub pages_are : (s : List ℕ) (n : ℕ) {p a b : ℕ} {rtc page : List ℕ} → p ≡ flags_at n → a ≡ 256 → b ≡ 256
    → rtc ≡ part s (p + 55 + 76) a → page ≡ part s (p + 407 + 24) b
    → (rtc ≡ part s (clocks_at n + 76) 256) × (page ≡ part s (flash_at n + 24) 256)
pages_are s n flags first second rtc page = (rtc ∙ rw (flags, first), page ∙ rw (flags, second))

pub tables_are : (s : List ℕ) {n k e p : ℕ} {onsets frequencies duties starts : List Float} {codes : List ℕ}
    → p ≡ flags_at n
    → (onsets ≡ column_in s (p + 719 + 4 + 9 * k + 4) e)
    × ((frequencies ≡ column_in s (p + 719 + 4 + 9 * k + 4 + 8) e) × (duties ≡ column_in s (p + 719 + 4 + 9 * k + 4 +
    16) e))
    → (starts ≡ starts_in s (p + 719 + 4) k) × (codes ≡ codes_in s (p + 719 + 4) k)
    → TablesRead s n k e onsets frequencies duties starts codes
tables_are s flags events presses =
    record {
      onsets_are = events.0 ∙ rw flags;
      frequencies_are = events.1.0 ∙ rw flags;
      duties_are = events.1.1 ∙ rw flags;
      starts_are = presses.0 ∙ rw flags;
      codes_are = presses.1 ∙ rw flags;
    }

-- what is read is what the bytes say, of a session of this shape
module _ (s : List ℕ) {n k e : ℕ} (shape : Shape s n k e) where
  pub read_is : {slots addresses values rtc page codes bank cells ram sram gpio fb : List ℕ}
      {onsets frequencies duties starts floats : List Float} {at : ℕ} {x : Parts}
      → slots ≡ slots_in s → (addresses ≡ places_in s 366 n) × (values ≡ places_in s 370 n)
      → (rtc ≡ part s (clocks_at n + 76) 256) × (page ≡ part s (flash_at n + 24) 256)
      → TablesRead s n k e onsets frequencies duties starts codes
      → (bank ≡ cells_in s n) × (floats ≡ floats_in s n) → cells ≡ set (set bank 45 e) 46 k
      → at ≡ ram_at n k e
      → MemoriesRead s at ram sram gpio fb
      → x ≡ clocks_put (parts_in cells floats) (clocks_resynced slots (clocks_in cells floats) (clock_in sram))
      → machine_of slots addresses values rtc page onsets frequencies duties starts codes x ram sram gpio fb ≡
      machine_in s
  unfolding machine_in parts_back parts_read bank_in
  read_is own others pages tables bank counts at memories x =
      rw (
        x,
        own,
        others.0,
        others.1,
        pages.0,
        pages.1,
        tables.onsets_are,
        tables.frequencies_are,
        tables.duties_are,
        tables.starts_are,
        tables.codes_are,
        counts,
        bank.0,
        bank.1,
        memories.ram_is,
        memories.sram_is,
        memories.gpio_is,
        memories.fb_is,
        at,
        shape.events,
        shape.presses,
        shape.words,
      )

  bank_stays : {bank cells l' : List ℕ} {floats f' : List Float} → (bank ≡ cells_in s n) × (floats ≡ floats_in s n)
      → cells ≡ set (set bank 45 e) 46 k
      → StaysPacked cells floats l' f'
      → StaysPacked (bank_in s) (floats_in s (others_in s)) l' f'
  unfolding bank_in
  bank_stays bank counts h =
      rw (← shape.events, ← shape.presses, ← shape.words) (rw (counts, bank.0, bank.1) at h)

  -- the bank that was read, with the counts, is packed and stays so
  pub bank_is : good_session s ≡ true → {bank cells l' : List ℕ} {floats f' : List Float}
      → (bank ≡ cells_in s n) × (floats ≡ floats_in s n) → cells ≡ set (set bank 45 e) 46 k
      → StaysPacked cells floats l' f'
      → Packed l' f'
  bank_is good bank counts h = bank_stays bank counts h (good_packed s good)
