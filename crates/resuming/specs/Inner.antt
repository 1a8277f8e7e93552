-- What contracts of inner functions speak of.
use Rattle.std.specs.Prelude.{ℕ, ◌+◌, ◌≤◌, ◌≡◌, List, Float, length}
use Rattle.map.specs.Numbers.{RAM_SIZE, SRAM_SIZE, GPIO_SIZE, FRAMEBUFFER_SIZE}
use Rattle.session.specs.Fields.{part}
use Rattle.session.specs.Layout.{presses_at, events_at, size_of}
use Rattle.session.specs.Read.{starts_in, codes_in, column_in}
use Rattle.session.specs.Good.{others_in, presses_in, events_in}

-- what s has: n other words, k presses and e sound events. No table is over-full, and s is as long as they say
pub record Shape (s : List ℕ) (n k e : ℕ) : Type 0 where
  pub words : n ≡ others_in s
  pub presses : k ≡ presses_in s
  pub events : e ≡ events_in s
  pub sized : (length s ≡ size_of n k e) × ((n ≤ 256) × ((k ≤ 64) × (e ≤ 256)))

-- the tables of presses and of sound events
pub record TablesRead (s : List ℕ) (n k e : ℕ) (onsets frequencies duties starts : List Float) (codes : List ℕ) :
    Type 0 where
  pub onsets_are : onsets ≡ column_in s (events_at n k + 4) e
  pub frequencies_are : frequencies ≡ column_in s (events_at n k + 4 + 8) e
  pub duties_are : duties ≡ column_in s (events_at n k + 4 + 16) e
  pub starts_are : starts ≡ starts_in s (presses_at n + 4) k
  pub codes_are : codes ≡ codes_in s (presses_at n + 4) k

-- the four memories, as they stand from a place on, each behind its length
pub record MemoriesRead (s : List ℕ) (at : ℕ) (ram sram gpio fb : List ℕ) : Type 0 where
  pub ram_is : ram ≡ part s (at + 4) RAM_SIZE
  pub sram_is : sram ≡ part s (at + 4 + RAM_SIZE + 4) SRAM_SIZE
  pub gpio_is : gpio ≡ part s (at + 4 + RAM_SIZE + 4 + SRAM_SIZE + 4) GPIO_SIZE
  pub fb_is : fb ≡ part s (at + 4 + RAM_SIZE + 4 + SRAM_SIZE + 4 + GPIO_SIZE + 4) FRAMEBUFFER_SIZE
