-- The flash's words as steps of its chip, whose array is the first 8 MiB of RAM; and the words that leave flash and
-- panel alone.
use Prim.Native.Nat.{ℕ, zero, suc, ◌+◌, ◌≤◌}
use mathlib.Core.Path.{◌≡◌, refl, ap, ◌∙◌}
use mathlib.Core.Bool.{Bool}
use mathlib.Core.List.{List, [], ◌∷◌, ◌++◌}
use native.Mathlib.Omega.{arith}
use lib.ListN.{length, take, drop, set}
use lib.Seq.{sets, take-set-le}
use lib.Dec.{leb}
use Rattle.map.specs.Numbers.{FLASH_SIZE}
use Rattle.whole.proofs.Choice.{by_cond}
use Rattle.memory.specs.Bytes.{bytes_of, stored_at}
use Rattle.flash.specs.declared.Chip.{Chip}
use Rattle.flash.specs.Board.{Board, board}
use Rattle.flash.specs.Steps.{Step, cs, byte}
use Rattle.flash.specs.Run.{after_step}
use Rattle.flash.proofs.Long.{step_long}
use Rattle.state.specs.declared.Devices.{Devices}
use Rattle.registers.specs.declared.Effect.{Effect}
use Rattle.registers.specs.Ports.{timer_of}
use Rattle.bus.specs.World.{OwnOut}
use Rattle.bus.specs.Chip.{Chipped, board_of, in_ram, selected_over, sent_over}
use Rattle.bus.specs.Sounds.{sound_written, timer_written}
use Rattle.bus.specs.Words.{adc_written, day_set, word_written}
use Rattle.bus.proofs.Branches.{by_word_lem, by_sound, by_timer}

-- ---- the array in RAM

-- a first part of the same length, put back
rejoin : (k : ℕ) (l m : List ℕ) → length l ≡ length (take k m) → take k (l ++ drop k m) ≡ l
rejoin zero [] m e = refl
rejoin zero (y ∷ l) m e = absurd (omega arith)
rejoin (suc k) [] [] e = refl
rejoin (suc k) [] (x ∷ m) e = absurd (omega arith)
rejoin (suc k) (y ∷ l) [] e = absurd (omega arith)
rejoin (suc k) (y ∷ l) (x ∷ m) e = ap (λ (t : List ℕ). y ∷ t) (rejoin k l m (omega arith))

abbrev pub board_left : Chipped → Board
board_left c = board_of c.chip c.page c.ram

module _ (c : Chip) (page ram : List ℕ) where
  ram_step : (x : Step) → board_left (in_ram (after_step (board_of c page ram) x) ram) ≡ after_step
      (board_of c page ram) x
  ram_step x =
      let b : Board = after_step (board_of c page ram) x in
      ap (λ (l : List ℕ). board b.chip b.page l)
      (rejoin FLASH_SIZE b.array ram (step_long (board_of c page ram) x))

  pub select_step : (on : Bool) → board_left (selected_over c page ram on) ≡ after_step (board_of c page ram) (cs on)
  unfolding selected_over
  select_step on = ram_step (cs on)

  pub send_step : (b : ℕ) → board_left (sent_over c page ram b) ≡ after_step (board_of c page ram) (byte b)
  unfolding sent_over
  send_step b = ram_step (byte b)

-- ---- what is stored past a first part

sets_past : (bs m : List ℕ) (k o : ℕ) → k ≤ o → take k (sets m o bs) ≡ take k m
sets_past [] m k o h = refl
sets_past (b ∷ bs) m k o h = sets_past bs (set m o b) k (suc o) (omega arith) ∙ take-set-le k m o b h

pub store_past : (m : List ℕ) (k o n v : ℕ) → k ≤ o → take k (stored_at m o n v) ≡ take k m
unfolding stored_at
store_past m k o n v h = by_cond (λ (l : List ℕ). take k l ≡ take k m) (leb (o + n) (length m)) _ m
    (λ e. sets_past (bytes_of n v) m k o h) (λ e. refl)

-- ---- words that leave flash and panel alone

abbrev pub Alone : Devices → Devices → Type 0
Alone d e = (e.flash ≡ d.flash) × (e.panel ≡ d.panel)

module _ (slots : List ℕ) (d : Devices) (clock : ℕ) (full : Bool) where
  abbrev Spared : OwnOut → Type 0
  Spared x = Alone d x.wrote.devices

  sound_alone : (next : Devices) (word v : ℕ) → Alone d next → Spared (sound_written slots d next clock full word v)
  sound_alone next word v h = by_sound Spared slots d clock full next word v (λ e. (refl, refl)) (λ e. h)
      (λ tone e. h)

  timer_alone : (n word old new : ℕ) → Spared (timer_written slots d clock full n word old new)
  timer_alone n word old new =
      by_timer Spared slots d clock full n word old new _ refl (λ e. sound_alone _ word _ (refl, refl))
      (λ e. (refl, refl))

  pub word_alone : (e : Effect) (word old new part : ℕ) → Spared (word_written e slots d clock full word old new part)
  unfolding adc_written day_set
  word_alone e word old new part =
      by_word_lem Spared slots d clock full e word old new part
      (λ k. timer_alone (timer_of word) word old new)
      (refl, refl)
      (sound_alone d word new (refl, refl))
      (refl, refl)
      (refl, refl)
      (refl, refl)
      (refl, refl)
      (refl, refl)
