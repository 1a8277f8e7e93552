-- The flash stays in its mode, and its transaction one that selects and bytes can leave: whatever is written, and
-- whatever stands in its array.
use Prim.Native.Nat.{ℕ, zero, suc}
use mathlib.Core.Path.{◌≡◌, refl, sym, ap, subst, ◌∙◌}
use mathlib.Core.Bool.{Bool, true, false}
use mathlib.Core.List.{List, [], ◌∷◌}
use native.Mathlib.Nat.{mod-lt}
use native.Mathlib.Omega.{arith}
use lib.Dec.{lit<}
use lib.ListN.{length, take}
use Rattle.map.specs.Numbers.{FLASH_SIZE}
use Rattle.registers.specs.declared.Port.{Port}
use Rattle.registers.specs.declared.Port.TheVariants.{Select, Send, LcdControl, RtcCommand, Acts, Shows, Holds, Other}
use Rattle.registers.specs.Ports.{port_of}
use Rattle.memory.proofs.Stored.{store_length}
use Rattle.flash.specs.declared.Chip.{Chip}
use Rattle.flash.specs.Pick.{pick}
use Rattle.flash.specs.Board.{Board, Outcome, board, good_size}
use Rattle.flash.specs.Flash.{select_board, selected, transferred}
use Rattle.flash.specs.Steps.{Step, cs, byte, ByteSteps}
use Rattle.flash.specs.Run.{after_step, after_steps}
use Rattle.reach.proofs.Kept.{array_reached, run_reached}
use Rattle.bus.specs.World.{World, Out}
use Rattle.bus.specs.Write.{word_address, reg_written}
use Rattle.bus.specs.Write as write
use Rattle.bus.proofs.Branches.{by_write}
use Rattle.system.specs.Carried.{array_in, flash_at, flash_word}
use Rattle.system.specs.Limits.{FlashWithin}
use Rattle.system.proofs.FlashCarries.{board_on, flash_port}

-- ---- the array changes below the transaction

take_length : (k : ℕ) (l m : List ℕ) → length l ≡ length m → length (take k l) ≡ length (take k m)
take_length zero l m e = refl
take_length (suc k) [] [] e = refl
take_length (suc k) [] (y ∷ m) e = absurd (omega arith)
take_length (suc k) (x ∷ l) [] e = absurd (omega arith)
take_length (suc k) (x ∷ l) (y ∷ m) e = ap suc (take_length k l m (omega arith))

array_length : (l m : List ℕ) → length l ≡ length m → length (array_in l) ≡ length (array_in m)
unfolding array_in
array_length l m e = take_length FLASH_SIZE l m e

pub ram_flash : (c : Chip) (page l m : List ℕ) → length m ≡ length l → FlashWithin (board c page (array_in l))
    → FlashWithin (board c page (array_in m))
ram_flash c page l m e w = record {
  mode = w.mode;
  reached = array_reached (board c page (array_in l)) (array_in m) (array_length m l e) w.reached;
}

-- ---- a run of selects and bytes

picked : {A : Type 0} (P : A → Type 0) (c : Bool) (x y : A) → P x → P y → P (pick c x y)
picked P true x y p q = p
picked P false x y p q = q

step_mode : (b : Board) (x : Step) → (after_step b x).chip.mode ≡ b.chip.mode
unfolding selected transferred
step_mode b x = by x
  where
    Same : Board → Type 0
    Same c = c.chip.mode ≡ b.chip.mode

    chosen : (on : Bool) → Same (select_board b on)
    chosen true = picked Same b.chip.cs _ _ refl refl
    chosen false = picked Same b.chip.cs _ _ refl refl

    by : (x : Step) → Same (after_step b x)
    by (cs on) = picked (λ (o : Outcome). Same o.board) (good_size (length b.array)) _ _ (chosen on) refl
    by (byte v) = picked (λ (o : Outcome). Same o.board) (good_size (length b.array)) _ _ refl refl

steps_mode : (xs : List Step) (b : Board) → (after_steps b xs).chip.mode ≡ b.chip.mode
steps_mode [] b = refl
steps_mode (x ∷ xs) b = steps_mode xs (after_step b x) ∙ step_mode b x

run_flash : (xs : List Step) (b : Board) → ByteSteps xs → FlashWithin b → FlashWithin (after_steps b xs)
run_flash xs b bytes w = record {
  mode = steps_mode xs b ∙ w.mode;
  reached = run_reached xs b bytes w.reached;
}

-- ---- a write

-- what a register's word carries is a select or a byte
word_bytes : (word new : ℕ) → ByteSteps (flash_word word new)
unfolding flash_word
word_bytes word new = by (port_of word)
  where
    by : (p : Port) → ByteSteps (flash_at p new)
    by Select = tt
    by Send = (mod-lt new (lit< tt), tt)
    by LcdControl = tt
    by RtcCommand = tt
    by (Acts e) = tt
    by (Shows v) = tt
    by Holds = tt
    by Other = tt

pub write_flash : (w : World) (full : Bool) (a n v : ℕ) → FlashWithin (board_on w)
    → FlashWithin (board_on (write.write_of w full a n v).world)
unfolding reg_written
write_flash w full a n v h =
    by_write (λ (x : Out). FlashWithin (board_on x.world)) w full a n v (λ g. h)
    (λ o g e. ram_flash w.devices.flash w.page w.ram _ (store_length w.ram o n v) h)
    (λ o g e. h)
    (λ o g e. h)
    (λ g e. subst FlashWithin (sym (flash_port w full (word_address a) _ _ _))
    (run_flash (flash_word (word_address a) _) (board_on w) (word_bytes (word_address a) _) h))
    (λ g e. h)
