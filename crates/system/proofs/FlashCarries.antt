-- The steps that operations carry to the flash are all that happens there.
use Prim.Native.Nat.{ℕ, suc, ◌+◌, ◌%◌, ◌^◌, ◌≤◌, ◌<◌}
use mathlib.Core.Path.{◌≡◌, refl, sym, ap, ◌∙◌, subst}
use mathlib.Core.Bool.{Bool}
use mathlib.Core.List.{List, [], ◌∷◌, ◌++◌}
use native.Mathlib.Omega.{arith}
use lib.ListN.{length}
use Rattle.map.specs.Numbers.{FLASH_SIZE}
use Rattle.whole.specs.Words.{has}
use Rattle.registers.specs.declared.Port.{Port}
use Rattle.registers.specs.Words.{word_at}
use Rattle.memory.specs.declared.Place.{Place}
use Rattle.memory.specs.declared.Place.TheVariants.{Ram, Sram, Gpio, Register, Stray}
use Rattle.memory.specs.Places.{place_of}
use Rattle.memory.specs.Bytes.{stored_at}
use Rattle.memory.specs.Access.{merged_of, written_of}
use Rattle.timer.specs.Events.{full_of}
use Rattle.flash.specs.Board.{Board, board}
use Rattle.flash.specs.declared.Chip.{Chip}
use Rattle.flash.specs.Steps.{Step, cs, byte}
use Rattle.flash.specs.Run.{after_steps}
use Rattle.flash.specs.Run.{after_step as once}
use Rattle.bus.specs.World.{World, Out}
use Rattle.block.specs.Block.{Plain, plain, poked_at, poked_of, laid_from, laid_of}
use Rattle.bus.specs.Chip.{Chipped, selected_over, sent_over, select_written, send_written}
use Rattle.bus.specs.Write as bus
use Rattle.bus.specs.Write.{stored_word, word_address, port_written, reg_written}
use Rattle.time.specs.Clocks.{clock_in}
use Rattle.bus.proofs.Branches.{by_port, by_write, by_stores}
use Rattle.bus.proofs.Boards.{select_step, send_step, store_past, word_alone}
use Rattle.system.specs.System.{Machine, world_in}
use Rattle.system.specs.Calls.{write_of}
use Rattle.system.specs.Steps.{Op, step, after}
use Rattle.system.specs.Carried.{array_in, board_in, Kind, writes, lays, kind_of, lands, flash_at, flash_word}
use Rattle.system.specs.Carried.{flash_by, flash_steps, flash_carried, Past, ApartBy, Apart}
use Rattle.system.proofs.ByKind.{by_kind}

-- ---- the array in RAM

-- from here on `array_in` stays folded, since comparing what it unfolds to would count to 8,388,608
abbrev pub board_on : World → Board
board_on w = board w.devices.flash w.page (array_in w.ram)

abbrev left : Chipped → Board
left c = board c.chip c.page (array_in c.ram)

select_on : (c : Chip) (page ram : List ℕ) (on : Bool) → left (selected_over c page ram on)
    ≡ once (board c page (array_in ram)) (cs on)
unfolding array_in
select_on c page ram on = select_step c page ram on

send_on : (c : Chip) (page ram : List ℕ) (b : ℕ) → left (sent_over c page ram b)
    ≡ once (board c page (array_in ram)) (byte b)
unfolding array_in
send_on c page ram b = send_step c page ram b

store_on : (m : List ℕ) (o n v : ℕ) → FLASH_SIZE ≤ o → array_in (stored_at m o n v) ≡ array_in m
unfolding array_in
store_on m o n v h = store_past m FLASH_SIZE o n v h

-- ---- a write

pub flash_port : (w : World) (full : Bool) (word old new part : ℕ)
    → board_on (port_written w full word old new part).world ≡ after_steps (board_on w) (flash_word word new)
unfolding flash_word select_written send_written stored_word
flash_port w full word old new part =
    by_port (λ (x : Out). board_on x.world ≡ after_steps (board_on w) (flash_word word new)) w full word old new part
    (λ e. rw e (select_on w.devices.flash w.page w.ram (has new 0x40)))
    (λ e. rw e (send_on w.devices.flash w.page w.ram (new % 256)))
    (λ e. rw e)
    (λ e. rw e)
    (λ x e. rw e
    (ap (λ (c : Chip). board c w.page (array_in w.ram)) (word_alone w.registers.slots w.devices
    (clock_in w.sram) full x word old new part).0))
    (λ p e s. rw e (by_stores (λ (q : Port). board_on w ≡ after_steps (board_on w) (flash_at q new)) (λ v. refl)
    refl refl
    p s))

flash_write : (m : Machine) (full : Bool) (a n v : ℕ) → Past (place_of a)
    → board_on (bus.write_of (world_in m) full a n v).world ≡ after_steps (board_in m) (flash_by m (writes a n v))
unfolding lands reg_written
flash_write m full a n v h =
    by_write (λ (x : Out). board_on x.world ≡ after_steps (board_in m) (flash_by m (writes a n v))) (world_in m) full a
    n v
    (λ g. rw g)
    (λ o g e. rw (g, e) (ap (λ (l : List ℕ). board m.system.devices.flash m.system.page l)
    (store_on m.ram o n v (subst Past e h))))
    (λ o g e. rw (g, e))
    (λ o g e. rw (g, e))
    (λ g e. rw (g, e)
    (flash_port (world_in m) full (word_address a) (word_at m.system.registers (word_address a))
    (merged_of (word_at m.system.registers (word_address a)) a n v) (written_of a n v)))
    (λ g e. rw (g, e))

-- ---- bytes laid into the memories

poked_past : (x : Place) (p : Plain) (b : ℕ) → Past x → array_in (poked_at x p b).ram ≡ array_in p.ram
poked_past (Ram o) p b h = store_on p.ram o 1 b h
poked_past (Sram o) p b h = refl
poked_past (Gpio o) p b h = refl
poked_past Register p b h = refl
poked_past Stray p b h = refl

laid_past : (bytes : List ℕ) (p : Plain) (a i : ℕ)
    → ((j : ℕ) → j < length bytes → Past (place_of ((a + (i + j)) % 2 ^ 32)))
    → array_in (laid_from p a i bytes).ram ≡ array_in p.ram
unfolding laid_from poked_of
laid_past [] p a i h = refl
laid_past (b ∷ bytes) p a i h =
    let rest : (j : ℕ) → j < length bytes → Past (place_of ((a + (i + 1 + j)) % 2 ^ 32)) =
    λ j l. subst (λ (k : ℕ). Past (place_of ((a + k) % 2 ^ 32))) (shift j) (h (suc j) (omega arith)) in
    laid_past bytes (poked_of p ((a + i) % 2 ^ 32) b) a (i + 1) rest
    ∙ poked_past (place_of ((a + i) % 2 ^ 32)) p b (subst (λ (k : ℕ). Past (place_of ((a + k) % 2 ^ 32))) first
    (h 0 (omega arith)))
  where
    first : i + 0 ≡ i
    first = omega arith

    shift : (j : ℕ) → i + suc j ≡ i + 1 + j
    shift j = omega arith

flash_laid : (m : Machine) (a : ℕ) (bytes : List ℕ) → ApartBy (lays a bytes)
    → array_in (laid_of (plain m.ram m.sram m.gpio) a bytes).ram ≡ array_in m.ram
unfolding laid_of
flash_laid m a bytes h = laid_past bytes (plain m.ram m.sram m.gpio) a 0
    (λ j l. subst (λ (k : ℕ). Past (place_of ((a + k) % 2 ^ 32))) (from j) (h j l))
  where
    from : (j : ℕ) → j ≡ 0 + j
    from j = omega arith

-- ---- an operation, and a run of them

pub flash_step : (m : Machine) (o : Op) → ApartBy (kind_of o) → board_in (step m o).machine ≡ after_steps (board_in m)
    (flash_steps m o)
unfolding write_of
flash_step m o =
    by_kind m (λ (k : Kind) (x : Machine). ApartBy k → board_in x ≡ after_steps (board_in m) (flash_by m k))
    (λ x b s h. b)
    (λ a n v h. flash_write m (full_of m.system.queue.ring) a n v h)
    (λ a bytes h. ap (λ (l : List ℕ). board m.system.devices.flash m.system.page l) (flash_laid m a bytes h))
    (λ h. absurd h)
    o

pub run_join : (xs ys : List Step) (w : Board) → after_steps w (xs ++ ys) ≡ after_steps (after_steps w xs) ys
run_join [] ys w = refl
run_join (x ∷ xs) ys w = run_join xs ys (once w x)

pub flash_carries : (os : List Op) (m : Machine) → Apart os → board_in (after m os) ≡ after_steps (board_in m)
    (flash_carried m os)
unfolding after flash_carried
flash_carries [] m h = refl
flash_carries (o ∷ os) m h =
    flash_carries os (step m o).machine h.1
    ∙ ap (λ (b : Board). after_steps b (flash_carried (step m o).machine os)) (flash_step m o h.0)
    ∙ sym (run_join (flash_steps m o) (flash_carried (step m o).machine os) (board_in m))
