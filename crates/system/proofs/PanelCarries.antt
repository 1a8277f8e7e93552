-- The commands, bytes and copies that operations carry to the panel are all that happens there.
use Prim.Native.Nat.{ℕ}
use mathlib.Core.Path.{◌≡◌, refl, sym, ap, ◌∙◌}
use mathlib.Core.Bool.{Bool, true, false, cond}
use mathlib.Core.List.{List, [], ◌∷◌, ◌++◌}
use lib.ListN.{length}
use lib.Dec.{eqb}
use lib.Bits.{bit_and}
use Rattle.map.specs.Numbers.{LCD_DATA, LCD_DMA}
use Rattle.whole.specs.Words.{has}
use Rattle.registers.specs.declared.Registers.{Registers}
use Rattle.registers.specs.declared.Port.{Port}
use Rattle.registers.specs.Words.{own_at, word_at}
use Rattle.memory.specs.Access.{merged_of, written_of}
use Rattle.timer.specs.Events.{full_of}
use Rattle.panel.specs.Entries.{Screen, screen}
use Rattle.panel.specs.declared.Panel.{Panel}
use Rattle.panel.specs.Runs.{Act, later}
use Rattle.panel.specs.Runs.{screen_after_act as then}
use Rattle.bus.specs.World.{World, Out}
use Rattle.bus.specs.Chip.{select_written, send_written}
use Rattle.bus.specs.Screen.{fed_word, Copied, dma_done, act_result, with_control, controlled}
use Rattle.bus.specs.Write as bus
use Rattle.bus.specs.Write.{stored_word, word_address, port_written, reg_written}
use Rattle.time.specs.Clocks.{clock_in}
use Rattle.bus.proofs.Branches.{by_port, by_write, by_stores}
use Rattle.bus.proofs.Boards.{word_alone}
use Rattle.system.specs.System.{Machine, world_in}
use Rattle.system.specs.Calls.{write_of}
use Rattle.system.specs.Steps.{Op, step, after}
use Rattle.system.specs.Carried.{screen_in, Kind, writes, kind_of, lands, data_sent, copy_sent, act_sent, panel_at}
use Rattle.system.specs.Carried.{panel_word, panel_by, panel_acts, panel_carried, UnwipedBy, Unwiped}
use Rattle.system.proofs.ByKind.{by_kind}

-- ---- the control word

-- two branches on one test
by_both : {A B : Type 0} (P : A → B → Type 0) (t : Bool) (x y : A) (u v : B) → P x u → P y v
    → P (cond t x y) (cond t u v)
by_both P true x y u v p q = p
by_both P false x y u v p q = q

data_sent_lem : (t : Screen) (one : Bool) (w : ℕ) → fed_word t one w ≡ later t (data_sent one w)
unfolding fed_word data_sent later
data_sent_lem t true w = refl
data_sent_lem t false w = refl

module _ (r : Registers) (ram sram gpio : List ℕ) (t : Screen) where
  abbrev Shows : Copied → List Act → Type 0
  Shows c l = c.screen ≡ later t l

  copy_sent_lem : Shows (dma_done r ram sram gpio t) (copy_sent r ram sram gpio (length t.fb))
  unfolding dma_done copy_sent later
  copy_sent_lem = by_both Shows (eqb (own_at r.slots LCD_DMA) 0) _ _ _ _ refl refl

  act_sent_lem : (val : ℕ) → Shows (act_result r ram sram gpio t val) (act_sent r ram sram gpio (length t.fb) val)
  unfolding act_result act_sent later
  act_sent_lem val =
      by_both Shows (eqb (bit_and val 0xF0) 0x80) _ _ _ _ refl
      (by_both Shows (eqb (bit_and val 0xF0) 0xA0) _ _ _ _ (data_sent_lem t (has val 0x2000) (own_at r.slots LCD_DATA))
      (by_both Shows (eqb (bit_and val 0xF0) 0xD0) _ _ _ _ copy_sent_lem refl))

control_sent : (r : Registers) (ram sram gpio : List ℕ) (t : Screen) (val : ℕ)
    → (controlled r ram sram gpio t val).screen ≡ later t
    (cond (has val 1) (act_sent (with_control r val) ram sram gpio (length t.fb) val) [])
unfolding controlled later
control_sent r ram sram gpio t val = by_both (Shows r ram sram gpio t) (has val 1) _ _ _ _ (act_sent_lem
    (with_control r val) ram sram gpio t val)
    refl

-- ---- a write

abbrev pub screen_on : World → Screen
screen_on w = screen w.devices.panel w.fb

panel_port : (m : Machine) (full : Bool) (word old new part : ℕ)
    → screen_on (port_written (world_in m) full word old new part).world ≡ later (screen_in m) (panel_word m word new)
unfolding panel_word select_written send_written stored_word later
panel_port m full word old new part =
    by_port (λ (x : Out). screen_on x.world ≡ later (screen_in m) (panel_word m word new)) (world_in m) full word old
    new part
    (λ e. rw e)
    (λ e. rw e)
    (λ e. rw e (control_sent m.system.registers m.ram m.sram m.gpio (screen_in m) new))
    (λ e. rw e)
    (λ x e. rw e
    (ap (λ (p : Panel). screen p m.fb) (word_alone m.system.registers.slots m.system.devices
    (clock_in m.sram) full x word old new part).1))
    (λ p e s. rw e (by_stores (λ (q : Port). screen_in m ≡ later (screen_in m) (panel_at q m new)) (λ v. refl) refl refl
    p s))

pub panel_write : (m : Machine) (full : Bool) (a n v : ℕ) → screen_on (bus.write_of (world_in m) full a n v).world ≡
    later
    (screen_in m) (panel_by m (writes a n v))
unfolding lands reg_written later
panel_write m full a n v =
    by_write (λ (x : Out). screen_on x.world ≡ later (screen_in m) (panel_by m (writes a n v))) (world_in m) full a n v
    (λ g. rw g)
    (λ o g e. rw (g, e))
    (λ o g e. rw (g, e))
    (λ o g e. rw (g, e))
    (λ g e. rw (g, e)
    (panel_port m full (word_address a) (word_at m.system.registers (word_address a))
    (merged_of (word_at m.system.registers (word_address a)) a n v) (written_of a n v)))
    (λ g e. rw (g, e))

-- ---- an operation, and a run of them

panel_step : (m : Machine) (o : Op) → UnwipedBy (kind_of o) → screen_in (step m o).machine ≡ later (screen_in m)
    (panel_acts m o)
unfolding write_of later
panel_step m o =
    by_kind m (λ (k : Kind) (x : Machine). UnwipedBy k → screen_in x ≡ later (screen_in m) (panel_by m k))
    (λ x b s h. s)
    (λ a n v h. panel_write m (full_of m.system.queue.ring) a n v)
    (λ a bytes h. refl)
    (λ h. absurd h)
    o

later_join : (xs ys : List Act) (s : Screen) → later s (xs ++ ys) ≡ later (later s xs) ys
unfolding later
later_join [] ys s = refl
later_join (x ∷ xs) ys s = later_join xs ys (then s x)

pub panel_carries : (os : List Op) (m : Machine) → Unwiped os → screen_in (after m os) ≡ later (screen_in m)
    (panel_carried m os)
unfolding after panel_carried later
panel_carries [] m h = refl
panel_carries (o ∷ os) m h =
    panel_carries os (step m o).machine h.1
    ∙ ap (λ (s : Screen). later s (panel_carried (step m o).machine os)) (panel_step m o h.0)
    ∙ sym (later_join (panel_acts m o) (panel_carried (step m o).machine os) (screen_in m))
