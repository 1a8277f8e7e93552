-- Demand 3 of the bus: what the flash forgets and the panel heals.
use Prim.Native.Nat.{ℕ}
use mathlib.Core.Path.{◌≡◌, refl, sym, ap, ap₂, ◌∙◌, subst}
use mathlib.Core.Bool.{Bool, true, false}
use mathlib.Core.List.{List, [], ◌∷◌, ◌++◌}
use lib.ListN.{length}
use Rattle.whole.proofs.Choice.{by_cond}
use Rattle.registers.specs.declared.Port.{Port}
use Rattle.registers.specs.declared.Port.TheVariants.{Select, Send, LcdControl, RtcCommand, Acts, Shows, Holds, Other}
use Rattle.registers.specs.Ports.{port_of}
use Rattle.flash.specs.Board.{Board, Outcome, good_size}
use Rattle.flash.specs.Flash.{transferred}
use Rattle.flash.specs.Steps.{Step, cs, byte, sends}
use Rattle.flash.specs.Run.{after_steps, answers, transaction, again, Forgets, after_step as once}
use Rattle.flash.proofs.Long.{step_long, run_long}
use Rattle.flash.proofs.Cases.{transfer_done}
use Rattle.flash.proofs.Forget.{run_bad, forgets}
use Rattle.panel.specs.Entries.{Screen}
use Rattle.panel.specs.Runs.{Input, Act, order, feed, later, screen_after_command, screen_after_input, redrawn, Same}
use Rattle.panel.proofs.Heals.{heals}
use Rattle.bus.specs.Write.{word_address}
use Rattle.system.specs.System.{Machine}
use Rattle.system.specs.Steps.{Op, step, after}
use Rattle.system.specs.Carried.{board_in, screen_in, Kind, writes, lays, wipes, other, kind_of, lands, merged_in}
use Rattle.system.specs.Carried.{flash_at, flash_word, flash_by, flash_steps, flash_carried, panel_carried, answers_at}
use Rattle.system.specs.Carried.{flash_answers, Apart, Unwiped}
use Rattle.system.specs.Damage.{session, Carries, Unmarked, BusForgets, inputs, redraw, BusHeals}
use Rattle.system.proofs.FlashCarries.{flash_step, flash_carries, run_join}
use Rattle.system.proofs.PanelCarries.{panel_carries}

-- ---- the answers that are flash_answers

-- the chip's answer after each byte
abbrev rxs : Board → List Step → List ℕ
rxs w [] = []
rxs w (cs on ∷ xs) = rxs (once w (cs on)) xs
rxs w (byte b ∷ xs) = (once w (byte b)).chip.rx ∷ rxs (once w (byte b)) xs

rxs_join : (xs ys : List Step) (w : Board) → rxs w (xs ++ ys) ≡ rxs w xs ++ rxs (after_steps w xs) ys
rxs_join [] ys w = refl
rxs_join (cs on ∷ xs) ys w = rxs_join xs ys (once w (cs on))
rxs_join (byte b ∷ xs) ys w = ap (λ (l : List ℕ). (once w (byte b)).chip.rx ∷ l) (rxs_join xs ys (once w (byte b)))

rxs_good : (xs : List Step) (w : Board) → good_size (length w.array) ≡ true → rxs w xs ≡ answers w xs
rxs_good [] w g = refl
rxs_good (cs on ∷ xs) w g = rxs_good xs (once w (cs on)) (ap good_size (step_long w (cs on)) ∙ g)
rxs_good (byte b ∷ xs) w g =
    let first : (once w (byte b)).chip.rx ≡ (transferred w b).answer =
    ap (λ (o : Outcome). o.board.chip.rx) (transfer_done w b g) ∙ sym
    (ap (λ (o : Outcome). o.answer) (transfer_done w b g)) in
    ap₂ (λ (x : ℕ) (l : List ℕ). x ∷ l) first (rxs_good xs (once w (byte b)) (ap good_size (step_long w (byte b)) ∙ g))

-- an operation carries at most one step
module _ (w : Board) where
  abbrev CarriedAnswers : List Step → Type 0
  CarriedAnswers xs = answers_at xs (after_steps w xs).chip.rx ≡ rxs w xs

  word_answers : (word new : ℕ) → CarriedAnswers (flash_word word new)
  unfolding flash_word
  word_answers word new = at (port_of word)
    where
      at : (p : Port) → CarriedAnswers (flash_at p new)
      at Select = refl
      at Send = refl
      at LcdControl = refl
      at RtcCommand = refl
      at (Acts e) = refl
      at (Shows v) = refl
      at Holds = refl
      at Other = refl

  carried_answers : (m : Machine) (k : Kind) → CarriedAnswers (flash_by m k)
  carried_answers m (writes a n v) = by_cond CarriedAnswers (lands a n) _ _
      (λ e. word_answers (word_address a) (merged_in m a n v)) (λ e. refl)
  carried_answers m (lays a bytes) = refl
  carried_answers m wipes = refl
  carried_answers m other = refl

flash_heard : (os : List Op) (m : Machine) → Apart os → flash_answers m os ≡ rxs (board_in m) (flash_carried m os)
unfolding flash_answers flash_carried
flash_heard [] m h = refl
flash_heard (o ∷ os) m h =
    let xs : List Step = flash_steps m o in
    let b : board_in (step m o).machine ≡ after_steps (board_in m) xs = flash_step m o h.0 in
    let first : answers_at xs (step m o).machine.system.devices.flash.rx ≡ rxs (board_in m) xs =
    ap (λ (z : Board). answers_at xs z.chip.rx) b ∙ carried_answers (board_in m) m (kind_of o) in
    let rest : flash_answers (step m o).machine os ≡ rxs (after_steps (board_in m) xs)
    (flash_carried (step m o).machine os) =
    flash_heard os (step m o).machine h.1 ∙ ap (λ (z : Board). rxs z (flash_carried (step m o).machine os)) b in
    ap₂ (λ (p q : List ℕ). p ++ q) first rest ∙ sym (rxs_join xs (flash_carried (step m o).machine os) (board_in m))

-- ---- the flash forgets

-- on a refused array nothing happens at all
rxs_alike : (w : Board) (xs ys : List Step) → Forgets (after_steps w xs) (after_steps w ys) → (k : ℕ) (zs : List Step)
    → rxs (after_steps w xs) (again k zs) ≡ rxs (after_steps w ys) (again k zs)
rxs_alike w xs ys f k zs = go (good_size (length w.array)) refl
  where
    go : (t : Bool) → good_size (length w.array) ≡ t → rxs (after_steps w xs) (again k zs) ≡ rxs (after_steps w ys)
        (again k zs)
    go true g =
        rxs_good (again k zs) (after_steps w xs) (ap good_size (run_long xs w) ∙ g)
        ∙ f.alike k zs
        ∙ sym (rxs_good (again k zs) (after_steps w ys) (ap good_size (run_long ys w) ∙ g))
    go false g = ap (λ (z : Board). rxs z (again k zs)) (run_bad w xs g ∙ sym (run_bad w ys g))

module _ (m : Machine) (os : List Op) (xs : List Step) (c : Carries m os xs) where
  carried : board_in (after m os) ≡ after_steps (board_in m) xs
  carried = flash_carries os m c.apart ∙ ap (after_steps (board_in m)) c.steps

  carried_heard : flash_answers m os ≡ rxs (board_in m) xs
  carried_heard = flash_heard os m c.apart ∙ ap (rxs (board_in m)) c.steps

unmarked : (m n : Machine) (w : Board) (xs ys : List Step) → board_in m ≡ after_steps w xs → board_in n ≡
    after_steps w ys
    → Forgets (after_steps w xs) (after_steps w ys) → Unmarked m n
unmarked m n w xs ys p q f =
    record {
      array = ap (λ (z : Board). z.array) p ∙ f.array ∙ sym (ap (λ (z : Board). z.array) q);
      wel = ap (λ (z : Board). z.chip.wel) p ∙ f.wel ∙ sym (ap (λ (z : Board). z.chip.wel) q);
      alike =
          λ os ps k zs c d. carried_heard m os (again k zs) c
          ∙ ap (λ (z : Board). rxs z (again k zs)) p
          ∙ rxs_alike w xs ys f k zs
          ∙ sym (carried_heard n ps (again k zs) d ∙ ap (λ (z : Board). rxs z (again k zs)) q);
      stored =
          λ os ps k zs c d. ap (λ (z : Board). z.array)
          (carried m os (again k zs) c ∙ ap (λ (z : Board). after_steps z (again k zs)) p)
          ∙ f.stored k zs
          ∙ sym (ap (λ (z : Board). z.array)
          (carried n ps (again k zs) d ∙ ap (λ (z : Board). after_steps z (again k zs)) q));
    }

transacted : (w : Board) (bs : List ℕ) → transaction w bs ≡ after_steps w (session bs)
transacted w bs = sym (run_join (sends bs) (cs false ∷ []) (once w (cs true)))

pub bus_forgets : BusForgets
bus_forgets m os ps xs ys c e hx hy p q =
    let w : Board = board_in m in
    unmarked (after m os) (after m ps) w (session xs) (session ys) (carried m os (session xs) p)
    (carried m ps (session ys) q)
    (subst (λ (z : Board). Forgets (after_steps w (session xs)) z) (transacted w ys)
    (subst (λ (z : Board). Forgets z (transaction w ys)) (transacted w xs) (forgets w xs ys c e hx hy)))

-- ---- the panel heals

later_inputs : (is : List Input) (acts : List Act) (s : Screen) → later s (inputs is ++ acts) ≡ later (feed s is) acts
unfolding later feed
later_inputs [] acts s = refl
later_inputs (i ∷ is) acts s = later_inputs is acts (screen_after_input s i)

redraw_is : (between rest : List Input) (acts : List Act) (s : Screen) → later s (redraw between rest acts) ≡ later
    (redrawn s between rest) acts
unfolding later
redraw_is between rest acts s =
    later_inputs between (order 0x2C ∷ (inputs rest ++ acts)) (screen_after_command s 0x2C)
    ∙ later_inputs rest acts (screen_after_command (feed (screen_after_command s 0x2C) between) 0x2C)

pub bus_heals : BusHeals
bus_heals m os ps one two rest acts u v p q e l =
    subst (λ (s : Screen). Same s (screen_in (after m ps))) (sym (shown os one u p))
    (subst (λ (s : Screen). Same (later (redrawn (screen_in m) one rest) acts) s) (sym (shown ps two v q))
    (heals (screen_in m) rest l one two acts e))
  where
    shown : (qs : List Op) (is : List Input) → Unwiped qs → panel_carried m qs ≡ redraw is rest acts
        → screen_in (after m qs) ≡ later (redrawn (screen_in m) is rest) acts
    shown qs is w k = panel_carries qs m w ∙ ap (later (screen_in m)) k ∙ redraw_is is rest acts (screen_in m)
