-- The panel's arguments that have not come are 0: from the fresh panel on, whatever it is told.
use Rattle.std.proofs.Common.{◌≡◌, ℕ, zero, suc, ◌<◌, Bool, true, false, cond, eqb, ltb, List, [], ◌∷◌, get_or, set}
use Rattle.std.proofs.Common.{refl, ◌∙◌, arith, length-set, get_or-set_other, ltb-true}
use Rattle.whole.proofs.Words.{either}
use Rattle.panel.specs.Lcd.{MaybeByte}
use Rattle.panel.specs.declared.Window.{Window}
use Rattle.panel.specs.declared.Pen.{Pen}
use Rattle.panel.specs.declared.Panel.{Panel}
use Rattle.panel.specs.Lcd.{with_pen, zeros, panel_with, fresh_panel, commanded, code_of, keeping, argued, penned}
use Rattle.panel.specs.Lcd.{fed, frame_counted}
use Rattle.panel.specs.Entries.{Screen}
use Rattle.panel.specs.Runs.{byte, copy, Act, order, input, screen_after_act, later}
use Rattle.panel.specs.Within.{PanelWithin}

-- ---- a command, or none

zeros_at : (i : ℕ) → ◌≡◌ {A = ℕ} (get_or zeros i 0) 0
zeros_at zero = refl
zeros_at (suc zero) = refl
zeros_at (suc (suc zero)) = refl
zeros_at (suc (suc (suc zero))) = refl
zeros_at (suc (suc (suc (suc i)))) = refl

told_within : (c : MaybeByte) (w : Window) (q : Pen) → PanelWithin (panel_with c w q)
told_within c w q = record { size = refl; most = omega arith; unset = λ i most. zeros_at i }

pub fresh_within : PanelWithin fresh_panel
fresh_within = told_within _ _ _

pub command_within : (p : Panel) (c : ℕ) → PanelWithin (commanded p c)
unfolding commanded
command_within p c = told_within _ _ _

-- ---- data

pen_within : (p : Panel) (q : Pen) → PanelWithin p → PanelWithin (with_pen p q)
pen_within p q w = record { size = w.size; most = w.most; unset = w.unset }

argument_within : (p : Panel) (b : ℕ) → PanelWithin p → PanelWithin (argued p b)
unfolding argued
argument_within p b w = by (ltb p.count 4) refl
  where
    by : (t : Bool) → ltb p.count 4 ≡ t → PanelWithin (cond t (keeping p (set p.args p.count b)) p)
    by true h =
        let room : p.count < 4 = ltb-true p.count 4 h in
        record {
          size = length-set p.args p.count b ∙ w.size;
          most = omega arith;
          unset = λ i least.
              get_or-set_other p.args p.count i b 0 (λ e. omega arith) ∙ w.unset i (omega arith);
        }
    by false h = w

pub data_within : (p : Panel) (b : ℕ) → PanelWithin p → PanelWithin (fed p b)
unfolding fed
data_within p b w =
    either PanelWithin (eqb (code_of p.cmd) 0x2C) (with_pen p (penned p.window p.pen b)) (argued p b)
    (pen_within p _ w) (argument_within p b w)

-- ---- whatever comes

act_within : (s : Screen) (a : Act) → PanelWithin s.panel → PanelWithin (screen_after_act s a).panel
unfolding frame_counted
act_within s (order c) w = command_within s.panel c
act_within s (input (byte b)) w = data_within s.panel b w
act_within s (input (copy m)) w = pen_within s.panel _ w

pub later_within : (s : Screen) (acts : List Act) → PanelWithin s.panel → PanelWithin (later s acts).panel
unfolding later
later_within s [] w = w
later_within s (a ∷ acts) w = later_within (screen_after_act s a) acts (act_within s a w)
