-- Demand 2 for the panel from any state on, as from a session that is resumed: the state of sys.rs that stands for it,
-- and what it is to do as that one does.
use Rattle.std.specs.Prelude.{◌≡◌, ℕ, ◌^◌, ◌<◌, List, take, slice_index, None, Some}
use Rattle.panel.specs.Lcd.{MaybeByte}
use Rattle.panel.specs.declared.Panel.{Panel}
use Rattle.panel.specs.Entries.{screen}
use Rattle.panel.specs.Runs.{Act, later}
use Rattle.panel.specs.Rust.{Lcd, Option, none, some, lcd_after_acts}
use Rattle.panel.specs.AsRust.{compact, Bytes}
use Rattle.panel.specs.Within.{PanelWithin}

abbrev pub option_of : MaybeByte → Option
option_of None = none
option_of (Some b) = some b

-- of the arguments those that have come; the rest alike
abbrev pub lcd_of : Panel → List ℕ → Lcd
lcd_of p fb =
    record {
      fb = fb;
      cmd = option_of p.cmd;
      args = take p.count p.args;
      x0 = p.window.x0;
      x1 = p.window.x1;
      y0 = p.window.y0;
      y1 = p.window.y1;
      x = p.pen.x;
      y = p.pen.y;
      half = option_of p.pen.half;
      frames = p.pen.frames;
    }

abbrev pub IsByte : MaybeByte → Type 0
IsByte None = Unit {0}
IsByte (Some b) = b < 256

-- what the types of the fields say: ends and positions are u16, the half pixel and the arguments are bytes
pub record PanelTyped (p : Panel) : Type 0 where
  pub x0 : p.window.x0 < 2 ^ 16
  pub x1 : p.window.x1 < 2 ^ 16
  pub y0 : p.window.y0 < 2 ^ 16
  pub y1 : p.window.y1 < 2 ^ 16
  pub x : p.pen.x < 2 ^ 16
  pub y : p.pen.y < 2 ^ 16
  pub half : IsByte p.pen.half
  pub args : (i : ℕ) → slice_index p.args i < 256

-- from any such state over any pixels, whatever comes, both are in the same state
abbrev pub AsRustFrom : Type 0
AsRustFrom =
    (p : Panel) (fb : List ℕ) → PanelWithin p → PanelTyped p → (acts : List Act) → Bytes acts
    → compact (lcd_after_acts (lcd_of p fb) acts) ≡ later (screen p fb) acts
