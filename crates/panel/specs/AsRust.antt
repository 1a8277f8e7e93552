-- Demand 2 for the panel: what it is to do as sys.rs does.
use Rattle.std.specs.Prelude.{◌≡◌, ℕ, ◌<◌, min, List, [], ◌∷◌, length, slice_index, None, Some}
use Rattle.panel.specs.Lcd.{MaybeByte}
use Rattle.panel.specs.Lcd.{fresh_panel, pen_at}
use Rattle.panel.specs.Entries.{Screen, screen}
use Rattle.panel.specs.Runs.{byte, copy, Act, order, input, later}
use Rattle.panel.specs.Rust.{Lcd, Option, none, some, default, lcd_after_acts}

abbrev pub maybe_of : Option → MaybeByte
maybe_of none = None
maybe_of (some b) = Some b

-- of the list of arguments the first four, those that did not come 0
abbrev pub first_four : List ℕ → List ℕ
first_four a = slice_index a 0 ∷ slice_index a 1 ∷ slice_index a 2 ∷ slice_index a 3 ∷ []

-- what the Rust's state looks like here
abbrev pub compact : Lcd → Screen
compact l =
    screen
    (record {
      cmd = maybe_of l.cmd;
      args = first_four l.args;
      count = min (length l.args) 4;
      window = record { x0 = l.x0; x1 = l.x1; y0 = l.y0; y1 = l.y1 };
      pen = pen_at l.x l.y (maybe_of l.half) l.frames;
    })
    l.fb

-- every data byte is a byte
abbrev pub Bytes : List Act → Type 0
Bytes [] = Unit {0}
Bytes (order c ∷ acts) = Bytes acts
Bytes (input (byte b) ∷ acts) = (b < 256) × Bytes acts
Bytes (input (copy m) ∷ acts) = Bytes acts

-- from the fresh state over any pixels, whatever comes, both are in the same state
abbrev pub AsRust : Type 0
AsRust =
    (fb : List ℕ) (acts : List Act) → Bytes acts → compact (lcd_after_acts (default fb) acts)
    ≡ later (screen fresh_panel fb) acts
