-- What reaches the panel in a run: commands, data bytes and DMA copies; and what it means that damage ends.
use Rattle.std.specs.Prelude.{◌≡◌, ℕ, suc, ◌+◌, ◌-◌, ◌*◌, ◌<◌, ◌≤◌, max, List, [], ◌∷◌, length}
use Rattle.map.specs.Numbers.{LCD_W, LCD_H}
use Rattle.panel.specs.declared.Window.{Window}
use Rattle.panel.specs.declared.Panel.{Panel}
use Rattle.panel.specs.Lcd.{with_frames, spot, fed, painted, commanded, frame_counted}
use Rattle.panel.specs.Entries.{Screen, screen}

-- a data byte, or a DMA that puts these bytes in the pixels' place
pub data Input : Type 0 where
  byte : ℕ → Input
  copy : List ℕ → Input

-- a command, or one of these
pub data Act : Type 0 where
  order : ℕ → Act
  input : Input → Act

abbrev pub screen_after_command : Screen → ℕ → Screen
screen_after_command s c = screen (commanded s.panel c) s.fb

abbrev pub screen_after_input : Screen → Input → Screen
screen_after_input s (byte b) = screen (fed s.panel b) (painted s.panel s.fb b)
screen_after_input s (copy m) = screen (frame_counted s.panel) m

abbrev pub screen_after_act : Screen → Act → Screen
screen_after_act s (order c) = screen_after_command s c
screen_after_act s (input i) = screen_after_input s i

-- after inputs alone
unfoldable pub feed : Screen → List Input → Screen
feed s [] = s
feed s (i ∷ is) = feed (screen_after_input s i) is

-- after whatever comes
unfoldable pub later : Screen → List Act → Screen
later s [] = s
later s (a ∷ acts) = later (screen_after_act s a) acts

-- ---- damage

-- 0x2C, inputs, 0x2C again, and more inputs
abbrev pub redrawn : Screen → List Input → List Input → Screen
redrawn s between after = feed (screen_after_command (feed (screen_after_command s 0x2C) between) 0x2C) after

-- the data bytes of a run, by their number
unfoldable pub bytes_in : List Input → ℕ
bytes_in [] = 0
bytes_in (byte b ∷ is) = suc (bytes_in is)
bytes_in (copy m ∷ is) = bytes_in is

-- the copies of a run, in order
unfoldable pub copies : List Input → List (List ℕ)
copies [] = []
copies (byte b ∷ is) = copies is
copies (copy m ∷ is) = m ∷ copies is

-- the bytes of one whole window: two a pixel. An end that lies before its start leaves one column or row, as the panel
-- draws it.
abbrev pub window_bytes : Window → ℕ
window_bytes w = (w.y1 - w.y0 + 1) * (w.x1 - w.x0 + 1) * 2

-- all of a panel but its count of frames
abbrev pub uncounted : Panel → Panel
uncounted p = with_frames p 0

-- two screens that agree in their pixels and in all of the panel but the count of frames
pub record Same (s t : Screen) : Type 0 where
  pub pixels : s.fb ≡ t.fb
  pub state : uncounted s.panel ≡ uncounted t.panel

-- Whatever data bytes stood between two 0x2C, and whatever comes alike in both once `after` has followed: no trace is
-- left. Copies are taken to bring the same bytes in both.
abbrev pub Heals : Screen → List Input → Type 0
Heals s after =
    (one two : List Input) (acts : List Act) → copies one ≡ copies two
    → Same (later (redrawn s one after) acts) (later (redrawn s two after) acts)

-- The panel's part of demand 3: one whole window heals, wherever it lies.
abbrev pub EndsDamage : Type 0
EndsDamage = (s : Screen) (after : List Input) → window_bytes s.panel.window ≤ bytes_in after → Heals s after

-- the window's last pixel, the last one that a whole window writes, lies on the glass and in the framebuffer
pub record LastSeen (s : Screen) : Type 0 where
  pub column : max s.panel.window.x0 s.panel.window.x1 < LCD_W
  pub row : max s.panel.window.y0 s.panel.window.y1 < LCD_H
  pub stored : spot (max s.panel.window.x0 s.panel.window.x1)
      (max s.panel.window.y0 s.panel.window.y1) < length s.fb

-- And no fewer bytes do: with any fewer the last pixel stays as the damage left it.
abbrev pub Tight : Type 0
Tight =
    (s : Screen) (after : List Input) → LastSeen s → copies after ≡ [] → bytes_in after < window_bytes s.panel.window
    → Heals s after → ⊥
