-- The panel, as document 000 has it (Lcd: command, data, pixel), with the arguments as four bytes and a count that
-- stops. Pixels are a list of bytes of any length.
use Rattle.std.specs.Prelude.{ℕ, ◌+◌, ◌-◌, ◌*◌, ◌%◌, ◌^◌, cond, List, [], ◌∷◌, ◌==◌, nat_lt, slice_index, slice_set}
use Rattle.std.specs.Prelude.{None, Some, Option}
use Rattle.map.specs.Numbers.{LCD_W, LCD_H}
use Rattle.panel.specs.declared.Window.{Window}
use Rattle.panel.specs.declared.Pen.{Pen}
use Rattle.panel.specs.declared.Panel.{Panel}

-- ---- state, and its parts

-- a byte, or none
abbrev pub MaybeByte : Type 0
MaybeByte = Option ℕ

abbrev pub pen_at : ℕ → ℕ → MaybeByte → ℕ → Pen
pen_at x y h f = record { x = x; y = y; half = h; frames = f }

abbrev pub with_pen : Panel → Pen → Panel
with_pen p q = record { cmd = p.cmd; args = p.args; count = p.count; window = p.window; pen = q }

abbrev pub with_frames : Panel → ℕ → Panel
with_frames p f = with_pen p (pen_at p.pen.x p.pen.y p.pen.half f)

abbrev pub zeros : List ℕ
zeros = 0 ∷ 0 ∷ 0 ∷ 0 ∷ []

-- a panel that has just been told a command, or none
abbrev pub panel_with : MaybeByte → Window → Pen → Panel
panel_with c w q = record { cmd = c; args = zeros; count = 0; window = w; pen = q }

abbrev pub fresh_panel : Panel
fresh_panel = panel_with None (record { x0 = 0; x1 = LCD_W - 1; y0 = 0; y1 = LCD_H - 1 }) (pen_at 0 0 None 0)

-- a counter goes round from 2^64 - 1 to 0
abbrev pub counts : ℕ → ℕ
counts f = (f + 1) % 2 ^ 64

-- ---- command

unfoldable pub commanded : Panel → ℕ → Panel
commanded p c =
    panel_with (Some c) p.window
    (cond (c == 0x2C) (pen_at p.window.x0 p.window.y0 None p.pen.frames)
    (pen_at p.pen.x p.pen.y None p.pen.frames))

-- ---- pixel

-- the first byte of the pixel x, y
abbrev pub spot : ℕ → ℕ → ℕ
spot x y = (y * LCD_W + x) * 2

-- high byte h and low byte b of a pixel, the low one first, where x, y lies on the glass
unfoldable pub put : List ℕ → ℕ → ℕ → ℕ → ℕ → List ℕ
put fb x y h b = cond (nat_lt x LCD_W) (cond (nat_lt y LCD_H)
    (slice_set (slice_set fb (spot x y) b) (spot x y + 1) h) fb) fb

-- along the row; past its end to the next row; past the last row to the first, which counts a frame
unfoldable pub next_pen : Window → Pen → Pen
next_pen w p =
    cond (nat_lt w.x1 (p.x + 1))
    (cond (nat_lt w.y1 (p.y + 1)) (pen_at w.x0 w.y0 None (counts p.frames))
    (pen_at w.x0 (p.y + 1) None p.frames))
    (pen_at (p.x + 1) p.y None p.frames)

-- ---- data after 0x2C: the first byte of a pixel is held, the second writes it

abbrev pub penned_by : MaybeByte → Window → Pen → ℕ → Pen
penned_by None w p b = pen_at p.x p.y (Some b) p.frames
penned_by (Some h) w p b = next_pen w p

unfoldable pub penned : Window → Pen → ℕ → Pen
penned w p b = penned_by p.half w p b

abbrev pub inked_by : MaybeByte → List ℕ → Pen → ℕ → List ℕ
inked_by None fb p b = fb
inked_by (Some h) fb p b = put fb p.x p.y h b

unfoldable pub inked : List ℕ → Pen → ℕ → List ℕ
inked fb p b = inked_by p.half fb p b

-- ---- data after another command, or none: the first four bytes are kept, and the fourth acts

-- no command is no byte
abbrev pub code_of : MaybeByte → ℕ
code_of None = 256
code_of (Some b) = b

-- 0x2A sets the columns, 0x2B the rows
unfoldable pub aimed : Window → ℕ → ℕ → ℕ → Window
aimed w c lo hi =
    cond (c == 0x2A) (record { x0 = lo; x1 = hi; y0 = w.y0; y1 = w.y1 })
    (cond (c == 0x2B) (record { x0 = w.x0; x1 = w.x1; y0 = lo; y1 = hi }) w)

-- two bytes of the arguments as a number, high byte first
abbrev pub pair_at : List ℕ → ℕ → ℕ
pair_at a i = slice_index a i * 256 + slice_index a (i + 1)

abbrev pub keeping : Panel → List ℕ → Panel
keeping p a =
    record {
      cmd = p.cmd;
      args = a;
      count = p.count + 1;
      window = cond (p.count == 3) (aimed p.window (code_of p.cmd) (pair_at a 0) (pair_at a 2)) p.window;
      pen = p.pen;
    }

unfoldable pub argued : Panel → ℕ → Panel
argued p b = cond (nat_lt p.count 4) (keeping p (slice_set p.args p.count b)) p

-- ---- data

unfoldable pub fed : Panel → ℕ → Panel
fed p b = cond (code_of p.cmd == 0x2C) (with_pen p (penned p.window p.pen b)) (argued p b)

unfoldable pub painted : Panel → List ℕ → ℕ → List ℕ
painted p fb b = cond (code_of p.cmd == 0x2C) (inked fb p.pen b) fb

-- ---- DMA: a frame more

unfoldable pub frame_counted : Panel → Panel
frame_counted p = with_frames p (counts p.pen.frames)
