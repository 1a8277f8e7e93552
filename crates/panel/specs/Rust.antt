-- core/src/sys.rs, "LCD", word for word: Lcd, command, data, pixel, and what lcd_dma does to it. LCD_W and LCD_H are
-- 128. It shares nothing with the panel's own definition but what reaches it. last_vsync is with the clocks; rgb is in
-- Colour.antt.
use Rattle.std.specs.Prelude.{ℕ, ◌+◌, ◌-◌, ◌*◌, ◌/◌, ◌%◌, ◌^◌, Bool, false, cond, ◌&&◌, ◌||◌, List, [], ◌∷◌, ◌++◌}
use Rattle.std.specs.Prelude.{length, ◌==◌, bit_or, nat_lt, slice_index, slice_set}
use Rattle.map.specs.Numbers.{LCD_W, LCD_H}
use Rattle.panel.specs.Runs.{byte, copy, Act, order, input}

pub data Option : Type 0 where
  none : Option
  some : ℕ → Option

-- == Some(c)
abbrev pub is_some : Option → ℕ → Bool
is_some none c = false
is_some (some b) c = b == c

-- pub struct Lcd
pub record Lcd : Type 0 where
  pub fb : List ℕ
  pub cmd : Option
  pub args : List ℕ
  pub x0 : ℕ
  pub x1 : ℕ
  pub y0 : ℕ
  pub y1 : ℕ
  pub x : ℕ
  pub y : ℕ
  pub half : Option
  pub frames : ℕ

-- impl Default for Lcd, over the pixels fb
abbrev pub default : List ℕ → Lcd
default fb =
    record {
      fb = fb;
      cmd = none;
      args = [];
      x0 = 0;
      x1 = LCD_W - 1;
      y0 = 0;
      y1 = LCD_H - 1;
      x = 0;
      y = 0;
      half = none;
      frames = 0;
    }

-- ---- assignments: what is not named stays

abbrev pub with_command : Lcd → Option → List ℕ → Option → Lcd
with_command l cmd args half =
    record {
      fb = l.fb;
      cmd = cmd;
      args = args;
      x0 = l.x0;
      x1 = l.x1;
      y0 = l.y0;
      y1 = l.y1;
      x = l.x;
      y = l.y;
      half = half;
      frames = l.frames;
    }

abbrev pub with_window : Lcd → ℕ → ℕ → ℕ → ℕ → Lcd
with_window l x0 x1 y0 y1 =
    record {
      fb = l.fb;
      cmd = l.cmd;
      args = l.args;
      x0 = x0;
      x1 = x1;
      y0 = y0;
      y1 = y1;
      x = l.x;
      y = l.y;
      half = l.half;
      frames = l.frames;
    }

abbrev pub with_pixels : Lcd → List ℕ → ℕ → ℕ → ℕ → Lcd
with_pixels l fb x y frames =
    record {
      fb = fb;
      cmd = l.cmd;
      args = l.args;
      x0 = l.x0;
      x1 = l.x1;
      y0 = l.y0;
      y1 = l.y1;
      x = x;
      y = y;
      half = l.half;
      frames = frames;
    }

abbrev pub with_half : Lcd → Option → Lcd
with_half l h = with_command l l.cmd l.args h

abbrev pub with_args : Lcd → List ℕ → Lcd
with_args l a = with_command l l.cmd a l.half

abbrev pub with_columns : Lcd → ℕ → ℕ → Lcd
with_columns l lo hi = with_window l lo hi l.y0 l.y1

abbrev pub with_rows : Lcd → ℕ → ℕ → Lcd
with_rows l lo hi = with_window l l.x0 l.x1 lo hi

abbrev pub with_position : Lcd → ℕ → ℕ → ℕ → Lcd
with_position l x y frames = with_pixels l l.fb x y frames

abbrev pub with_fb : Lcd → List ℕ → Lcd
with_fb l fb = with_pixels l fb l.x l.y l.frames

-- ---- fn command(&mut self, c: u8)

-- self.cmd = Some(c); self.args.clear(); self.half = None
abbrev pub with_new_command : Lcd → ℕ → Lcd
with_new_command l c = with_command l (some c) [] none

-- if c == 0x2C { self.x = self.x0; self.y = self.y0 }
unfoldable pub lcd_command : Lcd → ℕ → Lcd
lcd_command l c = cond (c == 0x2C) (with_position (with_new_command l c) l.x0 l.y0 l.frames) (with_new_command l c)

-- ---- fn pixel(&mut self, rgb565: u16)

-- let i = (y * LCD_W + x) * 2; self.fb[i..i + 2].copy_from_slice(&rgb565.to_le_bytes())
abbrev pub copied : List ℕ → ℕ → ℕ → List ℕ
copied fb i rgb565 = slice_set (slice_set fb i (rgb565 % 256)) (i + 1) (rgb565 / 256)

-- if x < LCD_W && y < LCD_H
abbrev pub lcd_put : Lcd → ℕ → List ℕ
lcd_put l rgb565 = cond (nat_lt l.x LCD_W && nat_lt l.y LCD_H) (copied l.fb ((l.y * LCD_W + l.x) * 2) rgb565)
    l.fb

-- += 1 of a u32 and of a u64, in a release build
abbrev pub inc32 : ℕ → ℕ
inc32 n = (n + 1) % 2 ^ 32

abbrev pub inc64 : ℕ → ℕ
inc64 n = (n + 1) % 2 ^ 64

-- self.x += 1; if self.x > self.x1 { self.x = self.x0; self.y += 1; if self.y > self.y1 { self.y = self.y0; self.frames
-- += 1 } }
abbrev pub lcd_step : Lcd → Lcd
lcd_step l =
    cond (nat_lt l.x1 (inc32 l.x))
    (cond (nat_lt l.y1 (inc32 l.y)) (with_position l l.x0 l.y0 (inc64 l.frames))
    (with_position l l.x0 (inc32 l.y) l.frames))
    (with_position l (inc32 l.x) l.y l.frames)

unfoldable pub lcd_pixel : Lcd → ℕ → Lcd
lcd_pixel l rgb565 = lcd_step (with_fb l (lcd_put l rgb565))

-- ---- fn data(&mut self, b: u8)

-- match self.half.take() { None => self.half = Some(b), Some(h) => self.pixel((h as u16) << 8 | b as u16) }
abbrev pub lcd_half : Lcd → Option → ℕ → Lcd
lcd_half l none b = with_half l (some b)
lcd_half l (some h) b = lcd_pixel (with_half l none) (bit_or (h * 2 ^ 8) b)

-- (args[i] as u32) << 8 | args[i + 1] as u32
abbrev pub pair_of : List ℕ → ℕ → ℕ
pair_of args i = bit_or (slice_index args i * 2 ^ 8) (slice_index args (i + 1))

-- self.args.push(b); if self.args.len() == 4 && matches!(self.cmd, Some(0x2A) | Some(0x2B)) { .. }
abbrev pub lcd_args : Lcd → List ℕ → Lcd
lcd_args l args =
    cond (length args == 4 && (is_some l.cmd 0x2A || is_some l.cmd 0x2B))
    (cond (is_some l.cmd 0x2A) (with_columns (with_args l args) (pair_of args 0) (pair_of args 2))
    (with_rows (with_args l args) (pair_of args 0) (pair_of args 2)))
    (with_args l args)

unfoldable pub lcd_data : Lcd → ℕ → Lcd
lcd_data l b = cond (is_some l.cmd 0x2C) (lcd_half l l.half b) (lcd_args l (l.args ++ (b ∷ [])))

-- ---- fn lcd_dma: fb read anew, self.lcd.frames += 1

abbrev pub lcd_dma : Lcd → List ℕ → Lcd
lcd_dma l m = with_position (with_fb l m) l.x l.y (inc64 l.frames)

-- ---- whatever comes

abbrev pub lcd_after_act : Lcd → Act → Lcd
lcd_after_act l (order c) = lcd_command l c
lcd_after_act l (input (byte b)) = lcd_data l b
lcd_after_act l (input (copy m)) = lcd_dma l m

unfoldable pub lcd_after_acts : Lcd → List Act → Lcd
lcd_after_acts l [] = l
lcd_after_acts l (a ∷ acts) = lcd_after_acts (lcd_after_act l a) acts
