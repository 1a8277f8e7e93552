-- The pen and the pixels during pixel data. The count of frames bears on nothing else.
use Rattle.std.proofs.Common.{◌≡◌, ℕ, ◌+◌, Bool, true, false, cond, ltb, List, [], ◌∷◌, refl}
use Rattle.std.specs.Prelude.{None, Some}
use Rattle.panel.specs.Lcd.{MaybeByte}
use Rattle.panel.specs.declared.Window.{Window}
use Rattle.panel.specs.declared.Pen.{Pen}
use Rattle.panel.specs.Lcd.{pen_at, with_pen, counts, frame_counted, put, next_pen, penned, inked, code_of}
use Rattle.panel.specs.Entries.{Screen, screen}
use Rattle.panel.specs.Runs.{screen_after_input, Input, byte, copy, feed}
use Rattle.panel.proofs.Cases.{fed_pixel, painted_pixel}

-- a run of inputs, over the pen and the pixels alone
unfoldable pub pen_after : Window → Pen → List Input → Pen
pen_after w p [] = p
pen_after w p (byte b ∷ is) = pen_after w (penned w p b) is
pen_after w p (copy m ∷ is) = pen_after w (pen_at p.x p.y p.half (counts p.frames)) is

unfoldable pub ink : Window → Pen → List ℕ → List Input → List ℕ
ink w p fb [] = fb
ink w p fb (byte b ∷ is) = ink w (penned w p b) (inked fb p b) is
ink w p fb (copy m ∷ is) = ink w (pen_at p.x p.y p.half (counts p.frames)) m is

-- it is the run of the whole panel
pub feed_pixels : (s : Screen) (is : List Input) → code_of s.panel.cmd ≡ 0x2C
    → feed s is ≡ screen (with_pen s.panel (pen_after s.panel.window s.panel.pen is))
    (ink s.panel.window s.panel.pen s.fb is)
unfolding feed pen_after ink frame_counted
feed_pixels s [] e = refl
feed_pixels s (byte b ∷ is) e = rw (fed_pixel s.panel b e, painted_pixel s.panel b s.fb e) (feed_pixels
    (screen (with_pen s.panel (penned s.panel.window s.panel.pen b)) (inked s.fb s.panel.pen b)) is e)
feed_pixels s (copy m ∷ is) e = feed_pixels (screen_after_input s (copy m)) is e

-- the next position, field by field
module _ (w : Window) (x y : ℕ) where
  abbrev ends : Bool
  ends = ltb w.x1 (x + 1)

  abbrev last : Bool
  last = ltb w.y1 (y + 1)

  abbrev pub next_x : ℕ
  next_x = cond ends w.x0 (x + 1)

  abbrev pub next_y : ℕ
  next_y = cond ends (cond last w.y0 (y + 1)) y

  abbrev pub next_frames : ℕ → ℕ
  next_frames f = cond ends (cond last (counts f) f) f

  pub next_is : (h : MaybeByte) (f : ℕ) → next_pen w (pen_at x y h f) ≡ pen_at next_x next_y None (next_frames f)
  unfolding next_pen
  next_is h f = go ends last
    where
      go : (a b : Bool)
          → cond a (cond b (pen_at w.x0 w.y0 None (counts f)) (pen_at w.x0 (y + 1) None f))
          (pen_at (x + 1) y None f)
          ≡ pen_at (cond a w.x0 (x + 1)) (cond a (cond b w.y0 (y + 1)) y) None (cond a (cond b (counts f) f) f)
      go true true = refl
      go true false = refl
      go false b = refl

  -- it holds no half pixel
  pub next_empty : (h : MaybeByte) (f : ℕ)
      → next_pen w (pen_at x y h f)
      ≡ pen_at (next_pen w (pen_at x y h f)).x (next_pen w (pen_at x y h f)).y None
      (next_pen w (pen_at x y h f)).frames
  next_empty h f = rw (next_is h f)

-- the pen but for its frames
abbrev pub sight : Pen → Pen
sight p = pen_at p.x p.y p.half 0

-- the same pixels, and the same pen but for its frames, after a run
pub record Healed (w : Window) (p q : Pen) (fb gb : List ℕ) (is : List Input) : Type 0 where
  pub pixels : ink w p fb is ≡ ink w q gb is
  pub pen : sight (pen_after w p is) ≡ sight (pen_after w q is)

pub frameless : (w : Window) (x y : ℕ) (h : MaybeByte) (f g : ℕ) (fb : List ℕ) (is : List Input)
    → Healed w (pen_at x y h f) (pen_at x y h g) fb fb is
unfolding ink pen_after penned inked
frameless w x y h f g fb [] = record { pixels = refl; pen = refl }
frameless w x y h f g fb (copy m ∷ is) =
    let r = frameless w x y h _ _ m is in record { pixels = r.pixels; pen = r.pen }
frameless w x y None f g fb (byte b ∷ is) =
    let r = frameless w x y (Some b) f g fb is in record { pixels = r.pixels; pen = r.pen }
frameless w x y (Some h) f g fb (byte b ∷ is) =
    let r : Healed w (next_pen w (pen_at x y (Some h) f)) (next_pen w (pen_at x y (Some h) g)) (put fb x y h b)
    (put fb x y h b) is =
    rw (next_is w x y (Some h) f, next_is w x y (Some h) g)
    (frameless w (next_x w x y) (next_y w x y) None _ _ (put fb x y h b) is) in
    record { pixels = r.pixels; pen = r.pen }
