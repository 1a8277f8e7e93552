-- One whole window, the same in both, writes every pixel of the window: what differed before is gone.
use Rattle.std.proofs.Common.{◌≡◌, ℕ, suc, ◌+◌, ◌-◌, ◌*◌, ◌<◌, ◌≤◌, max, List, [], ◌∷◌, length, get_or, sym, refl}
use Rattle.std.proofs.Common.{ap, ◌∙◌, suc-mul, arith, ext_get_or}
use native.Mathlib.Decide.{dec_lt}
use Rattle.std.specs.Prelude.{None, Some}
use Rattle.panel.specs.Lcd.{MaybeByte}
use Rattle.panel.specs.declared.Window.{Window}
use Rattle.panel.specs.Lcd.{pen_at, put, next_pen, penned, inked}
use Rattle.panel.specs.Runs.{Input, byte, copy, bytes_in, window_bytes}
use Rattle.panel.proofs.Cases.{next_along, next_down, next_round}
use Rattle.panel.proofs.Touch.{col, row, put_length, Touch, hit, miss, touch}
use Rattle.panel.proofs.Pens.{pen_after, ink, Healed, frameless}

-- the last column and row that are drawn, also where an end lies before its start
abbrev pub last_x : Window → ℕ
last_x w = max w.x0 w.x1

abbrev pub last_y : Window → ℕ
last_y w = max w.y0 w.y1

-- the position x, y lies in the window
pub record Within (w : Window) (x y : ℕ) : Type 0 where
  pub left : w.x0 ≤ x
  pub right : x ≤ last_x w
  pub top : w.y0 ≤ y
  pub low : y ≤ last_y w

-- byte k is part of a pixel of the window that lies on the glass
pub record Cell (w : Window) (k : ℕ) : Type 0 where
  pub inside : Within w (col k) (row k)
  pub glass : row k < 128

-- the next position is in the window again
pub within_next : (w : Window) (x y : ℕ) (h : MaybeByte) (f : ℕ) → Within w x y
    → Within w (next_pen w (pen_at x y h f)).x (next_pen w (pen_at x y h f)).y
within_next w x y h f i = go (dec_lt x w.x1) (dec_lt y w.y1)
  where
    go : Dec (x < w.x1) → Dec (y < w.y1) → Within w (next_pen w (pen_at x y h f)).x (next_pen w (pen_at x y h f)).y
    go (yes p) q =
        rw (next_along w (pen_at x y h f) p)
        (record { left = omega (arith, i.left); right = omega arith; top = i.top; low = i.low })
    go (no p) (yes q) =
        rw (next_down w (pen_at x y h f) (omega arith) q)
        (record { left = omega arith; right = omega arith; top = omega (arith, i.top); low = omega arith })
    go (no p) (no q) =
        rw (next_round w (pen_at x y h f) (omega arith) (omega arith))
        (record { left = omega arith; right = omega arith; top = omega arith; low = omega arith })

-- byte k is yet to be written by a sweep that stands at x, y, or the two agree there
pub data Still (w : Window) (x y : ℕ) (fb gb : List ℕ) (k : ℕ) : Type 0 where
  under : Cell w k → y < row k → Still w x y fb gb k
  here : Cell w k → row k ≡ y → x ≤ col k → Still w x y fb gb k
  same : get_or fb k 0 ≡ get_or gb k 0 → Still w x y fb gb k

-- the sweep writes one pixel
wrote : (w : Window) (x y : ℕ) (fb gb : List ℕ) (h b k : ℕ) → length fb ≡ length gb → Touch x y k → Still w x y fb gb k
    → Still w (x + 1) y (put fb x y h b) (put gb x y h b) k
wrote w x y fb gb h b k e (hit r c g f) s = same (f fb gb h b e)
wrote w x y fb gb h b k e (miss f g) (under c u) = under c u
wrote w x y fb gb h b k e (miss f g) (here c r u) = here c r (g r c.glass u)
wrote w x y fb gb h b k e (miss f g) (same q) = same (f fb h b ∙ q ∙ sym (f gb h b))

-- it goes from the end of a row to the next
down : (w : Window) (x y : ℕ) (fb gb : List ℕ) (k : ℕ) → w.x0 ≤ x → w.x1 ≤ x → Still w (x + 1) y fb gb k
    → Still w w.x0 (y + 1) fb gb k
down w x y fb gb k d e (under c u) = go (dec_lt (y + 1) (row k))
  where
    go : Dec (y + 1 < row k) → Still w w.x0 (y + 1) fb gb k
    go (yes v) = under c v
    go (no v) = here c (omega arith) c.inside.left
down w x y fb gb k d e (here c r u) = absurd (omega (arith, c.inside.right))
down w x y fb gb k d e (same q) = same q

-- and at the end of the last row nothing is left
none_left : (w : Window) (x y : ℕ) (fb gb : List ℕ) (k : ℕ) → Within w x y → w.x1 ≤ x → w.y1 ≤ y
    → Still w (x + 1) y fb gb k → get_or fb k 0 ≡ get_or gb k 0
none_left w x y fb gb k i e l (under c u) = absurd (omega (arith, c.inside.low, i.top))
none_left w x y fb gb k i e l (here c r u) = absurd (omega (arith, c.inside.right, i.left))
none_left w x y fb gb k i e l (same q) = q

settled : (w : Window) (x y : ℕ) (h : MaybeByte) (f g : ℕ) (fb gb : List ℕ) (is : List Input) → length fb ≡ length gb
    → ((k : ℕ) → get_or fb k 0 ≡ get_or gb k 0)
    → Healed w (pen_at x y h f) (pen_at x y h g) fb gb is
settled w x y h f g fb gb is e s = rw (ext_get_or 0 fb gb e (λ i l. s i)) (frameless w x y h f g gb is)

-- ---- how many pixels are left

-- columns of the window
abbrev pub across : Window → ℕ
across w = w.x1 - w.x0 + 1

-- from x, y down to the window's last
abbrev pub rest : Window → ℕ → ℕ → ℕ
rest w x y = (last_y w - y) * across w + (last_x w + 1 - x)

pub row_less : (w : Window) (y : ℕ) → y < w.y1 → (last_y w - y) * across w ≡ (last_y w - (y + 1)) * across w + across w
row_less w y h = ap (λ n. n * across w) e ∙ suc-mul _ _
  where
    e : last_y w - y ≡ suc (last_y w - (y + 1))
    e = omega arith

pub rest_whole : (w : Window) → rest w w.x0 w.y0 ≡ (w.y1 - w.y0 + 1) * across w
rest_whole w = ap (λ n. (last_y w - w.y0) * across w + n) f ∙ sym (ap (λ n. n * across w) e ∙ suc-mul _ _)
  where
    e : w.y1 - w.y0 + 1 ≡ suc (last_y w - w.y0)
    e = omega arith

    f : last_x w + 1 - w.x0 ≡ across w
    f = omega arith

-- a held byte counts
abbrev pub half_bytes : MaybeByte → ℕ
half_bytes None = 0
half_bytes (Some b) = 1

-- from any place of the window a run that takes the sweep to the window's end heals what was left
abbrev Swept : Window → List Input → Type 0
Swept w is =
    (x y : ℕ) (h : MaybeByte) (f g : ℕ) (fb gb : List ℕ) → Within w x y → length fb ≡ length gb
    → ((k : ℕ) → Still w x y fb gb k)
    → rest w x y * 2 ≤ bytes_in is + half_bytes h
    → Healed w (pen_at x y h f) (pen_at x y h g) fb gb is

-- the pen goes on from a pixel that both have just written
module _ (w : Window) (h : ℕ) (is : List Input) (later : Swept w is) where
  step : (x y f g : ℕ) (fb gb : List ℕ) → Within w x y → length fb ≡ length gb → ((k : ℕ) → Still w (x + 1) y fb gb k)
      → rest w x y * 2 ≤ bytes_in is + 2
      → Dec (x < w.x1) → Dec (y < w.y1)
      → Healed w (next_pen w (pen_at x y (Some h) f)) (next_pen w (pen_at x y (Some h) g)) fb gb is
  step x y f g fb gb i e s l (yes p) q =
      rw (next_along w (pen_at x y (Some h) f) p, next_along w (pen_at x y (Some h) g) p)
      (later (x + 1) y None f g fb gb
      (record { left = omega (arith, i.left); right = omega arith; top = i.top; low = i.low }) e s (omega arith))
  step x y f g fb gb i e s l (no p) (yes q) =
      rw (next_down w (pen_at x y (Some h) f) (omega arith) q, next_down w (pen_at x y (Some h) g) (omega arith) q)
      (later w.x0 (y + 1) None f g fb gb
      (record { left = omega arith; right = omega arith; top = omega (arith, i.top); low = omega arith }) e
      (λ k. down w x y fb gb k i.left (omega arith) (s k)) (omega (arith, row_less w y q, i.left, i.right)))
  step x y f g fb gb i e s l (no p) (no q) =
      rw (
        next_round w (pen_at x y (Some h) f) (omega arith) (omega arith),
        next_round w (pen_at x y (Some h) g)
            (omega arith) (omega arith),
      )
      (settled w w.x0 w.y0 None _ _ fb gb is e
      (λ k. none_left w x y fb gb k i (omega arith) (omega arith) (s k)))

sweep : (w : Window) (is : List Input) → Swept w is
unfolding ink pen_after penned inked bytes_in
sweep w [] x y None f g fb gb i e s l = absurd (omega (arith, i.right))
sweep w [] x y (Some h) f g fb gb i e s l = absurd (omega (arith, i.right))
sweep w (copy m ∷ is) x y h f g fb gb i e s l =
    let r = sweep w is x y h _ _ m m i refl (λ k. same refl) l in record { pixels = r.pixels; pen = r.pen }
sweep w (byte b ∷ is) x y None f g fb gb i e s l =
    let r = sweep w is x y (Some b) f g fb gb i e s (omega arith) in record { pixels = r.pixels; pen = r.pen }
sweep w (byte b ∷ is) x y (Some h) f g fb gb i e s l =
    let r = step w h is (sweep w is) x y f g (put fb x y h b) (put gb x y h b) i
    (put_length fb x y h b ∙ e ∙ sym (put_length gb x y h b))
    (λ k. wrote w x y fb gb h b k e (touch x y k) (s k)) (omega arith) (dec_lt x w.x1) (dec_lt y w.y1) in
    record { pixels = r.pixels; pen = r.pen }

-- the window's start
pub at_start : (w : Window) → Within w w.x0 w.y0
at_start w = record { left = omega arith; right = omega arith; top = omega arith; low = omega arith }

-- from the window's start, where the two agree outside of it
pub swept : (w : Window) (is : List Input) (f g : ℕ) (fb gb : List ℕ) → length fb ≡ length gb
    → ((k : ℕ) → Still w w.x0 w.y0 fb gb k)
    → window_bytes w ≤ bytes_in is
    → Healed w (pen_at w.x0 w.y0 None f) (pen_at w.x0 w.y0 None g) fb gb is
swept w is f g fb gb e s l = sweep w is w.x0 w.y0 None f g fb gb (at_start w) e s (omega (arith, rest_whole w))
