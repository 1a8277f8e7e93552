-- The branches of the definitions, each with the fact that leads to it.
use Rattle.std.proofs.Common.{◌≡◌, ℕ, ◌+◌, ◌<◌, ◌≤◌, ◌≢◌, List, length, set, sym, ap, ◌∙◌, arith, le-ltb, lt-ltb}
use Rattle.std.proofs.Common.{eq-eqb, ne_eqb}
use Rattle.std.specs.Prelude.{None, Some}
use Rattle.map.specs.Numbers.{DONE, BAD_MEMORY, FRAMEBUFFER_SIZE, SCREEN_BYTES}
use Rattle.panel.specs.declared.Window.{Window}
use Rattle.panel.specs.declared.Pen.{Pen}
use Rattle.panel.specs.declared.Panel.{Panel}
use Rattle.panel.specs.Lcd.{pen_at, with_pen, with_frames, panel_with, counts, commanded, frame_counted, spot, put}
use Rattle.panel.specs.Lcd.{next_pen, penned, inked, code_of, aimed, pair_at, argued, fed, painted}
use Rattle.panel.specs.Colour.{pixel_at, rgb_of}
use Rattle.panel.specs.Entries.{Screen, screen, Drawing, drawing, data_of, pixel_of, black, picture_of}

-- ---- command
module _ (p : Panel) (c : ℕ) where
  pub commanded_start : c ≡ 0x2C → commanded p c ≡ panel_with (Some c) p.window
      (pen_at p.window.x0 p.window.y0 None p.pen.frames)
  unfolding commanded
  commanded_start e = simp (eq-eqb _ _ e)

  pub commanded_stay : c ≢ 0x2C → commanded p c ≡ panel_with (Some c) p.window
      (pen_at p.pen.x p.pen.y None p.pen.frames)
  unfolding commanded
  commanded_stay n = simp (ne_eqb _ _ n)

-- ---- pixel
module _ (fb : List ℕ) (x y h b : ℕ) where
  pub put_on : x < 128 → y < 128 → put fb x y h b ≡ set (set fb (spot x y) b) (spot x y + 1) h
  unfolding put
  put_on hx hy = simp (lt-ltb _ _ hx, lt-ltb _ _ hy)

  pub put_right : 128 ≤ x → put fb x y h b ≡ fb
  unfolding put
  put_right hx = simp (le-ltb _ _ hx)

  pub put_below : x < 128 → 128 ≤ y → put fb x y h b ≡ fb
  unfolding put
  put_below hx hy = simp (lt-ltb _ _ hx, le-ltb _ _ hy)

module _ (w : Window) (p : Pen) where
  pub next_along : p.x < w.x1 → next_pen w p ≡ pen_at (p.x + 1) p.y None p.frames
  unfolding next_pen
  next_along hx = simp (le-ltb w.x1 (p.x + 1) (omega arith))

  pub next_down : w.x1 ≤ p.x → p.y < w.y1 → next_pen w p ≡ pen_at w.x0 (p.y + 1) None p.frames
  unfolding next_pen
  next_down hx hy = simp (lt-ltb w.x1 (p.x + 1) (omega arith), le-ltb w.y1 (p.y + 1) (omega arith))

  pub next_round : w.x1 ≤ p.x → w.y1 ≤ p.y → next_pen w p ≡ pen_at w.x0 w.y0 None (counts p.frames)
  unfolding next_pen
  next_round hx hy = simp (lt-ltb w.x1 (p.x + 1) (omega arith), lt-ltb w.y1 (p.y + 1) (omega arith))

-- ---- data after 0x2C
module _ (w : Window) (p : Pen) (b : ℕ) where
  pub penned_first : p.half ≡ None → penned w p b ≡ pen_at p.x p.y (Some b) p.frames
  unfolding penned
  penned_first e = rw e

  pub penned_second : (h : ℕ) → p.half ≡ Some h → penned w p b ≡ next_pen w p
  unfolding penned
  penned_second h e = rw e

module _ (fb : List ℕ) (p : Pen) (b : ℕ) where
  pub inked_first : p.half ≡ None → inked fb p b ≡ fb
  unfolding inked
  inked_first e = rw e

  pub inked_second : (h : ℕ) → p.half ≡ Some h → inked fb p b ≡ put fb p.x p.y h b
  unfolding inked
  inked_second h e = rw e

-- ---- data after another command
module _ (w : Window) (c lo hi : ℕ) where
  pub aimed_columns : c ≡ 0x2A → aimed w c lo hi ≡ record { x0 = lo; x1 = hi; y0 = w.y0; y1 = w.y1 }
  unfolding aimed
  aimed_columns e = simp (eq-eqb _ _ e)

  pub aimed_rows : c ≢ 0x2A → c ≡ 0x2B → aimed w c lo hi ≡ record { x0 = w.x0; x1 = w.x1; y0 = lo; y1 = hi }
  unfolding aimed
  aimed_rows n e = simp (ne_eqb _ _ n, eq-eqb _ _ e)

  pub aimed_not : c ≢ 0x2A → c ≢ 0x2B → aimed w c lo hi ≡ w
  unfolding aimed
  aimed_not n m = simp (ne_eqb _ _ n, ne_eqb _ _ m)

module _ (p : Panel) (b : ℕ) where
  abbrev more_args : List ℕ
  more_args = set p.args p.count b

  pub argued_fourth : p.count ≡ 3
      → argued p b
      ≡ record {
        cmd = p.cmd;
        args = more_args;
        count = p.count + 1;
        window = aimed p.window (code_of p.cmd) (pair_at more_args 0) (pair_at more_args 2);
        pen = p.pen;
      }
  unfolding argued
  argued_fourth e = simp (lt-ltb p.count 4 (omega arith), eq-eqb _ _ e)

  -- as the function finds the window
  pub argues_fourth : (c lo hi : ℕ) (w : Window) → p.count ≡ 3 → lo ≡ pair_at more_args 0 → hi ≡ pair_at more_args 2
      → c ≡ code_of p.cmd → w ≡ aimed p.window c lo hi
      → record { cmd = p.cmd; args = more_args; count = p.count + 1; window = w; pen = p.pen } ≡ argued p b
  argues_fourth c lo hi w e f g h a = rw (a, h, f, g) (sym (argued_fourth e))

  pub argued_kept : p.count < 4 → p.count ≢ 3
      → argued p b ≡ record { cmd = p.cmd; args = more_args; count = p.count + 1; window = p.window; pen = p.pen }
  unfolding argued
  argued_kept h n = simp (lt-ltb _ _ h, ne_eqb _ _ n)

  pub argued_full : 4 ≤ p.count → argued p b ≡ p
  unfolding argued
  argued_full h = simp (le-ltb _ _ h)

-- ---- data
module _ (p : Panel) (b : ℕ) where
  pub fed_pixel : code_of p.cmd ≡ 0x2C → fed p b ≡ with_pen p (penned p.window p.pen b)
  unfolding fed
  fed_pixel e = simp (eq-eqb _ _ e)

  pub fed_argument : code_of p.cmd ≢ 0x2C → fed p b ≡ argued p b
  unfolding fed
  fed_argument n = simp (ne_eqb _ _ n)

  pub painted_pixel : (fb : List ℕ) → code_of p.cmd ≡ 0x2C → painted p fb b ≡ inked fb p.pen b
  unfolding painted
  painted_pixel fb e = simp (eq-eqb _ _ e)

  pub painted_not : (fb : List ℕ) → code_of p.cmd ≢ 0x2C → painted p fb b ≡ fb
  unfolding painted
  painted_not fb n = simp (ne_eqb _ _ n)

-- ---- DMA
pub counts_frame : (p : Panel) (n : ℕ) → n ≡ counts p.pen.frames → with_frames p n ≡ frame_counted p
unfolding frame_counted
counts_frame p n e = rw e

-- ---- a record is known by its fields
pub screen_is : {p q : Panel} {fb gb : List ℕ} → p ≡ q → fb ≡ gb → screen p fb ≡ screen q gb
screen_is e f = rw (e, f)

pub drawing_is : {p q : Pen} {fb gb : List ℕ} → p ≡ q → fb ≡ gb → drawing p fb ≡ drawing q gb
drawing_is e f = rw (e, f)

-- ---- data, with the pixels
module _ (p : Panel) (fb : List ℕ) (b : ℕ) where
  pub draws : (q : Pen) (gb : List ℕ) → code_of p.cmd ≡ 0x2C
      → drawing q gb ≡ drawing (penned p.window p.pen b) (inked fb p.pen b)
      → screen (with_pen p q) gb ≡ screen (fed p b) (painted p fb b)
  draws q gb e d =
      screen_is
      (ap (λ (x : Drawing). with_pen p x.pen) d ∙ sym (fed_pixel p b e))
      (ap (λ (x : Drawing). x.fb) d ∙ sym (painted_pixel p b fb e))

  pub argues : (q : Panel) → code_of p.cmd ≢ 0x2C → q ≡ argued p b → screen q fb ≡ screen (fed p b) (painted p fb b)
  argues q n e = screen_is (e ∙ sym (fed_argument p b n)) (sym (painted_not p b fb n))

-- ---- the entries
module _ (p : Panel) (fb : List ℕ) (b : ℕ) where
  pub data_done : length fb ≡ FRAMEBUFFER_SIZE
      → data_of p fb b ≡ record { refusal = DONE; screen = screen (fed p b) (painted p fb b) }
  unfolding data_of
  data_done e = simp (eq-eqb _ _ e)

  pub data_serves : (q : Panel) (gb : List ℕ) → length fb ≡ FRAMEBUFFER_SIZE
      → screen q gb ≡ screen (fed p b) (painted p fb b)
      → record { refusal = DONE; screen = screen q gb } ≡ data_of p fb b
  data_serves q gb e d = ap (λ (x : Screen). record { refusal = DONE; screen = x }) d ∙ sym (data_done e)

  pub data_refused : length fb ≢ FRAMEBUFFER_SIZE
      → data_of p fb b ≡ record { refusal = BAD_MEMORY; screen = screen p fb }
  unfolding data_of
  data_refused n = simp (ne_eqb _ _ n)

module _ (fb : List ℕ) (k : ℕ) where
  pub pixel_done : length fb ≡ FRAMEBUFFER_SIZE → pixel_of fb k ≡ record { refusal = DONE; colours = pixel_at fb k }
  unfolding pixel_of
  pixel_done e = rw (eq-eqb _ _ e)

  pub pixel_refused : length fb ≢ FRAMEBUFFER_SIZE → pixel_of fb k ≡ record { refusal = BAD_MEMORY; colours = black }
  unfolding pixel_of
  pixel_refused n = rw (ne_eqb _ _ n)

module _ (fb out : List ℕ) where
  pub picture_done : length fb ≡ FRAMEBUFFER_SIZE → length out ≡ SCREEN_BYTES
      → picture_of fb out ≡ record { refusal = DONE; out = rgb_of fb }
  unfolding picture_of
  picture_done e f = rw (eq-eqb _ _ e, eq-eqb _ _ f)

  pub picture_serves : (r : List ℕ) → length fb ≡ FRAMEBUFFER_SIZE → length out ≡ SCREEN_BYTES → r ≡ rgb_of fb
      → record { refusal = DONE; out = r } ≡ picture_of fb out
  picture_serves r e f d = ap (λ (l : List ℕ). record { refusal = DONE; out = l }) d ∙ sym (picture_done e f)

  pub picture_no_room : length fb ≡ FRAMEBUFFER_SIZE → length out ≢ SCREEN_BYTES
      → picture_of fb out ≡ record { refusal = BAD_MEMORY; out = out }
  unfolding picture_of
  picture_no_room e n = rw (eq-eqb _ _ e, ne_eqb _ _ n)

  pub picture_refused : length fb ≢ FRAMEBUFFER_SIZE → picture_of fb out ≡ record { refusal = BAD_MEMORY; out = out }
  unfolding picture_of
  picture_refused n = rw (ne_eqb _ _ n)
