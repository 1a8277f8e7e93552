-- The panel does as sys.rs does.
use Rattle.std.proofs.Common.{◌≡◌, ℕ, zero, suc, ◌+◌, ◌*◌, ◌/◌, ◌%◌, ◌^◌, ◌<◌, min, Bool, true, false, cond, ◌&&◌}
use Rattle.std.proofs.Common.{◌||◌, eqb, ltb, List, [], ◌∷◌, ◌++◌, length, get_or, sym, refl, ap, ◌∙◌, arith}
use Rattle.std.proofs.Common.{length-append, le-ltb, lt-ltb, ne_eqb}
use lib.Bits.{bit_or, or_shifted}
use native.Mathlib.Decide.{dec_lt}
use Rattle.std.specs.Prelude.{None, Some}
use Rattle.whole.proofs.Words.{either as pick}
use Rattle.panel.specs.declared.Panel.{Panel}
use Rattle.panel.specs.Lcd.{pen_at, with_pen, panel_with, counts, commanded, frame_counted, put, next_pen, penned_by}
use Rattle.panel.specs.Lcd.{inked_by, penned, inked, code_of, aimed}
use Rattle.panel.specs.Lcd.{argued, fed, painted}
use Rattle.panel.specs.Entries.{Screen, screen}
use Rattle.panel.specs.Runs.{byte, copy, Act, order, input, screen_after_command, screen_after_input, later}
use Rattle.panel.specs.Rust.{Lcd, Option, none, some, is_some, default, with_new_command, lcd_command, lcd_pixel}
use Rattle.panel.specs.Rust.{lcd_put, lcd_step, inc32}
use Rattle.panel.specs.Rust.{inc64, with_position, with_half, with_fb, with_args, with_columns, with_rows, lcd_half}
use Rattle.panel.specs.Rust.{lcd_args, lcd_data, lcd_dma}
use Rattle.panel.specs.Rust.{lcd_after_acts, pair_of}
use Rattle.panel.specs.AsRust.{maybe_of, compact, Bytes, AsRust}

-- ---- command
as_command : (l : Lcd) (c : ℕ) → compact (lcd_command l c) ≡ screen_after_command (compact l) c
unfolding lcd_command commanded
as_command l c = go (eqb c 0x2C)
  where
    go : (t : Bool)
        → compact (cond t (with_position (with_new_command l c) l.x0 l.y0 l.frames) (with_new_command l c))
        ≡ screen
        (panel_with (Some c) (compact l).panel.window
        (cond t (pen_at l.x0 l.y0 None l.frames) (pen_at l.x l.y None l.frames)))
        l.fb
    go true = refl
    go false = refl

-- ---- what the types of the Rust say: ends and positions come from two bytes each

abbrev pub Small : Option → Type 0
Small none = Unit {0}
Small (some b) = b < 256

abbrev pub Smalls : List ℕ → Type 0
Smalls [] = Unit {0}
Smalls (b ∷ bs) = (b < 256) × Smalls bs

pub record Fits (l : Lcd) : Type 0 where
  pub x0 : l.x0 < 2 ^ 16
  pub x1 : l.x1 < 2 ^ 16
  pub y0 : l.y0 < 2 ^ 16
  pub y1 : l.y1 < 2 ^ 16
  pub x : l.x < 2 ^ 16
  pub y : l.y < 2 ^ 16
  pub half : Small l.half
  pub args : Smalls l.args

-- ---- pixel
inc_small : (n : ℕ) → n < 2 ^ 16 → inc32 n ≡ n + 1
inc_small n h = omega arith

low_byte : (h b : ℕ) → b < 256 → bit_or (h * 2 ^ 8) b % 256 ≡ b
low_byte h b l = ap (λ n. n % 256) (or_shifted h 8 b l) ∙ omega arith

high_byte : (h b : ℕ) → b < 256 → bit_or (h * 2 ^ 8) b / 256 ≡ h
high_byte h b l = ap (λ n. n / 256) (or_shifted h 8 b l) ∙ omega arith

as_put : (l : Lcd) (h b : ℕ) → b < 256 → lcd_put l (bit_or (h * 2 ^ 8) b) ≡ put l.fb l.x l.y h b
unfolding put
as_put l h b s = rw (low_byte h b s, high_byte h b s) (go _ (ltb l.x 128) (ltb l.y 128))
  where
    go : (m : List ℕ) (t u : Bool) → cond (t && u) m l.fb ≡ cond t (cond u m l.fb) l.fb
    go m true true = refl
    go m true false = refl
    go m false u = refl

-- the step to the next position: no sum goes round
as_step : (l : Lcd) → l.x < 2 ^ 16 → l.y < 2 ^ 16
    → compact (lcd_step (with_half l none))
    ≡ screen (with_pen (compact l).panel (next_pen (compact l).panel.window (compact l).panel.pen)) l.fb
unfolding next_pen
as_step l hx hy = rw (inc_small l.x hx, inc_small l.y hy) (go (ltb l.x1 (l.x + 1)) (ltb l.y1 (l.y + 1)))
  where
    go : (t u : Bool)
        → compact
        (cond t
        (cond u (with_position (with_half l none) l.x0 l.y0 (inc64 l.frames))
        (with_position (with_half l none) l.x0 (l.y + 1) l.frames))
        (with_position (with_half l none) (l.x + 1) l.y l.frames))
        ≡ screen
        (with_pen (compact l).panel
        (cond t
        (cond u (pen_at l.x0 l.y0 None (counts l.frames)) (pen_at l.x0 (l.y + 1) None l.frames))
        (pen_at (l.x + 1) l.y None l.frames)))
        l.fb
    go true true = refl
    go true false = refl
    go false u = refl

-- ---- data after 0x2C
as_half : (l : Lcd) (o : Option) (b : ℕ) → Fits l → b < 256
    → compact (lcd_half l o b)
    ≡ screen
    (with_pen (compact l).panel (penned_by (maybe_of o) (compact l).panel.window (compact l).panel.pen b))
    (inked_by (maybe_of o) l.fb (compact l).panel.pen b)
unfolding lcd_pixel
as_half l none b f s = refl
as_half l (some h) b f s =
    rw (as_put (with_half l none) h b s) (as_step (with_fb l (put l.fb l.x l.y h b)) f.x f.y)

-- ---- data after another command

-- no command is no byte
code_is : (o : Option) (c : ℕ) → c < 256 → is_some o c ≡ eqb (code_of (maybe_of o)) c
code_is none c h = sym (ne_eqb 256 c (λ e. omega arith))
code_is (some b) c h = refl

-- the panel with the list of arguments a
abbrev arguing : Lcd → List ℕ → Panel
arguing l a = (compact (with_args l a)).panel

as_fourth : (l : Lcd) (a b c d : ℕ) → b < 256 → d < 256
    → compact (lcd_args l (a ∷ b ∷ c ∷ d ∷ [])) ≡ screen (argued (arguing l (a ∷ b ∷ c ∷ [])) d) l.fb
unfolding argued aimed
as_fourth l a b c d hb hd =
    rw (
      or_shifted a 8 b hb,
      or_shifted c 8 d hd,
      code_is l.cmd 0x2A (omega arith),
      code_is l.cmd 0x2B
          (omega arith),
    )
    (go (eqb (code_of (maybe_of l.cmd)) 0x2A) (eqb (code_of (maybe_of l.cmd)) 0x2B))
  where
    go : (t u : Bool)
        → compact
        (cond (t || u)
        (cond t
        (with_columns (with_args l (a ∷ b ∷ c ∷ d ∷ [])) (a * 2 ^ 8 + b) (c * 2 ^ 8 + d))
        (with_rows (with_args l (a ∷ b ∷ c ∷ d ∷ [])) (a * 2 ^ 8 + b) (c * 2 ^ 8 + d)))
        (with_args l (a ∷ b ∷ c ∷ d ∷ [])))
        ≡ screen
        (record {
          cmd = maybe_of l.cmd;
          args = a ∷ b ∷ c ∷ d ∷ [];
          count = 4;
          window =
              cond t (record { x0 = a * 256 + b; x1 = c * 256 + d; y0 = l.y0; y1 = l.y1 })
              (cond u (record { x0 = l.x0; x1 = l.x1; y0 = a * 256 + b; y1 = c * 256 + d })
              (compact l).panel.window);
          pen = (compact l).panel.pen;
        })
        l.fb
    go true u = refl
    go false true = refl
    go false false = refl

-- later ones are not kept
as_more : (l : Lcd) (p q r t : ℕ) (rest : List ℕ) (b : ℕ)
    → compact (lcd_args l (p ∷ q ∷ r ∷ t ∷ (rest ++ (b ∷ []))))
    ≡ screen (argued (arguing l (p ∷ q ∷ r ∷ t ∷ rest)) b) l.fb
unfolding argued
as_more l p q r t rest b =
    let n = length-append rest (b ∷ []) in
    let long = length (p ∷ q ∷ r ∷ t ∷ (rest ++ (b ∷ []))) in
    let over : eqb long 4 ≡ false = ne_eqb long 4 (λ e. omega (arith, n, e)) in
    let all : min long 4 ≡ 4 = omega arith in
    let full : min (length (p ∷ q ∷ r ∷ t ∷ rest)) 4 ≡ 4 = omega arith in
    rw (over, all, full)

as_args : (l : Lcd) (a : List ℕ) (b : ℕ) → Smalls a → b < 256 → compact (lcd_args l (a ++ (b ∷ [])))
    ≡ screen (argued (arguing l a) b) l.fb
unfolding argued
as_args l [] b f s = refl
as_args l (p ∷ []) b f s = refl
as_args l (p ∷ q ∷ []) b f s = refl
as_args l (p ∷ q ∷ r ∷ []) b f s = as_fourth l p q r b f.1.0 s
as_args l (p ∷ q ∷ r ∷ t ∷ rest) b f s = as_more l p q r t rest b

-- ---- data
as_data : (l : Lcd) (b : ℕ) → Fits l → b < 256 → compact (lcd_data l b) ≡ screen_after_input (compact l) (byte b)
unfolding lcd_data fed painted penned inked
as_data l b f s = rw (code_is l.cmd 0x2C (omega arith)) (go (eqb (code_of (maybe_of l.cmd)) 0x2C))
  where
    go : (t : Bool)
        → compact (cond t (lcd_half l l.half b) (lcd_args l (l.args ++ (b ∷ []))))
        ≡ screen
        (cond t (with_pen (compact l).panel
        (penned_by (maybe_of l.half) (compact l).panel.window (compact l).panel.pen b))
        (argued (compact l).panel b))
        (cond t (inked_by (maybe_of l.half) l.fb (compact l).panel.pen b) l.fb)
    go true = as_half l l.half b f s
    go false = as_args l l.args b f.args s

-- ---- what fits goes on fitting
fits_command : (l : Lcd) (c : ℕ) → Fits l → Fits (lcd_command l c)
unfolding lcd_command
fits_command l c f =
    pick Fits (eqb c 0x2C) _ _ (placed l.x0 l.y0 f.x0 f.y0) (placed l.x l.y f.x f.y)
  where
    placed : (x y : ℕ) → x < 2 ^ 16 → y < 2 ^ 16 → Fits (with_position (with_new_command l c) x y l.frames)
    placed x y hx hy = record { x0 = f.x0; x1 = f.x1; y0 = f.y0; y1 = f.y1; x = hx; y = hy; half = tt; args = tt }

fits_step : (l : Lcd) → Fits l → Fits (lcd_step l)
fits_step l f =
    rw (inc_small l.x f.x, inc_small l.y f.y) (go (dec_lt l.x1 (l.x + 1)) (dec_lt l.y1 (l.y + 1)))
  where
    placed : (x y n : ℕ) → x < 2 ^ 16 → y < 2 ^ 16 → Fits (with_position l x y n)
    placed x y n hx hy =
        record { x0 = f.x0; x1 = f.x1; y0 = f.y0; y1 = f.y1; x = hx; y = hy; half = f.half; args = f.args }

    go : Dec (l.x1 < l.x + 1) → Dec (l.y1 < l.y + 1)
        → Fits
        (cond (ltb l.x1 (l.x + 1))
        (cond (ltb l.y1 (l.y + 1)) (with_position l l.x0 l.y0 (inc64 l.frames))
        (with_position l l.x0 (l.y + 1) l.frames))
        (with_position l (l.x + 1) l.y l.frames))
    go (yes p) (yes q) = rw (lt-ltb _ _ p, lt-ltb _ _ q) (placed l.x0 l.y0 (inc64 l.frames) f.x0 f.y0)
    go (yes p) (no q) =
        rw (lt-ltb _ _ p, le-ltb l.y1 (l.y + 1) (omega arith))
        (placed l.x0 (l.y + 1) l.frames f.x0 (omega (arith, f.y1)))
    go (no p) q =
        rw (le-ltb l.x1 (l.x + 1) (omega arith))
        (placed (l.x + 1) l.y l.frames (omega (arith, f.x1)) f.y)

fits_half : (l : Lcd) (o : Option) (b : ℕ) → Fits l → b < 256 → Fits (lcd_half l o b)
unfolding lcd_pixel
fits_half l none b f s =
    record { x0 = f.x0; x1 = f.x1; y0 = f.y0; y1 = f.y1; x = f.x; y = f.y; half = s; args = f.args }
fits_half l (some h) b f s =
    fits_step _ (record {
      x0 = f.x0;
      x1 = f.x1;
      y0 = f.y0;
      y1 = f.y1;
      x = f.x;
      y = f.y;
      half = tt;
      args = f.args;
    })

smalls_more : (a : List ℕ) (b : ℕ) → Smalls a → b < 256 → Smalls (a ++ (b ∷ []))
smalls_more [] b f s = (s, tt)
smalls_more (x ∷ a) b f s = (f.0, smalls_more a b f.1 s)

-- an argument is a byte, also one that is not there
small_at : (a : List ℕ) (i : ℕ) → Smalls a → get_or a i 0 < 256
small_at [] i f = omega arith
small_at (x ∷ a) zero f = f.0
small_at (x ∷ a) (suc i) f = small_at a i f.1

small_pair : (a : List ℕ) (i : ℕ) → Smalls a → pair_of a i < 2 ^ 16
small_pair a i f =
    let p = small_at a i f in let q = small_at a (i + 1) f in rw (or_shifted (get_or a i 0) 8 (get_or a (i + 1) 0) q)
    (omega arith)

fits_args : (l : Lcd) (a : List ℕ) → Fits l → Smalls a → Fits (lcd_args l a)
fits_args l a f s =
    pick Fits (eqb (length a) 4 && (is_some l.cmd 0x2A || is_some l.cmd 0x2B)) _ _
    (pick Fits (is_some l.cmd 0x2A) _ _
    (record {
      x0 = small_pair a 0 s;
      x1 = small_pair a 2 s;
      y0 = f.y0;
      y1 = f.y1;
      x = f.x;
      y = f.y;
      half = f.half;
      args = s;
    })
    (record {
      x0 = f.x0;
      x1 = f.x1;
      y0 = small_pair a 0 s;
      y1 = small_pair a 2 s;
      x = f.x;
      y = f.y;
      half = f.half;
      args = s;
    }))
    (record { x0 = f.x0; x1 = f.x1; y0 = f.y0; y1 = f.y1; x = f.x; y = f.y; half = f.half; args = s })

fits_data : (l : Lcd) (b : ℕ) → Fits l → b < 256 → Fits (lcd_data l b)
unfolding lcd_data
fits_data l b f s =
    pick Fits (is_some l.cmd 0x2C) _ _ (fits_half l l.half b f s)
    (fits_args l (l.args ++ (b ∷ [])) f (smalls_more l.args b f.args s))

-- ---- a run
pub runs : (l : Lcd) (acts : List Act) → Fits l → Bytes acts → compact (lcd_after_acts l acts) ≡ later (compact l) acts
unfolding lcd_after_acts later frame_counted
runs l [] f s = refl
runs l (order c ∷ acts) f s =
    runs (lcd_command l c) acts (fits_command l c f) s ∙ ap (λ (v : Screen). later v acts) (as_command l c)
runs l (input (byte b) ∷ acts) f s =
    runs (lcd_data l b) acts (fits_data l b f s.0) s.1 ∙ ap (λ (v : Screen). later v acts) (as_data l b f s.0)
runs l (input (copy m) ∷ acts) f s =
    runs (lcd_dma l m) acts
    (record { x0 = f.x0; x1 = f.x1; y0 = f.y0; y1 = f.y1; x = f.x; y = f.y; half = f.half; args = f.args })
    s

pub as_rust : AsRust
as_rust fb acts s =
    runs (default fb) acts
    (record {
      x0 = omega arith;
      x1 = omega arith;
      y0 = omega arith;
      y1 = omega arith;
      x = omega arith;
      y = omega arith;
      half = tt;
      args = tt;
    }) s
