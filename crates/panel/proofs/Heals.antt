-- Demand 3, the panel's part: damage between two 0x2C is gone once a whole window has followed, and stays gone.
use Rattle.std.proofs.Common.{◌≡◌, ℕ, ◌<◌, ◌≤◌, Bool, true, false, cond, eqb, ltb, List, [], ◌∷◌, refl, ap, ◌∙◌, arith}
use native.Mathlib.Decide.{dec_lt}
use Rattle.std.specs.Prelude.{None, Some}
use Rattle.panel.specs.Lcd.{MaybeByte}
use Rattle.panel.specs.declared.Window.{Window}
use Rattle.panel.specs.declared.Pen.{Pen}
use Rattle.panel.specs.declared.Panel.{Panel}
use Rattle.panel.specs.Lcd.{pen_at, with_pen, with_frames, panel_with, commanded, frame_counted, penned, inked, code_of}
use Rattle.panel.specs.Lcd.{argued, fed, painted}
use Rattle.panel.specs.Entries.{Screen, screen}
use Rattle.panel.specs.Runs.{Input, byte, copy, Act, order, input, screen_after_command, screen_after_input, later}
use Rattle.panel.specs.Runs.{redrawn, bytes_in, copies, window_bytes, uncounted}
use Rattle.panel.specs.Runs.{Same, EndsDamage}
use Rattle.panel.proofs.Touch.{row}
use Rattle.panel.proofs.Pens.{pen_after, ink, feed_pixels, sight, next_is, Healed}
use Rattle.panel.proofs.Sweep.{Still, under, here, same, at_start, swept}
use Rattle.panel.proofs.Stray.{alike, Aside, inside, apart, Astray, agreed, stray}

-- ---- at the end of the window

abbrev pub start : Window → ℕ → Pen
start w f = pen_at w.x0 w.y0 None f

abbrev pub writing : Window → Pen → Panel
writing w q = panel_with (Some 0x2C) w q

abbrev pub frames_after : Window → ℕ → List Input → ℕ
frames_after w f is = (pen_after w (start w f) is).frames

pub redrawn_is : (p : Panel) (fb : List ℕ) (between after : List Input)
    → redrawn (screen p fb) between after
    ≡ screen
    (writing p.window (pen_after p.window (start p.window (frames_after p.window p.pen.frames between))
    after))
    (ink p.window (start p.window (frames_after p.window p.pen.frames between))
    (ink p.window (start p.window p.pen.frames) fb between) after)
unfolding commanded
redrawn_is p fb between after =
    rw (feed_pixels (screen (writing p.window (start p.window p.pen.frames)) fb) between refl)
    (feed_pixels _ after refl)

-- a sweep from the window's first pixel has all of the window to write
to_sweep : (w : Window) (fb gb : List ℕ) (k : ℕ) → Aside w fb gb k → Dec (w.y0 < row k)
    → Still w w.x0 w.y0 fb gb k
to_sweep w fb gb k (apart p) d = same p
to_sweep w fb gb k (inside c) (yes u) = under c u
to_sweep w fb gb k (inside c) (no n) = here c (omega (arith, c.inside.top)) c.inside.left

at_end : (s : Screen) (after one two : List Input) → window_bytes s.panel.window ≤ bytes_in after
    → copies one ≡ copies two
    → Same (redrawn s one after) (redrawn s two after)
at_end s after one two l e =
    rw (redrawn_is s.panel s.fb one after, redrawn_is s.panel s.fb two after)
    (let w = s.panel.window in
    let f = s.panel.pen.frames in
    let i = at_start w in
    let a : Astray w (ink w (start w f) s.fb one) (ink w (start w f) s.fb two) =
    stray w one two (alike one two e) _ _ None f _ _ None f s.fb s.fb i i (agreed w s.fb) in
    let r : Healed w (start w (frames_after w f one)) (start w (frames_after w f two)) (ink w (start w f) s.fb one)
    (ink w (start w f) s.fb two) after =
    swept w after _ _ _ _ a.sized (λ k. to_sweep w _ _ k (a.outside k) (dec_lt w.y0 (row k))) l in
    record { pixels = r.pixels; state = ap (writing w) r.pen })

-- ---- and from then on: the count of frames bears on nothing else

pick_same : (t : Bool) (a b c d : Panel) → uncounted a ≡ uncounted c → uncounted b ≡ uncounted d
    → uncounted (cond t a b) ≡ uncounted (cond t c d)
pick_same true a b c d p q = p
pick_same false a b c d p q = q

penned_same : (w : Window) (x y : ℕ) (h : MaybeByte) (f g b : ℕ) → sight (penned w (pen_at x y h f) b)
    ≡ sight (penned w (pen_at x y h g) b)
unfolding penned
penned_same w x y None f g b = refl
penned_same w x y (Some h) f g b = rw (next_is w x y (Some h) f, next_is w x y (Some h) g)

inked_same : (fb : List ℕ) (x y : ℕ) (h : MaybeByte) (f g b : ℕ)
    → inked fb (pen_at x y h f) b ≡ inked fb (pen_at x y h g) b
unfolding inked
inked_same fb x y None f g b = refl
inked_same fb x y (Some h) f g b = refl

fed_same : (p : Panel) (f g b : ℕ) → uncounted (fed (with_frames p f) b) ≡ uncounted (fed (with_frames p g) b)
unfolding fed argued
fed_same p f g b =
    pick_same (eqb (code_of p.cmd) 0x2C) _ _ _ _
    (ap (with_pen p) (penned_same p.window p.pen.x p.pen.y p.pen.half f g b))
    (pick_same (ltb p.count 4) _ _ _ _ refl refl)

painted_same : (p : Panel) (fb : List ℕ) (f g b : ℕ) → painted (with_frames p f) fb b ≡ painted (with_frames p g) fb b
unfolding painted
painted_same p fb f g b =
    ap (λ l. cond (eqb (code_of p.cmd) 0x2C) l fb) (inked_same fb p.pen.x p.pen.y p.pen.half f g b)

commanded_same : (p : Panel) (f g c : ℕ) → uncounted (commanded (with_frames p f) c)
    ≡ uncounted (commanded (with_frames p g) c)
unfolding commanded
commanded_same p f g c = ap (panel_with (Some c) p.window) (go (eqb c 0x2C))
  where
    go : (t : Bool)
        → sight (cond t (start p.window f) (pen_at p.pen.x p.pen.y None f))
        ≡ sight (cond t (start p.window g) (pen_at p.pen.x p.pen.y None g))
    go true = refl
    go false = refl

module _ {s t : Screen} (r : Same s t) where
  abbrev frames : Screen → ℕ
  frames u = u.panel.pen.frames

  pub keeps_order : (c : ℕ) → Same (screen_after_command s c) (screen_after_command t c)
  keeps_order c =
      record {
        pixels = r.pixels;
        state =
            commanded_same (uncounted s.panel) (frames s) (frames t) c
            ∙ ap (λ q. uncounted (commanded (with_frames q (frames t)) c)) r.state;
      }

  pub keeps_input : (i : Input) → Same (screen_after_input s i) (screen_after_input t i)
  unfolding frame_counted
  keeps_input (byte b) =
      record {
        pixels =
            ap (λ l. painted s.panel l b) r.pixels
            ∙ painted_same (uncounted s.panel) t.fb (frames s) (frames t) b
            ∙ ap (λ q. painted (with_frames q (frames t)) t.fb b) r.state;
        state =
            fed_same (uncounted s.panel) (frames s) (frames t) b
            ∙ ap (λ q. uncounted (fed (with_frames q (frames t)) b)) r.state;
      }
  keeps_input (copy m) = record { pixels = refl; state = r.state }

-- what agrees goes on agreeing, whatever follows in both
pub lasting : {s t : Screen} (acts : List Act) → Same s t → Same (later s acts) (later t acts)
unfolding later
lasting [] r = r
lasting {s = s} {t = t} (order c ∷ acts) r =
    lasting {s = screen_after_command s c} {t = screen_after_command t c} acts (keeps_order r c)
lasting {s = s} {t = t} (input i ∷ acts) r =
    lasting {s = screen_after_input s i} {t = screen_after_input t i} acts (keeps_input r i)

pub heals : EndsDamage
heals s after l one two acts e = lasting acts (at_end s after one two l e)
