-- Fewer bytes than a whole window do not heal: they never come to the window's last pixel, which damage can have left
-- in two ways.
use Rattle.std.proofs.Common.{◌≡◌, ℕ, zero, suc, ◌+◌, ◌-◌, ◌*◌, ◌<◌, ◌≤◌, Bool, true, false, List, [], ◌∷◌, length}
use Rattle.std.proofs.Common.{get_or, set, sym, refl, ap, ◌∙◌, zero-mul, arith, get_or-set_other, get_or-set_same}
use native.Mathlib.Decide.{dec_lt}
use Rattle.std.specs.Prelude.{None, Some}
use Rattle.panel.specs.Lcd.{MaybeByte}
use Rattle.panel.specs.declared.Window.{Window}
use Rattle.panel.specs.Lcd.{pen_at, spot, put, next_pen, penned, inked}
use Rattle.panel.specs.Entries.{Screen}
use Rattle.panel.specs.Runs.{Input, byte, copy, later, redrawn, bytes_in, copies, window_bytes, LastSeen, Tight}
use Rattle.panel.proofs.Cases.{put_on, next_along, next_down}
use Rattle.panel.proofs.Touch.{put_length, Touch, hit, miss, touch}
use Rattle.panel.proofs.Pens.{ink, next_empty}
use Rattle.panel.proofs.Sweep.{last_x, last_y, Within, within_next, across, rest, row_less, rest_whole, half_bytes}
use Rattle.panel.proofs.Sweep.{at_start}
use Rattle.panel.proofs.Heals.{start, frames_after, redrawn_is}

-- ---- how far it is to the last pixel

-- from the last row no row is left
no_row : (w : Window) (y : ℕ) → last_y w ≤ y → (last_y w - y) * across w ≡ 0
no_row w y h = ap (λ n. n * across w) e ∙ zero-mul (across w)
  where
    e : last_y w - y ≡ 0
    e = omega arith

-- from any other pixel it is one less from the next
nearer : (w : Window) (x y : ℕ) (h : MaybeByte) (f : ℕ) → Within w x y → 1 < rest w x y
    → rest w (next_pen w (pen_at x y h f)).x (next_pen w (pen_at x y h f)).y + 1 ≡ rest w x y
nearer w x y h f i l = go (dec_lt x w.x1) (dec_lt y w.y1)
  where
    go : Dec (x < w.x1) → Dec (y < w.y1) → rest w (next_pen w (pen_at x y h f)).x (next_pen w (pen_at x y h f)).y + 1
        ≡ rest w x y
    go (yes p) q = rw (next_along w (pen_at x y h f) p) (omega arith)
    go (no p) (yes q) =
        rw (next_down w (pen_at x y h f) (omega arith) q) (omega (arith, row_less w y q, i.left, i.right))
    go (no p) (no q) = absurd (omega (arith, no_row w y (omega (arith, i.top)), i.left))

-- where one is left it is in the last row
last_row : (w : Window) (x y : ℕ) → Within w x y → rest w x y ≤ 1 → Dec (y < w.y1) → last_y w ≤ y
last_row w x y i l (yes q) = absurd (omega (arith, row_less w y q, i.right))
last_row w x y i l (no q) = omega (arith, i.top)

-- ---- so many times one byte
full : ℕ → ℕ → List Input
full zero c = []
full (suc n) c = byte c ∷ full n c

full_copies : (n c : ℕ) → copies (full n c) ≡ []
unfolding full copies
full_copies zero c = refl
full_copies (suc n) c = full_copies n c

-- the first byte of the window's last pixel
abbrev last : Window → ℕ
last w = spot (last_x w) (last_y w)

module _ (w : Window) (hx : last_x w < 128) (hy : last_y w < 128) where
  -- a pixel before it leaves it
  missed : (x y : ℕ) (fb : List ℕ) (h b : ℕ) → 1 < rest w x y → Touch x y (last w) → get_or (put fb x y h b) (last w) 0
      ≡ get_or fb (last w) 0
  missed x y fb h b l (hit r c g f) = absurd (omega (arith, no_row w y (omega arith)))
  missed x y fb h b l (miss f g) = f fb h b

  -- a run that does not come to it leaves it
  spared : (is : List Input) (x y : ℕ) (h : MaybeByte) (f : ℕ) (fb : List ℕ) → Within w x y → copies is ≡ []
      → bytes_in is + half_bytes h < rest w x y * 2
      → get_or (ink w (pen_at x y h f) fb is) (last w) 0 ≡ get_or fb (last w) 0
  unfolding ink penned inked bytes_in copies
  spared [] x y h f fb i e l = refl
  spared (copy m ∷ is) x y h f fb i e l = let z : ◌≡◌ {A = ℕ} 0 1 = cc in absurd (omega arith)
  spared (byte b ∷ is) x y None f fb i e l = spared is x y (Some b) f fb i e (omega arith)
  spared (byte b ∷ is) x y (Some h) f fb i e l =
      let n = nearer w x y (Some h) f i (omega arith) in
      rw (next_empty w x y (Some h) f)
      (spared is _ _ None _ (put fb x y h b) (within_next w x y (Some h) f i) e (omega arith))
      ∙ missed x y fb h b (omega arith) (touch x y (last w))

  -- it is written
  written : (x y : ℕ) (fb : List ℕ) (c : ℕ) → Within w x y → rest w x y ≤ 1 → last w < length fb
      → get_or (put fb x y c c) (last w) 0 ≡ c
  written x y fb c i l s =
      let r = last_row w x y i l (dec_lt y w.y1) in
      let ey : y ≡ last_y w = omega (arith, i.low) in
      let ex : x ≡ last_x w = omega (arith, i.right) in
      rw (ex, ey)
      (ap (λ l. get_or l (last w) 0) (put_on fb (last_x w) (last_y w) c c hx hy)
      ∙ get_or-set_other (set fb (last w) c) (last w + 1) (last w) c 0 (omega arith)
      ∙ get_or-set_same fb (last w) c 0 s)

  -- a run of one byte c that ends with it, from any place; a pixel's first byte may have come
  abbrev half : Bool → ℕ → MaybeByte
  half true c = Some c
  half false c = None

  abbrev Filled : ℕ → ℕ → Type 0
  Filled n c =
      (t : Bool) (x y f : ℕ) (fb : List ℕ) → Within w x y → last w < length fb
      → n + half_bytes (half t c) ≡ rest w x y * 2
      → get_or (ink w (pen_at x y (half t c) f) fb (full n c)) (last w) 0 ≡ c

  -- its next pixel is the last one, or it goes on
  goes_on : (n c x y f : ℕ) (fb : List ℕ) → Filled n c → Within w x y → last w < length fb → suc n + 1 ≡ rest w x y * 2
      → Dec (1 < rest w x y)
      → get_or (ink w (next_pen w (pen_at x y (Some c) f)) (put fb x y c c) (full n c)) (last w) 0 ≡ c
  unfolding ink full
  goes_on n c x y f fb on i s e (yes l) =
      let k = nearer w x y (Some c) f i l in
      rw (next_empty w x y (Some c) f)
      (on false _ _ _ (put fb x y c c) (within_next w x y (Some c) f i) (rw (put_length fb x y c c) s) (omega arith))
  goes_on n c x y f fb on i s e (no l) =
      let z : n ≡ 0 = omega arith in
      ap (λ (m : ℕ). get_or (ink w (next_pen w (pen_at x y (Some c) f)) (put fb x y c c) (full m c)) (last w) 0) z
      ∙ written x y fb c i (omega arith) s

  filled : (n c : ℕ) → Filled n c
  unfolding ink penned inked full
  filled zero c true x y f fb i s e = absurd (omega arith)
  filled zero c false x y f fb i s e = absurd (omega (arith, i.right))
  filled (suc n) c false x y f fb i s e = filled n c true x y f fb i s (omega arith)
  filled (suc n) c true x y f fb i s e = goes_on n c x y f fb (filled n c) i s e (dec_lt 1 (rest w x y))

-- ---- a whole window of one byte, 0x2C, and a run that is too short
module _ (s : Screen) (after : List Input) (q : LastSeen s) (e : copies after ≡ [])
    (l : bytes_in after < window_bytes s.panel.window) where
  abbrev w : Window
  w = s.panel.window

  abbrev whole : ℕ → List Input
  whole c = full (window_bytes w) c

  left : (c : ℕ) → get_or (redrawn s (whole c) after).fb (last w) 0 ≡ c
  left c =
      let f = s.panel.pen.frames in
      let all = rest_whole w in
      ap (λ (t : Screen). get_or t.fb (last w) 0) (redrawn_is s.panel s.fb (whole c) after)
      ∙ spared w q.column q.row after w.x0 w.y0 None (frames_after w f (whole c))
      (ink w (start w f) s.fb (whole c)) (at_start w) e (omega arith)
      ∙ filled w q.column q.row (window_bytes w) c false w.x0 w.y0 f s.fb (at_start w) q.stored
      (omega arith)

pub tight : Tight
unfolding later
tight s after q e l h =
    let n = window_bytes s.panel.window in
    let alike : copies (full n 0) ≡ copies (full n 1) = full_copies n 0 ∙ sym (full_copies n 1) in
    let pixels = (h (full n 0) (full n 1) [] alike).pixels in
    let both : ◌≡◌ {A = ℕ} 0 1 = sym (left s after q e l 0) ∙ ap
    (λ (m : List ℕ). get_or m (last s.panel.window) 0) pixels ∙ left s after q e l 1 in
    absurd (omega arith)
