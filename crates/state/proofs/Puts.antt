-- What a put of one part leaves: the words it says and no others, and so the parts with this one replaced; and a
-- packed bank packed.
use Prim.Native.Nat.{ℕ, zero, suc, ◌+◌, ◌^◌, ◌<◌, ◌≤◌}
use mathlib.Core.Path.{◌≡◌, refl, sym, ap, ◌∙◌}
use mathlib.Core.Bool.{Bool, false}
use mathlib.Core.List.{List, [], ◌∷◌}
use native.Mathlib.Omega.{arith}
use native.Mathlib.Nat.{mod-eq_of_lt}
use lib.ListN.{length, get_or, set}
use borrow.Author.Tests.{lt-ltb, le-ltb, ne_eqb}
use lib.Dec.{eqb, ltb}
use lib.Ieee.{Float, nan}
use Rattle.whole.specs.Forms.{bit}
use Rattle.flash.specs.declared.Chip.{Chip}
use Rattle.flash.specs.declared.Trans.{Trans}
use Rattle.panel.specs.declared.Panel.{Panel}
use Rattle.panel.specs.declared.Pen.{Pen}
use Rattle.clock.specs.declared.Times.{Times}
use Rattle.clock.specs.declared.Latch.{Latch}
use Rattle.clock.specs.declared.RtcIrq.{RtcIrq}
use Rattle.timer.specs.declared.Timer.{Timer}
use Rattle.timer.specs.declared.Tone.{Tone}
use Rattle.timer.specs.declared.Ring.{Ring}
use Rattle.keys.specs.declared.Keys.{Keys}
use Rattle.state.specs.declared.Parts.{Parts}
use Rattle.state.specs.Parts.{none, flash_put, sent_put, panel_put, pen_put, times_put, turbo_put, timer_put, irq_put}
use Rattle.state.specs.Parts.{vsync_put, converting_put, latch_put, tone_put, off_put, ring_put, keys_put, count_put}
use Rattle.state.specs.Parts.{live_put, hold_put, applied_put}
use Rattle.state.specs.Bank.{cell_count, float_count, maybe_in, chip_in, panel_in, times_in, timer_in, timers_in}
use Rattle.state.specs.Bank.{irq_in}
use Rattle.state.specs.Bank.{latch_in, tone_in, ring_in, keys_in, parts_in}
use Rattle.state.specs.Packed.{mode_number, maybe_number, chip_cells, sent_cells, panel_cells, pen_cells, clock_cells}
use Rattle.state.specs.Packed.{key_cells, cells_of, times_floats, floats_of, laid_at, Put, timer_cells, timer_floats}
use Rattle.state.specs.Packed.{live_cells, hold_floats}
use Rattle.state.proofs.Spread.{spread, spread_is}
use Rattle.state.proofs.Words.{flag_bit, mode_number_lem}

-- later words W and U, which make the parts g of those before: packed words give packed ones where W and U do the
-- same to the words of parts
pub put_of : (g : Parts → Parts) (W : List ℕ → List ℕ) (U : List Float → List Float) (l : List ℕ) (f : List Float)
    {l' : List ℕ} {f' : List Float}
    → l' ≡ W l → f' ≡ U f → parts_in (W l) (U f) ≡ g (parts_in l f)
    → cells_of (g (parts_in l f)) ≡ W (cells_of (parts_in l f))
    → floats_of (g (parts_in l f)) ≡ U (floats_of (parts_in l f)) → Put l f l' f' (W l) (U f) (g (parts_in l f))
put_of g W U l f {l'} {f'} a b p s t =
    let q : parts_in l' f' ≡ g (parts_in l f) = ap (λ (m : List ℕ). parts_in m f') a ∙ ap
    (λ (v : List Float). parts_in (W l) v) b ∙ p in
    record {
      cells = a;
      floats = b;
      parts = q;
      packed = λ k.
          record {
            cells = ap (λ (x : Parts). cells_of x) q ∙ s ∙ ap W k.cells ∙ sym a;
            floats = ap (λ (x : Parts). floats_of x) q ∙ t ∙ ap U k.floats ∙ sym b;
          };
    }

-- the same where another put, from words m on, puts the last of them
put_behind : (g : Parts → Parts) (W : List ℕ → List ℕ) (l : List ℕ) {m : List ℕ} (f : List Float) {l' w : List ℕ}
    {x : Parts} → Put m f l' f w f x
    → w ≡ W l → x ≡ g (parts_in l f) → cells_of (g (parts_in l f)) ≡ W (cells_of (parts_in l f))
    → floats_of (g (parts_in l f)) ≡ floats_of (parts_in l f)
    → Put l f l' f (W l) f (g (parts_in l f))
put_behind g W l f p a b s t =
    put_of g W (λ v. v) l f (p.cells ∙ a) refl (ap (λ (z : List ℕ). parts_in z f) (sym (p.cells ∙ a)) ∙ p.parts ∙ b)
    s t

module _ (l : List ℕ) (long : length l ≡ cell_count) (f : List Float) where
  pub sent_put_lem : (rx : ℕ) (x : Trans) (a : ℕ) → a ≡ bit x.long → rx < 256 → x.cmd < 256 → x.a1 < 256
      → x.a2 < 256 → x.a3 < 256
      → Put l f (set (set (set (set (set (set (set l 4 rx) 5 x.cmd) 6 x.a1) 7 x.a2) 8 x.a3) 9 x.pos) 10
      a) f
      (laid_at l 4 (sent_cells rx x)) f (sent_put (parts_in l f) rx x)
  unfolding chip_in panel_in times_in timer_in irq_in latch_in tone_in ring_in keys_in spread laid_at chip_cells
      panel_cells
      clock_cells key_cells cells_of floats_of times_floats
  sent_put_lem rx x a h m n o p q =
      put_of (λ y. sent_put y rx x) (λ z. laid_at z 4 (sent_cells rx x)) (λ v. v) l f
      (rw (spread_is 0 l cell_count long, h))
      refl
      (rw (
        spread_is 0 l cell_count long,
        flag_bit,
        mod-eq_of_lt m,
        mod-eq_of_lt n,
        mod-eq_of_lt o,
        mod-eq_of_lt p,
        mod-eq_of_lt q,
      ))
      refl
      refl

  pub chip_put : (x : Chip) (a b c : ℕ) {l' : List ℕ} → a ≡ mode_number x.mode → b ≡ bit x.cs → c ≡ bit x.wel
      → Put (set (set (set (set l 0 a) 1 b) 2 c) 3 x.writes) f l' f
      (laid_at (set (set (set (set l 0 a) 1 b) 2 c) 3 x.writes) 4 (sent_cells x.rx x.tx)) f
      (sent_put (parts_in (set (set (set (set l 0 a) 1 b) 2 c) 3 x.writes) f) x.rx x.tx)
      → Put l f l' f (laid_at l 0 (chip_cells x)) f (flash_put (parts_in l f) x)
  unfolding chip_in panel_in times_in timer_in irq_in latch_in tone_in ring_in keys_in spread laid_at chip_cells
      panel_cells
      clock_cells key_cells cells_of floats_of times_floats
  chip_put x a b c h i j p =
      put_behind (λ y. flash_put y x) (λ z. laid_at z 0 (chip_cells x)) l f p
      (rw (spread_is 0 l cell_count long, h, i, j))
      (rw (spread_is 0 l cell_count long, h, i, j, mode_number_lem, flag_bit, flag_bit))
      refl
      refl

  pub pen_put_lem : (x : Pen) (a : ℕ) → (a ≡ maybe_number x.half) × (maybe_in a ≡ x.half) → x.x < 65536 → x.y < 65536
      → Put l f (set (set (set (set l 21 x.x) 22 x.y) 23 a) 24 x.frames) f (laid_at l 21 (pen_cells x)) f
      (pen_put (parts_in l f) x)
  unfolding chip_in panel_in times_in timer_in irq_in latch_in tone_in ring_in keys_in spread laid_at chip_cells
      panel_cells
      clock_cells key_cells cells_of floats_of times_floats
  pen_put_lem x a h m n =
      put_of (λ y. pen_put y x) (λ z. laid_at z 21 (pen_cells x)) (λ v. v) l f
      (rw (spread_is 0 l cell_count long, h.0))
      refl
      (rw (spread_is 0 l cell_count long, ← h.0, h.1, mod-eq_of_lt m, mod-eq_of_lt n))
      refl
      refl

  module _ (x : Panel) (a b c d e : ℕ) where
    -- the panel's words before the pen's
    abbrev begun : List ℕ
    begun =
        set (set (set (set (set (set (set (set (set (set l 11 a) 12 b) 13 c) 14 d) 15 e) 16 x.count) 17
        x.window.x0) 18 x.window.x1) 19 x.window.y0) 20 x.window.y1

    pub panel_put_lem : {l' : List ℕ} → (a ≡ maybe_number x.cmd) × (maybe_in a ≡ x.cmd) → length x.args ≡ 4
        → (b ≡ get_or x.args 0 0) × (b < 256) → (c ≡ get_or x.args 1 0) × (c < 256)
        → (d ≡ get_or x.args 2 0) × (d < 256) → (e ≡ get_or x.args 3 0) × (e < 256)
        → x.count < 256 → x.window.x0 < 65536 → x.window.x1 < 65536 → x.window.y0 < 65536 → x.window.y1 < 65536
        → Put begun f l' f (laid_at begun 21 (pen_cells x.pen)) f (pen_put (parts_in begun f) x.pen)
        → Put l f l' f (laid_at l 11 (panel_cells x)) f (panel_put (parts_in l f) x)
    unfolding chip_in panel_in times_in timer_in irq_in latch_in tone_in ring_in keys_in spread laid_at chip_cells
        panel_cells
        clock_cells key_cells cells_of floats_of times_floats
    panel_put_lem h four i j k m n o q r s p =
        put_behind (λ y. panel_put y x) (λ z. laid_at z 11 (panel_cells x)) l f p
        (rw (spread_is 0 l cell_count long, h.0, i.0, j.0, k.0, m.0))
        (rw (
          spread_is 0 l cell_count long,
          h.1,
          mod-eq_of_lt i.1,
          mod-eq_of_lt j.1,
          mod-eq_of_lt k.1,
          mod-eq_of_lt m.1,
          i.0,
          j.0,
          k.0,
          m.0,
          ← spread_is 0 x.args 4 four,
          mod-eq_of_lt n,
          mod-eq_of_lt o,
          mod-eq_of_lt q,
          mod-eq_of_lt r,
          mod-eq_of_lt s,
        ))
        refl
        refl

  pub vsync_put_lem : (n : ℕ) → Put l f (set l 39 n) f (set l 39 n) f (vsync_put (parts_in l f) n)
  unfolding chip_in panel_in times_in timer_in irq_in latch_in tone_in ring_in keys_in spread laid_at chip_cells
      panel_cells
      clock_cells key_cells cells_of floats_of times_floats
  vsync_put_lem n = put_of (λ y. vsync_put y n) (λ m. set m 39 n) (λ v. v) l f refl refl
      (rw (spread_is 0 l cell_count long)) refl refl

  pub converting_put_lem : (on : Bool) (n : ℕ) → n ≡ bit on → Put l f (set l 40 n) f (set l 40 (bit on)) f
      (converting_put (parts_in l f) on)
  unfolding chip_in panel_in times_in timer_in irq_in latch_in tone_in ring_in keys_in spread laid_at chip_cells
      panel_cells
      clock_cells key_cells cells_of floats_of times_floats
  converting_put_lem on n e =
      put_of (λ y. converting_put y on) (λ m. set m 40 (bit on)) (λ v. v) l f (rw e) refl
      (rw (spread_is 0 l cell_count long, flag_bit)) refl refl

  pub off_put_lem : (on : Bool) (n : ℕ) → n ≡ bit on → Put l f (set l 43 n) f (set l 43 (bit on)) f
      (off_put (parts_in l f) on)
  unfolding chip_in panel_in times_in timer_in irq_in latch_in tone_in ring_in keys_in spread laid_at chip_cells
      panel_cells
      clock_cells key_cells cells_of floats_of times_floats
  off_put_lem on n e = put_of (λ y. off_put y on) (λ m. set m 43 (bit on)) (λ v. v) l f (rw e) refl
      (rw (spread_is 0 l cell_count long, flag_bit)) refl refl

  pub ring_put_lem : (x : Ring) → x.head < 256
      → Put l f (set (set l 44 x.head) 45 x.count) f (laid_at l 44 (x.head ∷ x.count ∷ [])) f
      (ring_put (parts_in l f) x)
  unfolding chip_in panel_in times_in timer_in irq_in latch_in tone_in ring_in keys_in spread laid_at chip_cells
      panel_cells
      clock_cells key_cells cells_of floats_of times_floats
  ring_put_lem x e =
      put_of (λ y. ring_put y x) (λ m. laid_at m 44 (x.head ∷ x.count ∷ [])) (λ v. v) l f
      (rw (spread_is 0 l cell_count long))
      refl
      (rw (spread_is 0 l cell_count long, mod-eq_of_lt e))
      refl
      refl

  pub count_put_lem : (n : ℕ) → Put l f (set l 46 n) f (set l 46 n) f (count_put (parts_in l f) n)
  unfolding chip_in panel_in times_in timer_in irq_in latch_in tone_in ring_in keys_in spread laid_at chip_cells
      panel_cells
      clock_cells key_cells cells_of floats_of times_floats
  count_put_lem n = put_of (λ y. count_put y n) (λ m. set m 46 n) (λ v. v) l f refl refl
      (rw (spread_is 0 l cell_count long)) refl refl

  pub applied_put_lem : (n : ℕ) → n < 2 ^ 32 → Put l f (set l 50 n) f (set l 50 n) f (applied_put (parts_in l f) n)
  unfolding chip_in panel_in times_in timer_in irq_in latch_in tone_in ring_in keys_in spread laid_at chip_cells
      panel_cells
      clock_cells key_cells cells_of floats_of times_floats
  applied_put_lem n e = put_of (λ y. applied_put y n) (λ m. set m 50 n) (λ v. v) l f refl refl
      (rw (spread_is 0 l cell_count long, mod-eq_of_lt e)) refl refl

module _ (f : List Float) (wide : length f ≡ float_count) (l : List ℕ) where
  pub times_put_lem : (x : Times) → Put l f l (set (set (set f 0 x.now) 1 x.game) 2 x.turbo) l
      (laid_at f 0 (times_floats x)) (times_put (parts_in l f) x)
  unfolding chip_in panel_in times_in timer_in irq_in latch_in tone_in ring_in keys_in spread laid_at chip_cells
      panel_cells
      clock_cells key_cells cells_of floats_of times_floats
  times_put_lem x =
      put_of (λ y. times_put y x) (λ m. m) (λ v. laid_at v 0 (times_floats x)) l f refl
      (rw (spread_is nan f float_count wide)) (rw (spread_is nan f float_count wide)) refl refl

  pub turbo_put_lem : (x : Float) → Put l f l (set f 2 x) l (set f 2 x) (turbo_put (parts_in l f) x)
  unfolding chip_in panel_in times_in timer_in irq_in latch_in tone_in ring_in keys_in spread laid_at chip_cells
      panel_cells
      clock_cells key_cells cells_of floats_of times_floats
  turbo_put_lem x = put_of (λ y. turbo_put y x) (λ m. m) (λ v. set v 2 x) l f refl refl
      (rw (spread_is nan f float_count wide)) refl refl

  pub tone_put_lem : (x : Tone)
      → Put l f l (set (set f 11 x.frequency) 12 x.duty) l (laid_at f 11 (x.frequency ∷ x.duty ∷ []))
      (tone_put (parts_in l f) x)
  unfolding chip_in panel_in times_in timer_in irq_in latch_in tone_in ring_in keys_in spread laid_at chip_cells
      panel_cells
      clock_cells key_cells cells_of floats_of times_floats
  tone_put_lem x =
      put_of (λ y. tone_put y x) (λ m. m) (λ v. laid_at v 11 (x.frequency ∷ x.duty ∷ [])) l f
      refl
      (rw (spread_is nan f float_count wide))
      (rw (spread_is nan f float_count wide))
      refl
      refl

module _ (l : List ℕ) (f : List Float) (long : length l ≡ cell_count) (wide : length f ≡ float_count) where
  pub irq_put_lem : (x : RtcIrq) → x.base < 2 ^ 32
      → Put l f (set (set l 37 x.fired) 38 x.base) (set f 9 x.set) (laid_at l 37 (x.fired ∷ x.base ∷ []))
      (set f 9 x.set) (irq_put (parts_in l f) x)
  unfolding chip_in panel_in times_in timer_in irq_in latch_in tone_in ring_in keys_in spread laid_at chip_cells
      panel_cells
      clock_cells key_cells cells_of floats_of times_floats
  irq_put_lem x e =
      put_of (λ y. irq_put y x) (λ m. laid_at m 37 (x.fired ∷ x.base ∷ [])) (λ v. set v 9 x.set) l f
      (rw (spread_is 0 l cell_count long))
      refl
      (rw (spread_is 0 l cell_count long, spread_is nan f float_count wide, mod-eq_of_lt e))
      refl
      refl

  pub latch_put_lem : (x : Latch) → x.out < 2 ^ 32
      → Put l f (set (set l 41 x.base) 42 x.out) (set f 10 x.since) (laid_at l 41 (x.base ∷ x.out ∷ []))
      (set f 10 x.since) (latch_put (parts_in l f) x)
  unfolding chip_in panel_in times_in timer_in irq_in latch_in tone_in ring_in keys_in spread laid_at chip_cells
      panel_cells
      clock_cells key_cells cells_of floats_of times_floats
  latch_put_lem x e =
      put_of (λ y. latch_put y x) (λ m. laid_at m 41 (x.base ∷ x.out ∷ [])) (λ v. set v 10 x.since) l f
      (rw (spread_is 0 l cell_count long))
      refl
      (rw (spread_is 0 l cell_count long, spread_is nan f float_count wide, mod-eq_of_lt e))
      refl
      refl

  pub keys_put_lem : (x : Keys) (a b c : ℕ) → a ≡ bit x.live.a → b ≡ bit x.live.b → c ≡ bit x.live.c
      → x.applied < 2 ^ 32
      → Put l f (set (set (set (set (set l 46 x.count) 47 a) 48 b) 49 c) 50 x.applied)
      (set (set (set f 13 x.holds.a) 14 x.holds.b) 15 x.holds.c)
      (laid_at l 46 (key_cells x)) (laid_at f 13 (x.holds.a ∷ x.holds.b ∷ x.holds.c ∷ [])) (keys_put (parts_in l f) x)
  unfolding chip_in panel_in times_in timer_in irq_in latch_in tone_in ring_in keys_in spread laid_at chip_cells
      panel_cells
      clock_cells key_cells cells_of floats_of times_floats
  keys_put_lem x a b c h i j e =
      put_of (λ y. keys_put y x) (λ m. laid_at m 46 (key_cells x))
      (λ v. laid_at v 13 (x.holds.a ∷ x.holds.b ∷ x.holds.c ∷ [])) l f
      (rw (spread_is 0 l cell_count long, h, i, j))
      (rw (spread_is nan f float_count wide))
      (rw (
        spread_is 0 l cell_count long,
        spread_is nan f float_count wide,
        flag_bit,
        flag_bit,
        flag_bit,
        mod-eq_of_lt e,
      ))
      refl
      refl

  -- the parts that a timer's words make
  timer_laid : (x : Timer) (n : ℕ) → n < 6 → parts_in (timer_cells l n x) (timer_floats f n x) ≡ timer_put
      (parts_in l f) n x
  unfolding chip_in panel_in times_in timer_in irq_in latch_in tone_in ring_in keys_in spread timer_cells timer_floats
  timer_laid x zero h = rw (spread_is 0 l cell_count long, spread_is nan f float_count wide, flag_bit)
  timer_laid x (suc zero) h = rw (spread_is 0 l cell_count long, spread_is nan f float_count wide, flag_bit)
  timer_laid x (suc (suc zero)) h = rw (spread_is 0 l cell_count long, spread_is nan f float_count wide, flag_bit)
  timer_laid x (suc (suc (suc zero))) h = rw (spread_is 0 l cell_count long, spread_is nan f float_count wide, flag_bit)
  timer_laid x (suc (suc (suc (suc zero)))) h = rw (
    spread_is 0 l cell_count long,
    spread_is nan f float_count wide,
    flag_bit,
  )
  timer_laid x (suc (suc (suc (suc (suc zero))))) h = rw (
    spread_is 0 l cell_count long,
    spread_is nan f float_count
        wide,
    flag_bit,
  )
  timer_laid x (suc (suc (suc (suc (suc (suc n)))))) h = absurd (omega arith)

-- the words of the parts with a timer put
timer_words : (l : List ℕ) (f : List Float) (x : Timer) (n : ℕ) → n < 6
    → (cells_of (timer_put (parts_in l f) n x) ≡ timer_cells (cells_of (parts_in l f)) n x) ×
    (floats_of (timer_put (parts_in l f) n x) ≡ timer_floats (floats_of (parts_in l f)) n x)
unfolding chip_cells panel_cells clock_cells key_cells cells_of floats_of times_floats timer_cells timer_floats
timer_words l f x zero h = (refl, refl)
timer_words l f x (suc zero) h = (refl, refl)
timer_words l f x (suc (suc zero)) h = (refl, refl)
timer_words l f x (suc (suc (suc zero))) h = (refl, refl)
timer_words l f x (suc (suc (suc (suc zero)))) h = (refl, refl)
timer_words l f x (suc (suc (suc (suc (suc zero))))) h = (refl, refl)
timer_words l f x (suc (suc (suc (suc (suc (suc n)))))) h = absurd (omega arith)

pub timer_put_lem : (l : List ℕ) (f : List Float) → length l ≡ cell_count → length f ≡ float_count → (x : Timer) (a : ℕ)
    → a ≡ bit x.pending → (n : ℕ) → n < 6
    → Put l f (set (set l (25 + n) x.seen) (31 + n) a) (set f (3 + n) x.start) (timer_cells l n x)
    (timer_floats f n x) (timer_put (parts_in l f) n x)
unfolding timer_cells timer_floats
timer_put_lem l f long wide x a e n h =
    put_of (λ y. timer_put y n x) (λ m. timer_cells m n x) (λ v. timer_floats v n x) l f
    (rw (e, lt-ltb n 6 h))
    (rw (lt-ltb n 6 h))
    (timer_laid l f long wide x n h)
    (timer_words l f x n h).0
    (timer_words l f x n h).1

timer_past : (l : List ℕ) (f : List Float) (x : Timer) (n : ℕ) → 6 ≤ n → parts_in l f ≡ timer_put (parts_in l f) n x
timer_past l f x (suc (suc (suc (suc (suc (suc n)))))) h = refl
timer_past l f x zero h = absurd (omega arith)
timer_past l f x (suc zero) h = absurd (omega arith)
timer_past l f x (suc (suc zero)) h = absurd (omega arith)
timer_past l f x (suc (suc (suc zero))) h = absurd (omega arith)
timer_past l f x (suc (suc (suc (suc zero)))) h = absurd (omega arith)
timer_past l f x (suc (suc (suc (suc (suc zero))))) h = absurd (omega arith)

pub no_timer : (l : List ℕ) (f : List Float) (x : Timer) (n : ℕ) → 6 ≤ n
    → Put l f l f (timer_cells l n x) (timer_floats f n x) (timer_put (parts_in l f) n x)
unfolding timer_cells timer_floats
no_timer l f x n h =
    record { cells = rw (le-ltb n 6 h); floats = rw (le-ltb n 6 h); parts = timer_past l f x n h; packed = λ k. k }

-- a timer of the six, by its words; past them there is none
pub timer_got : (l : List ℕ) (f : List Float) (n : ℕ) → n < 6 → timer_in l f n ≡ get_or (timers_in l f) n none
timer_got l f zero h = refl
timer_got l f (suc zero) h = refl
timer_got l f (suc (suc zero)) h = refl
timer_got l f (suc (suc (suc zero))) h = refl
timer_got l f (suc (suc (suc (suc zero)))) h = refl
timer_got l f (suc (suc (suc (suc (suc zero))))) h = refl
timer_got l f (suc (suc (suc (suc (suc (suc n)))))) h = absurd (omega arith)

pub timer_none : (l : List ℕ) (f : List Float) (n : ℕ) → 6 ≤ n → none ≡ get_or (timers_in l f) n none
timer_none l f (suc (suc (suc (suc (suc (suc n)))))) h = refl
timer_none l f zero h = absurd (omega arith)
timer_none l f (suc zero) h = absurd (omega arith)
timer_none l f (suc (suc zero)) h = absurd (omega arith)
timer_none l f (suc (suc (suc zero))) h = absurd (omega arith)
timer_none l f (suc (suc (suc (suc zero)))) h = absurd (omega arith)
timer_none l f (suc (suc (suc (suc (suc zero))))) h = absurd (omega arith)

-- ---- one key of the three; there is no other

no_key : (key : ℕ) → 3 ≤ key → (eqb key 0 ≡ false) × (eqb key 1 ≡ false) × (eqb key 2 ≡ false) × (ltb key 3 ≡ false)
no_key key h = (
  ne_eqb key 0 (λ e. omega arith),
  ne_eqb key 1 (λ e. omega arith),
  ne_eqb key 2 (λ e. omega arith),
  le-ltb key 3 h,
)

module _ (l : List ℕ) (long : length l ≡ cell_count) (f : List Float) (down : Bool) where
  live_laid : (key : ℕ) → parts_in (live_cells l key down) f ≡ live_put (parts_in l f) key down
  unfolding chip_in panel_in times_in timer_in irq_in latch_in tone_in ring_in keys_in spread live_cells
  live_laid zero = rw (spread_is 0 l cell_count long, flag_bit)
  live_laid (suc zero) = rw (spread_is 0 l cell_count long, flag_bit)
  live_laid (suc (suc zero)) = rw (spread_is 0 l cell_count long, flag_bit)
  live_laid (suc (suc (suc key))) = let n = no_key (suc (suc (suc key))) (omega arith) in rw (n.0, n.1, n.2, n.3)

  live_words : (x : Parts) (key : ℕ) → cells_of (live_put x key down) ≡ live_cells (cells_of x) key down
  unfolding chip_cells panel_cells clock_cells key_cells cells_of live_cells
  live_words x zero = refl
  live_words x (suc zero) = refl
  live_words x (suc (suc zero)) = refl
  live_words x (suc (suc (suc key))) = let n = no_key (suc (suc (suc key))) (omega arith) in rw (n.0, n.1, n.2, n.3)

  pub live_put_lem : (key : ℕ) {l' : List ℕ} → l' ≡ live_cells l key down
      → Put l f l' f (live_cells l key down) f (live_put (parts_in l f) key down)
  unfolding floats_of
  live_put_lem key e =
      put_of (λ y. live_put y key down) (λ m. live_cells m key down) (λ v. v) l f e refl (live_laid key)
      (live_words (parts_in l f) key) refl

module _ (f : List Float) (wide : length f ≡ float_count) (l : List ℕ) (until : Float) where
  hold_laid : (key : ℕ) → parts_in l (hold_floats f key until) ≡ hold_put (parts_in l f) key until
  unfolding times_in timer_in irq_in latch_in tone_in keys_in spread hold_floats
  hold_laid zero = rw (spread_is nan f float_count wide)
  hold_laid (suc zero) = rw (spread_is nan f float_count wide)
  hold_laid (suc (suc zero)) = rw (spread_is nan f float_count wide)
  hold_laid (suc (suc (suc key))) = let n = no_key (suc (suc (suc key))) (omega arith) in rw (n.0, n.1, n.2, n.3)

  hold_words : (x : Parts) (key : ℕ) → floats_of (hold_put x key until) ≡ hold_floats (floats_of x) key until
  unfolding floats_of times_floats hold_floats
  hold_words x zero = refl
  hold_words x (suc zero) = refl
  hold_words x (suc (suc zero)) = refl
  hold_words x (suc (suc (suc key))) = let n = no_key (suc (suc (suc key))) (omega arith) in rw (n.0, n.1, n.2, n.3)

  pub hold_put_lem : (key : ℕ) {f' : List Float} → f' ≡ hold_floats f key until → Put l f l f' l
      (hold_floats f key until)
      (hold_put (parts_in l f) key until)
  unfolding cells_of key_cells
  hold_put_lem key e =
      put_of (λ y. hold_put y key until) (λ m. m) (λ v. hold_floats v key until) l f refl e (hold_laid key) refl
      (hold_words (parts_in l f) key)
