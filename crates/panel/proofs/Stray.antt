-- Whatever data bytes come after a 0x2C, what lies outside of the window stays.
use Rattle.std.proofs.Common.{◌≡◌, ℕ, List, [], ◌∷◌, length, get_or, sym, refl, ◌∙◌, arith}
use Rattle.std.specs.Prelude.{None, Some}
use Rattle.panel.specs.Lcd.{MaybeByte}
use Rattle.panel.specs.declared.Window.{Window}
use Rattle.panel.specs.Lcd.{pen_at, put, penned, inked}
use Rattle.panel.specs.Runs.{Input, byte, copy, copies}
use Rattle.panel.proofs.Touch.{put_length, Touch, hit, miss, touch}
use Rattle.panel.proofs.Pens.{ink, next_empty}
use Rattle.panel.proofs.Sweep.{Within, Cell, within_next}

-- two runs with the same copies, and any data bytes in each
pub data Alike : List Input → List Input → Type 0 where
  ended : Alike [] []
  left : {b : ℕ} {is js : List Input} → Alike is js → Alike (byte b ∷ is) js
  right : {b : ℕ} {is js : List Input} → Alike is js → Alike is (byte b ∷ js)
  both : {m : List ℕ} {is js : List Input} → Alike is js → Alike (copy m ∷ is) (copy m ∷ js)

pub alike : (is js : List Input) → copies is ≡ copies js → Alike is js
unfolding copies
alike [] [] e = ended
alike [] (byte b ∷ js) e = right (alike [] js e)
alike [] (copy m ∷ js) e = let z : ◌≡◌ {A = ℕ} 0 1 = cc in absurd (omega arith)
alike (byte b ∷ is) js e = left (alike is js e)
alike (copy m ∷ is) [] e = let z : ◌≡◌ {A = ℕ} 0 1 = cc in absurd (omega arith)
alike (copy m ∷ is) (byte b ∷ js) e = right (alike (copy m ∷ is) js e)
alike (copy m ∷ is) (copy n ∷ js) e =
    let d : m ≡ n = cc in let f : copies is ≡ copies js = cc in rw d (both (alike is js f))

-- byte k is of the window, or the two agree there
pub data Aside (w : Window) (fb gb : List ℕ) (k : ℕ) : Type 0 where
  inside : Cell w k → Aside w fb gb k
  apart : get_or fb k 0 ≡ get_or gb k 0 → Aside w fb gb k

turn : {w : Window} {fb gb : List ℕ} {k : ℕ} → Aside w fb gb k → Aside w gb fb k
turn (inside c) = inside c
turn (apart q) = apart (sym q)

-- a pixel of the window, in one of two that agree outside of it
aside : (w : Window) (x y h b k : ℕ) (fb gb : List ℕ) → Within w x y → Touch x y k → Aside w fb gb k
    → Aside w (put fb x y h b) gb k
aside w x y h b k fb gb i t (inside c) = inside c
aside w x y h b k fb gb i (hit r c g f) (apart q) = inside (record { inside = rw (r, c) i; glass = omega arith })
aside w x y h b k fb gb i (miss f g) (apart q) = apart (f fb h b ∙ q)

-- pixels of one length that agree outside of the window
pub record Astray (w : Window) (fb gb : List ℕ) : Type 0 where
  pub sized : length fb ≡ length gb
  pub outside : (k : ℕ) → Aside w fb gb k

pub agreed : (w : Window) (fb : List ℕ) → Astray w fb fb
agreed w fb = record { sized = refl; outside = λ k. apart refl }

astray_sym : {w : Window} {fb gb : List ℕ} → Astray w fb gb → Astray w gb fb
astray_sym a = record { sized = sym a.sized; outside = λ k. turn (a.outside k) }

strayed : (w : Window) (x y h b : ℕ) (fb gb : List ℕ) → Within w x y → Astray w fb gb → Astray w (put fb x y h b) gb
strayed w x y h b fb gb i a =
    record {
      sized = put_length fb x y h b ∙ a.sized;
      outside = λ k. aside w x y h b k fb gb i (touch x y k) (a.outside k);
    }

-- two runs with the same copies leave the pixels outside of the window alike
pub stray : (w : Window) (is js : List Input) → Alike is js → (x y : ℕ) (h : MaybeByte) (f : ℕ)
    (x' y' : ℕ) (h' : MaybeByte)
    (f' : ℕ) (fb gb : List ℕ)
    → Within w x y → Within w x' y' → Astray w fb gb
    → Astray w (ink w (pen_at x y h f) fb is) (ink w (pen_at x' y' h' f') gb js)
unfolding ink penned inked
stray w is js ended x y h f x' y' h' f' fb gb i i' a = a
stray w is js (both {m} r) x y h f x' y' h' f' fb gb i i' a = stray w _ _ r x y h _ x' y' h' _ m m i i' (agreed w m)
stray w is js (left {b} r) x y None f x' y' h' f' fb gb i i' a =
    stray w _ _ r x y (Some b) f x' y' h' f' fb gb i i' a
stray w is js (left {b} r) x y (Some h) f x' y' h' f' fb gb i i' a =
    rw (next_empty w x y (Some h) f)
    (stray w _ _ r _ _ None _ x' y' h' f' (put fb x y h b) gb (within_next w x y (Some h) f i) i'
    (strayed w x y h b fb gb i a))
stray w is js (right {b} r) x y h f x' y' None f' fb gb i i' a = stray w _ _ r x y h f x' y' (Some b) f' fb gb i i' a
stray w is js (right {b} r) x y h f x' y' (Some h') f' fb gb i i' a =
    rw (next_empty w x' y' (Some h') f')
    (stray w _ _ r x y h f _ _ None _ fb (put gb x' y' h' b) i (within_next w x' y' (Some h') f' i')
    (astray_sym (strayed w x' y' h' b gb fb i' (astray_sym a))))
