-- The panel does as sys.rs does from any state within the limits on: the proof of a run takes any start that fits.
use Rattle.std.proofs.Common.{◌≡◌, ℕ, zero, suc, ◌<◌, ◌≤◌, min, ◌⊎◌, List, [], ◌∷◌, length, get_or, take, sym, refl}
use Rattle.std.proofs.Common.{ap, ◌∙◌, inl, inr, arith, length-take-le, get_or-take}
use lib.ListN.{get_or-eq_default}
use Rattle.std.specs.Prelude.{None, Some}
use Rattle.whole.proofs.Choice.{lt_or_ge}
use Rattle.panel.specs.Lcd.{MaybeByte}
use Rattle.panel.specs.declared.Panel.{Panel}
use Rattle.panel.specs.Entries.{Screen, screen}
use Rattle.panel.specs.Runs.{later}
use Rattle.panel.specs.AsRust.{maybe_of, first_four, compact}
use Rattle.panel.specs.Within.{PanelWithin}
use Rattle.panel.specs.Onward.{option_of, lcd_of, IsByte, PanelTyped, AsRustFrom}
use Rattle.panel.proofs.Literal.{Small, Smalls, Fits, runs}

-- ---- the list of arguments looks like the four places

maybe_back : (m : MaybeByte) → maybe_of (option_of m) ≡ m
maybe_back None = refl
maybe_back (Some b) = refl

four : (a : List ℕ) → length a ≡ 4 → first_four a ≡ a
four [] h = absurd (let z : ⊥ = omega (arith, h) in z)
four (p ∷ []) h = absurd (let z : ⊥ = omega (arith, h) in z)
four (p ∷ q ∷ []) h = absurd (let z : ⊥ = omega (arith, h) in z)
four (p ∷ q ∷ r ∷ []) h = absurd (let z : ⊥ = omega (arith, h) in z)
four (p ∷ q ∷ r ∷ t ∷ []) h = refl
four (p ∷ q ∷ r ∷ t ∷ u ∷ rest) h = absurd (let z : ⊥ = omega (arith, h) in z)

module _ (p : Panel) (fb : List ℕ) (w : PanelWithin p) where
  long : length (take p.count p.args) ≡ p.count
  long = length-take-le p.count p.args (let m = w.most in omega (arith, w.size))

  -- an argument that has not come is 0 on both sides
  came : (i : ℕ) → get_or (take p.count p.args) i 0 ≡ get_or p.args i 0
  came i = by (lt_or_ge i p.count)
    where
      by : (i < p.count) ⊎ (p.count ≤ i) → get_or (take p.count p.args) i 0 ≡ get_or p.args i 0
      by (inl l) = get_or-take p.count p.args i 0 l
      by (inr l) = get_or-eq_default (take p.count p.args) 0 (omega (arith, long)) ∙ sym (w.unset i l)

  as_four : first_four (take p.count p.args) ≡ p.args
  as_four = rw (came 0, came 1, came 2, came 3) (four p.args w.size)

  as_count : min (length (take p.count p.args)) 4 ≡ p.count
  as_count = let m = w.most in omega (arith, long)

  compact_is : compact (lcd_of p fb) ≡ screen p fb
  compact_is = rw (as_four, as_count, maybe_back p.cmd, maybe_back p.pen.half)

-- ---- what the types say

small_half : (m : MaybeByte) → IsByte m → Small (option_of m)
small_half None h = tt
small_half (Some b) h = h

small_take : (n : ℕ) (a : List ℕ) → ((i : ℕ) → get_or a i 0 < 256) → Smalls (take n a)
small_take zero a h = tt
small_take (suc n) [] h = tt
small_take (suc n) (x ∷ a) h = (h 0, small_take n a (λ i. h (suc i)))

fits_from : (p : Panel) (fb : List ℕ) → PanelTyped p → Fits (lcd_of p fb)
fits_from p fb t =
    record {
      x0 = t.x0;
      x1 = t.x1;
      y0 = t.y0;
      y1 = t.y1;
      x = t.x;
      y = t.y;
      half = small_half p.pen.half t.half;
      args = small_take p.count p.args t.args;
    }

-- ---- from there on
pub as_rust_from : AsRustFrom
as_rust_from p fb w t acts s =
    runs (lcd_of p fb) acts (fits_from p fb t) s ∙ ap (λ (v : Screen). later v acts) (compact_is p fb w)
