-- Monotony: of two floats that are finite with clear signs the larger has the larger sum, difference, product,
-- quotient and whole part.
use Rattle.std.proofs.Common.{◌≡◌, ℕ, ◌+◌, ◌-◌, ◌*◌, ◌/◌, ◌^◌, ◌<◌, ◌≤◌, min, false, T, ℤ, sym, ap, ◌∙◌, subst}
use Rattle.std.proofs.Common.{le_trans, le_of_eq, le_refl, add-le-add, mul-le-mul_right, mul_assoc, mul_comm}
use Rattle.std.proofs.Common.{add-mul, mul-le-mul, mul-pos, le-div_iff_mul-le, mul_right_comm, div-mul-le_self}
use Rattle.std.proofs.Common.{le_of_mul-le-mul_right, mul_left_comm, arith}
use native.Mathlib.Nat.{mul-mul-mul_comm}
use native.Mathlib.Nat.{mul-sub}
use lib.Ieee.{Float, fin, binary64, up, down, round, add, sub, mul, div, le, to_unsigned}
use lib.Ieee.Fits.{down_pos}
use lib.Ieee.Order.{round_mono}
use Rattle.whole.specs.Bounds.{Clear, AtLeast}
use Rattle.whole.proofs.Clear.{any, any2, cross}
use Rattle.whole.proofs.Round.{sub_is, div_is}

-- ---- fractions
-- a / A ≤ b / B and c / C ≤ d / D
module _ (a A b B c C d D : ℕ) (h : a * B ≤ b * A) (k : c * D ≤ d * C) where
  mul_cross : a * c * (B * D) ≤ b * d * (A * C)
  mul_cross = le_trans (le_of_eq (mul-mul-mul_comm a c B D))
      (le_trans (mul-le-mul h k) (le_of_eq (mul-mul-mul_comm b A d C)))

  add_cross : (a * C + c * A) * (B * D) ≤ (b * D + d * B) * (A * C)
  add_cross = le_trans (le_of_eq left)
      (le_trans (add-le-add (mul-le-mul_right (C * D) h) (mul-le-mul_right (A * B) k)) (le_of_eq (sym right)))
    where
      left : (a * C + c * A) * (B * D) ≡ a * B * (C * D) + c * D * (A * B)
      left = simp (add-mul, mul_assoc, mul_comm, mul_left_comm)

      right : (b * D + d * B) * (A * C) ≡ b * A * (C * D) + d * C * (A * B)
      right = simp (add-mul, mul_assoc, mul_comm, mul_left_comm)

less : (p q r : ℕ) → p ≤ q → p - r ≤ q - r
less p q r h = omega arith

sub_cross : (a A b B c C : ℕ) → a * B ≤ b * A → (a * C - c * A) * (B * C) ≤ (b * C - c * B) * (A * C)
sub_cross a A b B c C h =
    le_trans (le_of_eq (mul_comm (a * C - c * A) (B * C) ∙ mul-sub (B * C) (a * C) (c * A)))
    (le_trans (less (B * C * (a * C)) (A * C * (b * C)) (B * C * (c * A))
    (le_trans (le_of_eq left) (le_trans (mul-le-mul_right (C * C) h) (le_of_eq right))))
    (le_of_eq (ap (λ (z : ℕ). A * C * (b * C) - z) last ∙ sym (mul-sub (A * C) (b * C) (c * B)) ∙ mul_comm (A * C)
    (b * C - c * B))))
  where
    left : B * C * (a * C) ≡ a * B * (C * C)
    left = simp (mul_assoc, mul_comm, mul_left_comm)

    right : b * A * (C * C) ≡ A * C * (b * C)
    right = simp (mul_assoc, mul_comm, mul_left_comm)

    last : B * C * (c * A) ≡ A * C * (c * B)
    last = simp (mul_assoc, mul_comm, mul_left_comm)

div_cross : (a A b B c C : ℕ) → a * B ≤ b * A → a * C * (c * B) ≤ b * C * (c * A)
div_cross a A b B c C h = le_trans (le_of_eq left) (le_trans (mul-le-mul_right (C * c) h) (le_of_eq (sym right)))
  where
    left : a * C * (c * B) ≡ a * B * (C * c)
    left = simp (mul_assoc, mul_comm, mul_left_comm)

    right : b * C * (c * A) ≡ b * A * (C * c)
    right = simp (mul_assoc, mul_comm, mul_left_comm)

cut_cross : (a A b B : ℕ) → 0 < A → 0 < B → a * B ≤ b * A → a / A ≤ b / B
cut_cross a A b B P Q h =
    (le-div_iff_mul-le Q).1
    (le_of_mul-le-mul_right (le_trans (le_of_eq (mul_right_comm (a / A) B A))
    (le_trans (mul-le-mul_right B (div-mul-le_self a A)) h)) P)

-- ---- floats
add_at : (m : ℕ) (e : ℤ) (m' : ℕ) (e' : ℤ) → T (le (fin false m e) (fin false m' e')) → (y y' : Float) → Clear y
    → Clear y' → T (le y y')
    → T (le (add binary64 (fin false m e) y) (add binary64 (fin false m' e') y'))
unfolding add
add_at m e m' e' h y y' q q' k =
    any2 (λ (y y' : Float). T (le y y') → T (le (add binary64 (fin false m e) y) (add binary64 (fin false m' e') y')))
    (λ n d n' d' k. round_mono binary64 (m * up e * down d + n * up d * down e) (down e * down d)
    (m' * up e' * down d' + n' * up d' * down e')
    (down e' * down d')
    (mul-pos (down_pos e) (down_pos d)) (mul-pos (down_pos e') (down_pos d'))
    (add_cross (m * up e) (down e) (m' * up e') (down e') (n * up d) (down d) (n' * up d') (down d')
    (cross m e m' e' h) (cross n d n' d' k)))
    y y' q q' k

pub add_mono : (x x' y y' : Float) → Clear x → Clear x' → Clear y → Clear y' → T (le x x') → T (le y y')
    → T (le (add binary64 x y) (add binary64 x' y'))
add_mono x x' y y' p p' q q' h k =
    any2 (λ (x x' : Float). T (le x x') → T (le (add binary64 x y) (add binary64 x' y')))
    (λ m e m' e' h. add_at m e m' e' h y y' q q' k) x x' p p' h

mul_at : (m : ℕ) (e : ℤ) (m' : ℕ) (e' : ℤ) → T (le (fin false m e) (fin false m' e')) → (y : Float) → Clear y
    → T (le (mul binary64 (fin false m e) y) (mul binary64 (fin false m' e') y))
unfolding mul
mul_at m e m' e' h y q =
    any (λ (y : Float). T (le (mul binary64 (fin false m e) y) (mul binary64 (fin false m' e') y)))
    (λ n d. round_mono binary64 (m * up e * (n * up d)) (down e * down d) (m' * up e' * (n * up d)) (down e' * down d)
    (mul-pos (down_pos e) (down_pos d)) (mul-pos (down_pos e') (down_pos d))
    (mul_cross (m * up e) (down e) (m' * up e') (down e') (n * up d) (down d) (n * up d) (down d) (cross m e m' e' h)
    (le_refl (n * up d * down d))))
    y q

pub mul_mono : (x x' y : Float) → Clear x → Clear x' → Clear y → T (le x x')
    → T (le (mul binary64 x y) (mul binary64 x' y))
mul_mono x x' y p p' q h =
    any2 (λ (x x' : Float). T (le x x') → T (le (mul binary64 x y) (mul binary64 x' y)))
    (λ m e m' e' h. mul_at m e m' e' h y q) x x' p p' h

-- y ≤ x
sub_at : (m : ℕ) (e : ℤ) (m' : ℕ) (e' : ℤ) (n : ℕ) (d : ℤ) → T (le (fin false m e) (fin false m' e'))
    → T (le (fin false n d) (fin false m e))
    → T (le (fin false n d) (fin false m' e'))
    → T (le (sub binary64 (fin false m e) (fin false n d)) (sub binary64 (fin false m' e') (fin false n d)))
sub_at m e m' e' n d h l l' =
    subst (λ (z : Float). T (le z (sub binary64 (fin false m' e') (fin false n d)))) (sym (sub_is m e n d l))
    (subst (λ (z : Float). T (le (round binary64 false (m * up e * down d - n * up d * down e) (down e * down d)) z))
    (sym (sub_is m' e' n d l'))
    (round_mono binary64 (m * up e * down d - n * up d * down e) (down e * down d)
    (m' * up e' * down d - n * up d * down e') (down e' * down d)
    (mul-pos (down_pos e) (down_pos d)) (mul-pos (down_pos e') (down_pos d))
    (sub_cross (m * up e) (down e) (m' * up e') (down e') (n * up d) (down d) (cross m e m' e' h))))

pub sub_mono : (x x' y : Float) → Clear x → Clear x' → Clear y → T (le x x') → T (le y x) → T (le y x')
    → T (le (sub binary64 x y) (sub binary64 x' y))
sub_mono x x' y p p' q h l l' =
    any2 (λ (x x' : Float). T (le x x') → T (le y x) → T (le y x') → T (le (sub binary64 x y) (sub binary64 x' y)))
    (λ m e m' e' h l l'. any (λ (y : Float). T (le y (fin false m e)) → T (le y (fin false m' e')) → T
    (le (sub binary64 (fin false m e) y) (sub binary64 (fin false m' e') y)))
    (λ n d l l'. sub_at m e m' e' n d h l l') y q l l') x x' p p' h l l'

div_at : (m : ℕ) (e : ℤ) (m' : ℕ) (e' : ℤ) (n : ℕ) (d : ℤ) (k : ℕ) → AtLeast (fin false n d) k
    → T (le (fin false m e) (fin false m' e'))
    → T (le (div binary64 (fin false m e) (fin false n d)) (div binary64 (fin false m' e') (fin false n d)))
div_at m e m' e' n d k q h =
    let is = div_is m e n d k q in
    let is' = div_is m' e' n d k q in
    subst (λ (z : Float). T (le z (div binary64 (fin false m' e') (fin false n d)))) (sym is.1)
    (subst (λ (z : Float). T (le (round binary64 false (m * up e * down d) (n * up d * down e)) z)) (sym is'.1)
    (round_mono binary64 (m * up e * down d) (n * up d * down e) (m' * up e' * down d) (n * up d * down e')
    (mul-pos is.0 (down_pos e))
    (mul-pos is'.0 (down_pos e')) (div_cross (m * up e) (down e) (m' * up e') (down e') (n * up d) (down d)
    (cross m e m' e' h))))

pub div_mono : (x x' : Float) (n : ℕ) (d : ℤ) (k : ℕ) → Clear x → Clear x' → AtLeast (fin false n d) k → T (le x x')
    → T (le (div binary64 x (fin false n d)) (div binary64 x' (fin false n d)))
div_mono x x' n d k p p' q h =
    any2 (λ (x x' : Float). T (le x x') → T (le (div binary64 x (fin false n d)) (div binary64 x' (fin false n d))))
    (λ m e m' e' h. div_at m e m' e' n d k q h) x x' p p' h

cut_at : (m : ℕ) (e : ℤ) (m' : ℕ) (e' : ℤ) → T (le (fin false m e) (fin false m' e'))
    → to_unsigned 64 (fin false m e) ≤ to_unsigned 64 (fin false m' e')
unfolding to_unsigned
cut_at m e m' e' h =
    capped (m * up e / down e) (m' * up e' / down e') (cut_cross (m * up e) (down e) (m' * up e') (down e')
    (down_pos e) (down_pos e')
    (cross m e m' e' h))
  where
    capped : (a b : ℕ) → a ≤ b → min a (2 ^ 64 - 1) ≤ min b (2 ^ 64 - 1)
    capped a b h = omega arith

pub cut_mono : (x x' : Float) → Clear x → Clear x' → T (le x x') → to_unsigned 64 x ≤ to_unsigned 64 x'
cut_mono x x' p p' h = any2 (λ (x x' : Float). T (le x x') → to_unsigned 64 x ≤ to_unsigned 64 x') cut_at x x' p p' h
