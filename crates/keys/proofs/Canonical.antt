-- Two f64 that are finite with clear signs and are the same number are the same float.
use Prim.Native.Nat.{ℕ, zero, suc, ◌+◌, ◌*◌, ◌%◌, ◌^◌, ◌<◌}
use mathlib.Core.Path.{◌≡◌, refl, sym, ap, ◌∙◌}
use mathlib.Core.Bool.{false, ◌&&◌}
use native.Mathlib.Nat.{mul-one, one-mul, zero-mul, mul_assoc, mul_left_comm, mul-pos, pow-suc, pow-succ'}
use native.Mathlib.Nat.{eq_of_mul-eq-mul_right, zero-lt-suc, le_antisymm}
use native.Mathlib.Omega.{arith}
use lib.Dec.{T, leb, ltb, eqb, eqb→eq}
use lib.IntN.{ℤ, pos, negsuc}
use lib.Pow.{pow-add}
use lib.Ieee.{Float, fin, up, down, binary64, fits, le}
use lib.Ieee.Fits.{and_l, up_pos, down_pos}
use Rattle.whole.specs.Bounds.{Clear}
use Rattle.whole.proofs.Clear.{any2, cross}

-- ---- an odd number times a power of two is so in one way
twice : (m t : ℕ) → m % 2 ≡ 1 → m ≡ 2 * t → ⊥
twice m t o h = omega arith

odd_pow : (m n a b : ℕ) → m % 2 ≡ 1 → n % 2 ≡ 1 → m * 2 ^ a ≡ n * 2 ^ b → (m ≡ n) × (a ≡ b)
odd_pow m n zero zero o p h = (sym (mul-one m) ∙ h ∙ mul-one n, refl)
odd_pow m n zero (suc b) o p h =
    absurd (twice m (n * 2 ^ b) o (sym (mul-one m) ∙ h ∙ ap (λ (x : ℕ). n * x) (pow-succ' 2 b) ∙ mul_left_comm n 2
    (2 ^ b)))
odd_pow m n (suc a) zero o p h =
    absurd (twice n (m * 2 ^ a) p (sym (mul-one n) ∙ sym h ∙ ap (λ (x : ℕ). m * x) (pow-succ' 2 a) ∙ mul_left_comm m 2
    (2 ^ a)))
odd_pow m n (suc a) (suc b) o p h =
    let r = odd_pow m n a b o p (eq_of_mul-eq-mul_right 2 (zero-lt-suc 1) (m * 2 ^ a) (n * 2 ^ b)
    (mul_assoc m (2 ^ a) 2 ∙ ap (λ (x : ℕ). m * x) (sym (pow-suc 2 a)) ∙ h ∙ ap (λ (x : ℕ). n * x) (pow-suc 2 b) ∙ sym
    (mul_assoc n (2 ^ b) 2))) in
    (r.0, ap suc r.1)

-- ---- what fits has an odd m, or is 0 with the exponent 0
is_odd : (m : ℕ) (e : ℤ) → T (fits binary64 (fin false (suc m) e)) → suc m % 2 ≡ 1
unfolding fits
is_odd m e t =
    let A = eqb (suc m % 2) 1 in
    let B = ltb (suc m) (2 ^ 53) in
    let C = leb (down e) (2 ^ 1074) in
    eqb→eq (suc m % 2) 1 (and_l A B (and_l (A && B) C (and_l (A && B && C) (ltb (suc m * up e) (2 ^ 1024 * down e)) t)))

flat : (e : ℤ) → up e * down e ≡ 1 → e ≡ pos 0
flat (pos zero) h = refl
flat (pos (suc k)) h = absurd (twice 1 (2 ^ k) refl (sym h ∙ mul-one (2 ^ suc k) ∙ pow-succ' 2 k))
flat (negsuc k) h = absurd (twice 1 (2 ^ k) refl (sym h ∙ one-mul (2 ^ suc k) ∙ pow-succ' 2 k))

zero_exp : (e : ℤ) → T (fits binary64 (fin false zero e)) → e ≡ pos 0
unfolding fits
zero_exp e t = flat e (eqb→eq (up e * down e) 1 t)

-- ---- the same number
alike : (m : ℕ) (e : ℤ) (n : ℕ) (d : ℤ) → m % 2 ≡ 1 → n % 2 ≡ 1 → m * up e * down d ≡ n * up d * down e
    → (m ≡ n) × (e ≡ d)
alike m (pos a) n (pos b) o p h = let r = odd_pow m n a b o p (sym (mul-one (m * 2 ^ a)) ∙ h ∙ mul-one (n * 2 ^ b)) in
    (r.0, ap pos r.1)
alike m (pos a) n (negsuc b) o p h =
    let r = odd_pow m n (a + suc b) 0 o p (ap (λ (x : ℕ). m * x) (pow-add 2 a (suc b)) ∙ sym
    (mul_assoc m (2 ^ a) (2 ^ suc b)) ∙ h ∙ mul-one (n * 1)) in
    absurd (let z : ⊥ = omega (arith, r.1) in z)
alike m (negsuc a) n (pos b) o p h =
    let r = odd_pow m n 0 (b + suc a) o p (sym (mul-one (m * 1)) ∙ h ∙ mul_assoc n (2 ^ b) (2 ^ suc a) ∙ ap
    (λ (x : ℕ). n * x) (sym (pow-add 2 b (suc a)))) in
    absurd (let z : ⊥ = omega (arith, r.1) in z)
alike m (negsuc a) n (negsuc b) o p h =
    let r = odd_pow m n (suc b) (suc a) o p (ap (λ (x : ℕ). x * 2 ^ suc b) (sym (mul-one m)) ∙ h ∙ ap
    (λ (x : ℕ). x * 2 ^ suc a) (mul-one n)) in
    (r.0, ap negsuc (let z : a ≡ b = omega (arith, r.1) in z))

nothing : (n : ℕ) (u d : ℕ) → 0 < u → 0 < d → 0 ≡ suc n * u * d → ⊥
nothing n u d U D h = let l : 0 < suc n * u * d = mul-pos (mul-pos (zero-lt-suc n) U) D in omega arith

equal : (m : ℕ) (e : ℤ) (n : ℕ) (d : ℤ) → T (fits binary64 (fin false m e)) → T (fits binary64 (fin false n d))
    → m * up e * down d ≡ n * up d * down e
    → fin false m e ≡ fin false n d
equal zero e zero d p q h = rw (zero_exp e p, zero_exp d q)
equal zero e (suc n) d p q h =
    absurd (nothing n (up d) (down e) (up_pos d) (down_pos e) (sym (zero-mul (down d)) ∙ ap (λ (x : ℕ). x * down d)
    (sym (zero-mul (up e))) ∙ h))
equal (suc m) e zero d p q h =
    absurd (nothing m (up e) (down d) (up_pos e) (down_pos d) (sym (zero-mul (down e)) ∙ ap (λ (x : ℕ). x * down e)
    (sym (zero-mul (up d))) ∙ sym h))
equal (suc m) e (suc n) d p q h =
    let r = alike (suc m) e (suc n) d (is_odd m e p) (is_odd n d q) h in
    rw (r.0, r.1)

pub one_number : (x y : Float) → T (fits binary64 x) → T (fits binary64 y) → Clear x → Clear y → T (le x y)
    → T (le y x) → x ≡ y
one_number x y f g p q h k =
    any2 (λ (x y : Float). T (fits binary64 x) → T (fits binary64 y) → T (le x y) → T (le y x) → x ≡ y)
    (λ m e n d f g h k. equal m e n d f g (le_antisymm (cross m e n d h) (cross n d m e k))) x y p q f g h k
