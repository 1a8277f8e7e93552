-- Laws of text that is put at the end of a text, of a number's digits, and of counting.
use Rattle.std.proofs.Common.{◌≡◌, ℕ, zero, suc, ◌+◌, ◌-◌, ◌*◌, ◌/◌, ◌%◌, ◌^◌, ◌<◌, ◌≤◌, Bool, true, false, eqb}
use Rattle.std.proofs.Common.{ltb, leb, List, [], ◌∷◌, ◌++◌, length, take, refl, ap, ◌∙◌, cond, not, sym}
use Rattle.std.proofs.Common.{append_assoc, pow-suc, arith, length-append, le-ltb, lt-ltb, leb-false, leb-true}
use Rattle.std.specs.List.{count_by}
use Rattle.std.proofs.lemmas.List.Recursion.{is_count_by}
use native.Mathlib.Nat.{one-le-pow, pow-le-pow_right}
use Rattle.io.specs.Digits.{hex_digit_ascii, last_digits, IsDigitCount}
use Rattle.flash.specs.Pick.{pick}
use Rattle.steps.specs.Text.{decimal_in, field, hex_line, bad_line, count_programmed}

-- ---- one text after another
pub after : {b c u : List ℕ} (a s t : List ℕ) → b ≡ a ++ s → c ≡ b ++ t → s ++ t ≡ u → c ≡ a ++ u
after a s t p q e = q ∙ rw (p, ← e) (append_assoc a s t)

-- ---- counting; docs/decisions/names.md names the law
count_cons : (b : ℕ) (bs : List ℕ) → count_programmed (b ∷ bs) ≡ pick (eqb b 255) 0 1 + count_programmed bs
unfolding count_programmed
count_cons b bs = refl

-- ---- digits
-- the fewest digits are those of the definition
pub spelled : (f k n : ℕ) → IsDigitCount 10 1 n k → k ≤ f → last_digits 10 k n ≡ decimal_in f n
unfolding decimal_in
spelled f zero n h l = absurd (omega (arith, h.0))
spelled zero (suc k) n h l = absurd (omega arith)
spelled (suc f) (suc zero) n h l =
    let s : n < 10 = h.1 in
    let e : n % 10 ≡ n = omega arith in rw (e, lt-ltb n 10 s)
spelled (suc f) (suc (suc k)) n h l =
    let p : 10 ^ suc k ≡ 10 ^ k * 10 = pow-suc 10 k in
    let q : 10 ^ suc (suc k) ≡ 10 ^ suc k * 10 = pow-suc 10 (suc k) in
    let o : 1 ≤ 10 ^ k = one-le-pow k 10 (omega arith) in
    let d : suc (suc k) - 1 ≡ suc k = omega arith in
    let e : suc k - 1 ≡ k = omega arith in
    let m : 10 ^ suc k ≤ n = rw d at (h.2 (omega arith)) in
    let b : n < 10 ^ suc (suc k) = h.1 in
    let t : 10 ≤ n = omega arith in
    let u : n / 10 < 10 ^ suc k = omega arith in
    let v : 10 ^ k ≤ n / 10 = omega arith in
    rw (le-ltb n 10 t) (ap (λ (x : List ℕ). x ++ (hex_digit_ascii (n % 10) ∷ []))
    (spelled f (suc k) (n / 10) (omega arith, u, λ z. rw e v) (omega arith)))

-- a number that has room in m digits has no more of them, but for zeros in front
at_most : (b width m n k : ℕ) → 1 ≤ b → width ≤ m → n < b ^ m → IsDigitCount b width n k → k ≤ m
at_most b width m n k o l s h = by (leb k m) refl
  where
    by : (t : Bool) → leb k m ≡ t → k ≤ m
    by true e = leb-true k m e
    by false e =
        let r : m < k = leb-false k m e in
        let g : m ≤ k - 1 = omega arith in
        let p : b ^ m ≤ b ^ (k - 1) = pow-le-pow_right o g in
        let q : b ^ (k - 1) ≤ n = h.2 (omega arith) in absurd (omega arith)

-- a u64 has at most 20 digits
pub twenty : (n k : ℕ) → n < 2 ^ 64 → IsDigitCount 10 1 n k → k ≤ 20
twenty n k s h = let l : n < 10 ^ 20 = omega arith in at_most 10 1 20 n k (omega arith) (omega arith) l h

-- a byte has two hex digits
two : (n k : ℕ) → n < 256 → IsDigitCount 16 2 n k → k ≡ 2
two n k s h =
    let l : k ≤ 2 = at_most 16 2 2 n k (omega arith) (omega arith) s h in omega (arith, h.0)

pub few : (f n : ℕ) → length (decimal_in f n) ≤ f
unfolding decimal_in
few zero n = omega arith
few (suc f) n = by (ltb n 10) (decimal_in f (n / 10)) (hex_digit_ascii n) (hex_digit_ascii (n % 10)) (few f (n / 10))
  where
    by : (b : Bool) (xs : List ℕ) (d e : ℕ) → length xs ≤ f → length (pick b (d ∷ []) (xs ++ (e ∷ []))) ≤ suc f
    by true xs d e h = omega arith
    by false xs d e h = rw length-append (omega arith)

-- ---- counting
pub counted : (xs : List ℕ) → count_by (λ b. not (eqb b 255)) xs ≡ count_programmed xs
unfolding count_programmed
counted xs =
    let step : (b : ℕ) (bs : List ℕ) → count_programmed (b ∷ bs)
    ≡ cond (not (eqb b 255)) (1 + count_programmed bs) (count_programmed bs) =
    λ b bs. one (eqb b 255) (count_programmed bs) in
    sym (is_count_by count_programmed (λ b. not (eqb b 255)) refl step xs)
  where
    one : (t : Bool) (n : ℕ) → pick t 0 1 + n ≡ cond (not t) (1 + n) n
    one true n = omega arith
    one false n = refl

-- ---- the lines
pub field_text : (n k : ℕ) {xs : List ℕ} → n < 2 ^ 64 → IsDigitCount 10 1 n k → xs ≡ last_digits 10 k n → 32 ∷ xs ≡
    field n
field_text n k s h e = ap (λ (t : List ℕ). 32 ∷ t) (e ∙ spelled 20 k n h (twenty n k s h))

pub hex_text : (n k : ℕ) (xs : List ℕ) → n < 256 → IsDigitCount 16 2 n k → take k xs ≡ last_digits 16 k n
    → take 2 xs ++ (10 ∷ []) ≡ hex_line n
hex_text n k xs s h e =
    let f : take 2 xs ≡ last_digits 16 2 n = rw (two n k s h) at e in
    let d : n / 16 % 16 ≡ n / 16 = omega arith in rw (f, d)

pub bad_long : (n : ℕ) → length (bad_line n) ≤ 25
unfolding bad_line
bad_long n = rw length-append (omega (arith, few 20 n))
