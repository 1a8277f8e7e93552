-- Laws of a number that is read digit by digit, of a digest, and of the digits that are written.
use Rattle.std.proofs.Common.{◌≡◌, ℕ, zero, suc, ◌+◌, ◌-◌, ◌*◌, ◌%◌, ◌^◌, ◌<◌, ◌≤◌, List}
use Rattle.std.proofs.Common.{length, get_or, take, refl, ◌∙◌, add-one, arith}
use Rattle.std.proofs.Common.{take_all}
use Rattle.std.proofs.Common.{drop, fold, length-take}
use Rattle.std.proofs.lemmas.List.{get_or-take, get_or-drop}
use Rattle.std.proofs.lemmas.List.Sums.{fold_more}
use Rattle.std.proofs.Common.{min, max, leb, leb-true, leb-false, Bool, true, false}
use native.Mathlib.Nat.{pow-le-pow_right}
use Rattle.std.proofs.Common.{◌/◌, [], ◌∷◌, ◌++◌, sym, append_assoc, append-nil}
use Rattle.io.specs.Digits.{hex_digit_ascii, last_digits, IsDigitCount}
use Rattle.lines.specs.Line.{digit_of, number_at}
use Rattle.lines.specs.Bytes.{digest_to, digest_of}

-- ---- a number

-- one digit more, which is read of the part of the line that the digits are
pub number_more : (line : List ℕ) (from width i : ℕ) {n r : ℕ} → n ≡ number_at line from i
    → i < length (take width (drop from line))
    → r ≡ (n * 16 + digit_of (get_or (take width (drop from line)) i 0)) % 2 ^ 64 → r ≡ number_at line from (i + 1)
unfolding number_at
number_more line from width i h l e =
    let inside : i < width = omega (arith, length-take width (drop from line)) in
    let read = get_or-take width (drop from line) i 0 inside ∙ get_or-drop from line i 0 in
    rw add-one (rw (h, read) at e)

-- ---- a digest

-- the fold that the code runs, and the definition by places
pub digest_by_fold : (bytes : List ℕ) (k : ℕ) → k ≤ length bytes
    → fold (λ d b. (d * 31 + b) % 2 ^ 64) 0 (take k bytes) ≡ digest_to bytes k
unfolding digest_to
digest_by_fold bytes zero h = refl
digest_by_fold bytes (suc k) h =
    let before = digest_by_fold bytes k (omega arith) in
    let more = fold_more (λ (d b : ℕ). (d * 31 + b) % 2 ^ 64) 0 bytes k 0 (omega arith) in
    rw add-one at more ∙ rw before refl

pub digest_whole : (bytes : List ℕ) → fold (λ d b. (d * 31 + b) % 2 ^ 64) 0 bytes ≡ digest_of bytes
digest_whole bytes =
    rw (take_all (length bytes) bytes (omega arith)) at (digest_by_fold bytes (length bytes) (omega arith))

-- ---- digits

-- digits that are written one by one, from the front; docs/PORT.md names both laws
pub hex_none : (a : List ℕ) (at width n : ℕ) → width ≤ 0 → take (at + width) a ≡ take at a ++ last_digits 16 width n
hex_none a at zero n l = let e : at + 0 ≡ at = omega arith in rw e (sym (append-nil (take at a)))
hex_none a at (suc w) n l = absurd (omega arith)

-- the digits but the last lead from a to b, and the last from b to c
pub hex_more : (a b c : List ℕ) (at width n g : ℕ) → 0 < width → take (at + (width - 1)) b ≡ take at a ++ last_digits 16
    (width - 1) (n / 16)
    → g ≡ hex_digit_ascii (n % 16) → take (at + width - 1 + 1) c ≡ take (at + width - 1) b ++ (g ∷ [])
    → take (at + width) c ≡ take at a ++ last_digits 16 width n
hex_more a b c at zero n g l p e q = absurd (omega arith)
hex_more a b c at (suc w) n g l p e q =
    let i : suc w - 1 ≡ w = omega arith in
    let j : at + suc w - 1 ≡ at + w = omega arith in
    let k : at + w + 1 ≡ at + suc w = omega arith in
    (rw (j, k) at q) ∙ rw ((rw i at p), e) (append_assoc (take at a) (last_digits 16 w (n / 16))
    (hex_digit_ascii (n % 16) ∷ []))

-- a number that has room in m digits, and is padded to so many, has so many
at_most : (m n k : ℕ) → n < 16 ^ m → IsDigitCount 16 m n k → k ≡ m
at_most m n k s h = by (leb k m) refl
  where
    by : (t : Bool) → leb k m ≡ t → k ≡ m
    by true e = let l : k ≤ m = leb-true k m e in omega (arith, h.0)
    by false e =
        let r : m < k = leb-false k m e in
        let g : m ≤ k - 1 = omega arith in
        let p : 16 ^ m ≤ 16 ^ (k - 1) = pow-le-pow_right (omega arith) g in
        let q : 16 ^ (k - 1) ≤ n = h.2 (omega arith) in absurd (omega arith)

pub hex_text : (m n k : ℕ) (xs : List ℕ) → 1 ≤ m → m ≤ 16 → n < 16 ^ m → IsDigitCount 16 (min (max m 1) 16) n k
    → take k xs ≡ last_digits 16 k n → take m xs ≡ last_digits 16 m n
hex_text m n k xs o l s h e =
    let w : min (max m 1) 16 ≡ m = omega arith in
    let f : k ≡ m = at_most m n k s (rw w at h) in
    rw f at e
