-- The bytes of a number as the library has them.
use Rattle.std.proofs.Common.{ℕ, zero, suc, ◌/◌, ◌%◌, ◌^◌, ◌≤◌, ◌≡◌, refl, sym, ap, ◌∙◌}
use Rattle.std.proofs.Common.{List, ◌∷◌, take, w32, w64, arith}
use Rattle.std.proofs.Math.Nat.{div-one, div-div-eq-div-mul, pow-suc}
use Rattle.std.specs.Int.{byte_at, bytes_low_first, to_le_bytes}
use Rattle.memory.specs.Bytes.{bytes_of}

byte_here : (i v : ℕ) → byte_at i v ≡ v / 256 ^ i % 256
byte_here zero v = ap (λ (n : ℕ). n % 256) (sym (div-one v))
byte_here (suc i) v = refl

next_up : (i v : ℕ) → v / 256 ^ suc i ≡ v / 256 ^ i / 256
next_up i v = ap (λ (n : ℕ). v / n) (pow-suc 256 i) ∙ sym (div-div-eq-div-mul v (256 ^ i) 256)

low_bytes : (i k v : ℕ) → bytes_low_first i k v ≡ bytes_of k (v / 256 ^ i)
unfolding bytes_of
low_bytes i zero v = refl
low_bytes i (suc k) v =
    ap (λ (b : ℕ). b ∷ bytes_low_first (suc i) k v) (byte_here i v)
    ∙ ap (λ (bs : List ℕ). (v / 256 ^ i % 256) ∷ bs) (low_bytes (suc i) k v)
    ∙ ap (λ (n : ℕ). (v / 256 ^ i % 256) ∷ bytes_of k n) (next_up i v)

from_lowest : (k v : ℕ) → bytes_low_first 0 k v ≡ bytes_of k v
from_lowest k v = low_bytes 0 k v ∙ ap (λ (n : ℕ). bytes_of k n) (div-one v)

fewer : (w i k v : ℕ) → w ≤ k → take w (bytes_low_first i k v) ≡ bytes_low_first i w v
fewer zero i k v h = refl
fewer (suc w) i zero v h = absurd (omega arith)
fewer (suc w) i (suc k) v h = ap (λ (bs : List ℕ). byte_at i v ∷ bs) (fewer w (suc i) k v (omega arith))

pub four_bytes : (v : ℕ) → to_le_bytes w32 v ≡ bytes_of 4 v
four_bytes v = from_lowest 4 v

pub eight_bytes : (v : ℕ) → to_le_bytes w64 v ≡ bytes_of 8 v
eight_bytes v = from_lowest 8 v

pub few_bytes : (w v : ℕ) → w ≤ 8 → take w (to_le_bytes w64 v) ≡ bytes_of w v
few_bytes w v h = fewer w 0 8 v h ∙ from_lowest w v
