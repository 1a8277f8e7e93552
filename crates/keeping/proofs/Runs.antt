-- Runs of the bank's words in a session: the bytes that a run was read from are the bytes of what was read, and a run
-- that stands there is read as it is.
use Prim.Native.Nat.{ℕ, zero, suc, ◌+◌, ◌*◌, ◌^◌, ◌≤◌, ◌<◌}
use mathlib.Core.Path.{◌≡◌, refl, sym, ap, subst, ◌∙◌}
use mathlib.Core.Bool.{false}
use mathlib.Core.List.{List, ◌++◌}
use native.Mathlib.Omega.{arith}
use lib.Dec.{T}
use lib.Ieee.{Float, nan, binary64, of_bits, fits, is_nan}
use lib.ListN.{length, get_or, set, length-append}
use Rattle.memory.specs.Bytes.{bytes_of}
use Rattle.whole.specs.Forms.{bits_of}
use Rattle.whole.proofs.Finite.{bits_again, bits_limit, bits_same}
use Rattle.session.specs.Fields.{number, span, rows_of}
use Rattle.session.specs.Layout.{width_at, cells_long}
use Rattle.session.specs.Read.{float_at, cells_read, floats_read}
use Rattle.session.specs.Sections.{cell_bytes, float_bytes}
use Rattle.session.proofs.Digits.{length_bytes}
use Rattle.session.proofs.Stands.{Stands, stands_first, stands_rest, stands_both, stands_number, stands_read}
use Rattle.session.proofs.Long.{cells_long_lem, floats_long}

-- ---- one behind the other, with the place of the second

module _ (s : List ℕ) (at : ℕ) (xs ys : List ℕ) (next : ℕ) (e : at + length xs ≡ next) where
  pub stands_next : Stands s at xs → Stands s next ys → Stands s at (xs ++ ys)
  stands_next f g = stands_both s at xs ys f (subst (λ (k : ℕ). Stands s k ys) (sym e) g)

  pub stands_then : Stands s at (xs ++ ys) → Stands s next ys
  stands_then h = subst (λ (k : ℕ). Stands s k ys) e (stands_rest s at xs ys h)

-- ---- what was read

unfoldable pub cell_run : List ℕ → ℕ → ℕ → ℕ → List ℕ
cell_run s at i n = rows_of (λ j. bytes_of (width_at (i + j)) (number s (at + cells_long i j) (width_at (i + j)))) n

unfoldable pub float_run : List ℕ → ℕ → ℕ → List ℕ
float_run s at n = rows_of (λ j. bytes_of 8 (bits_of (float_at s (at + 8 * j)))) n

cell_run_long : (s : List ℕ) (at i n : ℕ)
    → length (rows_of (λ j. bytes_of (width_at (i + j)) (number s (at + cells_long i j) (width_at (i + j)))) n)
    ≡ cells_long i n
unfolding rows_of cells_long
cell_run_long s at i zero = refl
cell_run_long s at i (suc n) =
    let before = cell_run_long s at i n in
    let here = length_bytes (width_at (i + n)) (number s (at + cells_long i n) (width_at (i + n))) in
    let all = length-append
    (rows_of (λ j. bytes_of (width_at (i + j)) (number s (at + cells_long i j) (width_at (i + j)))) n)
    (bytes_of (width_at (i + n)) (number s (at + cells_long i n) (width_at (i + n)))) in
    omega arith

float_run_long : (s : List ℕ) (at n : ℕ)
    → length (rows_of (λ j. bytes_of 8 (bits_of (float_at s (at + 8 * j)))) n) ≡ 8 * n
unfolding rows_of
float_run_long s at zero = refl
float_run_long s at (suc n) =
    let before = float_run_long s at n in
    let here = length_bytes 8 (bits_of (float_at s (at + 8 * n))) in
    let all = length-append (rows_of (λ j. bytes_of 8 (bits_of (float_at s (at + 8 * j)))) n)
    (bytes_of 8 (bits_of (float_at s (at + 8 * n)))) in
    omega arith

module _ (s : List ℕ) (bytes : (i : ℕ) → get_or s i 0 < 256) where
  pub number_small : (at n : ℕ) → number s at n < span n
  unfolding number span
  number_small at zero = omega arith
  number_small at (suc n) = let b = bytes at in let rest = number_small (at + 1) n in omega arith

  cells_read_lem : (at i n : ℕ) → at + cells_long i n ≤ length s
      → Stands s at (rows_of (λ j. bytes_of (width_at (i + j)) (number s (at + cells_long i j) (width_at (i + j)))) n)
  unfolding rows_of cells_long
  cells_read_lem at i zero fits = refl
  cells_read_lem at i (suc n) fits =
      stands_next s at (rows_of (λ j. bytes_of (width_at (i + j))
      (number s (at + cells_long i j) (width_at (i + j)))) n)
      (bytes_of (width_at (i + n)) (number s (at + cells_long i n) (width_at (i + n)))) (at + cells_long i n)
      (ap (λ (k : ℕ). at + k) (cell_run_long s at i n)) (cells_read_lem at i n (omega arith))
      (stands_read s (at + cells_long i n) (width_at (i + n)) bytes (omega arith))

  pub cell_run_lem : (at i n : ℕ) → at + cells_long i n ≤ length s → Stands s at (cell_run s at i n)
  unfolding cell_run
  cell_run_lem at i n fits = cells_read_lem at i n fits

  -- the float that eight bytes are has these bytes, if it is a number
  pub float_bytes_lem : (at : ℕ) → at + 8 ≤ length s → is_nan (float_at s at) ≡ false
      → Stands s at (bytes_of 8 (bits_of (float_at s at)))
  unfolding span
  float_bytes_lem at fits some =
      subst (λ (v : ℕ). Stands s at (bytes_of 8 v)) (sym (bits_same (number s at 8) small some))
      (stands_read s at 8 bytes fits)
    where
      small : number s at 8 < 2 ^ 64
      small = number_small at 8

  floats_read_lem : (at n : ℕ) → at + 8 * n ≤ length s → ((j : ℕ) → j < n → is_nan (float_at s (at + 8 * j)) ≡ false)
      → Stands s at (rows_of (λ j. bytes_of 8 (bits_of (float_at s (at + 8 * j)))) n)
  unfolding rows_of
  floats_read_lem at zero fits some = refl
  floats_read_lem at (suc n) fits some =
      stands_next s at (rows_of (λ j. bytes_of 8 (bits_of (float_at s (at + 8 * j)))) n)
      (bytes_of 8 (bits_of (float_at s (at + 8 * n)))) (at + 8 * n)
      (ap (λ (k : ℕ). at + k) (float_run_long s at n))
      (floats_read_lem at n (omega arith) (λ j below. some j (omega arith)))
      (float_bytes_lem (at + 8 * n) (omega arith) (some n (omega arith)))

  pub float_run_lem : (at n : ℕ) → at + 8 * n ≤ length s → ((j : ℕ) → j < n → is_nan (float_at s (at + 8 * j)) ≡ false)
      → Stands s at (float_run s at n)
  unfolding float_run
  float_run_lem at n fits some = floats_read_lem at n fits some

-- ---- what stands there

-- a run of one list laid over another
unfoldable pub copied : {A : Type 0} → List A → A → List A → ℕ → ℕ → List A
copied l d l₀ i zero = l₀
copied l d l₀ i (suc n) = set (copied l d l₀ i n) (i + n) (get_or l (i + n) d)

module _ (s l l₀ : List ℕ) where
  cells_again : (at i n : ℕ) → Stands s at (rows_of (λ j. bytes_of (width_at (i + j)) (get_or l (i + j) 0)) n)
      → ((j : ℕ) → j < n → get_or l (i + j) 0 < span (width_at (i + j)))
      → cells_read s at l₀ i n ≡ copied l 0 l₀ i n
  unfolding rows_of cells_read copied cell_bytes
  cells_again at i zero h small = refl
  cells_again at i (suc n) h small =
      let first = stands_first s at (rows_of (λ j. bytes_of (width_at (i + j)) (get_or l (i + j) 0)) n)
      (bytes_of (width_at (i + n)) (get_or l (i + n) 0)) h in
      let here = stands_then s at (rows_of (λ j. bytes_of (width_at (i + j)) (get_or l (i + j) 0)) n)
      (bytes_of (width_at (i + n)) (get_or l (i + n) 0)) (at + cells_long i n)
      (ap (λ (k : ℕ). at + k) (cells_long_lem l i n)) h in
      rw (
        cells_again at i n first (λ j below. small j (omega arith)),
        stands_number s (at + cells_long i n) (width_at (i + n)) (get_or l (i + n) 0) (small n (omega arith)) here,
      )

  pub cells_stand : (at i n : ℕ) → Stands s at (cell_bytes l i n)
      → ((j : ℕ) → j < n → get_or l (i + j) 0 < span (width_at (i + j)))
      → cells_read s at l₀ i n ≡ copied l 0 l₀ i n
  unfolding cell_bytes
  cells_stand at i n h small = cells_again at i n h small

-- the float whose bytes stand there is read
pub float_stands : (s : List ℕ) (at : ℕ) (x : Float) → T (fits binary64 x) → Stands s at (bytes_of 8 (bits_of x))
    → float_at s at ≡ x
unfolding span
float_stands s at x f h =
    ap (λ (v : ℕ). of_bits binary64 v) (stands_number s at 8 (bits_of x) small h) ∙ bits_again x f
  where
    small : bits_of x < span 8
    small = bits_limit x f

module _ (s : List ℕ) (f f₀ : List Float) (typed : (i : ℕ) → T (fits binary64 (get_or f i nan))) where
  floats_again : (at i n : ℕ) → Stands s at (rows_of (λ j. bytes_of 8 (bits_of (get_or f (i + j) nan))) n)
      → floats_read s at f₀ i n ≡ copied f nan f₀ i n
  unfolding rows_of floats_read copied float_bytes
  floats_again at i zero h = refl
  floats_again at i (suc n) h =
      let first = stands_first s at (rows_of (λ j. bytes_of 8 (bits_of (get_or f (i + j) nan))) n)
      (bytes_of 8 (bits_of (get_or f (i + n) nan))) h in
      let here = stands_then s at (rows_of (λ j. bytes_of 8 (bits_of (get_or f (i + j) nan))) n)
      (bytes_of 8 (bits_of (get_or f (i + n) nan))) (at + 8 * n)
      (ap (λ (k : ℕ). at + k) (floats_long f i n)) h in
      rw (floats_again at i n first, float_stands s (at + 8 * n) (get_or f (i + n) nan) (typed (i + n)) here)

  pub floats_stand : (at i n : ℕ) → Stands s at (float_bytes f i n) → floats_read s at f₀ i n ≡ copied f nan f₀ i n
  unfolding float_bytes
  floats_stand at i n h = floats_again at i n h
