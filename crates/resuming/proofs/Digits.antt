-- A number as the library reads it: of eight bytes, those past its width are 0.
use Rattle.std.proofs.Common.{ℕ, zero, suc, ◌+◌, ◌-◌, ◌≤◌, ◌<◌, ◌≡◌, refl, ap, ◌∙◌, List, ◌∷◌, ◌++◌, [], length, get_or}
use Rattle.std.proofs.Common.{take, drop, replicate, w64, arith, length-drop, zero-add}
use Rattle.std.proofs.Math.Nat.{add-sub_cancel_left}
use Rattle.std.specs.Int.{from_le_bytes}
use Rattle.std.proofs.lemmas.List.{get_or-take, get_or-drop, get_or-append_right, length-take-le}
use lib.ListN.{get_or-append}
use borrow.Rule.Slice.PartMut.{mid_of}
use Rattle.session.specs.Fields.{number, span}

-- what the library reads is the number of the eight bytes
eight_read : (m : List ℕ) → from_le_bytes w64 m ≡ number m 0 8
unfolding number
eight_read m = omega arith

-- what is past the width counts for nothing
none_read : (m : List ℕ) (at n : ℕ) → ((k : ℕ) → at ≤ k → get_or m k 0 ≡ 0) → number m at n ≡ 0
unfolding number
none_read m at zero h = refl
none_read m at (suc n) h =
    omega (arith, h at (omega arith), none_read m (at + 1) n (λ k later. h k (omega (arith, later))))

same_read : (m s : List ℕ) (i at width n : ℕ) → ((k : ℕ) → k < width → get_or m (i + k) 0 ≡ get_or s (at + k) 0)
    → ((k : ℕ) → i + width ≤ k → get_or m k 0 ≡ 0)
    → number m i (width + n) ≡ number s at width
unfolding number
same_read m s i at zero n same rest =
    ap (λ (k : ℕ). number m i k) (omega arith) ∙ none_read m i n (λ k later. rest k (omega (arith, later)))
same_read m s i at (suc width) n same rest =
    let here : get_or m i 0 ≡ get_or s at 0
    = ap (λ (k : ℕ). get_or m k 0) (omega arith) ∙ same 0 (omega arith) ∙ ap (λ (k : ℕ). get_or s k 0) (omega arith) in
    let later : number m (i + 1) (width + n) ≡ number s (at + 1) width
    = same_read m s (i + 1) (at + 1) width n
    (λ k below. ap (λ (j : ℕ). get_or m j 0) (omega arith) ∙ same (k + 1) (omega (arith, below))
    ∙ ap (λ (j : ℕ). get_or s j 0) (omega arith))
    (λ k past. rest k (omega (arith, past))) in
    let e : suc width + n ≡ suc (width + n) = omega arith in
    rw e (omega (arith, here, later))

small_read : (s : List ℕ) → ((i : ℕ) → get_or s i 0 < 256) → (at n : ℕ) → number s at n < span n
unfolding number span
small_read s bytes at zero = omega arith
small_read s bytes at (suc n) = omega (arith, bytes at, small_read s bytes (at + 1) n)

zeros : (n k : ℕ) → ◌≡◌ {A = ℕ} (get_or (replicate n 0) k 0) 0
zeros zero k = refl
zeros (suc n) zero = refl
zeros (suc n) (suc k) = zeros n k

abbrev nothing : List ℕ
nothing = 0 ∷ (0 ∷ (0 ∷ (0 ∷ (0 ∷ (0 ∷ (0 ∷ (0 ∷ [])))))))

nothing_there : (k : ℕ) → get_or nothing k 0 ≡ 0
nothing_there k = zeros 8 k

pub read_is : (s ys : List ℕ) (at width : ℕ) {r : ℕ} → ((i : ℕ) → get_or s i 0 < 256) → at + width ≤ length s
    → width ≤ 8
    → ys ≡ mid_of at (at + width - at) s
    → r ≡ from_le_bytes w64 (ys ++ drop width nothing)
    → (r ≡ number s at width) × (r < span width)
read_is s ys at width {r} bytes fits few e f =
    let m = ys ++ drop width nothing in
    let part : ys ≡ take width (drop at s) = e ∙ ap (λ (n : ℕ). take n (drop at s)) (add-sub_cancel_left at width) in
    let long : length ys ≡ width
    = ap length part ∙ length-take-le width (drop at s) (rw length-drop (omega (arith, fits))) in
    let front : (k : ℕ) → k < width → get_or m (0 + k) 0 ≡ get_or s (at + k) 0
    = λ k below. ap (λ (j : ℕ). get_or m j 0) (zero-add k)
    ∙ get_or-append ys (drop width nothing) 0 k (omega (arith, long, below))
    ∙ ap (λ (l : List ℕ). get_or l k 0) part ∙ get_or-take width (drop at s) k 0 below ∙ get_or-drop at s k 0 in
    let rest : (k : ℕ) → 0 + width ≤ k → get_or m k 0 ≡ 0
    = λ k past. get_or-append_right ys (drop width nothing) width k 0 long (omega (arith, past))
    ∙ get_or-drop width nothing (k - width) 0 ∙ nothing_there (width + (k - width)) in
    let is : r ≡ number s at width
    = f ∙ eight_read m ∙ ap (λ (k : ℕ). number m 0 k) (omega (arith, few))
    ∙ same_read m s 0 at width (8 - width) front rest in
    (is, omega (arith, is, small_read s bytes at width))
