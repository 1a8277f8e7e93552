-- Laws of sizes, of addresses within them, and of a part that was lent and has come back.
use Rattle.std.proofs.Common.{◌≡◌, ℕ, zero, suc, ◌+◌, ◌-◌, ◌%◌, ◌^◌, ◌<◌, ◌≤◌, Bool, true, false, not, eqb, List}
use Rattle.std.proofs.Common.{length, take, drop, sym, refl, ◌∙◌, subst, arith, length-drop, length-take-le}
use Rattle.std.proofs.Common.{drop-drop, eqb-true}
use native.Mathlib.Nat.{add-sub_cancel_left}
use borrow.Author.Tests.{eqb-false, not-false}
use borrow.Rule.Slice.PartMut.{put_mid}
use Rattle.flash.specs.Pick.{either, both}
use Rattle.flash.specs.Board.{good_size, Power, Sized}
use Rattle.flash.specs.Finish.{patch, block_size}
use Rattle.flash.specs.declared.Block.{Block}
use Rattle.flash.specs.declared.Block.TheVariants.{Sector, Half, Full}
use Rattle.flash.proofs.Bools.{both_parts}

pub or_case : {A : Type 0} (a b : Bool) → either a b ≡ true → (a ≡ true → A) → (b ≡ true → A) → A
or_case true b e f g = f refl
or_case false b e f g = g e

-- a size is 2^16, .. or 2^23
by_size : (P : ℕ → Type 0) → P (2 ^ 16) → P (2 ^ 17) → P (2 ^ 18) → P (2 ^ 19) → P (2 ^ 20) → P (2 ^ 21) → P (2 ^ 22)
    → P (2 ^ 23) → (n : ℕ) → good_size n ≡ true → P n
by_size P p16 p17 p18 p19 p20 p21 p22 p23 n e =
    or_case _ _ e (is 0x1_0000 p16) λ e.
    or_case _ _ e (is 0x2_0000 p17) λ e.
    or_case _ _ e (is 0x4_0000 p18) λ e.
    or_case _ _ e (is 0x8_0000 p19) λ e.
    or_case _ _ e (is 0x10_0000 p20) λ e.
    or_case _ _ e (is 0x20_0000 p21) λ e. or_case _ _ e (is 0x40_0000 p22) (is 0x80_0000 p23)
  where
    is : (k : ℕ) → P k → eqb n k ≡ true → P n
    is k p e = subst P (sym (eqb-true n k e)) p

pub good_sized : (n : ℕ) → good_size n ≡ true → Sized n
good_sized =
    by_size Sized (omega arith) (omega arith) (omega arith) (omega arith) (omega arith) (omega arith) (omega arith)
    (omega arith)

-- after the test of the code
pub tested_sized : (n : ℕ) (g : Bool) → g ≡ good_size n → not g ≡ false → Sized n
tested_sized n g e f = good_sized n (sym e ∙ not-false g f)

powered : (k : ℕ) → 16 ≤ k → k ≤ 23 → Power (2 ^ k)
powered k l h = record { exponent = k; least = l; most = h; power = refl }

-- the sizes that are not refused are the powers of two from 65,536 to 8,388,608
pub sizes : (n : ℕ) → (good_size n ≡ true → Power n) × (Power n → good_size n ≡ true)
sizes n = (
  by_size Power (powered 16 (omega arith) (omega arith)) (powered 17 (omega arith) (omega arith))
      (powered 18 (omega arith) (omega arith)) (powered 19 (omega arith) (omega arith))
      (powered 20 (omega arith) (omega arith)) (powered 21 (omega arith) (omega arith))
      (powered 22 (omega arith) (omega arith)) (powered 23 (omega arith) (omega arith)) n,
  λ p. rw p.power (tested 8 refl p.exponent p.least (omega (arith, p.most))),
)
  where
    -- so many powers from 2^16 on are good
    goods : ℕ → Bool
    goods zero = true
    goods (suc k) = both (good_size (2 ^ (16 + k))) (goods k)

    tested : (j : ℕ) → goods j ≡ true → (k : ℕ) → 16 ≤ k → k < 16 + j → good_size (2 ^ k) ≡ true
    tested zero h k l u = absurd (omega arith)
    tested (suc j) h k l u =
        let p = both_parts (good_size (2 ^ (16 + j))) (goods j) h in
        last (eqb k (16 + j)) refl p.0 (tested j p.1 k l)
      where
        last : (t : Bool) → eqb k (16 + j) ≡ t → good_size (2 ^ (16 + j)) ≡ true →
            (k < 16 + j → good_size (2 ^ k) ≡ true)
            → good_size (2 ^ k) ≡ true
        last true e g f = rw (eqb-true k (16 + j) e) g
        last false e g f = let n : k ≡ 16 + j → ⊥ = eqb-false k (16 + j) e in f (omega arith)

-- the page and the block that an address lies in are within the array
pub page_in : (n a : ℕ) → Sized n → a < n → a - a % 256 + 256 ≤ n
page_in n a s l = omega arith

pub block_in : (b : Block) (n a : ℕ) → Sized n → a < n → a - a % block_size b + block_size b ≤ n
block_in Sector n a s l = omega arith
block_in Half n a s l = omega arith
block_in Full n a s l = omega arith

pub block_pos : (b : Block) → 0 < block_size b
block_pos Sector = omega arith
block_pos Half = omega arith
block_pos Full = omega arith

-- a part that was lent and has come back changed by f
pub came_back : (a k : ℕ) (xs ys : List ℕ) (f : List ℕ → List ℕ) → ys ≡ f (take (a + k - a) (drop a xs))
    → put_mid a (a + k - a) xs ys ≡ patch xs a k (f (take k (drop a xs)))
came_back a k xs ys f e = rw (e, add-sub_cancel_left a k, drop-drop)

pub part_long : (a k : ℕ) (xs : List ℕ) → a + k ≤ length xs → length (take k (drop a xs)) ≡ k
part_long a k xs h = length-take-le k (drop a xs) (rw length-drop (omega arith))

-- every size is even, and a whole number of pages
pub size_2 : (n : ℕ) → Sized n → n % 2 ≡ 0
size_2 n s = omega arith

pub size_256 : (n : ℕ) → Sized n → n % 256 ≡ 0
size_256 n s = omega arith

pub regroup : (a i k : ℕ) → k ≤ i → a + i - k ≡ a + (i - k)
regroup a i k h = omega arith

-- no list of so many elements is empty
pub not_empty : {n : ℕ} → suc n ≡ 0 → ⊥
not_empty h = omega arith
