-- The screen pixel by pixel is the whole screen, and each pixel's colours stand in it.
use Rattle.std.proofs.Common.{◌≡◌, ℕ, zero, suc, ◌+◌, ◌*◌, ◌/◌, ◌%◌, ◌^◌, ◌<◌, ◌≤◌, List, [], ◌∷◌, ◌++◌, length}
use Rattle.std.proofs.Common.{get_or, set, sym, refl, ap, ◌∙◌, arith}
use lib.Bits.{and_mask}
use Rattle.map.specs.Numbers.{FRAMEBUFFER_SIZE, SCREEN_BYTES}
use Rattle.panel.specs.declared.Colours.{Colours}
use Rattle.panel.specs.Colour.{parted, from_le, pushed, rgb_of, colours_at, pixel_at, triple_at, over}
use Rattle.panel.specs.Inner.{triple}

-- the masks as remainders
pub parted_is : (v : ℕ)
    → parted v ≡ record { r = v / 2048 % 32 * 255 / 31; g = v / 32 % 64 * 255 / 63; b = v % 32 * 255 / 31 }
unfolding parted
parted_is v = rw (and_mask (v / 2 ^ 11) 5, and_mask (v / 2 ^ 5) 6, and_mask v 5)

-- what is as long covers it
over_whole : (xs out : List ℕ) → length xs ≡ length out → over xs out ≡ xs
unfolding over
over_whole [] [] e = refl
over_whole [] (o ∷ out) e = absurd (omega arith)
over_whole (x ∷ xs) [] e = absurd (omega arith)
over_whole (x ∷ xs) (o ∷ out) e = ap (λ l. x ∷ l) (over_whole xs out (omega arith))

-- the three bytes of each of the first n pixels
pub first : ℕ → List ℕ → List ℕ
first zero fb = []
first (suc n) [] = []
first (suc n) (lo ∷ []) = []
first (suc n) (lo ∷ hi ∷ rest) = pushed (parted (from_le lo hi)) (first n rest)

first_all : (n : ℕ) (fb : List ℕ) → length fb ≤ n * 2 + 1 → first n fb ≡ rgb_of fb
unfolding first rgb_of
first_all zero [] h = refl
first_all zero (lo ∷ []) h = refl
first_all zero (lo ∷ hi ∷ rest) h = absurd (omega arith)
first_all (suc n) [] h = refl
first_all (suc n) (lo ∷ []) h = refl
first_all (suc n) (lo ∷ hi ∷ rest) h = ap (pushed (parted (from_le lo hi))) (first_all n rest (omega arith))

first_length : (n : ℕ) (fb : List ℕ) → n * 2 ≤ length fb → length (first n fb) ≡ n * 3
unfolding first
first_length zero fb h = refl
first_length (suc n) [] h = absurd (omega arith)
first_length (suc n) (lo ∷ []) h = absurd (omega arith)
first_length (suc n) (lo ∷ hi ∷ rest) h =
    let e : length (first n rest) ≡ n * 3 = first_length n rest (omega arith) in omega arith

-- a pixel further on
further : (lo hi : ℕ) (rest : List ℕ) (n : ℕ) → colours_at (lo ∷ hi ∷ rest) (suc n) ≡ colours_at rest n
further lo hi rest n =
    let e : suc n * 2 + 1 ≡ suc (suc (n * 2 + 1)) = omega arith in
    let f : suc n * 2 ≡ suc (suc (n * 2)) = omega arith in
    ap (λ i. parted (from_le (get_or (lo ∷ hi ∷ rest) (suc n * 2) 0) (get_or (lo ∷ hi ∷ rest) i 0))) e
    ∙ ap (λ i. parted (from_le (get_or (lo ∷ hi ∷ rest) i 0) (get_or rest (n * 2 + 1) 0))) f

first_more : (n : ℕ) (fb : List ℕ) → n * 2 + 1 < length fb
    → first (suc n) fb ≡ first n fb ++ pushed (colours_at fb n) []
unfolding first
first_more n [] h = absurd (omega arith)
first_more n (lo ∷ []) h = absurd (omega arith)
first_more zero (lo ∷ hi ∷ rest) h = refl
first_more (suc n) (lo ∷ hi ∷ rest) h =
    rw (further lo hi rest n)
    (ap (pushed (parted (from_le lo hi))) (first_more n rest (omega arith)))

-- a place further on
set_next : (x : ℕ) (l : List ℕ) (i j v : ℕ) → i ≡ suc j → set (x ∷ l) i v ≡ x ∷ set l j v
set_next x l i j v e = rw e

-- a pixel's three bytes more
over_three : (xs out : List ℕ) (c : Colours) → over (xs ++ pushed c []) out ≡ triple (over xs out) (length xs) c
unfolding over
over_three [] [] c = refl
over_three [] (o ∷ []) c = refl
over_three [] (o ∷ p ∷ []) c = refl
over_three [] (o ∷ p ∷ q ∷ out) c = refl
over_three (x ∷ xs) [] c = refl
over_three (x ∷ xs) (o ∷ out) c =
    let n = length xs in
    let l = over xs out in
    ap (λ m. x ∷ m) (over_three xs out c)
    ∙ sym (ap (λ m. set m (suc n + 2) c.b) (set_next x (set l n c.r) (suc n + 1) (n + 1) c.g (omega arith))
    ∙ set_next x (set (set l n c.r) (n + 1) c.g) (suc n + 2) (n + 2) c.b (omega arith))

-- ---- as the functions find them
pub lays : (out a b d : List ℕ) (i : ℕ) (c : Colours) → a ≡ set out i c.r → b ≡ set a (i + 1) c.g
    → d ≡ set b (i + 2) c.b → d ≡ triple out i c
lays out a b d i c p q r = cc

pub pixel_is : (fb : List ℕ) (n hi lo v : ℕ) (c : Colours) → hi ≡ get_or fb (n * 2 + 1) 0 → lo ≡ get_or fb (n * 2) 0
    → v ≡ hi * 256 + lo → c ≡ parted v → c ≡ colours_at fb n
pixel_is fb n hi lo v c p q r s = cc

-- ---- the loop: over what was there, the colours of the first pixels
module _ (fb out : List ℕ) where
  pub none_shown : out ≡ over (first 0 fb) out
  unfolding first over
  none_shown = refl

  more : (n : ℕ) → n * 2 + 1 < length fb → triple (over (first n fb) out) (n * 3) (colours_at fb n)
      ≡ over (first (n + 1) fb) out
  more n h =
      let k : n + 1 ≡ suc n = omega arith in
      ap (λ m. triple (over (first n fb) out) m (colours_at fb n)) (sym (first_length n fb (omega arith)))
      ∙ sym (over_three (first n fb) out (colours_at fb n))
      ∙ sym (ap (λ l. over l out) (ap (λ m. first m fb) k ∙ first_more n fb h))

  pub more_shown : (n : ℕ) (a b : List ℕ) (c : Colours) → n * 2 + 1 < length fb → a ≡ over (first n fb) out
      → c ≡ colours_at fb n → b ≡ triple a (n * 3) c
      → b ≡ over (first (n + 1) fb) out
  more_shown n a b c h e d t = (cc) ∙ more n h

  pub all_shown : (n : ℕ) → n ≡ length fb / 2 → over (first n fb) out ≡ over (rgb_of fb) out
  all_shown n e = ap (λ l. over l out) (first_all n fb (omega arith))

-- ---- a screen of the right size
pub rgb_length : (fb : List ℕ) → length fb ≡ FRAMEBUFFER_SIZE → length (rgb_of fb) ≡ SCREEN_BYTES
rgb_length fb e = sym (ap length (first_all 16384 fb (omega arith))) ∙ first_length 16384 fb (omega arith)

pub whole_shown : (fb out : List ℕ) → length fb ≡ FRAMEBUFFER_SIZE → length out ≡ SCREEN_BYTES
    → over (rgb_of fb) out ≡ rgb_of fb
whole_shown fb out e f = over_whole (rgb_of fb) out (rgb_length fb e ∙ sym f)

-- ---- each pixel's colours stand in the screen
get_or_next : (a b c : ℕ) (l : List ℕ) (i j : ℕ) → i ≡ suc (suc (suc j)) → get_or (a ∷ b ∷ c ∷ l) i 0 ≡ get_or l j 0
get_or_next a b c l i j e = rw e

triple_next : (c : Colours) (l : List ℕ) (n : ℕ) → triple_at (pushed c l) (suc n * 3) ≡ triple_at l (n * 3)
triple_next c l n =
    rw (
      get_or_next c.r c.g c.b l (suc n * 3) (n * 3) (omega arith),
      get_or_next c.r c.g c.b l (suc n * 3 + 1) (n * 3 + 1) (omega arith),
      get_or_next c.r c.g c.b l (suc n * 3 + 2) (n * 3 + 2) (omega arith),
    )

at_place : (n : ℕ) (fb : List ℕ) → n * 2 + 1 < length fb → triple_at (rgb_of fb) (n * 3) ≡ colours_at fb n
unfolding rgb_of
at_place n [] h = absurd (omega arith)
at_place n (lo ∷ []) h = absurd (omega arith)
at_place zero (lo ∷ hi ∷ rest) h = refl
at_place (suc n) (lo ∷ hi ∷ rest) h =
    triple_next (parted (from_le lo hi)) (rgb_of rest) n ∙ at_place n rest (omega arith) ∙ sym (further lo hi rest n)

pub in_screen : (fb : List ℕ) (k : ℕ) → length fb ≡ FRAMEBUFFER_SIZE
    → triple_at (rgb_of fb) (k % 16384 * 3) ≡ pixel_at fb k
in_screen fb k e = at_place (k % 16384) fb (omega arith)
