-- The branches of the definitions, each with the fact that leads to it.
use Prim.Native.Nat.{ℕ, zero, suc, ◌+◌, ◌-◌, ◌*◌, ◌/◌, ◌%◌, ◌^◌, ◌≤◌, ◌<◌}
use mathlib.Core.Path.{◌≡◌, refl, sym, ap, ◌∙◌}
use mathlib.Core.Bool.{Bool, true, false, ◌&&◌}
use mathlib.Core.List.{List, [], ◌∷◌, ◌++◌, append_assoc, reverse}
use mathlib.Core.Logic.{◌≢◌, ⊎_elim}
use native.Mathlib.Nat.{add-zero, zero-add, mod-eq_of_lt, div-le_self}
use native.Mathlib.Omega.{arith}
use lib.ListN.{length, get_or, set, take, drop, length-set, length-drop}
use borrow.Rule.Slice.PartMut.{put_mid}
use lib.Seq.{sets-eq, length-take-le, get_or-take, get_or-drop}
use Rattle.std.specs.List.{fold}
use Rattle.std.proofs.Common.{Fits, w8, drop-drop, append-nil, take_all}
use Rattle.std.proofs.lemmas.List.{take_more_set, reverse-append}
use Rattle.std.proofs.lemmas.List.Sums.{fold-append}
use lib.Dec.{leb}
use borrow.Author.Tests.{le-leb, lt-leb, eq-eqb, ne_eqb}
use Rattle.map.specs.Numbers.{FLASH_BASE, RAM_SIZE, SRAM_BASE, SRAM_SIZE, SRAM_END, GPIO_BASE, GPIO_SIZE, GPIO_END}
use Rattle.map.specs.Numbers.{REGISTERS_END}
use Rattle.whole.proofs.Choice.{lt_or_ge}
use Rattle.whole.proofs.Words.{either}
use Rattle.memory.specs.declared.Place.TheVariants.{Ram, Sram, Gpio, Register, Stray}
use Rattle.memory.specs.Places.{within, in_registers, place_of}
use Rattle.memory.specs.Bytes.{le, loaded, bytes_of, stored_at}
use Rattle.memory.specs.Access.{span_of, cut_of, shifted, mask_of}

-- ---- places; k is the highest byte of an address
and_false : (b : Bool) → (b && false) ≡ false
and_false true = refl
and_false false = refl

module _ (first last a : ℕ) where
  pub within_yes : first ≤ a → a ≤ last → within first last a ≡ true
  unfolding within
  within_yes h l = rw (le-leb _ _ h, le-leb _ _ l)

  pub within_past : last < a → within first last a ≡ false
  unfolding within
  within_past h = rw (lt-leb _ _ h) (and_false (leb first a))

  within_before : a < first → within first last a ≡ false
  unfolding within
  within_before h = rw (lt-leb _ _ h)

  -- a range whose addresses have another highest byte
  pub within_else : (k : ℕ) → k * 0x1000000 ≤ first → last < (k + 1) * 0x1000000 → a / 0x1000000 ≢ k
      → within first last a ≡ false
  within_else k h l d =
      ⊎_elim within_before
      (λ m. ⊎_elim within_past (λ n. absurd (d (omega arith))) (lt_or_ge last a))
      (lt_or_ge a first)

module _ (a : ℕ) where
  no_ram : a / 0x1000000 ≢ 0x20 → within FLASH_BASE (FLASH_BASE + RAM_SIZE - 1) a ≡ false
  no_ram = within_else FLASH_BASE (FLASH_BASE + RAM_SIZE - 1) a 0x20 (omega arith) (omega arith)

  no_sram : a / 0x1000000 ≢ 0xF8 → within SRAM_BASE (SRAM_BASE + SRAM_SIZE - 1) a ≡ false
  no_sram = within_else SRAM_BASE (SRAM_BASE + SRAM_SIZE - 1) a 0xF8 (omega arith) (omega arith)

  no_gpio : a / 0x1000000 ≢ 0xC0 → within GPIO_BASE (GPIO_BASE + GPIO_SIZE - 1) a ≡ false
  no_gpio = within_else GPIO_BASE (GPIO_BASE + GPIO_SIZE - 1) a 0xC0 (omega arith) (omega arith)

  no_low : a / 0x1000000 ≢ 0xC0 → within GPIO_END 0xC0FFFFFF a ≡ false
  no_low = within_else GPIO_END 0xC0FFFFFF a 0xC0 (omega arith) (omega arith)

  no_middle : a / 0x1000000 ≢ 0xD0 → within 0xD0000000 0xD0FFFFFF a ≡ false
  no_middle = within_else 0xD0000000 0xD0FFFFFF a 0xD0 (omega arith) (omega arith)

  no_high : a / 0x1000000 ≢ 0xFF → within 0xFF000000 (REGISTERS_END - 1) a ≡ false
  no_high = within_else 0xFF000000 (REGISTERS_END - 1) a 0xFF (omega arith) (omega arith)

  -- 0x20
  pub place_ram : a / 0x1000000 ≡ 0x20 → Ram (a - FLASH_BASE) ≡ place_of a
  unfolding place_of
  place_ram k = rw (within_yes FLASH_BASE (FLASH_BASE + RAM_SIZE - 1) a (omega arith) (omega arith))

  -- 0xF8
  module _ (k : a / 0x1000000 ≡ 0xF8) where
    pub place_sram : a < SRAM_END → Sram (a - SRAM_BASE) ≡ place_of a
    unfolding place_of
    place_sram h = rw (
      no_ram (λ z. omega arith),
      within_yes SRAM_BASE (SRAM_BASE + SRAM_SIZE - 1) a (omega arith)
          (omega arith),
    )

    pub past_sram : SRAM_END ≤ a → Stray ≡ place_of a
    unfolding place_of in_registers
    past_sram h =
        rw (
          no_ram (λ z. omega arith),
          within_past SRAM_BASE (SRAM_BASE + SRAM_SIZE - 1) a (omega arith),
          no_gpio (λ z. omega arith),
          no_low (λ z. omega arith),
          no_middle (λ z. omega arith),
          no_high (λ z. omega arith),
        )

  -- 0xC0
  module _ (k : a / 0x1000000 ≡ 0xC0) where
    pub place_gpio : a < GPIO_END → Gpio (a - GPIO_BASE) ≡ place_of a
    unfolding place_of
    place_gpio h =
        rw (
          no_ram (λ z. omega arith),
          no_sram (λ z. omega arith),
          within_yes GPIO_BASE (GPIO_BASE + GPIO_SIZE - 1) a (omega arith)
              (omega arith),
        )

    pub place_low : GPIO_END ≤ a → Register ≡ place_of a
    unfolding place_of in_registers
    place_low h =
        rw (
          no_ram (λ z. omega arith),
          no_sram (λ z. omega arith),
          within_past GPIO_BASE (GPIO_BASE + GPIO_SIZE - 1) a (omega arith),
          within_yes GPIO_END 0xC0FFFFFF a (omega arith) (omega arith),
        )

  -- 0xD0
  pub place_middle : a / 0x1000000 ≡ 0xD0 → Register ≡ place_of a
  unfolding place_of in_registers
  place_middle k =
      rw (
        no_ram (λ z. omega arith),
        no_sram (λ z. omega arith),
        no_gpio (λ z. omega arith),
        no_low (λ z. omega arith),
        within_yes 0xD0000000 0xD0FFFFFF a (omega arith) (omega arith),
      )

  -- 0xFF
  module _ (k : a / 0x1000000 ≡ 0xFF) where
    pub place_high : a < REGISTERS_END → Register ≡ place_of a
    unfolding place_of in_registers
    place_high h =
        rw (
          no_ram (λ z. omega arith),
          no_sram (λ z. omega arith),
          no_gpio (λ z. omega arith),
          no_low (λ z. omega arith),
          no_middle (λ z. omega arith),
          within_yes 0xFF000000 (REGISTERS_END - 1) a (omega arith) (omega arith),
        )

    pub past_high : REGISTERS_END ≤ a → Stray ≡ place_of a
    unfolding place_of in_registers
    past_high h =
        rw (
          no_ram (λ z. omega arith),
          no_sram (λ z. omega arith),
          no_gpio (λ z. omega arith),
          no_low (λ z. omega arith),
          no_middle (λ z. omega arith),
          within_past 0xFF000000 (REGISTERS_END - 1) a (omega arith),
        )

  -- any other
  pub place_stray : a / 0x1000000 ≢ 0x20 → a / 0x1000000 ≢ 0xC0 → a / 0x1000000 ≢ 0xD0 → a / 0x1000000 ≢ 0xF8
      → a / 0x1000000 ≢ 0xFF → Stray ≡ place_of a
  unfolding place_of in_registers
  place_stray r c d f h = rw (no_ram r, no_sram f, no_gpio c, no_low c, no_middle d, no_high h)

-- ---- bytes by themselves

-- the same bytes elsewhere are the same number
pub le_part : (n : ℕ) (k m : List ℕ) (p o : ℕ) → ((i : ℕ) → i < n → get_or k (p + i) 0 ≡ get_or m (o + i) 0)
    → le k p n ≡ le m o n
unfolding le
le_part zero k m p o same = refl
le_part (suc n) k m p o same =
    let first : get_or k p 0 ≡ get_or m o 0 = rw (add-zero, add-zero) at (same 0 (omega arith)) in
    let rest : le k (p + 1) n ≡ le m (o + 1) n = le_part n k m (p + 1) (o + 1)
    (λ i less.
    let a : p + 1 + i ≡ p + (i + 1) = omega arith in
    let b : o + 1 + i ≡ o + (i + 1) = omega arith in
    rw (a, b) (same (i + 1) (omega arith))) in
    rw (first, rest)

module _ (m : List ℕ) (n v : ℕ) (byte : (i : ℕ) → Fits w8 (get_or m i 0)) where
  pub le_word : n ≡ 4
      → v ≡ get_or m 0 0 + get_or m 1 0 * 256 + get_or m 2 0 * 65536 + get_or m 3 0 * 16777216 → v ≡ le m 0 n
  unfolding le
  le_word e f =
      let a = byte 0 in
      let b = byte 1 in
      let c = byte 2 in
      let d = byte 3 in
      rw e (omega arith)

  pub le_half : n ≡ 2 → v ≡ get_or m 0 0 + get_or m 1 0 * 256 → v ≡ le m 0 n
  unfolding le
  le_half e f =
      let a = byte 0 in
      let b = byte 1 in
      rw e (omega arith)

  pub le_byte : n ≡ 1 → v ≡ get_or m 0 0 → v ≡ le m 0 n
  unfolding le
  le_byte e f = let a = byte 0 in rw e (omega arith)

-- from the last byte to the first
pub le_reverse : (m : List ℕ) → fold (λ v b. (b + 256 * v) % 2 ^ 32) 0 (reverse m) ≡ le m 0 (length m)
unfolding le
le_reverse [] = refl
le_reverse (x ∷ xs) =
    ap (λ m. fold (λ v b. (b + 256 * v) % 2 ^ 32) 0 m) (reverse-append (x ∷ []) xs)
    ∙ fold-append (λ v b. (b + 256 * v) % 2 ^ 32) 0 (reverse xs) (x ∷ [])
    ∙ ap (λ v. (x + 256 * v) % 2 ^ 32) (le_reverse xs ∙ sym (le_part (length xs) (x ∷ xs) xs 1 0
    (λ i less.
    let a : 1 + i ≡ suc i = omega arith in
    let b : 0 + i ≡ i = omega arith in
    rw (a, b))))

pub length-bytes_of : (n v : ℕ) → length (bytes_of n v) ≡ n
unfolding bytes_of
length-bytes_of zero v = refl
length-bytes_of (suc n) v = ap suc (length-bytes_of n (v / 256))

module _ (n v : ℕ) where
  pub bytes_word : n ≡ 4 → v % 256 ∷ v / 256 % 256 ∷ v / 65536 % 256 ∷ v / 16777216 % 256 ∷ [] ≡ bytes_of n v
  unfolding bytes_of
  bytes_word e =
      let a : v / 65536 ≡ v / 256 / 256 = omega arith in
      let b : v / 16777216 ≡ v / 256 / 256 / 256 = omega arith in
      rw (e, a, b)

  pub bytes_half : n ≡ 2 → v % 256 ∷ v / 256 % 256 ∷ [] ≡ bytes_of n v
  unfolding bytes_of
  bytes_half e = rw e

  pub bytes_byte : n ≡ 1 → v % 256 ∷ [] ≡ bytes_of n v
  unfolding bytes_of
  bytes_byte e = rw e

-- a byte more, and all
module _ (k : List ℕ) (i v : ℕ) {all : List ℕ} (so : take i k ++ bytes_of (length k - i) v ≡ all) where
  pub bytes_more : i < length k
      → take (i + 1) (set k i (v % 256)) ++ bytes_of (length (set k i (v % 256)) - (i + 1)) (v / 256) ≡ all
  unfolding bytes_of
  bytes_more less =
      let left : length k - i ≡ suc (length k - (i + 1)) = omega arith in
      let e : take i k ++ (v % 256 ∷ bytes_of (length k - (i + 1)) (v / 256)) ≡ all = rw left at so in
      rw (length-set, take_more_set k i (v % 256) less, append_assoc) e

  pub bytes_all : length k ≤ i → k ≡ all
  unfolding bytes_of
  bytes_all past =
      let left : length k - i ≡ 0 = omega arith in
      let e : take i k ++ [] ≡ all = rw left at so in
      sym (append-nil k) ∙ ap (λ m. m ++ []) (sym (take_all i k past)) ∙ e

module _ (m : List ℕ) (o n : ℕ) where
  pub load_out : length m < o + n → 0 ≡ loaded m o n
  unfolding loaded
  load_out h = rw (lt-leb _ _ h)

  pub load_in : (k : List ℕ) (v : ℕ) → o + n ≤ length m → k ≡ take n (drop o m) → v ≡ le k 0 (length k)
      → v ≡ loaded m o n
  unfolding loaded
  load_in k v h e f =
      let rest : n ≤ length (drop o m) = omega (arith, length-drop o m) in
      let long : length k ≡ n = ap length e ∙ length-take-le n (drop o m) rest in
      rw (le-leb _ _ h) (f ∙ ap (le k 0) long ∙ le_part n k m 0 o
      (λ i less. rw (e, zero-add i) (get_or-take n (drop o m) i 0 less ∙ get_or-drop o m i 0)))

  pub load_none : 0 ≡ loaded m o 0
  unfolding loaded le
  load_none = either (λ (k : ℕ). 0 ≡ k) (leb (o + 0) (length m)) 0 0 refl refl

  -- a byte more in front
  pub load_front : (v r : ℕ) → o + suc n ≤ length m → v ≡ loaded m (o + 1) n → r ≡ (get_or m o 0 + 256 * v) % 2 ^ 32
      → r ≡ loaded m o (suc n)
  unfolding loaded le
  load_front v r h e f =
      let h' : o + 1 + n ≤ length m = omega arith in
      let y : v ≡ le m (o + 1) n = rw (le-leb _ _ h') at e in
      rw (le-leb _ _ h, ← y) f

  pub store_out : (v : ℕ) → length m < o + n → m ≡ stored_at m o n v
  unfolding stored_at
  store_out v h = rw (lt-leb _ _ h)

  pub store_in : (k : List ℕ) (v : ℕ) → o + n ≤ length m → k ≡ bytes_of (length (take (o + n - o) (drop o m))) v
      → put_mid o (o + n - o) m k ≡ stored_at m o n v
  unfolding stored_at
  store_in k v h e =
      let rest : n ≤ length (drop o m) = omega (arith, length-drop o m) in
      let part : o + n - o ≡ n = omega arith in
      let f : k ≡ bytes_of n v = rw (part, length-take-le n (drop o m) rest) at e in
      let long : length (bytes_of n v) ≡ n = length-bytes_of n v in
      let within : o + length (bytes_of n v) ≤ length m = omega arith in
      rw (le-leb _ _ h, part, f)
      (rw (drop-drop n o m) (sym (append_assoc (take o m) (bytes_of n v) (drop (o + n) m)))
      ∙ ap (λ j. take o m ++ bytes_of n v ++ drop (o + j) m) (sym long)
      ∙ sym (sets-eq (bytes_of n v) m o within))

-- ---- a part of a register word
module _ (a n : ℕ) where
  pub mask_word : n ≡ 4 → 0xFFFFFFFF ≡ mask_of a n
  unfolding mask_of
  mask_word e = rw (eq-eqb _ _ e)

  pub mask_half : (r : ℕ) → n ≢ 4 → n ≡ 2 → r ≡ shifted 0xFFFF a → r ≡ mask_of a n
  unfolding mask_of span_of
  mask_half r d e f = rw (ne_eqb _ _ d, eq-eqb _ _ e) f

  pub mask_byte : (r : ℕ) → n ≢ 4 → n ≢ 2 → r ≡ shifted 0xFF a → r ≡ mask_of a n
  unfolding mask_of span_of
  mask_byte r d e f = rw (ne_eqb _ _ d, ne_eqb _ _ e) f

  pub cut_word : (w : ℕ) → w < 2 ^ 32 → n ≡ 4 → w / 2 ^ (8 * (a % 4)) ≡ cut_of w a n
  unfolding cut_of span_of
  cut_word w l e =
      let h : w / 2 ^ (8 * (a % 4)) < 2 ^ 32 = omega (arith, div-le_self w (2 ^ (8 * (a % 4)))) in
      rw (eq-eqb _ _ e) (sym (mod-eq_of_lt h))

  pub cut_half : (w : ℕ) → n ≢ 4 → n ≡ 2 → w / 2 ^ (8 * (a % 4)) % 65536 ≡ cut_of w a n
  unfolding cut_of span_of
  cut_half w d e = rw (ne_eqb _ _ d, eq-eqb _ _ e)

  pub cut_byte : (w : ℕ) → n ≢ 4 → n ≢ 2 → w / 2 ^ (8 * (a % 4)) % 256 ≡ cut_of w a n
  unfolding cut_of span_of
  cut_byte w d e = rw (ne_eqb _ _ d, ne_eqb _ _ e)
