-- A block that lies whole in one memory is a part of it.
use Rattle.std.proofs.Common.{◌≡◌, ℕ, zero, suc, ◌+◌, ◌-◌, ◌%◌, ◌^◌, ◌<◌, ◌≤◌, Bool, true, false, ◌&&◌, leb}
use Rattle.std.proofs.Common.{List, ◌∷◌, length, get_or, take, drop, sym, refl, ap, ◌∙◌, add-zero, mod-eq_of_lt}
use Rattle.std.proofs.Common.{arith, drop-cons, le-leb, leb-true}
use Rattle.std.proofs.Common.{Option, Some, None, MatchOption, subst, Bor}
use Rattle.std.specs.Option.{option_or}
use borrow.Author.Tests.{lt-leb}
use Rattle.map.specs.Numbers.{FLASH_BASE, RAM_SIZE, SRAM_BASE, SRAM_SIZE, GPIO_BASE, GPIO_SIZE}
use Rattle.whole.proofs.Choice.{both}
use Rattle.registers.specs.declared.Registers.{Registers}
use Rattle.memory.specs.declared.Place.TheVariants.{Ram, Sram, Gpio}
use Rattle.memory.specs.Places.{within, place_of}
use Rattle.block.proofs.Table.{table_long}
use Rattle.block.specs.Block.{peek_of, peek_on, table, block_of, lies_in}

-- ---- a table of a list's elements

table_part : (f : ℕ → ℕ) (l : List ℕ) (o i n : ℕ) → ((k : ℕ) → k < i + n → f k ≡ get_or l (o + k) 0)
    → o + i + n ≤ length l
    → table f i n ≡ take n (drop (o + i) l)
unfolding table
table_part f l o i zero e h = refl
table_part f l o i (suc n) e h =
    let here : o + i < length l = omega arith in
    let next : o + suc i ≡ suc (o + i) = omega arith in
    ap (λ (x : ℕ). x ∷ table f (suc i) n) (e i (omega arith))
    ∙ ap (λ (t : List ℕ). get_or l (o + i) 0 ∷ t)
    (table_part f l o (suc i) n (λ k b. e k (omega arith)) (omega arith) ∙ ap (λ (x : ℕ). take n (drop x l)) next)
    ∙ sym (ap (λ (t : List ℕ). take (suc n) t) (drop-cons l (o + i) 0 here))

-- ---- where its bytes lie

ram_at_lem : (a : ℕ) → FLASH_BASE ≤ a → a ≤ FLASH_BASE + RAM_SIZE - 1 → place_of a ≡ Ram (a - FLASH_BASE)
unfolding place_of within
ram_at_lem a h k = rw (le-leb _ _ h, le-leb _ _ k)

sram_at_lem : (a : ℕ) → SRAM_BASE ≤ a → a ≤ SRAM_BASE + SRAM_SIZE - 1 → place_of a ≡ Sram (a - SRAM_BASE)
unfolding place_of within
sram_at_lem a h k =
    let x : FLASH_BASE ≤ a = omega arith in
    let y : FLASH_BASE + RAM_SIZE - 1 < a = omega arith in
    rw (le-leb _ _ x, lt-leb _ _ y, le-leb _ _ h, le-leb _ _ k)

gpio_at_lem : (a : ℕ) → GPIO_BASE ≤ a → a ≤ GPIO_BASE + GPIO_SIZE - 1 → place_of a ≡ Gpio (a - GPIO_BASE)
unfolding place_of within
gpio_at_lem a h k =
    let x : FLASH_BASE ≤ a = omega arith in
    let y : FLASH_BASE + RAM_SIZE - 1 < a = omega arith in
    let z : a < SRAM_BASE = omega arith in
    rw (le-leb _ _ x, lt-leb _ _ y, lt-leb _ _ z, le-leb _ _ h, le-leb _ _ k)

-- ---- what the test says

pub record Lies (first size len a n : ℕ) : Type 0 where
  pub low : first ≤ a
  pub high : a - first + n ≤ size
  pub long : a - first + n ≤ len

lies : (first size len a n : ℕ) → lies_in first size len a n ≡ true → Lies first size len a n
unfolding lies_in
lies first size len a n e =
    let p = both (leb first a) (leb (a - first + n) size && leb (a - first + n) len) e in
    let q = both (leb (a - first + n) size) (leb (a - first + n) len) p.1 in
    record { low = leb-true _ _ p.0; high = leb-true _ _ q.0; long = leb-true _ _ q.1 }

module _ (first size len a n : ℕ) where
  pub lies_before : (first ≤ a → ⊥) → lies_in first size len a n ≡ false
  unfolding lies_in
  lies_before h = let less : a < first = omega arith in rw (lt-leb _ _ less)

  pub lies_from : (at : ℕ) {p q b : Bool} → (first ≤ a) × (at ≡ a - first) → p ≡ leb (at + n) size
      → q ≡ leb (at + n) len → (p && q) ≡ b → lies_in first size len a n ≡ b
  unfolding lies_in
  lies_from at h i j k = rw (le-leb _ _ h.0, ← h.1, ← i, ← j) k

-- ---- the three memories

peek_ram : (r : Registers) (ram sram gpio : List ℕ) (a : ℕ) → FLASH_BASE ≤ a → a ≤ FLASH_BASE + RAM_SIZE - 1
    → peek_of r ram sram gpio a ≡ get_or ram (a - FLASH_BASE) 0
unfolding peek_of
peek_ram r ram sram gpio a h k = rw (ram_at_lem a h k)

peek_sram : (r : Registers) (ram sram gpio : List ℕ) (a : ℕ) → SRAM_BASE ≤ a → a ≤ SRAM_BASE + SRAM_SIZE - 1
    → peek_of r ram sram gpio a ≡ get_or sram (a - SRAM_BASE) 0
unfolding peek_of
peek_sram r ram sram gpio a h k = rw (sram_at_lem a h k)

peek_gpio : (r : Registers) (ram sram gpio : List ℕ) (a : ℕ) → GPIO_BASE ≤ a → a ≤ GPIO_BASE + GPIO_SIZE - 1
    → peek_of r ram sram gpio a ≡ get_or gpio (a - GPIO_BASE) 0
unfolding peek_of
peek_gpio r ram sram gpio a h k = rw (gpio_at_lem a h k)

-- of a memory whose bytes are found at its addresses
module _ (r : Registers) (ram sram gpio l : List ℕ) (first size : ℕ) (top : first + size ≤ 2 ^ 32)
    (peek : (x : ℕ) → first ≤ x → x < first + size → peek_of r ram sram gpio x ≡ get_or l (x - first) 0) where
  on : (a n k : ℕ) → Lies first size (length l) a n → k < n → peek_on r ram sram gpio a k ≡ get_or l (a - first + k) 0
  on a n k w b =
      let x : a + k < first + size = omega (arith, w.low, w.high) in
      let same : (a + k) % 2 ^ 32 ≡ a + k = mod-eq_of_lt (omega arith) in
      let there : a + k - first ≡ a - first + k = omega (arith, w.low) in
      ap (λ (y : ℕ). peek_of r ram sram gpio y) same ∙ peek (a + k) (omega (arith, w.low)) x
      ∙ ap (λ (y : ℕ). get_or l y 0) there

  pub block_part : (a n : ℕ) → Lies first size (length l) a n
      → block_of r ram sram gpio a n ≡ take n (drop (a - first) l)
  unfolding block_of
  block_part a n w =
      table_part (λ k. peek_on r ram sram gpio a k) l (a - first) 0 n (λ k b. on a n k w
      (let h : k < n = omega arith in h))
      (omega (arith, w.long))
      ∙ ap (λ (y : ℕ). take n (drop y l)) (add-zero (a - first))

module _ (r : Registers) (ram sram gpio : List ℕ) (a n : ℕ) {l : List ℕ} where
  pub laid_ram : (lies_in FLASH_BASE RAM_SIZE (length ram) a n ≡ true) × (l ≡ take n (drop (a - FLASH_BASE) ram))
      → l ≡ block_of r ram sram gpio a n
  laid_ram h =
      h.1
      ∙ sym (block_part r ram sram gpio ram FLASH_BASE RAM_SIZE (omega arith)
      (λ x b c. peek_ram r ram sram gpio x b (omega arith)) a n (lies _ _ _ a n h.0))

  pub laid_sram : (lies_in SRAM_BASE SRAM_SIZE (length sram) a n ≡ true) × (l ≡ take n (drop (a - SRAM_BASE) sram))
      → l ≡ block_of r ram sram gpio a n
  laid_sram h =
      h.1
      ∙ sym (block_part r ram sram gpio sram SRAM_BASE SRAM_SIZE (omega arith)
      (λ x b c. peek_sram r ram sram gpio x b (omega arith)) a n (lies _ _ _ a n h.0))

  pub laid_gpio : (lies_in GPIO_BASE GPIO_SIZE (length gpio) a n ≡ true) × (l ≡ take n (drop (a - GPIO_BASE) gpio))
      → l ≡ block_of r ram sram gpio a n
  laid_gpio h =
      h.1
      ∙ sym (block_part r ram sram gpio gpio GPIO_BASE GPIO_SIZE (omega arith)
      (λ x b c. peek_gpio r ram sram gpio x b (omega arith)) a n (lies _ _ _ a n h.0))

-- the first of three that is there
first_found : {B : Type 0} (p q t : Type 0) (F G H W : B → Type 0) (a b c : Option B) (x : B)
    → MatchOption a p F → MatchOption b q G → MatchOption c t H
    → ((s : B) → F s → W s) → ((s : B) → G s → W s) → ((s : B) → H s → W s)
    → option_or (option_or a b) c ≡ Some x → W x
first_found p q t F G H W (Some s) b c x f g h k l m e = let same : s ≡ x = cc in subst W same (k s f)
first_found p q t F G H W None (Some s) c x f g h k l m e = let same : s ≡ x = cc in subst W same (l s g)
first_found p q t F G H W None None (Some s) x f g h k l m e = let same : s ≡ x = cc in subst W same (m s h)
first_found p q t F G H W None None None x f g h k l m e = cc

module _ (r : Registers) (ram sram gpio : List ℕ) (a n : ℕ) where
  pub block_long : length (block_of r ram sram gpio a n) ≡ n
  unfolding block_of
  block_long = table_long _ 0 n

  abbrev pub Part : List ℕ → ℕ → ℕ → Option (Bor (List ℕ)) → Type 0
  Part m first size o =
      MatchOption o (lies_in first size (length m) a n ≡ false)
      (λ s. (lies_in first size (length m) a n ≡ true) × (s.now ≡ take n (drop (a - first) m)))

  pub found : (x y z u w : Option (Bor (List ℕ))) (b : Bor (List ℕ)) → Part ram FLASH_BASE RAM_SIZE x
      → Part sram SRAM_BASE SRAM_SIZE y → Part gpio GPIO_BASE GPIO_SIZE z
      → u ≡ option_or x y → w ≡ option_or u z → w ≡ Some b → b.now ≡ block_of r ram sram gpio a n
  found x y z u w b f g h i j k =
      let first : option_or (option_or x y) z ≡ Some b = rw (← i, ← j) k in
      first_found _ _ _ _ _ _ (λ s. s.now ≡ block_of r ram sram gpio a n) x y z b f g h
      (λ s v. laid_ram r ram sram gpio a n v) (λ s v. laid_sram r ram sram gpio a n v)
      (λ s v. laid_gpio r ram sram gpio a n v) first
