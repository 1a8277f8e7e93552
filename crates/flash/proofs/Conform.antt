-- The chip against the data sheet: over the whole list of bytes first, then over the definition that the contracts
-- cite.
use Rattle.std.proofs.Common.{◌≡◌, ℕ, zero, suc, ◌+◌, ◌-◌, ◌*◌, ◌%◌, ◌<◌, ◌≤◌, Bool, true, false, not, eqb, ltb}
use Rattle.std.proofs.Common.{leb, List, [], ◌∷◌, ◌++◌, length, get_or, take, drop, set, replicate, sym, refl, ap}
use Rattle.std.proofs.Common.{◌∙◌, subst, ap₂, append_assoc, append-nil, not-suc-le-zero, mod-lt, mod-eq_of_lt}
use Rattle.std.proofs.Common.{arith, length-drop, length-set, get_or-drop, get_or-set_other, ltb-false, le-ltb}
use Rattle.std.proofs.Common.{lt-ltb, eq-eqb, ne_eqb, le-leb}
use native.Mathlib.Nat.{add-mod-mod, mod-mod_of_dvd, dvd_of_mod-eq-zero}
use lib.ListN.{get_or-replicate}
use lib.Bits.{bit_and, and_mask, and_comm}
use borrow.Author.Tests.{lt-leb, eqb-false}
use Rattle.whole.proofs.Choice.{by_less}
use Rattle.flash.specs.Pick.{pick, both}
use Rattle.flash.specs.Board.{Board, Sized, good_size}
use Rattle.flash.specs.Buf.{blank}
use Rattle.flash.specs.Xfer.{jedec, kind_of, maker_of, read_of, reply_to, answer_of}
use Rattle.flash.specs.Finish.{order_of, exactly, guard_of, act_of, ands, patch, array_after, wel_after, writes_after}
use Rattle.flash.specs.Flash.{deselect_act}
use Rattle.flash.specs.Steps.{cs, byte, sends}
use Rattle.flash.specs.Rust.{Sys}
use Rattle.flash.specs.Run.{Bytes, Good, after_step, after_steps, answers, transaction}
use Rattle.flash.proofs.Whole.{at, trans_at, exact_trans, rounded_trans, ands_from, page_of, compact_board, list_after}
use Rattle.flash.proofs.Whole.{list_run, list_answers}
use Rattle.flash.specs.Sheet.{State, Answer, status_register1, status_register2, memory, jedec_id}
use Rattle.flash.specs.Sheet.{manufacturer_device, device_id, unique_id, Instruction, write_enable, write_disable}
use Rattle.flash.specs.Sheet.{answering, page_program, erase, chip_erase, undescribed, no_instruction, Says, drives}
use Rattle.flash.specs.Sheet.{unsaid, leaves, not_said, instruction, table, nth, address, answer, reply_of, reply}
use Rattle.flash.specs.Sheet.{after_of, afterwards, latched, burnt, ones, array_after_program, array_after_erase}
use Rattle.flash.specs.Sheet.{executed, member, others}
use Rattle.flash.specs.Departures.{departs, Agrees, Left, state_of, unit, Conforms}
use Rattle.flash.specs.declared.Mode.{Mode}
use Rattle.flash.specs.declared.Mode.TheVariants.{Rust, Strict}
use Rattle.flash.specs.declared.Kind.{Kind}
use Rattle.flash.specs.declared.Kind.TheVariants.{Identity, Maker, Device, Status, Zero, Read, FastRead, Unique}
use Rattle.flash.specs.declared.Act.{Act}
use Rattle.flash.specs.declared.Act.TheVariants.{Nothing, Enable, Disable, Program, Erase, EraseAll}
use Rattle.flash.specs.declared.Block.TheVariants.{Sector, Half, Full}
use Rattle.flash.proofs.Bools.{either_first, both_first}
use Rattle.flash.proofs.Refine.{act_exact, answer_ahead}
use Rattle.flash.proofs.Laws.{good_sized, page_in, part_long, size_2, size_256, not_empty}
use Rattle.flash.proofs.Forget.{after_cs, after_act}
use Rattle.flash.proofs.Runs.{after_good, step_view, run_view, answers_view}
use Rattle.flash.proofs.Long.{step_long, run_long}
use Rattle.flash.proofs.Codes.{Unlisted, by_code}

-- ---- the answers
abbrev pub state : List ℕ → Bool → State
state m w = record { array = m; wel = w }

-- what the chip answers at byte i, once the code is in
pub answer_at_lem : (e : Mode) (w : Bool) (m : List ℕ) (c : ℕ) (bs : List ℕ) (i : ℕ) → 1 ≤ i
    → answer_of e w (trans_at (c ∷ bs) i) m ≡ reply_to (kind_of c) e w (trans_at (c ∷ bs) i) m
unfolding answer_of
answer_at_lem e w m c bs i l = rw (ne_eqb i 0 (λ z. omega arith))

-- an answer that begins after h bytes agrees if it does from there on
from : (h i : ℕ) (a : Says) (b : ℕ) → (h ≤ i → Agrees a b) → Agrees (pick (ltb i h) unsaid a) b
from h i a b f = by_less i h (λ l. rw (lt-ltb i h l) tt) (λ l. rw (le-ltb i h l) (f l))

nth_agrees : (l : List ℕ) (j b : ℕ) → (j < length l → b ≡ get_or l j 0) → Agrees (nth l j) b
nth_agrees l j b f = by_less j (length l) (λ h. rw (lt-ltb j (length l) h) (f h)) (λ h. rw (le-ltb j (length l) h) tt)

-- the memory from the address on, after h bytes
memory_agrees : (m : List ℕ) (w : Bool) (b : List ℕ) (h i : ℕ)
    → Agrees (answer memory unit (state m w) b (i - h)) (read_of (trans_at b i) (i - h) m)
unfolding read_of
memory_agrees m w b h i =
    nth_agrees m (address b (length m) + (i - h)) _ λ l.
    ap (λ (k : ℕ). get_or m k 0) (add-mod-mod (address b (length m)) (i - h) (length m) ∙ mod-eq_of_lt l)

jedec_agrees : (i : ℕ) → 1 ≤ i → Agrees (nth (0xEF ∷ 0x40 ∷ 0x17 ∷ []) (i - 1)) (jedec i)
jedec_agrees i u = nth_agrees (0xEF ∷ 0x40 ∷ 0x17 ∷ []) (i - 1) _ λ l. three l
  where
    three : i - 1 < 3 → jedec i ≡ get_or (0xEF ∷ 0x40 ∷ 0x17 ∷ []) (i - 1) 0
    three l =
        by_less i 2 (λ h. let e : i ≡ 1 = omega arith in rw e) λ h₁.
        by_less i 3 (λ h. let e : i ≡ 2 = omega arith in rw e) λ h₂.
        let e : i ≡ 3 = omega arith in rw e

-- from an even address the maker comes first, from an odd one the device
low_bit : (a b c : ℕ) → (a * 65536 + b * 256 + c) % 2 ≡ c % 2
low_bit a b c = omega arith

addr_bit : (bs : List ℕ) (n : ℕ) → Sized n → address bs n % 2 ≡ at bs 3 % 2
addr_bit bs n s =
    mod-mod_of_dvd 2 (at bs 1 * 65536 + at bs 2 * 256 + at bs 3) (dvd_of_mod-eq-zero 2 (size_2 n s))
    ∙ low_bit (at bs 1) (at bs 2) (at bs 3)

low_byte : (a b c : ℕ) → (a * 65536 + b * 256 + c) % 256 ≡ c % 256
low_byte a b c = omega arith

pub addr_low : (b : List ℕ) (n : ℕ) → Sized n → address b n % 256 ≡ at b 3 % 256
addr_low b n s =
    mod-mod_of_dvd 256 (at b 1 * 65536 + at b 2 * 256 + at b 3) (dvd_of_mod-eq-zero 256 (size_256 n s))
    ∙ low_byte (at b 1) (at b 2) (at b 3)

abbrev bytes_of : ℕ → ℕ → ℕ
bytes_of a j = pick (eqb ((a + j) % 2) 0) 0xEF 0x16

even : (j : ℕ) → pick (eqb (j % 2) 1) 0x16 0xEF ≡ bytes_of 0 j
even j =
    by_less (j % 2) 1
    (λ h. let e : j % 2 ≡ 0 = omega arith in let f : (0 + j) % 2 ≡ 0 = omega arith in rw (e, f))
    (λ h. let e : j % 2 ≡ 1 = omega arith in let f : (0 + j) % 2 ≡ 1 = omega arith in rw (e, f))

odd : (j : ℕ) → pick (eqb (j % 2) 1) 0xEF 0x16 ≡ bytes_of 1 j
odd j =
    by_less (j % 2) 1
    (λ h. let e : j % 2 ≡ 0 = omega arith in let f : (1 + j) % 2 ≡ 1 = omega arith in rw (e, f))
    (λ h. let e : j % 2 ≡ 1 = omega arith in let f : (1 + j) % 2 ≡ 0 = omega arith in rw (e, f))

pub maker_0 : (e : Mode) (b i : ℕ) → b % 2 ≡ 0 → maker_of e b i ≡ bytes_of 0 (i - 4)
maker_0 Rust b i h = even (i - 4)
maker_0 Strict b i h = rw h (even (i - 4))

maker_1 : (b i : ℕ) → b % 2 ≡ 1 → maker_of Strict b i ≡ bytes_of 1 (i - 4)
maker_1 b i h = rw h (odd (i - 4))

-- in the Rust's mode not from address 1
abbrev Fair : Mode → ℕ → Type 0
Fair Rust a = a ≡ 1 → ⊥
Fair Strict a = Unit {0}

maker_odd : (e : Mode) (b i : ℕ) → Fair e 1 → b % 2 ≡ 1 → maker_of e b i ≡ bytes_of 1 (i - 4)
maker_odd Rust b i f h = absurd (f refl)
maker_odd Strict b i f h = maker_1 b i h

maker_agrees : (e : Mode) (a b i : ℕ) → a % 2 ≡ b % 2 → Fair e a
    → Agrees (pick (ltb a 2) (drives (bytes_of a (i - 4))) unsaid) (maker_of e b i)
maker_agrees e a b i h f =
    by_less a 1
    (λ l. let z : a ≡ 0 = omega arith in rw z (maker_0 e b i (omega arith)))
    (λ l. by_less a 2
    (λ u. let z : a ≡ 1 = omega arith in rw z (maker_odd e b i (subst (Fair e) z f) (omega arith)))
    (λ u. rw (le-ltb a 2 u) tt))

fair : (e : Mode) (n : ℕ) (bs : List ℕ) → 4 ≤ length bs → departs e n (0x90 ∷ bs) ≡ false
    → Fair e (address (0x90 ∷ bs) n)
unfolding others
fair Rust n bs l h =
    eqb-false (address (0x90 ∷ bs) n) 1 (both_first _ _ (either_first _ _ h) (lt-ltb 4 (suc (length bs)) (omega arith)))
fair Strict n bs l h = tt

-- each answering code
abbrev AgreesAt : Mode → Bool → List ℕ → List ℕ → ℕ → ℕ → Type 0
AgreesAt e w m bs i c =
    departs e (length m) (c ∷ bs) ≡ false → Agrees (reply unit (state m w) (c ∷ bs) i)
    (answer_of e w (trans_at (c ∷ bs) i) m)

module _ (e : Mode) (w : Bool) (m : List ℕ) (s : Sized (length m)) (bs : List ℕ) (i : ℕ) (l : i ≤ length bs) where
  -- the reply is that of an answer after h bytes, and the chip's is that of the kind
  answering_agrees : (c h : ℕ) (a : Answer) (k : Kind) → instruction c ≡ answering h a → kind_of c ≡ k → 1 ≤ h
      → (h ≤ i → Agrees (answer a unit (state m w) (c ∷ bs) (i - h)) (reply_to k e w (trans_at (c ∷ bs) i) m))
      → Agrees (reply unit (state m w) (c ∷ bs) i) (answer_of e w (trans_at (c ∷ bs) i) m)
  answering_agrees c h a k p q u f =
      rw p
      (from h i (answer a unit (state m w) (c ∷ bs) (i - h)) _
      λ v. rw (answer_at_lem e w m c bs i (omega arith), q) (f v))

  silent : (c : ℕ) (d : Instruction) → instruction c ≡ d → Agrees (reply_of d unit (state m w) (c ∷ bs) i)
      (answer_of e w (trans_at (c ∷ bs) i) m)
      → Agrees (reply unit (state m w) (c ∷ bs) i) (answer_of e w (trans_at (c ∷ bs) i) m)
  silent c d p h = rw p h

  no_answer : (t : Bool) (c : ℕ) → Agrees (reply_of (pick t undescribed no_instruction) unit (state m w) (c ∷ bs) i)
      (answer_of e w (trans_at (c ∷ bs) i) m)
  no_answer true c = tt
  no_answer false c = tt

  five_a : (j : ℕ) → Agrees (nth (replicate 8 0x5A) j) 0x5A
  five_a j = nth_agrees (replicate 8 0x5A) j 0x5A (λ h. sym (get_or-replicate 8 j 0x5A 0 h))

  pub replies_agree : (c : ℕ) → AgreesAt e w m bs i c
  unfolding instruction table kind_of
  replies_agree =
      by_code (AgreesAt e w m bs i)
      (λ f. tt) (λ f. tt)
      (λ f. answering_agrees 0x05 1 status_register1 Status refl refl (omega arith) (λ h. refl))
      (λ f. answering_agrees 0x35 1 status_register2 Zero refl refl (omega arith) (λ h. refl))
      (λ f. answering_agrees 0x03 4 memory Read refl refl (omega arith)
      (λ h. rw (le-ltb i 4 h) (memory_agrees m w (0x03 ∷ bs) 4 i)))
      (λ f. answering_agrees 0x0B 5 memory FastRead refl refl (omega arith)
      (λ h. rw (le-ltb i 5 h) (memory_agrees m w (0x0B ∷ bs) 5 i)))
      (λ f. tt) (λ f. tt) (λ f. tt) (λ f. tt) (λ f. tt) (λ f. tt)
      (λ f. answering_agrees 0x9F 1 jedec_id Identity refl refl (omega arith) (λ h. jedec_agrees i h))
      (λ f. answering_agrees 0x90 4 manufacturer_device Maker refl refl (omega arith)
      (λ h. rw (le-ltb i 4 h)
      (maker_agrees e (address (0x90 ∷ bs) (length m)) (at (0x90 ∷ bs) 3) i (addr_bit (0x90 ∷ bs) (length m) s)
      (fair e (length m) bs (omega arith) f))))
      (λ f. answering_agrees 0xAB 4 device_id Device refl refl (omega arith) (λ h. rw (le-ltb i 4 h)))
      (λ f. answering_agrees 0x4B 5 unique_id Unique refl refl (omega arith) (λ h. rw (le-ltb i 5 h) (five_a (i - 5))))
      (λ c u f. silent c _ u.sheet (no_answer (member c others) c))

-- ---- what is left
-- in the Rust's mode no longer than the sheet allows
abbrev Within : Mode → ℕ → ℕ → Type 0
Within Rust k q = k ≤ q
Within Strict k q = Unit {0}

abbrev pub state_after_act : Bool → List ℕ → List ℕ → Act → State
state_after_act w m b a = state (array_after a (rounded_trans (length m) b) (page_of b) m) (wel_after a w)

-- the chip's tests of a length
abbrev pub may_program : Mode → Bool → ℕ → Bool
may_program e w k = both (both w (ltb 4 k)) (exactly e (not (ltb 260 k)))

abbrev pub may_erase : Mode → Bool → ℕ → Bool
may_erase e w k = both (both w (leb 4 k)) (exactly e (eqb k 4))

abbrev pub may_wipe : Mode → Bool → ℕ → Bool
may_wipe e w k = both w (exactly e (eqb k 1))

pub act_cons : (e : Mode) (w : Bool) (c : ℕ) (bs : List ℕ)
    → act_of e w (exact_trans (c ∷ bs)) ≡ pick (guard_of (order_of c) e w (exact_trans (c ∷ bs))) (order_of c) Nothing
unfolding act_of
act_cons e w c bs = rw (ne_eqb (suc (length bs)) 0 (λ z. omega arith))

both_true : (a : Bool) → both a true ≡ a
both_true true = refl
both_true false = refl

-- the sheet's are the same
pub just_4 : (w : Bool) (e : Mode) (k : ℕ) → Within e k 4 → may_erase e w k ≡ both w (eqb k 4)
just_4 false e k h = refl
just_4 true Rust k h =
    by_less k 4 (λ l. rw (lt-leb 4 k l, ne_eqb k 4 (λ z. omega arith)))
    (λ l. rw (le-leb 4 k l, eq-eqb k 4 (omega arith)))
just_4 true Strict k h = by_less k 4 (λ l. rw (lt-leb 4 k l, ne_eqb k 4 (λ z. omega arith))) (λ l. rw (le-leb 4 k l))

pub just_1 : (w : Bool) (e : Mode) (k : ℕ) → 1 ≤ k → Within e k 1 → may_wipe e w k ≡ both w (eqb k 1)
just_1 w Rust k l h = rw (eq-eqb k 1 (omega arith))
just_1 w Strict k l h = refl

-- ---- the program
burnt_is : (xs ys : List ℕ) → length xs ≡ length ys → ands xs ys ≡ burnt xs ys
burnt_is [] ys h = refl
burnt_is (x ∷ xs) [] h = absurd (not_empty h)
burnt_is (x ∷ xs) (y ∷ ys) h = ap (λ (r : List ℕ). bit_and x y ∷ r) (burnt_is xs ys (omega arith))

latched_long : (bs p : List ℕ) (off : ℕ) → length (latched p off bs) ≡ length p
latched_long [] p off = refl
latched_long (b ∷ bs) p off = latched_long bs (set p off b) ((off + 1) % 256) ∙ length-set p off b

ones_long : length ones ≡ 256
unfolding ones
ones_long = refl

blank_is : blank ≡ ones
unfolding blank ones
blank_is = refl

-- where no place has been sent a byte before, the AND of all is the last
round : (off j : ℕ) → ((off + 1) % 256 + j) % 256 ≡ (off + suc j) % 256
round off j = omega arith

elsewhere : (off j : ℕ) → off < 256 → suc j < 256 → ((off + 1) % 256 + j) % 256 ≡ off → ⊥
elsewhere off j h l e = omega arith

full : (b : ℕ) → b < 256 → bit_and 0xFF b ≡ b
full b h = and_comm 0xFF b ∙ and_mask b 8 ∙ mod-eq_of_lt h

once : (bs p : List ℕ) (off : ℕ) → off < 256 → length bs ≤ 256 → Bytes bs
    → ((j : ℕ) → j < length bs → get_or p ((off + j) % 256) 0 ≡ 0xFF)
    → ands_from p off bs ≡ latched p off bs
once [] p off h l y f = refl
once (b ∷ bs) p off h l y f =
    let z : (off + 0) % 256 ≡ off = omega arith in
    let g : get_or p off 0 ≡ 0xFF = rw z at (f 0 (omega arith)) in
    rw (g, full b (y 0))
    (once bs (set p off b) ((off + 1) % 256) (mod-lt (off + 1) (omega arith)) (omega arith) (λ k. y (suc k))
    (λ j k. get_or-set_other p off (((off + 1) % 256 + j) % 256) b 0 (elsewhere off j h (omega arith))
    ∙ rw (round off j) (f (suc j) (omega arith))))

all_ones : (j : ℕ) → j < 256 → get_or blank j 0 ≡ 0xFF
unfolding blank
all_ones j h = get_or-replicate 256 j 0xFF 0 h

once_blank : (bs : List ℕ) (off : ℕ) → off < 256 → length bs ≤ 256 → Bytes bs
    → ands_from blank off bs ≡ latched blank off bs
once_blank bs off h l y = once bs blank off h l y (λ j k. all_ones ((off + j) % 256) (mod-lt (off + j) (omega arith)))

pub program_agrees : (b m : List ℕ) → Sized (length m) → Bytes b → length b ≤ 260
    → array_after Program (rounded_trans (length m) b) (page_of b) m
    ≡ array_after_program m (address b (length m)) (drop 4 b)
program_agrees b m s z h =
    let a : ℕ = address b (length m) in
    let q : List ℕ = take 256 (drop (a - a % 256) m) in
    ap (λ (p : List ℕ). patch m (a - a % 256) 256 p)
    (ap (ands q) (ap (λ (k : ℕ). ands_from blank k (drop 4 b)) (sym (addr_low b (length m) s))
    ∙ once_blank (drop 4 b) (a % 256) (mod-lt a (omega arith)) (rw length-drop (omega arith))
    (λ k. rw (get_or-drop 4 b k 0) (z (4 + k)))
    ∙ ap (λ (p : List ℕ). latched p (a % 256) (drop 4 b)) blank_is)
    ∙ burnt_is q (latched ones (a % 256) (drop 4 b))
    (part_long (a - a % 256) 256 m (page_in (length m) a s (mod-lt _ (omega arith)))
    ∙ sym (latched_long (drop 4 b) ones (a % 256) ∙ ones_long)))

pub just_260 : (w : Bool) (e : Mode) (k : ℕ) → k ≤ 260 → may_program e w k ≡ both w (leb 5 k)
just_260 w Rust k h = both_true (both w (leb 5 k))
just_260 w Strict k h = rw (le-ltb 260 k h) (both_true (both w (leb 5 k)))

-- ---- each code
-- a shape that the list of the Rust's mode does not have
abbrev Rusts : Mode → Type 0
Rusts e = e ≡ Rust

within : (e : Mode) (k q : ℕ) → (Rusts e → ltb q k ≡ false) → Within e k q
within Rust k q f = ltb-false q k (f refl)
within Strict k q f = tt

module _ (e : Mode) (n : ℕ) (bs : List ℕ) where
  in_rust : (c : ℕ) → departs e n (c ∷ bs) ≡ false → Rusts e → departs Rust n (c ∷ bs) ≡ false
  in_rust c h z = subst (λ (e : Mode). departs e n (c ∷ bs) ≡ false) z h

  -- of an erase, and of a chip erase
  within_4 : (c : ℕ) → member c others ≡ false → member c (0x20 ∷ 0x52 ∷ 0xD8 ∷ []) ≡ true
      → departs e n (c ∷ bs) ≡ false → Within e (suc (length bs)) 4
  within_4 c p q h = within e _ 4 λ z. either_first _ _ (either_first _ _ (rw (p, q) at (in_rust c h z)))

  within_1 : (c : ℕ) → member c others ≡ false → member c (0x20 ∷ 0x52 ∷ 0xD8 ∷ []) ≡ false
      → member c (0xC7 ∷ 0x60 ∷ []) ≡ true → departs e n (c ∷ bs) ≡ false
      → Within e (suc (length bs)) 1
  within_1 c p q r h = within e _ 1 λ z. either_first _ _ (rw (p, q, r) at (in_rust c h z))

within_02 : (e : Mode) (n : ℕ) (bs : List ℕ) → departs e n (0x02 ∷ bs) ≡ false → suc (length bs) ≤ 260
unfolding others
within_02 Rust n bs h = ltb-false 260 (suc (length bs)) (either_first _ _ h)
within_02 Strict n bs h = ltb-false 260 (suc (length bs)) (either_first _ _ h)

maybe : (t : Bool) (x : State) → Left (pick t (leaves x) not_said) x
maybe true x = refl
maybe false x = tt

runs : (t : Bool) (e : Mode) (w : Bool) (m b : List ℕ) (a : Act) (x : List ℕ)
    → array_after a (rounded_trans (length m) b) (page_of b) m ≡ x → wel_after a w ≡ false
    → Left (executed t x (state m w)) (state_after_act w m b (pick t a Nothing))
runs true e w m b a x p q = ap₂ state p q
runs false e w m b a x p q = refl

abbrev EndsAt : Mode → Bool → List ℕ → List ℕ → ℕ → Type 0
EndsAt e w m bs c =
    departs e (length m) (c ∷ bs) ≡ false → Left (afterwards (state m w) (c ∷ bs))
    (state_after_act w m (c ∷ bs) (act_of e w (exact_trans (c ∷ bs))))

module _ (e : Mode) (w : Bool) (m : List ℕ) (s : Sized (length m)) (y : Bytes m) (bs : List ℕ) where
  -- the sheet's instruction is d, and the chip's order is a
  ends : (c : ℕ) (d : Instruction) (a : Act) → instruction c ≡ d → act_of e w (exact_trans (c ∷ bs)) ≡ a
      → Left (after_of d (state m w) (c ∷ bs)) (state_after_act w m (c ∷ bs) a)
      → Left (afterwards (state m w) (c ∷ bs)) (state_after_act w m (c ∷ bs) (act_of e w (exact_trans (c ∷ bs))))
  ends c d a p q h = rw (p, q) h

  quiet : (c : ℕ) (h : ℕ) (a : Answer) → instruction c ≡ answering h a → act_of e w (exact_trans (c ∷ bs)) ≡ Nothing
      → EndsAt e w m bs c
  quiet c h a p q f = ends c (answering h a) Nothing p q refl

  erases : (c k : ℕ) (b : Act) → instruction c ≡ erase k → act_of e w (exact_trans (c ∷ bs))
      ≡ pick (may_erase e w (suc (length bs))) b Nothing
      → array_after b (rounded_trans (length m) (c ∷ bs)) (page_of (c ∷ bs)) m
      ≡ array_after_erase m (address (c ∷ bs) (length m)) k → wel_after b w ≡ false → Within e (suc (length bs)) 4
      → Left (afterwards (state m w) (c ∷ bs)) (state_after_act w m (c ∷ bs) (act_of e w (exact_trans (c ∷ bs))))
  erases c k b p q x z h =
      ends c (erase k) _ p (q ∙ ap (λ (t : Bool). pick t b Nothing) (just_4 w e (suc (length bs)) h))
      (runs (both w (eqb (suc (length bs)) 4)) e w m (c ∷ bs) b
      (array_after_erase m (address (c ∷ bs) (length m)) k) x z)

  wipes : (c : ℕ) → instruction c ≡ chip_erase → act_of e w (exact_trans (c ∷ bs))
      ≡ pick (may_wipe e w (suc (length bs))) EraseAll Nothing
      → Within e (suc (length bs)) 1
      → Left (afterwards (state m w) (c ∷ bs)) (state_after_act w m (c ∷ bs) (act_of e w (exact_trans (c ∷ bs))))
  wipes c p q h =
      ends c chip_erase _ p (q ∙ ap (λ (t : Bool). pick t EraseAll Nothing)
      (just_1 w e (suc (length bs)) (omega arith) h))
      (runs (both w (eqb (suc (length bs)) 1)) e w m (c ∷ bs) EraseAll (replicate (length m) 0xFF) refl refl)

  no_change : (t : Bool) (c : ℕ) → t ≡ false → Left (after_of (pick t undescribed no_instruction) (state m w) (c ∷ bs))
      (state_after_act w m (c ∷ bs) Nothing)
  no_change t c h = rw h tt

  pub not_other : (e : Mode) (c : ℕ) → departs e (length m) (c ∷ bs) ≡ false → member c others ≡ false
  not_other Rust c h = either_first _ _ h
  not_other Strict c h = either_first _ _ h

  idle : (c : ℕ) → Unlisted c → act_of e w (exact_trans (c ∷ bs)) ≡ Nothing
  idle c u = act_cons e w c bs ∙ rw u.order

  pub ends_agree : Bytes bs → (c : ℕ) → c < 256 → EndsAt e w m bs c
  unfolding instruction table others
  ends_agree z c₀ l₀ = by_code (λ (c : ℕ). c < 256 → EndsAt e w m bs c)
      (λ l h. ends 0x06 write_enable Enable refl (act_cons e w 0x06 bs)
      (maybe (eqb (suc (length bs)) 1) (state m true)))
      (λ l h. ends 0x04 write_disable Disable refl (act_cons e w 0x04 bs)
      (maybe (eqb (suc (length bs)) 1) (state m false)))
      (λ l. quiet 0x05 1 status_register1 refl (act_cons e w 0x05 bs))
      (λ l. quiet 0x35 1 status_register2 refl (act_cons e w 0x35 bs))
      (λ l. quiet 0x03 4 memory refl (act_cons e w 0x03 bs))
      (λ l. quiet 0x0B 5 memory refl (act_cons e w 0x0B bs))
      (λ l h. ends 0x02 page_program _ refl
      (act_cons e w 0x02 bs ∙ ap (λ (t : Bool). pick t Program Nothing)
      (just_260 w e (suc (length bs)) (within_02 e (length m) bs h)))
      (runs (both w (leb 5 (suc (length bs)))) e w m (0x02 ∷ bs) Program _
      (program_agrees (0x02 ∷ bs) m s (cons_bytes 0x02 l) (within_02 e (length m) bs h)) refl))
      (λ l h. erases 0x20 0x1000 (Erase Sector) refl (act_cons e w 0x20 bs) refl refl
      (within_4 e (length m) bs 0x20 refl refl h))
      (λ l h. erases 0x52 0x8000 (Erase Half) refl (act_cons e w 0x52 bs) refl refl
      (within_4 e (length m) bs 0x52 refl refl h))
      (λ l h. erases 0xD8 0x10000 (Erase Full) refl (act_cons e w 0xD8 bs) refl refl
      (within_4 e (length m) bs 0xD8 refl refl h))
      (λ l h. wipes 0xC7 refl (act_cons e w 0xC7 bs) (within_1 e (length m) bs 0xC7 refl refl refl h))
      (λ l h. wipes 0x60 refl (act_cons e w 0x60 bs) (within_1 e (length m) bs 0x60 refl refl refl h))
      (λ l. quiet 0x9F 1 jedec_id refl (act_cons e w 0x9F bs))
      (λ l. quiet 0x90 4 manufacturer_device refl (act_cons e w 0x90 bs))
      (λ l. quiet 0xAB 4 device_id refl (act_cons e w 0xAB bs))
      (λ l. quiet 0x4B 5 unique_id refl (act_cons e w 0x4B bs))
      (λ c u l h. ends c _ Nothing u.sheet (idle c u) (no_change (member c others) c (not_other e c h)))
      c₀ l₀
    where
      cons_bytes : (c : ℕ) → c < 256 → Bytes (c ∷ bs)
      cons_bytes c l zero = l
      cons_bytes c l (suc k) = z k

-- ---- a whole instruction, over the list of bytes
answers_at_lem : (e : Mode) (bs : List ℕ) (s : Sys) (i : ℕ) → i < length bs
    → get_or (list_answers e s (sends bs)) i 0 ≡ answer_of e s.wel (exact_trans (s.buf ++ take i bs)) s.ram
answers_at_lem e [] s i h = absurd (not-suc-le-zero h)
answers_at_lem e (b ∷ bs) s zero h = rw (append-nil s.buf)
answers_at_lem e (b ∷ bs) s (suc i) h =
    answers_at_lem e bs (list_after e s (byte b)) i (omega arith)
    ∙ ap (λ (l : List ℕ). answer_of e s.wel (exact_trans l) s.ram) (append_assoc s.buf (b ∷ []) (take i bs))

state_ends : (e : Mode) (bs : List ℕ) (s : Sys) → s.cs ≡ true
    → state_of (compact_board e (list_after e (list_run e s (sends bs)) (cs false)))
    ≡ state_after_act s.wel s.ram (s.buf ++ bs) (act_of e s.wel (exact_trans (s.buf ++ bs)))
state_ends e [] s h = rw (h, append-nil s.buf, act_exact e s.wel (length s.ram) s.buf)
state_ends e (b ∷ bs) s h =
    state_ends e bs (list_after e s (byte b)) h
    ∙ ap (λ (l : List ℕ). state_after_act s.wel s.ram l (act_of e s.wel (exact_trans l)))
    (append_assoc s.buf (b ∷ []) bs)

ended_writes : (e : Mode) (bs : List ℕ) (s : Sys) → s.cs ≡ true
    → (list_after e (list_run e s (sends bs)) (cs false)).writes
    ≡ writes_after (act_of e s.wel (exact_trans (s.buf ++ bs))) s.writes
ended_writes e [] s h = rw (h, append-nil s.buf, act_exact e s.wel (length s.ram) s.buf)
ended_writes e (b ∷ bs) s h =
    ended_writes e bs (list_after e s (byte b)) h
    ∙ ap (λ (l : List ℕ). writes_after (act_of e s.wel (exact_trans l)) s.writes) (append_assoc s.buf (b ∷ []) bs)

-- ---- and over the definition that the contracts cite
-- what a select of the idle chip begins
abbrev pub opening : Board → Sys
opening w =
    record { cs = true; buf = []; rx = w.chip.rx; wel = w.chip.wel; writes = w.chip.writes; ram = w.array }

pub begins : (w : Board) → good_size (length w.array) ≡ true → w.chip.cs ≡ false
    → after_step w (cs true) ≡ compact_board w.chip.mode (opening w)
begins w g c = after_cs w true g ∙ rw c

sent_array : (e : Mode) (bs : List ℕ) (s : Sys) → (list_run e s (sends bs)).ram ≡ s.ram
sent_array e [] s = refl
sent_array e (b ∷ bs) s = sent_array e bs (list_after e s (byte b))

-- a deselect, whether it acts or not
off : (t : Bool) (u v : Board) → u.chip.cs ≡ false → v.chip.cs ≡ t → (pick t u v).chip.cs ≡ false
off true u v p q = p
off false u v p q = q

module _ (w : Board) (bs : List ℕ) (g : Good w.array) (c : w.chip.cs ≡ false) where
  abbrev mode : Mode
  mode = w.chip.mode

  -- the instruction is in, and then it is ended
  abbrev sent : Sys
  sent = list_run mode (opening w) (sends bs)

  sent_good : Good sent.ram
  sent_good = subst Good (sym (sent_array mode bs (opening w))) g

  closes : transaction w bs ≡ compact_board mode (list_after mode sent (cs false))
  closes =
      ap (λ (z : Board). after_steps (after_steps z (sends bs)) (cs false ∷ [])) (begins w g.size c)
      ∙ ap (λ (z : Board). after_steps z (cs false ∷ [])) (run_view mode (sends bs) (opening w) g)
      ∙ step_view mode sent (cs false) sent_good

  pub ends_whole : state_of (transaction w bs) ≡ state_after_act w.chip.wel w.array bs
      (act_of mode w.chip.wel (exact_trans bs))
  ends_whole = ap state_of closes ∙ state_ends mode bs (opening w) refl

  pub writes_whole : (transaction w bs).chip.writes ≡ writes_after (act_of mode w.chip.wel (exact_trans bs))
      w.chip.writes
  writes_whole = ap (λ (z : Board). z.chip.writes) closes ∙ ended_writes mode bs (opening w) refl

  -- an instruction leaves the chip in its mode, not selected, over an array of the same kind
  pub kept_mode : (transaction w bs).chip.mode ≡ w.chip.mode
  kept_mode = ap (λ (z : Board). z.chip.mode) closes

  pub kept_cs : (transaction w bs).chip.cs ≡ false
  kept_cs =
      ap (λ (z : Board). z.chip.cs) closes ∙ off sent.cs
      (after_act (compact_board mode sent) (deselect_act (compact_board mode sent).chip))
      (compact_board mode sent) refl refl

  pub kept_good : Good (transaction w bs).array
  kept_good = subst (λ (z : Board). Good z.array) (sym closes) (after_good mode sent (cs false) sent_good)

  pub kept_long : length (transaction w bs).array ≡ length w.array
  kept_long =
      run_long (cs false ∷ []) (after_steps (after_step w (cs true)) (sends bs))
      ∙ run_long (sends bs) (after_step w (cs true)) ∙ step_long w (cs true)

pub replies_whole : (w : Board) (bs : List ℕ) (i : ℕ) → i < length bs → Good w.array → w.chip.cs ≡ false
    → get_or (answers (after_step w (cs true)) (sends bs)) i 0 ≡ answer_of w.chip.mode w.chip.wel (trans_at bs i)
    w.array
replies_whole w bs i h g c =
    ap (λ (z : Board). get_or (answers z (sends bs)) i 0) (begins w g.size c)
    ∙ ap (λ (l : List ℕ). get_or l i 0) (answers_view w.chip.mode (sends bs) (opening w) g)
    ∙ answers_at_lem w.chip.mode bs (opening w) i h
    ∙ answer_ahead w.chip.mode w.chip.wel bs w.array i (omega arith)

no_byte : (w : Board) → Left (afterwards (state_of w) []) (state_of (transaction w []))
unfolding instruction table others
no_byte w = tt

-- Every instruction that is not a listed departure: its answers, the array and WEL are the data sheet's.
pub conforms : (w : Board) (bs : List ℕ) → Good w.array → Bytes bs → w.chip.cs ≡ false
    → departs w.chip.mode (length w.array) bs ≡ false → Conforms w bs
conforms w [] g y c h = record { replies = λ i l. absurd (not-suc-le-zero l); ends = no_byte w }
conforms w (b ∷ bs) g y c h =
    let m : List ℕ = w.array in
    let s : Sized (length m) = good_sized (length m) g.size in
    record {
      replies =
          λ i l. subst (Agrees (reply unit (state_of w) (b ∷ bs) i)) (sym (replies_whole w (b ∷ bs) i l g c))
          (replies_agree w.chip.mode w.chip.wel m s bs i (omega arith) b h);
      ends =
          subst (Left (afterwards (state_of w) (b ∷ bs))) (sym (ends_whole w (b ∷ bs) g c))
          (ends_agree w.chip.mode w.chip.wel m s g.bytes bs (λ k. y (suc k)) b (y 0) h);
    }
