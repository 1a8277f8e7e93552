-- The lists of departures are not too long: what is listed does differ from the data sheet.
use Rattle.std.proofs.Common.{◌≡◌, ℕ, zero, suc, ◌-◌, ◌%◌, ◌<◌, ◌≤◌, Bool, true, false, eqb, ltb, leb, List}
use Rattle.std.proofs.Common.{[], ◌∷◌, ◌++◌, length, get_or, take, drop, replicate, sym, refl, ap, ◌∙◌, subst, ap₂}
use Rattle.std.proofs.Common.{not-suc-le-zero, mod-eq_of_lt, arith, ltb-true, le-ltb, lt-ltb, ne_eqb, eqb-true}
use Rattle.std.proofs.Common.{le-leb}
use native.Mathlib.Nat.{zero-mod}
use lib.Bits.{bit_and, and_mask, and_zero_r}
use Rattle.flash.specs.Pick.{pick, both}
use Rattle.flash.specs.Board.{Board, Sized}
use Rattle.flash.specs.Buf.{blank}
use Rattle.flash.specs.Xfer.{kind_of, reply_to, answer_of}
use Rattle.flash.specs.Finish.{ands, patch, act_of, wel_after}
use Rattle.flash.specs.Steps.{cs, byte, sends}
use Rattle.flash.specs.Run.{Bytes, Good, after_step, answers, transaction}
use Rattle.flash.proofs.Whole.{trans_at, exact_trans, ands_from}
use Rattle.flash.specs.Sheet.{array_after_erase, after_of, Instruction, State, undescribed, erase, chip_erase, After}
use Rattle.flash.specs.Sheet.{leaves, instruction, table, others, member, code, address, reply, afterwards}
use Rattle.flash.specs.Sheet.{executed, array_after_program, latched, burnt, ones}
use Rattle.flash.specs.Departures.{departs, Departure, lacking, trailing, device_first, overlong, shaped, Agrees}
use Rattle.flash.specs.Departures.{Left, state_of, unit, Conforms, Never, twice, Differs, answer_at, Beyond, busy}
use Rattle.flash.specs.Departures.{unselected, unique_number, third_status, Shows}
use Rattle.flash.specs.declared.Mode.{Mode}
use Rattle.flash.specs.declared.Mode.TheVariants.{Rust, Strict}
use Rattle.flash.specs.declared.Kind.{Kind}
use Rattle.flash.specs.declared.Kind.TheVariants.{Zero, Unique}
use Rattle.flash.specs.declared.Act.{Act}
use Rattle.flash.specs.declared.Act.TheVariants.{Nothing, Program, Erase, EraseAll}
use Rattle.flash.specs.declared.Block.TheVariants.{Sector, Half, Full}
use Rattle.flash.proofs.Bools.{no_way, both_parts}
use Rattle.flash.proofs.Laws.{or_case, good_sized}
use Rattle.flash.proofs.Runs.{answers_view}
use Rattle.flash.proofs.Forget.{after_byte}
use Rattle.flash.proofs.Codes.{by_code}
use Rattle.flash.proofs.Conform.{state, state_after_act, act_cons, may_erase, answer_at_lem, opening, begins}
use Rattle.flash.proofs.Conform.{ends_whole, replies_whole, kept_good, kept_cs, conforms}

-- ---- codes that document 000 lacks: the sheet has an instruction, the chip has none
undescribed_is : (c : ℕ) → member c others ≡ true → instruction c ≡ undescribed
unfolding others
undescribed_is =
    by_code (λ (c : ℕ). member c others ≡ true → instruction c ≡ undescribed)
    (λ h. absurd (no_way h)) (λ h. absurd (no_way h)) (λ h. absurd (no_way h)) (λ h. absurd (no_way h))
    (λ h. absurd (no_way h)) (λ h. absurd (no_way h)) (λ h. absurd (no_way h)) (λ h. absurd (no_way h))
    (λ h. absurd (no_way h)) (λ h. absurd (no_way h)) (λ h. absurd (no_way h)) (λ h. absurd (no_way h))
    (λ h. absurd (no_way h)) (λ h. absurd (no_way h)) (λ h. absurd (no_way h)) (λ h. absurd (no_way h))
    (λ c u h. u.sheet ∙ rw h)

lacking_differs : (w : Board) → Never lacking w
lacking_differs w bs h k = rw (undescribed_is (code bs) h) at k.ends

-- ---- an erase with bytes after its last clears WEL, and the sheet's does not
-- the sheet leaves the state, and the chip an order that clears WEL
wel_cleared : (w : Board) (bs : List ℕ) (a : Act) → Good w.array → w.chip.cs ≡ false → w.chip.wel ≡ true
    → afterwards (state_of w) bs ≡ leaves (state_of w) → act_of w.chip.mode w.chip.wel (exact_trans bs) ≡ a
    → wel_after a w.chip.wel ≡ false → Conforms w bs → ⊥
wel_cleared w bs a g c v p q z k =
    let e : state_of (transaction w bs) ≡ state_of w = rw p at k.ends in
    let f : wel_after a w.chip.wel ≡ w.chip.wel =
    ap (λ (a : Act). wel_after a w.chip.wel) (sym q) ∙ sym (ap (λ (s : State). s.wel) (ends_whole w bs g c))
    ∙ ap (λ (s : State). s.wel) e in
    no_way (sym z ∙ f ∙ v)

module _ (w : Board) (g : Good w.array) (s : w.chip.cs ≡ false) (r : w.chip.mode ≡ Rust)
    (v : w.chip.wel ≡ true) (bs : List ℕ) where
  -- the sheet executes with exactly q bytes, and more have come
  void : (c q : ℕ) (d : Instruction) (x : List ℕ) → instruction c ≡ d → after_of d (state_of w) (c ∷ bs)
      ≡ executed (both w.chip.wel (eqb (suc (length bs)) q)) x (state_of w)
      → q < suc (length bs) → afterwards (state_of w) (c ∷ bs) ≡ leaves (state_of w)
  void c q d x p f l = rw p (f ∙ rw (ne_eqb (suc (length bs)) q (λ z. omega arith), v))

  -- and the chip executes all the same
  executes : (c q : ℕ) (d : Instruction) (x : List ℕ) (a : Act) (t : Bool) → instruction c ≡ d
      → after_of d (state_of w) (c ∷ bs) ≡ executed (both w.chip.wel (eqb (suc (length bs)) q)) x (state_of w)
      → q < suc (length bs)
      → act_of Rust true (exact_trans (c ∷ bs)) ≡ pick t a Nothing → t ≡ true → wel_after a w.chip.wel ≡ false
      → Conforms w (c ∷ bs) → ⊥
  executes c q d x a t p f l o e z = wel_cleared w (c ∷ bs) a g s v (void c q d x p f l) (rw (r, v) (o ∙ rw e)) z

  erases : (c k : ℕ) (a : Act) → instruction c ≡ erase k → act_of Rust true (exact_trans (c ∷ bs))
      ≡ pick (may_erase Rust true (suc (length bs))) a Nothing → wel_after a w.chip.wel ≡ false
      → 4 < suc (length bs) → Conforms w (c ∷ bs) → ⊥
  erases c k a p o z l =
      executes c 4 (erase k) (array_after_erase w.array (address (c ∷ bs) (length w.array)) k) a
      (may_erase Rust true (suc (length bs))) p refl l o (rw (le-leb 4 (suc (length bs)) (omega arith))) z

  wipes : (c : ℕ) → instruction c ≡ chip_erase → act_of Rust true (exact_trans (c ∷ bs)) ≡ EraseAll → 1 < suc
      (length bs)
      → Conforms w (c ∷ bs) → ⊥
  wipes c p o l = executes c 1 chip_erase (replicate (length w.array) 0xFF) EraseAll true p refl l o refl refl

  at_code : (c k : ℕ) → eqb c k ≡ true → (Conforms w (k ∷ bs) → ⊥) → Conforms w (c ∷ bs) → ⊥
  at_code c k e f h = f (subst (λ (c : ℕ). Conforms w (c ∷ bs)) (eqb-true c k e) h)

  trailing_cons : (c : ℕ) → shaped trailing (length w.array) (c ∷ bs) ≡ true → Conforms w (c ∷ bs) → ⊥
  unfolding instruction table
  trailing_cons c h k =
      or_case (both (member c (0x20 ∷ 0x52 ∷ 0xD8 ∷ [])) (ltb 4 (suc (length bs))))
      (both (member c (0xC7 ∷ 0x60 ∷ [])) (ltb 1 (suc (length bs)))) h
      (λ u. let q = both_parts (member c (0x20 ∷ 0x52 ∷ 0xD8 ∷ [])) (ltb 4 (suc (length bs))) u in
      let l : 4 < suc (length bs) = ltb-true 4 (suc (length bs)) q.1 in
      or_case (eqb c 0x20) _ q.0
      (λ e. at_code c 0x20 e (erases 0x20 0x1000 (Erase Sector) refl (act_cons Rust true 0x20 bs) refl l) k) λ q.
      or_case (eqb c 0x52) _ q
      (λ e. at_code c 0x52 e (erases 0x52 0x8000 (Erase Half) refl (act_cons Rust true 0x52 bs) refl l) k) λ q.
      or_case (eqb c 0xD8) _ q
      (λ e. at_code c 0xD8 e (erases 0xD8 0x10000 (Erase Full) refl (act_cons Rust true 0xD8 bs) refl l) k) no_way)
      (λ u. let q = both_parts (member c (0xC7 ∷ 0x60 ∷ [])) (ltb 1 (suc (length bs))) u in
      let l : 1 < suc (length bs) = ltb-true 1 (suc (length bs)) q.1 in
      or_case (eqb c 0xC7) _ q.0 (λ e. at_code c 0xC7 e (wipes 0xC7 refl (act_cons Rust true 0xC7 bs) l) k) λ q.
      or_case (eqb c 0x60) _ q (λ e. at_code c 0x60 e (wipes 0x60 refl (act_cons Rust true 0x60 bs) l) k) no_way)

trailing_differs : (w : Board) → Good w.array → w.chip.cs ≡ false → w.chip.mode ≡ Rust → w.chip.wel ≡ true
    → Never trailing w
trailing_differs w g s r v [] h = absurd (no_way h)
trailing_differs w g s r v (c ∷ bs) h = trailing_cons w g s r v bs c h

-- ---- 0x90 from address 1: the first answer differs
first_byte : (w : Board) (bs : List ℕ) → Good w.array → w.chip.cs ≡ false → w.chip.mode ≡ Rust → 4 ≤ length bs
    → get_or (answers (after_step w (cs true)) (sends (0x90 ∷ bs))) 4 0 ≡ 0xEF
unfolding kind_of
first_byte w bs g s r l =
    replies_whole w (0x90 ∷ bs) 4 (omega arith) g s ∙ answer_at_lem w.chip.mode w.chip.wel w.array 0x90 bs 4
    (omega arith) ∙ rw r

first_on_sheet : (w : Board) (bs : List ℕ) (a : ℕ) → address (0x90 ∷ bs) (length w.array) ≡ 1
    → Agrees (reply unit (state_of w) (0x90 ∷ bs) 4) a → a ≡ 0x16
unfolding instruction table
first_on_sheet w bs a e h = rw e at h

device_first_differs : (w : Board) → Good w.array → w.chip.cs ≡ false → w.chip.mode ≡ Rust → Never device_first w
device_first_differs w g s r [] h k = absurd (no_way h)
device_first_differs w g s r (c ∷ bs) h k =
    let p = both_parts (eqb c 0x90) (both (eqb (address (c ∷ bs) (length w.array)) 1) (ltb 4 (suc (length bs)))) h in
    let q = both_parts (eqb (address (c ∷ bs) (length w.array)) 1) (ltb 4 (suc (length bs))) p.1 in
    let l : 4 < suc (length bs) = ltb-true 4 (suc (length bs)) q.1 in
    let a : address (c ∷ bs) (length w.array) ≡ 1 = eqb-true _ 1 q.0 in
    at_90 (eqb-true c 0x90 p.0) l a k
  where
    at_90 : c ≡ 0x90 → 4 < suc (length bs) → address (c ∷ bs) (length w.array) ≡ 1 → Conforms w (c ∷ bs) → ⊥
    at_90 e l a k =
        let k₁ : Conforms w (0x90 ∷ bs) = subst (λ (c : ℕ). Conforms w (c ∷ bs)) e k in
        let z : ◌≡◌ {A = ℕ} 0xEF 0x16 = sym (first_byte w bs g s r (omega arith))
        ∙ first_on_sheet w bs _ a (k₁.replies 4 (omega arith)) in
        omega arith

-- ---- 257 bytes, the first 00 and the last FF at the same place: the Rust's leaves 00 there, the sheet's what was
-- the first byte of a page, ANDed as the chip does it and as the sheet does
head : (x : ℕ) (xs q r : List ℕ) → 0 < length q → (get_or (ands (x ∷ xs) q ++ r) 0 0 ≡ bit_and x (get_or q 0 0))
    × (get_or (burnt (x ∷ xs) q ++ r) 0 0 ≡ bit_and x (get_or q 0 0))
head x xs [] r h = absurd (not-suc-le-zero h)
head x xs (y ∷ q) r h = (refl, refl)

rust_page : get_or (ands_from blank 0 twice) 0 0 ≡ 0
unfolding blank twice
rust_page = refl

rust_long : 0 < length (ands_from blank 0 twice)
unfolding blank twice
rust_long = omega arith

sheet_page : get_or (latched ones 0 twice) 0 0 ≡ 0xFF
unfolding ones twice
sheet_page = refl

sheet_long : 0 < length (latched ones 0 twice)
unfolding ones twice
sheet_long = omega arith

-- what the chip makes of the first page
abbrev programs : List ℕ → List ℕ → List ℕ
programs m ds = patch m 0 256 (ands (take 256 m) (ands_from blank 0 ds))

arrays_differ : (m : List ℕ) → 256 ≤ length m → Bytes m → (get_or m 0 0 ≡ 0 → ⊥)
    → programs m twice ≡ array_after_program m 0 twice → ⊥
arrays_differ [] l y h e = absurd (not-suc-le-zero l)
arrays_differ (x ∷ m) l y h e =
    h
    (sym (and_mask x 8 ∙ mod-eq_of_lt (y 0))
    ∙ ap (bit_and x) (sym sheet_page)
    ∙ sym (head x (take 255 m) (latched ones 0 twice) (drop 256 (x ∷ m)) sheet_long).1
    ∙ ap (λ (l : List ℕ). get_or l 0 0) (sym e)
    ∙ (head x (take 255 m) (ands_from blank 0 twice) (drop 256 (x ∷ m)) rust_long).0
    ∙ ap (bit_and x) rust_page
    ∙ and_zero_r x)

-- a program at address 0
abbrev from_0 : List ℕ → List ℕ
from_0 ds = 0x02 ∷ 0 ∷ 0 ∷ 0 ∷ ds

act_0 : (ds : List ℕ) → 0 < length ds → act_of Rust true (exact_trans (from_0 ds)) ≡ Program
act_0 ds h = act_cons Rust true 0x02 (0 ∷ 0 ∷ 0 ∷ ds) ∙ rw (lt-ltb 4 (suc (suc (suc (suc (length ds))))) (omega arith))

leaves_rust : (w : Board) (ds : List ℕ) → Good w.array → w.chip.cs ≡ false → w.chip.mode ≡ Rust
    → w.chip.wel ≡ true → 0 < length ds
    → state_of (transaction w (from_0 ds)) ≡ state (programs w.array ds) false
leaves_rust w ds g s r v h =
    ends_whole w (from_0 ds) g s
    ∙ ap₂ (λ (e : Mode) (v : Bool). state_after_act v w.array (from_0 ds) (act_of e v (exact_trans (from_0 ds)))) r v
    ∙ ap (state_after_act true w.array (from_0 ds)) (act_0 ds h)
    ∙ ap (λ (a : ℕ). state
    (patch w.array (a - a % 256) 256 (ands (take 256 (drop (a - a % 256) w.array)) (ands_from blank 0 ds))) false)
    (zero-mod (length w.array))

leaves_sheet : (w : Board) (ds : List ℕ) → w.chip.wel ≡ true → 0 < length ds → afterwards (state_of w) (from_0 ds)
    ≡ leaves (state (array_after_program w.array 0 ds) false)
unfolding instruction table
leaves_sheet w ds v h =
    ap (λ (t : Bool). executed (both t (leb 5 (suc (suc (suc (suc (length ds)))))))
    (array_after_program w.array (address (from_0 ds) (length w.array)) ds) (state_of w)) v
    ∙ rw (le-leb 5 (suc (suc (suc (suc (length ds))))) (omega arith))
    (ap (λ (a : ℕ). leaves (state (array_after_program w.array a ds) false)) (zero-mod (length w.array)))

twice_long : ltb 260 (length (from_0 twice)) ≡ true
unfolding twice
twice_long = refl

twice_some : 0 < length twice
unfolding twice
twice_some = omega arith

big : (n : ℕ) → Sized n → 256 ≤ n
big n s = omega arith

-- This instruction, whatever the array, if its first byte is not 00 already.
overlong_rust : (w : Board) → Good w.array → w.chip.cs ≡ false → w.chip.mode ≡ Rust → w.chip.wel ≡ true
    → (get_or w.array 0 0 ≡ 0 → ⊥)
    → Conforms w (from_0 twice) → ⊥
overlong_rust w g s r v h k =
    let e : state_of (transaction w (from_0 twice)) ≡ state (array_after_program w.array 0 twice) false =
    subst (λ (a : After). Left a (state_of (transaction w (from_0 twice)))) (leaves_sheet w twice v twice_some)
    k.ends in
    arrays_differ w.array (big (length w.array) (good_sized (length w.array) g.size)) g.bytes h
    (ap (λ (s : State). s.array) (sym (leaves_rust w twice g s r v twice_some) ∙ e))

-- ---- in strict mode, as 01 has it before W-205: the chip keeps WEL, and the sheet's program clears it
pub strict_long : (c : Bool) (bs : List ℕ) → 260 < suc (length bs) → act_of Strict c (exact_trans (0x02 ∷ bs)) ≡ Nothing
strict_long c bs l =
    act_cons Strict c 0x02 bs ∙ rw (lt-ltb 260 (suc (length bs)) l) (none (both c (ltb 4 (suc (length bs)))))
  where
    none : (t : Bool) → pick (both t false) Program Nothing ≡ Nothing
    none true = refl
    none false = refl

long_cleared : (w : Board) (bs : List ℕ) → w.chip.wel ≡ true → 260 < suc (length bs)
    → afterwards (state_of w) (0x02 ∷ bs)
    ≡ leaves (state (array_after_program w.array (address (0x02 ∷ bs) (length w.array)) (drop 4 (0x02 ∷ bs))) false)
unfolding instruction table
long_cleared w bs v l =
    ap (λ (t : Bool). executed (both t (leb 5 (suc (length bs))))
    (array_after_program w.array (address (0x02 ∷ bs) (length w.array)) (drop 4 (0x02 ∷ bs))) (state_of w)) v
    ∙ ap (λ (t : Bool). executed t
    (array_after_program w.array (address (0x02 ∷ bs) (length w.array)) (drop 4 (0x02 ∷ bs))) (state_of w))
    (le-leb 5 (suc (length bs)) (omega arith))

overlong_cons : (w : Board) (bs : List ℕ) → Good w.array → w.chip.cs ≡ false → w.chip.mode ≡ Strict
    → w.chip.wel ≡ true → 260 < suc (length bs)
    → Conforms w (0x02 ∷ bs) → ⊥
overlong_cons w bs g s r v l k =
    let e : state_of (transaction w (0x02 ∷ bs))
    ≡ state (array_after_program w.array (address (0x02 ∷ bs) (length w.array)) (drop 4 (0x02 ∷ bs))) false =
    subst (λ (a : After). Left a (state_of (transaction w (0x02 ∷ bs)))) (long_cleared w bs v l) k.ends in
    let q : act_of w.chip.mode w.chip.wel (exact_trans (0x02 ∷ bs)) ≡ Nothing =
    ap (λ (e : Mode). act_of e w.chip.wel (exact_trans (0x02 ∷ bs))) r ∙ strict_long w.chip.wel bs l in
    no_way
    (sym (ap (λ (s : State). s.wel) e)
    ∙ ap (λ (s : State). s.wel) (ends_whole w (0x02 ∷ bs) g s)
    ∙ ap (λ (a : Act). wel_after a w.chip.wel) q
    ∙ v)

overlong_strict : (w : Board) → Good w.array → w.chip.cs ≡ false → w.chip.mode ≡ Strict → w.chip.wel ≡ true
    → Never overlong w
overlong_strict w g s r v [] h k = absurd (no_way h)
overlong_strict w g s r v (c ∷ bs) h k =
    let p = both_parts (eqb c 0x02) (ltb 260 (suc (length bs))) h in
    overlong_cons w bs g s r v (ltb-true 260 (suc (length bs)) p.1)
    (subst (λ (c : ℕ). Conforms w (c ∷ bs)) (eqb-true c 0x02 p.0) k)

-- Every departure of the two lists.
pub differs : (e : Mode) (d : Departure) (w : Board) → Good w.array → w.chip.cs ≡ false → w.chip.mode ≡ e
    → w.chip.wel ≡ true → Differs e d w
differs Rust lacking w g s r v = lacking_differs w
differs Rust trailing w g s r v = trailing_differs w g s r v
differs Rust device_first w g s r v = device_first_differs w g s r
differs Rust overlong w g s r v = (twice_long, overlong_rust w g s r v)
differs Strict lacking w g s r v = lacking_differs w
differs Strict trailing w g s r v = tt
differs Strict device_first w g s r v = tt
differs Strict overlong w g s r v = overlong_strict w g s r v

-- ---- beyond one instruction
-- a byte to the unselected chip changes neither the array nor WEL, so `conforms` holds of the next instruction whatever
-- was sent
pub unselected_keeps : (w : Board) (b : ℕ) → Good w.array → w.chip.cs ≡ false
    → (state_of (after_step w (byte b)) ≡ state_of w) × ((after_step w (byte b)).chip.cs ≡ false)
unselected_keeps w b g c =
    (ap state_of (after_byte w b g.size), ap (λ (z : Board). z.chip.cs) (after_byte w b g.size) ∙ c)

status_plain : (e : Mode) (n : ℕ) → departs e n (0x05 ∷ 0 ∷ []) ≡ false
unfolding others
status_plain Rust n = refl
status_plain Strict n = refl

status_says : (w : Board) (a : ℕ) → Agrees (reply unit (state_of w) (0x05 ∷ 0 ∷ []) 1) a → a % 2 ≡ 0
unfolding instruction table
status_says w a h = rw h (even w.chip.wel)
  where
    even : (t : Bool) → pick t 2 0 % 2 ≡ 0
    even true = refl
    even false = refl

status_bytes : Bytes (0x05 ∷ 0 ∷ [])
status_bytes zero = omega arith
status_bytes (suc zero) = omega arith
status_bytes (suc (suc k)) = omega arith

-- what an answering kind gives at byte i
pub kind_at : (w : Board) (c : ℕ) (bs : List ℕ) (i : ℕ) (k : Kind) → kind_of c ≡ k → Good w.array
    → w.chip.cs ≡ false → 1 ≤ i → i ≤ length bs
    → answer_at w (c ∷ bs) i ≡ reply_to k w.chip.mode w.chip.wel (trans_at (c ∷ bs) i) w.array
kind_at w c bs i k e g s l h =
    replies_whole w (c ∷ bs) i (omega arith) g s
    ∙ answer_at_lem w.chip.mode w.chip.wel w.array c bs i l
    ∙ ap (λ (k : Kind). reply_to k w.chip.mode w.chip.wel (trans_at (c ∷ bs) i) w.array) e

pub shows : (d : Beyond) (w : Board) → Good w.array → w.chip.cs ≡ false → Shows d w
unfolding kind_of answer_of instruction table others
shows busy w g c =
    λ bs. let v : Board = transaction w bs in
    status_says v _ ((conforms v (0x05 ∷ 0 ∷ []) (kept_good w bs g c) status_bytes (kept_cs w bs g c)
    (status_plain v.chip.mode (length v.array))).replies 1 (omega arith))
shows unselected w g c =
    ap (λ (z : Board). answers z (byte 0x9F ∷ cs false ∷ byte 0 ∷ [])) (begins w g.size c)
    ∙ answers_view w.chip.mode (byte 0x9F ∷ cs false ∷ byte 0 ∷ []) (opening w) g
shows unique_number w g c = λ bs i l h. kind_at w 0x4B bs i Unique refl g c (omega arith) h ∙ rw (le-ltb i 5 l)
shows third_status w g c = (refl, λ bs i l h. kind_at w 0x15 bs i Zero refl g c l h)
