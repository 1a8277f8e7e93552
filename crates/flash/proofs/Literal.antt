-- sys.rs word for word, and the chip: every run in the Rust's mode is the Rust's.
use Rattle.std.proofs.Common.{◌≡◌, ℕ, zero, suc, ◌+◌, ◌-◌, ◌*◌, ◌/◌, ◌%◌, ◌^◌, ◌<◌, ◌≤◌, Bool, true, false, eqb}
use Rattle.std.proofs.Common.{ltb, leb, List, [], ◌∷◌, ◌++◌, length, get_or, drop, sym, refl, ap, ◌∙◌, subst, ap₂}
use Rattle.std.proofs.Common.{mod-lt, mod-eq_of_lt, div-lt_iff_lt-mul, div-add-mod', arith, length-append, pow_pos}
use Rattle.std.proofs.Common.{pow-add, le-ltb, lt-ltb, ne_eqb, le-leb}
use native.Mathlib.Nat.{add-mod-mod}
use lib.ListN.{get_or-eq_default}
use lib.Seq.{take-append_seam}
use lib.Bits.{bit_and, bit_or, and_mask, and_high, or_shifted}
use borrow.Author.Tests.{lt-leb}
use Rattle.whole.proofs.Choice.{by_less}
use Rattle.flash.specs.Pick.{pick, both}
use Rattle.flash.specs.Board.{Sized}
use Rattle.flash.specs.Xfer.{jedec, kind_of, read_of, reply_to, answer_of}
use Rattle.flash.specs.Finish.{block_size, act_of, array_after, wel_after, writes_after}
use Rattle.flash.specs.Steps.{Step, cs, byte, ByteSteps}
use Rattle.flash.specs.Run.{Bytes, Good}
use Rattle.flash.proofs.Whole.{at, trans_at, exact_trans, rounded_trans, page_of, list_after, list_run, list_answers}
use Rattle.flash.specs.Rust.{Sys, not_below, flash_addr, match_cmd, xfer_answer, flash_xfer, program_loop, filled}
use Rattle.flash.specs.Rust.{Touched, touched, finish_cmd, flash_finish, finished, flash_select, rust_after_steps, rxs}
use Rattle.flash.specs.Rust.{default}
use Rattle.flash.specs.Sheet.{address}
use Rattle.flash.specs.Alike.{seen_of, seen, AsRust}
use Rattle.flash.specs.declared.Mode.TheVariants.{Rust}
use Rattle.flash.specs.declared.Act.{Act}
use Rattle.flash.specs.declared.Act.TheVariants.{Nothing, Enable, Disable, Program, Erase, EraseAll}
use Rattle.flash.specs.declared.Block.{Block}
use Rattle.flash.specs.declared.Block.TheVariants.{Sector, Half, Full}
use Rattle.flash.proofs.Bools.{both_comm}
use Rattle.flash.proofs.Laws.{good_sized, page_in, regroup}
use Rattle.flash.proofs.Page.{program_is}
use Rattle.flash.proofs.Refine.{answer_exact, answer_ahead, act_exact}
use Rattle.flash.proofs.Runs.{after_good, append_bytes, run_view, answers_view}
use Rattle.flash.proofs.Codes.{is}
use Rattle.flash.proofs.Conform.{addr_low, act_cons, may_program, may_erase, may_wipe}

-- ---- masks and shifts as arithmetic
shifts : (x y z : ℕ) → y < 256 → z < 256 → bit_or (bit_or (x * 2 ^ 16) (y * 2 ^ 8)) z ≡ x * 65536 + y * 256 + z
shifts x y z h l =
    let u : y * 2 ^ 8 < 2 ^ 16 = omega arith in
    let e : x * 2 ^ 16 + y * 2 ^ 8 ≡ (x * 256 + y) * 2 ^ 8 = omega arith in
    let f : (x * 256 + y) * 2 ^ 8 + z ≡ x * 65536 + y * 256 + z = omega arith in
    ap (λ (k : ℕ). bit_or k z) (or_shifted x 16 (y * 2 ^ 8) u ∙ e) ∙ or_shifted (x * 256 + y) 8 z l ∙ f

addr_is : (b : List ℕ) (n : ℕ) → Bytes b → flash_addr b n ≡ address b n
addr_is b n y = ap (λ (k : ℕ). k % n) (shifts (get_or b 1 0) (get_or b 2 0) (get_or b 3 0) (y 2) (y 3))

low_is : (a : ℕ) → bit_and a 0xFF ≡ a % 256
low_is a = and_mask a 8

-- a & !(2^k - 1) of a usize is where the part of 2^k bytes that a lies in starts
start_is : (a j k : ℕ) → a < 2 ^ (j + k) → bit_and a (2 ^ (j + k) - 2 ^ k) ≡ a - a % 2 ^ k
start_is a j k h =
    let l : a / 2 ^ k < 2 ^ j = (div-lt_iff_lt-mul (pow_pos k)).1 (subst (λ (n : ℕ). a < n) (pow-add 2 j k) h) in
    and_high a j k ∙ ap (◌* 2 ^ k) (mod-eq_of_lt l) ∙ less (a / 2 ^ k * 2 ^ k) (a % 2 ^ k) a (div-add-mod' a (2 ^ k))
  where
    less : (x y z : ℕ) → x + y ≡ z → x ≡ z - y
    less x y z e = omega arith

addr_lt : (b : List ℕ) (n : ℕ) → Sized n → address b n < 2 ^ 64
addr_lt b n s = let h : address b n < n = mod-lt _ (omega arith) in omega arith

-- ---- flash_xfer
guarded : (k i x y : ℕ) {z : ℕ} → (k ≤ i → x ≡ z) → pick (leb k i) x y ≡ pick (ltb i k) y z
guarded k i x y f = by_less i k (λ l. rw (lt-ltb i k l, lt-leb k i l)) (λ l. rw (le-ltb i k l, le-leb k i l) (f l))

jedec_is : (i : ℕ) → 1 ≤ i → get_or (0xEF ∷ 0x40 ∷ 0x17 ∷ []) (i - 1) 0xFF ≡ jedec i
jedec_is i h =
    by_less i 2 (λ l. let e : i ≡ 1 = omega arith in rw e) λ l₂.
    by_less i 3 (λ l. let e : i ≡ 2 = omega arith in rw e) λ l₃.
    by_less i 4 (λ l. let e : i ≡ 3 = omega arith in rw e) λ l.
    rw (ne_eqb i 1 (λ e. omega arith), ne_eqb i 2 (λ e. omega arith), ne_eqb i 3 (λ e. omega arith))
    (get_or-eq_default (0xEF ∷ 0x40 ∷ 0x17 ∷ []) 0xFF (three i l))
  where
    three : (i : ℕ) → 4 ≤ i → 3 ≤ i - 1
    three i l = omega arith

turns : (j : ℕ) → ◌≡◌ {A = ℕ} (get_or (0xEF ∷ 0x16 ∷ []) (bit_and j 1) 0) (pick (eqb (j % 2) 1) 0x16 0xEF)
turns j =
    ap (λ (k : ℕ). get_or (0xEF ∷ 0x16 ∷ []) k 0) (and_mask j 1)
    ∙ by_less (j % 2) 1
    (λ h. let e : j % 2 ≡ 0 = omega arith in rw e)
    (λ h. let e : j % 2 ≡ 1 = omega arith in rw e)

module _ (w : Bool) (m b : List ℕ) (y : Bytes b) (i : ℕ) (u : 1 ≤ i) where
  abbrev Replies : ℕ → Type 0
  Replies c = match_cmd w m b c i ≡ reply_to (kind_of c) Rust w (trans_at b i) m

  no_kind : (c : ℕ) → eqb c 0x9F ≡ false → eqb c 0x90 ≡ false → eqb c 0xAB ≡ false → eqb c 0x05 ≡ false
      → eqb c 0x35 ≡ false → eqb c 0x15 ≡ false
      → eqb c 0x03 ≡ false → eqb c 0x0B ≡ false → eqb c 0x4B ≡ false → Replies c
  unfolding kind_of
  no_kind c h9_f h90 hAB h05 h35 h15 h03 h0_b h4_b = rw (h9_f, h90, hAB, h05, h35, h15, h03, h0_b, h4_b)

  read_is : (k : ℕ) → k ≤ i → get_or m ((flash_addr b (length m) + i - k) % length m) 0 ≡ read_of (trans_at b i)
      (i - k) m
  unfolding read_of
  read_is k l =
      ap (λ (j : ℕ). get_or m j 0)
      (ap (λ (a : ℕ). (a + i - k) % length m) (addr_is b (length m) y)
      ∙ ap (λ (j : ℕ). j % length m) (regroup (address b (length m)) i k l)
      ∙ sym (add-mod-mod (address b (length m)) (i - k) (length m)))

  match_is : (c : ℕ) → Replies c
  unfolding kind_of
  match_is c =
      is Replies c 0x9F (jedec_is i u) λ h9_f.
      is Replies c 0x90 (guarded 4 i _ 0xFF (λ l. turns (i - 4))) λ h90.
      is Replies c 0xAB (guarded 4 i 0x16 0xFF (λ l. refl)) λ hAB.
      is Replies c 0x05 refl λ h05.
      is Replies c 0x35 refl λ h35.
      is Replies c 0x15 refl λ h15.
      is Replies c 0x03 (guarded 4 i _ 0xFF (read_is 4)) λ h03.
      is Replies c 0x0B (guarded 5 i _ 0xFF (read_is 5)) λ h0_b.
      is Replies c 0x4B (guarded 5 i 0x5A 0xFF (λ l. refl)) λ h4_b.
      no_kind c h9_f h90 hAB h05 h35 h15 h03 h0_b h4_b

answer_is : (w : Bool) (m b : List ℕ) → Bytes b → (i : ℕ) → xfer_answer w m b (at b 0) i
    ≡ answer_of Rust w (trans_at b i) m
unfolding answer_of
answer_is w m b y zero = refl
answer_is w m b y (suc i) =
    ap (λ (x : ℕ). pick (eqb (suc i) 0) 0xFF x) (match_is w m b y (suc i) (omega arith) (at b 0))

-- ---- flash_finish
abbrev ends : Act → Bool → ℕ → List ℕ → List ℕ → Touched
ends a w n b m = touched (wel_after a w) (writes_after a n) (array_after a (rounded_trans (length m) b) (page_of b) m)

module _ (w : Bool) (n : ℕ) (m : List ℕ) (s : Sized (length m)) (z : Bytes m) (bs : List ℕ) where
  abbrev Finishes : ℕ → Type 0
  Finishes c = Bytes (c ∷ bs) → finish_cmd w n m (c ∷ bs) c ≡ ends (act_of Rust w (exact_trans (c ∷ bs))) w n (c ∷ bs) m

  -- an order that a test allows
  allows : (t u : Bool) (c : ℕ) (a : Act) (x : Touched) → t ≡ u → x ≡ ends a w n (c ∷ bs) m
      → pick t x (touched w n m) ≡ ends (pick u a Nothing) w n (c ∷ bs) m
  allows t true c a x p h = rw p h
  allows t false c a x p h = rw p

  acts : (c : ℕ) (a : Act) → act_of Rust w (exact_trans (c ∷ bs)) ≡ a → finish_cmd w n m (c ∷ bs) c ≡ ends a w n
      (c ∷ bs) m
      → finish_cmd w n m (c ∷ bs) c ≡ ends (act_of Rust w (exact_trans (c ∷ bs))) w n (c ∷ bs) m
  acts c a p h = h ∙ ap (λ (a : Act). ends a w n (c ∷ bs) m) (sym p)

  programs : (c : ℕ) → Bytes (c ∷ bs)
      → touched false ((n + 1) % 2 ^ 64)
      (program_loop m (bit_and (flash_addr (c ∷ bs) (length m)) (not_below 0x100))
      (bit_and (flash_addr (c ∷ bs) (length m)) 0xFF) (drop 4 (c ∷ bs)))
      ≡ ends Program w n (c ∷ bs) m
  programs c y =
      let a : ℕ = address (c ∷ bs) (length m) in
      ap (touched false ((n + 1) % 2 ^ 64))
      (ap (λ (a : ℕ). program_loop m (bit_and a (not_below 0x100)) (bit_and a 0xFF) (drop 4 (c ∷ bs)))
      (addr_is (c ∷ bs) (length m) y)
      ∙ ap₂ (λ (p o : ℕ). program_loop m p o (drop 4 (c ∷ bs))) (start_is a 56 8 (addr_lt (c ∷ bs) (length m) s))
      (low_is a ∙ addr_low (c ∷ bs) (length m) s)
      ∙ program_is (drop 4 (c ∷ bs)) m (a - a % 256) (at (c ∷ bs) 3 % 256)
      (page_in (length m) a s (mod-lt _ (omega arith))) (mod-lt _ (omega arith)) z)

  erase_is : (c : ℕ) (b : Block) (k : ℕ) → Bytes (c ∷ bs) → block_size b ≡ k
      → bit_and (address (c ∷ bs) (length m)) (not_below k) ≡ address (c ∷ bs) (length m) - address (c ∷ bs)
      (length m) % k
      → touched false ((n + 1) % 2 ^ 64) (filled m (bit_and (flash_addr (c ∷ bs) (length m)) (not_below k)) k)
      ≡ ends (Erase b) w n (c ∷ bs) m
  erase_is c b k y e h =
      ap (touched false ((n + 1) % 2 ^ 64))
      (ap (λ (a : ℕ). filled m (bit_and a (not_below k)) k) (addr_is (c ∷ bs) (length m) y)
      ∙ ap (λ (p : ℕ). filled m p k) h
      ∙ rw e)

  program_test : both (ltb 4 (suc (length bs))) w ≡ may_program Rust w (suc (length bs))
  program_test = both_comm (ltb 4 (suc (length bs))) w ∙ both_comm true (both w (ltb 4 (suc (length bs))))

  erase_test : both (leb 4 (suc (length bs))) w ≡ may_erase Rust w (suc (length bs))
  erase_test = both_comm (leb 4 (suc (length bs))) w ∙ both_comm true (both w (leb 4 (suc (length bs))))

  wipe_test : w ≡ may_wipe Rust w (suc (length bs))
  wipe_test = both_comm true w

  no_order : (c : ℕ) → eqb c 0x06 ≡ false → eqb c 0x04 ≡ false → eqb c 0x02 ≡ false → eqb c 0x20 ≡ false
      → eqb c 0x52 ≡ false → eqb c 0xD8 ≡ false
      → eqb c 0xC7 ≡ false → eqb c 0x60 ≡ false → Finishes c
  no_order c h06 h04 h02 h20 h52 h_d8 h_c7 h60 y =
      acts c Nothing (act_cons Rust w c bs ∙ rw (h06, h04, h02, h20, h52, h_d8, h_c7, h60))
      (rw (h06, h04, h02, h20, h52, h_d8, h_c7, h60))

  finish_is : (c : ℕ) → Finishes c
  finish_is c =
      is Finishes c 0x06 (λ y. acts 0x06 Enable (act_cons Rust w 0x06 bs) refl) λ h06.
      is Finishes c 0x04 (λ y. acts 0x04 Disable (act_cons Rust w 0x04 bs) refl) λ h04.
      is Finishes c 0x02 (λ y. acts 0x02 _ (act_cons Rust w 0x02 bs)
      (allows _ (may_program Rust w (suc (length bs))) 0x02 Program _ program_test (programs 0x02 y))) λ h02.
      is Finishes c 0x20 (λ y. acts 0x20 _ (act_cons Rust w 0x20 bs)
      (allows _ (may_erase Rust w (suc (length bs))) 0x20 (Erase Sector) _ erase_test
      (erase_is 0x20 Sector 0x1000 y refl (start_is _ 52 12 (addr_lt (0x20 ∷ bs) (length m) s))))) λ h20.
      is Finishes c 0x52 (λ y. acts 0x52 _ (act_cons Rust w 0x52 bs)
      (allows _ (may_erase Rust w (suc (length bs))) 0x52 (Erase Half) _ erase_test
      (erase_is 0x52 Half 0x8000 y refl (start_is _ 49 15 (addr_lt (0x52 ∷ bs) (length m) s))))) λ h52.
      is Finishes c 0xD8 (λ y. acts 0xD8 _ (act_cons Rust w 0xD8 bs)
      (allows _ (may_erase Rust w (suc (length bs))) 0xD8 (Erase Full) _ erase_test
      (erase_is 0xD8 Full 0x10000 y refl (start_is _ 48 16 (addr_lt (0xD8 ∷ bs) (length m) s))))) λ h_d8.
      is Finishes c 0xC7 (λ y. acts 0xC7 _ (act_cons Rust w 0xC7 bs)
      (allows _ (may_wipe Rust w (suc (length bs))) 0xC7 EraseAll _ wipe_test refl)) λ h_c7.
      is Finishes c 0x60 (λ y. acts 0x60 _ (act_cons Rust w 0x60 bs)
      (allows _ (may_wipe Rust w (suc (length bs))) 0x60 EraseAll _ wipe_test refl)) λ h60.
      no_order c h06 h04 h02 h20 h52 h_d8 h_c7 h60

finished_is : (w : Bool) (n : ℕ) (m b : List ℕ) → Sized (length m) → Bytes m → Bytes b → flash_finish w n m b (at b 0)
    ≡ ends (act_of Rust w (exact_trans b)) w n b m
unfolding act_of
finished_is w n m [] s z y = refl
finished_is w n m (c ∷ bs) s z y =
    ap (λ (t : Bool). pick t (touched w n m) (finish_cmd w n m (c ∷ bs) c))
    (ne_eqb (suc (length bs)) 0 (λ z. omega arith)) ∙ finish_is w n m s z bs c y

-- ---- one step
-- a state that has been sent bytes
pub record Fit (s : Sys) : Type 0 where
  pub good : Good s.ram
  pub bytes : Bytes s.buf

one_byte : (b : ℕ) → b < 256 → Bytes (b ∷ [])
one_byte b h zero = h
one_byte b h (suc k) = omega arith

abbrev sys : Bool → List ℕ → ℕ → Touched → Sys
sys c b r t = record { cs = c; buf = b; rx = r; wel = t.wel; writes = t.writes; ram = t.ram }

last_is : (b : List ℕ) (x : ℕ) → length (b ++ x ∷ []) - 1 ≡ length b
last_is b x = rw length-append (omega arith)

short : (b : List ℕ) (x : ℕ) → length b ≤ length (b ++ x ∷ [])
short b x = rw length-append (omega arith)

xfer_is : (s : Sys) (b : ℕ) → Fit s → b < 256 → flash_xfer s b ≡ list_after Rust s (byte b)
unfolding flash_xfer
xfer_is s b f h =
    let l : List ℕ = s.buf ++ (b ∷ []) in
    let z : Sized (length s.ram) = good_sized (length s.ram) f.good.size in
    ap (λ (r : ℕ). sys s.cs l r (touched s.wel s.writes s.ram))
    (ap (xfer_answer s.wel s.ram l (at l 0)) (last_is s.buf b)
    ∙ answer_is s.wel s.ram l (append_bytes s.buf (b ∷ []) f.bytes (one_byte b h)) (length s.buf)
    ∙ sym (answer_ahead Rust s.wel l s.ram (length s.buf) (short s.buf b))
    ∙ ap (λ (k : List ℕ). answer_of Rust s.wel (exact_trans k) s.ram) (take-append_seam s.buf (b ∷ []))
    ∙ sym (answer_exact Rust s.wel s.buf s.ram z))

finish_off : (s : Sys) → Fit s → finished s ≡ ends (act_of Rust s.wel (rounded_trans (length s.ram) s.buf))
    s.wel s.writes s.buf s.ram
finish_off s f =
    finished_is s.wel s.writes s.ram s.buf (good_sized (length s.ram) f.good.size) f.good.bytes
    f.bytes
    ∙ ap (λ (a : Act). ends a s.wel s.writes s.buf s.ram)
    (sym (act_exact Rust s.wel (length s.ram) s.buf))

select_is : (s : Sys) (on : Bool) → Fit s → flash_select s on ≡ list_after Rust s (cs on)
unfolding flash_select
select_is s true f = go s.cs s.buf s.rx (touched s.wel s.writes s.ram)
  where
    go : (c : Bool) (b : List ℕ) (r : ℕ) (t : Touched) → flash_select (sys c b r t) true
        ≡ list_after Rust (sys c b r t) (cs true)
    go true b r t = refl
    go false b r t = refl
select_is s false f =
    ap (λ (t : Touched). sys false s.buf s.rx (pick s.cs t (touched s.wel s.writes s.ram)))
    (finish_off s f) ∙ go s.cs s.buf s.rx (touched s.wel s.writes s.ram)
  where
    go : (c : Bool) (b : List ℕ) (r : ℕ) (t : Touched)
        → sys false b r (pick c
        (ends (act_of Rust t.wel (rounded_trans (length t.ram) b)) t.wel t.writes b t.ram) t)
        ≡ list_after Rust (sys c b r t) (cs false)
    go true b r t = refl
    go false b r t = refl

pick_bytes : (c : Bool) (b : List ℕ) → Bytes b → Bytes (pick c b [])
pick_bytes true b y k = y k
pick_bytes false b y k = omega arith

fit_cs : (s : Sys) (on : Bool) → Fit s → Fit (list_after Rust s (cs on))
fit_cs s true f =
    record { good = after_good Rust s (cs true) f.good; bytes = pick_bytes s.cs s.buf f.bytes }
fit_cs s false f = record { good = after_good Rust s (cs false) f.good; bytes = f.bytes }

fit_byte : (s : Sys) (b : ℕ) → b < 256 → Fit s → Fit (list_after Rust s (byte b))
fit_byte s b h f = record { good = f.good; bytes = append_bytes s.buf (b ∷ []) f.bytes (one_byte b h) }

-- ---- every run
pub ran_is : (xs : List Step) (s : Sys) → Fit s → ByteSteps xs → rust_after_steps s xs ≡ list_run Rust s xs
ran_is [] s f y = refl
ran_is (cs on ∷ xs) s f y =
    ap (λ (z : Sys). rust_after_steps z xs) (select_is s on f) ∙ ran_is xs (list_after Rust s (cs on)) (fit_cs s on f) y
ran_is (byte b ∷ xs) s f y =
    ap (λ (z : Sys). rust_after_steps z xs) (xfer_is s b f y.0)
    ∙ ran_is xs (list_after Rust s (byte b)) (fit_byte s b y.0 f) y.1

rx_is : (s : Sys) (b : ℕ) → Fit s → b < 256 → (flash_xfer s b).rx ≡ answer_of Rust s.wel (exact_trans s.buf) s.ram
rx_is s b f h =
    ap (λ (z : Sys). z.rx) (xfer_is s b f h) ∙ answer_exact Rust s.wel s.buf s.ram
    (good_sized (length s.ram) f.good.size)

pub rxs_is : (xs : List Step) (s : Sys) → Fit s → ByteSteps xs → rxs s xs ≡ list_answers Rust s xs
rxs_is [] s f y = refl
rxs_is (cs on ∷ xs) s f y =
    ap (λ (z : Sys). rxs z xs) (select_is s on f) ∙ rxs_is xs (list_after Rust s (cs on)) (fit_cs s on f) y
rxs_is (byte b ∷ xs) s f y =
    ap₂ (λ (r : ℕ) (l : List ℕ). r ∷ l) (rx_is s b f y.0)
    (ap (λ (z : Sys). rxs z xs) (xfer_is s b f y.0) ∙ rxs_is xs (list_after Rust s (byte b)) (fit_byte s b y.0 f)
    y.1)

no_bytes : Bytes []
no_bytes k = omega arith

-- Every list of steps.
pub as_rust : (m : List ℕ) (xs : List Step) → Good m → ByteSteps xs → AsRust m xs
as_rust m xs g y =
    let f : Fit (default m) = record { good = g; bytes = no_bytes } in
    record {
      answered = answers_view Rust xs (default m) g ∙ sym (rxs_is xs (default m) f y);
      left = ap seen (run_view Rust xs (default m) g) ∙ ap seen_of (sym (ran_is xs (default m) f y));
    }
