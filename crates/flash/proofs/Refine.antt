-- The compact state refines the list of bytes: what a step does to the list, the chip does to the list's compact state;
-- and a position that goes round answers and acts as the length does.
use Rattle.std.proofs.Common.{◌≡◌, ℕ, zero, suc, ◌+◌, ◌-◌, ◌%◌, ◌<◌, ◌≤◌, Bool, true, false, eqb, ltb, List, []}
use Rattle.std.proofs.Common.{◌∷◌, ◌++◌, length, get_or, take, drop, set, sym, refl, ap, ◌∙◌, ap₂, not-suc-le-zero}
use Rattle.std.proofs.Common.{le_of_lt, mod-lt, arith, length-append, length-drop, drop_of_length-le}
use Rattle.std.proofs.Common.{length-take-le, get_or-take, le-ltb, lt-ltb, eq-eqb, ne_eqb}
use native.Mathlib.Nat.{mod-add-mod, add-mod-mod, mod_self}
use lib.ListN.{get_or-append}
use lib.ListN.{get_or-eq_default}
use lib.Seq.{drop-append-le, get_or-append_seam}
use lib.Bits.{bit_and}
use Rattle.whole.proofs.Choice.{by_less}
use Rattle.flash.specs.Pick.{pick}
use Rattle.flash.specs.Board.{Sized, board}
use Rattle.flash.specs.Buf.{blank, slot, gathered, pushed, addr_of}
use Rattle.flash.specs.Xfer.{jedec, maker_of, read_of, kind_of, reply_to, answer_of}
use Rattle.flash.specs.Finish.{order_of, guard_of, act_of, array_after, wel_after, writes_after}
use Rattle.flash.specs.Flash.{select_board, replied, sent_board}
use Rattle.flash.specs.Steps.{cs, byte}
use Rattle.flash.specs.Rust.{Sys}
use Rattle.flash.proofs.Whole.{at, trans_at, place, exact_trans, rounded_trans, ands_from, page_of, compact_board}
use Rattle.flash.proofs.Whole.{list_after}
use Rattle.flash.specs.declared.Mode.{Mode}
use Rattle.flash.specs.declared.Kind.{Kind}
use Rattle.flash.specs.declared.Kind.TheVariants.{Identity, Maker, Device, Status, Zero, Read, FastRead, Unique}
use Rattle.flash.specs.declared.Kind.TheVariants.{Other}
use Rattle.flash.specs.declared.Act.{Act}
use Rattle.flash.specs.declared.Act.TheVariants.{Nothing, Enable, Disable, Program, Erase, EraseAll}
use Rattle.flash.specs.declared.Chip.{Chip}
use Rattle.flash.specs.declared.Trans.{Trans}
use Rattle.flash.proofs.Long.{act_long}
use Rattle.flash.proofs.Laws.{size_2, size_256}
use Rattle.flash.proofs.Place.{eqb_place, ltb_place, leb_place, long_place, next_place, far_place}

-- ---- one more byte
length_snoc : (b : List ℕ) (x : ℕ) → length (b ++ x ∷ []) ≡ length b + 1
length_snoc b x = length-append b (x ∷ [])

at_snoc : (b : List ℕ) (x k : ℕ) → pick (eqb (length b) k) x (at b k) ≡ at (b ++ x ∷ []) k
at_snoc b x k =
    by_less k (length b)
    (λ l. rw (ne_eqb (length b) k (λ e. omega arith)) (sym (get_or-append b (x ∷ []) 0 k l)))
    (λ l. by_less (length b) k
    (λ h. rw (ne_eqb (length b) k (λ e. omega arith))
    (get_or-eq_default b 0 l ∙ sym (get_or-eq_default (b ++ x ∷ []) 0 (rw length_snoc (omega arith)))))
    (λ h. let e : k ≡ length b = omega arith in rw (e, eq-eqb (length b) (length b) refl)
    (sym (get_or-append_seam b x [] 0))))

first_snoc : (n : ℕ) (b : List ℕ) (x k : ℕ) → k < 5 → pick (eqb (place n (length b)) k) x (at b k) ≡ at (b ++ x ∷ []) k
first_snoc n b x k h = rw (eqb_place n (length b) k h) (at_snoc b x k)

-- the byte at position k of a page's bytes goes to its place in the page
one_on : (a k : ℕ) → a + 1 + k ≡ a + suc k
one_on a k = omega arith

ands_snoc : (bs : List ℕ) (p : List ℕ) (off x : ℕ) → off < 256
    → ands_from p off (bs ++ x ∷ []) ≡ set (ands_from p off bs) ((off + length bs) % 256)
    (bit_and (get_or (ands_from p off bs) ((off + length bs) % 256) 0) x)
ands_snoc [] p off x h = let e : (off + 0) % 256 ≡ off = omega arith in rw e
ands_snoc (b ∷ bs) p off x h =
    let q : List ℕ = set p off (bit_and (get_or p off 0) b) in
    let e : ((off + 1) % 256 + length bs) % 256 ≡ (off + suc (length bs)) % 256 = mod-add-mod (off + 1) 256 (length bs)
    ∙ ap (◌% 256) (one_on off (length bs)) in
    ands_snoc bs q ((off + 1) % 256) x (mod-lt (off + 1) (omega arith))
    ∙ ap (λ (k : ℕ). set (ands_from q ((off + 1) % 256) bs) k
    (bit_and (get_or (ands_from q ((off + 1) % 256) bs) k 0) x)) e

slot_is : (n : ℕ) (b : List ℕ) → Sized n → 4 ≤ length b → slot (rounded_trans n b)
    ≡ (at b 3 % 256 + length (drop 4 b)) % 256
slot_is n b s h =
    ap (λ (k : ℕ). (at b 3 + k) % 256) (far_place 256 n (length b) 4 (size_256 n s) (omega arith) h)
    ∙ add-mod-mod (at b 3) (length b - 4) 256
    ∙ sym (mod-add-mod (at b 3) 256 (length b - 4))
    ∙ ap (λ (k : ℕ). (at b 3 % 256 + k) % 256) (sym (length-drop 4 b))

short : (b : List ℕ) (x : ℕ) → length b < 4 → length (b ++ x ∷ []) ≤ 4
short b x l = rw length_snoc (omega arith)

page_more : (n : ℕ) (b : List ℕ) (x : ℕ) → Sized n → 4 ≤ length b
    → set (ands_from blank (at b 3 % 256) (drop 4 b)) (slot (rounded_trans n b))
    (bit_and (get_or (ands_from blank (at b 3 % 256) (drop 4 b)) (slot (rounded_trans n b)) 0) x)
    ≡ page_of (b ++ x ∷ [])
page_more n b x s l =
    ap (λ (k : ℕ). set (ands_from blank (at b 3 % 256) (drop 4 b)) k
    (bit_and (get_or (ands_from blank (at b 3 % 256) (drop 4 b)) k 0) x)) (slot_is n b s l)
    ∙ sym (ands_snoc (drop 4 b) blank (at b 3 % 256) x (mod-lt (at b 3) (omega arith)))
    ∙ ap₂ (λ (k : ℕ) (r : List ℕ). ands_from blank (k % 256) r) (sym (get_or-append b (x ∷ []) 0 3 l))
    (sym (drop-append-le 4 b (x ∷ []) l))

page_snoc : (n : ℕ) (b : List ℕ) (x : ℕ) → Sized n → gathered (rounded_trans n b) (page_of b) x ≡ page_of (b ++ x ∷ [])
unfolding gathered
page_snoc n b x s =
    by_less (length b) 4
    (λ l. rw (ltb_place n (length b) 4 (omega arith), lt-ltb (length b) 4 l)
    (rw (drop_of_length-le b (le_of_lt l), drop_of_length-le (b ++ x ∷ []) (short b x l))))
    (λ l. rw (ltb_place n (length b) 4 (omega arith), le-ltb (length b) 4 l) (page_more n b x s l))

trans_is : {c c' a a' d d' f f' p p' : ℕ} {l l' : Bool} → c ≡ c' → a ≡ a' → d ≡ d' → f ≡ f' → p ≡ p' → l ≡ l'
    → ◌≡◌ {A = Trans} (record { cmd = c; a1 = a; a2 = d; a3 = f; pos = p; long = l })
    (record { cmd = c'; a1 = a'; a2 = d'; a3 = f'; pos = p'; long = l' })
trans_is h1 h2 h3 h4 h5 h6 = rw (h1, h2, h3, h4, h5, h6)

push_view : (n : ℕ) (b : List ℕ) (x : ℕ) → Sized n → pushed (rounded_trans n b) n x ≡ rounded_trans n (b ++ x ∷ [])
push_view n b x s =
    trans_is
    (first_snoc n b x 0 (omega arith))
    (first_snoc n b x 1 (omega arith))
    (first_snoc n b x 2 (omega arith))
    (first_snoc n b x 3 (omega arith))
    (next_place n (length b) s ∙ ap (place n) (sym (length_snoc b x)))
    (long_place n (length b) s ∙ ap (ltb 260) (sym (length_snoc b x)))

-- ---- a byte, a select, a deselect
abbrev sys : Bool → List ℕ → ℕ → Bool → ℕ → List ℕ → Sys
sys c b r w n m = record { cs = c; buf = b; rx = r; wel = w; writes = n; ram = m }

abbrev chip : Mode → Bool → Bool → ℕ → ℕ → Trans → Chip
chip e c w n r t = record { mode = e; cs = c; wel = w; writes = n; rx = r; tx = t }

pub byte_view : (e : Mode) (s : Sys) (x : ℕ) → Sized (length s.ram) → sent_board (compact_board e s) x
    ≡ compact_board e (list_after e s (byte x))
byte_view e s x z =
    ap₂ (λ (t : Trans) (p : List ℕ). board (chip e s.cs s.wel s.writes (replied (compact_board e s)) t) p
    s.ram)
    (push_view (length s.ram) s.buf x z)
    (page_snoc (length s.ram) s.buf x z)

pub on_view : (e : Mode) (s : Sys) → select_board (compact_board e s) true ≡ compact_board e (list_after e s (cs true))
on_view e s = go s.cs s.buf s.rx s.wel s.writes s.ram
  where
    go : (c : Bool) (b : List ℕ) (r : ℕ) (w : Bool) (n : ℕ) (m : List ℕ)
        → select_board (compact_board e (sys c b r w n m)) true ≡ compact_board e
        (list_after e (sys c b r w n m) (cs true))
    go true b r w n m = refl
    go false b r w n m = refl

pub off_view : (e : Mode) (s : Sys) → Sized (length s.ram) → select_board (compact_board e s) false
    ≡ compact_board e (list_after e s (cs false))
off_view e s = go s.cs s.buf s.rx s.wel s.writes s.ram
  where
    go : (c : Bool) (b : List ℕ) (r : ℕ) (w : Bool) (n : ℕ) (m : List ℕ) → Sized (length m)
        → select_board (compact_board e (sys c b r w n m)) false
        ≡ compact_board e (list_after e (sys c b r w n m) (cs false))
    go true b r w n m z =
        let t : Trans = rounded_trans (length m) b in
        let a : Act = act_of e w t in
        let l : List ℕ = array_after a t (page_of b) m in
        ap (λ (k : ℕ). board (chip e false (wel_after a w) (writes_after a n) r (rounded_trans k b)) (page_of b) l)
        (sym (act_long a t (page_of b) m z))
    go false b r w n m z = refl

-- ---- the position as the length
jedec_place : (n i : ℕ) → jedec (place n i) ≡ jedec i
jedec_place n i = rw (eqb_place n i 1 (omega arith), eqb_place n i 2 (omega arith), eqb_place n i 3 (omega arith))

-- a test of the position picks as the test of the length does
ltb_pick : (n i c : ℕ) {u v : ℕ} → c ≤ 5 → (c ≤ i → u ≡ v) → pick (ltb (place n i) c) 0xFF u ≡ pick (ltb i c) 0xFF v
ltb_pick n i c {u} {v} h f =
    ap (λ (t : Bool). pick t 0xFF u) (ltb_place n i c h)
    ∙ by_less i c (λ l. rw (lt-ltb i c l)) (λ l. rw (le-ltb i c l) (f l))

read_exact : (c : ℕ) (b m : List ℕ) → c ≤ 5 → c ≤ length b
    → read_of (rounded_trans (length m) b) (place (length m) (length b) - c) m ≡ read_of (exact_trans b)
    (length b - c) m
unfolding read_of
read_exact c b m f l =
    ap (λ (k : ℕ). get_or m ((addr_of (exact_trans b) (length m) + k) % length m) 0)
    (far_place (length m) (length m) (length b) c (mod_self (length m)) f l)

maker_exact : (e : Mode) (a n k : ℕ) → Sized n → 4 ≤ k → maker_of e a (place n k) ≡ maker_of e a k
maker_exact e a n k s l = rw (far_place 2 n k 4 (size_2 n s) (omega arith) l)

reply_exact : (k : Kind) (e : Mode) (w : Bool) (b m : List ℕ) → Sized (length m)
    → reply_to k e w (rounded_trans (length m) b) m ≡ reply_to k e w (exact_trans b) m
reply_exact Identity e w b m s = jedec_place (length m) (length b)
reply_exact Maker e w b m s =
    ltb_pick (length m) (length b) 4 (omega arith) (λ h. maker_exact e (at b 3) (length m) (length b) s h)
reply_exact Device e w b m s = ltb_pick (length m) (length b) 4 (omega arith) (λ h. refl)
reply_exact Status e w b m s = refl
reply_exact Zero e w b m s = refl
reply_exact Read e w b m s = ltb_pick (length m) (length b) 4 (omega arith) (λ h. read_exact 4 b m (omega arith) h)
reply_exact FastRead e w b m s = ltb_pick (length m) (length b) 5 (omega arith) (λ h. read_exact 5 b m (omega arith) h)
reply_exact Unique e w b m s = ltb_pick (length m) (length b) 5 (omega arith) (λ h. refl)
reply_exact Other e w b m s = refl

pub answer_exact : (e : Mode) (w : Bool) (b m : List ℕ) → Sized (length m) → answer_of e w
    (rounded_trans (length m) b) m
    ≡ answer_of e w (exact_trans b) m
unfolding answer_of
answer_exact e w b m s =
    ap₂ (λ (t : Bool) (r : ℕ). pick t 0xFF r) (eqb_place (length m) (length b) 0 (omega arith))
    (reply_exact (kind_of (at b 0)) e w b m s)

guard_exact : (a : Act) (e : Mode) (w : Bool) (n : ℕ) (b : List ℕ) → guard_of a e w (rounded_trans n b)
    ≡ guard_of a e w (exact_trans b)
guard_exact Nothing e w n b = refl
guard_exact Enable e w n b = refl
guard_exact Disable e w n b = refl
guard_exact Program e w n b = rw (leb_place n (length b) 5 (omega arith))
guard_exact (Erase k) e w n b = rw (leb_place n (length b) 4 (omega arith), eqb_place n (length b) 4 (omega arith))
guard_exact EraseAll e w n b = rw (eqb_place n (length b) 1 (omega arith))

pub act_exact : (e : Mode) (w : Bool) (n : ℕ) (b : List ℕ) → act_of e w (rounded_trans n b) ≡ act_of e w (exact_trans b)
unfolding act_of
act_exact e w n b = rw (eqb_place n (length b) 0 (omega arith), guard_exact (order_of (at b 0)) e w n b)

-- ---- an answer looks at those bytes of the header alone that are in, so the rest of the list may be there as well
past : (i c : ℕ) {u v : ℕ} → (c ≤ i → u ≡ v) → pick (ltb i c) 0xFF u ≡ pick (ltb i c) 0xFF v
past i c f = by_less i c (λ l. rw (lt-ltb i c l)) (λ l. rw (le-ltb i c l) (f l))

read_ahead : (b m : List ℕ) (i far : ℕ) (l : Bool) → 4 ≤ i
    → read_of (record {
      cmd = at (take i b) 0;
      a1 = at (take i b) 1;
      a2 = at (take i b) 2;
      a3 = at (take i b) 3;
      pos = i;
      long = l;
    }) far m ≡ read_of (trans_at b i) far m
unfolding read_of
read_ahead b m i far l h = rw (
  get_or-take i b 1 0 (omega arith),
  get_or-take i b 2 0 (omega arith),
  get_or-take i b
      3 0 h,
)

reply_ahead : (k : Kind) (e : Mode) (w : Bool) (b m : List ℕ) (i : ℕ) → i ≤ length b
    → reply_to k e w (exact_trans (take i b)) m ≡ reply_to k e w (trans_at b i) m
reply_ahead Identity e w b m i l = rw (length-take-le i b l)
reply_ahead Maker e w b m i l = rw (length-take-le i b l) (past i 4 (λ h. rw (get_or-take i b 3 0 h)))
reply_ahead Device e w b m i l = rw (length-take-le i b l)
reply_ahead Status e w b m i l = refl
reply_ahead Zero e w b m i l = refl
reply_ahead Read e w b m i l = rw (length-take-le i b l) (past i 4 (λ h. read_ahead b m i (i - 4) _ h))
reply_ahead FastRead e w b m i l = rw (length-take-le i b l) (past i 5 (λ h. read_ahead b m i (i - 5) _ (omega arith)))
reply_ahead Unique e w b m i l = rw (length-take-le i b l)
reply_ahead Other e w b m i l = refl

pub answer_ahead : (e : Mode) (w : Bool) (b m : List ℕ) (i : ℕ) → i ≤ length b → answer_of e w
    (exact_trans (take i b)) m
    ≡ answer_of e w (trans_at b i) m
unfolding answer_of
answer_ahead e w b m zero l = refl
answer_ahead e w [] m (suc i) l = absurd (not-suc-le-zero l)
answer_ahead e w (c ∷ b) m (suc i) l =
    ap₂ (λ (t : Bool) (r : ℕ). pick t 0xFF r) (ap (λ (k : ℕ). eqb k 0) (length-take-le (suc i) (c ∷ b) l))
    (reply_ahead (kind_of c) e w (c ∷ b) m (suc i) l)
