-- A program byte by byte into the array is the page's running AND, ANDed in at the end.
use Rattle.std.proofs.Common.{◌≡◌, ℕ, zero, suc, ◌+◌, ◌*◌, ◌/◌, ◌%◌, ◌<◌, ◌≤◌, min, List, [], ◌∷◌, ◌++◌}
use Rattle.std.proofs.Common.{length, get_or, take, drop, set, replicate, sym, refl, ap, ◌∙◌, ap₂, mod-lt}
use Rattle.std.proofs.Common.{mod-eq_of_lt, arith, length-set, take-append-drop, length-take, get_or-drop}
use Rattle.std.proofs.Common.{get_or-take, drop-drop, drop-set-lt}
use lib.Arith.{bin_ind}
use lib.ListN.{get_or-eq_default}
use lib.Seq.{take-set-le, drop-set-add, take-set-lt}
use lib.Bits.{bit_and, and_step, and_shr, and_mask}
use Rattle.whole.proofs.Choice.{by_less}
use Rattle.flash.specs.Run.{Bytes}
use Rattle.flash.specs.Buf.{blank}
use Rattle.flash.specs.Finish.{ands, patch}
use Rattle.flash.specs.Rust.{program_loop}
use Rattle.flash.proofs.Whole.{ands_from}
use Rattle.flash.proofs.Laws.{part_long, not_empty}

-- ---- AND
and_low : (a b : ℕ) → bit_and a b % 2 ≡ min (a % 2) (b % 2)
and_low a b = rw (and_step a b) (low (bit_and (a / 2) (b / 2)) (a % 2) (b % 2) (mod-lt a (omega arith)))
  where
    low : (x y z : ℕ) → y < 2 → (x * 2 + min y z) % 2 ≡ min y z
    low x y z h = omega arith

min_assoc : (a b c : ℕ) → min (min a b) c ≡ min a (min b c)
min_assoc a b c = omega arith

pub and_assoc : (a b c : ℕ) → bit_and (bit_and a b) c ≡ bit_and a (bit_and b c)
and_assoc a b c =
    bin_ind (λ (n : ℕ). (b c : ℕ) → bit_and (bit_and n b) c ≡ bit_and n (bit_and b c)) (λ b c. refl) step a b c
  where
    step : (n : ℕ) → ((b c : ℕ) → bit_and (bit_and (n / 2) b) c ≡ bit_and (n / 2) (bit_and b c)) → (b c : ℕ)
        → bit_and (bit_and n b) c ≡ bit_and n (bit_and b c)
    step n ih b c =
        and_step (bit_and n b) c
        ∙ ap₂ (λ (x y : ℕ). x * 2 + y)
        (ap (λ (x : ℕ). bit_and x (c / 2)) (and_shr n b 1) ∙ ih (b / 2) (c / 2)
        ∙ ap (bit_and (n / 2)) (sym (and_shr b c 1)))
        (ap (λ (x : ℕ). min x (c % 2)) (and_low n b) ∙ min_assoc (n % 2) (b % 2) (c % 2)
        ∙ ap (min (n % 2)) (sym (and_low b c)))
        ∙ sym (and_step n (bit_and b c))

-- ---- the running AND
set_ands : (q p : List ℕ) (k b : ℕ) → length q ≡ length p → set (ands q p) k (bit_and (get_or (ands q p) k 0) b)
    ≡ ands q (set p k (bit_and (get_or p k 0) b))
set_ands [] p k b h = refl
set_ands (x ∷ q) [] k b h = absurd (not_empty h)
set_ands (x ∷ q) (y ∷ p) zero b h = ap (λ (z : ℕ). z ∷ ands q p) (and_assoc x y b)
set_ands (x ∷ q) (y ∷ p) (suc k) b h = ap (λ (r : List ℕ). bit_and x y ∷ r) (set_ands q p k b (omega arith))

ands_from_lem : (bs : List ℕ) (q p : List ℕ) (off : ℕ) → length q ≡ length p
    → ands_from (ands q p) off bs ≡ ands q (ands_from p off bs)
ands_from_lem [] q p off h = refl
ands_from_lem (b ∷ bs) q p off h =
    ap (λ (r : List ℕ). ands_from r ((off + 1) % 256) bs) (set_ands q p off b h)
    ∙ ands_from_lem bs q (set p off (bit_and (get_or p off 0) b)) ((off + 1) % 256)
    (h ∙ sym (length-set p off (bit_and (get_or p off 0) b)))

ands_full : (n : ℕ) (q : List ℕ) → length q ≡ n → Bytes q → ands q (replicate n 0xFF) ≡ q
ands_full n [] e h = refl
ands_full zero (x ∷ q) e h = absurd (not_empty e)
ands_full (suc n) (x ∷ q) e h =
    ap₂ (λ (y : ℕ) (r : List ℕ). y ∷ r) (and_mask x 8 ∙ mod-eq_of_lt (h 0))
    (ands_full n q (omega arith) (λ k. h (suc k)))

-- ---- the program
part_bytes : (m : List ℕ) (a n : ℕ) → Bytes m → Bytes (take n (drop a m))
part_bytes m a n h k =
    by_less k n
    (λ l. rw (get_or-take n (drop a m) k 0 l, get_or-drop a m k 0) (h (a + k)))
    (λ l.
    let u : length (take n (drop a m)) ≤ k = rw length-take (omega arith) in
    rw (get_or-eq_default (take n (drop a m)) 0 u) (omega arith))

part_set : (m : List ℕ) (page off v : ℕ) → off < 256 → take 256 (drop page (set m (page + off) v))
    ≡ set (take 256 (drop page m)) off v
part_set m page off v h = ap (take 256) (drop-set-add page m off v) ∙ take-set-lt 256 (drop page m) off v h

patch_set : (m : List ℕ) (page off v : ℕ) (x : List ℕ) → off < 256 → patch (set m (page + off) v) page 256 x
    ≡ patch m page 256 x
patch_set m page off v x h =
    ap₂ (λ (f r : List ℕ). f ++ (x ++ r)) (take-set-le page m (page + off) v (omega arith))
    (drop-set-lt (page + 256) m (page + off) v (omega arith))

part_get : (m : List ℕ) (page off : ℕ) → off < 256 → get_or (take 256 (drop page m)) off 0 ≡ get_or m (page + off) 0
part_get m page off h = get_or-take 256 (drop page m) off 0 h ∙ get_or-drop page m off 0

program_parts : (bs m : List ℕ) (page off : ℕ) → page + 256 ≤ length m → off < 256
    → program_loop m page off bs ≡ patch m page 256 (ands_from (take 256 (drop page m)) off bs)
program_parts [] m page off l h =
    sym (ap (λ (r : List ℕ). take page m ++ (take 256 (drop page m) ++ r)) (sym (drop-drop 256 page m))
    ∙ ap (λ (r : List ℕ). take page m ++ r) (take-append-drop 256 (drop page m))
    ∙ take-append-drop page m)
program_parts (b ∷ bs) m page off l h =
    let v : ℕ = bit_and (get_or m (page + off) 0) b in
    let o : ℕ = (off + 1) % 256 in
    ap (λ (k : ℕ). program_loop (set m (page + off) v) page k bs) (and_mask (off + 1) 8)
    ∙ program_parts bs (set m (page + off) v) page o (rw (length-set m (page + off) v) l)
    (mod-lt (off + 1) (omega arith))
    ∙ patch_set m page off v (ands_from (take 256 (drop page (set m (page + off) v))) o bs) h
    ∙ ap (λ (q : List ℕ). patch m page 256 (ands_from q o bs))
    (part_set m page off v h ∙ ap (λ (u : ℕ). set (take 256 (drop page m)) off (bit_and u b))
    (sym (part_get m page off h)))

blank_full : (q : List ℕ) → length q ≡ 256 → Bytes q → ands q blank ≡ q
unfolding blank
blank_full q e h = ands_full 256 q e h

blank_long : length blank ≡ 256
unfolding blank
blank_long = refl

pub program_is : (bs m : List ℕ) (page off : ℕ) → page + 256 ≤ length m → off < 256 → Bytes m
    → program_loop m page off bs ≡ patch m page 256 (ands (take 256 (drop page m)) (ands_from blank off bs))
program_is bs m page off l h y =
    let q : List ℕ = take 256 (drop page m) in
    let e : length q ≡ 256 = part_long page 256 m l in
    program_parts bs m page off l h
    ∙ ap (patch m page 256)
    (ap (λ (r : List ℕ). ands_from r off bs) (sym (blank_full q e (part_bytes m page 256 y)))
    ∙ ands_from_lem bs q blank off (e ∙ sym blank_long))
