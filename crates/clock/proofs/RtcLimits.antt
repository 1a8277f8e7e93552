-- Within the limits the RTC's ticks are exact and below 2 ^ 63; and the chip stays within them, and does not go back.
use Rattle.std.proofs.Common.{◌≡◌, ℕ, zero, suc, ◌+◌, ◌-◌, ◌*◌, ◌/◌, ◌%◌, ◌^◌, ◌<◌, ◌≤◌, false, cond, ◌&&◌, T, eqb}
use Rattle.std.proofs.Common.{leb, List, [], ◌∷◌, length, get_or, set, replicate, pos, sym, ap, ◌∙◌, le_trans}
use Rattle.std.proofs.Common.{le_of_eq, lt_of_lt_of_le, lt_of_le_of_lt, mod-lt, mod-eq_of_lt, arith, lit<, lit≤}
use Rattle.std.proofs.Common.{length-set}
use lib.Bits.{bit_and, and_le_r}
use lib.ListN.{length-replicate}
use lib.Ieee.{Float, fin, binary64, of_bits, sub, mul, le, to_unsigned}
use Rattle.whole.specs.Bounds.{AtMost, WholePart}
use Rattle.whole.specs.Cut.{twos}
use Rattle.whole.specs.Words.{has}
use Rattle.whole.proofs.Clear.{at_most_clear}
use Rattle.whole.proofs.Words.{either}
use Rattle.whole.proofs.Cuts.{whole_part, signed_same}
use Rattle.whole.proofs.Round.{mul_at_most, sub_at_most, cut_at_most}
use Rattle.whole.proofs.Mono.{sub_mono, mul_mono, cut_mono}
use Rattle.clock.specs.declared.Latch.{Latch}
use Rattle.clock.specs.declared.Rtc.{Rtc}
use Rattle.clock.specs.Rtc.{ticks_of, six_bytes, fresh_rtc, latched_of, output_of, put_of, asked_of, commanded_of}
use Rattle.clock.specs.Within.{Past, Latched}
use Rattle.clock.proofs.TimeLimits.{past_later, past_now, past_start}

-- ---- the RTC's ticks
-- 32768.0 is 2 ^ 15
abbrev passed : Latch → Float → Float
passed latch game = mul binary64 (sub binary64 game latch.since) (of_bits binary64 0x40E0_0000_0000_0000)

module _ (latch : Latch) (game : Float) (p : Past latch.since game) (g : AtMost game (2 ^ 31)) where
  gone : AtMost (sub binary64 game latch.since) (2 ^ 31)
  gone = sub_at_most game latch.since (2 ^ 31) 31 (lit< tt) g p.limit p.before

  pub passed_limit : AtMost (passed latch game) (2 ^ 46)
  unfolding of_bits
  passed_limit = mul_at_most (sub binary64 game latch.since) (fin false 1 (pos 15)) 31 15 (lit< tt) gone (lit≤ tt)

  -- THE CUT IS EXACT, and the ticks stay below 2 ^ 63
  pub passed_exact : WholePart (passed latch game) (to_unsigned 64 (passed latch game))
  passed_exact = whole_part (passed latch game) (2 ^ 46) (lit< tt) passed_limit

  passed_small : to_unsigned 64 (passed latch game) ≤ 2 ^ 46
  passed_small = cut_at_most (passed latch game) (2 ^ 46) passed_limit

  sum_limit : latch.base < 2 ^ 48 → latch.base + to_unsigned 64 (passed latch game) < 2 ^ 63
  sum_limit b = small latch.base (to_unsigned 64 (passed latch game)) b passed_small
    where
      small : (a n : ℕ) → a < 2 ^ 48 → n ≤ 2 ^ 46 → a + n < 2 ^ 63
      small a n h k = omega arith

  pub ticks_exact : latch.base < 2 ^ 48 → ticks_of latch game ≡ latch.base + to_unsigned 64 (passed latch game)
  unfolding ticks_of
  ticks_exact b =
      ap (λ (z : ℕ). (latch.base + z) % 2 ^ 64) (ap twos (signed_same (passed latch game) 46 (lit< tt) passed_limit))
      ∙ mod-eq_of_lt (lt_of_lt_of_le (sum_limit b) (lit≤ tt))

  pub ticks_limit : latch.base < 2 ^ 48 → ticks_of latch game < 2 ^ 63
  ticks_limit b = lt_of_le_of_lt (le_of_eq (ticks_exact b)) (sum_limit b)

pub ticks_go_on : (latch : Latch) (game later : Float) → latch.base < 2 ^ 48 → Past latch.since game
    → AtMost game (2 ^ 31)
    → AtMost later (2 ^ 31) → T (le game later)
    → ticks_of latch game ≤ ticks_of latch later
unfolding of_bits
ticks_go_on latch game later b p g k l =
    let q : Past latch.since later = past_later latch.since game later g k l p in
    let x = sub binary64 game latch.since in
    let y = sub binary64 later latch.since in
    let more : T (le (passed latch game) (passed latch later)) =
    mul_mono x y (fin false 1 (pos 15)) (at_most_clear x (2 ^ 31) (gone latch game p g))
    (at_most_clear y (2 ^ 31) (gone latch later q k)) tt
    (sub_mono game later latch.since (at_most_clear game (2 ^ 31) g) (at_most_clear later (2 ^ 31) k)
    (at_most_clear latch.since (2 ^ 31) p.limit) l p.before q.before)
    in
    let fewer : to_unsigned 64 (passed latch game) ≤ to_unsigned 64 (passed latch later) =
    cut_mono (passed latch game) (passed latch later) (at_most_clear (passed latch game) (2 ^ 46)
    (passed_limit latch game p g))
    (at_most_clear (passed latch later) (2 ^ 46) (passed_limit latch later q k)) more
    in
    le_trans (le_of_eq (ticks_exact latch game p g b))
    (le_trans (add latch.base fewer) (le_of_eq (sym (ticks_exact latch later q k b))))
  where
    add : (a : ℕ) {m n : ℕ} → m ≤ n → a + m ≤ a + n
    add a h = omega arith

-- ---- the RTC stays within the limits
set_byte : (l : List ℕ) (at b : ℕ) → b < 2 ^ 8 → ((i : ℕ) → get_or l i 0 < 2 ^ 8) → (i : ℕ)
    → get_or (set l at b) i 0 < 2 ^ 8
set_byte [] at b h k i = k i
set_byte (x ∷ l) zero b h k zero = h
set_byte (x ∷ l) zero b h k (suc i) = k (suc i)
set_byte (x ∷ l) (suc at) b h k zero = k zero
set_byte (x ∷ l) (suc at) b h k (suc i) = set_byte l at b h (λ j. k (suc j)) i

six_limit : (regs : List ℕ) (from : ℕ) → ((i : ℕ) → get_or regs i 0 < 2 ^ 8) → six_bytes regs from < 2 ^ 48
unfolding six_bytes
six_limit regs from h = joined (h from) (h (from + 1)) (h (from + 2)) (h (from + 3)) (h (from + 4)) (h (from + 5))
  where
    joined : {a b c d e f : ℕ} → a < 2 ^ 8 → b < 2 ^ 8 → c < 2 ^ 8 → d < 2 ^ 8 → e < 2 ^ 8 → f < 2 ^ 8
        → a + b * 2 ^ 8 + c * 2 ^ 16 + d * 2 ^ 24 + e * 2 ^ 32 + f * 2 ^ 40 < 2 ^ 48
    joined p q r s t u = omega arith

-- what is put out is a byte
output_limit : (latch : Latch) (regs : List ℕ) (game : Float) (at : ℕ) → ((i : ℕ) → get_or regs i 0 < 2 ^ 8)
    → output_of latch regs game at < 2 ^ 8
unfolding output_of
output_limit latch regs game at h =
    either Byte (leb 0x30 at && leb at 0x35) _ _ (masked (ticks_of latch game / 2 ^ (8 * (at - 0x30))) 0xFF (lit< tt))
    (either Byte (eqb at 0) _ _ (masked (get_or regs 0 0) 0xEF (lit< tt)) (h at))
  where
    Byte : ℕ → Type 0
    Byte n = n < 2 ^ 8

    masked : (n mask : ℕ) → mask < 2 ^ 8 → Byte (bit_and n mask)
    masked n mask l = lt_of_le_of_lt (and_le_r n mask) l

-- A COMMAND KEEPS THEM
pub commands_latched : (rtc : Rtc) (game : Float) (address word cmd : ℕ) → Latched rtc.regs rtc.latch game
    → AtMost game (2 ^ 31)
    → Latched (commanded_of rtc game address word cmd).regs (commanded_of rtc game address word cmd).latch game
unfolding commanded_of
commands_latched rtc game address word cmd h g =
    either In (has cmd 1) (put_of rtc game at byte) (cond (has cmd 2) (asked_of rtc game at) rtc) put
    (either In (has cmd 2) (asked_of rtc game at) rtc
    (record {
      size = h.size;
      bytes = h.bytes;
      base = h.base;
      since = h.since;
      out = output_limit rtc.latch rtc.regs game at h.bytes;
    }) h)
  where
    In : Rtc → Type 0
    In r = Latched r.regs r.latch game

    at : ℕ
    at = address % 256

    byte : ℕ
    byte = word % 256

    bytes : (i : ℕ) → get_or (set rtc.regs at byte) i 0 < 2 ^ 8
    bytes = set_byte rtc.regs at byte (mod-lt word (lit< tt)) h.bytes

    size : length (set rtc.regs at byte) ≡ 256
    size = length-set rtc.regs at byte ∙ h.size

    put : In (put_of rtc game at byte)
    put =
        either (λ (l : Latch). Latched (set rtc.regs at byte) l game) (eqb at 0x15)
        (latched_of rtc.latch (set rtc.regs at byte) game) rtc.latch
        (record {
          size = size;
          bytes = bytes;
          base = six_limit (set rtc.regs at byte) 0x10 bytes;
          since = past_now game g;
          out = h.out;
        })
        (record { size = size; bytes = bytes; base = h.base; since = h.since; out = h.out })

pub later_latched : (regs : List ℕ) (latch : Latch) (game later : Float) → AtMost game (2 ^ 31)
    → AtMost later (2 ^ 31) → T (le game later)
    → Latched regs latch game → Latched regs latch later
later_latched regs latch game later g k l h = record {
  size = h.size;
  bytes = h.bytes;
  base = h.base;
  since = past_later latch.since game later g k l h.since;
  out = h.out;
}

pub fresh_latched : (game : Float) → AtMost game (2 ^ 31) → Latched fresh_rtc.regs fresh_rtc.latch game
unfolding fresh_rtc
fresh_latched game g = record {
  size = length-replicate {A = ℕ} 256 0;
  bytes = zeros 256;
  base = lit< tt;
  since = past_start game g;
  out = lit< tt;
}
  where
    zeros : (n i : ℕ) → get_or (replicate n 0) i 0 < 2 ^ 8
    zeros zero i = lit< tt
    zeros (suc n) zero = lit< tt
    zeros (suc n) (suc i) = zeros n i
