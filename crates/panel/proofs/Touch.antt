-- What one pixel does to each byte of the framebuffer.
use Rattle.std.proofs.Common.{◌≡◌, ℕ, ◌+◌, ◌/◌, ◌%◌, ◌<◌, ◌≤◌, List, length, get_or, set, sym, ap, ◌∙◌, arith}
use Rattle.std.proofs.Common.{length-set, get_or-set_other, get_or-set_same}
use lib.ListN.{get_or-eq_default}
use native.Mathlib.Decide.{dec_lt, ℕ_discrete}
use Rattle.panel.specs.Lcd.{put, spot}
use Rattle.panel.proofs.Cases.{put_on, put_right, put_below}

-- the column and the row of the pixel that byte k is part of
abbrev pub col : ℕ → ℕ
col k = k / 2 % 128

abbrev pub row : ℕ → ℕ
row k = k / 256

-- a store at one place of two lists of one length makes them agree there
set_agrees : (fb gb : List ℕ) (i a : ℕ) → length fb ≡ length gb → get_or (set fb i a) i 0 ≡ get_or (set gb i a) i 0
set_agrees fb gb i a e = go (dec_lt i (length fb))
  where
    go : Dec (i < length fb) → get_or (set fb i a) i 0 ≡ get_or (set gb i a) i 0
    go (yes h) = get_or-set_same fb i a 0 h ∙ sym (get_or-set_same gb i a 0 (omega arith))
    go (no n) =
        get_or-eq_default (set fb i a) 0 {n = i} (rw length-set (omega arith))
        ∙ sym (get_or-eq_default (set gb i a) 0 {n = i} (rw length-set (omega arith)))

pub put_length : (fb : List ℕ) (x y h b : ℕ) → length (put fb x y h b) ≡ length fb
put_length fb x y h b = go (dec_lt x 128) (dec_lt y 128)
  where
    go : Dec (x < 128) → Dec (y < 128) → length (put fb x y h b) ≡ length fb
    go (yes p) (yes q) = rw (put_on fb x y h b p q) (simp length-set)
    go (yes p) (no q) = ap length (put_below fb x y h b p (omega arith))
    go (no p) q = ap length (put_right fb x y h b (omega arith))

-- a pixel writes byte k, whatever stood there, or leaves it
pub data Touch (x y k : ℕ) : Type 0 where
  hit : row k ≡ y → col k ≡ x → y < 128
      → ((fb gb : List ℕ) (h b : ℕ) → length fb ≡ length gb → get_or (put fb x y h b) k 0 ≡ get_or (put gb x y h b) k 0)
      → Touch x y k
  miss : ((fb : List ℕ) (h b : ℕ) → get_or (put fb x y h b) k 0 ≡ get_or fb k 0)
      → (row k ≡ y → row k < 128 → x ≤ col k → x + 1 ≤ col k) → Touch x y k

pub touch : (x y k : ℕ) → Touch x y k
touch x y k = go (dec_lt x 128) (dec_lt y 128) (ℕ_discrete k (spot x y)) (ℕ_discrete k (spot x y + 1))
  where
    go : Dec (x < 128) → Dec (y < 128) → Dec (k ≡ spot x y) → Dec (k ≡ spot x y + 1) → Touch x y k
    go (no p) q a b = miss (λ fb h b. ap (λ l. get_or l k 0) (put_right fb x y h b (omega arith))) (omega arith)
    go (yes p) (no q) a b = miss (λ fb h b. ap (λ l. get_or l k 0) (put_below fb x y h b p (omega arith))) (omega arith)
    go (yes p) (yes q) (yes a) b =
        hit (omega arith) (omega arith) q (λ fb gb h l e. rw (put_on fb x y h l p q, put_on gb x y h l p q)
        (get_or-set_other (set fb (spot x y) l) (spot x y + 1) k h 0 (omega arith)
        ∙ rw a (set_agrees fb gb (spot x y) l e)
        ∙ sym (get_or-set_other (set gb (spot x y) l) (spot x y + 1) k h 0 (omega arith))))
    go (yes p) (yes q) (no a) (yes b) =
        hit (omega arith) (omega arith) q (λ fb gb h l e. rw (put_on fb x y h l p q, put_on gb x y h l p q)
        (rw b (set_agrees (set fb (spot x y) l) (set gb (spot x y) l) (spot x y + 1) h (simp length-set e))))
    go (yes p) (yes q) (no a) (no b) =
        miss (λ fb h l. rw (put_on fb x y h l p q)
        (get_or-set_other (set fb (spot x y) l) (spot x y + 1) k h 0 b ∙ get_or-set_other fb (spot x y) k l 0 a))
        (omega arith)
