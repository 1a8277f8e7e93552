-- The later parts say every later word: two packed banks that make the same parts are one; and all parts put leave a
-- packed bank.
use Prim.Native.Nat.{ℕ}
use mathlib.Core.Path.{◌≡◌, refl, sym, ap, ◌∙◌}
use mathlib.Core.List.{List}
use lib.ListN.{length, get_or, replicate}
use lib.Ieee.{Float, binary64, of_bits}
use Rattle.state.specs.declared.Parts.{Parts}
use Rattle.state.specs.Each.{through}
use Rattle.state.specs.Parts.{none, flash_put, panel_put, times_put, timer_put, irq_put, vsync_put, converting_put}
use Rattle.state.specs.Parts.{latch_put, tone_put, off_put, ring_put, keys_put}
use Rattle.state.specs.Bank.{cell_count, float_count, mode_in, maybe_in, chip_in, panel_in, times_in, timer_in, irq_in}
use Rattle.state.specs.Bank.{latch_in, tone_in, ring_in, keys_in, parts_in}
use Rattle.state.specs.Packed.{mode_number, maybe_number, chip_cells, panel_cells, clock_cells, key_cells, times_floats}
use Rattle.state.specs.Packed.{cells_of, floats_of, Packed, StaysPacked, Answered}
use Rattle.state.proofs.Spread.{spread, spread_is}

-- what the words of a packed bank are
pub packed_words : {l : List ℕ} {f : List Float} (x : Parts) → Packed l f → parts_in l f ≡ x
    → (l ≡ cells_of x) × (f ≡ floats_of x) × (parts_in l f ≡ x)
packed_words x p e = (
  sym p.cells ∙ ap (λ (y : Parts). cells_of y) e,
  sym p.floats ∙ ap
      (λ (y : Parts). floats_of y) e,
  e,
)

pub one_bank : {l l' : List ℕ} {f f' : List Float} → Packed l f → Packed l' f' → parts_in l f ≡ parts_in l' f'
    → (l ≡ l') × (f ≡ f')
one_bank {l} {l'} {f} {f'} p q e =
    let a = packed_words (parts_in l' f') p e in
    (a.0 ∙ q.cells, a.1 ∙ q.floats)

-- so of two outcomes of one call from a packed bank: where they make the same parts they are the same words
pub one_later : {l l₁ l₂ : List ℕ} {f f₁ f₂ : List Float} → Packed l f → StaysPacked l f l₁ f₁ → StaysPacked l f l₂ f₂
    → parts_in l₁ f₁ ≡ parts_in l₂ f₂
    → (l₁ ≡ l₂) × (f₁ ≡ f₂)
one_later p j k e = one_bank (j p) (k p) e

-- ---- what a call answers

module _ {n : ℕ} {l : List ℕ} {f : List Float} where
  pub done_answered : {l' : List ℕ} {f' : List Float} → n ≡ 0 → StaysPacked l f l' f' → Answered n l f l' f'
  done_answered e k = record { packed = k; still = λ h. absurd (h e) }

  pub none_put : Answered n l f l f
  none_put = record { packed = λ k. k; still = λ h. (refl, refl) }

pub zeros_packed : Packed (replicate cell_count 0) (replicate float_count (of_bits binary64 0))
unfolding mode_in maybe_in mode_number maybe_number chip_in panel_in times_in timer_in irq_in latch_in tone_in
    ring_in keys_in
    chip_cells panel_cells clock_cells key_cells times_floats cells_of floats_of
zeros_packed = record { cells = refl; floats = refl }

-- all parts put, one behind the other
module _ (l : List ℕ) (f : List Float) (x : Parts) (six : length x.devices.clocks.timers ≡ 6) where
  pub all_put : {a b c j k m n o p q r s : Parts} → a ≡ flash_put (parts_in l f) x.devices.flash
      → b ≡ panel_put a x.devices.panel → c ≡ times_put b x.devices.clocks.times
      → j ≡ through (λ n y. timer_put y n (get_or x.devices.clocks.timers n none)) 0 6 c
      → k ≡ irq_put j x.devices.clocks.irq → m ≡ vsync_put k x.devices.clocks.vsync
      → n ≡ converting_put m x.devices.clocks.converting
      → o ≡ latch_put n x.devices.latch → p ≡ tone_put o x.devices.tone → q ≡ off_put p x.devices.off
      → r ≡ ring_put q x.ring → s ≡ keys_put r x.keys → s ≡ x
  unfolding spread
  all_put aa bb cc' jj kk mm nn oo pp qq rr ss =
      rw (
        ss,
        rr,
        qq,
        pp,
        oo,
        nn,
        mm,
        kk,
        jj,
        cc',
        bb,
        aa,
        ← spread_is none
            x.devices.clocks.timers 6 six,
      )
