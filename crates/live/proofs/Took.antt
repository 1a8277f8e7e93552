-- The ring read, the events taken, the ring put back: sound events in bulk, of the machine that all of it makes.
use Prim.Native.Nat.{ℕ, zero, suc}
use mathlib.Core.Path.{◌≡◌, refl, sym, ◌∙◌, ap}
use mathlib.Core.Bool.{Bool, true, false, cond}
use mathlib.Core.List.{List, [], ◌∷◌}
use native.Mathlib.Omega.{arith}
use lib.Dec.{eqb, ltb}
use lib.Ieee.{Float}
use lib.ListN.{length}
use borrow.Author.Tests.{ne_eqb}
use Rattle.timer.specs.declared.Event.{Event}
use Rattle.timer.specs.declared.Ring.{Ring}
use Rattle.timer.specs.declared.Queue.{Queue}
use Rattle.timer.specs.declared.Batch.{Batch}
use Rattle.timer.specs.Events.{waiting_from, waiting, cleared, fit_of, laid_over, queue_of, BulkOutcome, batched}
use Rattle.timer.specs.Events.{bulk_of}
use Rattle.timer.specs.Events.{bulk_outcome}
use Rattle.state.specs.declared.Parts.{Parts}
use Rattle.state.specs.Bank.{ring_in, parts_in}
use Rattle.state.specs.Packed.{StaysPacked}
use Rattle.system.specs.System.{Machine}
use Rattle.system.specs.Bank.{machine_of}
use Rattle.live.specs.Live.{TookMany, took_many, bulk_taken, take_many}
use Rattle.live.specs.Inner.{batch_put, Kept}

-- nothing is laid where none waits or none fits
none_laid : (q : Queue) (ys : List Event) → fit_of q.ring.count (length ys) ≡ 0 → laid_over (waiting q) ys ≡ ys
unfolding fit_of waiting waiting_from laid_over
none_laid q ys h = by (ltb q.ring.count (length ys)) q.ring.count ys h
  where
    on_none : (xs : List Event) → laid_over xs [] ≡ []
    on_none [] = refl
    on_none (x ∷ xs) = refl

    by : (t : Bool) (n : ℕ) (ys : List Event) → cond t n (length ys) ≡ 0 → laid_over (waiting_from q 0 n) ys ≡ ys
    by true zero ys h = refl
    by true (suc n) ys h = absurd (omega arith)
    by false n [] h = on_none (waiting_from q 0 n)
    by false n (y ∷ ys) h = absurd (omega arith)

module _ (o₁ o₂ o₃ p₁ p₂ p₃ : List Float) (l l' : List ℕ) (ys zs : List Event) where
  -- what the bulk taker ensures, of its answer
  abbrev pub Took : ℕ → Type 0
  Took n =
      (slots addresses values rtc page : List ℕ) (starts : List Float) (codes : List ℕ) (f : List Float)
      (ram sram gpio fb : List ℕ)
      → (took_many n (machine_of slots addresses values rtc page p₁ p₂ p₃ starts codes (parts_in l' f) ram sram gpio fb)
      zs
      ≡ take_many (machine_of slots addresses values rtc page o₁ o₂ o₃ starts codes (parts_in l f) ram sram gpio fb) ys)
      × StaysPacked l f l' f

  module _ (slots addresses values rtc page : List ℕ) (starts : List Float) (codes ram sram gpio fb : List ℕ) where
    abbrev made : List Float → List Float → List Float → Parts → Machine
    made a b c x = machine_of slots addresses values rtc page a b c starts codes x ram sram gpio fb

    abbrev laid : Parts → Batch → TookMany
    laid x b = took_many b.count (made p₁ p₂ p₃ (batch_put x b)) zs

    taken : (x : Parts) (b : Batch) (n : ℕ) → n ≡ b.count
        → bulk_outcome (batched b p₁ p₂ p₃) zs ≡ bulk_of (queue_of o₁ o₂ o₃ x.ring) ys
        → laid x b ≡ take_many (made o₁ o₂ o₃ x) ys
    unfolding take_many cleared
    taken x b zero e took =
        let q : Queue = queue_of o₁ o₂ o₃ x.ring in
        let none : fit_of x.ring.count (length ys) ≡ 0 = sym (ap (λ (z : BulkOutcome). z.bulk.count) took) ∙ sym e
        in
        let a : p₁ ≡ cleared x.ring 0 o₁ = ap (λ (z : BulkOutcome). z.bulk.queue.onsets) took ∙ rw none in
        let d : p₂ ≡ cleared x.ring 0 o₂ = ap (λ (z : BulkOutcome). z.bulk.queue.frequencies) took ∙ rw none in
        let u : p₃ ≡ cleared x.ring 0 o₃ = ap (λ (z : BulkOutcome). z.bulk.queue.duties) took ∙ rw none in
        let y : zs ≡ ys = ap (λ (z : BulkOutcome). z.records) took ∙ none_laid q ys none in
        rw (← e, none, a, d, u, y)
    taken x b (suc n) e took =
        let some : fit_of x.ring.count (length ys) ≡ suc n =
        sym (ap (λ (z : BulkOutcome). z.bulk.count) took) ∙ sym e in
        let h : eqb b.count 0 ≡ false = rw (← e) (ne_eqb (suc n) 0 (λ z. omega arith)) in
        let k : eqb (fit_of x.ring.count (length ys)) 0 ≡ false = rw some (ne_eqb (suc n) 0 (λ z. omega arith)) in
        rw (h, k) (ap (bulk_taken (made o₁ o₂ o₃ x)) took)

  pub took_many_lem : (g : Ring) (b : Batch) (n : ℕ) → g ≡ ring_in l
      → bulk_outcome (batched b p₁ p₂ p₃) zs ≡ bulk_of (queue_of o₁ o₂ o₃ g) ys → Kept l l' b n → Took n
  took_many_lem g b n read took (count, kept) slots addresses values rtc page starts codes f ram sram gpio fb =
      let made : Parts → Machine = λ x. machine_of slots addresses values rtc page p₁ p₂ p₃ starts codes x ram sram gpio
      fb in
      let took₁ : bulk_outcome (batched b p₁ p₂ p₃) zs ≡ bulk_of (queue_of o₁ o₂ o₃ (parts_in l f).ring) ys =
      took ∙ ap (λ (h : Ring). bulk_of (queue_of o₁ o₂ o₃ h) ys) read in (
        ap (λ (k : ℕ). took_many k (made (parts_in l' f)) zs) count
            ∙ ap (λ (x : Parts). took_many b.count (made x) zs) (kept f).0
            ∙ taken slots addresses values rtc page starts codes ram sram gpio fb (parts_in l f) b b.count refl took₁,
        (kept f).1,
      )
