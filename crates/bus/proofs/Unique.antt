-- The contracts leave one outcome each.
use Prim.Native.Nat.{ℕ}
use mathlib.Core.Path.{◌≡◌, sym, ap, ◌∙◌}
use mathlib.Core.Bool.{Bool, false}
use mathlib.Core.List.{List}
use lib.Ieee.{Float}
use Rattle.std.specs.Prelude.{Result}
use Rattle.map.specs.declared.refusals.Refusal.{Refusal}
use Rattle.whole.proofs.Unique.{unique}
use Rattle.whole.proofs.Answered.{answer_tells}
use Rattle.timer.specs.declared.Queue.{Queue}
use Rattle.timer.specs.Events.{queue_of}
use Rattle.registers.specs.declared.Registers.{Registers}
use Rattle.state.specs.declared.Parts.{Parts}
use Rattle.state.specs.Parts.{parts}
use Rattle.state.specs.Bank.{parts_in}
use Rattle.state.specs.Packed.{Packed, Answered}
use Rattle.state.proofs.Packs.{one_later}
use Rattle.bus.specs.Answers.{Got, got_of, WriteAnswer, answer_of}
use Rattle.bus.specs.declared.Accepted.{Accepted}
use Rattle.bus.specs.World.{World, world, out}
use Rattle.bus.specs.Bank.{out_of}
use Rattle.bus.specs.Write.{Noted, together}
use Rattle.bus.specs.Read.{Given, given, ReadOut, got}

-- of a write
pub one_write : (d : Noted) (v w : World) (m n : ℕ) (e f : Bool) (p q : Queue) → together (out v m e) p ≡ d
    → together (out w n f) q ≡ d
    → (v ≡ w) × (m ≡ n) × (e ≡ f) × (p ≡ q)
one_write d v w m n e f p q h k =
    let z : together (out v m e) p ≡ together (out w n f) q = unique h k in (
      ap (λ (o : Noted). o.out.world) z,
      ap (λ (o : Noted). o.out.refusal) z,
      ap (λ (o : Noted). o.out.event) z,
      ap (λ (o : Noted). o.queue) z,
    )

parts_same : (x y : Parts) → x.devices ≡ y.devices → x.ring ≡ y.ring → x.keys ≡ y.keys → x ≡ y
parts_same x y h i j = same h i j
  where
    same : x.devices ≡ y.devices → x.ring ≡ y.ring → x.keys ≡ y.keys → parts x.devices x.ring x.keys ≡
        parts y.devices y.ring y.keys
    same h i j = rw (h, i, j)

-- and from a packed bank the later words are one too
pub one_write_words : (d : Noted) {l l₁ l₂ : List ℕ} {v v₁ v₂ : List Float} (x : Parts) (r₁ r₂ : Registers)
    (c₁ p₁ m₁ s₁ g₁ f₁ c₂ p₂ m₂ s₂ g₂ f₂ : List ℕ)
    (t₁ t₂ : WriteAnswer) (x₁ y₁ z₁ x₂ y₂ z₂ : List Float) → Packed l v
    → together (out_of (world r₁ c₁ p₁ m₁ s₁ g₁ f₁ (parts_in l₁ v₁).devices) t₁)
    (queue_of x₁ y₁ z₁ (parts_in l₁ v₁).ring) ≡ d
    → (parts_in l₁ v₁).keys ≡ x.keys → Answered t₁.refusal l v l₁ v₁
    → together (out_of (world r₂ c₂ p₂ m₂ s₂ g₂ f₂ (parts_in l₂ v₂).devices) t₂)
    (queue_of x₂ y₂ z₂ (parts_in l₂ v₂).ring) ≡ d
    → (parts_in l₂ v₂).keys ≡ x.keys → Answered t₂.refusal l v l₂ v₂ → (l₁ ≡ l₂) × (v₁ ≡ v₂)
one_write_words d {l₁ = l₁} {l₂ = l₂} {v₁ = v₁} {v₂ = v₂} x r₁ r₂ c₁ p₁ m₁ s₁ g₁ f₁ c₂ p₂ m₂ s₂ g₂ f₂ t₁ t₂ x₁ y₁ z₁
    x₂ y₂ z₂ packed e₁ k₁ a₁ e₂ k₂ a₂ =
    let e : together (out_of (world r₁ c₁ p₁ m₁ s₁ g₁ f₁ (parts_in l₁ v₁).devices) t₁)
    (queue_of x₁ y₁ z₁ (parts_in l₁ v₁).ring)
    ≡ together (out_of (world r₂ c₂ p₂ m₂ s₂ g₂ f₂ (parts_in l₂ v₂).devices) t₂)
    (queue_of x₂ y₂ z₂ (parts_in l₂ v₂).ring) = unique e₁ e₂ in
    one_later packed a₁.packed a₂.packed
    (parts_same (parts_in l₁ v₁) (parts_in l₂ v₂) (ap (λ (o : Noted). o.out.world.devices) e)
    (ap (λ (o : Noted). o.queue.ring) e) (k₁ ∙ sym k₂))

-- of a read
pub one_read : (d : ReadOut) (v w : List ℕ) (g h : Got) → got v g ≡ d → got w h ≡ d → (v ≡ w) × (g ≡ h)
one_read d v w g h i k = let z : got v g ≡ got w h = unique i k in
    (ap (λ (o : ReadOut). o.slots) z, ap (λ (o : ReadOut). o.got) z)

-- and what answers so is one result, of a read and of a write
pub one_read_result : (d : ReadOut) (v w : List ℕ) (r s : Result ℕ Refusal) → got v (got_of r) ≡ d
    → got w (got_of s) ≡ d → (v ≡ w) × (r ≡ s)
one_read_result d v w r s i k =
    let z : got v (got_of r) ≡ got w (got_of s) = unique i k in (
      ap (λ (o : ReadOut). o.slots) z,
      answer_tells 0 r s (ap (λ (o : ReadOut). o.got.refusal) z) (ap (λ (o : ReadOut). o.got.value) z),
    )

pub one_write_result : (d : WriteAnswer) (r s : Result Accepted Refusal) → answer_of r ≡ d → answer_of s ≡ d → r ≡ s
one_write_result d r s i k =
    let z : answer_of r ≡ answer_of s = unique i k in
    answer_tells (record { event = false }) r s (ap (λ (o : WriteAnswer). o.refusal) z)
    (ap (λ (o : WriteAnswer). accepted o.event) z)
  where
    accepted : Bool → Accepted
    accepted e = record { event = e }

pub one_word : (d : Given) (v w : List ℕ) (m n : ℕ) → given v m ≡ d → given w n ≡ d → (v ≡ w) × (m ≡ n)
one_word d v w m n i k = let z : given v m ≡ given w n = unique i k in
    (ap (λ (o : Given). o.slots) z, ap (λ (o : Given). o.value) z)
