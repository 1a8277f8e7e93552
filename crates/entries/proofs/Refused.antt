-- A refusal's answer has zeros beside the number, as 01's floats and events of zeros have.
use Rattle.std.proofs.Common.{◌≡◌, ℕ, sym, refl, ap, ◌∙◌}
use lib.Ieee.{Float}
use Rattle.std.specs.Prelude.{Result, Err}
use Rattle.map.specs.declared.refusals.Refusal.{Refusal}
use Rattle.map.specs.Refusals.{code_of, number_of, value_or}
use Rattle.whole.specs.Forms.{bits_of, nought}
use Rattle.timer.specs.declared.Event.{Event}
use Rattle.timer.specs.Events.{nothing}
use Rattle.entries.specs.declared.Answer.{Answer}
use Rattle.entries.specs.Answers.{reply}
use Rattle.entries.specs.Inner.{sound_reply}

nought_bits : bits_of nought ≡ 0
unfolding bits_of lib.Ieee.ne lib.Ieee.of_bits lib.Ieee.to_bits
nought_bits = refl

pub refused_moment : (next : Result Float Refusal) (e : Refusal) {a : Answer} → next ≡ Err e
    → a ≡ reply (number_of next) 0 0 0 → a ≡ reply (number_of next) (bits_of (value_or next nought)) 0 0
refused_moment next e h k =
    k ∙ ap (λ (n : ℕ). reply (number_of next) n 0 0)
    (sym nought_bits ∙ ap (λ (r : Result Float Refusal). bits_of (value_or r nought)) (sym h))

pub refused_sound : (waited : Result Event Refusal) (e : Refusal) {a : Answer} → waited ≡ Err e
    → a ≡ reply (code_of e) 0 0 0 → a ≡ sound_reply (number_of waited) (value_or waited nothing)
refused_sound waited e h k = rw h (k ∙ rw nought_bits)
