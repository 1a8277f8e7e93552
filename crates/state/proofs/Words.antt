-- A thing as a number, and back.
use Prim.Native.Nat.{ℕ, ◌<◌}
use mathlib.Core.Path.{◌≡◌, refl}
use mathlib.Core.Bool.{Bool, true, false}
use borrow.Author.Tests.{lt-ltb}
use denote.Enum.Declared.{tag_of}
use Rattle.std.specs.Prelude.{None, Some}
use Rattle.whole.specs.Forms.{bit}
use Rattle.flash.specs.declared.Mode.{Mode}
use Rattle.flash.specs.contracts.Mode.{the_type}
use Rattle.flash.specs.declared.Mode.TheVariants.{Rust, Strict}
use Rattle.panel.specs.Lcd.{MaybeByte}
use Rattle.state.specs.Bank.{flag_in, mode_in, maybe_in}
use Rattle.state.specs.Packed.{mode_number, maybe_number}

pub flag_bit : (b : Bool) → flag_in (bit b) ≡ b
flag_bit true = refl
flag_bit false = refl

pub mode_number_lem : (m : Mode) → mode_in (mode_number m) ≡ m
unfolding mode_in mode_number
mode_number_lem Rust = refl
mode_number_lem Strict = refl

pub mode_tag : (m : Mode) → tag_of the_type m ≡ mode_number m
unfolding mode_number
mode_tag Rust = refl
mode_tag Strict = refl

pub maybe_nothing : (h : MaybeByte) → h ≡ None → (256 ≡ maybe_number h) × (maybe_in 256 ≡ h)
unfolding maybe_in maybe_number
maybe_nothing h e = (rw e, rw e)

pub maybe_byte : (h : MaybeByte) (n : ℕ) → h ≡ Some n → n < 256 → (n ≡ maybe_number h) × (maybe_in n ≡ h)
unfolding maybe_in maybe_number
maybe_byte h n e k = (rw e, rw (e, lt-ltb n 256 k))
