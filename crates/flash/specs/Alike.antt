-- Demand 2 for the flash: what it is for a chip to do as sys.rs does.
use Rattle.std.specs.Prelude.{◌≡◌, ℕ, Bool, List}
use Rattle.flash.specs.Steps.{Step}
use Rattle.flash.specs.Board.{Board}
use Rattle.flash.specs.Run.{after_steps, answers}
use Rattle.flash.specs.Table.{made}
use Rattle.flash.specs.Rust.{Sys, rust_after_steps, rxs, default}

-- what can be seen of either
pub record Seen : Type 0 where
  pub cs : Bool
  pub rx : ℕ
  pub wel : Bool
  pub writes : ℕ
  pub array : List ℕ

abbrev pub seen_of : Sys → Seen
seen_of s = record { cs = s.cs; rx = s.rx; wel = s.wel; writes = s.writes; array = s.ram }

abbrev pub seen : Board → Seen
seen w = record { cs = w.chip.cs; rx = w.chip.rx; wel = w.chip.wel; writes = w.chip.writes; array = w.array }

-- a chip made in the Rust's mode answers as sys.rs does, whatever reaches it, and leaves what sys.rs leaves
pub record AsRust (m : List ℕ) (xs : List Step) : Type 0 where
  pub answered : answers (made m) xs ≡ rxs (default m) xs
  pub left : seen (after_steps (made m) xs) ≡ seen_of (rust_after_steps (default m) xs)
