-- The state of the keys, and the state after a wipe.
use Rattle.std.specs.Prelude.{ℕ, false, List, replicate, Float}
use Rattle.whole.specs.Forms.{nought}
use Rattle.keys.specs.declared.Keys.{Keys}

-- the presses' times and codes, and the rest
pub record Buttons : Type 0 where
  pub starts : List Float
  pub codes : List ℕ
  pub keys : Keys

abbrev pub buttons : List Float → List ℕ → Keys → Buttons
buttons starts codes keys = record { starts = starts; codes = codes; keys = keys }

abbrev pub fresh_keys : Keys
fresh_keys = record {
  count = 0;
  live = record { a = false; b = false; c = false };
  holds = record { a = nought; b = nought; c = nought };
  applied = 0;
}

unfoldable pub fresh_buttons : Buttons
fresh_buttons = buttons (replicate 64 nought) (replicate 64 0) fresh_keys
