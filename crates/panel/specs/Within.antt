-- What holds of the panel in every run. Commands, data and copies keep it, so whatever runs over it may carry it
-- along.
use Rattle.std.specs.Prelude.{◌≡◌, ℕ, ◌≤◌, length, slice_index}
use Rattle.panel.specs.declared.Panel.{Panel}

-- four places for arguments, and those that have not come are 0
pub record PanelWithin (p : Panel) : Type 0 where
  pub size : length p.args ≡ 4
  pub most : p.count ≤ 4
  pub unset : (i : ℕ) → p.count ≤ i → slice_index p.args i ≡ 0
