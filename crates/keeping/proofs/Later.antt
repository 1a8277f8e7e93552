-- What follows a resume: every later state is within the limits, and a wipe forgets the session.
use Prim.Native.Nat.{ℕ}
use mathlib.Core.Path.{◌≡◌, sym, ◌∙◌}
use mathlib.Core.Bool.{true}
use mathlib.Core.List.{List, ◌∷◌, ◌++◌}
use Rattle.system.specs.System.{Machine}
use Rattle.system.specs.Steps.{Op, wipe, step, after}
use Rattle.system.specs.Limits.{WithinLimits}
use Rattle.system.proofs.Limits.{after_limits}
use Rattle.system.proofs.Wiped.{wipe_forgets}
use Rattle.script.proofs.Wiped.{good_memory}
use Rattle.session.specs.Good.{good_session}
use Rattle.session.specs.Session.{machine_in}
use Rattle.keeping.specs.Typed.{Below, UnitLengths}
use Rattle.session.proofs.Facts.{facts}
use Rattle.keeping.proofs.Back.{read_sized}
use Rattle.keeping.proofs.Resumed.{resumed_limits}

pub resumed_runs_limits : (s : List ℕ) (os : List Op) → Below 256 s → good_session s ≡ true
    → WithinLimits (after (machine_in s) os)
resumed_runs_limits s os bytes h = after_limits (machine_in s) os (resumed_limits s bytes h)

-- A WIPE FORGETS A RESUMED SESSION: whatever ran before it, and from whichever session or machine of a unit, what is
-- answered and left later is the same
pub wipe_resumed : (s : List ℕ) (m : Machine) (before others later : List Op) (o : Op) → Below 256 s
    → good_session s ≡ true → UnitLengths m
    → step (after (machine_in s) (before ++ (wipe ∷ later))) o ≡ step (after m (others ++ (wipe ∷ later))) o
wipe_resumed s m before others later o bytes h u =
    let z = read_sized s bytes (facts s h) in
    let y = good_memory m.ram m.sram m.gpio m.fb u in
    wipe_forgets (machine_in s) m before others later o (record {
      ram = z.ram ∙ sym y.ram_size;
      sram = z.sram ∙ sym y.sram_size;
      gpio = z.gpio ∙ sym y.gpio_size;
      fb = z.fb ∙ sym y.fb_size;
    })
