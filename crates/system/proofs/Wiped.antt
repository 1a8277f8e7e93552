-- A wipe leaves the same machine whatever ran before, so all that follows it is the same too.
use mathlib.Core.Path.{◌≡◌, refl, sym, ap, ◌∙◌}
use mathlib.Core.List.{List, [], ◌∷◌, ◌++◌}
use Rattle.system.specs.System.{Machine}
use Rattle.system.specs.Steps.{Op, wipe, Outcome, step, after}
use Rattle.system.specs.Lengths.{SameLengths}
use Rattle.system.proofs.Lengths.{step_lengths}

-- ---- lengths over operations

pub after_lengths : (m : Machine) (os : List Op) → SameLengths (after m os) m
unfolding after
after_lengths m [] = record { ram = refl; sram = refl; gpio = refl; fb = refl }
after_lengths m (o ∷ os) =
    let rest : SameLengths (after (step m o).machine os) (step m o).machine = after_lengths (step m o).machine os in
    let first : SameLengths (step m o).machine m = step_lengths m o in
    record {
      ram = rest.ram ∙ first.ram;
      sram = rest.sram ∙ first.sram;
      gpio = rest.gpio ∙ first.gpio;
      fb = rest.fb ∙ first.fb;
    }

pub after_both : (m : Machine) (os ps : List Op) → after m (os ++ ps) ≡ after (after m os) ps
unfolding after
after_both m [] ps = refl
after_both m (o ∷ os) ps = after_both (step m o).machine os ps

-- ---- a wipe

pub wipe_same : (m n : Machine) → SameLengths m n → step m wipe ≡ step n wipe
unfolding step
wipe_same m n same = rw (same.ram, same.sram, same.gpio, same.fb)

-- the machine after a wipe and whatever came later
pub wipe_after : (m n : Machine) (before others later : List Op) → SameLengths m n
    → after m (before ++ (wipe ∷ later)) ≡ after n (others ++ (wipe ∷ later))
unfolding after
wipe_after m n before others later same =
    after_both m before (wipe ∷ later) ∙ ap (λ (x : Outcome). after x.machine later)
    (wipe_same (after m before) (after n others) lengths)
    ∙ sym (after_both n others (wipe ∷ later))
  where
    lengths : SameLengths (after m before) (after n others)
    lengths =
        let p : SameLengths (after m before) m = after_lengths m before in
        let q : SameLengths (after n others) n = after_lengths n others in
        record {
          ram = p.ram ∙ same.ram ∙ sym q.ram;
          sram = p.sram ∙ same.sram ∙ sym q.sram;
          gpio = p.gpio ∙ same.gpio ∙ sym q.gpio;
          fb = p.fb ∙ same.fb ∙ sym q.fb;
        }

-- what operation o then answers and leaves
pub wipe_forgets : (m n : Machine) (before others later : List Op) (o : Op) → SameLengths m n
    → step (after m (before ++ (wipe ∷ later))) o ≡ step (after n (others ++ (wipe ∷ later))) o
wipe_forgets m n before others later o same = ap (λ (x : Machine). step x o) (wipe_after m n before others later same)
