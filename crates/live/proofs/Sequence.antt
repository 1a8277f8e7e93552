-- THE THEOREMS OVER LIVE CALLS: any sequence of them leaves what the bus's operations leave, and a wipe makes all that
-- follows the same, whatever was before.
use Prim.Native.Nat.{ℕ}
use mathlib.Core.Path.{◌≡◌, refl, sym, ap, ◌∙◌}
use mathlib.Core.Bool.{Bool, true, false, cond, ◌||◌}
use mathlib.Core.List.{List, [], ◌∷◌, ◌++◌}
use Rattle.map.specs.Numbers.{BAD_MEMORY}
use Rattle.system.specs.System.{Machine}
use Rattle.system.specs.Steps.{Op, wipe, Outcome, step, after, plainly}
use Rattle.system.specs.Lengths.{SameLengths}
use Rattle.system.specs.Limits.{WithinLimits}
use Rattle.system.specs.Refusals.{refusal_of}
use Rattle.system.proofs.Wiped.{after_lengths, after_both, wipe_same}
use Rattle.system.proofs.Limits.{after_limits}
use Rattle.system.proofs.Refusals.{refused_in_order}
use Rattle.runner.specs.Format.{bad_script, entries_of}
use Rattle.runner.specs.Script.{bad_memory, out_too_short, Continued, continued_of, script_from}
use Rattle.script.specs.Fold.{start, ops_of}
use Rattle.script.proofs.Fold.{continued_folds}
use Rattle.script.proofs.Wiped.{Unit, good_memory}
use Rattle.script.proofs.Within.{start_limits}
use Rattle.live.specs.Live.{notAUnit, called}
use Rattle.live.specs.Sequence.{Call, acts, takes, runs, looks, left_by, left_by_all, ops_in, ops_in_all}
use Rattle.live.proofs.Bulk.{takes_each}

-- ---- one call

called_is : (m : Machine) (o : Op) → notAUnit m ≡ false → called m o ≡ step m o
unfolding called
called_is m o h = rw h

run_is : (m : Machine) (script out : List ℕ) (b c : Bool) → bad_script script ≡ b → out_too_short script out ≡ c
    → (continued_of m script out).machine ≡ after m (cond (b || c) [] (ops_of (entries_of script)))
unfolding continued_of after
run_is m script out true c h i = rw h
run_is m script out false true h i = rw (h, i)
run_is m script out false false h i =
    ap (λ (x : Continued). x.machine) (continued_folds m script out (record { script = h; room = i }))

script_is : (m : Machine) (script out : List ℕ) → notAUnit m ≡ false
    → script_from m script out ≡ continued_of m script out
unfolding script_from
script_is m script out h = rw h

one_call : (m : Machine) (c : Call) → notAUnit m ≡ false → left_by m c ≡ after m (ops_in m c)
unfolding left_by ops_in after
one_call m (acts o) h = ap (λ (x : Outcome). x.machine) (called_is m o h)
one_call m (takes records) h = takes_each m records
one_call m (runs script out) h =
    ap (λ (x : Continued). x.machine) (script_is m script out h)
    ∙ run_is m script out (bad_script script) (out_too_short script out) refl refl
one_call m looks h = refl

-- the memories keep a unit's lengths
same_unit : (m n : Machine) → SameLengths n m → notAUnit n ≡ notAUnit m
unfolding bad_memory
same_unit m n s = rw (s.ram, s.sram, s.gpio, s.fb)

unit_stays : (m : Machine) (os : List Op) → notAUnit m ≡ false → notAUnit (after m os) ≡ false
unit_stays m os h = same_unit m (after m os) (after_lengths m os) ∙ h

-- ---- any sequence of calls

-- ANY SEQUENCE OF LIVE CALLS LEAVES WHAT `after` GIVES FOR THE SAME OPERATIONS, from whatever unit
pub live_is_after : (m : Machine) (cs : List Call) → notAUnit m ≡ false → left_by_all m cs ≡ after m (ops_in_all m cs)
unfolding left_by_all ops_in_all after
live_is_after m [] h = refl
live_is_after m (c ∷ cs) h =
    let one : left_by m c ≡ after m (ops_in m c) = one_call m c h in
    let unit : notAUnit (left_by m c) ≡ false = ap (λ (z : Machine). notAUnit z) one ∙ unit_stays m (ops_in m c) h in
    live_is_after (left_by m c) cs unit
    ∙ ap (λ (z : Machine). after z (ops_in_all (left_by m c) cs)) one
    ∙ sym (after_both m (ops_in m c) (ops_in_all (left_by m c) cs))

pub unit_left : (m : Machine) (cs : List Call) → notAUnit m ≡ false → notAUnit (left_by_all m cs) ≡ false
unit_left m cs h = ap (λ (z : Machine). notAUnit z) (live_is_after m cs h) ∙ unit_stays m (ops_in_all m cs) h

left_both : (m : Machine) (cs ds : List Call) → left_by_all m (cs ++ ds) ≡ left_by_all (left_by_all m cs) ds
unfolding left_by_all
left_both m [] ds = refl
left_both m (c ∷ cs) ds = left_both (left_by m c) cs ds

-- ---- a wipe

same_lengths : (m n : Machine) → notAUnit m ≡ false → notAUnit n ≡ false → SameLengths m n
same_lengths m n h i =
    let a : Unit m.ram m.sram m.gpio m.fb = good_memory m.ram m.sram m.gpio m.fb h in
    let b : Unit n.ram n.sram n.gpio n.fb = good_memory n.ram n.sram n.gpio n.fb i in
    record {
      ram = a.ram_size ∙ sym b.ram_size;
      sram = a.sram_size ∙ sym b.sram_size;
      gpio = a.gpio_size ∙ sym b.gpio_size;
      fb = a.fb_size ∙ sym b.fb_size;
    }

-- the same machine follows, whatever units and memories there were and whatever calls came before
pub live_wipe : (m n : Machine) (before others later : List Call) → notAUnit m ≡ false → notAUnit n ≡ false
    → left_by_all m (before ++ (acts wipe ∷ later)) ≡ left_by_all n (others ++ (acts wipe ∷ later))
unfolding left_by_all left_by
live_wipe m n before others later h i =
    let p : notAUnit (left_by_all m before) ≡ false = unit_left m before h in
    let q : notAUnit (left_by_all n others) ≡ false = unit_left n others i in
    let wiped : called (left_by_all m before) wipe ≡ called (left_by_all n others) wipe =
    called_is (left_by_all m before) wipe p
    ∙ wipe_same (left_by_all m before) (left_by_all n others)
    (same_lengths (left_by_all m before) (left_by_all n others) p q)
    ∙ sym (called_is (left_by_all n others) wipe q) in
    left_both m before (acts wipe ∷ later)
    ∙ ap (λ (z : Outcome). left_by_all z.machine later) wiped
    ∙ sym (left_both n others (acts wipe ∷ later))

-- and so does the same answer to whatever is asked then
pub live_wipe_forgets : (m n : Machine) (before others later : List Call) (o : Op) → notAUnit m ≡ false
    → notAUnit n ≡ false
    → called (left_by_all m (before ++ (acts wipe ∷ later))) o ≡ called
    (left_by_all n (others ++ (acts wipe ∷ later))) o
live_wipe_forgets m n before others later o h i =
    ap (λ (z : Machine). called z o) (live_wipe m n before others later h i)

-- ---- from the fresh state on

-- a live unit is within the limits all along
pub live_limits : (ram sram gpio fb : List ℕ) (cs : List Call) → bad_memory ram sram gpio fb ≡ false
    → WithinLimits (left_by_all (start ram sram gpio fb) cs)
live_limits ram sram gpio fb cs h =
    rw (live_is_after (start ram sram gpio fb) cs h)
    (after_limits (start ram sram gpio fb) (ops_in_all (start ram sram gpio fb) cs) (start_limits ram sram gpio fb))

-- so each refusal is the one that the paper's table and order give
pub live_in_order : (ram sram gpio fb : List ℕ) (cs : List Call) (o : Op) → bad_memory ram sram gpio fb ≡ false
    → (called (left_by_all (start ram sram gpio fb) cs) o).refusal
    ≡ refusal_of (left_by_all (start ram sram gpio fb) cs) o
live_in_order ram sram gpio fb cs o h =
    let m : Machine = left_by_all (start ram sram gpio fb) cs in
    ap (λ (z : Outcome). z.refusal) (called_is m o (unit_left (start ram sram gpio fb) cs h))
    ∙ refused_in_order m o (live_limits ram sram gpio fb cs h)

-- ---- where a memory has another length

-- nothing changes by a call that is lent the memories, and the answer is 7
pub live_bad_memory : (m : Machine) (o : Op) → notAUnit m ≡ true → called m o ≡ plainly m BAD_MEMORY
unfolding called
live_bad_memory m o h = rw h
