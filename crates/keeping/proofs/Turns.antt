-- THE THEOREMS OVER LIVE CALLS AND RESUMES, in any order: what they leave is within the limits, a resume and a wipe
-- make all that follows the same, whatever was before and whatever time it was.
use Prim.Native.Nat.{ℕ}
use mathlib.Core.Path.{◌≡◌, refl, sym, ap, subst, ◌∙◌}
use mathlib.Core.Bool.{true}
use mathlib.Core.List.{List, [], ◌∷◌, ◌++◌}
use Rattle.whole.proofs.Choice.{by_test}
use Rattle.system.specs.System.{Machine, Left}
use Rattle.system.specs.Steps.{Op, wipe}
use Rattle.system.specs.Limits.{WithinLimits}
use Rattle.system.specs.Refusals.{refusal_of}
use Rattle.system.proofs.Limits.{after_limits}
use Rattle.system.proofs.Refusals.{refused_in_order}
use Rattle.live.specs.Live.{called}
use Rattle.live.specs.Sequence.{Call, acts, left_by, left_by_all, ops_in_all}
use Rattle.live.proofs.Sequence.{live_is_after, unit_left, live_wipe}
use Rattle.session.specs.Good.{good_session}
use Rattle.session.specs.Session.{bytes_in, machine_in, resume_of}
use Rattle.keeping.specs.Typed.{Typed, UnitLengths}
use Rattle.keeping.specs.Turns.{Turn, calls, resumes, left_by_turn, left_by_turns, ByteTurns}
use Rattle.keeping.proofs.Refused.{resume_bad, resume_done}
use Rattle.keeping.proofs.Resumed.{resumed_limits}
use Rattle.keeping.proofs.Saved.{saved_good}
use Rattle.keeping.proofs.Exactly.{resumed_lengths}

-- ---- one turn: what holds of the machine before it and of every resumed one holds behind it

one_resumed : (P : Machine → Type 0) (m : Machine) (s : List ℕ) → UnitLengths m → P m
    → (good_session s ≡ true → P (machine_in s)) → P (resume_of m s).machine
one_resumed P m s u here there =
    by_test (good_session s)
    (λ h. subst P (sym (ap (λ (x : Left). x.machine) (resume_done m s u h))) (there h))
    (λ h. subst P (sym (ap (λ (x : Left). x.machine) (resume_bad m s u h))) here)

one_limits : (m : Machine) (c : Call) → UnitLengths m → WithinLimits m → WithinLimits (left_by m c)
unfolding left_by_all
one_limits m c u w =
    subst WithinLimits (sym (live_is_after m (c ∷ []) u)) (after_limits m (ops_in_all m (c ∷ [])) w)

one_unit : (m : Machine) (c : Call) → UnitLengths m → UnitLengths (left_by m c)
unfolding left_by_all
one_unit m c u = unit_left m (c ∷ []) u

-- ---- any turns

pub turns_unit : (m : Machine) (ts : List Turn) → UnitLengths m → ByteTurns ts → UnitLengths (left_by_turns m ts)
unfolding left_by_turns left_by_turn
turns_unit m [] u b = u
turns_unit m (calls c ∷ ts) u b = turns_unit (left_by m c) ts (one_unit m c u) b
turns_unit m (resumes s ∷ ts) u b =
    turns_unit (resume_of m s).machine ts (one_resumed UnitLengths m s u u (resumed_lengths s b.0)) b.1

-- ANY SEQUENCE OF LIVE CALLS AND RESUMES leaves a machine within the limits
pub turns_limits : (m : Machine) (ts : List Turn) → UnitLengths m → WithinLimits m → ByteTurns ts
    → WithinLimits (left_by_turns m ts)
unfolding left_by_turns left_by_turn
turns_limits m [] u w b = w
turns_limits m (calls c ∷ ts) u w b = turns_limits (left_by m c) ts (one_unit m c u) (one_limits m c u w) b
turns_limits m (resumes s ∷ ts) u w b =
    turns_limits (resume_of m s).machine ts (one_resumed UnitLengths m s u u (resumed_lengths s b.0))
    (one_resumed WithinLimits m s u w (resumed_limits s b.0)) b.1

-- so each refusal is the one that the paper's table and order give
pub turns_in_order : (m : Machine) (ts : List Turn) (o : Op) → UnitLengths m → WithinLimits m → ByteTurns ts
    → (called (left_by_turns m ts) o).refusal ≡ refusal_of (left_by_turns m ts) o
unfolding called
turns_in_order m ts o u w b =
    rw (turns_unit m ts u b) (refused_in_order (left_by_turns m ts) o (turns_limits m ts u w b))

-- and what is saved then is a good session
pub turns_saved : (m : Machine) (ts : List Turn) → UnitLengths m → WithinLimits m → ByteTurns ts
    → Typed (left_by_turns m ts) → good_session (bytes_in (left_by_turns m ts)) ≡ true
turns_saved m ts u w b t =
    saved_good (left_by_turns m ts) (turns_limits m ts u w b) t (turns_unit m ts u b)

-- ---- what forgets

turns_both : (m : Machine) (ts us : List Turn) → left_by_turns m (ts ++ us) ≡ left_by_turns (left_by_turns m ts) us
unfolding left_by_turns
turns_both m [] us = refl
turns_both m (t ∷ ts) us = turns_both (left_by_turn m t) ts us

-- a turn that leaves the same of both makes all that follows the same
from_there : (m n : Machine) (before others later : List Turn) (t : Turn)
    → left_by_turn (left_by_turns m before) t ≡ left_by_turn (left_by_turns n others) t
    → left_by_turns m (before ++ (t ∷ later)) ≡ left_by_turns n (others ++ (t ∷ later))
unfolding left_by_turns
from_there m n before others later t same =
    turns_both m before (t ∷ later)
    ∙ ap (λ (z : Machine). left_by_turns z later) same
    ∙ sym (turns_both n others (t ∷ later))

-- A RESUME: from it on all is the same, whatever ran before, and however late it was
pub resume_forgets : (m n : Machine) (before others later : List Turn) (s : List ℕ) → UnitLengths m → UnitLengths n
    → ByteTurns before → ByteTurns others → good_session s ≡ true
    → left_by_turns m (before ++ (resumes s ∷ later)) ≡ left_by_turns n (others ++ (resumes s ∷ later))
unfolding left_by_turn
resume_forgets m n before others later s u v b c h =
    from_there m n before others later (resumes s)
    (ap (λ (x : Left). x.machine)
    (resume_done (left_by_turns m before) s (turns_unit m before u b) h
    ∙ sym (resume_done (left_by_turns n others) s (turns_unit n others v c) h)))

-- A WIPE: the same, and no session that was resumed before it is left
pub wipe_forgets_turns : (m n : Machine) (before others later : List Turn) → UnitLengths m → UnitLengths n
    → ByteTurns before → ByteTurns others
    → left_by_turns m (before ++ (calls (acts wipe) ∷ later)) ≡ left_by_turns n (others ++ (calls (acts wipe) ∷ later))
unfolding left_by_turn left_by_all
wipe_forgets_turns m n before others later u v b c =
    from_there m n before others later (calls (acts wipe))
    (live_wipe (left_by_turns m before) (left_by_turns n others) [] [] [] (turns_unit m before u b)
    (turns_unit n others v c))
