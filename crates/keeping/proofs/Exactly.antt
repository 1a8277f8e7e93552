-- 14 BadSave exactly: bytes are refused if and only if they are no machine's within the limits. And a save that is
-- resumed leaves the machine that was saved, but for the counts of periods and the places.
use Prim.Native.Nat.{ℕ, ◌≤◌}
use mathlib.Core.Path.{◌≡◌, sym, ap, subst, ◌∙◌}
use mathlib.Core.Logic.{◌↔◌}
use mathlib.Core.Bool.{true}
use mathlib.Core.List.{List}
use native.Mathlib.Omega.{arith}
use lib.ListN.{length, take}
use lib.Seq.{sets, sets-eq, take-append_seam}
use borrow.Author.Tests.{le-ltb}
use Rattle.map.specs.Numbers.{DONE, BAD_SAVE}
use Rattle.whole.proofs.Choice.{by_test}
use Rattle.system.specs.System.{Machine, Left, left}
use Rattle.system.specs.Normal.{normal}
use Rattle.system.specs.Steps.{carry_on, step}
use Rattle.system.specs.Limits.{WithinLimits}
use Rattle.session.specs.Good.{good_session}
use Rattle.session.specs.Session.{saved_size, bytes_in, Saved, saved, save_of, machine_in, resume_of}
use Rattle.keeping.specs.Typed.{Below, Typed, UnitLengths}
use Rattle.keeping.specs.Holds.{Holds}
use Rattle.keeping.proofs.Refused.{resume_done, resume_bad, done_good, save_done}
use Rattle.session.proofs.Facts.{facts}
use Rattle.keeping.proofs.Placed.{session_long}
use Rattle.keeping.proofs.Back.{read_sized, unit_lengths, resumed_back, resume_writes}
use Rattle.keeping.proofs.Resumed.{resumed_limits}
use Rattle.keeping.proofs.Widths.{resumed_typed}
use Rattle.keeping.proofs.Saved.{sized, saved_good}
use Rattle.keeping.proofs.Round.{saved_back}

pub resumed_lengths : (s : List ℕ) → Below 256 s → good_session s ≡ true → UnitLengths (machine_in s)
resumed_lengths s bytes h = unit_lengths (machine_in s) (read_sized s bytes (facts s h))

-- GOOD BYTES are just those of a machine within the limits
pub good_exactly : (s : List ℕ) → Below 256 s → (good_session s ≡ true) ↔ Holds s
good_exactly s bytes = (
  λ h. record {
    machine = machine_in s;
    limits = resumed_limits s bytes h;
    typed = resumed_typed s bytes h;
    lengths = resumed_lengths s bytes h;
    bytes = resumed_back s bytes h;
  },
  λ h. subst (λ (b : List ℕ). good_session b ≡ true) h.bytes
      (saved_good h.machine h.limits h.typed h.lengths),
)

-- 14 EXACTLY: a unit's resume answers BadSave if and only if the bytes hold no such machine
pub bad_exactly : (m : Machine) (s : List ℕ) → UnitLengths m → Below 256 s
    → ((resume_of m s).refusal ≡ BAD_SAVE) ↔ (Holds s → ⊥)
bad_exactly m s u bytes = (
  λ refused held.
      let none : DONE ≡ BAD_SAVE =
      sym (ap (λ (x : Left). x.refusal) (resume_done m s u ((good_exactly s bytes).1 held))) ∙ refused in
      omega arith,
  λ nothing. by_test (good_session s)
      (λ h. absurd (nothing ((good_exactly s bytes).0 h)))
      (λ h. ap (λ (x : Left). x.refusal) (resume_bad m s u h)),
)

-- ---- a resume that is done

module _ (m : Machine) (s : List ℕ) (bytes : Below 256 s) (done : (resume_of m s).refusal ≡ DONE) where
  resumed_is : resume_of m s ≡ left (machine_in s) DONE
  resumed_is = let g = done_good m s done in resume_done m s g.0 g.1

  -- leaves a machine within the limits
  pub resume_limits : WithinLimits (resume_of m s).machine
  resume_limits =
      subst (λ (x : Left). WithinLimits x.machine) (sym resumed_is) (resumed_limits s bytes (done_good m s done).1)

  -- whose save over the same bytes leaves them as they are
  pub resume_saves : save_of (resume_of m s).machine s ≡ saved DONE (length s) s
  resume_saves =
      ap (λ (x : Left). save_of x.machine s) resumed_is ∙ resume_writes s bytes (done_good m s done).1

-- ---- a save that is resumed

module _ (m : Machine) (w : WithinLimits m) (t : Typed m) (u : UnitLengths m) where
  size_is : saved_size m ≡ length (bytes_in m)
  size_is = sym (session_long (bytes_in m) m (sized m w u))

  -- what a save wrote are the bytes of the machine
  pub save_writes : (out : List ℕ) → saved_size m ≤ length out
      → take (save_of m out).written (save_of m out).out ≡ bytes_in m
  save_writes out room =
      ap (λ (x : Saved). take x.written x.out)
      (save_done m out u (le-ltb (length out) (saved_size m) room))
      ∙ ap (λ (k : ℕ). take k (sets out 0 (bytes_in m))) size_is
      ∙ ap (λ (l : List ℕ). take (length (bytes_in m)) l)
      (sets-eq (bytes_in m) out 0 (let z = size_is in omega arith))
      ∙ take-append_seam (bytes_in m) _

  -- A SAVE AND A RESUME leave, in any unit, the machine as it is saved and resumed at once
  pub save_resumes : (x : Machine) (out : List ℕ) → UnitLengths x → saved_size m ≤ length out
      → resume_of x (take (save_of m out).written (save_of m out).out) ≡ left (normal m) DONE
  save_resumes x out v room =
      ap (λ (s : List ℕ). resume_of x s) (save_writes out room)
      ∙ resume_done x (bytes_in m) v (saved_good m w t u)
      ∙ ap (λ (y : Machine). left y DONE) (saved_back m w t u)

  -- which is the operation that carries on
  pub carried_on : machine_in (bytes_in m) ≡ (step m carry_on).machine
  unfolding step
  carried_on = saved_back m w t u
