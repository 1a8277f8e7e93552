-- What a refused save and a refused resume leave, and which number they answer: 7 before 14 and 15.
use Prim.Native.Nat.{ℕ}
use mathlib.Core.Path.{◌≡◌, refl}
use mathlib.Core.Logic.{◌≢◌}
use mathlib.Core.Bool.{Bool, true, false, cond}
use mathlib.Core.List.{List}
use native.Mathlib.Omega.{arith}
use lib.Dec.{ltb}
use lib.ListN.{length}
use lib.Seq.{sets}
use Rattle.map.specs.Numbers.{DONE, BAD_MEMORY, BAD_SAVE, SAVE_TOO_SHORT}
use Rattle.runner.specs.Script.{bad_memory}
use Rattle.system.specs.System.{Machine, Left, left}
use Rattle.session.specs.Good.{good_session}
use Rattle.session.specs.Session.{saved_size, bytes_in, saved, save_of, machine_in, resume_of}
use Rattle.keeping.specs.Typed.{UnitLengths}

-- ---- a resume

module _ (m : Machine) (s : List ℕ) where
  resumed_by : (m n : Machine) (a b : Bool)
      → (cond a (left m BAD_MEMORY) (cond b (left n DONE) (left m BAD_SAVE))).refusal ≢ DONE
      → (cond a (left m BAD_MEMORY) (cond b (left n DONE) (left m BAD_SAVE))).machine ≡ m
  resumed_by m n true b h = refl
  resumed_by m n false true h = absurd (h refl)
  resumed_by m n false false h = refl

  -- a refused resume changes nothing
  pub refused_same : (resume_of m s).refusal ≢ DONE → (resume_of m s).machine ≡ m
  unfolding resume_of
  refused_same h = resumed_by m (machine_in s) (bad_memory m.ram m.sram m.gpio m.fb) (good_session s) h

  -- 7 BadMemory, whatever the bytes are
  pub resume_lengths : bad_memory m.ram m.sram m.gpio m.fb ≡ true → resume_of m s ≡ left m BAD_MEMORY
  unfolding resume_of
  resume_lengths h = rw h

  -- then 14 BadSave
  pub resume_bad : UnitLengths m → good_session s ≡ false → resume_of m s ≡ left m BAD_SAVE
  unfolding resume_of
  resume_bad u h = rw (u, h)

  -- else the machine of the bytes, whatever stood there before
  pub resume_done : UnitLengths m → good_session s ≡ true → resume_of m s ≡ left (machine_in s) DONE
  unfolding resume_of
  resume_done u h = rw (u, h)

  done_by : (x y : Left) (a b : Bool) → x.refusal ≢ DONE → y.refusal ≢ DONE → (z : Left)
      → (cond a x (cond b z y)).refusal ≡ DONE → (a ≡ false) × (b ≡ true)
  done_by x y true b p q z h = absurd (p h)
  done_by x y false true p q z h = (refl, refl)
  done_by x y false false p q z h = absurd (q h)

  -- one that is done was over a unit's memories, and the bytes were good
  pub done_good : (resume_of m s).refusal ≡ DONE → UnitLengths m × (good_session s ≡ true)
  unfolding resume_of
  done_good h =
      done_by (left m BAD_MEMORY) (left m BAD_SAVE) (bad_memory m.ram m.sram m.gpio m.fb) (good_session s)
      (λ e. omega arith) (λ e. omega arith) (left (machine_in s) DONE) h

-- ---- a save

module _ (m : Machine) (out : List ℕ) where
  saved_by : (w : ℕ) (later : List ℕ) (a b : Bool)
      → (cond a (saved BAD_MEMORY 0 out) (cond b (saved SAVE_TOO_SHORT 0 out) (saved DONE w later))).refusal ≢ DONE
      → ((cond a (saved BAD_MEMORY 0 out) (cond b (saved SAVE_TOO_SHORT 0 out) (saved DONE w later))).out ≡ out)
      × ((cond a (saved BAD_MEMORY 0 out) (cond b (saved SAVE_TOO_SHORT 0 out) (saved DONE w later))).written ≡ 0)
  saved_by w later true b h = (refl, refl)
  saved_by w later false true h = (refl, refl)
  saved_by w later false false h = absurd (h refl)

  -- a refused save writes nothing; no save changes the machine, which it does not answer
  pub unsaved_same : (save_of m out).refusal ≢ DONE → ((save_of m out).out ≡ out) × ((save_of m out).written ≡ 0)
  unfolding save_of
  unsaved_same h =
      saved_by (saved_size m) (sets out 0 (bytes_in m)) (bad_memory m.ram m.sram m.gpio m.fb)
      (ltb (length out) (saved_size m)) h

  pub save_lengths : bad_memory m.ram m.sram m.gpio m.fb ≡ true → save_of m out ≡ saved BAD_MEMORY 0 out
  unfolding save_of
  save_lengths h = rw h

  -- then 15 SaveTooShort
  pub save_short : UnitLengths m → ltb (length out) (saved_size m) ≡ true → save_of m out ≡ saved SAVE_TOO_SHORT 0 out
  unfolding save_of
  save_short u h = rw (u, h)

  -- else the bytes of the machine, from the first byte of the output on
  pub save_done : UnitLengths m → ltb (length out) (saved_size m) ≡ false
      → save_of m out ≡ saved DONE (saved_size m) (sets out 0 (bytes_in m))
  unfolding save_of
  save_done u h = rw (u, h)
