-- A part of a script: what is loaded of it is loaded of the whole.
use Prim.Native.Nat.{ℕ, zero, suc, ◌+◌, ◌-◌, ◌≤◌, ◌<◌}
use mathlib.Core.Path.{◌≡◌, refl}
use mathlib.Core.List.{List}
use native.Mathlib.Omega.{arith}
use lib.ListN.{length, get_or, drop}
use lib.Seq.{get_or-take, get_or-drop}
use borrow.Author.Tests.{le-leb}
use Rattle.memory.specs.Bytes.{le, loaded}
use Rattle.entries.proofs.Laying.{part, part_long}
use Rattle.runner.specs.Format.{press_bytes, step_bytes, wide, press_from, step_from}

module _ (s : List ℕ) (o j : ℕ) (h : o + j ≤ length s) where
  le_part : (n k q : ℕ) → q ≡ o + k → k + n ≤ j → le (part s o j) k n ≡ le s q n
  unfolding le
  le_part zero k q e l = refl
  le_part (suc n) k q e l =
      let i : k < o + j - o = omega arith in
      let first : get_or (part s o j) k 0 ≡ get_or s q 0 = rw
      (get_or-take (o + j - o) (drop o s) k 0 i, get_or-drop, e) in
      let rest : le (part s o j) (k + 1) n ≡ le s (q + 1) n = le_part n (k + 1) (q + 1) (omega arith) (omega arith) in
      rw (first, rest)

  load_part : (k n q : ℕ) → q ≡ o + k → k + n ≤ j → loaded (part s o j) k n ≡ loaded s q n
  unfolding loaded
  load_part k n q e l =
      let h' : q + n ≤ length s = omega arith in
      rw (part_long s o j h, le-leb _ _ l, le-leb _ _ h') (le_part n k q e l)

  wide_part : (k q : ℕ) → q ≡ o + k → k + 8 ≤ j → wide (part s o j) k ≡ wide s q
  unfolding wide
  wide_part k q e l = rw (load_part k 4 q e (omega arith), load_part (k + 4) 4 (q + 4) (omega arith) (omega arith))

module _ (s : List ℕ) where
  pub press_part : (o : ℕ) → o + press_bytes ≤ length s → press_from (part s o press_bytes) 0 ≡ press_from s o
  unfolding press_from
  press_part o h =
      let a : loaded (part s o press_bytes) 0 1 ≡ loaded s o 1 = load_part s o press_bytes h 0 1 o (omega arith)
      (omega arith) in
      let b : wide (part s o press_bytes) 1 ≡ wide s (o + 1) = wide_part s o press_bytes h 1 (o + 1) (omega arith)
      (omega arith) in
      rw (a, b)

  pub step_part : (o : ℕ) → o + step_bytes ≤ length s → step_from (part s o step_bytes) 0 ≡ step_from s o
  unfolding step_from
  step_part o h =
      let a : loaded (part s o step_bytes) 0 1 ≡ loaded s o 1 = load_part s o step_bytes h 0 1 o (omega arith)
      (omega arith) in
      let b : loaded (part s o step_bytes) 1 1 ≡ loaded s (o + 1) 1 = load_part s o step_bytes h 1 1 (o + 1)
      (omega arith) (omega arith) in
      let c : loaded (part s o step_bytes) 4 4 ≡ loaded s (o + 4) 4 = load_part s o step_bytes h 4 4 (o + 4)
      (omega arith) (omega arith) in
      let d : wide (part s o step_bytes) 8 ≡ wide s (o + 8) = wide_part s o step_bytes h 8 (o + 8) (omega arith)
      (omega arith) in
      rw (a, b, c, d)
