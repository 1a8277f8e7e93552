-- An access to a memory by its size: 1, 2 or 4, and any other refused.
use Prim.Native.Nat.{ℕ}
use mathlib.Core.Path.{◌≡◌, refl}
use mathlib.Core.Bool.{true, false}
use mathlib.Core.List.{List}
use mathlib.Core.Logic.{◌≢◌}
use borrow.Author.Tests.{ne_eqb}
use Rattle.map.specs.Numbers.{DONE, BAD_SIZE}
use Rattle.memory.specs.Access.{good_size}
use Rattle.memory.specs.Bytes.{loaded, stored_at}
use Rattle.bus.specs.Answers.{WriteAnswer}
use Rattle.bus.specs.Answers.{Got}
use Rattle.bus.specs.Inner.{without_event, sized_got, sized_put, sized_number}

pub good_one : good_size 1 ≡ true
unfolding good_size
good_one = refl

pub good_two : good_size 2 ≡ true
unfolding good_size
good_two = refl

pub good_four : good_size 4 ≡ true
unfolding good_size
good_four = refl

-- k is one of these
module _ (n k : ℕ) (e : n ≡ k) (g : good_size k ≡ true) (m : List ℕ) (o : ℕ) where
  pub got_sized : {v : ℕ} → v ≡ loaded m o k
      → ◌≡◌ {A = Got} (record { refusal = DONE; value = v }) (sized_got n (loaded m o n))
  got_sized h = rw (e, g, h)

  pub put_sized : (v : ℕ) {l : List ℕ} {t : WriteAnswer} → l ≡ stored_at m o k v → t ≡ without_event DONE
      → (l ≡ sized_put m o n v) × (t ≡ without_event (sized_number n))
  put_sized v h f = (rw (e, g, h), rw (e, g) f)

module _ (n : ℕ) (a : n ≢ 1) (b : n ≢ 2) (c : n ≢ 4) where
  bad : good_size n ≡ false
  unfolding good_size
  bad = rw (ne_eqb _ _ a, ne_eqb _ _ b, ne_eqb _ _ c)

  pub got_refused : (v : ℕ) {x : Got} → x ≡ record { refusal = BAD_SIZE; value = 0 } → x ≡ sized_got n v
  got_refused v h = rw bad h

  pub put_refused : (m : List ℕ) (o v : ℕ) {t : WriteAnswer} → t ≡ without_event BAD_SIZE
      → (m ≡ sized_put m o n v) × (t ≡ without_event (sized_number n))
  put_refused m o v f = (rw bad, rw bad f)
