-- Turbo, keys and sound events over the bank.
use Rattle.std.proofs.Common.{◌≡◌, ℕ, Bool, true, false, cond, ◌≢◌, List, sym, ap, ◌∙◌, arith}
use lib.Ieee.{Float}
use Rattle.std.specs.Prelude.{Err, Ok, Result}
use Rattle.map.specs.declared.refusals.Refusal.{Refusal}
use Rattle.map.specs.declared.refusals.Refusal.TheVariants.{BadTurbo}
use Rattle.whole.specs.Limits.{good_turbo}
use Rattle.clock.specs.declared.Times.{Times}
use Rattle.clock.specs.Times.{Moved}
use Rattle.clock.specs.Times.{paced_of}
use Rattle.timer.specs.declared.Event.{Event}
use Rattle.timer.specs.declared.Ring.{Ring}
use Rattle.timer.specs.Events.{queue_of, TakeOutcome, take_of}
use Rattle.timer.specs.declared.Queue.{Queue}
use Rattle.timer.proofs.Waiting.{take_still}
use Rattle.keys.specs.declared.Keys.{Keys}
use Rattle.map.specs.Refusals.{code_of, number_of}
use Rattle.keys.proofs.Still.{live_still, press_still}
use Rattle.keys.proofs.Cases.{live_by, hold_by}
use Rattle.keys.specs.Live as live
use Rattle.keys.specs.Live.{key_refusal, live_of, tap_of, tap_put, hold_of}
use Rattle.keys.specs.Script as script
use Rattle.keys.specs.Script.{press_of}
use Rattle.state.specs.declared.Parts.{Parts}
use Rattle.state.specs.Parts.{turbo_with, times_put, turbo_put, ring_put, count_put, live_put}
use Rattle.state.specs.Bank.{times_in, ring_in, keys_in, parts_in}
use Rattle.time.specs.Bank.{Asked, asked, paced_put, keys_asked, pressed, pressed_of, took, took_of}

-- ---- turbo

pub paced_by : (x : Parts) (t : Times) {to : Moved} {y : Parts} → to ≡ Ok t
    → t ≡ turbo_with x.devices.clocks.times t.turbo → y ≡ turbo_put x t.turbo
    → asked y 0 ≡ paced_put x to
paced_by x t {to} {y} h k e = rw h (ap (λ (z : Parts). asked z 0) (e ∙ ap (λ (z : Times). times_put x z) (sym k)))

pub paced_bad : (x : Parts) (r : Refusal) {to : Moved} → to ≡ Err r → asked x (code_of r) ≡ paced_put x to
paced_bad x r h = rw h

-- set_turbo moves the turbo alone
pub paced_turbo : {s : Times} (f : List Float) (to : Float) {p : Moved} (t : Times) → s ≡ times_in f → p ≡ paced_of s to
    → p ≡ Ok t
    → t ≡ turbo_with (times_in f) t.turbo
unfolding paced_of
paced_turbo {s} f to t a b e = by (good_turbo to) (sym (b ∙ ap (λ (z : Times). paced_of z to) a) ∙ e)
  where
    by : (g : Bool) → cond g (Ok (turbo_with (times_in f) to)) (Err BadTurbo) ≡ Ok t → t
        ≡ turbo_with (times_in f) t.turbo
    by true h = let z : turbo_with (times_in f) to ≡ t = cc in rw (← z)
    by false h = absurd (let z : ◌≡◌ {A = ℕ} 0 1 = cc in omega arith)

pub paced_of_lem : {K : Type 0} (x : Parts) (f : List Float) (to : Float) {times : Times} {p : Moved} {a : Asked}
    → times ≡ times_in f → p ≡ paced_of times to
    → (a ≡ paced_put x p) × K → (a ≡ paced_put x (paced_of (times_in f) to)) × K
paced_of_lem x f to t e h = (h.0 ∙ ap (λ (z : Moved). paced_put x z) (e ∙ ap (λ (z : Times). paced_of z to) t), h.1)

-- ---- keys

-- a live key, by what is decided of it; refused, the keys are as they were
module _ (x : Parts) (key : ℕ) (down : Bool) {r : Result Unit Refusal} {n : ℕ} (e : r ≡ key_refusal key)
    (h : n ≡ number_of r) where
  asks : n ≡ (live_of x.keys key down).refusal
  asks = h ∙ ap number_of e ∙ ap (λ (o : live.Outcome). o.refusal) (live_by x.keys key down)

  pub live_refused : n ≢ 0 → asked x n ≡ keys_asked x (live_of x.keys key down)
  live_refused k = rw (asks, live_still x.keys key down (λ z. k (asks ∙ z)))

  pub live_done : {y : Parts} → y ≡ live_put x key down → asked y n ≡ keys_asked x (live_of x.keys key down)
  live_done i =
      ap (λ (z : Parts). asked z n) i ∙ ap (λ (z : ℕ). asked (live_put x key down) z) (h ∙ ap number_of e)
      ∙ ap (λ (o : live.Outcome). keys_asked x o) (live_by x.keys key down)

-- and a tap
pub hold_of_lem : {K : Type 0} (x : Parts) (key : ℕ) (until : Float) {t : Result Float Refusal} {a : Asked} → t
    ≡ tap_of key until
    → (a ≡ keys_asked x (tap_put x.keys key t)) × K → (a ≡ keys_asked x (hold_of x.keys key until)) × K
hold_of_lem x key until e i = (i.0 ∙ ap (λ (o : live.Outcome). keys_asked x o) (hold_by x.keys key until e), i.1)

pub press_of_lem : (t : List Float) (c l : List ℕ) (f : List Float) (key : ℕ) (at : Float) {moment : Times}
    {before : Keys} {k n m : ℕ} {t' : List Float} {c' : List ℕ} {y : Parts}
    → moment ≡ times_in f → before ≡ keys_in l f
    → record { refusal = k; script = script.script t' c' n } ≡ press_of (script.script t c before.count) key at
    moment.now → y ≡ count_put (parts_in l f) n → m ≡ k
    → pressed t' c' (asked y m) ≡ pressed_of (parts_in l f) (press_of (script.script t c (keys_in l f).count) key at
    (times_in f).now)
press_of_lem t c l f key at {moment} {before} {k} {n} {m} {t'} {c'} {y} a b e h i =
    let o : record { refusal = k; script = script.script t' c' n } ≡ press_of (script.script t c (keys_in l f).count)
    key at (times_in f).now
    = e ∙ ap (λ (z : Keys). press_of (script.script t c z.count) key at moment.now) b ∙ ap
    (λ (z : Times). press_of (script.script t c (keys_in l f).count) key at z.now) a in
    ap (λ (z : Parts). pressed t' c' (asked z m)) h ∙ ap
    (λ (z : ℕ). pressed t' c' (asked (count_put (parts_in l f) n) z)) i
    ∙ ap (λ (z : script.Outcome). pressed_of (parts_in l f) z) o

-- refused, the count is as it was
pub count_still : (t : List Float) (c l : List ℕ) (f : List Float) (key : ℕ) (at now : Float) {before : Keys}
    {k n : ℕ} {t' : List Float} {c' : List ℕ}
    → before ≡ keys_in l f → record { refusal = k; script = script.script t' c' n } ≡ press_of
    (script.script t c before.count) key at now → k ≢ 0
    → parts_in l f ≡ count_put (parts_in l f) n
count_still t c l f key at now {before} {k} {n} b e h =
    let s : script.Script = script.script t c before.count in
    let z : (press_of s key at now).script ≡ s = press_still s key at now
    (λ w. h (ap (λ (o : script.Outcome). o.refusal) e ∙ w)) in
    let m : n ≡ (keys_in l f).count
    = ap (λ (o : script.Outcome). o.script.count) e ∙ ap (λ (o : script.Script). o.count) z ∙ ap
    (λ (o : Keys). o.count) b in
    ap (λ (o : ℕ). count_put (parts_in l f) o) (sym m)

-- ---- sound events

pub take_of_lem : (a f u : List Float) (l : List ℕ) (v : List Float) {ring q : Ring} {e : Event} {k m : ℕ}
    {a' f' u' : List Float} {y : Parts} → ring ≡ ring_in l
    → record { refusal = k; event = e; queue = queue_of a' f' u' q } ≡ take_of (queue_of a f u ring)
    → y ≡ ring_put (parts_in l v) q → m ≡ k
    → took a' f' u' (asked y m) e ≡ took_of (parts_in l v) (take_of (queue_of a f u (ring_in l)))
take_of_lem a f u l v {ring} {q} {e} {k} {m} {a'} {f'} {u'} {y} r o h i =
    ap (λ (z : Parts). took a' f' u' (asked z m) e) h ∙ ap
    (λ (z : ℕ). took a' f' u' (asked (ring_put (parts_in l v) q) z) e) i
    ∙ ap (λ (z : TakeOutcome). took_of (parts_in l v) z) (o ∙ ap (λ (z : Ring). take_of (queue_of a f u z)) r)

-- where none waits, the ring is as it was
pub ring_still : (a f u : List Float) (l : List ℕ) (v : List Float) {ring q : Ring} {e : Event} {k : ℕ}
    {a' f' u' : List Float} → ring ≡ ring_in l
    → record { refusal = k; event = e; queue = queue_of a' f' u' q } ≡ take_of (queue_of a f u ring) → k ≢ 0
    → parts_in l v ≡ ring_put (parts_in l v) q
ring_still a f u l v {ring} {q} r o h =
    let z : (take_of (queue_of a f u ring)).queue ≡ queue_of a f u ring = take_still (queue_of a f u ring)
    (λ w. h (ap (λ (x : TakeOutcome). x.refusal) o ∙ w)) in
    let m : q ≡ ring_in l = ap (λ (x : TakeOutcome). x.queue.ring) o ∙ ap (λ (x : Queue). x.ring) z ∙ r in
    ap (λ (x : Ring). ring_put (parts_in l v) x) (sym m)
