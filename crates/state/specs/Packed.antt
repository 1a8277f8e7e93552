-- The words of parts: the cells and the floats that say them and nothing else. A bank that holds just the words of
-- its parts is packed: a flag is 0 or 1, a number lies within its width, a byte that may be absent is at most 256.
-- Every call leaves a packed bank packed, so that the later parts say every later word.
use Rattle.std.specs.Prelude.{ℕ, ◌+◌, ◌≡◌, ◌≢◌, List, [], ◌∷◌, ◌++◌, length, get_or, set, take, drop, ltb, Bool}
use Rattle.std.specs.Prelude.{cond, Float, None, Some}
use Rattle.map.specs.Numbers.{TIMER_COUNT}
use Rattle.whole.specs.Forms.{bit}
use Rattle.flash.specs.declared.Mode.{Mode}
use Rattle.flash.specs.declared.Mode.TheVariants.{Rust, Strict}
use Rattle.flash.specs.declared.Chip.{Chip}
use Rattle.flash.specs.declared.Trans.{Trans}
use Rattle.panel.specs.Lcd.{MaybeByte}
use Rattle.panel.specs.declared.Panel.{Panel}
use Rattle.panel.specs.declared.Pen.{Pen}
use Rattle.clock.specs.declared.Times.{Times}
use Rattle.timer.specs.declared.Timer.{Timer}
use Rattle.keys.specs.declared.Keys.{Keys}
use Rattle.state.specs.declared.Clocks.{Clocks}
use Rattle.state.specs.declared.Parts.{Parts}
use Rattle.state.specs.Parts.{none}
use Rattle.state.specs.Bank.{parts_in}

-- ---- a thing as a number

unfoldable pub mode_number : Mode → ℕ
mode_number Rust = 0
mode_number Strict = 1

unfoldable pub maybe_number : MaybeByte → ℕ
maybe_number None = 256
maybe_number (Some b) = b

-- ---- the words of each part, in the order of their places

-- of the flash what a transfer changes: its answer and the transaction
abbrev pub sent_cells : ℕ → Trans → List ℕ
sent_cells rx tx = rx ∷ tx.cmd ∷ tx.a1 ∷ tx.a2 ∷ tx.a3 ∷ tx.pos ∷ bit tx.long ∷ []

unfoldable pub chip_cells : Chip → List ℕ
chip_cells c = mode_number c.mode ∷ bit c.cs ∷ bit c.wel ∷ c.writes ∷ sent_cells c.rx c.tx

-- of the panel what a pixel changes
abbrev pub pen_cells : Pen → List ℕ
pen_cells p = p.x ∷ p.y ∷ maybe_number p.half ∷ p.frames ∷ []

unfoldable pub panel_cells : Panel → List ℕ
panel_cells p =
    maybe_number p.cmd
    ∷ get_or p.args 0 0
    ∷ get_or p.args 1 0
    ∷ get_or p.args 2 0
    ∷ get_or p.args 3 0
    ∷ p.count
    ∷ p.window.x0
    ∷ p.window.x1
    ∷ p.window.y0
    ∷ p.window.y1
    ∷ pen_cells p.pen

-- f of each of the six timers
abbrev pub of_timers : {A : Type 0} → (Timer → A) → List Timer → List A
of_timers f ts =
    f (get_or ts 0 none) ∷ f (get_or ts 1 none) ∷ f (get_or ts 2 none) ∷ f (get_or ts 3 none) ∷ f (get_or ts 4 none) ∷ f
    (get_or ts 5 none) ∷ []

unfoldable pub clock_cells : Clocks → List ℕ
clock_cells c =
    of_timers (λ t. t.seen) c.timers
    ++ (of_timers (λ t. bit t.pending) c.timers ++ (c.irq.fired ∷ c.irq.base ∷ c.vsync ∷ bit c.converting
    ∷ []))

unfoldable pub key_cells : Keys → List ℕ
key_cells k = k.count ∷ bit k.live.a ∷ bit k.live.b ∷ bit k.live.c ∷ k.applied ∷ []

unfoldable pub cells_of : Parts → List ℕ
cells_of x =
    chip_cells x.devices.flash
    ++ (panel_cells x.devices.panel
    ++ (clock_cells x.devices.clocks
    ++ (x.devices.latch.base
    ∷ x.devices.latch.out
    ∷ bit x.devices.off
    ∷ x.ring.head
    ∷ x.ring.count
    ∷ key_cells x.keys)))

unfoldable pub times_floats : Times → List Float
times_floats t = t.now ∷ t.game ∷ t.turbo ∷ []

unfoldable pub floats_of : Parts → List Float
floats_of x =
    times_floats x.devices.clocks.times
    ++ (of_timers (λ t. t.start) x.devices.clocks.timers
    ++ (x.devices.clocks.irq.set
    ∷ x.devices.latch.since
    ∷ x.devices.tone.frequency
    ∷ x.devices.tone.duty
    ∷ x.keys.holds.a
    ∷ x.keys.holds.b
    ∷ x.keys.holds.c
    ∷ []))

-- ---- packed

pub record Packed (l : List ℕ) (f : List Float) : Type 0 where
  pub cells : cells_of (parts_in l f) ≡ l
  pub floats : floats_of (parts_in l f) ≡ f

-- from a bank to a later one
abbrev pub StaysPacked : List ℕ → List Float → List ℕ → List Float → Type 0
StaysPacked l f l' f' = Packed l f → Packed l' f'

-- the same, of a call that answers n; and where it is refused every word is as it was, packed or not
pub record Answered (n : ℕ) (l : List ℕ) (f : List Float) (l' : List ℕ) (f' : List Float) : Type 0 where
  pub packed : StaysPacked l f l' f'
  pub still : n ≢ 0 → (l' ≡ l) × (f' ≡ f)

-- ---- one part put

-- words in a row, from a place on
unfoldable pub laid_at : {A : Type 0} → List A → ℕ → List A → List A
laid_at l at s = take at l ++ (s ++ drop (at + length s) l)

-- every later word, w and v, and that they make the parts x
pub record Put (l : List ℕ) (f : List Float) (l' : List ℕ) (f' : List Float) (w : List ℕ) (v : List Float)
    (x : Parts) : Type 0 where
  pub cells : l' ≡ w
  pub floats : f' ≡ v
  pub parts : parts_in l' f' ≡ x
  pub packed : StaysPacked l f l' f'

-- the cells alone are lent, or the floats
abbrev pub CellsPut : List ℕ → List ℕ → List ℕ → (Parts → Parts) → Type 0
CellsPut l l' w g = (f : List Float) → Put l f l' f w f (g (parts_in l f))

abbrev pub FloatsPut : List Float → List Float → List Float → (Parts → Parts) → Type 0
FloatsPut f f' v g = (l : List ℕ) → Put l f l f' l v (g (parts_in l f))

-- timer n of the six; there is no other
unfoldable pub timer_cells : List ℕ → ℕ → Timer → List ℕ
timer_cells l n t = cond (ltb n TIMER_COUNT) (set (set l (25 + n) t.seen) (31 + n) (bit t.pending)) l

unfoldable pub timer_floats : List Float → ℕ → Timer → List Float
timer_floats f n t = cond (ltb n TIMER_COUNT) (set f (3 + n) t.start) f

-- key 0, 1 or 2; there is no other
unfoldable pub live_cells : List ℕ → ℕ → Bool → List ℕ
live_cells l key down = cond (ltb key 3) (set l (47 + key) (bit down)) l

unfoldable pub hold_floats : List Float → ℕ → Float → List Float
hold_floats f key until = cond (ltb key 3) (set f (13 + key) until) f
