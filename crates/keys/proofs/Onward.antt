-- The 64 places do as the Rust's list from any state within the limits on: the proof of a run takes any start whose two
-- sides hold the same presses.
use Prim.Native.Nat.{ℕ, ◌<◌}
use mathlib.Core.Path.{◌≡◌, sym, ◌∙◌}
use mathlib.Core.List.{List}
use native.Mathlib.Omega.{arith}
use lib.Dec.{T}
use lib.ListN.{length, get_or, take}
use lib.Seq.{length-take-le, get_or-take}
use lib.Ieee.{Float, nan}
use Rattle.whole.specs.Limits.{good_time}
use Rattle.keys.specs.Keys.{Buttons}
use Rattle.keys.specs.Script.{places_of}
use Rattle.keys.specs.Rust.{Sides, after}
use Rattle.keys.specs.Within.{Within}
use Rattle.keys.specs.Onward.{sides_of, Floats, AsRustFrom}
use Rattle.keys.proofs.Cases.{places_most}
use Rattle.keys.proofs.Literal.{Same, run_same, held_same, edge_same}

module _ (b : Buttons) (w : Within b) where
  abbrev n : ℕ
  n = places_of b.keys.count

  long : {A : Type 0} (l : List A) → length l ≡ 64 → length (take n l) ≡ n
  long l e = length-take-le n l (let m = places_most b.keys.count in omega (arith, e))

  -- a press of the list is at a place
  below : (j : ℕ) → j < length (take n b.starts) → j < n
  below j l = rw (long b.starts w.starts) at l

  time_at : (j : ℕ) → j < n → get_or (take n b.starts) j nan ≡ get_or b.starts j nan
  time_at j l = get_or-take n b.starts j nan l

  code_at : (j : ℕ) → j < n → get_or (take n b.codes) j 0 ≡ get_or b.codes j 0
  code_at j l = get_or-take n b.codes j 0 l

  same_from : (now : Float) → Floats b → T (good_time now) → Same (sides_of b now)
  same_from now f g =
      record {
        now = g;
        starts = w.starts;
        codes = w.codes;
        even = long b.codes w.codes ∙ sym (long b.starts w.starts);
        good = λ j l. rw (time_at j (below j l)) (w.presses j (below j l)).time;
        float = λ j l. rw (time_at j (below j l)) (f j (below j l));
        pushed = λ i l. record {
          place = i;
          below = rw (long b.starts w.starts) l;
          time = time_at i l;
          key = code_at i l;
        };
        waiting = λ j l h. record {
          place = j;
          below = below j l;
          time = sym (time_at j (below j l));
          key = sym (code_at j (below j l));
        };
      }

-- ---- from there on
pub as_rust_from : AsRustFrom
as_rust_from b now w f g acts o k =
    let s : Sides = after (sides_of b now) acts in
    let h : Same s = run_same acts (sides_of b now) (same_from b w now f g) o in
    (held_same s h k, edge_same s h k)
