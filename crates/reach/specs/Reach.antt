-- Which flash transactions a run of selects, deselects and bytes can leave, in the compact form, over an array of n
-- bytes; and what the theorems about them say.
use Rattle.std.specs.Prelude.{ℕ, zero, suc, ◌+◌, ◌-◌, ◌%◌, ◌<◌, ◌≡◌, Bool, true, cond, ◌&&◌, ◌||◌, List, length}
use Rattle.std.specs.Prelude.{get_or, eqb, ltb, leb}
use Rattle.flash.specs.declared.Trans.{Trans}
use Rattle.flash.specs.Steps.{Step, ByteSteps}
use Rattle.flash.specs.Board.{Board}
use Rattle.flash.specs.Rust.{Sys, rust_after_steps, rxs}
use Rattle.flash.specs.Alike.{seen_of, seen}
use Rattle.flash.specs.Run.{Bytes, after_steps, answers}
use Rattle.flash.specs.Table.{made}

-- a byte of the header that has not come is 0
unfoldable pub header_ok : Trans → Bool
header_ok t =
    ((ltb 0 t.pos || eqb t.cmd 0) && (ltb 1 t.pos || eqb t.a1 0))
    && ((ltb 2 t.pos || eqb t.a2 0) && (ltb 3 t.pos || eqb t.a3 0))

-- more than 260 bytes are past the header for good; without the mark no more have come
unfoldable pub mark_ok : Trans → Bool
mark_ok t = cond t.long (leb 5 t.pos) (leb t.pos 260)

-- how far place k of the page lies behind the one where the data begin, going round
abbrev pub far : ℕ → ℕ → ℕ
far a3 k = (k + 256 - a3) % 256

-- a place of the page that no byte of data has met is FF
unfoldable pub slot_ok : Trans → ℕ → ℕ → Bool
slot_ok t k v = eqb v 255 || (t.long || ltb (far t.a3 k + 4) t.pos)

-- so for the first places of the page
unfoldable pub page_ok : Trans → List ℕ → ℕ → Bool
page_ok t p zero = true
page_ok t p (suc i) = slot_ok t i (get_or p i 0) && page_ok t p i

-- a run can leave this transaction with this page
unfoldable pub reachable : ℕ → Trans → List ℕ → Bool
reachable n t p = (leb t.pos (n + 4) && header_ok t) && (mark_ok t && page_ok t p 256)

-- what the types say: the header is bytes, and the page 256 of them
pub record Shaped (t : Trans) (p : List ℕ) : Type 0 where
  pub cmd : t.cmd < 256
  pub a1 : t.a1 < 256
  pub a2 : t.a2 < 256
  pub a3 : t.a3 < 256
  pub size : length p ≡ 256
  pub bytes : Bytes p

-- both, of a board: it asks only the length of the array
pub record Reached (b : Board) : Type 0 where
  pub trans : reachable (length b.array) b.chip.tx b.page ≡ true
  pub shaped : Shaped b.chip.tx b.page

-- some steps leave them of the chip as it is made, selected or not
pub record Left (m : List ℕ) (on : Bool) (t : Trans) (p : List ℕ) : Type 0 where
  pub steps : List Step
  pub bytes : ByteSteps steps
  pub cs : (after_steps (made m) steps).chip.cs ≡ on
  pub tx : (after_steps (made m) steps).chip.tx ≡ t
  pub page : (after_steps (made m) steps).page ≡ p

-- a state of sys.rs that does the same from there on: every byte is answered alike, and what can be seen is the same
pub record FromRust (b : Board) : Type 0 where
  pub sys : Sys
  pub answered : (xs : List Step) → ByteSteps xs → answers b xs ≡ rxs sys xs
  pub left : (xs : List Step) → ByteSteps xs → seen (after_steps b xs) ≡ seen_of (rust_after_steps sys xs)
