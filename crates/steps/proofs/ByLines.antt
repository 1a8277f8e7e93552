-- The machine prints what the lines print, for every input whose lines a u64 can number.
--
-- The rest of the input and the line so far stand for the lines that are left: by induction on the rest.
use Rattle.std.proofs.Common.{◌≡◌, ℕ, ◌+◌, ◌%◌, ◌^◌, ◌<◌, Bool, true, false, eqb, List, [], ◌∷◌, ◌++◌, length, sym}
use Rattle.std.proofs.Common.{refl, ◌∙◌, append_assoc, append-nil, arith, eqb-true}
use borrow.Author.Tests.{eqb-false}
use Rattle.flash.specs.Pick.{pick}
use Rattle.flash.specs.Board.{Board}
use Rattle.flash.specs.Flash.{selected, transferred}
use Rattle.flash.specs.declared.Mode.{Mode}
use Rattle.steps.specs.Rule.{step_of}
use Rattle.steps.specs.Text.{text_of}
use Rattle.steps.specs.Machine.{World, world, with_output, says, grown, is_empty, session_over, board_of, chosen}
use Rattle.steps.specs.Machine.{sent, obeyed, fed, finished, after_bytes, closed, fresh, whole_run}
use Rattle.steps.specs.Lines.{lines_from, lines, line_left, and_then, prints}
use Rattle.steps.specs.declared.Line.{Line}
use Rattle.steps.specs.declared.Line.TheVariants.{Empty, One, Two, Longer}
use Rattle.steps.specs.declared.Step.{Step}
use Rattle.steps.specs.declared.Step.TheVariants.{Select, Deselect, Byte, Other}
use Rattle.steps.specs.declared.Output.TheVariants.{Nothing}
use Rattle.steps.proofs.Cases.{over_fed, over_finished, newline_fed, grown_fed, within_finished}

-- ---- the line so far
-- what the machine keeps of a line
abbrev line_of : List ℕ → Line
line_of [] = Empty
line_of (a ∷ []) = One a
line_of (a ∷ b ∷ []) = Two a b
line_of (a ∷ b ∷ c ∷ rest) = Longer

says_line : (l : List ℕ) → says (line_of l) ≡ step_of l
says_line [] = refl
says_line (a ∷ []) = refl
says_line (a ∷ b ∷ []) = refl
says_line (a ∷ b ∷ c ∷ rest) = refl

grows : (l : List ℕ) (c : ℕ) → grown (line_of l) c ≡ line_of (l ++ (c ∷ []))
grows [] c = refl
grows (a ∷ []) c = refl
grows (a ∷ b ∷ []) c = refl
grows (a ∷ b ∷ d ∷ rest) c = refl

begins : (a : ℕ) (l : List ℕ) → is_empty (line_of (a ∷ l)) ≡ false
begins a [] = refl
begins a (b ∷ []) = refl
begins a (b ∷ c ∷ rest) = refl

-- ---- the machine to the end of the input
total : World → List ℕ → List ℕ
total w input = (after_bytes w input).text ++ (closed (finished (after_bytes w input).world)).text

total_cons : (w : World) (c : ℕ) (cs : List ℕ) → total w (c ∷ cs)
    ≡ text_of (fed w c).output ++ total (fed w c).world cs
unfolding after_bytes total
total_cons w c cs = append_assoc (text_of (fed w c).output) (after_bytes (fed w c).world cs).text _

total_nil : (w : World) → total w [] ≡ (closed (finished w)).text
unfolding after_bytes total
total_nil w = refl

-- a session that is over prints nothing
over_ends : (w : World) → w.session.over ≡ true → (closed (finished w)).text ≡ []
over_ends w o = rw (← over_finished w o, o)

silent : (w : World) → w.session.over ≡ true → (cs : List ℕ) → total w cs ≡ []
silent w o [] = total_nil w ∙ over_ends w o
silent w o (c ∷ cs) = total_cons w c cs ∙ rw (← over_fed w c o) (silent w o cs)

-- ---- within a session: the line so far and its number
abbrev at : Board → List ℕ → ℕ → World
at b l n = world (record { chip = b.chip; line = line_of l; number = n; over = false }) b.page b.array

fed_newline : (b : Board) (l : List ℕ) (n c : ℕ) → eqb c 10 ≡ true → fed (at b l n) c ≡ obeyed (step_of l) (at b l n)
fed_newline b l n c e = sym (newline_fed (at b l n) c refl (eqb-true c 10 e)) ∙ rw (says_line l)

fed_other : (b : Board) (l : List ℕ) (n c : ℕ) → eqb c 10 ≡ false
    → fed (at b l n) c ≡ with_output Nothing (at b (l ++ (c ∷ [])) n)
fed_other b l n c e = sym (grown_fed (at b l n) c refl (eqb-false c 10 e) refl) ∙ rw (grows l c)

ends_begun : (b : Board) (a : ℕ) (l : List ℕ) (n : ℕ) → finished (at b (a ∷ l) n)
    ≡ obeyed (step_of (a ∷ l)) (at b (a ∷ l) n)
ends_begun b a l n = sym (within_finished (at b (a ∷ l) n) refl (begins a l)) ∙ rw (says_line (a ∷ l))

-- the last line of an input without its newline
closes : (s : Step) (b : Board) (l : List ℕ) (n : ℕ) → (closed (obeyed s (at b l n))).text
    ≡ and_then s b n (λ (next : Board). prints next (n + 1) [])
unfolding chosen sent prints
closes Select b l n = refl
closes Deselect b l n = refl
closes (Byte x) b l n = refl
closes Other b l n = append-nil _

ends : (l : List ℕ) (b : Board) (n : ℕ) → (closed (finished (at b l n))).text ≡ prints b n (line_left l)
unfolding finished prints
ends [] b n = refl
ends (a ∷ l) b n = rw (ends_begun b a l n) (closes (step_of (a ∷ l)) b (a ∷ l) n)

-- a line that its newline ends
goes_on : (s : Step) (b : Board) (l : List ℕ) (n : ℕ) (cs : List ℕ) → (n + 1) % 2 ^ 64 ≡ n + 1 → (rest : List (List ℕ))
    → ((next : Board) → total (at next [] (n + 1)) cs ≡ prints next (n + 1) rest)
    → text_of (obeyed s (at b l n)).output ++ total (obeyed s (at b l n)).world cs
    ≡ and_then s b n (λ (next : Board). prints next (n + 1) rest)
unfolding chosen sent
goes_on Select b l n cs e rest ih = rw e (ih (selected b true).board)
goes_on Deselect b l n cs e rest ih = rw e (ih (selected b false).board)
goes_on (Byte x) b l n cs e rest ih = rw (e, ih (transferred b x).board)
goes_on Other b l n cs e rest ih = rw (silent (obeyed Other (at b l n)).world refl cs) (append-nil _)

from : (cs l : List ℕ) (b : Board) (n : ℕ) → n + length cs < 2 ^ 64 → total (at b l n) cs ≡ prints b n (lines_from l cs)
unfolding lines_from prints
from [] l b n h = total_nil (at b l n) ∙ ends l b n
from (c ∷ cs) l b n h =
    total_cons (at b l n) c cs
    ∙ by (eqb c 10) refl (λ (next : Board). from cs [] next (n + 1) (omega arith))
    (from cs (l ++ (c ∷ [])) b n (omega arith))
  where
    by : (t : Bool) → eqb c 10 ≡ t
        → ((next : Board) → total (at next [] (n + 1)) cs ≡ prints next (n + 1) (lines_from [] cs))
        → total (at b (l ++ (c ∷ [])) n) cs ≡ prints b n (lines_from (l ++ (c ∷ [])) cs)
        → text_of (fed (at b l n) c).output ++ total (fed (at b l n) c).world cs
        ≡ prints b n (pick t (l ∷ lines_from [] cs) (lines_from (l ++ (c ∷ [])) cs))
    by true e session_over begun =
        rw (fed_newline b l n c e) (goes_on (step_of l) b l n cs (omega arith) (lines_from [] cs) session_over)
    by false e session_over begun = rw (fed_other b l n c e) begun

-- what a whole run prints
pub by_lines : (e : Mode) (input : List ℕ) → length input + 1 < 2 ^ 64
    → (whole_run e input).text ≡ prints (board_of (fresh e)) 1 (lines input)
unfolding whole_run total
by_lines e input h = from input [] (board_of (fresh e)) 1 (omega arith)
