-- The machine that takes the input byte by byte: the definition that the contracts cite.
use Rattle.std.specs.Prelude.{◌≡◌, ℕ, ◌+◌, ◌%◌, ◌^◌, Bool, true, false, List, [], ◌∷◌, ◌++◌, replicate, ◌==◌}
use Rattle.flash.specs.Pick.{pick}
use Rattle.flash.specs.Board.{Board, board}
use Rattle.flash.specs.Flash.{selected, transferred, made_in}
use Rattle.flash.specs.declared.Chip.{Chip}
use Rattle.flash.specs.declared.Mode.{Mode}
use Rattle.steps.specs.Rule.{sign_of, pair_of}
use Rattle.steps.specs.Text.{text_of, last_line}
use Rattle.steps.specs.declared.Line.{Line}
use Rattle.steps.specs.declared.Line.TheVariants.{Empty, One, Two, Longer}
use Rattle.steps.specs.declared.Step.{Step}
use Rattle.steps.specs.declared.Step.TheVariants.{Select, Deselect, Byte, Other}
use Rattle.steps.specs.declared.Output.{Output}
use Rattle.steps.specs.declared.Output.TheVariants.{Nothing, Answer, Bad}
use Rattle.steps.specs.declared.Session.{Session}
use Rattle.steps.specs.declared.Fed.{Fed}

-- everything that a byte can change: the session, and the lent page and array
pub record World : Type 0 where
  pub session : Session
  pub page : List ℕ
  pub array : List ℕ

-- what is to be printed, and the later world
pub record WorldOutput : Type 0 where
  pub output : Output
  pub world : World

abbrev pub world : Session → List ℕ → List ℕ → World
world s p m = record { session = s; page = p; array = m }

abbrev pub world_output : Fed → List ℕ → List ℕ → WorldOutput
world_output r p m = record { output = r.output; world = world r.session p m }

abbrev pub with_output : Output → World → WorldOutput
with_output s w = record { output = s; world = w }

-- ---- the line so far
abbrev pub grown : Line → ℕ → Line
grown Empty c = One c
grown (One a) c = Two a c
grown (Two a b) c = Longer
grown Longer c = Longer

abbrev pub says : Line → Step
says Empty = Other
says (One a) = sign_of a
says (Two a b) = pair_of a b
says Longer = Other

abbrev pub is_empty : Line → Bool
is_empty Empty = true
is_empty (One a) = false
is_empty (Two a b) = false
is_empty Longer = false

-- ---- a session
-- at the start of the next line
abbrev pub next_line : Chip → ℕ → Session
next_line c n = record { chip = c; line = Empty; number = (n + 1) % 2 ^ 64; over = false }

abbrev pub with_line : Session → Line → Session
with_line s l = record { chip = s.chip; line = l; number = s.number; over = s.over }

abbrev pub session_over : Session → Session
session_over s = record { chip = s.chip; line = s.line; number = s.number; over = true }

abbrev pub board_of : World → Board
board_of w = board w.session.chip w.page w.array

abbrev pub next_world : World → Board → World
next_world w b = world (next_line b.chip w.session.number) b.page b.array

-- a select or a deselect
unfoldable pub chosen : World → Bool → WorldOutput
chosen w on = with_output Nothing (next_world w (selected (board_of w) on).board)

-- a transfer
unfoldable pub sent : World → ℕ → WorldOutput
sent w b = with_output (Answer (transferred (board_of w) b).answer) (next_world w (transferred (board_of w) b).board)

-- a whole line
abbrev pub obeyed : Step → World → WorldOutput
obeyed Select w = chosen w true
obeyed Deselect w = chosen w false
obeyed (Byte b) w = sent w b
obeyed Other w = with_output (Bad w.session.number) (world (session_over w.session) w.page w.array)

abbrev pub line_done : World → WorldOutput
line_done w = obeyed (says w.session.line) w

-- one byte more: a newline, 10, ends a line; nothing is done once the session is over
unfoldable pub fed : World → ℕ → WorldOutput
fed w c =
    pick w.session.over
    (with_output Nothing w)
    (pick (c == 10) (line_done w)
    (with_output Nothing (world (with_line w.session (grown w.session.line c)) w.page w.array)))

-- the end of the input: a line that has begun is whole
unfoldable pub finished : World → WorldOutput
finished w =
    pick w.session.over (with_output Nothing w)
    (pick (is_empty w.session.line) (with_output Nothing w) (line_done w))

-- ---- many bytes
-- all that was printed, and the later world
pub record Printed : Type 0 where
  pub text : List ℕ
  pub world : World

abbrev pub printed : List ℕ → World → Printed
printed t w = record { text = t; world = w }

abbrev pub joined : List ℕ → Printed → Printed
joined t p = printed (t ++ p.text) p.world

-- the bytes of a list, one after the other
unfoldable pub after_bytes : World → List ℕ → Printed
after_bytes w [] = printed [] w
after_bytes w (c ∷ cs) = joined (text_of (fed w c).output) (after_bytes (fed w c).world cs)

-- ---- a whole run
-- an array of 65,536 bytes of FF
unfoldable pub erased_array : List ℕ
erased_array = replicate 65536 255

abbrev pub new_session : Chip → Session
new_session c = record { chip = c; line = Empty; number = 1; over = false }

-- a chip as it is made in a mode; flashsteps' is the Rust's
abbrev pub fresh : Mode → World
fresh e = world (new_session (made_in e).chip) (made_in e).page erased_array

-- what the end of the input says, and the last line where no line was bad
abbrev pub closed : WorldOutput → Printed
closed t =
    printed
    (text_of t.output ++ pick t.world.session.over []
    (last_line t.world.session.chip.wel t.world.session.chip.writes t.world.array))
    t.world

-- all that is printed for an input, and where it ends
unfoldable pub whole_run : Mode → List ℕ → Printed
whole_run e input = joined (after_bytes (fresh e) input).text (closed (finished (after_bytes (fresh e) input).world))

-- where a run on some input ends
pub record RunEnd (e : Mode) (s : Session) : Type 0 where
  pub input : List ℕ
  pub stands : s ≡ (whole_run e input).world.session
