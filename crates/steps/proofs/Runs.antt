-- Laws of many bytes: one more byte of a chunk, chunk after chunk, the end, and the room that the answers take.
use Rattle.std.proofs.Common.{◌≡◌, ℕ, suc, ◌+◌, ◌<◌, ◌≤◌, Bool, true, false, eqb, List, [], ◌∷◌, ◌++◌, length}
use Rattle.std.proofs.Common.{get_or, drop, sym, refl, ap, ◌∙◌, append_assoc, append-nil, add-one, arith}
use Rattle.std.proofs.Common.{drop_of_length-le, drop-cons, eqb-true}
use borrow.Author.Tests.{eqb-false}
use Rattle.flash.specs.Board.{chip_with_page}
use Rattle.flash.specs.Flash.{made_in}
use Rattle.flash.specs.declared.Mode.{Mode}
use Rattle.flash.specs.declared.Chip.{Chip}
use Rattle.flash.specs.declared.SpiFlash.{SpiFlash}
use Rattle.steps.specs.Text.{text_of}
use Rattle.steps.specs.Machine.{World, WorldOutput, Printed, world, with_output, says, chosen, sent, obeyed, fed}
use Rattle.steps.specs.Machine.{printed, joined, after_bytes, finished, closed, erased_array, new_session, fresh}
use Rattle.steps.specs.Inner.{Reaches}
use Rattle.steps.specs.Machine.{whole_run, RunEnd}
use Rattle.steps.specs.declared.Output.{Output}
use Rattle.steps.specs.declared.Session.{Session}
use Rattle.steps.specs.declared.Step.{Step}
use Rattle.steps.specs.declared.Step.TheVariants.{Select, Deselect, Byte, Other}
use Rattle.steps.proofs.Cases.{over_fed, newline_fed, grown_fed}
use Rattle.steps.proofs.Texts.{bad_long}

-- ---- one byte more
joined_joined : (a b : List ℕ) (p : Printed) → joined (a ++ b) p ≡ joined a (joined b p)
joined_joined a b p = ap (λ (t : List ℕ). printed t p.world) (append_assoc a b p.text)

bytes_cons : (w : World) (c : ℕ) (cs : List ℕ) → after_bytes w (c ∷ cs)
    ≡ joined (text_of (fed w c).output) (after_bytes (fed w c).world cs)
unfolding after_bytes
bytes_cons w c cs = refl

pub go_on : (w v : World) (chunk : List ℕ) (i : ℕ) {output : Output} (a : List ℕ) {b : List ℕ} → i < length chunk
    → with_output output v ≡ fed w (get_or chunk i 0) → b ≡ a ++ text_of output
    → joined b (after_bytes v (drop (i + 1) chunk)) ≡ joined a (after_bytes w (drop i chunk))
go_on w v chunk i {output} a {b} l e h =
    rw (add-one, drop-cons chunk i 0 l, bytes_cons, ← e, h)
    (joined_joined a (text_of output) (after_bytes v (drop (suc i) chunk)))

pub no_more : (w : World) (chunk : List ℕ) (i : ℕ) {a : List ℕ} {p : Printed} → length chunk ≤ i
    → joined a (after_bytes w (drop i chunk)) ≡ p → printed a w ≡ p
unfolding after_bytes
no_more w chunk i {a} l h =
    ap (λ (t : List ℕ). printed t w) (sym (append-nil a)) ∙ (rw (drop_of_length-le chunk l) at h)

-- ---- some bytes
-- however an input is cut into chunks, the same is printed
pub bytes_append : (w : World) (a b : List ℕ) → after_bytes w (a ++ b)
    ≡ joined (after_bytes w a).text (after_bytes (after_bytes w a).world b)
unfolding after_bytes
bytes_append w [] b = refl
bytes_append w (c ∷ a) b =
    rw (bytes_append (fed w c).world a b)
    (sym (joined_joined (text_of (fed w c).output) (after_bytes (fed w c).world a).text
    (after_bytes (after_bytes (fed w c).world a).world b)))

pub reaches_none : (w : World) → Reaches w w
unfolding after_bytes
reaches_none w = record { input = []; stands = refl }

pub reaches_chunk : {w v : World} (chunk : List ℕ) {a : List ℕ} → printed a v ≡ after_bytes w chunk → Reaches w v
reaches_chunk chunk e = record { input = chunk; stands = ap (λ (p : Printed). p.world) e }

pub reaches_more : {w v u : World} → Reaches w v → Reaches v u → Reaches w u
reaches_more {w} {v} {u} h k =
    record {
      input = h.input ++ k.input;
      stands = k.stands ∙ rw h.stands (sym (ap (λ (p : Printed). p.world) (bytes_append w h.input k.input)));
    }

-- a run from a fresh chip
pub run_end : (e : Mode) (chip : Chip) (page array : List ℕ) (s : Session) {v u : World} {a : List ℕ}
    → chip_with_page chip page ≡ made_in e → array ≡ erased_array → s ≡ new_session chip → Reaches
    (world s page array) v
    → printed a u ≡ closed (finished v) → RunEnd e u.session
unfolding whole_run
run_end e chip page array s {v} {u} m f b h k =
    let c : chip ≡ (made_in e).chip = ap (λ (f : SpiFlash). f.chip) m in
    let p : page ≡ (made_in e).page = ap (λ (f : SpiFlash). f.page) m in
    let z : world s page array ≡ fresh e = rw (b, c, p, f) in
    let g : v ≡ (after_bytes (fresh e) h.input).world = h.stands
    ∙ ap (λ (w : World). (after_bytes w h.input).world) z in
    record {
      input = h.input;
      stands = ap (λ (q : Printed). q.world.session) (k ∙ ap (λ (w : World). closed (finished w)) g);
    }

-- ---- room: what is kept free before a bad line and after it
abbrev pub spare : Bool → ℕ
spare true = 25
spare false = 50

pub spare_within : (b : Bool) → (25 ≤ spare b) × (spare b ≤ 50)
spare_within true = omega arith
spare_within false = omega arith

-- what a byte says and what is kept free after it
abbrev takes : WorldOutput → ℕ
takes t = length (text_of t.output) + spare t.world.session.over

step_room : (s : Step) (w : World) → takes (obeyed s w) ≤ 53
unfolding chosen sent
step_room Select w = omega arith
step_room Deselect w = omega arith
step_room (Byte b) w = omega arith
step_room Other w = omega (arith, bad_long w.session.number)

room : (w : World) (c : ℕ) → takes (fed w c) ≤ 3 + spare w.session.over
room w c = by w.session.over (eqb c 10) refl refl
  where
    by : (o n : Bool) → w.session.over ≡ o → eqb c 10 ≡ n → takes (fed w c) ≤ 3 + spare o
    by true n o e = rw (← over_fed w c o, o) (omega arith)
    by false true o e = rw (← newline_fed w c o (eqb-true c 10 e)) (step_room (says w.session.line) w)
    by false false o e = rw (← grown_fed w c o (eqb-false c 10 e) refl, o) (omega arith)

pub room_on : (w : World) (c : ℕ) {t : WorldOutput} → t ≡ fed w c → takes t ≤ 3 + spare w.session.over
room_on w c e = rw e (room w c)
