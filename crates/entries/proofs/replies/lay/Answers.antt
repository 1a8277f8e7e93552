use Rattle.std.proofs.Common.{◌+◌, ◌≤◌, ◌<◌, sym, ◌∙◌, arith, length}
use Rattle.entries.specs.Answers.{answer_bytes}
use Rattle.entries.proofs.Laying.{laid_part, laid_room, no_room}
use Rattle.entries.proofs.replies.lay.Goals as goal

pub returns-then-n-lt-ANSWER_BYTES : goal.returns-then-n-lt-ANSWER_BYTES
returns-then-n-lt-ANSWER_BYTES c =
    let a = c.args in
    let short : length a.out.now < a.at + answer_bytes = omega (arith, c.if-n-lt-ANSWER_BYTES.true) in
    no_room a.out.now a.at a.answer short

pub returns-then-at-n : goal.returns-then-at-n
returns-then-at-n c =
    let a = c.args in
    let past : length a.out.now < a.at + answer_bytes = omega (arith, c.if-at-n.true, c.if-n-lt-ANSWER_BYTES.false) in
    no_room a.out.now a.at a.answer past

pub returns : goal.returns
returns c =
    let a = c.args in
    let room : a.at + answer_bytes ≤ length a.out.now = omega (
      arith,
      c.if-at-n.false,
      c.if-n-lt-ANSWER_BYTES.false,
    ) in
    laid_part a.out.now _ a.at a.answer room c.lay_in.ensures
    ∙ sym (laid_room a.out.now a.at a.answer room)
