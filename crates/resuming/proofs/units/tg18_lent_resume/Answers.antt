use Rattle.std.proofs.Common.{sym, ◌∙◌, arith}
use Rattle.resuming.proofs.Entire.{resume_bad, resume_refused, resume_done, words_still, words_read}
use Rattle.resuming.proofs.units.tg18_lent_resume.Goals as goal

-- src/units.rt:97:9
pub returns-then-bad_memory : goal.returns-then-bad_memory
returns-then-bad_memory c = (
  resume_bad _ _ (sym c.bad_memory.ensures ∙ c.if-bad_memory.true),
  words_still _ _ _ (λ e. omega (
    arith,
    e,
  )),
)

-- src/units.rt:100:9
pub returns-then-not-good_session : goal.returns-then-not-good_session
returns-then-not-good_session c = (
  resume_refused _ _ (sym c.bad_memory.ensures ∙ c.if-bad_memory.false) (sym c.good_session.ensures ∙
      c.if-not-good_session.true),
  words_still _ _ _ (λ e. omega (arith, e)),
)

-- src/units.rt:102:5
pub read-requires : goal.read-requires
read-requires c = (
  sym c.good_session.ensures ∙ c.if-not-good_session.false,
  sym c.bad_memory.ensures ∙ c.if-bad_memory.false,
)

-- src/units.rt:67:1
pub returns : goal.returns
returns c = (
  resume_done _ _ (sym c.bad_memory.ensures ∙ c.if-bad_memory.false)
      (sym c.good_session.ensures ∙ c.if-not-good_session.false) c.read.ensures.0,
  words_read _ _ c.read.ensures.1,
)
