use Rattle.entries.specs.Answers.{answer_laid}
use Rattle.entries.proofs.replies.lay_in.Goals as goal

pub returns : goal.returns
unfolding answer_laid
returns c =
    rw (
      c.store_wide-3.ensures,
      c.store_wide-2.ensures,
      c.store_wide.ensures,
      c.store.ensures,
    )
