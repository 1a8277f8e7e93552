use Rattle.entries.specs.Answers.{stored_wide}
use Rattle.entries.proofs.replies.store_wide.Goals as goal

pub returns : goal.returns
unfolding stored_wide
returns c =
    rw (
      c.store-2.ensures,
      c.store.ensures,
    )
