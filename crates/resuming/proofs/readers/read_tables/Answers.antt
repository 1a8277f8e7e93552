use Rattle.resuming.proofs.Entire.{tables_are}
use Rattle.resuming.proofs.readers.read_tables.Goals as goal

-- src/readers.rt:73:1
pub returns : goal.returns
returns c =
    tables_are _ c.flags_at.ensures c.read_events.ensures c.read_presses.ensures
