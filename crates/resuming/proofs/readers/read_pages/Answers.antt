use Rattle.resuming.proofs.Entire.{pages_are}
use Rattle.resuming.proofs.readers.read_pages.Goals as goal

pub returns : goal.returns
returns c =
    pages_are _ c.args.n c.flags_at-p.ensures c.told-rtc c.told-page c.copy_in.ensures c.copy_in-2.ensures
