use Rattle.entries.proofs.Refused.{refused_moment}
use Rattle.entries.proofs.act.moment.Goals as goal

pub returns-in-Err : goal.returns-in-Err
returns-in-Err c = refused_moment c.args.next _ c.in-Err.is c.plain.ensures
