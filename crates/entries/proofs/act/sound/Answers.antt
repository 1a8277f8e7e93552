use Rattle.entries.proofs.Refused.{refused_sound}
use Rattle.entries.proofs.act.sound.Goals as goal

pub returns-in-Err : goal.returns-in-Err
returns-in-Err c = refused_sound c.args.waited _ c.in-Err.is c.plain.ensures
