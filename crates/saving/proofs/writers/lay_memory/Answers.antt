use Rattle.saving.proofs.Laid.{head_room, then, room}
use Rattle.saving.proofs.writers.lay_memory.Goals as goal

-- src/writers.rt:127:9
pub put-next-requires : goal.put-next-requires
put-next-requires c = head_room _ _ _ _ c.requires

-- src/writers.rt:128:5
pub copy_out-requires : goal.copy_out-requires
copy_out-requires c =
    room c.put-next.ensures (c.args.bytes.now) c.requires

-- src/writers.rt:122:1
pub returns : goal.returns
returns c =
    then c.put-next.ensures c.copy_out.ensures
