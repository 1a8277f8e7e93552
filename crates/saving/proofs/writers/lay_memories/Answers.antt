use Rattle.std.proofs.Common.{◌++◌, length}
use Rattle.saving.proofs.Laid.{first_of, then, room}
use Rattle.session.specs.Fields.{counted}
use Rattle.session.specs.Sections.{memory_sections}
use Rattle.saving.proofs.writers.lay_memories.Goals as goal

-- src/writers.rt:143:9
pub lay_memory-second-requires : goal.lay_memory-second-requires
unfolding memory_sections
lay_memory-second-requires c =
    first_of _ _ (counted (length c.args.ram.now) c.args.ram.now)
    (counted (length c.args.sram.now) c.args.sram.now ++ (counted (length c.args.gpio.now) c.args.gpio.now
    ++ counted (length c.args.fb.now) c.args.fb.now)) c.requires

-- src/writers.rt:144:9
pub lay_memory-third-requires : goal.lay_memory-third-requires
unfolding memory_sections
lay_memory-third-requires c =
    first_of _ _ (counted (length c.args.sram.now) c.args.sram.now)
    (counted (length c.args.gpio.now) c.args.gpio.now ++ counted (length c.args.fb.now) c.args.fb.now)
    (room c.lay_memory-second.ensures (counted (length c.args.sram.now) c.args.sram.now
    ++ (counted (length c.args.gpio.now) c.args.gpio.now ++ counted (length c.args.fb.now) c.args.fb.now)) c.requires)

-- src/writers.rt:145:9
pub lay_memory-fourth-requires : goal.lay_memory-fourth-requires
unfolding memory_sections
lay_memory-fourth-requires c =
    first_of _ _ (counted (length c.args.gpio.now) c.args.gpio.now) (counted (length c.args.fb.now) c.args.fb.now)
    (room c.lay_memory-third.ensures (counted (length c.args.gpio.now) c.args.gpio.now ++ counted
    (length c.args.fb.now) c.args.fb.now)
    (room c.lay_memory-second.ensures (counted (length c.args.sram.now) c.args.sram.now ++
    (counted (length c.args.gpio.now) c.args.gpio.now ++ counted (length c.args.fb.now) c.args.fb.now)) c.requires))

-- src/writers.rt:146:5
pub lay_memory-requires : goal.lay_memory-requires
unfolding memory_sections
lay_memory-requires c =
    room c.lay_memory-fourth.ensures (counted (length c.args.fb.now) c.args.fb.now)
    (room c.lay_memory-third.ensures (counted (length c.args.gpio.now) c.args.gpio.now ++ counted
    (length c.args.fb.now) c.args.fb.now) (room c.lay_memory-second.ensures (counted (length
    c.args.sram.now) c.args.sram.now ++ (counted (length c.args.gpio.now) c.args.gpio.now ++ counted
    (length c.args.fb.now) c.args.fb.now)) c.requires))

-- src/writers.rt:131:1
pub returns : goal.returns
unfolding memory_sections
returns c =
    then c.lay_memory-second.ensures (then c.lay_memory-third.ensures
    (then c.lay_memory-fourth.ensures c.lay_memory.ensures))
