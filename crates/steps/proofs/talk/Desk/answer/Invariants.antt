-- `talk::Desk::answer` meets its contract: what is said so far, and what the rest of the chunk says.
use Rattle.std.proofs.Common.{◌≡◌, ◌+◌, ◌-◌, ◌*◌, ◌≤◌, length, drop}
use Rattle.steps.specs.Machine.{joined, after_bytes}
use Rattle.steps.specs.Inner.{world_of}
use Rattle.steps.proofs.Runs.{spare}
use Rattle.steps.proofs.talk.Desk.answer.Given as goal

abbrev pub invariant-loop-byte : goal.invariant-loop-byte
invariant-loop-byte l = record {
  room : length l.out.items + 3 * (length l.chunk - l.byte-index) + spare l.self.session.over ≤ 12352;
  said : joined l.out.items (after_bytes (world_of l.self) (drop l.byte-index l.chunk)) ≡ after_bytes
      (world_of l.fn.self) l.chunk;
}
