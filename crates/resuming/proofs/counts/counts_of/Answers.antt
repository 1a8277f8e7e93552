use Rattle.std.proofs.Common.{arith}
use Rattle.resuming.proofs.Deciding.{good_least, good_words, good_presses_few, good_shape}
use Rattle.resuming.proofs.counts.counts_of.Goals as goal

-- src/counts.rt:20:9
-- src/counts.rt:21:9
pub flags_at-p-requires : goal.flags_at-p-requires
flags_at-p-requires c = good_words _ c.requires c.count-n.ensures

-- src/counts.rt:22:22
-- src/counts.rt:22:9
-- src/counts.rt:23:22
-- src/counts.rt:23:22
-- src/counts.rt:23:36
-- src/counts.rt:23:22
-- src/counts.rt:23:9
-- src/counts.rt:16:1
pub returns : goal.returns
returns c =
    good_shape _ c.requires c.count-n.ensures c.flags_at-p.ensures c.count-k.ensures c.count-e.ensures

pub count-n-requires : goal.count-n-requires
count-n-requires c = omega (arith, good_least _ c.requires)

pub overflow_add-p : goal.overflow_add-p
overflow_add-p c =
    omega (arith, c.flags_at-p.ensures, good_words _ c.requires c.count-n.ensures)

pub count-k-requires : goal.count-k-requires
count-k-requires c =
    omega (arith, c.flags_at-p.ensures, good_least _ c.requires, good_words _ c.requires c.count-n.ensures)

pub overflow_add-p-2 : goal.overflow_add-p-2
overflow_add-p-2 c =
    omega (arith, c.flags_at-p.ensures, good_words _ c.requires c.count-n.ensures)

pub overflow_add-p-3 : goal.overflow_add-p-3
overflow_add-p-3 c =
    omega (arith, c.flags_at-p.ensures, good_words _ c.requires c.count-n.ensures)

pub overflow_mul-k : goal.overflow_mul-k
overflow_mul-k c =
    omega (arith, good_presses_few _ c.requires c.count-n.ensures c.flags_at-p.ensures c.count-k.ensures)

pub overflow_add-p-4 : goal.overflow_add-p-4
overflow_add-p-4 c =
    omega (
      arith,
      c.flags_at-p.ensures,
      good_words _ c.requires c.count-n.ensures,
      good_presses_few _ c.requires c.count-n.ensures c.flags_at-p.ensures c.count-k.ensures,
    )

pub count-e-requires : goal.count-e-requires
count-e-requires c =
    omega (
      arith,
      c.flags_at-p.ensures,
      good_least _ c.requires,
      good_words _ c.requires c.count-n.ensures,
      good_presses_few _ c.requires c.count-n.ensures c.flags_at-p.ensures c.count-k.ensures,
    )
