use Rattle.std.proofs.Common.{sym, ◌∙◌}
use Rattle.resuming.proofs.Deciding.{too_short, over_words, over_presses, over_events, wrong_size, right_size}
use Rattle.resuming.proofs.judge.good_session.Goals as goal

-- src/judge.rt:130:9
pub returns-then-len-lt-LEAST : goal.returns-then-len-lt-LEAST
returns-then-len-lt-LEAST c = too_short _ c.if-len-lt-LEAST.true

-- src/judge.rt:132:9
-- src/judge.rt:134:9
pub returns-then-n-gt256 : goal.returns-then-n-gt256
returns-then-n-gt256 c = over_words _ c.if-len-lt-LEAST.false c.count-n.ensures c.if-n-gt256.true

-- src/judge.rt:136:22
-- src/judge.rt:136:22
-- src/judge.rt:136:9
-- src/judge.rt:138:9
pub returns-then-k-gt64 : goal.returns-then-k-gt64
returns-then-k-gt64 c =
    over_presses _ c.if-len-lt-LEAST.false c.count-n.ensures c.if-n-gt256.false c.flags_at.ensures c.count-k.ensures
    c.if-k-gt64.true

-- src/judge.rt:140:22
-- src/judge.rt:140:22
-- src/judge.rt:140:22
-- src/judge.rt:140:46
-- src/judge.rt:140:22
-- src/judge.rt:140:9
-- src/judge.rt:142:9
pub returns-then-e-gt256 : goal.returns-then-e-gt256
returns-then-e-gt256 c =
    over_events _ c.if-len-lt-LEAST.false c.count-n.ensures c.if-n-gt256.false c.flags_at.ensures c.count-k.ensures
    c.if-k-gt64.false c.flags_at-2.ensures c.count-e.ensures c.if-e-gt256.true

-- src/judge.rt:144:20
-- src/judge.rt:144:30
-- src/judge.rt:144:39
-- src/judge.rt:145:9
pub returns-then-len-size : goal.returns-then-len-size
returns-then-len-size c =
    wrong_size _ c.if-len-lt-LEAST.false c.count-n.ensures c.if-n-gt256.false c.flags_at.ensures c.count-k.ensures
    c.if-k-gt64.false c.flags_at-2.ensures c.count-e.ensures c.if-e-gt256.false
    (λ h. c.if-len-size.true (h ∙ sym c.size.ensures))

-- src/judge.rt:147:5
pub good_body-requires : goal.good_body-requires
good_body-requires c =
    (c.if-len-size.false ∙ c.size.ensures, (c.if-n-gt256.false, (c.if-k-gt64.false, c.if-e-gt256.false)))

-- src/judge.rt:125:1
pub returns : goal.returns
returns c =
    right_size _ c.if-len-lt-LEAST.false c.count-n.ensures c.if-n-gt256.false c.flags_at.ensures c.count-k.ensures
    c.if-k-gt64.false c.flags_at-2.ensures c.count-e.ensures c.if-e-gt256.false (c.if-len-size.false
    ∙ c.size.ensures) c.good_body.ensures
