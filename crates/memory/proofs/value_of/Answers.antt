use Rattle.std.proofs.Common.{rules, ◌≡◌, ◌+◌, ◌*◌, ◌%◌, ◌^◌, ◌∙◌, reverse, fold, arith}
use Rattle.memory.proofs.Cases.{le_word, le_half, le_byte, le_reverse}
use Rattle.memory.proofs.value_of.Goals as goal

pub returns-in-len4 : goal.returns-in-len4
returns-in-len4 c = le_word _ _ _ c.type_inv.bytes (omega arith) c.from_le_bytes-in-len4.ensures

pub returns-in-len2 : goal.returns-in-len2
returns-in-len2 c = le_half _ _ _ c.type_inv.bytes (omega arith) (c.from-in-len2.ensures ∙ c.from_le_bytes.ensures)

pub returns-in-len1 : goal.returns-in-len1
returns-in-len1 c = le_byte _ _ _ c.type_inv.bytes (omega arith) c.from.ensures

pub returns-in_default : goal.returns-in_default
returns-in_default c =
    let e : c.fold.result ≡ fold (λ v b. (b + 256 * v) % 2 ^ 32) 0 (reverse c.args.bytes.now) = search rules in
    e ∙ le_reverse c.args.bytes.now
