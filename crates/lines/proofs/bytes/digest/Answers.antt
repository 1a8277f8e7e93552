-- `bytes::digest` meets its contract: the fold over the bytes is their digest.
use Rattle.std.proofs.Common.{◌≡◌, ◌∙◌, ◌+◌, ◌*◌, ◌%◌, ◌^◌, fold, rules}
use Rattle.lines.proofs.Laws.{digest_whole}
use Rattle.lines.proofs.bytes.digest.Goals as goal

pub returns : goal.returns
returns c =
    let folded : c.fold.result ≡ fold (λ d b. (d * 31 + b) % 2 ^ 64) 0 c.args.bytes.now = search rules in
    folded ∙ digest_whole c.args.bytes.now
