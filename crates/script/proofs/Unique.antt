-- The contracts leave one outcome each: the answer, the four memories and the output.
use Prim.Native.Nat.{ℕ}
use mathlib.Core.Path.{◌≡◌, ap}
use mathlib.Core.List.{List}
use Rattle.whole.proofs.Unique.{unique}
use Rattle.runner.specs.Script.{Ended, ended}

-- of tg18_run_script and of runner::loops::run_script
pub one_run : (d : Ended) (i j : ℕ) (ram ram' sram sram' gpio gpio' fb fb' out out' : List ℕ)
    → ended i ram sram gpio fb out ≡ d → ended j ram' sram' gpio' fb' out' ≡ d
    → (i ≡ j) × (ram ≡ ram') × (sram ≡ sram') × (gpio ≡ gpio') × (fb ≡ fb') × (out ≡ out')
one_run d i j ram ram' sram sram' gpio gpio' fb fb' out out' x y =
    let e : ended i ram sram gpio fb out ≡ ended j ram' sram' gpio' fb' out' = unique x y in (
      ap (λ (o : Ended). o.refusal) e,
      ap (λ (o : Ended). o.ram) e,
      ap (λ (o : Ended). o.sram) e,
      ap (λ (o : Ended). o.gpio) e,
      ap (λ (o : Ended). o.fb) e,
      ap (λ (o : Ended). o.out) e,
    )
