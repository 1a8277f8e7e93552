use Rattle.std.proofs.Common.{◌≡◌, ℕ, zero, suc, ◌<◌, List, [], ◌∷◌, ◌++◌, length, get_or, take, drop}
use Rattle.std.proofs.Common.{set, refl, ap, ◌∙◌, append-nil, le_of_eq, le_refl, le_of_suc-le-suc, not-suc-le-zero}
use Rattle.std.proofs.Common.{add-one, arith, drop_of_length-le, take_all, bit_and}
use Rattle.flash.specs.Finish.{ands}
use Rattle.flash.proofs.Long.{ands_long}
use Rattle.flash.proofs.array.program.Goals as goal

-- one more byte ANDed
step : (k : ℕ) (p m : List ℕ) → k < length p
    → set (take k (ands p m) ++ drop k p) k (bit_and (get_or (take k (ands p m) ++ drop k p) k 0) (get_or m k 0)) ≡ take
    (suc k) (ands p m) ++ drop (suc k) p
step k [] m l = absurd (not-suc-le-zero l)
step zero (x ∷ p) [] l = refl
step (suc k) (x ∷ p) [] l = ap (λ (t : List ℕ). bit_and x 0 ∷ t) (step k p [] (le_of_suc-le-suc l))
step zero (x ∷ p) (y ∷ m) l = refl
step (suc k) (x ∷ p) (y ∷ m) l = ap (λ (t : List ℕ). bit_and x y ∷ t) (step k p m (le_of_suc-le-suc l))

whole : (p m : List ℕ) → take (length p) (ands p m) ++ drop (length p) p ≡ ands p m
whole p m =
    rw (drop_of_length-le p (le_refl (length p)), append-nil) (take_all (length p) (ands p m) (le_of_eq
    (ands_long p m)))

pub loop-k-preserved : goal.loop-k-preserved
loop-k-preserved c =
    let l = c.loop-k in
    let p : List ℕ = c.args.part.now in
    let m : List ℕ = c.args.mask.now in
    let less : l.k < length p = omega arith in
    rw (l.invariant, add-one) (step l.k p m less)

pub returns : goal.returns
returns c =
    let p : List ℕ = c.args.part.now in
    let m : List ℕ = c.args.mask.now in
    let e : c.loop-k.k ≡ length p = omega arith in
    c.loop-k.invariant ∙ rw e (whole p m)
