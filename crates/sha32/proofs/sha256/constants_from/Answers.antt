-- The elements of the part, one by one (`part_of`). Assumes nothing.
use Rattle.std.proofs.Common.{◌≡◌, ℕ, length, get_or, sym, refl, ap, add-zero, arith, rules}
use Rattle.sha.proofs.Elements.{part_of}
use Rattle.sha32.proofs.sha256.constants_from.Goals as goal

pub returns : goal.returns
returns c = let l : length c.args.k ≡ 64 = search rules in
    part_of c.args.k c.args.t _ (omega arith)
    (ap (λ (i : ℕ). get_or c.args.k i 0) (sym (add-zero c.args.t)), (refl, (refl, (refl, (refl, (refl, (refl, (refl, (refl, (refl, (refl, (refl, (refl, (refl, (refl, (refl, tt))))))))))))))))
