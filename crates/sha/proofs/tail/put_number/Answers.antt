use Rattle.std.proofs.Common.{ℕ, ◌+◌, ◌-◌, ◌%◌, List, set, ap₂, sym, ◌∙◌, arith}
use native.Mathlib.Nat.{div-one}
use Rattle.sha.proofs.Blocks.{put_first, put_more, shift_more}
use Rattle.sha.proofs.tail.put_number.Goals as goal

pub loop-i-init : goal.loop-i-init
loop-i-init c = let a = c.args in (sym (div-one a.x), put_first a.out.now a.at a.width a.x)

pub loop-i-preserved : goal.loop-i-preserved
loop-i-preserved c = let l = c.loop-i in
    let a = c.args in (
      shift_more l.i a.x l.y l.invariant.0,
      ap₂ (λ (o : List ℕ) (y : ℕ). set o (a.at + (a.width - 1 - l.i)) (y % 256)) l.invariant.1 l.invariant.0 ∙ put_more a.out.now a.at a.width l.i a.x (omega arith) (omega arith),
    )
