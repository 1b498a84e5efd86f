use Rattle.std.proofs.Common.{◌≡◌, ℕ, suc, ◌+◌, ◌*◌, ◌<◌, ◌≤◌, length, mul-suc, sym, ◌∙◌, arith, take_all}
use Rattle.std.proofs.Math.Nat.{mul-le-mul_left}
use Rattle.std.proofs.lemmas.List.{length-replicate}
use Rattle.sha.proofs.Blocks.{all_bytes_more, all_bytes_none}
use Rattle.sha.proofs.hash.write_words.Goals as goal

room : (z i n k : ℕ) → k ≡ z * n → i < n → z * i + z ≤ k
room z i n k e h = omega (arith, e, mul-suc z i, mul-le-mul_left {m = suc i} {n = n} z (omega arith))

pub loop-i-init : goal.loop-i-init
loop-i-init g c = (length-replicate _ _ ∙ sym c.requires, all_bytes_none c.args.z _ _)

pub loop-i-preserved : goal.loop-i-preserved
loop-i-preserved g c = let l = c.loop-i in
    let z = c.args.z in (
      c.put_number.auto.out ∙ l.invariant.0,
      all_bytes_more z l.i c.args.h.now l.out c.put_number.new.out (room z l.i _ _ l.invariant.0 c.loop-i-test.true) l.invariant.1 c.put_number.ensures,
    )

pub returns : goal.returns
returns g c = let l = c.loop-i in
    let e : l.i ≡ length c.args.h.now = omega arith in
    let b : length l.out ≤ c.args.z * length c.args.h.now = omega (arith, l.invariant.0) in
    sym (take_all (c.args.z * length c.args.h.now) l.out b) ∙ rw e at l.invariant.1
