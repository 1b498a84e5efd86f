use Prim.Native.Nat.{ℕ, ◌*◌, ◌%◌}
use mathlib.Core.Path.{refl, ap, ◌∙◌}
use mathlib.Core.List.{List}
use native.Mathlib.Omega.{arith}
use lib.ListN.{get_or}
use Rattle.sha.specs.Sha2.{k256}
use Rattle.sha256x4.proofs.Lanes.{length_put, put_lanes}
use Rattle.sha256x4.proofs.Steps.{ran_none, ran_more, ran_last}
use borrow.Author.Rules.{rules}
use Rattle.sha256x4.proofs.block.first_rounds.Goals as goal

pub loop-t-init : goal.loop-t-init
unfolding k256
loop-t-init c = (search rules, refl, (ran_none _ _ 0, ran_none _ _ 1, ran_none _ _ 2, ran_none _ _ 3))

pub loop-t-preserved : goal.loop-t-preserved
loop-t-preserved c = let l = c.loop-t in
    let r = c.round_step-n.ensures in
    let x = c.words_at.ensures in
    let p = put_lanes 16 (l.t % 16) _ _ _ _ l.w (omega arith) l.invariant.0 in (
      length_put l.w (4 * (l.t % 16)) _ _ _ _ ∙ l.invariant.0,
      l.invariant.1,
      (
        ran_more _ _ _ _ _ l.t 0 _ _ (ap (λ (x : List ℕ). get_or x l.t 0) l.invariant.1) r.0 _ _ (omega arith) x.0 c.new_word-a.ensures p.0 l.invariant.2.0,
        ran_more _ _ _ _ _ l.t 1 _ _ (ap (λ (x : List ℕ). get_or x l.t 0) l.invariant.1) r.1 _ _ (omega arith) x.1 c.new_word-b.ensures p.1 l.invariant.2.1,
        ran_more _ _ _ _ _ l.t 2 _ _ (ap (λ (x : List ℕ). get_or x l.t 0) l.invariant.1) r.2 _ _ (omega arith) x.2 c.new_word-c.ensures p.2 l.invariant.2.2,
        ran_more _ _ _ _ _ l.t 3 _ _ (ap (λ (x : List ℕ). get_or x l.t 0) l.invariant.1) r.3 _ _ (omega arith) x.3 c.new_word-d.ensures p.3 l.invariant.2.3,
      ),
    )

pub returns : goal.returns
returns c = let l = c.loop-t in
    let i = l.invariant.2 in (
      ran_last _ _ _ _ l.t 0 (omega arith) i.0,
      ran_last _ _ _ _ l.t 1 (omega arith) i.1,
      ran_last _ _ _ _ l.t 2 (omega arith) i.2,
      ran_last _ _ _ _ l.t 3 (omega arith) i.3,
    )
