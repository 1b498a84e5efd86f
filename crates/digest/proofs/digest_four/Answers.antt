-- Each digest is the cut of its SHA-256 digest to the kind's width (`of_cut`). Assumes nothing.
use Rattle.std.proofs.Common.{◌≡◌, ℕ, List, get_or, take, [], ap, ◌∙◌}
use Rattle.sha.specs.Hash.{digest}
use Rattle.sha.specs.Sha2.{sha256}
use Rattle.digest.specs.Kinds.{digest_of}
use Rattle.digest.proofs.ByKind.{of_cut}
use Rattle.digest.proofs.Digests.{extended}
use Rattle.digest.proofs.digest_four.Goals as goal

pub returns : goal.returns
returns c = let a = c.args in
    let w = c.slot_width-width.ensures.0 in
    let q = c.requires in
    let at = λ (i : ℕ). ap (λ (l : List (List ℕ)). take c.slot_width-width.result (get_or l i [])) c.digests-x.ensures in
    let cut : (m : List ℕ) → take c.slot_width-width.result (digest sha256 m) ≡ digest_of a.kind m =
    λ m. rw w (of_cut a.kind m sha256 q.cut q.narrow) in (
      extended a.kind a.a.now _ _ (at 0 ∙ cut a.a.now) c.extend.ensures,
      extended a.kind a.b.now _ _ (at 1 ∙ cut a.b.now) c.extend-2.ensures,
      extended a.kind a.c.now _ _ (at 2 ∙ cut a.c.now) c.extend-3.ensures,
      extended a.kind a.d.now _ _ (at 3 ∙ cut a.d.now) c.extend-4.ensures,
    )
