-- Each way is one law of its kind. Assumes nothing.
use Rattle.std.proofs.Common.{◌≡◌, ℕ, take, length, length-take-le, sym, ap, ◌∙◌, arith, rules}
use Rattle.layout.specs.CodeDirectory.{slot_widths, width_of}
use Rattle.refusals.specs.Ranges.{lookup}
use Rattle.sha.specs.Sha2.{sha256}
use Rattle.digest.specs.Kinds.{digest_of}
use Rattle.digest.proofs.ByKind.{of_kind, cut_kind, kinds_plainly, middle_sha256, of_cut, of_none, of_sha384}
use Rattle.digest.proofs.Digests.{extended}
use Rattle.digest.proofs.digest.Goals as goal

pub returns-in_default : goal.returns-in_default
returns-in_default c = of_none _ c.args.part.now (search rules)

pub returns-in-Sha1 : goal.returns-in-Sha1
returns-in-Sha1 c = let m = c.args.part.now in
    extended _ m _ _ (c.digest.ensures ∙ sym (kinds_plainly.by_sha1 m) ∙ ap (λ (k : ℕ). digest_of k m) (of_kind c.in-Sha1.is c.in-Some.ensures.known)) c.extend.ensures

pub slice_bounds-extend-end-in-Sha256 : goal.slice_bounds-extend-end-in-Sha256
unfolding width_of slot_widths lookup
slice_bounds-extend-end-in-Sha256 c = let n : length c.digest-in-Sha256.result ≡ 32 = search rules in
    let k = cut_kind _ _ c.in-Sha256.is c.in-Some.ensures.known in
    let q = middle_sha256 c.args.kind k.0 k.1 in
    omega (arith, n, q.1, ap width_of c.in-Some.ensures.known, c.width.ensures.value)

pub slice_bounds-extend-end-in-Sha256-2 : goal.slice_bounds-extend-end-in-Sha256-2
unfolding width_of slot_widths lookup
slice_bounds-extend-end-in-Sha256-2 c = let n : length c.digest-in-Sha256.result ≡ 32 = search rules in
    let k = cut_kind _ _ c.in-Sha256.is c.in-Some.ensures.known in
    let q = middle_sha256 c.args.kind k.0 k.1 in
    let w = c.width.ensures.value ∙ ap width_of c.in-Some.ensures.known in
    let t = length-take-le c.width.result c.digest-in-Sha256.result (omega (arith, n, q.1, w)) in
    omega (arith, n, t, q.1, w)

pub returns-in-Sha256 : goal.returns-in-Sha256
returns-in-Sha256 c = let a = c.args in
    let m = a.part.now in
    let k = cut_kind _ _ c.in-Sha256.is c.in-Some.ensures.known in
    let q = middle_sha256 a.kind k.0 k.1 in
    let w = c.width.ensures.value ∙ ap width_of c.in-Some.ensures.known in
    let d = ap (take c.width.result) c.digest-in-Sha256.ensures ∙ rw w (of_cut a.kind m sha256 q.0 q.1) in
    extended a.kind m _ _ d c.extend-in-Sha256.ensures

pub returns-in-Sha384 : goal.returns-in-Sha384
returns-in-Sha384 c = of_sha384 _ c.args.part.now (sym (of_kind c.in-Sha384.is c.in-Some.ensures.known)) c.digest-in-Sha384.ensures
