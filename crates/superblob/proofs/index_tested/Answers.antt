-- Each refusal is the first row that holds: the searches before it found nothing.
use Rattle.std.specs.Prelude.{None, Some}
use borrow.Author.Rules.{rules}
use borrow.Author.Tests.{tests}
use mathlib.Core.Path.{refl}
use native.Mathlib.Omega.{arith}
use Rattle.refusals.specs.Refusals.{holds, accepted}
use Rattle.refusals.proofs.Exact.{decides, passes}
use Rattle.refusals.proofs.Searches.{finds}
use Rattle.layout.specs.SuperBlob.{count}
use Rattle.superblob.specs.Rows.{unknown, repeated, outside, wrong_magic, overlaps, index_rows}
use Rattle.superblob.proofs.index_tested.Goals as goal

pub returns-in-Some : goal.returns-in-Some
unfolding index_rows unknown wrong_magic holds
returns-in-Some c =
    let s = c.args.sig.now in
    let n = c.read-n.ensures.count_is in
    let known = finds (unknown s) (count s) _ _ _ (Some c.in-Some.i) c.in-Some.ensures.ran (λ x b q k. search (rules, tests)) refl n in
    decides _ accepted _ _ (omega arith)

pub returns-in-Some-find : goal.returns-in-Some-find
unfolding index_rows unknown wrong_magic holds
returns-in-Some-find c =
    let s = c.args.sig.now in
    let n = c.read-n.ensures.count_is in
    let known = finds (unknown s) (count s) _ _ _ None c.in_default.ensures.ran (λ x b q k. search (rules, tests)) refl n in
    let once = finds (repeated s) (count s) _ _ _ (Some c.in-Some-find.i) c.in-Some-find.ensures.ran (λ x b q k. search (rules, tests)) refl n in
    decides _ accepted _ _ (omega arith)

pub returns-in-Some-find-2 : goal.returns-in-Some-find-2
unfolding index_rows unknown wrong_magic holds
returns-in-Some-find-2 c =
    let s = c.args.sig.now in
    let n = c.read-n.ensures.count_is in
    let known = finds (unknown s) (count s) _ _ _ None c.in_default.ensures.ran (λ x b q k. search (rules, tests)) refl n in
    let once = finds (repeated s) (count s) _ _ _ None c.in_default-find.ensures.ran (λ x b q k. search (rules, tests)) refl n in
    let inside = finds (outside s) (count s) _ _ _ (Some c.in-Some-find-2.i) c.in-Some-find-2.ensures.ran (λ x b q k. search (rules, tests)) refl n in
    decides _ accepted _ _ (omega arith)

pub returns-in-Some-find-3 : goal.returns-in-Some-find-3
unfolding index_rows unknown wrong_magic holds
returns-in-Some-find-3 c =
    let s = c.args.sig.now in
    let n = c.read-n.ensures.count_is in
    let known = finds (unknown s) (count s) _ _ _ None c.in_default.ensures.ran (λ x b q k. search (rules, tests)) refl n in
    let once = finds (repeated s) (count s) _ _ _ None c.in_default-find.ensures.ran (λ x b q k. search (rules, tests)) refl n in
    let inside = finds (outside s) (count s) _ _ _ None c.in_default-find-2.ensures.ran (λ x b q k. search (rules, tests)) refl n in
    let magic = finds (wrong_magic s) (count s) _ _ _ (Some c.in-Some-find-3.i) c.in-Some-find-3.ensures.ran (λ x b q k. search (rules, tests)) refl n in
    decides _ accepted _ _ (omega arith)

pub returns-in-Some-find-4 : goal.returns-in-Some-find-4
unfolding index_rows unknown wrong_magic holds
returns-in-Some-find-4 c =
    let s = c.args.sig.now in
    let n = c.read-n.ensures.count_is in
    let known = finds (unknown s) (count s) _ _ _ None c.in_default.ensures.ran (λ x b q k. search (rules, tests)) refl n in
    let once = finds (repeated s) (count s) _ _ _ None c.in_default-find.ensures.ran (λ x b q k. search (rules, tests)) refl n in
    let inside = finds (outside s) (count s) _ _ _ None c.in_default-find-2.ensures.ran (λ x b q k. search (rules, tests)) refl n in
    let magic = finds (wrong_magic s) (count s) _ _ _ None c.in_default-find-3.ensures.ran (λ x b q k. search (rules, tests)) refl n in
    let apart = finds (overlaps s) (count s) _ _ _ (Some c.in-Some-find-4.i) c.in-Some-find-4.ensures.ran (λ x b q k. search (rules, tests)) refl n in
    decides _ accepted _ _ (omega arith)

pub returns : goal.returns
unfolding index_rows unknown wrong_magic holds
returns c =
    let s = c.args.sig.now in
    let n = c.read-n.ensures.count_is in
    let known = finds (unknown s) (count s) _ _ _ None c.in_default.ensures.ran (λ x b q k. search (rules, tests)) refl n in
    let once = finds (repeated s) (count s) _ _ _ None c.in_default-find.ensures.ran (λ x b q k. search (rules, tests)) refl n in
    let inside = finds (outside s) (count s) _ _ _ None c.in_default-find-2.ensures.ran (λ x b q k. search (rules, tests)) refl n in
    let magic = finds (wrong_magic s) (count s) _ _ _ None c.in_default-find-3.ensures.ran (λ x b q k. search (rules, tests)) refl n in
    let apart = finds (overlaps s) (count s) _ _ _ None c.in_default-find-4.ensures.ran (λ x b q k. search (rules, tests)) refl n in
    passes _ accepted (omega arith)
