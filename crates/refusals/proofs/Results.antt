-- A test's result: a refusal has a number, and one table after another in the words of results.
use mathlib.Core.Bool.{true, false, true≢false}
use mathlib.Core.List.{List, ◌++◌}
use mathlib.Core.Path.{◌≡◌, refl, sym, ap}
use Rattle.std.specs.Prelude.{Result, Ok, Err}
use Rattle.std.specs.Result.{is_ok}
use native.Mathlib.Omega.{arith}
use Rattle.refusals.specs.declared.Answer.{Answer}
use Rattle.refusals.specs.declared.refusal.Refusal.{Refusal}
use Rattle.refusals.specs.declared.refusal.Refusal.TheVariants as refusal
use Rattle.refusals.specs.Refusals.{Row, accepted, first, Passes}
use Rattle.refusals.specs.Named.{answer_of, test_answer}
use Rattle.refusals.proofs.Exact.{Unused, passed}
use Rattle.refusals.proofs.Joined.{stops, goes_on}

-- what refuses has a number
pub refused : (r : Refusal) → (answer_of r).number ≡ 0 → ⊥
refused refusal.InputLength e = omega (arith, e)
refused refusal.SuperBlobMagic e = omega (arith, e)
refused refusal.BlobCount e = omega (arith, e)
refused refusal.SuperBlobLength e = omega (arith, e)
refused (refusal.UnknownType p) e = omega (arith, e)
refused (refusal.RepeatedType p) e = omega (arith, e)
refused (refusal.BlobOutside p) e = omega (arith, e)
refused (refusal.BlobMagic p) e = omega (arith, e)
refused (refusal.BlobsOverlap p) e = omega (arith, e)
refused refusal.NoDirectory e = omega (arith, e)
refused refusal.Version e = omega (arith, e)
refused refusal.DirectoryHead e = omega (arith, e)
refused refusal.HashKind e = omega (arith, e)
refused refusal.PageSize e = omega (arith, e)
refused refusal.CodeLimit e = omega (arith, e)
refused refusal.SlotCount e = omega (arith, e)
refused refusal.SlotsOutside e = omega (arith, e)
refused refusal.Identifier e = omega (arith, e)
refused refusal.ImageLength e = omega (arith, e)
refused refusal.MarksLength e = omega (arith, e)
refused (refusal.ThingMissing p) e = omega (arith, e)
refused (refusal.OtherHash p) e = omega (arith, e)
refused (refusal.EmptySlot p) e = omega (arith, e)
refused refusal.CacheForm e = omega (arith, e)
refused (refusal.CacheOrder p) e = omega (arith, e)
refused refusal.NotListed e = omega (arith, e)
refused (refusal.OtherKind p) e = omega (arith, e)
refused (refusal.UnknownCategory p) e = omega (arith, e)
refused refusal.SelfConstraint e = omega (arith, e)
refused refusal.ParentConstraint e = omega (arith, e)
refused (refusal.PageDiffers p) e = omega (arith, e)
refused refusal.RangeOutside e = omega (arith, e)
refused refusal.ContentsLength e = omega (arith, e)
refused (refusal.BadMark p) e = omega (arith, e)
refused refusal.Scatter e = omega (arith, e)
refused refusal.MachHeader e = omega (arith, e)
refused (refusal.LoadCommand p) e = omega (arith, e)
refused refusal.NoSignature e = omega (arith, e)
refused (refusal.SignatureCommand p) e = omega (arith, e)
refused (refusal.SignatureOutside p) e = omega (arith, e)
refused (refusal.SignatureStart p) e = omega (arith, e)
refused refusal.Flags e = omega (arith, e)

-- the refusal of the first table stands
pub err_stops : (rows more : List Row) (done : Answer) (r : Refusal) → answer_of r ≡ first rows accepted → answer_of r ≡ first (rows ++ more) done
err_stops rows more done r e = stops rows more done (answer_of r) e (refused r)

-- where it refuses nothing the second decides
pub ok_passes : (rows : List Row) → Unused rows 0 → accepted ≡ first rows accepted → Passes rows
ok_passes rows u e = passed rows accepted 0 u (sym (ap (λ (a : Answer). a.number) e))

pub ok_goes : (rows more : List Row) (done b : Answer) → Unused rows 0 → accepted ≡ first rows accepted → b ≡ first more done → b ≡ first (rows ++ more) done
ok_goes rows more done b u e f = goes_on rows more done b (ok_passes rows u e) f

-- a test passes exactly where its result is an Ok
pub ok_accepts : (t : Result Unit Refusal) → true ≡ is_ok t → (test_answer t).number ≡ 0
ok_accepts (Ok u) e = refl
ok_accepts (Err r) e = absurd (true≢false e)

pub err_refuses : (t : Result Unit Refusal) → false ≡ is_ok t → (test_answer t).number ≡ 0 → ⊥
err_refuses (Ok u) e z = absurd (true≢false (sym e))
err_refuses (Err r) e z = refused r z
