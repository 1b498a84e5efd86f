-- The refusals by name: the number and the place of each, and what a test answers.
use Rattle.std.specs.Prelude.{ℕ, Result, Ok, Err}
use Rattle.refusals.specs.declared.Answer.{Answer}
use Rattle.refusals.specs.declared.refusal.Refusal.{Refusal}
use Rattle.refusals.specs.declared.refusal.Refusal.TheVariants as refusal
use Rattle.refusals.specs.Refusals.{refuse, accepted}

abbrev pub answer_of : Refusal → Answer
answer_of refusal.InputLength = refuse 1 0
answer_of refusal.SuperBlobMagic = refuse 2 0
answer_of refusal.BlobCount = refuse 3 0
answer_of refusal.SuperBlobLength = refuse 4 0
answer_of (refusal.UnknownType place) = refuse 5 place
answer_of (refusal.RepeatedType place) = refuse 6 place
answer_of (refusal.BlobOutside place) = refuse 7 place
answer_of (refusal.BlobMagic place) = refuse 8 place
answer_of (refusal.BlobsOverlap place) = refuse 9 place
answer_of refusal.NoDirectory = refuse 10 0
answer_of refusal.Version = refuse 11 0
answer_of refusal.DirectoryHead = refuse 12 0
answer_of refusal.HashKind = refuse 13 0
answer_of refusal.PageSize = refuse 14 0
answer_of refusal.CodeLimit = refuse 15 0
answer_of refusal.SlotCount = refuse 16 0
answer_of refusal.SlotsOutside = refuse 17 0
answer_of refusal.Identifier = refuse 18 0
answer_of refusal.ImageLength = refuse 19 0
answer_of refusal.MarksLength = refuse 20 0
answer_of (refusal.ThingMissing place) = refuse 21 place
answer_of (refusal.OtherHash place) = refuse 22 place
answer_of (refusal.EmptySlot place) = refuse 23 place
answer_of refusal.CacheForm = refuse 24 0
answer_of (refusal.CacheOrder place) = refuse 25 place
answer_of refusal.NotListed = refuse 26 0
answer_of (refusal.OtherKind place) = refuse 27 place
answer_of (refusal.UnknownCategory place) = refuse 28 place
answer_of refusal.SelfConstraint = refuse 29 0
answer_of refusal.ParentConstraint = refuse 30 0
answer_of (refusal.PageDiffers place) = refuse 31 place
answer_of refusal.RangeOutside = refuse 32 0
answer_of refusal.ContentsLength = refuse 33 0
answer_of (refusal.BadMark place) = refuse 34 place
answer_of refusal.Scatter = refuse 35 0
answer_of refusal.MachHeader = refuse 36 0
answer_of (refusal.LoadCommand place) = refuse 37 place
answer_of refusal.NoSignature = refuse 38 0
answer_of (refusal.SignatureCommand place) = refuse 39 place
answer_of (refusal.SignatureOutside place) = refuse 40 place
answer_of (refusal.SignatureStart place) = refuse 41 place
answer_of refusal.Flags = refuse 46 0

-- a test passes or refuses
abbrev pub test_answer : Result Unit Refusal → Answer
test_answer (Ok _) = accepted
test_answer (Err r) = answer_of r

-- .. and may name a place where it passes
abbrev pub place_answer : Result ℕ Refusal → Answer
place_answer (Ok place) = refuse 0 place
place_answer (Err r) = answer_of r
