-- The field that is read is compared.
use Rattle.admission.proofs.Tests.{count_differs, count_agrees}
use Rattle.admission.proofs.count_tested.Goals as goal

pub returns-then-marks_length-read : goal.returns-then-marks_length-read
returns-then-marks_length-read c = count_differs _ 0 _ _ c.read.ensures.n_code_slots_is c.if-marks_length-read.true

pub returns : goal.returns
returns c = count_agrees _ 0 _ _ c.read.ensures.n_code_slots_is c.if-marks_length-read.false
