-- The four parts stand one behind the other (`number_and_place`).
use Rattle.admit_run.proofs.Texts.{number_and_place}
use Rattle.admit_run.proofs.text.put_verdict.Goals as goal

pub returns-clause-number_and_place : goal.returns-clause-number_and_place
returns-clause-number_and_place c = number_and_place _ _ _ _ _ _ _ _ _ c.put_number-a.ensures.wrote_number c.put-b.ensures.out_after c.put_number-c.ensures.wrote_number c.put.ensures.out_after
