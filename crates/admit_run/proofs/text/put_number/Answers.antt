-- What is put behind the first bytes is what `io::decimal` spelt, which has at most 20 digits (`few_digits`).
use Rattle.std.proofs.Common.{◌≤◌, take, arith}
use Rattle.admit_run.proofs.Texts.{few_digits}
use Rattle.admit_run.proofs.text.put_number.Goals as goal

pub put-requires : goal.put-requires
put-requires c = let few : c.decimal-k.result ≤ 20 = few_digits _ _ (omega arith) c.decimal-k.ensures.len in omega arith

pub returns-clause-upper_bound : goal.returns-clause-upper_bound
returns-clause-upper_bound c = let few : c.decimal-k.result ≤ 20 = few_digits _ _ (omega arith) c.decimal-k.ensures.len in omega arith

pub returns-clause-wrote_number : goal.returns-clause-wrote_number
returns-clause-wrote_number c =
    record {
      part = take c.decimal-k.result c.decimal-k.new.out;
      decimal = record { places = c.decimal-k.result; fewest = c.decimal-k.ensures.len; spelt = c.decimal-k.ensures.digits };
      written = c.put.ensures.out_after;
    }
