use Rattle.schedule_unit.proofs.Decimals.{number_of-decimal, decimal-number_of}
use Rattle.schedule_unit.proofs.law.numbers.Goals as goal

pub returns-clause-written : goal.returns-clause-written
returns-clause-written c = number_of-decimal

pub returns-clause-read : goal.returns-clause-read
returns-clause-read c = decimal-number_of
