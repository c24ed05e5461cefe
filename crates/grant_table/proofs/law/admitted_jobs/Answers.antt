use Rattle.grant_table.proofs.AdmittedTotals.{found_admitted, numbers_rise}
use Rattle.grant_table.proofs.law.admitted_jobs.Goals as goal

pub returns : goal.returns
returns c = record { found = found_admitted; numbers = numbers_rise }
