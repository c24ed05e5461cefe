use Rattle.epoch_lease.proofs.print.write_answer.Goals as goal

pub returns-in-NoEpoch-clause-err : goal.returns-in-NoEpoch-clause-err
returns-in-NoEpoch-clause-err g c = rw c.in-NoEpoch.is c.write_all_of.ensures.err

pub returns-in-NotHolder-clause-ok : goal.returns-in-NotHolder-clause-ok
returns-in-NotHolder-clause-ok g c = rw c.in-NotHolder.is c.write_number-in-NotHolder.ensures.ok

pub returns-in-NotHolder-clause-err : goal.returns-in-NotHolder-clause-err
returns-in-NotHolder-clause-err g c = rw c.in-NotHolder.is c.write_number-in-NotHolder.ensures.err
