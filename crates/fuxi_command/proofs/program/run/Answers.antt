use Rattle.fuxi_command.proofs.program.run.Goals as goal

pub returns-in-Ok-clause-outcome : goal.returns-in-Ok-clause-outcome
returns-in-Ok-clause-outcome g c = rw c.in-Ok.is (rw c.deref.ensures.value at c.fuxi.ensures.outcome)

pub returns-in-Ok-clause-text : goal.returns-in-Ok-clause-text
returns-in-Ok-clause-text g c = rw c.in-Ok.is (rw c.deref.ensures.value at c.fuxi.ensures.text)

pub returns-in-Ok-clause-lease_text : goal.returns-in-Ok-clause-lease_text
returns-in-Ok-clause-lease_text g c = rw c.in-Ok.is (rw c.deref.ensures.value at c.fuxi.ensures.lease_text)

pub returns-in-Ok-clause-work_plan : goal.returns-in-Ok-clause-work_plan
returns-in-Ok-clause-work_plan g c = rw c.in-Ok.is (rw c.deref.ensures.value at c.fuxi.ensures.work_plan)
