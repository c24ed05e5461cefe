use Rattle.std.proofs.Common.{◌≡◌, Some, Ok, sym, ◌∙◌, subst}
use Rattle.schedule_unit.specs.JobFaults.{IsFault, IsMade, job_fault}
use Rattle.schedule_text.specs.Asked.{job_refusal}
use Rattle.party_commands.proofs.CommandedPartiesLemmas.{group_there, job_refused, job_tested}
use Rattle.party_commands.proofs.masters.tested_job.Goals as goal

pub returns-in-Ok-clause-tests : goal.returns-in-Ok-clause-tests
returns-in-Ok-clause-tests c =
    let a = c.args.app.0 in
    let g = c.args.group.0 in
    let n = c.resources.result in
    let asks = c.args.asks.now in
    let made = subst (λ l. IsMade a g n l (Ok c.in-Ok.job)) c.as_slice.ensures c.in-Ok.ensures.made in
    job_tested c.jobs_are_tested_alike.ensures c.args.cluster.now a g n asks c.in-Ok.job c.resources.ensures.number (group_there c.args.cluster.now g c.groups.result c.groups.ensures.number c.if-group-groups.false) made

pub returns-in-Some-clause-tests : goal.returns-in-Some-clause-tests
returns-in-Some-clause-tests c =
    let a = c.args.app.0 in
    let g = c.args.group.0 in
    let n = c.resources.result in
    let asks = c.args.asks.now in
    let fault = subst (λ l. IsFault (job_fault n l) c.in-Err.fault) c.as_slice.ensures c.in-Err.ensures.made in
    let is : job_refusal c.in-Err.fault ≡ Some c.in-Some.refusal = sym c.job_refusal.ensures ∙ c.in-Some.is in
    job_refused c.jobs_are_tested_alike.ensures c.args.cluster.now a g n asks c.in-Err.fault c.in-Some.refusal c.resources.ensures.number (group_there c.args.cluster.now g c.groups.result c.groups.ensures.number c.if-group-groups.false) is fault

pub returns-in-None-clause-memory : goal.returns-in-None-clause-memory
returns-in-None-clause-memory c = group_there c.args.cluster.now c.args.group.0 c.groups.result c.groups.ensures.number c.if-group-groups.false
