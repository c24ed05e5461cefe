use Rattle.std.proofs.Common.{[], ◌∷◌, cond, sym, ◌∙◌, ap}
use Rattle.spec_world.specs.Outputs.{Job}
use Rattle.party_text.specs.MasterLines.{job_line, job_lines}
use Rattle.schedule_text.specs.PrintedLines.{line_text}
use Rattle.spec_refinement.proofs.ShowsLemmas.{shows_same, then_ok}
use Rattle.party_text.proofs.Jobs.{job_there}
use Rattle.party_text.proofs.hard.write_job.Goals as goal

pub returns-in-Some-clause-ok : goal.returns-in-Some-clause-ok
returns-in-Some-clause-ok c =
    let jobs = c.args.hard.now.value.jobs in
    let a = c.args.app.0 in
    let there = job_there jobs a c.in-Some.job.now c.in-Some.ensures.some in
    let group = there.1 ∙ sym c.group.ensures.number in
    let ended = sym c.ended.ensures in
    then_ok c.write_line.result c.write_line.ensures.ok (λ s. shows_same line_text _ (job_lines jobs a) c.args.out.now.items c.write_line.new.out.items
    (sym (ap (λ b. cond b (job_line jobs a ∷ []) []) there.0 ∙ (λ i. Job a (group i) (ended i) ∷ []))) s)
