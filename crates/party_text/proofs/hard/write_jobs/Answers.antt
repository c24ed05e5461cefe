use Rattle.std.proofs.Common.{[], ◌≡◌, ℕ, ◌<◌, true, List, sym, ap, subst, rules}
use Rattle.std.specs.List.{AllByRecursion, flat_map}
use Rattle.fuxi_terms.specs.Jobs.{KnownJob, is_known, job_numbers}
use Rattle.fuxi_terms.specs.Limits.{most_jobs}
use Rattle.fuxi_terms.specs.Lists.{below}
use Rattle.spec_world.specs.Show.{show_jobs}
use Rattle.party_text.specs.MasterLines.{job_lines}
use Rattle.schedule_text.specs.PrintedLines.{line_text}
use Rattle.spec_refinement.proofs.ShowsLemmas.{shows_same, begins_shown, begins_then}
use Rattle.party_text.proofs.Jobs.{jobs_below, known_below}
use Rattle.party_text.proofs.hard.write_jobs.Goals as goal

pub returns-in-Err-clause-begins : goal.returns-in-Err-clause-begins
returns-in-Err-clause-begins c = begins_then c.args.out.now.items c.loop-number.out.items c.write_job.new.out.items (begins_shown line_text (λ x body. []) _ c.args.out.now.items c.loop-number.out.items c.loop-number.invariant) c.write_job.ensures.begins

pub returns-clause-ok : goal.returns-clause-ok
returns-clause-ok c =
    let jobs = c.args.hard.now.value.jobs in
    let n = c.loop-number.number in
    let all : n ≡ most_jobs = search rules in
    let few = subst (λ (js : List KnownJob). (a : ℕ) → is_known js a ≡ true → a < most_jobs) (ap (λ k. k.jobs) c.known.ensures) c.jobs-jobs.ensures.numbers in
    let low = subst (λ k. AllByRecursion (λ a. a < k) (job_numbers jobs)) (sym all) (known_below jobs most_jobs few) in
    shows_same line_text (flat_map (job_lines jobs) (below n)) (show_jobs jobs) c.args.out.now.items c.loop-number.out.items (jobs_below jobs n low) c.loop-number.invariant

pub returns-clause-begins : goal.returns-clause-begins
returns-clause-begins c = begins_shown line_text (λ x body. []) _ c.args.out.now.items c.loop-number.out.items c.loop-number.invariant
