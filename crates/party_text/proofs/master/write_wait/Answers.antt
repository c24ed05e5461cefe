use Rattle.std.proofs.Common.{◌≡◌, ◌<◌, List, Some, slice_get, [], ◌∷◌, sym, ◌∙◌, ap, subst, arith}
use Rattle.fuxi_terms.specs.Jobs.{KnownJob, unit_count}
use Rattle.spec_world.specs.Outputs.{Wait}
use Rattle.party_text.specs.MasterLines.{wait_line}
use Rattle.schedule_text.specs.PrintedLines.{line_text}
use Rattle.spec_refinement.proofs.ShowsLemmas.{shows_same, one_item}
use Rattle.party_text.proofs.LineOfKnownJobs.{unit_there}
use Rattle.party_text.proofs.master.write_wait.Goals as goal

pub returns-in-Ok-clause-ok : goal.returns-in-Ok-clause-ok
returns-in-Ok-clause-ok c =
    let pair = c.at-pair.result in
    λ r p stands is.
    let M = r.state in
    let there : slice_get M.line c.args.index ≡ Some (pair.0.0, pair.1.0) = ap (λ l. slice_get l c.args.index) (sym (c.waiting.ensures.stands r stands)) ∙ c.at-pair.ensures in
    let epoch = c.epoch.ensures.stands r stands in
    let count = c.out-count.ensures.stands r stands in
    shows_same line_text (Wait c.epoch.result pair.0.0 pair.1.0 c.out-count.result ∷ []) (wait_line M p ∷ []) c.args.out.now.items c.write_line.new.out.items
    ((λ i. Wait (epoch i) pair.0.0 pair.1.0 (count i) ∷ []) ∙ ap (λ q. wait_line M q ∷ []) (one_item _ (pair.0.0, pair.1.0) p there is)) c.in-Ok.ensures.ok

pub returns-then-pair-units-clause-ok : goal.returns-then-pair-units-clause-ok
returns-then-pair-units-clause-ok c =
    let pair = c.at-pair.result in
    let core = c.args.master.now.core in
    λ r p stands is.
    let M = r.state in
    let there : slice_get M.line c.args.index ≡ Some (pair.0.0, pair.1.0) = ap (λ l. slice_get l c.args.index) (sym (c.waiting.ensures.stands r stands)) ∙ c.at-pair.ensures in
    let known : pair.1.0 < unit_count core.known.jobs pair.0.0 = subst (λ (jobs : List KnownJob). pair.1.0 < unit_count jobs pair.0.0) stands.stands.jobs (unit_there r.cluster M c.args.index (pair.0.0, pair.1.0) stands.ready there) in
    let units = c.units-units.ensures.number ∙ c.table.ensures.units pair.0.0 in
    let least = c.if-pair-units.true in
    absurd (omega (arith, known, units, least))
