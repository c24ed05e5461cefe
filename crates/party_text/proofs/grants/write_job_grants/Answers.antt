use Rattle.std.proofs.Common.{◌≡◌, ◌∙◌, ap, rules}
use Rattle.std.specs.List.{flat_map}
use Rattle.fuxi_terms.specs.Jobs.{unit_count}
use Rattle.fuxi_terms.specs.Lists.{below}
use Rattle.grant_table.specs.GrantTables.{as_known}
use Rattle.party_text.specs.MasterLines.{grants_of_unit, grants_of_job}
use Rattle.schedule_text.specs.PrintedLines.{line_text}
use Rattle.spec_refinement.proofs.ShowsLemmas.{shows_same}
use Rattle.party_text.proofs.grants.write_job_grants.Goals as goal

pub returns-clause-ok : goal.returns-clause-ok
returns-clause-ok c =
    let t = c.args.table.now in
    let a = c.args.app.0 in
    let f = grants_of_unit c.args.epoch t a in
    let last : c.loop-number.number ≡ c.units_of-number-end.result = search rules in
    let all : c.loop-number.number ≡ unit_count (as_known t.jobs) a = last ∙ c.units_of-number-end.ensures in
    shows_same line_text (flat_map f (below c.loop-number.number)) (grants_of_job c.args.epoch t a) c.args.out.now.items c.loop-number.out.items (ap (λ n. flat_map f (below n)) all) c.loop-number.invariant.shows
