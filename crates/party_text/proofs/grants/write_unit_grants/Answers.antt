use Rattle.std.proofs.Common.{◌≡◌, length, ◌∙◌, ap, rules}
use Rattle.std.specs.List.{flat_map}
use Rattle.fuxi_terms.specs.Cluster.{ClusterRecord}
use Rattle.fuxi_terms.specs.Lists.{below}
use Rattle.party_text.specs.MasterLines.{grant_lines, grants_of_unit}
use Rattle.schedule_text.specs.PrintedLines.{line_text}
use Rattle.spec_refinement.proofs.ShowsLemmas.{shows_same}
use Rattle.party_text.proofs.grants.write_unit_grants.Goals as goal

pub returns-clause-ok : goal.returns-clause-ok
returns-clause-ok c =
    let t = c.args.table.now in
    let a = c.args.app.0 in
    let u = c.args.unit.0 in
    let f = grant_lines c.args.epoch t.entries a u in
    let last : c.loop-number.number ≡ c.machines-number-end.result = search rules in
    let all : c.loop-number.number ≡ length t.cluster.machines = last ∙ c.machines-number-end.ensures.number ∙ ap (λ (x : ClusterRecord). length x.machines) c.cluster.ensures.cluster in
    shows_same line_text (flat_map f (below c.loop-number.number)) (grants_of_unit c.args.epoch t a u) c.args.out.now.items c.loop-number.out.items (ap (λ n. flat_map f (below n)) all) c.loop-number.invariant.shows
