use Rattle.std.proofs.Common.{◌≡◌, ◌<◌, subst, map, length, sym, ◌∙◌, ap, rules}
use Rattle.std.specs.List.{flat_map, AllByRecursion}
use Rattle.fuxi_terms.specs.Jobs.{unit_count}
use Rattle.fuxi_terms.specs.Lists.{below}
use Rattle.grant_table.specs.GrantTables.{as_known}
use Rattle.party_text.specs.MasterLines.{grant_line, grants_of_job}
use Rattle.schedule_text.specs.PrintedLines.{line_text}
use Rattle.spec_refinement.proofs.ShowsLemmas.{shows_same}
use Rattle.party_text.proofs.Spots.{grants_walked, entries_within}
use Rattle.party_text.proofs.grants.write_jobs_grants.Goals as goal

pub returns-clause-ok : goal.returns-clause-ok
returns-clause-ok c =
    let t = c.args.table.now in
    let e = c.args.epoch in
    let sound = c.is_sound.ensures in
    let all : c.loop-number.number ≡ c.args.numbers = search rules in
    λ most. shows_same line_text (flat_map (grants_of_job e t) (below c.loop-number.number)) (map (grant_line e) t.entries) c.args.out.now.items c.loop-number.out.items
    (ap (λ n. flat_map (grants_of_job e t) (below n)) all
    ∙ grants_walked e t.entries (length t.cluster.machines) (unit_count (as_known t.jobs)) c.args.numbers sound.counts.sorted sound.counts.positive
    (subst (λ n. AllByRecursion (λ x. (x.0.job < n) × ((x.0.unit < unit_count (as_known t.jobs) x.0.job) × (x.0.machine < length t.cluster.machines))) t.entries) (sym most) (entries_within t sound)))
    c.loop-number.invariant.shows
