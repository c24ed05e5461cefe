use Rattle.std.proofs.Common.{map, ◌++◌}
use Rattle.party_text.specs.MasterLines.{grant_line, wait_line}
use Rattle.schedule_text.specs.PrintedLines.{line_text}
use Rattle.spec_refinement.proofs.ShowsLemmas.{shows_same, shows_then}
use Rattle.party_text.proofs.master.write_grants.Goals as goal

pub returns-in-Ok-write_waits-clause-ok : goal.returns-in-Ok-write_waits-clause-ok
returns-in-Ok-write_waits-clause-ok c =
    λ r stands.
    let M = r.state in
    let epoch = c.epoch.ensures.stands r stands in
    let table = c.table.ensures.stands r stands in
    let waits = map (wait_line M) M.line in
    shows_same line_text (map (grant_line c.epoch.result) c.table.result.now.entries ++ waits) (map (grant_line M.epoch) M.table ++ waits) c.args.out.now.items c.write_waits.new.out.items
    (λ i. map (grant_line (epoch i)) (table i) ++ waits)
    (shows_then line_text (map (grant_line c.epoch.result) c.table.result.now.entries) waits c.args.out.now.items c.write_table.new.out.items c.write_waits.new.out.items c.in-Ok.ensures.ok (c.in-Ok-write_waits.ensures.ok r stands))
