use Rattle.std.proofs.Common.{map, ◌∷◌, ◌++◌}
use Rattle.spec_world.specs.Outputs.{MasterIs, Reported}
use Rattle.party_text.specs.MasterLines.{grant_line, wait_line}
use Rattle.schedule_text.specs.PrintedLines.{line_text}
use Rattle.spec_refinement.proofs.ShowsLemmas.{shows_then}
use Rattle.party_text.proofs.master.write_master.Goals as goal

pub returns-in-Ok-write_grants-clause-ok : goal.returns-in-Ok-write_grants-clause-ok
returns-in-Ok-write_grants-clause-ok c =
    λ r stands.
    let M = r.state in
    shows_then line_text (MasterIs M.epoch M.serving ∷ map (Reported M.epoch) M.reported) (map (grant_line M.epoch) M.table ++ map (wait_line M) M.line) c.args.out.now.items c.write_head.new.out.items c.write_grants.new.out.items
    (c.in-Ok.ensures.ok r stands) (c.in-Ok-write_grants.ensures.ok r stands)
