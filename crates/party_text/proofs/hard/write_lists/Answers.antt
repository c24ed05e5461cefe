use Rattle.std.proofs.Common.{map}
use Rattle.spec_world.specs.Outputs.{Banned}
use Rattle.spec_world.specs.Show.{show_jobs}
use Rattle.schedule_text.specs.PrintedLines.{line_text}
use Rattle.spec_refinement.proofs.ShowsLemmas.{shows_then}
use Rattle.party_text.proofs.hard.write_lists.Goals as goal

pub returns-in-Ok-write_bans-clause-ok : goal.returns-in-Ok-write_bans-clause-ok
returns-in-Ok-write_bans-clause-ok c =
    let h = c.args.hard.now.value in
    shows_then line_text (show_jobs h.jobs) (map (λ m. Banned m) h.bans) c.args.out.now.items c.write_jobs.new.out.items c.write_bans.new.out.items c.in-Ok.ensures.ok c.in-Ok-write_bans.ensures.ok
