use Rattle.std.proofs.Common.{[], ◌∷◌, ◌++◌, map, ap}
use Rattle.spec_refinement.specs.States.{hard_lines}
use Rattle.spec_world.specs.Outputs.{Fence, Banned}
use Rattle.spec_world.specs.Show.{show_jobs}
use Rattle.schedule_text.specs.PrintedLines.{line_text}
use Rattle.spec_refinement.proofs.ShowsLemmas.{shows_same, shows_then}
use Rattle.party_text.proofs.hard.write_hard.Goals as goal

pub returns-in-Ok-write_lists-clause-ok : goal.returns-in-Ok-write_lists-clause-ok
returns-in-Ok-write_lists-clause-ok c =
    let h = c.args.hard.now.value in
    let rest = show_jobs h.jobs ++ map (λ m. Banned m) h.bans in
    let old = c.args.out.now.items in
    let new = c.write_lists.new.out.items in
    shows_same line_text (Fence c.fence.result ∷ rest) (hard_lines h) old new (ap (λ n. Fence n ∷ rest) c.fence.ensures)
    (shows_then line_text (Fence c.fence.result ∷ []) rest old c.write_line.new.out.items new c.in-Ok.ensures.ok c.in-Ok-write_lists.ensures.ok)
