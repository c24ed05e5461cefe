use Rattle.std.proofs.Common.{◌≡◌, length, ◌∙◌, ap, rules}
use Rattle.std.specs.List.{flat_map}
use Rattle.fuxi_terms.specs.Limits.{most_jobs}
use Rattle.fuxi_terms.specs.Lists.{below}
use Rattle.spec_world.specs.Show.{show_app}
use Rattle.schedule_replay.specs.Parts.{job_lines, show_apps}
use Rattle.schedule_text.specs.PrintedLines.{line_text}
use Rattle.spec_refinement.proofs.ShowsLemmas.{shows_same}
use Rattle.schedule_replay.proofs.Walks.{each_below}
use Rattle.schedule_replay.proofs.Peers.{no_app_beyond}
use Rattle.schedule_replay.proofs.app_states.write_apps.Goals as goal

pub returns-clause-ok : goal.returns-clause-ok
returns-clause-ok c =
    let all : c.loop-number.number ≡ most_jobs = search rules in
    λ w good of sorted. shows_same line_text (flat_map (job_lines w) (below c.loop-number.number)) (show_apps w) c.args.out.now.items c.loop-number.out.items
    (ap (λ n. flat_map (job_lines w) (below n)) all ∙ each_below (show_app w.net (below (length w.cluster.machines))) most_jobs w.apps sorted (λ a far. no_app_beyond w a good far)) (c.loop-number.invariant.shows w of)
