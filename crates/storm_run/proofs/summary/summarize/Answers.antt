use Rattle.std.proofs.Common.{[], ◌∷◌, ◌++◌, length, sym, ◌∙◌, ap, subst, codes}
use Rattle.schedule_replay.specs.Worlds.{StandsFor}
use Rattle.spec_world.specs.Quiet.{is_quiet}
use Rattle.storm_run.specs.declared.counts.Count.TheVariants.{Granted, Held, Rows}
use Rattle.storm_run.specs.Summaries.{answer, count_lines, line, summary}
use Rattle.storm_run.proofs.Texts.{all_parts}
use Rattle.storm_run.proofs.summary.summarize.Goals as goal

pub returns : goal.returns
unfolding summary
returns c = λ w good stands.
    let there = subst (λ r. StandsFor r w) (sym c.running-running.ensures) stands in
    let fence = c.fence.ensures w there in
    let quiet = c.quiet.ensures w good there ∙ ap (is_quiet w) fence in
    all_parts c.new-out.result.items c.write_head.new.out.items c.write_counts.new.out.items c.write_counts-2.new.out.items c.write_counts-3.new.out.items c.write_answer.new.out.items
    (line (codes "storm") (c.args.seed ∷ c.args.steps ∷ [])) (line (codes "events") (w.events ∷ [])) (line (codes "packets") (length w.net.packets ∷ [])) (line (codes "fence") (w.hard.fence ∷ []))
    (count_lines Granted 3 w) (count_lines Held 3 w) (count_lines Rows 8 w) (answer (is_quiet w w.hard.fence))
    c.new-out.ensures.items (c.in_ok-write_head.ensures w good stands) (c.in_ok-write_counts.ensures w good there) (c.in_ok-write_counts-2.ensures w good there) (c.in_ok-write_counts-3.ensures w good there)
    (c.in_ok-write_answer.ensures ∙ ap (λ b. c.write_counts-3.new.out.items ++ answer b) quiet)
