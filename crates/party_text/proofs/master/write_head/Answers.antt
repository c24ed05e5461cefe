use Rattle.std.proofs.Common.{map, [], ◌∷◌, sym, ◌∙◌}
use Rattle.spec_world.specs.Outputs.{MasterIs, Reported}
use Rattle.schedule_text.specs.PrintedLines.{line_text}
use Rattle.spec_refinement.proofs.ShowsLemmas.{shows_same, shows_then}
use Rattle.party_text.proofs.master.write_head.Goals as goal

pub returns-in-Ok-write_reports-clause-ok : goal.returns-in-Ok-write_reports-clause-ok
returns-in-Ok-write_reports-clause-ok c =
    λ r stands.
    let M = r.state in
    let rest = map (Reported M.epoch) M.reported in
    let epoch = c.epoch.ensures.stands r stands in
    let serving = c.serves.ensures ∙ sym stands.stands.serving in
    shows_same line_text (MasterIs c.epoch.result c.serves.result ∷ rest) (MasterIs M.epoch M.serving ∷ rest) c.args.out.now.items c.write_reports.new.out.items (λ i. MasterIs (epoch i) (serving i) ∷ rest)
    (shows_then line_text (MasterIs c.epoch.result c.serves.result ∷ []) rest c.args.out.now.items c.write_line.new.out.items c.write_reports.new.out.items c.in-Ok.ensures.ok (c.in-Ok-write_reports.ensures.ok r stands))
