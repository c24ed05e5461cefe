use Rattle.std.proofs.Common.{[], ◌∷◌, cond, sym, ◌∙◌, ap}
use Rattle.spec_world.specs.Outputs.{Reported}
use Rattle.party_text.specs.MasterLines.{reported_lines}
use Rattle.schedule_text.specs.PrintedLines.{line_text}
use Rattle.spec_refinement.proofs.ShowsLemmas.{shows_same}
use Rattle.party_text.proofs.master.write_report.Goals as goal

pub returns-in-Ok-clause-ok : goal.returns-in-Ok-clause-ok
returns-in-Ok-clause-ok c =
    let e = c.args.epoch in
    let m = c.args.machine.0 in
    shows_same line_text (Reported e m ∷ []) (reported_lines e c.args.reported.now.numbers m) c.args.out.now.items c.write_line.new.out.items
    (sym (ap (λ b. cond b (Reported e m ∷ []) []) (sym c.has.ensures ∙ c.if-has.true))) c.in-Ok.ensures.ok
