use Rattle.std.proofs.Common.{◌++◌, ℕ, ◌∙◌, ap, map}
use Rattle.std.proofs.lemmas.Result.{on_ok_weaker}
use Rattle.fuxi_terms.specs.declared.Key.{Key}
use Rattle.fuxi_terms.specs.Tallies.{TallyRecord}
use Rattle.work_plan.specs.WorkLines.{AppIs, Seen, line_text, lines_text}
use Rattle.work_plan.proofs.StateLines.{app_shown}
use Rattle.work_plan.proofs.showing.write_app.Goals as goal

pub returns : goal.returns
returns c = on_ok_weaker c.write_seen.result (λ seen w h. app_shown c.args.ends.now w c.args.app.0 c.args.out.now.items c.write_line.new.out.items c.write_seen.new.out.items h
    (c.in_ok-write_line.ensures.ok ∙ (λ i. c.args.out.now.items ++ line_text (AppIs c.args.app.0 (c.own.ensures.outgoing i) (c.place-place.ensures i).inc (c.place-place.ensures i).seq)))
    (seen ∙ ap (λ es. c.write_line.new.out.items ++ lines_text (map (λ (e : Key × ℕ). Seen c.args.app.0 e.0.unit e.0.number) es)) (c.entries.ensures.entries ∙ ap (λ (t : TallyRecord). t.entries) c.got.ensures.received))) c.write_seen.ensures
