use Rattle.std.proofs.Common.{[], ◌∷◌, ◌∙◌}
use Rattle.std.specs.List.{flat_map}
use Rattle.fuxi_terms.specs.Lists.{below}
use Rattle.spec_world.specs.Outputs.{AppAt}
use Rattle.spec_refinement.specs.States.{unit_lines, app_lines}
use Rattle.schedule_text.specs.PrintedLines.{line_text}
use Rattle.spec_refinement.proofs.ShowsLemmas.{shows_same, shows_then}
use Rattle.party_text.proofs.app.write_app.Goals as goal

pub returns-in-Ok-write_units-clause-ok : goal.returns-in-Ok-write_units-clause-ok
returns-in-Ok-write_units-clause-ok c =
    let a = c.args.job.0 in
    let place = c.place-place.result in
    let old = c.args.out.now.items in
    let new = c.write_units.new.out.items in
    λ r stands.
    let number = c.requires.number ∙ stands.job in
    let boots = c.boot.ensures ∙ stands.up.own in
    let places = c.place-place.ensures ∙ stands.up.place in
    let held = flat_map (unit_lines r) (below r.units) in
    shows_same line_text (AppAt a c.boot.result place.inc place.seq ∷ held) (app_lines r) old new (λ i. AppAt (number i) (boots i) (places i).inc (places i).seq ∷ held)
    (shows_then line_text (AppAt a c.boot.result place.inc place.seq ∷ []) held old c.write_line.new.out.items new c.in-Ok.ensures.ok (c.in-Ok-write_units.ensures.ok r stands))
