use Rattle.std.proofs.Common.{◌≡◌, true, false, cond, nat_eq, [], ◌∷◌, sym, ◌∙◌, ap, arith}
use Rattle.std.proofs.lemmas.Bool.Decides.{nat_tests}
use Rattle.fuxi_terms.specs.Counts.{count}
use Rattle.fuxi_terms.specs.Keys.{spot_cmp}
use Rattle.fuxi_terms.specs.Tables.{spot}
use Rattle.party_text.specs.MasterLines.{grant_line, grant_lines}
use Rattle.schedule_text.specs.PrintedLines.{line_text}
use Rattle.spec_refinement.proofs.ShowsLemmas.{shows_same, shows_none}
use Rattle.party_text.proofs.grants.write_grant.Goals as goal

pub returns-then-count-eq0-clause-ok : goal.returns-then-count-eq0-clause-ok
returns-then-count-eq0-clause-ok c =
    let s = spot c.args.app.0 c.args.unit.0 c.args.machine.0 in
    let es = c.args.table.now.entries in
    let held : c.held_on-count.result ≡ count spot_cmp es s = c.held_on-count.ensures in
    let zero : nat_eq (count spot_cmp es s) 0 ≡ true = (let e = c.if-count-eq0.true in grind (arith, nat_tests, e, held)) in
    shows_same line_text [] (grant_lines c.args.epoch es s.job s.unit s.machine) c.args.out.now.items c.args.out.now.items (sym (ap (λ b. cond b [] (grant_line c.args.epoch (s, count spot_cmp es s) ∷ [])) zero)) (shows_none line_text c.args.out.now.items)

pub returns-in-Ok-clause-ok : goal.returns-in-Ok-clause-ok
returns-in-Ok-clause-ok c =
    let s = spot c.args.app.0 c.args.unit.0 c.args.machine.0 in
    let es = c.args.table.now.entries in
    let held : c.held_on-count.result ≡ count spot_cmp es s = c.held_on-count.ensures in
    let some : nat_eq (count spot_cmp es s) 0 ≡ false = (let e = c.if-count-eq0.false in grind (arith, nat_tests, e, held)) in
    shows_same line_text (grant_line c.args.epoch (s, c.held_on-count.result) ∷ []) (grant_lines c.args.epoch es s.job s.unit s.machine) c.args.out.now.items c.write_line.new.out.items
    (sym (ap (λ b. cond b [] (grant_line c.args.epoch (s, count spot_cmp es s) ∷ [])) some ∙ ap (λ n. grant_line c.args.epoch (s, n) ∷ []) (sym held))) c.in-Ok.ensures.ok
