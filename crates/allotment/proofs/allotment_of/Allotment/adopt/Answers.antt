use Rattle.std.proofs.Common.{List, ◌≡◌, ◌∙◌, ap, subst}
use Rattle.spec_roles.specs.Placing.{line_up}
use Rattle.grant_table.specs.GrantTables.{TableRecord}
use Rattle.allotment.specs.Allotted.{Allots, rows_put}
use Rattle.allotment.proofs.ClearsLemmas.{touched_still}
use Rattle.allotment.proofs.allotment_of.Allotment.adopt.Goals as goal

pub returns-clause-stands : goal.returns-clause-stands
returns-clause-stands c k M allots =
    let m = c.args.machine.0 in
    let rows = c.args.kept.now in
    let left = c.add_row.new.self in
    let x = c.line_up.new.self in
    let up = c.line_up.ensures.stands k _ (c.in_ok-add_row.ensures.stands k M allots) in
    let entries : left.table.entries ≡ rows_put m rows M.table = ap (λ (t : TableRecord). t.entries) c.in_ok-add_row.ensures.table ∙ ap (rows_put m rows) allots.placing.entries in
    subst (λ (es : List _). Allots x k (line_up (record M { table = es }))) entries (subst (Allots x k) (c.lines_alike.ensures (record M { table = left.table.entries })) up)

pub returns-clause-spots : goal.returns-clause-spots
returns-clause-spots c = touched_still c.args.self.now c.add_row.new.self c.line_up.new.self c.in_ok-add_row.ensures.touches c.line_up.ensures.table c.line_up.ensures.touched
