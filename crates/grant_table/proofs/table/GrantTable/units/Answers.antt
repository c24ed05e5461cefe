use Rattle.std.proofs.Common.{◌≡◌, [], length, get_or, nat_lt, sym, ◌∙◌, ap}
use Rattle.fuxi_terms.specs.Jobs.{is_known, unit_count}
use Rattle.grant_table.specs.GrantTables.{TableRecord, as_known, cells_of}
use Rattle.grant_table.proofs.Bounds.{known_is}
use Rattle.grant_table.proofs.table.GrantTable.units.Goals as goal

number_is : (c : goal.After-units_at) → c.units_at.result ≡ unit_count (as_known c.self.inside.jobs.items) c.args.app.0
number_is c = c.units_at.ensures ∙ ap (λ slots. length (get_or (cells_of slots) c.args.app.0 [])) c.deref.ensures.value ∙ c.self.invariant.units c.args.app.0

pub returns-clause-number : goal.returns-clause-number
returns-clause-number c = number_is c ∙ ap (λ (t : TableRecord). unit_count (as_known t.jobs) c.args.app.0) c.self.view_is

pub returns-clause-known : goal.returns-clause-known
returns-clause-known c = sym (ap (λ (t : TableRecord). is_known (as_known t.jobs) c.args.app.0) c.self.view_is) ∙ known_is c.self.inside.jobs.items c.self.invariant.in_order c.args.app.0 ∙ ap (nat_lt 0) (sym (number_is c))
