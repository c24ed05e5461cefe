use Rattle.std.proofs.Common.{◌≤◌, get_or, sym, ◌∙◌, ap, arith}
use Rattle.std.specs.Prelude.{◌&&◌}
use Rattle.fuxi_terms.specs.Tables.{spot}
use Rattle.fuxi_terms.proofs.Booleans.{and_false}
use Rattle.spec_roles.specs.Preemption.{is_guaranteed_in}
use Rattle.preempt.specs.Given.{board_of}
use Rattle.preempt.specs.Shelves.{is_other_loose}
use Rattle.preempt.proofs.ShelvesLemmas.{none_anywhere, kind_of, kind_like, kind_none}
use Rattle.preempt.proofs.SearchLemmas.{wide_none}
use Rattle.preempt.proofs.quick_reject.may_take_of.Goals as goal

pub returns-then-not-is_other_loose : goal.returns-then-not-is_other_loose
returns-then-not-is_other_loose c = λ no holders are low loose.
    let t = c.args.table.now in
    let e = c.args.e.now in
    let is_guaranteed = is_guaranteed_in (board_of t) t.entries (spot e.app.0 e.unit.0 0) in
    let others = sym c.is_other_loose.ensures ∙ c.if-not-is_other_loose.true in
    let le : e.priority ≤ get_or c.args.lowest.now e.group 0 = let f = c.if-lowest-e.false in omega (arith, f) in
    none_anywhere t c.args.groups.now c.requires.groups e.app.0 e.unit.0 (kind_of t e) c.args.lowest.now c.args.loose holders are low loose (kind_like t e c.requires.entry)
    (kind_none t e c.args.lowest.now c.args.loose le (ap (λ b. is_guaranteed && b) others ∙ and_false is_guaranteed))

pub returns-in-Some : goal.returns-in-Some
returns-in-Some c = λ no holders are low loose.
    let t = c.args.table.now in
    let e = c.args.e.now in
    let le : e.priority ≤ get_or c.args.lowest.now e.group 0 = let f = c.if-lowest-e.false in omega (arith, f) in
    none_anywhere t c.args.groups.now c.requires.groups e.app.0 e.unit.0 (kind_of t e) c.args.lowest.now c.args.loose holders are low loose (kind_like t e c.requires.entry)
    (kind_none t e c.args.lowest.now c.args.loose le (ap (λ b. b && is_other_loose c.args.loose e.group) (sym c.in-Some.ensures.guaranteed ∙ no)))

pub returns-in-None : goal.returns-in-None
returns-in-None c = λ no holders are low loose.
    let e = c.args.e.now in
    record { none = λ m. wide_none (board_of c.args.table.now) c.args.table.now.entries (spot e.app.0 e.unit.0 m) c.in-None.ensures }
