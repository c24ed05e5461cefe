use Rattle.std.proofs.Common.{◌≡◌, sym, ◌∙◌, ap, arith}
use Rattle.fuxi_terms.specs.Tables.{held_on}
use Rattle.allotment.specs.Allotted.{AllotmentRecord}
use Rattle.allotment.proofs.ClearsLemmas.{cleared_spot, none_held}
use Rattle.allotment.proofs.allotment_of.Allotment.clear.Goals as goal

pub returns : goal.returns
returns c =
    let x = c.args.self.now in
    let a = c.args.app.0 in
    let u = c.args.unit.0 in
    let m = c.args.machine.0 in
    let all : c.held_on-held.result ≡ held_on x.table.entries a u m = c.held_on-held.ensures ∙ ap (λ (r : AllotmentRecord). held_on r.table.entries a u m) c.self.view_is in
    let t = c.in_ok-take.ensures in
    cleared_spot x c.take.new.self a u m c.held_on-held.result all t.stands t.waits t.touches t.table t.takes

pub returns-then-held-eq0 : goal.returns-then-held-eq0
returns-then-held-eq0 c =
    let x = c.args.self.now in
    let a = c.args.app.0 in
    let u = c.args.unit.0 in
    let m = c.args.machine.0 in
    let all : c.held_on-held.result ≡ held_on x.table.entries a u m = c.held_on-held.ensures ∙ ap (λ (r : AllotmentRecord). held_on r.table.entries a u m) c.self.view_is in
    let t = c.if-held-eq0.true in
    none_held x a u m c.requires.waits (sym all ∙ omega (arith, t))
