use Rattle.std.proofs.Common.{take, ◌∙◌, ap, arith}
use Rattle.spec_roles.specs.Placing.{has_pair}
use Rattle.place_pass.specs.WaitingLines.{LineRecord, same_pair}
use Rattle.place_pass.proofs.FirstKeysWait.{had}
use Rattle.place_pass.proofs.FlagsTellWhoWaits.{outside, flag_is}
use Rattle.place_pass.proofs.line.Line.has.Goals as goal

pub returns-then-app-ge-MOST_JOBS : goal.returns-then-app-ge-MOST_JOBS
returns-then-app-ge-MOST_JOBS c =
    let ge = c.if-app-ge-MOST_JOBS.true in
    outside (take c.self.inside.len c.self.inside.units.keys) (λ a u e. c.self.invariant.there a u (had (same_pair (a, u)) c.self.inside.units.keys c.self.inside.len e)) c.args.app c.args.unit (λ here. let lt = here.0 in omega (arith, ge, lt)) ∙ ap (λ (l : LineRecord). has_pair (c.args.app, c.args.unit) l.pairs) c.self.view_is

pub returns-then-unit-ge-MOST_UNITS : goal.returns-then-unit-ge-MOST_UNITS
returns-then-unit-ge-MOST_UNITS c =
    let ge = c.if-unit-ge-MOST_UNITS.true in
    outside (take c.self.inside.len c.self.inside.units.keys) (λ a u e. c.self.invariant.there a u (had (same_pair (a, u)) c.self.inside.units.keys c.self.inside.len e)) c.args.app c.args.unit (λ here. let lt = here.1 in omega (arith, ge, lt)) ∙ ap (λ (l : LineRecord). has_pair (c.args.app, c.args.unit) l.pairs) c.self.view_is

pub returns : goal.returns
returns c =
    let ja = c.if-app-ge-MOST_JOBS.false in
    let ju = c.if-unit-ge-MOST_UNITS.false in
    flag_is (take c.self.inside.len c.self.inside.units.keys) c.self.inside.waits.items c.self.invariant.flags c.args.app c.args.unit (omega (arith, ja)) (omega (arith, ju)) c.slot.result c.slot.ensures c.index.result.now c.index.ensures
    ∙ ap (λ (l : LineRecord). has_pair (c.args.app, c.args.unit) l.pairs) c.self.view_is
