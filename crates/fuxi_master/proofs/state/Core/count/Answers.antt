use Rattle.std.proofs.Common.{◌≡◌, ◌<◌, length, map, filter, sym, ◌∙◌, subst, arith}
use Rattle.std.proofs.lemmas.Bool.Decides.{nat_tests}
use Rattle.std.specs.List.{AllByRecursion}
use Rattle.fuxi_terms.specs.Jobs.{unit_count}
use Rattle.fuxi_terms.specs.Lists.{below}
use Rattle.schedule_unit.specs.declared.party.UnitNo.{UnitNo}
use Rattle.fuxi_master.specs.Seen.{core_of}
use Rattle.fuxi_master.specs.VoteCounts.{AddsVotes, all_avoid, is_asked}
use Rattle.fuxi_master.proofs.VoteCountsLemmas.{as_machines, ended_counted, few_counted, found_there, marked_counted, number_of, units_are, unwanted_counted}
use Rattle.fuxi_master.proofs.state.Core.count.Goals as goal

pub returns-then-ended : goal.returns-then-ended
returns-then-ended c =
    ended_counted (core_of c.args.self.now) c.args.index c.at-job.result.now c.app-app.result.0 c.at-job.ensures.at c.at-job.ensures.found c.app-app.ensures.number c.args.votes.now c.requires.counted (sym c.ended.ensures ∙ c.if-ended.true)

pub wanted_units-requires-clause-units : goal.wanted_units-requires-clause-units
wanted_units-requires-clause-units c =
    c.units-units.ensures.number ∙ units_are (core_of c.args.self.now) c.args.index c.at-job.result.now c.app-app.result.0 c.at-job.ensures.at c.at-job.ensures.found c.app-app.ensures.number

pub returns-then-is_empty : goal.returns-then-is_empty
returns-then-is_empty c =
    let is = c.is_empty.ensures in
    let empty = c.if-is_empty.true in
    let none : length c.in_ok-wanted.wanted.items ≡ 0 = grind (arith, nat_tests, is, empty) in
    unwanted_counted (core_of c.args.self.now) c.args.index c.at-job.result.now c.app-app.result.0 c.at-job.ensures.at c.at-job.ensures.found c.app-app.ensures.number c.in_ok-wanted.wanted.items
    (subst (λ n. map number_of c.in_ok-wanted.wanted.items ≡ filter (is_asked (core_of c.args.self.now) c.app-app.result.0) (below n)) c.units-units.ensures.number c.in_ok-wanted.ensures) c.args.votes.now c.requires.counted none

pub mark-requires-clause-units : goal.mark-requires-clause-units
mark-requires-clause-units c =
    let x = core_of c.args.self.now in
    let is = units_are x c.args.index c.at-job.result.now c.app-app.result.0 c.at-job.ensures.at c.at-job.ensures.found c.app-app.ensures.number in
    subst (AllByRecursion (λ (u : UnitNo). u.0 < unit_count x.known.jobs c.app-app.result.0)) (sym c.deref.ensures.value)
    (found_there (is_asked x c.app-app.result.0) c.units-units.result (unit_count x.known.jobs c.app-app.result.0) c.in_ok-wanted.wanted.items c.in_ok-wanted.ensures (c.units-units.ensures.number ∙ is))

pub mark-requires-clause-machines : goal.mark-requires-clause-machines
mark-requires-clause-machines c = as_machines (core_of c.args.self.now) c.requires.core c.args.index c.args.votes.now c.requires.counted

pub mark-requires-clause-fewer : goal.mark-requires-clause-fewer
mark-requires-clause-fewer c =
    let number = c.jobs-jobs.ensures.number in
    let few = c.jobs-jobs.ensures.few in
    few_counted (core_of c.args.self.now) c.requires.core c.args.index c.args.votes.now c.requires.counted c.requires.index (omega (arith, number, few))

pub returns : goal.returns
returns c =
    let is = c.is_empty.ensures in
    let some = c.if-is_empty.false in
    let more : 0 < length c.in_ok-wanted.wanted.items = grind (arith, nat_tests, is, some) in
    marked_counted (core_of c.args.self.now) c.args.index c.at-job.result.now c.app-app.result.0 c.at-job.ensures.at c.at-job.ensures.found c.app-app.ensures.number c.in_ok-wanted.wanted.items
    (subst (λ n. map number_of c.in_ok-wanted.wanted.items ≡ filter (is_asked (core_of c.args.self.now) c.app-app.result.0) (below n)) c.units-units.ensures.number c.in_ok-wanted.ensures) c.args.votes.now c.mark.new.votes c.requires.counted (sym c.ended.ensures ∙ c.if-ended.false) more
    (subst (λ us. AddsVotes (all_avoid (core_of c.args.self.now) c.app-app.result.0 us) c.args.votes.now c.mark.new.votes) c.deref.ensures.value c.mark.ensures)
