use Rattle.std.proofs.Common.{◌≤◌, length, subst, arith}
use Rattle.std.specs.Prelude.{IsSomeAnd}
use Rattle.place_pass.specs.PackedRanks.{packed}
use Rattle.place_pass.proofs.PassedMachines.{decided}
use Rattle.place_pass.proofs.SearchCountsLemmas.{both_looks}
use Rattle.place_pass.proofs.search.machines.best_from_least.Goals as goal

pub returns-then-is_decided-clause-least : goal.returns-then-is_decided-clause-least
returns-then-is_decided-clause-least g c m lt = decided c.args.input.now c.args.marks.now c.args.least c.consider_at.new.best m c.requires.ready c.requires.old (let few = c.len-machines.ensures.few in let number = c.len-machines.ensures.number in let marked = c.requires.marked in omega (arith, lt, few, number, marked)) (c.is_decided.ensures c.if-is_decided.true) (c.requires.behind m lt)

pub returns-then-is_decided-clause-found : goal.returns-then-is_decided-clause-found
returns-then-is_decided-clause-found g c = c.consider_at.ensures.found tt

pub returns-then-is_decided-clause-count : goal.returns-then-is_decided-clause-count
returns-then-is_decided-clause-count g c =
    both_looks c.args.input.now.wishes.now.opened c.args.marks.now c.consider_at.new.marks c.args.input.now.turns c.args.least.machine.0 (length c.args.input.now.table.now.cluster.machines)
    c.args.steps.now c.consider_at.new.steps c.consider_at.new.steps c.requires.there c.consider_at.ensures.count (omega arith) c.consider_at.ensures.others

pub returns-then-is_decided-clause-settled : goal.returns-then-is_decided-clause-settled
returns-then-is_decided-clause-settled g c e m lt = absurd (subst (λ o. IsSomeAnd o (λ x. packed x.rank x.pick.machine.0 ≤ c.args.least.key)) e (c.is_decided.ensures c.if-is_decided.true))

pub returns-clause-found : goal.returns-clause-found
returns-clause-found g c = c.best_of_others.ensures.found (c.consider_at.ensures.found tt)

pub returns-clause-count : goal.returns-clause-count
returns-clause-count g c =
    both_looks c.args.input.now.wishes.now.opened c.args.marks.now c.consider_at.new.marks c.args.input.now.turns c.args.least.machine.0 (length c.args.input.now.table.now.cluster.machines)
    c.args.steps.now c.consider_at.new.steps c.best_of_others.new.steps c.requires.there c.consider_at.ensures.count c.best_of_others.ensures.count c.consider_at.ensures.others
