use Rattle.spec_world.proofs.InvariantKept.{always_backs, always_credited_once}
use Rattle.spec_world.proofs.law.give_backs_are_credited_once.Goals as goal

pub returns-clause-once : goal.returns-clause-once
returns-clause-once c = always_credited_once

pub returns-clause-demands : goal.returns-clause-demands
returns-clause-demands c = always_backs
