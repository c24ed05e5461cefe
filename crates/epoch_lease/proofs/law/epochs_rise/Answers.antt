use Rattle.epoch_lease.specs.Histories.{all_tenures}
use Rattle.epoch_lease.proofs.EpochsRise.{all_between, all_rise, has_one_holder, one_at_most}
use Rattle.epoch_lease.proofs.law.epochs_rise.Goals as goal

pub returns-clause-rises : goal.returns-clause-rises
returns-clause-rises c = all_rise

pub returns-clause-one : goal.returns-clause-one
returns-clause-one c s episodes = has_one_holder (all_tenures s episodes) (all_rise s episodes)

pub returns-clause-between : goal.returns-clause-between
returns-clause-between c = all_between

pub returns-clause-single : goal.returns-clause-single
returns-clause-single c = one_at_most
