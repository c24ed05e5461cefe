use Rattle.schedule_replay.proofs.CoresStandFor.{tables_fit}
use Rattle.schedule_replay.proofs.HeldOnce.{all_held_once}
use Rattle.schedule_replay.proofs.ViewsFollow.{all_follow}
use Rattle.schedule_replay.proofs.QuietPartiesAgree.{all_agree}
use Rattle.schedule_replay.proofs.NothingIsPlaceable.{all_settled}
use Rattle.schedule_replay.proofs.promises.cores_are_safe.Goals as goal

pub returns-clause-capacity : goal.returns-clause-capacity
returns-clause-capacity c = let s = c.is_reached.ensures in tables_fit (record { agents = c.parties_run.ensures.agents; apps = c.parties_run.ensures.apps; masters = c.parties_run.ensures.masters }) _ s.world s.stands (c.every_event_keeps_good.ensures.safe s.world s.is.good)

pub returns-clause-once : goal.returns-clause-once
returns-clause-once c = let s = c.is_reached.ensures in all_held_once (record { agents = c.parties_run.ensures.agents; apps = c.parties_run.ensures.apps; masters = c.parties_run.ensures.masters }) _ s.world c.every_event_keeps_good.ensures.safe s.stands s.is.good

pub returns-clause-views : goal.returns-clause-views
returns-clause-views c = let s = c.is_reached.ensures in all_follow (record { agents = c.parties_run.ensures.agents; apps = c.parties_run.ensures.apps; masters = c.parties_run.ensures.masters }) _ s.world s.stands (c.every_event_keeps_good.ensures.safe s.world s.is.good)

pub returns-clause-agreement : goal.returns-clause-agreement
returns-clause-agreement c = let s = c.is_reached.ensures in all_agree (record { agents = c.parties_run.ensures.agents; apps = c.parties_run.ensures.apps; masters = c.parties_run.ensures.masters }) _ s.world s.is s.stands (c.every_event_keeps_good.ensures.safe s.world s.is.good)

pub returns-clause-settled : goal.returns-clause-settled
returns-clause-settled c = let s = c.is_reached.ensures in all_settled (record { agents = c.parties_run.ensures.agents; apps = c.parties_run.ensures.apps; masters = c.parties_run.ensures.masters }) _ s.world s.stands s.is.good (c.every_event_keeps_good.ensures.safe s.world s.is.good)

pub returns-clause-good : goal.returns-clause-good
returns-clause-good c = let s = c.is_reached.ensures in record { world = s.world; good = s.is.good; stands = s.stands }
