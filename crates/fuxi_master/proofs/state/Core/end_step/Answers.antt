use Rattle.fuxi_master.specs.Seen.{core_of}
use Rattle.fuxi_master.proofs.StepEndsLemmas.{mid_readied, agents_room, apps_room, ended_stands, ended_core, ended_within}
use Rattle.fuxi_master.proofs.state.Core.end_step.Goals as goal

pub publish-requires-clause-mid : goal.publish-requires-clause-mid
publish-requires-clause-mid c = mid_readied (core_of c.args.self.now) (core_of c.make_ready.new.self) c.args.news.now c.in_ok-make_ready.ensures c.requires.mid

pub publish-requires-clause-agents : goal.publish-requires-clause-agents
publish-requires-clause-agents c = agents_room (core_of c.args.self.now) (core_of c.make_ready.new.self) c.args.news.now c.in_ok-make_ready.ensures c.args.steps c.requires.within c.requires.steps

pub publish-requires-clause-apps : goal.publish-requires-clause-apps
publish-requires-clause-apps c = apps_room (core_of c.args.self.now) (core_of c.make_ready.new.self) c.args.news.now c.in_ok-make_ready.ensures c.args.steps c.requires.within c.requires.steps

pub returns-clause-core : goal.returns-clause-core
returns-clause-core c = ended_core c.settling.ensures.first c.settling.ensures.ends c.settling.ensures.runs (core_of c.args.self.now) (core_of c.make_ready.new.self) (core_of c.publish.new.self) c.args.news.now c.requires.mid c.in_ok-make_ready.ensures c.in_ok-publish.ensures c.requires.role

pub returns-clause-within : goal.returns-clause-within
returns-clause-within c = ended_within c.settling.ensures.first c.settling.ensures.ends c.settling.ensures.runs (core_of c.args.self.now) (core_of c.make_ready.new.self) (core_of c.publish.new.self) c.args.news.now c.requires.mid c.in_ok-make_ready.ensures c.in_ok-publish.ensures c.args.steps c.requires.within

pub returns-clause-ends : goal.returns-clause-ends
returns-clause-ends c = ended_stands c.settling.ensures.first c.settling.ensures.ends c.settling.ensures.runs (core_of c.args.self.now) (core_of c.make_ready.new.self) (core_of c.publish.new.self) c.args.news.now c.requires.mid c.in_ok-make_ready.ensures c.in_ok-publish.ensures
