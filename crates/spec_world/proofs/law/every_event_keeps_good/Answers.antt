use Rattle.spec_world.proofs.GoodKept.{good_kept, always_good, safe_of}
use Rattle.spec_world.proofs.law.every_event_keeps_good.Goals as goal

pub returns-clause-kept : goal.returns-clause-kept
returns-clause-kept c = λ w e valid line h. good_kept w e valid line h

pub returns-clause-always : goal.returns-clause-always
returns-clause-always c = λ cluster events input. always_good cluster events input

pub returns-clause-safe : goal.returns-clause-safe
returns-clause-safe c = λ w h. safe_of w h
