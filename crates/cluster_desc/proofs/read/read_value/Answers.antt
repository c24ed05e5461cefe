use Rattle.std.proofs.Common.{ap}
use Rattle.cluster_desc.specs.declared.fault.ClusterFault.TheVariants.{NotJson}
use Rattle.cluster_desc.specs.Faults.{given}
use Rattle.cluster_desc.proofs.Values.{value_of-some, value_of-none}
use Rattle.cluster_desc.proofs.read.read_value.Goals as goal

pub returns-in-Ok-clause-ok : goal.returns-in-Ok-clause-ok
returns-in-Ok-clause-ok c = value_of-some c.args.line.now _ c.in-Ok.ensures.ok.0 c.in-Ok.ensures.ok.1

pub returns-in_default : goal.returns-in_default
returns-in_default c = record {
  ok = tt;
  fault = ap (λ o. given o NotJson) (value_of-none c.args.line.now (c.in-Err.ensures.err (λ m. c.in_default.not-Memory (c.classify.ensures.memory.1 m))));
}
