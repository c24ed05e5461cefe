use Rattle.preempt.proofs.VictimsTaken.{taken_singly, kept_others}
use Rattle.preempt.proofs.law.taking.Goals as goal

pub returns : goal.returns
returns c = record {
  singly = λ es m vs h. taken_singly vs es m h;
  others = λ es m n a u vs h. kept_others vs es m n a u h;
}
