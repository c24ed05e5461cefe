use Rattle.std.proofs.Common.{◌-◌, length, take, refl, sym, ◌∙◌, ap, arith}
use Rattle.std.proofs.lemmas.List.{take-take}
use Rattle.place_pass.proofs.WaitingLinesLemmas.{taken_whole}
use Rattle.place_pass.proofs.line.Line.truncate.Goals as goal

pub loop-self-init : goal.loop-self-init
loop-self-init c = record { pairs = refl; units = λ p. refl }

pub loop-self-preserved : goal.loop-self-preserved
loop-self-preserved c =
    let more = c.loop-self-test.true in
    let n = c.len.ensures.number in
    record {
      pairs = ap (take c.args.len) c.pop.ensures.pairs ∙ take-take c.args.len (length c.loop-self.self.pairs - 1) c.loop-self.self.pairs (omega (arith, more, n)) ∙ c.loop-self.invariant.pairs;
      units = λ p. c.pop.ensures.units p ∙ c.loop-self.invariant.units p;
    }

pub returns-clause-pairs : goal.returns-clause-pairs
returns-clause-pairs c =
    let end = c.loop-self-test.false in
    let n = c.len.ensures.number in
    sym (taken_whole c.loop-self.self.pairs c.args.len (omega (arith, end, n))) ∙ c.loop-self.invariant.pairs

pub returns-clause-units : goal.returns-clause-units
returns-clause-units c = c.loop-self.invariant.units
