use Rattle.std.proofs.Common.{true, false, nat_eq, length-set, replicate, refl, ◌∙◌, ap, arith, inl, inr}
use Rattle.std.specs.List.{list_any}
use Rattle.std.proofs.Math.ListN.{get_or-eq_default}
use Rattle.std.proofs.lemmas.Bool.{cases_lt}
use Rattle.std.proofs.lemmas.List.{get_or-replicate, take_all}
use Rattle.fuxi_terms.specs.Cluster.{MachineRecord}
use Rattle.app_master.proofs.Racks.{rack_small, racks_more}
use Rattle.app_master.proofs.app.racks_of.Goals as goal

pub loop-number-init : goal.loop-number-init
loop-number-init c = record {
  long = refl;
  done = λ n. elim (cases_lt n 64) [
    | inl lt ↦ get_or-replicate 64 n false false lt
    | inr le ↦ get_or-eq_default (replicate 64 false) false {n = n} (omega (arith, le))
  ];
}

pub bounds-racks-rack : goal.bounds-racks-rack
bounds-racks-rack c = rack_small c.args.cluster.now c.loop-number.number c.machine.result.now c.machines-number-end.ensures.valid c.machine.ensures

pub loop-number-preserved : goal.loop-number-preserved
loop-number-preserved c =
    let was = c.loop-number.invariant in
    let racks = c.loop-number.racks in
    let x = c.machine.result.now in
    let low = rack_small c.args.cluster.now c.loop-number.number x c.machines-number-end.ensures.valid c.machine.ensures in
    let test = c.loop-number-test.true in
    let all = c.machines-number-end.ensures.number in
    let end = c.loop-number.auto.number-end in
    record {
      long = length-set racks x.rack.0 true ∙ was.long;
      done = racks_more racks c.args.cluster.now.machines c.loop-number.number x (let long = was.long in omega (arith, low, long)) (omega (arith, test, all)) c.machine.ensures was.done;
    }

pub returns-clause-racks : goal.returns-clause-racks
returns-clause-racks c = λ n.
    let test = c.loop-number-test.false in
    let all = c.machines-number-end.ensures.number in
    c.loop-number.invariant.done n ∙ ap (list_any (λ (m : MachineRecord). nat_eq m.rack n)) (take_all c.loop-number.number c.args.cluster.now.machines (omega (arith, test, all)))
