use Rattle.std.proofs.Common.{rules, ◌≡◌, true, false, refl}
use Rattle.std.specs.Prelude.{◌||◌}
use Rattle.failover.specs.Reported.{are_all_in}
use Rattle.fuxi_master.proofs.Lined.{lined_readied, settled_readied}
use Rattle.fuxi_master.proofs.StepEnds.{stands_readied}
use Rattle.fuxi_master.specs.Seen.{core_of}
use Rattle.fuxi_master.proofs.state.Core.make_ready.Goals as goal

pub returns-then-not-serving : goal.returns-then-not-serving
returns-then-not-serving g c =
    let x = core_of c.args.self.now in
    let l = c.line_up.ensures in
    let is : c.if-self.serving ≡ (x.serving || are_all_in x.reported) = search rules in
    let off : c.if-self.serving ≡ false = search rules in
    let done = lined_readied c.if-self.serving x.allotment c.line_up.new.self off l.stands l.waits l.up l.table l.touched l.turns in
    record {
      allotment = done;
      stands = λ credited r h. stands_readied c.settling.ensures.first x c.if-self.serving c.line_up.new.self done is c.requires.kept.size credited r h;
      rest = refl;
    }

pub returns : goal.returns
returns g c =
    let x = core_of c.args.self.now in
    let l = c.line_up.ensures in
    let s = c.in_ok-settle.ensures in
    let is : c.if-self.serving ≡ (x.serving || are_all_in x.reported) = search rules in
    let on : c.if-self.serving ≡ true = search rules in
    let done = settled_readied c.if-self.serving x.allotment c.line_up.new.self c.settle.new.self on l.stands l.table l.touched l.turns s.stands s.waits s.up s.touches s.table in
    record {
      allotment = done;
      stands = λ credited r h. stands_readied c.settling.ensures.first x c.if-self.serving c.settle.new.self done is c.requires.kept.size credited r h;
      rest = refl;
    }
