use Rattle.std.proofs.Common.{◌≡◌, false, Ok, [], ap, ◌∙◌, subst, arith}
use Rattle.spec_net.specs.Ledgers.{Ledger}
use Rattle.spec_net.specs.Sides.{shown, appended}
use Rattle.peer_channel.specs.Bodies.{tally_of}
use Rattle.app_master.specs.AppCores.{patched_demand, IsUp}
use Rattle.app_master.proofs.DemandChanges.{joined_is}
use Rattle.app_master.proofs.asking.join.Goals as goal

pub returns-in-Ok-clause-joins : goal.returns-in-Ok-clause-joins
returns-in-Ok-clause-joins c = λ boot e s.
    let t = c.args.up.now.outgoing.present in
    let u = c.post.new.self.outgoing.present in
    let made : patched_demand t (record { head = c.args.epoch; entries = [] }) ≡ Ok u = subst (λ x. patched_demand t x ≡ Ok u) c.new.ensures c.in-Ok.ensures.made in
    let present = joined_is t u c.args.epoch c.requires.later made (shown e) s.shown in
    let differs : tally_of t ≡ tally_of u → ⊥ = λ same. let head = ap (λ (l : Ledger). l.head) (same ∙ present) in let less = c.requires.later in omega (arith, head, less) in
    subst (λ l. IsUp c.post.new.self boot (appended false l e)) present ((c.in-Ok.ensures.posts boot e s).differing differs)
