use Rattle.std.proofs.Common.{◌≡◌, subst}
use Rattle.delta_channel.specs.Hearing.{Receiving, verdict_of}
use Rattle.delta_channel.specs.declared.receiver.Verdict.TheVariants.{Take}
use Rattle.delta_channel.specs.Calls.{IsTaken}
use Rattle.delta_channel.proofs.TakenChange.{is_taken}
use Rattle.delta_channel.proofs.receiver.Receiver.take_delta.Goals as goal

pub returns-clause-takes : goal.returns-clause-takes
returns-clause-takes g c =
    let v = c.self.inside in
    let stamp = c.args.stamp.now in
    let before : Receiving g.row.L.Denot = record { own = v.own; place = v.place; received = v.received } in
    let after : Receiving g.row.L.Denot = record { own = v.own; place = stamp.place; received = c.apply.new.self } in
    subst (λ r. verdict_of r.own r.place stamp ≡ Take → IsTaken g.L.Ledger.patched stamp c.args.change.now r after) c.self.view_is
    (λ taken. is_taken g.L.Ledger.patched stamp c.args.change.now before c.apply.new.self taken c.in_ok-apply.ensures) c.requires
