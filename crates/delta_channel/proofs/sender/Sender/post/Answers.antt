use Rattle.std.proofs.Common.{◌+◌, refl, subst, ap}
use Rattle.delta_channel.specs.Standing.{Sending}
use Rattle.delta_channel.specs.Calls.{IsPosted}
use Rattle.delta_channel.proofs.PostedChange.{posted}
use Rattle.delta_channel.proofs.sender.Sender.post.Goals as goal

pub returns : goal.returns
returns g c =
    let v = c.self.inside in
    let kept = c.push_back.new.self.items in
    let before : Sending g.row.L.Denot g.row.L-Delta.Denot = record { own = v.own; last = v.last; present = v.present; kept = v.kept.items } in
    let after : Sending g.row.L.Denot g.row.L-Delta.Denot = record { own = v.own; last = v.last + 1; present = c.apply.new.self; kept = kept } in
    let is = posted g.L.Ledger.nothing g.L.Ledger.patched before c.args.change c.apply.new.self kept v.kept.capacity c.in_ok-apply.ensures c.self.invariant.0 (ap (λ b. b.items) c.push_back.ensures.items) in
    (refl, subst (λ s. IsPosted g.L.Ledger.nothing g.L.Ledger.patched c.args.change s after) c.self.view_is is)
