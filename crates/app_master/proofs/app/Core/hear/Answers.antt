use Rattle.std.proofs.Common.{◌≡◌, ℕ, ◌<◌, ◌+◌, cond, true, false, sym, ◌∙◌, ap, subst, arith}
use Rattle.std.specs.Prelude.{nat_lt, IfOk}
use Rattle.std.proofs.lemmas.Bool.Decides.{nat_tests}
use Rattle.spec_net.specs.Sides.{hears_side, shown, appended}
use Rattle.spec_roles.specs.Apps.{app_party, app_told, no_excess, joined_demand}
use Rattle.peer_channel.specs.Parcels.{parcel_is}
use Rattle.fuxi_terms.specs.Tallies.{TallyRecord, ChangeRecord}
use Rattle.delta_channel.specs.Standing.{Sending}
use Rattle.peer_channel.specs.Bodies.{tally_of}
use Rattle.app_master.specs.Usable.{carried_at, is_named, usable_in}
use Rattle.app_master.specs.AppCores.{AppCore, StandsFor, IsUp}
use Rattle.app_master.proofs.AppCoresLemmas.{comes_to, known_heard, joins}
use Rattle.app_master.proofs.app.Core.hear.Goals as goal

pub returns-then-packet-peer-clause-hears : goal.returns-then-packet-peer-clause-hears
returns-then-packet-peer-clause-hears c =
    let x = c.args.packet.now in
    let i = c.args.self.now in
    let a : AppCore = record { job = i.app.0; units = i.units; machines = i.machines; racks = i.racks; carried = i.carried; up = i.up; steps = i.steps } in
    let late : nat_lt i.up.incoming.place.inc x.from.inc ≡ false = let p = c.peer.ensures in let le = c.if-packet-peer.true in grind (arith, nat_tests, p, le) in
    known_heard a x c.hear.new.self (i.steps + 1) (sym c.is_for.ensures ∙ c.if-not-is_for.false) c.hear.result c.hear.ensures.hears (subst (λ b. IfOk c.hear.result (λ heard. heard.fresh ≡ b)) late c.hear.ensures.fresh)

pub returns-clause-hears : goal.returns-clause-hears
returns-clause-hears c = λ r s.
    let x = c.args.packet.now in
    let i = c.args.self.now in
    let a : AppCore = record { job = i.app.0; units = i.units; machines = i.machines; racks = i.racks; carried = i.carried; up = i.up; steps = i.steps } in
    let t : StandsFor a r = s in
    let mine = comes_to x a r t (sym c.is_for.ensures ∙ c.if-not-is_for.false) in
    let h = c.in_ok-heard.ensures.hears (app_party r) r.up t.up mine.0 in
    let side = hears_side (app_party r) true no_excess r.up (parcel_is x) in
    let fresh : side.fresh ≡ true = sym h.fresh ∙ c.in_ok-heard.ensures.fresh ∙ (let p = c.peer.ensures in let gt = c.if-packet-peer.false in grind (arith, nat_tests, p, gt)) in
    let posted : IsUp c.join-2.new.up r.boot (appended false (joined_demand (parcel_is x).packet.from.inc (shown r.up)) side.side) =
    subst (λ d. IsUp c.join-2.new.up r.boot (appended false (joined_demand (parcel_is x).packet.from.inc d) side.side)) (h.side.shown ∙ ap (λ (o : Sending TallyRecord ChangeRecord). tally_of o.present) c.in_ok-heard.ensures.outgoing ∙ sym t.up.shown) (c.in_ok-join-2.ensures.joins r.boot side.side h.side) in
    let counts : (u m : ℕ) → u < i.units → m < i.machines → carried_at c.join.new.self u m ≡ cond (is_named i.up.incoming.received m) (usable_in i.up.incoming.received i.up.outgoing.present i.up.outgoing.own u m) (carried_at i.carried u m)
    = λ u m lu lm. c.in_ok-join.ensures.counts u m lu (subst (λ n. m < n) (sym c.requires.core.carried) lm)
    ∙ (λ j. cond (is_named (c.got.ensures.received j) m) (usable_in (c.got.ensures.received j) (c.sent.ensures j) (c.own.ensures j) u m) (carried_at i.carried u m)) in
    let role = joins a c.join-2.new.up c.join.new.self (i.steps + 1) r (parcel_is x).packet.from.inc side fresh posted counts t in
    record {
      role = subst (λ b. StandsFor (record a { up = c.join-2.new.up; carried = c.join.new.self; steps = i.steps + 1 }) (app_told r (parcel_is x).packet.from.inc (hears_side (app_party r) b no_excess r.up (parcel_is x))).role) (sym mine.1) role;
      fresh = h.fresh ∙ ap (λ b. (hears_side (app_party r) b no_excess r.up (parcel_is x)).fresh) (sym mine.1);
      says = h.says ∙ ap (λ b. (hears_side (app_party r) b no_excess r.up (parcel_is x)).what) (sym mine.1);
    }
