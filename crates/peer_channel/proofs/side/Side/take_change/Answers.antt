use Rattle.std.proofs.Common.{◌≡◌, false, Ok, Err, sym, ◌∙◌, ap, subst}
use Rattle.std.specs.Prelude.{IfOk}
use Rattle.ledger_law.specs.Applying.{IsRefusal}
use Rattle.peer_channel.specs.CoreSides.{HearsAlike}
use Rattle.peer_channel.specs.Testing.{WeighsChange}
use Rattle.peer_channel.proofs.HeardAlike.{change_alike, not_made, not_taken}
use Rattle.peer_channel.proofs.side.Side.take_change.Goals as goal

pub returns-in-Err-clause-hears : goal.returns-in-Err-clause-hears
returns-in-Err-clause-hears g c words =
    let excess = g.L.Limit.excess c.args.limit.now in
    let received : c.got.result.now ≡ c.args.self.now.incoming.received = c.got.ensures.received ∙ ap (λ e. e.incoming.received) c.self.view_is in
    let weighs = subst (λ v. WeighsChange {M = g.row.L-Measure.Denot} (λ m w. g.L.Limit.measures c.args.limit.now m w) (λ w. excess (g.B.Carried.stated w)) (g.B.Ledger.patched v c.change_in-change.result.now) (Err c.in-Err.refusal)) received c.in-Err.ensures in
    not_taken g.A.Ledger.nothing g.A.Ledger.patched g.A.Ledger.has_form g.A.Carried.stated g.B.Carried.stated c.args.self.now excess c.args.packet.now c.requires.known
    g.B.Ledger.patched g.B.Carried.changed g.B.Carried.from_role g.met.B.Carried.change_makes c.requires.formed c.requires.from c.change_in-change.result.now c.change_in-change.ensures.change words
    {M = g.row.L-Measure.Denot} (λ m w. g.L.Limit.measures c.args.limit.now m w) c.in-Err.refusal c.word_of.result weighs c.word_of.ensures

pub returns-in-Err-take_delta-clause-hears : goal.returns-in-Err-take_delta-clause-hears
returns-in-Err-take_delta-clause-hears g c words =
    let old = c.args.self.now in
    let excess = g.L.Limit.excess c.args.limit.now in
    let new = c.take_delta.new.self in
    let fault = c.in-Err-take_delta in
    let same : new ≡ old = (λ i. record { outgoing = (ap (λ e. e.outgoing) fault.ensures.rest ∙ ap (λ e. e.outgoing) c.self.view_is) i; incoming = (fault.ensures.takes.0 ∙ ap (λ e. e.incoming) c.self.view_is) i; acked = (ap (λ e. e.acked) fault.ensures.rest ∙ ap (λ e. e.acked) c.self.view_is) i }) in
    let refusal = subst (λ e. IsRefusal (g.B.Ledger.patched e.incoming.received c.change_in-change.result.now) fault.fault) c.self.view_is fault.ensures.takes.1 in
    subst (λ n. IfOk c.word_of-in-Err-take_delta.result (λ w. HearsAlike g.A.Ledger.nothing g.A.Ledger.patched g.A.Ledger.has_form g.A.Carried.stated g.B.Carried.stated excess c.args.packet.now old n (record { fresh = false; what = w }))) (sym same)
    (not_made g.A.Ledger.nothing g.A.Ledger.patched g.A.Ledger.has_form g.A.Carried.stated g.B.Carried.stated old excess c.args.packet.now c.requires.known
    g.B.Ledger.patched g.B.Carried.changed g.B.Carried.from_role g.met.B.Carried.change_makes c.requires.formed c.requires.from c.change_in-change.result.now c.change_in-change.ensures.change words
    fault.fault c.word_of-in-Err-take_delta.result refusal c.word_of-in-Err-take_delta.ensures)

pub returns-clause-hears : goal.returns-clause-hears
returns-clause-hears g c words =
    let new = c.take_delta.new.self in
    let done = c.in-Ok-take_delta.ensures in
    let received : c.got.result.now ≡ c.args.self.now.incoming.received = c.got.ensures.received ∙ ap (λ e. e.incoming.received) c.self.view_is in
    let made : g.B.Ledger.patched c.args.self.now.incoming.received c.change_in-change.result.now ≡ Ok new.incoming.received = subst (λ e. g.B.Ledger.patched e.incoming.received c.change_in-change.result.now ≡ Ok new.incoming.received) c.self.view_is done.takes.made in
    let fits = (c.in-Ok.ensures new.incoming.received (ap (λ v. g.B.Ledger.patched v c.change_in-change.result.now) received ∙ made)).0 in
    subst (λ w. HearsAlike g.A.Ledger.nothing g.A.Ledger.patched g.A.Ledger.has_form g.A.Carried.stated g.B.Carried.stated (g.L.Limit.excess c.args.limit.now) c.args.packet.now c.args.self.now new (record { fresh = false; what = w })) (sym c.taken.ensures)
    (change_alike g.A.Ledger.nothing g.A.Ledger.patched g.A.Ledger.has_form g.A.Carried.stated g.B.Carried.stated c.args.self.now (g.L.Limit.excess c.args.limit.now) c.args.packet.now c.requires.known
    g.B.Ledger.patched g.B.Carried.changed g.B.Carried.from_role g.met.B.Carried.change_makes c.requires.formed c.requires.from c.change_in-change.result.now c.change_in-change.ensures.change words
    new made fits c.requires.kind (ap (λ e. e.outgoing) done.rest ∙ ap (λ e. e.outgoing) c.self.view_is) (done.takes.place ∙ ap (λ s. s.place) c.requires.stamp) (ap (λ e. e.acked) done.rest ∙ ap (λ e. e.acked) c.self.view_is))
