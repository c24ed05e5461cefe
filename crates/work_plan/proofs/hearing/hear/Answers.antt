use Rattle.spec_net.specs.Net.{met as meet}
use Rattle.std.proofs.Common.{◌≡◌, ◌≤◌, nat_lt, ap, subst, arith, sym, ◌∙◌}
use Rattle.delta_channel.specs.declared.receiver.Place.{Place}
use Rattle.work_plan.specs.Ends.{packet_of, TakesAs}
use Rattle.work_plan.proofs.EndsLemmas.{met_end, heard_end, packet_from}
use Rattle.work_plan.proofs.hearing.hear.Goals as goal

pub returns-in-Ok-clause-hears : goal.returns-in-Ok-clause-hears
returns-in-Ok-clause-hears c p q l hs e brought at_q at_p =
    let x = packet_of c.args.parcel.now in
    let inc = packet_from c.args.parcel.now in
    let met = met_end c.args.ends.now c.hear-fresh.new.self c.hear-fresh.result p q l hs c.args.parcel.now.from.inc e c.hear-fresh.ensures.meets c.hear-fresh.ensures.rest in
    let takes = c.in-Ok.ensures.takes p q (meet l c.args.parcel.now.from.inc) hs met.ends brought at_q at_p in
    let known : c.peer.result ≡ l.known = c.peer.ensures ∙ ap (λ (y : Place). y.inc) e.place in
    let le : l.known ≤ x.from.inc = omega (arith, c.if-from-peer.false, known, inc) in
    heard_end c.hear_known.new.ends (record { fresh = c.hear-fresh.result; what = c.in-Ok.what }) p q l hs x le (met.is ∙ ap (λ n. nat_lt l.known n) (sym inc)) (subst (λ n. TakesAs c.hear_known.new.ends c.in-Ok.what p q (meet l n) hs x) (sym inc) takes)
