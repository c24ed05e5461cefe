use Rattle.std.proofs.Common.{sym, ◌∙◌, ap, map}
use Rattle.peer_channel.specs.Parcels.{id_of, parcel_is}
use Rattle.spec_roles.specs.MasterRoles.{master_hears_alone, report_excess}
use Rattle.master_desk.specs.declared.entry.Words.TheVariants.{Took}
use Rattle.master_desk.specs.Desks.{sending_of}
use Rattle.master_desk.proofs.DesksLemmas.{none_sent, some_sent}
use Rattle.master_desk.proofs.hear.hear_packet.Goals as goal

pub returns-then-not-talks_to-clause-hears : goal.returns-then-not-talks_to-clause-hears
returns-then-not-talks_to-clause-hears c r s =
    let a = c.in-Ok.ensures.answers r s in
    let h = master_hears_alone (report_excess r.cluster r.state) r (parcel_is c.args.packet) in
    record {
      role = a.role;
      words_are = ap Took (c.heard_in-heard.ensures h.fresh h.what a.says);
      sent = ap (map sending_of) c.new.ensures ∙ sym (none_sent h.role (id_of c.args.packet.from.role c.args.packet.from.number) (sym (c.if-not-talks_to.ensures.stands h.role a.role)));
    }

pub returns-in-Ok-turn_to-clause-hears : goal.returns-in-Ok-turn_to-clause-hears
returns-in-Ok-turn_to-clause-hears c r s =
    let a = c.in-Ok.ensures.answers r s in
    let h = master_hears_alone (report_excess r.cluster r.state) r (parcel_is c.args.packet) in
    record {
      role = c.in-Ok-turn_to.ensures.stands h.role a.role;
      words_are = ap Took (c.heard_in-heard.ensures h.fresh h.what a.says);
      sent = c.in-Ok-turn_to.ensures.sends h.role a.role ∙ sym (some_sent h.role (id_of c.args.packet.from.role c.args.packet.from.number) (sym (c.if-not-talks_to.ensures.stands h.role a.role)));
    }
