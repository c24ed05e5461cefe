-- Two ends of a channel, said of the written net in which they stand.
use Rattle.std.proofs.Common.{◌≡◌, ◌≤◌, true, nat_eq, length, sym, ◌∙◌, ap, subst}
use Rattle.fuxi_terms.proofs.Booleans.{and_true, nat_itself}
use Rattle.delta_channel.specs.declared.receiver.Place.{Place}
use Rattle.delta_channel.specs.Standing.{Sending}
use Rattle.delta_channel.specs.Hearing.{Receiving}
use Rattle.channel_refinement.specs.Alike.{place_at}
use Rattle.spec_net.specs.Net.{Net, Party, last}
use Rattle.spec_net.specs.Ledgers.{Ledger}
use Rattle.spec_net.specs.Channels.{party, view, present, is_caught_up}
use Rattle.spec_world.specs.Safe.{Views}
use Rattle.schedule_replay.specs.Promises.{Follows}

-- the receiver p has this place in what s sends, and what it received and what s shows are read of the ledgers in one way
pub follows : {V D : Type 0} (net : Net Ledger) (p s : Party) (read : Ledger → V) (receiver : Receiving V) (sender : Sending V D) → Views net
    → receiver.place ≡ place_at (net.links p s.id) → sender.own ≡ s.inc → sender.last ≡ length (net.histories s p.id)
    → read (view net p s.id) ≡ receiver.received → read (present net s p.id) ≡ sender.present → Follows receiver sender
follows {V} {D} net p s read receiver sender views place own long got shown = record {
  there = λ same.
      let known : (net.links p s.id).known ≡ s.inc = ap (λ (x : Place). x.inc) (sym place) ∙ same ∙ own in
      let seq : (net.links p s.id).seq ≡ receiver.place.seq = ap (λ (x : Place). x.seq) (sym place) in
      let within : (net.links p s.id).seq ≤ length (net.histories s p.id) = subst (λ k. (net.links p s.id).seq ≤ last net (party s.id k) p.id) known (views.there p s.id) in
      subst (λ n. receiver.place.seq ≤ n) (sym long) (subst (λ n. n ≤ length (net.histories s p.id)) seq within);
  current = λ here.
      let known : (net.links p s.id).known ≡ s.inc = ap (λ (x : Place). x.inc) (sym place ∙ here) ∙ own in
      let seq : (net.links p s.id).seq ≡ last net s p.id = ap (λ (x : Place). x.seq) (sym place ∙ here) ∙ long in
      let up : is_caught_up net s p ≡ true =
      and_true (nat_eq (net.links p s.id).known s.inc) (nat_eq (net.links p s.id).seq (last net s p.id))
      (subst (λ k. nat_eq k s.inc ≡ true) (sym known) (nat_itself s.inc))
      (subst (λ k. nat_eq k (last net s p.id) ≡ true) (sym seq) (nat_itself (last net s p.id))) in
      sym got ∙ ap read (views.current s p up) ∙ shown;
}
