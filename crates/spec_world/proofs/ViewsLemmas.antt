-- Places within their histories, and receivers that have caught up.
use Rattle.std.proofs.Common.{◌≡◌, true, nat_eq}
use Rattle.spec_net.specs.Net.{Net, Party, last, at_index}
use Rattle.spec_net.specs.Ledgers.{Ledger, nothing}
use Rattle.spec_net.specs.Channels.{party, view, present, is_caught_up}
use Rattle.spec_net.specs.Sound.{Bounded}
use Rattle.spec_world.specs.Safe.{Views}
use Rattle.fuxi_terms.proofs.Booleans.{both_true, number_is}

-- who has caught up has the sender's present ledger
pub caught_up : (net : Net Ledger) (s r : Party) → is_caught_up net s r ≡ true → view net r s.id ≡ present net s r.id
caught_up net s r e =
    let parts = both_true (nat_eq (net.links r s.id).known s.inc) (nat_eq (net.links r s.id).seq (last net s r.id)) e in
    let known = number_is (net.links r s.id).known s.inc parts.0 in
    let seq = number_is (net.links r s.id).seq (last net s r.id) parts.1 in
    λ i. at_index nothing (net.histories (party s.id (known i)) r.id) (seq i)

-- places within their histories
pub views_of : (net : Net Ledger) → Bounded net → Views net
views_of net b = record { there = λ p q. (b.links p q).place; current = caught_up net }
