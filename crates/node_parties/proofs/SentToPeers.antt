-- What a master sends to a party that it talks to.
use Rattle.std.proofs.Common.{◌≡◌, ◌<◌, ℕ, true, nat_lt, List, [], map, sym, ◌∙◌, ap, subst, arith}
use Rattle.std.specs.List.{AllByRecursion}
use Rattle.std.proofs.lemmas.Bool.Decides.{nat_tests}
use Rattle.fuxi_terms.proofs.Booleans.{and_true, or_false}
use Rattle.fuxi_terms.specs.Cluster.{ClusterRecord, has_machine}
use Rattle.fuxi_terms.specs.Jobs.{is_known}
use Rattle.schedule_unit.specs.declared.party.Role.{Role}
use Rattle.schedule_unit.specs.declared.party.Role.TheVariants as role
use Rattle.party_ledgers.specs.Packets.{are_parties, is_number_of}
use Rattle.peer_channel.specs.Parcels.{IsSent, id_of, parcel_is}
use Rattle.spec_net.specs.Sides.{Parcel}
use Rattle.spec_roles.specs.MasterSteps.{talks}
use Rattle.spec_roles.specs.MasterRoles.{MasterRole, MasterAnswer, Done as IsDone, RefusedAs, Sent as SentAs, HeardAs}
use Rattle.fuxi_master.specs.Cores.{CoreRecord, StandsFor}
use Rattle.fuxi_master.specs.Steps.{IsSentFormed, answer_of, is_peer}
use Rattle.fuxi_master.specs.declared.event.Outcome.{Outcome}
use Rattle.fuxi_master.specs.declared.event.Outcome.TheVariants.{Done, Refused, Sent, Heard}
use Rattle.node_parties.specs.NodeCommands.{Sends, packets_in}

-- a party that it talks to is a peer of its core
pub peer_is : (x : CoreRecord) (r : MasterRole) (p : Role) (n : ℕ) → StandsFor x r → talks r.cluster r.state (id_of p n) ≡ true → is_peer x p n ≡ true
peer_is x r role.Master n s is = is
peer_is x r role.Agent n s is = ap (λ (c : ClusterRecord). has_machine c n) s.stands.cluster ∙ sym (or_false (has_machine r.cluster n)) ∙ is
peer_is x r role.App n s is = ap (λ jobs. is_known jobs n) (sym s.stands.jobs) ∙ is

-- the two are the parties of a channel
pub parties_are : (epoch n inc : ℕ) (r : MasterRole) (p : Role) → 0 < epoch → talks r.cluster r.state (id_of p n) ≡ true → is_number_of p n ≡ true
    → are_parties (record { role = role.Master; number = 0; inc = epoch }) (record { role = p; number = n; inc = inc }) ≡ true
parties_are epoch n inc r role.Master above is number = cc
parties_are epoch n inc r role.Agent above is number = and_true (nat_lt n 256) (nat_lt 0 epoch) number (grind (arith, nat_tests, above))
parties_are epoch n inc r role.App above is number = and_true (nat_lt n 256) (nat_lt 0 epoch) number (grind (arith, nat_tests, above))

abbrev answer_sends : MasterAnswer → Type 0
answer_sends IsDone = ⊥
answer_sends (RefusedAs why) = ⊥
answer_sends (SentAs parcels) = Unit {0}
answer_sends (HeardAs fresh what) = ⊥

abbrev answer_parcels : MasterAnswer → List Parcel
answer_parcels IsDone = []
answer_parcels (RefusedAs why) = []
answer_parcels (SentAs parcels) = parcels
answer_parcels (HeardAs fresh what) = []

pub sends_by : (o : Outcome) (parcels : List Parcel) → answer_of o ≡ SentAs parcels → Sends o
sends_by Done parcels is = subst answer_sends (sym is) tt
sends_by (Refused why) parcels is = subst answer_sends (sym is) tt
sends_by (Sent packets) parcels is = tt
sends_by (Heard heard) parcels is = subst answer_sends (sym is) tt

pub sent_says : (o : Outcome) (parcels : List Parcel) → answer_of o ≡ SentAs parcels → map parcel_is (packets_in o) ≡ parcels
sent_says Done parcels is = ap answer_parcels is
sent_says (Refused why) parcels is = ap answer_parcels is
sent_says (Sent packets) parcels is = ap answer_parcels is
sent_says (Heard heard) parcels is = ap answer_parcels is

pub sent_formed : (o : Outcome) → IsSentFormed o → AllByRecursion IsSent (packets_in o)
sent_formed Done formed = tt
sent_formed (Refused why) formed = tt
sent_formed (Sent packets) formed = formed
sent_formed (Heard heard) formed = tt
