-- What a core answers a command is what the master by itself answers.
use Rattle.std.proofs.Common.{◌≡◌, ℕ, ◌+◌, true, false, not, List, [], ◌∷◌, ◌++◌, map, Option, None, Ok, Err, refl, sym, ◌∙◌, ap, subst}
use Rattle.std.specs.List.{AllByRecursion}
use Rattle.schedule_unit.specs.declared.party.AppNo.{AppNo}
use Rattle.schedule_unit.specs.declared.party.MachineNo.{MachineNo}
use Rattle.schedule_unit.specs.declared.party.Party.{Party}
use Rattle.party_ledgers.specs.declared.packets.Heard.{Heard}
use Rattle.party_ledgers.specs.declared.packets.Packet.{Packet}
use Rattle.peer_channel.specs.Parcels.{IsSent}
use Rattle.spec_net.specs.Net.{Id}
use Rattle.spec_net.specs.Sides.{turn_parcels}
use Rattle.peer_channel.specs.Parcels.{id_of, parcel_is}
use Rattle.spec_roles.specs.Masters.{Master}
use Rattle.spec_roles.specs.Refusals.{unless_fault, with_found, AlreadyServing as SaysAlready, NotServing as SaysNot, NothingToPreempt as SaysNothing}
use Rattle.spec_roles.specs.Placing.{line_up}
use Rattle.spec_roles.specs.Preemption.{plan_of, preempted}
use Rattle.spec_roles.specs.MasterSteps.{MasterChange, Begins, Preempts as MakesIt, changed_to, change_of, master_party}
use Rattle.spec_roles.specs.MasterRoles.{MasterRole, Told, HeardAs, Sent as SentAs, master_turn, changes_as, ends_alone, master_steps_alone}
use Rattle.ledger_updates.specs.declared.grants.StepChanges.{StepChanges}
use Rattle.fuxi_master.specs.declared.event.MasterEvent.{MasterEvent}
use Rattle.fuxi_master.specs.declared.event.Outcome.{Outcome}
use Rattle.fuxi_master.specs.declared.event.MasterEvent.TheVariants.{Packet as PacketComes, Turn, TurnTo}
use Rattle.fuxi_master.specs.declared.event.Outcome.TheVariants.{Done, Refused, Sent, Heard as HeardOne}
use Rattle.fuxi_master.specs.declared.event.MasterRefusal.TheVariants.{AlreadyServing, NotServing, NothingToPreempt}
use Rattle.fuxi_master.specs.Cores.{CoreRecord, IsCore, IsWithin, StandsFor}
use Rattle.fuxi_master.specs.Commands.{changed_by, beginning, MakesRoom}
use Rattle.fuxi_master.specs.Heard.{Changes, AreStepChanges}
use Rattle.fuxi_master.specs.Steps.{Answers, IsSentFormed, IsStep, IsHeard, StepsAlike, HasRole, EndsAlike, agent_named, app_named, forced_by}
use Rattle.fuxi_master.proofs.StepsLemmas.{wider, ends_lined}

-- who is named in news
pub named_by : (machine : Option MachineNo) (app : Option AppNo) (news : StepChanges) → news.reported ≡ machine → news.admitted ≡ app → forced_by news ≡ agent_named machine ++ app_named app
named_by machine app news reported admitted = (λ i. agent_named (reported i) ++ app_named (admitted i))

-- a change that is carried to the end of its step
pub commanded : (news : StepChanges) (f : Master → Master) (even_if_equal : List Id) (x y v : CoreRecord) (change : MasterChange)
    → Changes news (changed_by f) x y → EndsAlike news y v → forced_by news ≡ even_if_equal
    → ((r : MasterRole) → StandsFor x r → change_of r.cluster r.state change ≡ Ok (record { state = f r.state; even_if_equal = even_if_equal }))
    → (r : MasterRole) → StandsFor x r → Answers v Done (master_steps_alone r (Told change))
commanded news f even_if_equal x y v change changes ends named is r h =
    let ended : StandsFor v (ends_alone r.cluster r.sides (f r.state) (forced_by news)) = ends (changed_by f r) (changes.stands r h) in
    let there : StandsFor v (ends_alone r.cluster r.sides (f r.state) even_if_equal) = subst (λ q. StandsFor v (ends_alone r.cluster r.sides (f r.state) q)) named ended in
    subst (Answers v Done) (sym (ap (changes_as r) (is r h))) (record { role = there; says = refl })

-- a step that ends with its change
pub is_done : (event : MasterEvent) (steps : ℕ) (x v : CoreRecord) → IsCore v → IsWithin (steps + 1) v → StepsAlike event x v Done → IsStep event steps x v Done
is_done event steps x v core within answers = record { core = core; within = within; answers = answers; formed = tt }

-- the start of service, where it does not serve yet
pub begins : (x : CoreRecord) → x.serving ≡ false → (r : MasterRole) → StandsFor x r → change_of r.cluster r.state Begins ≡ Ok (record { state = beginning r.state; even_if_equal = [] })
begins x off r h = ap (λ b. change_of r.cluster (record r.state { serving = b }) Begins) (h.stands.serving ∙ off)

pub begins_refused : (x : CoreRecord) → x.serving ≡ true → (r : MasterRole) → StandsFor x r → Answers x (Refused AlreadyServing) (master_steps_alone r (Told Begins))
begins_refused x on r h =
    let is : change_of r.cluster r.state Begins ≡ Err SaysAlready = ap (λ b. change_of r.cluster (record r.state { serving = b }) Begins) (h.stands.serving ∙ on) in
    subst (Answers x (Refused AlreadyServing)) (sym (ap (changes_as r) is)) (record { role = h; says = refl })

-- room that is made, or why it is not
pub preempt_not_serving : (x : CoreRecord) → x.serving ≡ false → (r : MasterRole) → StandsFor x r → Answers x (Refused NotServing) (master_steps_alone r (Told MakesIt))
preempt_not_serving x off r h =
    let is : change_of r.cluster r.state MakesIt ≡ Err SaysNot = ap (λ b. unless_fault ((not b, SaysNot) ∷ []) (with_found (plan_of r.cluster r.state) (Err SaysNothing) (λ p. changed_to (preempted r.state p)))) (h.stands.serving ∙ off) in
    subst (Answers x (Refused NotServing)) (sym (ap (changes_as r) is)) (record { role = h; says = refl })

pub preempt_nothing : (x : CoreRecord) → x.serving ≡ true → (r : MasterRole) → StandsFor x r → plan_of r.cluster r.state ≡ None → Answers x (Refused NothingToPreempt) (master_steps_alone r (Told MakesIt))
preempt_nothing x on r h none =
    let is : change_of r.cluster r.state MakesIt ≡ Err SaysNothing = (λ i. unless_fault ((not ((h.stands.serving ∙ on) i), SaysNot) ∷ []) (with_found (none i) (Err SaysNothing) (λ p. changed_to (preempted r.state p)))) in
    subst (Answers x (Refused NothingToPreempt)) (sym (ap (changes_as r) is)) (record { role = h; says = refl })

pub has_room : (news : StepChanges) (x y : CoreRecord) → IsCore x → MakesRoom news x y → HasRole news y
has_room news x y core made =
    let near = core.near in
    let room = made.made near.role near.stands in
    record { role = changed_by (λ M. line_up (preempted M room.plan)) near.role; stands = room.stands; told = record { told = core.told.told; credits = core.told.credits } }

pub room_made : (x y v : CoreRecord) (news : StepChanges) → x.serving ≡ true → AreStepChanges None None news → MakesRoom news x y → EndsAlike news y v → (r : MasterRole) → StandsFor x r → Answers v Done (master_steps_alone r (Told MakesIt))
room_made x y v news on is made ends r h =
    let c = r.cluster in
    let M = r.state in
    let room = made.made r h in
    let p = room.plan in
    let ended : StandsFor v (ends_alone c r.sides (line_up (preempted M p)) (forced_by news)) = ends (changed_by (λ N. line_up (preempted N p)) r) room.stands in
    let unlined : StandsFor v (ends_alone c r.sides (preempted M p) (forced_by news)) = subst (StandsFor v) (ends_lined c r.sides (preempted M p) (forced_by news) room.lined) ended in
    let there : StandsFor v (ends_alone c r.sides (preempted M p) []) = subst (λ q. StandsFor v (ends_alone c r.sides (preempted M p) q)) (named_by None None news is.reported_is is.admitted_is) unlined in
    let change : change_of c M MakesIt ≡ Ok (record { state = preempted M p; even_if_equal = [] }) = (λ i. unless_fault ((not ((h.stands.serving ∙ on) i), SaysNot) ∷ []) (with_found (room.planned i) (Err SaysNothing) (λ q. changed_to (preempted M q)))) in
    subst (Answers v Done) (sym (ap (changes_as r) change)) (record { role = there; says = refl })

-- a step after which the core is what it was
pub stays : (event : MasterEvent) (steps : ℕ) (x y : CoreRecord) (outcome : Outcome) → IsCore x → IsWithin steps x → y ≡ x → StepsAlike event x x outcome → IsSentFormed outcome → IsStep event steps x y outcome
stays event steps x y outcome core within same answers formed = subst (λ (z : CoreRecord). IsStep event steps x z outcome) (sym same) (record { core = core; within = wider steps x within; answers = answers; formed = formed })

-- packets that are heard, and packets that are sent
pub heard_one : (packet : Packet) (steps : ℕ) (x y : CoreRecord) (heard : Heard) → IsHeard packet steps x y heard → IsStep (PacketComes packet) steps x y (HeardOne heard)
heard_one packet steps x y heard is = record {
  core = is.core;
  within = is.within;
  answers = λ r h. let k = is.hears r h in record { role = k.role; says = (λ i. HeardAs (k.fresh i) (k.says i)) };
  formed = tt;
}

pub sent_all : (steps : ℕ) (x : CoreRecord) (packets : List Packet) → IsCore x → IsWithin steps x → ((r : MasterRole) → StandsFor x r → map parcel_is packets ≡ master_turn r) → AllByRecursion IsSent packets → IsStep Turn steps x x (Sent packets)
sent_all steps x packets core within sends formed = stays Turn steps x x (Sent packets) core within refl (λ r h. record { role = h; says = ap SentAs (sends r h) }) formed

pub sent_one : (steps : ℕ) (x : CoreRecord) (peer : Party) (packets : List Packet) → IsCore x → IsWithin steps x
    → ((r : MasterRole) → StandsFor x r → map parcel_is packets ≡ turn_parcels (master_party r.state) (id_of peer.role peer.number) (r.sides (id_of peer.role peer.number))) → AllByRecursion IsSent packets → IsStep (TurnTo peer) steps x x (Sent packets)
sent_one steps x peer packets core within sends formed = stays (TurnTo peer) steps x x (Sent packets) core within refl (λ r h. record { role = h; says = ap SentAs (sends r h) }) formed
