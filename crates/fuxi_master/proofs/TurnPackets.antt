-- What a turn sends, peer by peer.
use Rattle.std.proofs.Common.{◌≡◌, ℕ, zero, suc, ◌+◌, ◌<◌, Bool, true, false, cond, nat_eq, nat_lt, List, [], ◌∷◌, ◌++◌, length, map, take, Option, Some, None, refl, sym, ◌∙◌, ap, subst, arith, add-one, slice_get}
use Rattle.std.specs.Prelude.{◌||◌}
use Rattle.std.specs.List.{flat_map}
use Rattle.std.specs.Option.{is_some}
use Rattle.std.proofs.lemmas.List.{map-append, flat_map_more}
use Rattle.std.proofs.lemmas.Bool.Decides.{nat_tests}
use Rattle.fuxi_terms.specs.Cluster.{JobRecord}
use Rattle.fuxi_terms.specs.Jobs.{KnownJob, job_of, is_known}
use Rattle.fuxi_terms.specs.Lists.{below}
use Rattle.fuxi_terms.proofs.Booleans.{nat_itself, or_left, or_right}
use Rattle.fuxi_terms.proofs.Lists.{take_last}
use Rattle.grant_table.specs.GrantTables.{as_known}
use Rattle.fuxi_terms.specs.Rows.{IsRow, patched_row}
use Rattle.fuxi_terms.specs.Tallies.{empty_tally}
use Rattle.fuxi_terms.specs.TallyKeys.{greatest_grant}
use Rattle.ledger_law.specs.Shapes.{IsTally}
use Rattle.schedule_unit.specs.declared.party.Role.{Role}
use Rattle.schedule_unit.specs.declared.party.Role.TheVariants.{Master as AsMaster, Agent as AsAgent, App as AsApp}
use Rattle.party_ledgers.specs.declared.packets.Packet.{Packet}
use Rattle.spec_net.specs.Net.{Id}
use Rattle.spec_net.specs.Ledgers.{row_ledger}
use Rattle.spec_net.specs.Channels.{agent_id, app_id}
use Rattle.spec_net.specs.Sides.{Parcel, turn_parcels}
use Rattle.spec_roles.specs.MasterSteps.{master_party}
use Rattle.spec_roles.specs.MasterRoles.{MasterRole}
use Rattle.peer_channel.specs.Bodies.{report_of, tally_of}
use Rattle.peer_channel.specs.Parcels.{parcel_is}
use Rattle.peer_channel.specs.Sending.{TurnsAlike}
use Rattle.ledger_updates.specs.AllShown.{Down, App}
use Rattle.fuxi_master.specs.Cores.{CoreRecord, IsDown, IsApp, IsKept, StandsFor, patched_grants}
use Rattle.fuxi_master.specs.Steps.{is_peer}

-- a job of a table is known
known_more : (j : KnownJob) (o : Option KnownJob) (b : Bool) → (b || is_some o) ≡ is_some (cond b (Some j) o)
known_more j o true = refl
known_more j o false = refl

pub known_at : (js : List JobRecord) (i : ℕ) (j : JobRecord) → slice_get js i ≡ Some j → is_known (as_known js) j.number ≡ true
known_at [] i j there = cc
known_at (k ∷ js) zero j there =
    let same : j ≡ k = cc in
    sym (known_more (record { job = k; ended = false }) (job_of (as_known js) j.number) (nat_eq k.number j.number))
    ∙ or_left (nat_eq k.number j.number) (is_known (as_known js) j.number) (ap (λ (x : JobRecord). nat_eq k.number x.number) same ∙ nat_itself k.number)
known_at (k ∷ js) (suc i) j there =
    sym (known_more (record { job = k; ended = false }) (job_of (as_known js) j.number) (nat_eq k.number j.number))
    ∙ or_right (nat_eq k.number j.number) (is_known (as_known js) j.number) (known_at js i j there)

-- the numbers of jobs, with one more
abbrev pub numbers_in : List JobRecord → List ℕ
numbers_in js = map (λ (j : JobRecord). j.number) js

pub numbers_more : (js : List JobRecord) (i : ℕ) (j : JobRecord) → slice_get js i ≡ Some j → numbers_in (take i js) ++ j.number ∷ [] ≡ numbers_in (take (i + 1) js)
numbers_more js i j there = sym (map-append (λ (j : JobRecord). j.number) (take i js) (j ∷ [])) ∙ ap numbers_in (sym (take_last js i j there))

-- What is sent to one peer more stands behind what was sent to those before
sent_next : (f : Id → List Parcel) (qs : List Id) (q : Id) (before now after : List Parcel) → now ≡ before ++ flat_map f qs → after ≡ now ++ f q → after ≡ before ++ flat_map f (qs ++ q ∷ [])
sent_next f qs q before now after h k = k ∙ ap (λ xs. xs ++ f q) h ∙ flat_map_more f before qs q

abbrev pub sent_to : MasterRole → Id → List Parcel
sent_to r q = turn_parcels (master_party r.state) q (r.sides q)

module _ (x : CoreRecord) (r : MasterRole) (h : StandsFor x r) (n : ℕ) (before now after : List Packet) where
  pub agent_sent : (d : Down) → slice_get x.agents n ≡ Some d → TurnsAlike [] patched_row IsRow row_ledger report_of d AsMaster 0 AsAgent n now after
      → map parcel_is after ≡ map parcel_is now ++ sent_to r (agent_id n)
  agent_sent d there turns = turns r.state.epoch (r.sides (agent_id n)) (subst (λ k. IsDown d k (r.sides (agent_id n))) (sym h.stands.epoch) (h.stands.agents n d there))

  pub app_sent : (d : App) → slice_get x.apps n ≡ Some (Some d) → TurnsAlike empty_tally patched_grants (IsTally greatest_grant) tally_of tally_of d AsMaster 0 AsApp n now after
      → map parcel_is after ≡ map parcel_is now ++ sent_to r (app_id n)
  app_sent d there turns = turns r.state.epoch (r.sides (app_id n)) (subst (λ k. IsApp d k (r.sides (app_id n))) (sym h.stands.epoch) (h.stands.apps n d there))

  pub agent_next : (d : Down) → slice_get x.agents n ≡ Some d → TurnsAlike [] patched_row IsRow row_ledger report_of d AsMaster 0 AsAgent n now after
      → map parcel_is now ≡ map parcel_is before ++ flat_map (sent_to r) (map agent_id (below n))
      → map parcel_is after ≡ map parcel_is before ++ flat_map (sent_to r) (map agent_id (below (n + 1)))
  agent_next d there turns so_far =
      sent_next (sent_to r) (map agent_id (below n)) (agent_id n) (map parcel_is before) (map parcel_is now) (map parcel_is after) so_far (agent_sent d there turns)
      ∙ ap (λ qs. map parcel_is before ++ flat_map (sent_to r) qs) (sym (map-append agent_id (below n) (n ∷ [])) ∙ ap (λ k. map agent_id (below k)) (sym (add-one n)))

  pub app_next : (d : App) → slice_get x.apps n ≡ Some (Some d) → TurnsAlike empty_tally patched_grants (IsTally greatest_grant) tally_of tally_of d AsMaster 0 AsApp n now after → (ns : List ℕ)
      → map parcel_is now ≡ map parcel_is before ++ flat_map (sent_to r) (map app_id ns)
      → map parcel_is after ≡ map parcel_is before ++ flat_map (sent_to r) (map app_id (ns ++ n ∷ []))
  app_next d there turns ns so_far =
      sent_next (sent_to r) (map app_id ns) (app_id n) (map parcel_is before) (map parcel_is now) (map parcel_is after) so_far (app_sent d there turns)
      ∙ ap (λ qs. map parcel_is before ++ flat_map (sent_to r) qs) (sym (map-append app_id ns (n ∷ [])))

-- what is known at a slot
pub slot_known : (x : CoreRecord) → IsKept x → (n : ℕ) (o : Option App) → slice_get x.apps n ≡ Some o → is_known x.known.jobs n ≡ is_some o
slot_known x kept n o there = sym (kept.slots n o there)

-- Ends of the channels with peers
pub agent_peer : (x : CoreRecord) → IsKept x → (role : Role) (n : ℕ) → is_peer x role n ≡ true → role ≡ AsAgent → n < length x.agents
agent_peer x kept role n peer is =
    let t : nat_lt n (length x.allotment.table.cluster.machines) ≡ true = subst (λ (k : Role). is_peer x k n ≡ true) is peer in
    let lt : n < length x.allotment.table.cluster.machines = grind (arith, nat_tests, t) in
    let wide = kept.agents in
    omega (arith, lt, wide)

pub app_peer : (x : CoreRecord) (role : Role) (n : ℕ) → is_peer x role n ≡ true → role ≡ AsApp → is_known x.known.jobs n ≡ true
app_peer x role n peer is = subst (λ (k : Role). is_peer x k n ≡ true) is peer

-- the slot of a known job is filled
pub app_there : (x : CoreRecord) → IsKept x → (n : ℕ) → is_known x.known.jobs n ≡ true → slice_get x.apps n ≡ Some None → ⊥
app_there x kept n known there = let f : true ≡ false = sym known ∙ slot_known x kept n None there in cc
