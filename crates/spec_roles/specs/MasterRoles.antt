-- A master by itself: its state with its side of the channel with each peer, and its steps.
use Rattle.std.specs.Prelude.{ℕ, Bool, true, false, cond, not, ◌&&◌, List, [], ◌∷◌, map, filter, Option, Some, None, Result, Ok, Err}
use Rattle.std.specs.List.{flat_map}
use Rattle.fuxi_terms.specs.declared.answers.What.{What}
use Rattle.fuxi_terms.specs.declared.answers.What.TheVariants.{Stranger}
use Rattle.fuxi_terms.specs.declared.vectors.Res.{Res}
use Rattle.fuxi_terms.specs.declared.vectors.Sum.{Sum}
use Rattle.fuxi_terms.specs.Counts.{then_do}
use Rattle.fuxi_terms.specs.Cluster.{ClusterRecord, machine_of}
use Rattle.fuxi_terms.specs.Padded.{padded}
use Rattle.fuxi_terms.specs.Vectors.{fits}
use Rattle.fuxi_terms.specs.Rows.{row_total}
use Rattle.fuxi_terms.specs.Numbers.{has_number}
use Rattle.fuxi_terms.specs.Jobs.{job_numbers}
use Rattle.spec_net.specs.Net.{Id, same_id, is_taken}
use Rattle.spec_net.specs.Ledgers.{Ledger}
use Rattle.spec_net.specs.Channels.{is_agent, app_id, Offer}
use Rattle.spec_net.specs.Sides.{Side, new_side, appended, resynced_side, Parcel, turn_parcels, HeardSide, hears_side}
use Rattle.spec_roles.specs.Refusals.{Refusal}
use Rattle.spec_roles.specs.HardState.{HardState}
use Rattle.spec_roles.specs.Masters.{Master}
use Rattle.spec_roles.specs.MasterSteps.{master_party, projected, talks, peers, is_one_of, offers_of, ready, told_of, adopted_of, adopts, is_kept, said, new_master, MasterChange, Changed, change_of, MasterCommand, command_of}

-- its cluster, its state, and its side of the channel with each peer
pub record MasterRole : Type 0 where
  pub cluster : ClusterRecord
  pub state : Master
  pub sides : Id → Side

abbrev pub set_side : (Id → Side) → Id → Side → Id → Side
set_side sides q e d = elim (same_id q d) [ true ↦ e | false ↦ sides d ]

-- what the peers should hold is appended to the sides where it is due
abbrev pub publish_alone : (Id → Side) → List Offer → Id → Side
publish_alone sides [] = sides
publish_alone sides (o ∷ os) = publish_alone (set_side sides o.to (appended o.even_if_equal o.ledger (sides o.to))) os

abbrev pub offers_alone : ClusterRecord → (Id → Side) → Master → List Id → List Offer
offers_alone c sides M even_if_equal = offers_of c (λ q. (sides q).link.known) M even_if_equal

-- the end of a step, with the state and the sides that it made
abbrev pub ends_alone : ClusterRecord → (Id → Side) → Master → List Id → MasterRole
ends_alone c sides M even_if_equal = record { cluster = c; state = ready c M; sides = publish_alone sides (offers_alone c sides (ready c M) even_if_equal) }

-- the same said of each peer: one with whom the master talks has what it should hold appended where it is due, all others stay
abbrev pub side_after : ClusterRecord → (Id → Side) → Master → List Id → Id → Side
side_after c sides M even_if_equal q = cond (talks c M q) (appended (is_one_of q even_if_equal) (projected M q (sides q).link.known) (sides q)) (sides q)

-- Hearing. A report of which the entries that would be kept do not fit the machine; one that is not adopted, or of a banned machine, is never too much
abbrev pub kept_total : Master → Ledger → List ℕ
kept_total M l = row_total (filter (λ e. is_kept M.jobs e.0) l.rows)

abbrev pub report_excess : ClusterRecord → Master → Id → Ledger → Option (Sum × Res)
report_excess c M from l =
    let has = padded (machine_of c from.number).has in
    cond (is_agent from && (adopts M from.number l && (not (has_number from.number M.bans) && not (fits (kept_total M l) has)))) (Some (record { q = kept_total M l }, record { q = has })) None

pub record MasterHeard : Type 0 where
  pub fresh : Bool
  pub what : What
  pub role : MasterRole

abbrev pub master_told : MasterRole → Id → HeardSide → MasterHeard
master_told r from h =
    let l = said r.cluster r.state from h.side.got in
    let taken = is_taken h.what in
    record {
      fresh = h.fresh;
      what = h.what;
      role = ends_alone r.cluster (set_side r.sides from h.side) (told_of r.state h.fresh taken from l) (adopted_of r.state taken from l);
    }

-- a stranger's packet changes nothing
abbrev pub master_hears_alone : (Id → Ledger → Option (Sum × Res)) → MasterRole → Parcel → MasterHeard
master_hears_alone excess r x =
    let from = x.packet.from.id in
    cond (talks r.cluster r.state from)
    (master_told r from (hears_side (master_party r.state) true (excess from) (r.sides from) x))
    (record { fresh = false; what = Stranger; role = r })

-- Starts and commands
abbrev pub master_started : ClusterRecord → HardState → ℕ → MasterRole
master_started c h e = ends_alone c (λ q. new_side) (new_master h e) (map app_id (job_numbers h.jobs))

abbrev pub master_changed : MasterRole → Changed → MasterRole
master_changed r d = ends_alone r.cluster r.sides d.state d.even_if_equal

-- a command, with the hard state that it leaves
abbrev pub master_commanded : MasterRole → HardState → MasterCommand → Result (MasterRole × HardState) Refusal
master_commanded r h x = then_do (command_of r.cluster h r.state x) (λ k. Ok (master_changed r k.change, k.hard))

-- Turns and resyncs, peer by peer
abbrev pub master_turn : MasterRole → List Parcel
master_turn r = flat_map (λ q. turn_parcels (master_party r.state) q (r.sides q)) (peers r.cluster r.state)

abbrev pub resync_alone : (Id → Side) → List Id → Id → Side
resync_alone sides [] = sides
resync_alone sides (q ∷ qs) = resync_alone (set_side sides q (resynced_side (sides q))) qs

abbrev pub master_resynced : MasterRole → MasterRole
master_resynced r = record { cluster = r.cluster; state = r.state; sides = resync_alone r.sides (peers r.cluster r.state) }

-- What a master is told once the hard state is written, and what it answers
pub data MasterTold : Type 0 where
  Comes : (parcel : Parcel) → MasterTold
  Told : (change : MasterChange) → MasterTold
  TurnAll : MasterTold
  TurnTo : (peer : Id) → MasterTold
  ResyncAll : MasterTold

pub data MasterAnswer : Type 0 where
  Done : MasterAnswer
  RefusedAs : (refusal : Refusal) → MasterAnswer
  Sent : (parcels : List Parcel) → MasterAnswer
  HeardAs : (fresh : Bool) → (what : What) → MasterAnswer

pub record MasterStepped : Type 0 where
  pub answer : MasterAnswer
  pub role : MasterRole

abbrev pub stays_as : MasterRole → MasterAnswer → MasterStepped
stays_as r a = record { answer = a; role = r }

abbrev pub changes_as : MasterRole → Result Changed Refusal → MasterStepped
changes_as r (Ok d) = record { answer = Done; role = master_changed r d }
changes_as r (Err f) = stays_as r (RefusedAs f)

abbrev pub hears_as : MasterHeard → MasterStepped
hears_as h = record { answer = HeardAs h.fresh h.what; role = h.role }

abbrev pub master_steps_alone : MasterRole → MasterTold → MasterStepped
master_steps_alone r (Comes x) = hears_as (master_hears_alone (report_excess r.cluster r.state) r x)
master_steps_alone r (Told x) = changes_as r (change_of r.cluster r.state x)
master_steps_alone r TurnAll = stays_as r (Sent (master_turn r))
master_steps_alone r (TurnTo q) = stays_as r (Sent (turn_parcels (master_party r.state) q (r.sides q)))
master_steps_alone r ResyncAll = stays_as (master_resynced r) Done
