-- What a turn sends.
use Rattle.std.specs.Prelude.{◌≡◌, ℕ, ◌+◌, ◌-◌, ◌<◌, ◌≤◌, true, min, List, [], ◌∷◌, ◌++◌, length, Some, slice_get}
use Rattle.std.specs.List.{flat_map}
use Rattle.std.specs.Ordering.{nat_cmp}
use Rattle.std.specs.FinMap.Entries.{find}
use Rattle.fuxi_terms.specs.Jobs.{is_known}
use Rattle.fuxi_terms.specs.Limits.{kept_changes, turn_deltas}
use Rattle.spec_net.specs.Net.{Net, Party, Id, Link, Packet, Ack, Delta, last, turn}
use Rattle.spec_net.specs.Ledgers.{Ledger}
use Rattle.spec_net.specs.Channels.{app_id, party}
use Rattle.spec_roles.specs.Masters.{Master}
use Rattle.spec_roles.specs.MasterSteps.{master_party, peers, is_one_of}
use Rattle.spec_world.specs.World.{World}
use Rattle.spec_world.specs.Events.{TurnMaster, world_step}

-- the peer is known, it has acknowledged an entry, and 1 to 256 entries stand behind that. A resync takes the acknowledgement back
pub record HasChanges (top : ℕ) (l : Link) : Type 0 where
  pub known : 1 ≤ l.known
  pub acked : 1 ≤ l.acked
  pub some : l.acked < top
  pub few : top ≤ l.acked + kept_changes

-- a turn to a peer is the changes to the next entries in order, all of them or the first 64, and an acknowledgement, and has no whole ledger
pub record GoesAsChanges (net : Net Ledger) (p : Party) (q : Id) : Type 0 where
  pub changes : List Packet
  pub acknowledgement : Packet
  pub sent : turn net p q ≡ changes ++ acknowledgement ∷ []
  pub kind : acknowledgement.kind ≡ Ack
  pub count : length changes ≡ min turn_deltas (last net p q - (net.links p q).acked)
  pub each : (n : ℕ) (x : Packet) → slice_get changes n ≡ Some x → x ≡ record { from = p; to = party q (net.links p q).known; kind = Delta; inc = p.inc; seq = (net.links p q).acked + 1 + n }

-- Turns: a master's turn goes to the applications of all jobs that it knows, ended ones too, and sends what each turn to a peer is; and where there are changes that the
-- peer lacks and can use, a turn goes as changes
pub record AllTurn (w : World) : Type 0 where
  pub ended : (e : ℕ) (M : Master) → find nat_cmp e w.masters ≡ Some M → (a : ℕ) → is_known M.jobs a ≡ true → is_one_of (app_id a) (peers w.cluster M) ≡ true
  pub sends : (e : ℕ) (M : Master) → find nat_cmp e w.masters ≡ Some M → (world_step w (TurnMaster e)).world.net.packets ≡ w.net.packets ++ flat_map (turn w.net (master_party M)) (peers w.cluster M)
  pub changes : (p : Party) (q : Id) → HasChanges (last w.net p q) (w.net.links p q) → GoesAsChanges w.net p q
