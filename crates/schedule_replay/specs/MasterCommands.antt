-- What the starts, stops and commands of masters do in each world that the hard state and the masters are of.
use Rattle.std.specs.Prelude.{◌≡◌, ℕ, ◌+◌, ◌<◌, ◌≤◌, true, [], length, map, All, Option, Some, None, Result, Ok, Err}
use Rattle.fuxi_terms.specs.Cluster.{ClusterRecord, is_valid_cluster}
use Rattle.fuxi_terms.specs.Limits.{most_machines, most_masters, most_records}
use Rattle.spec_world.specs.World.{World, Step, refused}
use Rattle.spec_world.specs.Events.{ban_each, judge, start_master}
use Rattle.spec_world.specs.Good.{Good}
use Rattle.spec_world.specs.Orders.{IsInOrder}
use Rattle.bad_nodes.specs.Ranks.{number_of}
use Rattle.schedule_replay.specs.Held.{Held, IsOpen}
use Rattle.fuxi_master.specs.Cores.{MasterRecord}
use Rattle.running_parties.specs.Slots.{SlotsRecord, AreWithin}
use Rattle.running_parties.specs.RunningMasters.{AreMastersOf, master_steps}
use Rattle.schedule_text.specs.declared.refusal.Refusal.{Refusal}
use Rattle.schedule_text.specs.Printing.{as_refusal}
use Rattle.schedule_replay.specs.Moves.{Leaves}
use Rattle.schedule_replay.specs.declared.commands.Judgement.{Judgement}

-- the parts that commands of masters change
pub record Governing : Type 0 where
  pub checkpoint : Held
  pub masters : SlotsRecord MasterRecord

-- they are those of a good world, whose parties stand in order
pub record IsGoverning (w : World) (g : Governing) : Type 0 where
  pub good : Good w
  pub order : IsInOrder w
  pub hard : g.checkpoint.hard.value ≡ w.hard
  pub rests : IsOpen g.checkpoint
  pub stand : AreMastersOf w g.masters

-- and there is such a world
pub record AreGoverned (g : Governing) : Type 0 where
  pub world : World
  pub of : IsGoverning world g

-- An event for the master of an epoch is done: the parts are those of the world after it, nothing is printed, no packet is sent, and all other parties
-- see what they saw
pub record IsGoverned (w : World) (s : Step) (new : Governing) : Type 0 where
  pub hard : new.checkpoint.hard.value ≡ s.world.hard
  pub rests : IsOpen new.checkpoint
  pub stand : AreMastersOf s.world new.masters
  pub leaves : Leaves w s.world
  pub quiet : s.lines ≡ []

-- or it is refused: the parts are still those of the world before it
pub record IsRefused (w : World) (s : Step) (new : Governing) (refusal : Refusal) : Type 0 where
  pub same : IsGoverning w new
  pub is : s ≡ refused w (as_refusal refusal)

abbrev pub GovernsIn : World → Step → Governing → Option Refusal → Type 0
GovernsIn w s new None = IsGoverned w s new
GovernsIn w s new (Some refusal) = IsRefused w s new refusal

-- in each world that they are of, and in each on this cluster
abbrev pub Governs : (World → Step) → Governing → Governing → Option Refusal → Type 0
Governs step old new answer = (w : World) → IsGoverning w old → GovernsIn w (step w) new answer

abbrev pub GovernsOn : ClusterRecord → (World → Step) → Governing → Governing → Option Refusal → Type 0
GovernsOn c step old new answer = (w : World) → c ≡ w.cluster → IsGoverning w old → GovernsIn w (step w) new answer

-- whatever the hard state is
abbrev pub governing : Held → SlotsRecord MasterRecord → Governing
governing checkpoint masters = record { checkpoint = checkpoint; masters = masters }

abbrev pub GovernsMasters : (World → Step) → SlotsRecord MasterRecord → SlotsRecord MasterRecord → Option Refusal → Type 0
GovernsMasters step old new answer = (checkpoint : Held) → Governs step (governing checkpoint old) (governing checkpoint new) answer

-- The tests of a start in an epoch before its writing
pub record MayStart (w : World) (e : ℕ) : Type 0 where
  pub above : w.hard.fence < e
  pub few : length w.masters < most_masters

abbrev pub StartsIn : World → ℕ → Result (Unit {0}) Refusal → Type 0
StartsIn w e (Ok passed) = MayStart w e
StartsIn w e (Err refusal) = start_master w e ≡ refused w (as_refusal refusal)

-- the machines of a judgement are among those with votes, which are no more than a cluster may have, and no more than records may be written
pub record MayBan (j : Judgement) : Type 0 where
  pub there : All (λ m. m < length j.votes.votes) (map number_of j.machines.items)
  pub votes : length j.votes.votes ≤ most_machines
  pub few : length j.machines.items ≤ most_records

-- A judgement by the master of an epoch: what it bans, with the votes that were counted
pub record IsDecided (w : World) (e least percent : ℕ) (j : Judgement) : Type 0 where
  pub bans : judge w e least percent ≡ ban_each e j.votes (map number_of j.machines.items) w
  pub may : MayBan j

-- or why it is refused
abbrev pub DecidesIn : World → ℕ → ℕ → ℕ → Result Judgement Refusal → Type 0
DecidesIn w e least percent (Ok j) = IsDecided w e least percent j
DecidesIn w e least percent (Err refusal) = judge w e least percent ≡ refused w (as_refusal refusal)

abbrev pub Decides : ℕ → ℕ → ℕ → Governing → Result Judgement Refusal → Type 0
Decides e least percent g answer = (w : World) → is_valid_cluster w.cluster ≡ true → IsGoverning w g → DecidesIn w e least percent answer

-- no master takes more than one step
abbrev pub TakesStep : SlotsRecord MasterRecord → SlotsRecord MasterRecord → Type 0
TakesStep old new = (n : ℕ) → AreWithin master_steps n old → AreWithin master_steps (n + 1) new
