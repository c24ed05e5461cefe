-- How many steps cores took.
use Rattle.std.proofs.Common.{ℕ, ◌+◌, ◌≤◌, refl, arith}
use Rattle.schedule_replay.specs.Held.{Held}
use Rattle.schedule_replay.specs.PacketPools.{Stored}
use Rattle.agent_core.specs.AgentCores.{AgentCore}
use Rattle.app_master.specs.AppCores.{AppCore}
use Rattle.running_parties.specs.Slots.{SlotsRecord, AreWithin as PartiesWithin}
use Rattle.running_parties.specs.Peers.{agent_steps, app_steps}
use Rattle.fuxi_master.specs.Cores.{MasterRecord}
use Rattle.running_parties.specs.RunningMasters.{master_steps}
use Rattle.schedule_replay.specs.Worlds.{WorldRecord, AreWithin, event_steps}
use Rattle.schedule_replay.specs.Moves.{MovesOnce, MovesUpTo}

more : (a n l : ℕ) → a ≤ n → n ≤ l → a ≤ l
more a n l le further = omega (arith, le, further)

wider : {P : Type 0} (steps : P → ℕ) (n l : ℕ) (x : SlotsRecord P) → n ≤ l → PartiesWithin steps n x → PartiesWithin steps l x
wider steps n l x le h = record { within = λ m p is. more (steps p) n l (h.within m p is) le }

pub all_wider : (n l : ℕ) (r : WorldRecord) → n ≤ l → AreWithin n r → AreWithin l r
all_wider n l r le h = record { masters = wider master_steps n l r.masters le h.masters; agents = wider agent_steps n l r.agents le h.agents; apps = wider app_steps n l r.apps le h.apps }

one_more : (n : ℕ) → n ≤ n + 1
one_more n = omega arith

one_of : (n : ℕ) → n + 1 ≤ n + event_steps
one_of n = omega arith

pub once_up_to : (old new : WorldRecord) → MovesOnce old new → MovesUpTo old new
once_up_to old new h = record { steps = λ n w. all_wider (n + 1) (n + event_steps) new (one_of n) (h.steps n w); events = h.events; cluster = h.cluster }

-- of one kind alone, and of none
pub masters_once : (old : WorldRecord) (held : Held) (masters : SlotsRecord MasterRecord) (pool : Stored) → ((n : ℕ) → PartiesWithin master_steps n old.masters → PartiesWithin master_steps (n + 1) masters) → MovesOnce old (record old { checkpoint = held; masters = masters; pool = pool })
masters_once old held masters pool h = record {
  steps = λ n w. record { masters = h n w.masters; agents = wider agent_steps n (n + 1) old.agents (one_more n) w.agents; apps = wider app_steps n (n + 1) old.apps (one_more n) w.apps };
  events = refl;
  cluster = refl;
}

pub agents_once : (old : WorldRecord) (agents : SlotsRecord AgentCore) (pool : Stored) → ((n : ℕ) → PartiesWithin agent_steps n old.agents → PartiesWithin agent_steps (n + 1) agents) → MovesOnce old (record old { agents = agents; pool = pool })
agents_once old agents pool h = record {
  steps = λ n w. record { masters = wider master_steps n (n + 1) old.masters (one_more n) w.masters; agents = h n w.agents; apps = wider app_steps n (n + 1) old.apps (one_more n) w.apps };
  events = refl;
  cluster = refl;
}

pub apps_once : (old : WorldRecord) (apps : SlotsRecord AppCore) (pool : Stored) → ((n : ℕ) → PartiesWithin app_steps n old.apps → PartiesWithin app_steps (n + 1) apps) → MovesOnce old (record old { apps = apps; pool = pool })
apps_once old apps pool h = record {
  steps = λ n w. record { masters = wider master_steps n (n + 1) old.masters (one_more n) w.masters; agents = wider agent_steps n (n + 1) old.agents (one_more n) w.agents; apps = h n w.apps };
  events = refl;
  cluster = refl;
}

pub parties_still : {P : Type 0} (steps : P → ℕ) (x after : SlotsRecord P) → ((n : ℕ) → PartiesWithin steps n x → PartiesWithin steps n after) → (n : ℕ) → PartiesWithin steps n x → PartiesWithin steps (n + 1) after
parties_still steps x after h n w = wider steps n (n + 1) after (one_more n) (h n w)

pub none_once : (old : WorldRecord) (pool : Stored) → MovesOnce old (record old { pool = pool })
none_once old pool = record { steps = λ n w. record { masters = wider master_steps n (n + 1) old.masters (one_more n) w.masters; agents = wider agent_steps n (n + 1) old.agents (one_more n) w.agents; apps = wider app_steps n (n + 1) old.apps (one_more n) w.apps }; events = refl; cluster = refl }
