-- What settling the workers of an application makes of them, and of the names that are sent.
use Rattle.std.specs.Prelude.{◌≡◌, ◌≢◌, ℕ, Bool, true, false, not, nat_eq, nat_lt, ◌||◌, List, [], ◌++◌, None, IsSome, get_or}
use Rattle.std.specs.List.{AllByRecursion}
use Rattle.std.specs.declared.cmp.Ordering.TheVariants.{Less}
use Rattle.fuxi_terms.specs.declared.Key.{Key}
use Rattle.fuxi_terms.specs.Keys.{key_cmp}
use Rattle.fuxi_terms.specs.Tallies.{TallyRecord, ChangeRecord}
use Rattle.full_sync.specs.Turns.{Endpoint}
use Rattle.spec_net.specs.Net.{Link}
use Rattle.work_plan.specs.Crews.{Distinct, Marks, runs_at}
use Rattle.work_plan.specs.PlanKeys.{named, greatest_named, worker_key}
use Rattle.work_plan.specs.RunAfter.{run_after}
use Rattle.work_plan.specs.Ends.{histories}
use Rattle.fuxi_terms.specs.NumbersSet.{AreNumbers}
use Rattle.work_plan.specs.WorkSettling.{published, running_of}
use Rattle.work_plan.specs.AgentWithApps.{agent_id, app_id}
use Rattle.work_plan.specs.NameChanges.{changed, Tells}
use Rattle.work_plan.specs.WorkWorlds.{Crew, HasPeer, IsPeer, agent_of, force_at, settled_work}
use Rattle.work_plan.specs.declared.parts.Peer.{Peer}

abbrev pub Crews : Type 0
Crews = List Crew

-- one unit is settled, and the names that change stand behind the others
pub record SettlesUnit (app unit : ℕ) (plan : TallyRecord) (count : ℕ) (old new : Crews) (before after : List (Key × ℕ)) : Type 0 where
  pub runs : runs_at new app unit ≡ run_after (runs_at old app unit) (named unit plan.entries) count
  pub units : (u : ℕ) → u ≢ unit → runs_at new app u ≡ runs_at old app u
  pub others : (a : ℕ) → a ≢ app → get_or new a None ≡ get_or old a None
  pub admitted : IsSome (get_or new app None)
  pub distinct : Distinct (runs_at old app unit)
  pub ran : List Bool
  pub run : List Bool
  pub marks_before : Marks ran (runs_at old app unit)
  pub marks_after : Marks run (runs_at new app unit)
  pub changes : after ≡ before ++ changed unit ran run 256

-- a unit is not among those from the first on up to the last
abbrev pub is_outside : ℕ → ℕ → ℕ → Bool
is_outside first last u = nat_lt u first || not (nat_lt u last)

-- some units are settled, and these names change
pub record SettlesUnits (app : ℕ) (plan : TallyRecord) (counts : List ℕ) (first last : ℕ) (old new : Crews) (numbers : List (Key × ℕ)) : Type 0 where
  pub runs : (u : ℕ) → runs_at new app u ≡ elim (is_outside first last u) as (λ _. List ℕ) [ true ↦ runs_at old app u | false ↦ run_after (runs_at old app u) (named u plan.entries) (get_or counts u 0) ]
  pub others : (a : ℕ) → a ≢ app → get_or new a None ≡ get_or old a None
  pub admitted : IsSome (get_or new app None)
  pub distinct : (u : ℕ) → is_outside first last u ≡ false → Distinct (runs_at old app u)
  pub tells : (entries : List (Key × ℕ)) → Tells entries [] (runs_at old app) → Tells entries numbers (runs_at new app)
  pub are : AreNumbers key_cmp greatest_named numbers
  pub below : AllByRecursion (λ e. key_cmp e.0 (worker_key last 0) ≡ Less) numbers

-- the plan in force of an end, with the one before
abbrev pub force_of : Endpoint TallyRecord ChangeRecord TallyRecord → TallyRecord → TallyRecord
force_of ends plan = elim (nat_eq ends.incoming.place.seq 0) [ true ↦ plan | false ↦ ends.incoming.received ]

-- the agent's history towards an application has the names of these workers behind it where they differ, and the other way nothing is new
pub record IsPublished (hs hs' : histories) (b a : ℕ) (l : Link) (work : ℕ → List ℕ) : Type 0 where
  pub own : hs' (agent_of b) (app_id a) ≡ published (hs (agent_of b) (app_id a)) (running_of work)
  pub theirs : hs' (record { id = app_id a; inc = l.known }) agent_id ≡ hs (record { id = app_id a; inc = l.known }) agent_id

-- Some units are settled, the others run by their plan already: then all do, and the names are sent
pub record SettlesPeer (app first last : ℕ) (old new : Peer) (before after : Crews) : Type 0 where
  pub others : (a : ℕ) → a ≢ app → get_or after a None ≡ get_or before a None
  pub peer : (b : ℕ) → (l : Link) → (hs hs' : histories) → (plan : TallyRecord) → (counts : ℕ → ℕ) → (work : ℕ → List ℕ)
      → HasPeer old (get_or before app None) b app l hs plan counts work
      → ((u : ℕ) → is_outside first last u ≡ true → settled_work work (force_at hs app l plan) counts u ≡ work u)
      → IsPublished hs hs' b app l (settled_work work (force_at hs app l plan) counts)
      → IsPeer new (get_or after app None) b app l hs' (force_at hs app l plan) counts (settled_work work (force_at hs app l plan) counts)
