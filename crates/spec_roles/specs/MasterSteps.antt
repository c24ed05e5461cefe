-- What a master does: its projections, the end of each of its steps, and what it makes of reports, demands and commands.
use Rattle.std.specs.Prelude.{ℕ, ◌-◌, Bool, true, false, cond, not, nat_eq, nat_lt, ◌&&◌, ◌||◌, min, List, [], ◌∷◌, ◌++◌, length, map, filter, Result, Ok, Err}
use Rattle.std.specs.List.{list_any, list_all}
use Rattle.std.specs.Ordering.{nat_cmp}
use Rattle.std.specs.FinMap.Entries.{put, where_key}
use Rattle.fuxi_terms.specs.declared.Key.{Key}
use Rattle.fuxi_terms.specs.Vectors.{fits}
use Rattle.fuxi_terms.specs.Cluster.{ClusterRecord, JobRecord, has_rack, has_machine, has_group}
use Rattle.fuxi_terms.specs.Keys.{key_cmp, RowKey, Spot, spot_cmp}
use Rattle.fuxi_terms.specs.Counts.{count, set_count, then_do}
use Rattle.fuxi_terms.specs.Lists.{below}
use Rattle.fuxi_terms.specs.Numbers.{has_number, with_number, without_number}
use Rattle.fuxi_terms.specs.Jobs.{KnownJob, eight_places, is_known, is_live, unit_of, unit_count, job_numbers}
use Rattle.fuxi_terms.specs.TallyKeys.{reported_key, count_key, credited_key, is_back}
use Rattle.fuxi_terms.specs.Tables.{spot, Table}
use Rattle.spec_net.specs.Net.{Id, Party}
use Rattle.spec_net.specs.Ledgers.{Ledger, nothing, row_ledger, tally_ledger}
use Rattle.spec_net.specs.Channels.{master_id, agent_id, app_id, is_agent, is_app, party, Offer}
use Rattle.spec_roles.specs.Refusals.{Refusal, NoMachine, NoGroup, AlreadyServing, NotServing, NothingToPreempt, job_tests, unless_fault, with_found}
use Rattle.spec_roles.specs.HardState.{HardState, HardEvent, Submission, Finishing, Banning, Unbanning, with_job, with_ended, hard_step}
use Rattle.spec_roles.specs.Masters.{Master, credited_of}
use Rattle.spec_roles.specs.Placing.{line_up, settled}
use Rattle.spec_roles.specs.Preemption.{plan_of, preempted}

abbrev pub master_party : Master → Party
master_party M = party master_id M.epoch

-- Projections. What the agent of a machine should hold
abbrev pub spot_row_key : List KnownJob → Spot → RowKey
spot_row_key jobs s = record { job = s.job; unit = s.unit; size = (unit_of jobs s.job s.unit).size }

abbrev pub row : Master → ℕ → Ledger
row M m = row_ledger (map (λ e. (spot_row_key M.jobs e.0, e.1)) (filter (λ e. nat_eq e.0.machine m) M.table))

-- what the application of a job should hold: its boot, the reported machines, its counts, and what is credited
abbrev pub count_entries : ℕ → Table → List (Key × ℕ)
count_entries a table = map (λ e. (count_key e.0.unit e.0.machine, e.1)) (filter (λ e. nat_eq e.0.job a) table)

abbrev pub grants : Master → ℕ → ℕ → Ledger
grants M boot a = tally_ledger boot (map (λ m. (reported_key m, 1)) M.reported ++ (count_entries a M.table ++ credited_of M a))

-- what a peer should hold, where the master knows it by this incarnation: the boot in the grants is that one
abbrev pub projected : Master → Id → ℕ → Ledger
projected M q known = cond (is_agent q) (row M q.number) (grants M known q.number)

-- a master talks to the agents of its cluster and to the applications of the jobs that it knows, ended ones too
abbrev pub talks : ClusterRecord → Master → Id → Bool
talks c M q = (is_agent q && has_machine c q.number) || (is_app q && is_known M.jobs q.number)

-- those in the order of a turn
abbrev pub peers : ClusterRecord → Master → List Id
peers c M = map agent_id (below (length c.machines)) ++ map app_id (job_numbers M.jobs)

abbrev pub is_one_of : Id → List Id → Bool
is_one_of q qs = list_any (λ p. nat_eq p.role q.role && nat_eq p.number q.number) qs

-- what the peers should hold, each known by an incarnation
abbrev pub offers_of : ClusterRecord → (Id → ℕ) → Master → List Id → List Offer
offers_of c known M even_if_equal = map (λ q. record { to = q; even_if_equal = is_one_of q even_if_equal; ledger = projected M q (known q) }) (peers c M)

-- The end of a step: a master serves once every machine is reported, its line is brought up to date, and a serving master settles
abbrev pub is_all_reported : ClusterRecord → Master → Bool
is_all_reported c M = list_all (λ m. has_number m M.reported) (below (length c.machines))

abbrev pub phased : ClusterRecord → Master → Master
phased c M = record M { serving = M.serving || is_all_reported c M }

abbrev pub settled_if_serving : ClusterRecord → Master → Master
settled_if_serving c M = elim M.serving [ true ↦ settled c M | false ↦ M ]

abbrev pub ready : ClusterRecord → Master → Master
ready c M = settled_if_serving c (line_up (phased c M))

-- Report taken. Entries of jobs that are known and have not ended, of known units and of their size are kept
abbrev pub same_size : List ℕ → List ℕ → Bool
same_size a b = fits a b && fits b a

abbrev pub is_kept : List KnownJob → RowKey → Bool
is_kept jobs k = is_live jobs k.job && (nat_lt k.unit (unit_count jobs k.job) && same_size (unit_of jobs k.job k.unit).size k.size)

abbrev pub adopted : List KnownJob → ℕ → List (RowKey × ℕ) → Table → Table
adopted jobs m [] table = table
adopted jobs m (e ∷ es) table = adopted jobs m es (cond (is_kept jobs e.0) (put spot_cmp (spot e.0.job e.0.unit m) e.1 table) table)

-- a report of this epoch is adopted once for each machine
abbrev pub adopts : Master → ℕ → Ledger → Bool
adopts M m report = nat_eq report.head M.epoch && not (has_number m M.reported)

-- where the machine is banned all entries are dropped
abbrev pub take_report : Master → ℕ → Ledger → Master
take_report M m report = cond (adopts M m report)
    (record M { reported = with_number m M.reported; table = cond (has_number m M.bans) M.table (adopted M.jobs m report.rows M.table) }) M

-- Demand taken. An entry counts where it names a unit of the job, and a machine or rack of the cluster
abbrev pub is_there : ClusterRecord → ℕ → Key → Bool
is_there c units k = nat_lt k.unit units && (nat_eq k.what 1 || cond (nat_eq k.what 3) (has_rack c k.number) (has_machine c k.number))

abbrev pub counted : ClusterRecord → List KnownJob → ℕ → Ledger → Ledger
counted c jobs a d = tally_ledger d.head (where_key key_cmp (is_there c (unit_count jobs a)) d.entries)

-- of what is given back and not yet credited the table loses what it has
abbrev pub credit : ℕ → List (Key × ℕ) → List (Key × ℕ) → Table → Table
credit a credited [] table = table
credit a credited (e ∷ es) table =
    let s = spot a e.0.unit e.0.number in
    let here = count spot_cmp table s in
    let more = e.1 - count key_cmp credited (credited_key e.0.unit e.0.number) in
    credit a credited es (cond (is_back e.0) (set_count spot_cmp table s (here - min more here)) table)

-- and a number given back that is above what was credited is then credited
abbrev pub raise_credited : List (Key × ℕ) → List (Key × ℕ) → List (Key × ℕ)
raise_credited cs [] = cs
raise_credited cs (e ∷ es) =
    let k = credited_key e.0.unit e.0.number in
    raise_credited (cond (is_back e.0 && nat_lt (count key_cmp cs k) e.1) (put key_cmp k e.1 cs) cs) es

-- a demand of this epoch, of a job that has not ended, replaces the old one; any other counts as empty and credits nothing
abbrev pub take_demand : Master → ℕ → Ledger → Master
take_demand M a d = cond (nat_eq d.head M.epoch && is_live M.jobs a)
    (record M {
      demands = put nat_cmp a d M.demands;
      table = credit a (credited_of M a) d.entries M.table;
      credited = put nat_cmp a (raise_credited (credited_of M a) d.entries) M.credited;
    })
    (record M { demands = put nat_cmp a nothing M.demands })

-- a new boot of an application: its demand is empty, and nothing is credited to it
abbrev pub meet_app : Bool → Master → ℕ → Master
meet_app fresh M a = cond fresh (record M { demands = put nat_cmp a nothing M.demands; credited = put nat_cmp a [] M.credited }) M

-- what a party says to a master: of a demand what is there
abbrev pub said : ClusterRecord → Master → Id → Ledger → Ledger
said c M from l = cond (is_agent from) l (counted c M.jobs from.number l)

-- a master that heard something of a party: whether that is a new incarnation, and whether a ledger of it is taken
abbrev pub told_of : Master → Bool → Bool → Id → Ledger → Master
told_of M fresh taken from l = cond (is_agent from)
    (cond taken (take_report M from.number l) M)
    (let M1 = meet_app fresh M from.number in cond taken (take_demand M1 from.number l) M1)

-- the machine whose report is adopted has its row appended in any case
abbrev pub adopted_of : Master → Bool → Id → Ledger → List Id
adopted_of M taken from l = cond (is_agent from && (taken && adopts M from.number l)) (from ∷ []) []

-- Starts and commands. A master starts with the jobs and bans of the hard state
abbrev pub new_master : HardState → ℕ → Master
new_master h e = record { epoch = e; jobs = h.jobs; bans = h.bans; serving = false; reported = []; table = []; demands = []; credited = []; line = [] }

abbrev pub ended_in : Master → ℕ → Master
ended_in M a = record M { jobs = with_ended a M.jobs; demands = put nat_cmp a nothing M.demands; table = where_key spot_cmp (λ s. not (nat_eq s.job a)) M.table }

abbrev pub banned_in : Master → ℕ → Master
banned_in M m = record M { bans = with_number m M.bans; table = where_key spot_cmp (λ s. not (nat_eq s.machine m)) M.table }

-- What changes a master. A job is known with its sizes in eight places, and has its grants appended; a job that ends loses its grants, and its
-- demand counts as empty from then on; a ban takes all grants on the machine; a master that begins serves though machines are not reported
pub data MasterChange : Type 0 where
  Admits : (job : JobRecord) → MasterChange
  Ends : (job : ℕ) → MasterChange
  Bans : (machine : ℕ) → MasterChange
  Unbans : (machine : ℕ) → MasterChange
  Begins : MasterChange
  Preempts : MasterChange

-- the master before the end of its step, and the peers to which what they should hold is appended in any case
pub record Changed : Type 0 where
  pub state : Master
  pub even_if_equal : List Id

abbrev pub changed_to : Master → Result Changed Refusal
changed_to N = Ok (record { state = N; even_if_equal = [] })

-- what it makes of a master, or why it is refused
abbrev pub change_of : ClusterRecord → Master → MasterChange → Result Changed Refusal
change_of c M (Admits j) = Ok (record { state = record M { jobs = with_job j M.jobs }; even_if_equal = app_id j.number ∷ [] })
change_of c M (Ends a) = changed_to (ended_in M a)
change_of c M (Bans m) = changed_to (banned_in M m)
change_of c M (Unbans m) = changed_to (record M { bans = without_number m M.bans })
change_of c M Begins = unless_fault ((M.serving, AlreadyServing) ∷ []) (changed_to (record M { serving = true }))
change_of c M Preempts = unless_fault ((not M.serving, NotServing) ∷ []) (with_found (plan_of c M) (Err NothingToPreempt) (λ p. changed_to (preempted M p)))

-- Commands: those that are written to the hard state first, and the others
pub data MasterCommand : Type 0 where
  Submits : (job : JobRecord) → MasterCommand
  Finishes : (job : ℕ) → MasterCommand
  BansMachine : (machine : ℕ) → MasterCommand
  UnbansMachine : (machine : ℕ) → MasterCommand
  StartsServing : MasterCommand
  MakesRoom : MasterCommand

-- what a command leaves of the hard state and of the master
pub record Commanded : Type 0 where
  pub hard : HardState
  pub change : Changed

abbrev pub changes : ClusterRecord → HardState → Master → MasterChange → Result Commanded Refusal
changes c h M x = then_do (change_of c M x) (λ d. Ok (record { hard = h; change = d }))

-- the hard state is written before the master changes
abbrev pub writes : ClusterRecord → HardState → Master → HardEvent → MasterChange → Result Commanded Refusal
writes c h M v x = then_do (hard_step h M.epoch v) (λ k. changes c k M x)

abbrev pub command_of : ClusterRecord → HardState → Master → MasterCommand → Result Commanded Refusal
command_of c h M (Submits j) = unless_fault ((not (has_group c j.group), NoGroup) ∷ job_tests c.resources j) (writes c h M (Submission (eight_places j)) (Admits (eight_places j)))
command_of c h M (Finishes a) = writes c h M (Finishing a) (Ends a)
command_of c h M (BansMachine m) = unless_fault ((not (has_machine c m), NoMachine) ∷ []) (writes c h M (Banning m) (Bans m))
command_of c h M (UnbansMachine m) = unless_fault ((not (has_machine c m), NoMachine) ∷ []) (writes c h M (Unbanning m) (Unbans m))
command_of c h M StartsServing = changes c h M Begins
command_of c h M MakesRoom = changes c h M Preempts
