-- The invariant that every step keeps.
use Rattle.std.specs.Prelude.{cond, ◌≡◌, ℕ, ◌+◌, ◌<◌, ◌≤◌, true, false, nat_eq, nat_lt, ◌&&◌, ◌||◌, List, [], length, map, Some, None, slice_get, T, Bool, ◌++◌, ◌∷◌}
use Rattle.std.specs.List.{AllByRecursion, list_any}
use Rattle.std.specs.Ordering.{nat_cmp}
use Rattle.std.specs.FinMap.Entries.{find, is_sorted}
use Rattle.fuxi_terms.specs.declared.Key.{Key}
use Rattle.fuxi_terms.specs.Vectors.{at_place}
use Rattle.fuxi_terms.specs.Cluster.{ClusterRecord, JobRecord, UnitRecord, is_valid_job, has_at, has_machine}
use Rattle.fuxi_terms.specs.Limits.{most_resources, most_records, greatest_count, greatest_back}
use Rattle.fuxi_terms.specs.Keys.{key_cmp, RowKey, row_cmp, Spot, spot_cmp, Pair}
use Rattle.fuxi_terms.specs.Counts.{count, AreCounts}
use Rattle.spec_net.specs.Net.{Net, Party, Id, Packet, Kind, Ack, Delta, Full, same_party, last, at_index}
use Rattle.spec_net.specs.Ledgers.{Ledger, nothing, at_key}
use Rattle.fuxi_terms.specs.TallyKeys.{reported_key, count_key, want_key, credited_what, credited_key, back_key, is_back, where_holds}
use Rattle.spec_net.specs.Channels.{master_id, agent_id, app_id, party, is_agent, is_app, view, present, HasJoined, shape}
use Rattle.fuxi_terms.specs.Jobs.{KnownJob, is_known, is_live, units_of, unit_count, unit_of}
use Rattle.fuxi_terms.specs.Numbers.{has_number}
use Rattle.spec_roles.specs.Masters.{Master, out, asked, demand_of, credited_of}
use Rattle.fuxi_terms.specs.Tables.{total_at}
use Rattle.spec_roles.specs.Placing.{has_pair, placeable}
use Rattle.spec_roles.specs.HardState.{HardState}
use Rattle.spec_world.specs.World.{World, Agent, App, top}
use Rattle.spec_roles.specs.Apps.{Carried}
use Rattle.spec_roles.specs.MasterSteps.{master_party, peers, is_there}
use Rattle.spec_world.specs.Parties.{projection}
use Rattle.spec_world.specs.Safe.{RowsFit, units_total_at}
use Rattle.spec_net.specs.Sound.{Sound}

-- the greatest number in a demand, by the kind of its key; 0 where it is none
abbrev pub greatest_in_demand : Key → ℕ
greatest_in_demand k =
    cond (nat_eq k.what 1) (where_holds (nat_eq k.number 0) greatest_count)
    (cond (nat_eq k.what 2) greatest_count
    (cond (nat_eq k.what 3) greatest_count
    (cond (nat_eq k.what 4) 1
    (where_holds (is_back k) greatest_back))))

-- the greatest number among what is credited to a job of so many units, and in its grants
abbrev pub greatest_in_credits : ClusterRecord → ℕ → Key → ℕ
greatest_in_credits c units k = where_holds (nat_lt k.unit units && has_machine c k.number) (where_holds (nat_eq k.what credited_what) greatest_back)

abbrev pub greatest_in_grants : ClusterRecord → ℕ → Key → ℕ
greatest_in_grants c units k =
    cond (nat_eq k.what 1) (where_holds (nat_eq k.unit 0 && has_machine c k.number) 1)
    (where_holds (nat_lt k.unit units && has_machine c k.number) (cond (nat_eq k.what 2) greatest_count (where_holds (nat_eq k.what credited_what) greatest_back)))

-- the greatest number in a table of grants: a spot names a unit of its job
abbrev pub greatest_in_table : List KnownJob → Spot → ℕ
greatest_in_table jobs s = where_holds (nat_lt s.unit (unit_count jobs s.job)) greatest_count

-- Written. Among demands with one head no number given back falls; said of each entry and the next
abbrev pub BacksRise : Ledger → Ledger → Type 0
BacksRise a b = a.head ≡ b.head → (u m : ℕ) → at_key a (back_key u m) ≤ at_key b (back_key u m)

-- a demand names units of its job, and machines and racks of the cluster
abbrev pub IsRanged : ClusterRecord → ℕ → Ledger → Type 0
IsRanged c units d = (k : Key) → is_there c units k ≡ false → at_key d k ≡ 0

-- the entries of a demand are in order, with numbers in range
abbrev pub IsTidy : Ledger → Type 0
IsTidy d = AreCounts key_cmp greatest_in_demand d.entries

-- a row names units of known jobs with their sizes
abbrev pub IsOfJob : List KnownJob → RowKey → Type 0
IsOfJob jobs k = (is_known jobs k.job ≡ true) × (k.unit < unit_count jobs k.job) × (k.size ≡ (unit_of jobs k.job k.unit).size)

-- a row is in order, with counts in range, and names units of known jobs with their sizes
pub record NamesJobs (jobs : List KnownJob) (rows : List (RowKey × ℕ)) : Type 0 where
  pub counts : AreCounts row_cmp (λ k. greatest_count) rows
  pub named : AllByRecursion (λ r. IsOfJob jobs r.0) rows

-- A job of the hard state: it is valid with its sizes in eight places, and these are 0 in each place that the cluster does not have
pub record IsNarrow (c : ClusterRecord) (u : UnitRecord) : Type 0 where
  pub zeros : (i : ℕ) → c.resources ≤ i → at_place u.size i ≡ 0

pub record IsJob (c : ClusterRecord) (j : JobRecord) : Type 0 where
  pub valid : is_valid_job most_resources j ≡ true
  pub narrow : AllByRecursion (IsNarrow c) j.units

abbrev pub AreJobs : ClusterRecord → List KnownJob → Type 0
AreJobs c jobs = AllByRecursion (λ k. IsJob c k.job) jobs

-- the numbers of the jobs are distinct
abbrev pub AreDistinct : List KnownJob → Type 0
AreDistinct [] = Unit {0}
AreDistinct (k ∷ ks) = (is_known ks k.job.number ≡ false) × AreDistinct ks

-- the hard state: its jobs are valid, each with a number of its own, and there are not more records than there may be
-- Asked by cores: the rows that a master sends are rows of the program, and a checkpoint has room. No other part rests on it
pub record IsHard (c : ClusterRecord) (h : HardState) : Type 0 where
  pub jobs : AreJobs c h.jobs
  pub distinct : AreDistinct h.jobs
  pub few : h.records ≤ most_records

-- Demands one after the other. Where the head is another, nothing is given back
abbrev pub StartsAnew : Ledger → Ledger → Type 0
StartsAnew a b = (a.head ≡ b.head → ⊥) → (u m : ℕ) → at_key b (back_key u m) ≡ 0

-- a history of demands
-- A step out of the rest: a number given back that falls, or one at a key that is not there, makes the next demand taken lead out of `credited`;
-- a want of 200,000 leads out of `bounded.demands`. That a new head gives nothing back is asked by the law on crediting once
pub record DemandsHold (c : ClusterRecord) (units : ℕ) (h : List Ledger) : Type 0 where
  pub backs : (n : ℕ) → n + 1 ≤ length h → BacksRise (at_index nothing h n) (at_index nothing h (n + 1))
  pub anew : (n : ℕ) → n + 1 ≤ length h → StartsAnew (at_index nothing h n) (at_index nothing h (n + 1))
  pub tidy : (n : ℕ) → IsTidy (at_index nothing h n)
  pub ranged : (n : ℕ) → IsRanged c units (at_index nothing h n)

-- the jobs that are known stay, with their units
pub record KnowsMore (jobs jobs' : List KnownJob) : Type 0 where
  pub known : (a : ℕ) → is_known jobs a ≡ true → (is_known jobs' a ≡ true) × (units_of jobs' a ≡ units_of jobs a)

-- Histories of grants
abbrev pub GrantsFit : ClusterRecord → List KnownJob → ℕ → Ledger → Type 0
GrantsFit c jobs a l = (n m i : ℕ) → i < c.resources → units_total_at jobs a n (λ u. at_key l (count_key u m)) i ≤ has_at c m i

-- of a job that is not known there is nothing
abbrev pub NoGrants : List KnownJob → ℕ → Ledger → Type 0
NoGrants jobs a l = is_known jobs a ≡ false → (u m : ℕ) → at_key l (count_key u m) ≡ 0

-- grants of a job fit each machine, and an unknown job has none
pub record GrantHolds (c : ClusterRecord) (jobs : List KnownJob) (a : ℕ) (l : Ledger) : Type 0 where
  pub fits : GrantsFit c jobs a l
  pub none : NoGrants jobs a l

-- what a master sends: a row fits the machine and is one of known jobs, and grants fit each machine and are in range
-- Steps out of the rest: an agent that took a row too great, or of no known job, reports it at its next epoch, out of `reports`; grants too great
-- are counted in `Safe`. Asked by cores: that grants are in range
pub record EntryHolds (c : ClusterRecord) (jobs : List KnownJob) (q : Id) (l : Ledger) : Type 0 where
  pub rows : is_agent q ≡ true → RowsFit c q.number l.rows
  pub named : is_agent q ≡ true → NamesJobs jobs l.rows
  pub grants : is_app q ≡ true → GrantHolds c jobs q.number l
  pub tally : is_app q ≡ true → AreCounts key_cmp (greatest_in_grants c (unit_count jobs q.number)) l.entries

-- what an agent reports fits its machine, and is a row of known jobs
-- Steps out of the rest: a report too great that is adopted leads out of `housed`, and one that counts 200,000 out of `bounded.counts`
pub record ReportHolds (c : ClusterRecord) (jobs : List KnownJob) (m : ℕ) (rows : List (RowKey × ℕ)) : Type 0 where
  pub fits : RowsFit c m rows
  pub named : NamesJobs jobs rows

-- a table in order with grants of live jobs alone, and no demand and no count among the credits that is not one
-- Steps out of the rest: two entries at one spot are credited as one, out of `housed`; an ended job with a demand is granted something, out of `alive`, and one with
-- grants has them in its next grants, out of `entries`; a count among the credits comes after that of the table, out of `entries`
pub record IsInOrder (M : Master) : Type 0 where
  pub sorted : T (is_sorted spot_cmp M.table)
  pub alive : AllByRecursion (λ e. is_live M.jobs e.0.job ≡ true) M.table
  pub empty : (a : ℕ) → is_live M.jobs a ≡ false → demand_of M a ≡ nothing
  pub plain : (a u m : ℕ) → find key_cmp (count_key u m) (credited_of M a) ≡ None

-- a table whose grants are on reported machines and within what each has
-- Steps out of the rest: the next row does not fit, out of `entries`; a grant on a machine that reports later is counted twice, out of `fits`
pub record FitsMachines (c : ClusterRecord) (M : Master) : Type 0 where
  pub fits : (m i : ℕ) → i < c.resources → total_at M.jobs m i M.table ≤ has_at c m i
  pub reported : AllByRecursion (λ e. has_number e.0.machine M.reported ≡ true) M.table

-- the entries that say which machines are reported
abbrev pub reported_entries : List ℕ → List (Key × ℕ)
reported_entries ms = map (λ m. (reported_key m, 1)) ms

-- a table with counts in range, machines that are reported in order and of the cluster, demands in range, and credits in range
-- Steps out of the rest: the next row or grants are out of range, out of `entries`; a want of 200,000 is met, out of `counts`; a unit that the job does not
-- have is granted, out of `counts`; what is given back of it is credited, out of `credits`
pub record IsBounded (c : ClusterRecord) (M : Master) : Type 0 where
  pub counts : AreCounts spot_cmp (greatest_in_table M.jobs) M.table
  pub reported : (m : ℕ) → has_number m M.reported ≡ true → has_machine c m ≡ true
  pub rising : T (is_sorted key_cmp (reported_entries M.reported))
  pub demands : (a : ℕ) → IsTidy (demand_of M a) × IsRanged c (unit_count M.jobs a) (demand_of M a)
  pub credits : (a : ℕ) → AreCounts key_cmp (greatest_in_credits c (unit_count M.jobs a)) (credited_of M a)

-- each pair of the line has something out
-- A step out of the rest: a preemption serves a pair of an ended job, out of `alive`
abbrev pub AllWait : Master → List Pair → Type 0
AllWait M line = AllByRecursion (λ p. nat_lt 0 (out M p.0 p.1) ≡ true) line

-- what was credited is what is given back at the master's place; with a job that it does not know a master has no place
-- A step out of the rest: what is credited too much is not credited again when it is given back, so quiet parties do not agree
pub record IsCredited (net : Net Ledger) (M : Master) : Type 0 where
  pub credits : (a : ℕ) → is_live M.jobs a ≡ true → (u m : ℕ) → count key_cmp (credited_of M a) (credited_key u m) ≡ at_key (view net (master_party M) (app_id a)) (back_key u m)
  pub stranger : (a : ℕ) → is_known M.jobs a ≡ false → (net.links (master_party M) (app_id a)).seq ≡ 0
  pub uncredited : (a : ℕ) → is_known M.jobs a ≡ false → credited_of M a ≡ []

-- a running master of an epoch
-- Steps out of the rest: a master above the fence, or of another epoch than its key, loses its history to a start, out of `shows`; one whose jobs have more
-- units than the hard state's sends a row of them, out of `entries`; one that shows another ledger than it should has a turn that names another boot, out of
-- `sound`. Asked by cores: rows
pub record IsShowing (c : ClusterRecord) (hard : HardState) (net : Net Ledger) (e : ℕ) (M : Master) : Type 0 where
  pub epoch : M.epoch ≡ e
  pub ran : e ≤ hard.fence
  pub knows : KnowsMore M.jobs hard.jobs
  pub tabled : IsInOrder M
  pub housed : FitsMachines c M
  pub bounded : IsBounded c M
  pub waits : AllWait M M.line
  pub credited : IsCredited net M
  pub shows : AllByRecursion (λ q. present net (master_party M) q ≡ projection net M q) (peers c M)
  pub rows : (m : ℕ) → nat_lt 0 (last net (master_party M) (agent_id m)) ≡ has_number m M.reported

-- a running party has joined, and is not above the last boot
-- Steps out of the rest: a start takes a boot that runs, out of `unstarted`; a turn with a ledger of another epoch leads out of `sound`
pub record IsJoined (last_boot : ℕ) (net : Net Ledger) (p : Party) : Type 0 where
  pub ran : p.inc ≤ last_boot
  pub joined : HasJoined net p

-- a carried record has an origin that is there, with counts at least its own
pub record HasOrigin (net : Net Ledger) (a m : ℕ) (r : Carried) : Type 0 where
  pub first : 1 ≤ r.seq
  pub there : r.seq ≤ last net (party master_id r.inc) (app_id a)
  pub counts : (u held : ℕ) → slice_get r.held u ≡ Some held → held ≤ at_key (at_index nothing (net.histories (party master_id r.inc) (app_id a)) r.seq) (count_key u m)

-- each carried record has an origin
pub record Origins (net : Net Ledger) (a : ℕ) (carried : List (ℕ × Carried)) : Type 0 where
  pub has : (m : ℕ) (r : Carried) → find nat_cmp m carried ≡ Some r → HasOrigin net a m r

-- a running application is one of a known job, and knows its units
-- A step out of the rest: a want of a unit that the job does not have leads out of `written`
pub record HasUnits (jobs : List KnownJob) (a : ℕ) (g : App) : Type 0 where
  pub known : is_known jobs a ≡ true
  pub units : g.units ≡ unit_count jobs a

-- the invariant: what holds of the net, of each running party and of all that was ever sent
-- Steps out of the rest: a packet of an entry that is not there is taken, out of `Safe`; a start takes over a history of its number, out of `sound`. Asked by
-- `Safe`: origins, and that agents are of machines of the cluster
pub record Invariant (w : World) : Type 0 where
  pub sound : Sound shape w.net
  pub unstarted : (p : Party) (q : Id) → top w p.id < p.inc → w.net.histories p q ≡ []
  pub masters : (e : ℕ) (M : Master) → find nat_cmp e w.masters ≡ Some M → IsShowing w.cluster w.hard w.net e M
  pub agents : (m : ℕ) (g : Agent) → find nat_cmp m w.agents ≡ Some g → IsJoined (w.boots (agent_id m)) w.net (party (agent_id m) g.boot)
  pub apps : (a : ℕ) (g : App) → find nat_cmp a w.apps ≡ Some g → IsJoined (w.boots (app_id a)) w.net (party (app_id a) g.boot)
  pub machines : (m : ℕ) (g : Agent) → find nat_cmp m w.agents ≡ Some g → has_machine w.cluster m ≡ true
  pub origins : (a : ℕ) (g : App) → find nat_cmp a w.apps ≡ Some g → Origins w.net a g.carried
  pub units : (a : ℕ) (g : App) → find nat_cmp a w.apps ≡ Some g → HasUnits w.hard.jobs a g
  pub written : (a b : ℕ) → DemandsHold w.cluster (unit_count w.hard.jobs a) (w.net.histories (party (app_id a) b) master_id)
  pub entries : (e : ℕ) (q : Id) (n : ℕ) → EntryHolds w.cluster w.hard.jobs q (at_index nothing (w.net.histories (party master_id e) q) n)
  pub reports : (m b n : ℕ) → ReportHolds w.cluster w.hard.jobs m (at_index nothing (w.net.histories (party (agent_id m) b) master_id) n).rows

-- what is reported are machines of the cluster, and of a unit that a job does not have nothing is wanted
pub record IsRangedMaster (c : ClusterRecord) (M : Master) : Type 0 where
  pub reported : (m : ℕ) → has_number m M.reported ≡ true → has_machine c m ≡ true
  pub wanted : (a u : ℕ) → nat_lt u (unit_count M.jobs a) ≡ false → asked M a (want_key u) ≡ 0

-- a master that rests: its line is exactly the pairs with something out, and nothing is placeable
-- A step out of the rest: a pair that the line lacks is placed by no step, out of `settled`. Asked by `Safe`: settled
pub record IsResting (c : ClusterRecord) (M : Master) : Type 0 where
  pub ranged : IsRangedMaster c M
  pub line : (a u : ℕ) → has_pair (a, u) M.line ≡ nat_lt 0 (out M a u)
  pub settled : (a u m : ℕ) → placeable c M a u m ≡ false

-- Runs. An incarnation is 0, or ran at some time
abbrev pub has_run : List Party → Party → Bool
has_run ran p = nat_eq p.inc 0 || list_any (same_party p) ran

-- whose incarnation the place of a packet names: an Ack its receiver's, else its sender's
abbrev pub placed : Kind → Packet → Party
placed Ack x = party x.to.id x.inc
placed Delta x = party x.from.id x.inc
placed Full x = party x.from.id x.inc

pub record HasRunPacket (ran : List Party) (x : Packet) : Type 0 where
  pub from : has_run ran x.from ≡ true
  pub to : has_run ran x.to ≡ true
  pub place : has_run ran (placed x.kind x) ≡ true

-- each incarnation that a party knows or a packet names
pub record AllRan (ran : List Party) (net : Net Ledger) : Type 0 where
  pub links : (p : Party) (q : Id) → has_run ran (party q (net.links p q).known) ≡ true
  pub packets : AllByRecursion (HasRunPacket ran) net.packets

-- what runs has run, and with the last boot
pub record IsBooted (last_boot : ℕ) (ran : List Party) (p : Party) : Type 0 where
  pub last : p.inc ≡ last_boot
  pub recorded : has_run ran p ≡ true

-- what runs has run, with its last boot; what ran is not above the last boot or the fence; and all that is named has run
-- Steps out of the rest: the turn of a party that never ran names it, out of `net`; a start below what ran reuses its number, out of `below`
pub record IsRecorded (w : World) : Type 0 where
  pub masters : (e : ℕ) (M : Master) → find nat_cmp e w.masters ≡ Some M → (M.epoch ≡ e) × (has_run w.ran (party master_id e) ≡ true)
  pub agents : (m : ℕ) (g : Agent) → find nat_cmp m w.agents ≡ Some g → IsBooted (w.boots (agent_id m)) w.ran (party (agent_id m) g.boot)
  pub apps : (a : ℕ) (g : App) → find nat_cmp a w.apps ≡ Some g → IsBooted (w.boots (app_id a)) w.ran (party (app_id a) g.boot)
  pub below : AllByRecursion (λ p. p.inc ≤ top w p.id) w.ran
  pub net : AllRan w.ran w.net

-- What a master knows of the hard state: its jobs are the first ones there, and that of the fence has its jobs, marks and bans
-- A step out of the rest: a submit by the master of the fence that lacks a job or a mark leaves it without, out of `marks`. Asked by cores, for a restart: first
pub record KnowsHard (h : HardState) (M : Master) : Type 0 where
  pub later : List JobRecord
  pub first : map (λ (k : KnownJob). k.job) h.jobs ≡ map (λ (k : KnownJob). k.job) M.jobs ++ later
  pub marks : M.epoch ≡ h.fence → M.jobs ≡ h.jobs
  pub bans : M.epoch ≡ h.fence → M.bans ≡ h.bans

-- A number is given back under an epoch: it is at most that of some demand for it, or 0
pub record IsGiven (e : ℕ) (h : List Ledger) (u m v : ℕ) : Type 0 where
  pub place : ℕ
  pub there : place ≤ length h
  pub head : 1 ≤ place → (at_index nothing h place).head ≡ e
  pub within : v ≤ at_key (at_index nothing h place) (back_key u m)

-- what an entry of a master's grants credits was given back, by the boot that they name
abbrev pub EntryGiven : (Party → Id → List Ledger) → ℕ → Id → Ledger → Type 0
EntryGiven hs e q l = is_app q ≡ true → (u m : ℕ) → IsGiven e (hs (party q l.head) master_id) u m (at_key l (credited_key u m))

-- what the grants of any master credit was given back under its epoch
-- Asked by the law on give-backs: where more is credited than was given back, a give-back takes less than its number. No other part rests on it
pub record AllGiven (hs : Party → Id → List Ledger) : Type 0 where
  pub it : (e : ℕ) (q : Id) (n : ℕ) → EntryGiven hs e q (at_index nothing (hs (party master_id e) q) n)

-- Good: what each step keeps
pub record Good (w : World) : Type 0 where
  pub hard : IsHard w.cluster w.hard
  pub stands : Invariant w
  pub rests : (e : ℕ) (M : Master) → find nat_cmp e w.masters ≡ Some M → IsResting w.cluster M
  pub recorded : IsRecorded w
  pub knows : (e : ℕ) (M : Master) → find nat_cmp e w.masters ≡ Some M → KnowsHard w.hard M
  pub given : AllGiven w.net.histories
