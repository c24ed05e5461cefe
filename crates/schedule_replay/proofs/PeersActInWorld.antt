-- From what an agent or an application does or is refused to the step of the world that it is.
use Rattle.std.proofs.Common.{◌≡◌, ℕ, ◌+◌, ◌<◌, ◌≤◌, Bool, true, false, not, nat_lt, List, [], ◌∷◌, ◌++◌, length, Option, Some, None, is_some, Result, Ok, Err, slice_get, refl, sym, ◌∙◌, ap, subst, arith, append-nil}
use Rattle.std.specs.Prelude.{OnOk, IfErr}
use Rattle.std.specs.Option.{option_map, unwrap_or}
use Rattle.std.proofs.lemmas.Bool.Decides.{nat_tests}
use Rattle.fuxi_terms.specs.Cluster.{ClusterRecord, JobRecord, MachineRecord, machine_of, no_machine, has_machine}
use Rattle.fuxi_terms.specs.Jobs.{KnownJob, job_of, is_known, has_ended, unit_count}
use Rattle.fuxi_terms.specs.Padded.{padded}
use Rattle.cluster_desc.specs.Records.{machine_of as machine_seen}
use Rattle.cluster_desc.specs.declared.cluster.Machine.{Machine}
use Rattle.spec_net.specs.Channels.{agent_id, app_id}
use Rattle.spec_roles.specs.Refusals.{Refusal as Written, NoMachine, NoJob, Ended, NotRising}
use Rattle.spec_world.specs.World.{World, Step, refused, prints_nothing, unless_refused}
use Rattle.spec_world.specs.Events.{asks, start_agent, agent_started, start_app, app_started}
use Rattle.agent_core.specs.AgentCores.{AgentCore}
use Rattle.app_master.specs.AppCores.{AppCore}
use Rattle.spec_refinement.specs.SeenParties.{Kind, Role, agent_starting, app_starting}
use Rattle.running_parties.specs.Slots.{SlotsRecord, AreWithin as PartiesWithin, StepIn}
use Rattle.running_parties.specs.Peers.{AgentStartsIn, AppStartsIn, AsksOneIn, AskInWorld, app_steps}
use Rattle.spec_roles.specs.Apps.{AppCommand}
use Rattle.schedule_text.specs.declared.refusal.Refusal.{Refusal}
use Rattle.schedule_text.specs.declared.refusal.Refusal.TheVariants as why
use Rattle.schedule_text.specs.Printing.{as_refusal}
use Rattle.schedule_replay.specs.declared.stop.WorldStop.{WorldStop}
use Rattle.schedule_replay.specs.ReplayTexts.{lines_text}
use Rattle.schedule_replay.specs.Worlds.{WorldRecord, IsWorld, StandsFor}
use Rattle.schedule_replay.specs.WorldSteps.{IsDone, limit_of}
use Rattle.schedule_replay.specs.Moves.{AgentsPart, AppsPart, IsPart, Acts, IsActed, WantsMemory, refusal_lines}
use Rattle.schedule_replay.proofs.MovesLemmas.{once_up_to, apps_once, none_once}
use Rattle.schedule_replay.proofs.MastersActInWorld.{is_refused, is_quiet}

-- what was written decides, unless memory was refused
pub acts_by : (f : World → Step) (old new : WorldRecord) (before after text : List ℕ) (result : Result (Unit {0}) WorldStop) → OnOk result (after ≡ text) → IfErr result WantsMemory → (after ≡ text → IsActed f old new before after) → Acts f old new before after result
acts_by f old new before after text (Ok done) ok err k = k ok
acts_by f old new before after text (Err stop) ok err k = λ w is s. err (limit_of w (f w).world)

pub no_text : (before : List ℕ) → before ≡ before ++ lines_text []
no_text before = sym (append-nil before)

-- A step that is refused in each world
pub refuses : (f : World → Step) (old : WorldRecord) (why : Refusal) (before after : List ℕ) → ((w : World) → IsWorld w → StandsFor old w → f w ≡ refused w (as_refusal why)) → after ≡ before ++ lines_text (refusal_lines (Some why)) → IsActed f old old before after
refuses f old why before after is text = record {
  does = λ w ok s. is_refused w (f w) old why before after s (is w ok s) text;
  moves = once_up_to old old (none_once old old.pool);
}

-- Tests, one by one
pub first_fails : (w : World) (b : Bool) (r : Written) (ts : List (Bool × Written)) (f : World → Step) → b ≡ true → unless_refused w ((b, r) ∷ ts) f ≡ refused w r
first_fails w true r ts f is = refl
first_fails w false r ts f is = absurd (no is)
  where
    no : false ≡ true → ⊥
    no e = grind (arith, e)

pub first_passes : (w : World) (b : Bool) (r : Written) (ts : List (Bool × Written)) (f : World → Step) → b ≡ false → unless_refused w ((b, r) ∷ ts) f ≡ unless_refused w ts f
first_passes w false r ts f is = refl
first_passes w true r ts f is = absurd (no is)
  where
    no : true ≡ false → ⊥
    no e = grind (arith, e)

-- What one party did, of any kind, which sent nothing
module _ {P : Type 0} {stands : P → Role → Type 0} {steps : P → ℕ} {k : Kind} {of : WorldRecord → SlotsRecord P} {put : SlotsRecord P → WorldRecord → WorldRecord} where
  pub party_done : IsPart P stands steps k of put → (w : World) (s : Step) (old : WorldRecord) (n : ℕ) (x : SlotsRecord P) (before : List ℕ) → StandsFor old w → StepIn stands k w n x [] s [] → IsDone s (put x old) before before
  party_done part w s old n x before stand a = is_quiet s (put x old) before before (part.quiet w s.world n old x stand a.world) a.lines (no_text before)

-- The steps of starts, by the tests that pass
pub agent_beyond : (w : World) (m b : ℕ) → has_machine w.cluster m ≡ false → start_agent w m b ≡ refused w NoMachine
agent_beyond w m b is = first_fails w (not (has_machine w.cluster m)) NoMachine ((not (nat_lt (w.boots (agent_id m)) b), NotRising (w.boots (agent_id m))) ∷ []) (λ v. prints_nothing (agent_started v m b)) (ap not is)

agent_there : (w : World) (m b : ℕ) → has_machine w.cluster m ≡ true → start_agent w m b ≡ unless_refused w ((not (nat_lt (w.boots (agent_id m)) b), NotRising (w.boots (agent_id m))) ∷ []) (λ v. prints_nothing (agent_started v m b))
agent_there w m b is = first_passes w (not (has_machine w.cluster m)) NoMachine ((not (nat_lt (w.boots (agent_id m)) b), NotRising (w.boots (agent_id m))) ∷ []) (λ v. prints_nothing (agent_started v m b)) (ap not is)

pub agent_too_low : (w : World) (m b : ℕ) → has_machine w.cluster m ≡ true → b ≤ w.boots (agent_id m) → start_agent w m b ≡ refused w (NotRising (w.boots (agent_id m)))
agent_too_low w m b is low =
    let t : nat_lt (w.boots (agent_id m)) b ≡ false = grind (arith, nat_tests, low) in
    agent_there w m b is ∙ first_fails w (not (nat_lt (w.boots (agent_id m)) b)) (NotRising (w.boots (agent_id m))) [] (λ v. prints_nothing (agent_started v m b)) (ap not t)

pub agent_step : (w : World) (m b : ℕ) → has_machine w.cluster m ≡ true → w.boots (agent_id m) < b → start_agent w m b ≡ prints_nothing (agent_started w m b)
agent_step w m b is later =
    let t : nat_lt (w.boots (agent_id m)) b ≡ true = grind (arith, nat_tests, later) in
    agent_there w m b is ∙ first_passes w (not (nat_lt (w.boots (agent_id m)) b)) (NotRising (w.boots (agent_id m))) [] (λ v. prints_nothing (agent_started v m b)) (ap not t)

abbrev app_tests : World → ℕ → ℕ → List (Bool × Written)
app_tests w a b = (has_ended w.hard.jobs a, Ended) ∷ (not (nat_lt (w.boots (app_id a)) b), NotRising (w.boots (app_id a))) ∷ []

abbrev last_test : World → ℕ → ℕ → List (Bool × Written)
last_test w a b = (not (nat_lt (w.boots (app_id a)) b), NotRising (w.boots (app_id a))) ∷ []

pub app_unknown : (w : World) (a b : ℕ) → is_known w.hard.jobs a ≡ false → start_app w a b ≡ refused w NoJob
app_unknown w a b is = first_fails w (not (is_known w.hard.jobs a)) NoJob (app_tests w a b) (λ v. prints_nothing (app_started v a b)) (ap not is)

app_known : (w : World) (a b : ℕ) → is_known w.hard.jobs a ≡ true → start_app w a b ≡ unless_refused w (app_tests w a b) (λ v. prints_nothing (app_started v a b))
app_known w a b is = first_passes w (not (is_known w.hard.jobs a)) NoJob (app_tests w a b) (λ v. prints_nothing (app_started v a b)) (ap not is)

pub app_over : (w : World) (a b : ℕ) → is_known w.hard.jobs a ≡ true → has_ended w.hard.jobs a ≡ true → start_app w a b ≡ refused w Ended
app_over w a b is over = app_known w a b is ∙ first_fails w (has_ended w.hard.jobs a) Ended (last_test w a b) (λ v. prints_nothing (app_started v a b)) over

app_live : (w : World) (a b : ℕ) → is_known w.hard.jobs a ≡ true → has_ended w.hard.jobs a ≡ false → start_app w a b ≡ unless_refused w (last_test w a b) (λ v. prints_nothing (app_started v a b))
app_live w a b is live = app_known w a b is ∙ first_passes w (has_ended w.hard.jobs a) Ended (last_test w a b) (λ v. prints_nothing (app_started v a b)) live

pub app_too_low : (w : World) (a b : ℕ) → is_known w.hard.jobs a ≡ true → has_ended w.hard.jobs a ≡ false → b ≤ w.boots (app_id a) → start_app w a b ≡ refused w (NotRising (w.boots (app_id a)))
app_too_low w a b is live low =
    let t : nat_lt (w.boots (app_id a)) b ≡ false = grind (arith, nat_tests, low) in
    app_live w a b is live ∙ first_fails w (not (nat_lt (w.boots (app_id a)) b)) (NotRising (w.boots (app_id a))) [] (λ v. prints_nothing (app_started v a b)) (ap not t)

pub app_step : (w : World) (a b : ℕ) → is_known w.hard.jobs a ≡ true → has_ended w.hard.jobs a ≡ false → w.boots (app_id a) < b → start_app w a b ≡ prints_nothing (app_started w a b)
app_step w a b is live later =
    let t : nat_lt (w.boots (app_id a)) b ≡ true = grind (arith, nat_tests, later) in
    app_live w a b is live ∙ first_passes w (not (nat_lt (w.boots (app_id a)) b)) (NotRising (w.boots (app_id a))) [] (λ v. prints_nothing (app_started v a b)) (ap not t)

-- Starts of agents
pub has_as : (c : ClusterRecord) (m : ℕ) (x : Machine) → option_map machine_seen (slice_get c.machines m) ≡ Some x → x.has.q ≡ padded (machine_of c m).has
has_as c m x is = by (slice_get c.machines m) is
  where
    by : (o : Option MachineRecord) → option_map machine_seen o ≡ Some x → x.has.q ≡ padded (unwrap_or o no_machine).has
    by None e = let no : ⊥ = cc in absurd no
    by (Some r) e = let same : machine_seen r ≡ x = cc in sym (ap (λ (y : Machine). y.has.q) same)

pub agent_starts : AgentsPart → (w : World) (old : WorldRecord) (m b : ℕ) (agents : SlotsRecord AgentCore) (before : List ℕ) → StandsFor old w → has_machine w.cluster m ≡ true → w.boots (agent_id m) < b → AgentStartsIn w m b agents
    → IsDone (start_agent w m b) (record old { agents = agents }) before before
agent_starts part w old m b agents before s there later h =
    subst (λ t. IsDone t (record old { agents = agents }) before before) (sym (agent_step w m b there later))
    (party_done part w (prints_nothing (agent_started w m b)) old m agents before s (record { world = record { stand = h.stand; role = agent_starting w m b; acts = h.acts; hard = refl }; lines = refl }))

-- and of applications
pub app_starts : AppsPart → (w : World) (old : WorldRecord) (a b : ℕ) (apps : SlotsRecord AppCore) (before : List ℕ) → StandsFor old w → is_known w.hard.jobs a ≡ true → has_ended w.hard.jobs a ≡ false → w.boots (app_id a) < b → AppStartsIn w a b apps
    → IsDone (start_app w a b) (record old { apps = apps }) before before
app_starts part w old a b apps before s known live later h =
    subst (λ t. IsDone t (record old { apps = apps }) before before) (sym (app_step w a b known live later))
    (party_done part w (prints_nothing (app_started w a b)) old a apps before s (record { world = record { stand = h.stand; role = app_starting w a b; acts = h.acts; hard = refl }; lines = refl }))

-- What an application is asked, done or refused
pub asked : AppsPart → (a : ℕ) (x : AppCommand) (old : WorldRecord) (apps : SlotsRecord AppCore) (answer : Option (Option Refusal)) (before after : List ℕ) → AskInWorld a x old.apps apps answer → ((n : ℕ) → PartiesWithin app_steps n old.apps → PartiesWithin app_steps (n + 1) apps)
    → after ≡ before ++ lines_text (refusal_lines (unwrap_or answer (Some why.NotRunning))) → IsActed (λ w. asks w a x) old (record old { apps = apps }) before after
asked part a x old apps answer before after asks_in steps text = record {
  does = λ w is s. by w s answer (asks_in w is.good s.apps) text;
  moves = once_up_to old (record old { apps = apps }) (apps_once old apps old.pool steps);
}
  where
    by : (w : World) → StandsFor old w → (answer : Option (Option Refusal)) → AsksOneIn w a x apps answer → after ≡ before ++ lines_text (refusal_lines (unwrap_or answer (Some why.NotRunning))) → IsDone (asks w a x) (record old { apps = apps }) before after
    by w s None h text = is_refused w (asks w a x) (record old { apps = apps }) why.NotRunning before after (part.stays w old apps s h.stand) h.same text
    by w s (Some None) h text = is_quiet (asks w a x) (record old { apps = apps }) before after (part.quiet w _ a old apps s h.world) h.lines text
    by w s (Some (Some r)) h text = is_refused w (asks w a x) (record old { apps = apps }) r before after (part.stays w old apps s h.stand) h.same text

-- what is found of a job is one that the world knows
pub job_known : (jobs : List KnownJob) (a : ℕ) (d : JobRecord) → option_map (λ (k : KnownJob). k.job) (job_of jobs a) ≡ Some d → is_known jobs a ≡ true
job_known jobs a d is = by (job_of jobs a) is
  where
    by : (o : Option KnownJob) → option_map (λ (k : KnownJob). k.job) o ≡ Some d → is_some o ≡ true
    by None e = let no : ⊥ = cc in absurd no
    by (Some k) e = refl

pub units_as : (jobs : List KnownJob) (a : ℕ) (d : JobRecord) → option_map (λ (k : KnownJob). k.job) (job_of jobs a) ≡ Some d → length d.units ≡ unit_count jobs a
units_as jobs a d is = by (job_of jobs a) is
  where
    by : (o : Option KnownJob) → option_map (λ (k : KnownJob). k.job) o ≡ Some d → length d.units ≡ length (unwrap_or (option_map (λ (k : KnownJob). k.job.units) o) [])
    by None e = let no : ⊥ = cc in absurd no
    by (Some k) e = let same : k.job ≡ d = cc in ap (λ (j : JobRecord). length j.units) (sym same)
