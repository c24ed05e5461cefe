-- What holds in the states of a run, behind each beginning of an input.
use Rattle.std.proofs.Common.{◌≡◌, ℕ, true, List, take, drop, Option, Some, None, IfSome, sym, subst}
use Rattle.std.specs.List.{AllByRecursion}
use Rattle.std.proofs.lemmas.List.{take-append-drop}
use Rattle.fuxi_terms.proofs.Alls.{all_front}
use Rattle.fuxi_terms.specs.Cluster.{ClusterRecord}
use Rattle.spec_roles.specs.Masters.{Master}
use Rattle.spec_roles.specs.Preemption.{Plan, plan_of}
use Rattle.spec_roles.specs.TakenByQuota.{AreTakenByQuota}
use Rattle.spec_world.specs.World.{World}
use Rattle.spec_world.specs.KeepsGrants.{AllAdopt, AllReport, AllStay}
use Rattle.spec_world.specs.Events.{Event}
use Rattle.spec_world.specs.Judging.{AllJudge}
use Rattle.spec_world.specs.EventRanges.{IsInput, is_from_line}
use Rattle.spec_world.specs.Runs.{run}
use Rattle.spec_world.specs.Safe.{Safe}
use Rattle.spec_progress.specs.CalmRounds.{CalmBringsQuiet}
use Rattle.schedule_replay.specs.Inputs.{Input}
use Rattle.schedule_replay.specs.Told.{LeadsTo}
use Rattle.fuxi_command.specs.RunStates.{AllCountOnce, AllKeepGrants, AllTakeByQuota}

pub all_count_once : (w : World) → Safe w → AllCountOnce w
all_count_once w safe = record { each = safe.once }

pub all_take_by_quota : ((c : ClusterRecord) (M : Master) (p : Plan) → plan_of c M ≡ Some p → AreTakenByQuota c M p.served p.losers) → (w : World) → AllTakeByQuota w
all_take_by_quota law w = record { each = λ e M p runs is. law w.cluster M p is }

pub all_keep_grants : (w : World) → AllAdopt w → AllReport w → AllStay w → AllKeepGrants w
all_keep_grants w adopts reports stays = record { adopts = adopts; reports = reports; stays = stays }

-- what a law says of every input holds behind each beginning of this one
at_each : (P : ClusterRecord → List Event → Type 0) (o : Option (List ℕ)) → ((c : ClusterRecord) (es : List Event) → IsInput c es → P c es) → ((bytes : List ℕ) (i : Input) → LeadsTo bytes i → IsInput i.cluster i.events)
    → IfSome o (λ bytes. (i : Input) → LeadsTo bytes i → (n : ℕ) → P i.cluster (take n i.events))
at_each P (Some bytes) law given = λ i leads n. law i.cluster (take n i.events) (record {
  cluster = (given bytes i leads).cluster;
  lines = all_front (λ e. is_from_line e ≡ true) (take n i.events) (drop n i.events) (subst (λ es. AllByRecursion (λ e. is_from_line e ≡ true) es) (sym (take-append-drop n i.events)) (given bytes i leads).lines);
})
at_each P None law given = tt

pub each_judges : (o : Option (List ℕ)) → ((c : ClusterRecord) (es : List Event) → IsInput c es → AllJudge (run c es)) → ((bytes : List ℕ) (i : Input) → LeadsTo bytes i → IsInput i.cluster i.events)
    → IfSome o (λ bytes. (i : Input) → LeadsTo bytes i → (n : ℕ) → AllJudge (run i.cluster (take n i.events)))
each_judges = at_each (λ c es. AllJudge (run c es))

pub each_calms : (o : Option (List ℕ)) → ((c : ClusterRecord) (es : List Event) → IsInput c es → CalmBringsQuiet c es) → ((bytes : List ℕ) (i : Input) → LeadsTo bytes i → IsInput i.cluster i.events)
    → IfSome o (λ bytes. (i : Input) → LeadsTo bytes i → (n : ℕ) → CalmBringsQuiet i.cluster (take n i.events))
each_calms = at_each CalmBringsQuiet
