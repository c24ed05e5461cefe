-- A command behind its tests: it is written by the hard state, and the master is told.
use Rattle.std.proofs.Common.{◌≡◌, inl, inr, ⊎_elim, ℕ, Bool, true, false, not, List, [], ◌∷◌, Option, Some, None, Result, Ok, Err, refl, sym, ◌∙◌, ap, subst, arith}
use Rattle.std.specs.Prelude.{IsOk, OnOk}
use Rattle.std.proofs.lemmas.Bool.Decides.{nat_tests}
use Rattle.fuxi_io.specs.Disks.{Told, WhereTold}
use Rattle.fuxi_terms.proofs.Booleans.{not_false}
use Rattle.fuxi_terms.specs.Cluster.{ClusterRecord}
use Rattle.fuxi_terms.specs.Counts.{then_do}
use Rattle.fuxi_terms.specs.Jobs.{is_known, has_ended}
use Rattle.fuxi_terms.specs.Numbers.{without_number}
use Rattle.spec_net.specs.Channels.{app_id}
use Rattle.spec_roles.specs.Refusals.{Refusal as WrittenRefusal, Known, NoJob, Ended, first_refusal}
use Rattle.spec_roles.specs.HardState.{HardState, HardEvent, Submission, Finishing, Banning, Unbanning, hard_after as written_after, hard_step, hard_tests, is_fenced, is_full, with_job}
use Rattle.spec_roles.specs.Masters.{Master}
use Rattle.spec_roles.specs.MasterSteps.{Changed, Commanded, MasterChange, Admits, Ends, Bans, Unbans, Begins, Preempts, change_of, changes, writes, ended_in, banned_in}
use Rattle.spec_roles.specs.MasterRoles.{MasterRole, Done as IsDone, RefusedAs as IsRefusedAs, Told as IsToldChange, changes_as, master_changed, master_steps_alone}
use Rattle.hard_state.specs.HardFiles.{Kept, IsAtRest, IsBeforeOrAfter, IsOpeningFault, Refuses, WritesStep}
use Rattle.hard_state.proofs.Runs.{leaves_more, map_where}
use Rattle.hard_state.specs.declared.fault.HardFault.{HardFault}
use Rattle.hard_state.specs.declared.fault.HardFault.TheVariants as fault
use Rattle.schedule_text.specs.Printing.{as_refusal}
use Rattle.schedule_text.specs.declared.refusal.Refusal.{Refusal}
use Rattle.fuxi_master.specs.Cores.{CoreRecord, MasterRecord, StandsFor}
use Rattle.fuxi_master.specs.Steps.{Answers, IsFitting, answer_of, refusal_of, told_by}
use Rattle.fuxi_master.specs.declared.event.MasterEvent.{MasterEvent}
use Rattle.fuxi_master.specs.declared.event.MasterEvent.TheVariants.{Packet, Admit, Finish, Ban, Unban, Begin, Preempt, Turn, TurnTo, Resync}
use Rattle.fuxi_master.specs.declared.event.MasterRefusal.{MasterRefusal}
use Rattle.fuxi_master.specs.declared.event.MasterRefusal.TheVariants as master
use Rattle.fuxi_master.specs.declared.event.Outcome.{Outcome}
use Rattle.fuxi_master.specs.declared.event.Outcome.TheVariants as outcome
use Rattle.party_text.specs.PrintedRefusals.{master_refusal}
use Rattle.party_commands.specs.declared.masters.CommandError.{CommandError}
use Rattle.party_commands.specs.CommandedParties.{IsCommand, IsEither, KnowsWritten, LeavesOrder, ObeyedAs, done_by, hard_after, written_for}
use Rattle.party_commands.specs.CarriedCommands.{CarriesOut, IsTold, carried_out, refusal_in}
use Rattle.party_commands.proofs.CommandedPartiesLemmas.{commanded_in}

-- A command that is written first: it is never refused by the master
pub record IsWriting (event : MasterEvent) (v : HardEvent) : Type 0 where
  pub change : MasterChange
  pub told : told_by event ≡ IsToldChange change
  pub does : (c : ClusterRecord) (h : HardState) (M : Master) → done_by c h M event ≡ writes c h M v change
  pub made : Master → Changed
  pub changes : (c : ClusterRecord) (M : Master) → change_of c M change ≡ Ok (made M)

abbrev unforced : Master → Changed
unforced M = record { state = M; even_if_equal = [] }

no_writing : (v : HardEvent) → None ≡ Some v → ⊥
no_writing v is = cc

own_writing : (v w : HardEvent) → Some v ≡ Some w → v ≡ w
own_writing v w is = cc

pub is_writing : (event : MasterEvent) (v : HardEvent) → written_for event ≡ Some v → IsWriting event v
is_writing (Packet x) v is = absurd (no_writing v is)
is_writing (Admit j) v is = subst (IsWriting (Admit j)) (own_writing (Submission j) v is) (record {
  change = Admits j;
  told = refl;
  does = λ c h M. refl;
  made = λ M. record { state = record M { jobs = with_job j M.jobs }; even_if_equal = app_id j.number ∷ [] };
  changes = λ c M. refl;
})
is_writing (Finish a) v is = subst (IsWriting (Finish a)) (own_writing (Finishing a.0) v is) (record { change = Ends a.0; told = refl; does = λ c h M. refl; made = λ M. unforced (ended_in M a.0); changes = λ c M. refl })
is_writing (Ban m) v is = subst (IsWriting (Ban m)) (own_writing (Banning m.0) v is) (record { change = Bans m.0; told = refl; does = λ c h M. refl; made = λ M. unforced (banned_in M m.0); changes = λ c M. refl })
is_writing (Unban m) v is = subst (IsWriting (Unban m)) (own_writing (Unbanning m.0) v is) (record {
  change = Unbans m.0;
  told = refl;
  does = λ c h M. refl;
  made = λ M. unforced (record M { bans = without_number m.0 M.bans });
  changes = λ c M. refl;
})
is_writing Begin v is = absurd (no_writing v is)
is_writing Preempt v is = absurd (no_writing v is)
is_writing Turn v is = absurd (no_writing v is)
is_writing (TurnTo p) v is = absurd (no_writing v is)
is_writing Resync v is = absurd (no_writing v is)

-- One for which nothing is written
pub record IsAlone (event : MasterEvent) : Type 0 where
  pub change : MasterChange
  pub told : told_by event ≡ IsToldChange change
  pub does : (c : ClusterRecord) (h : HardState) (M : Master) → done_by c h M event ≡ changes c h M change
  pub fits : (core : CoreRecord) → IsFitting core event

pub is_alone : (event : MasterEvent) → IsCommand event → written_for event ≡ None → IsAlone event
is_alone (Packet x) command is = elim command [ ]
is_alone (Admit j) command is = absurd (no_writing (Submission j) (sym is))
is_alone (Finish a) command is = absurd (no_writing (Finishing a.0) (sym is))
is_alone (Ban m) command is = absurd (no_writing (Banning m.0) (sym is))
is_alone (Unban m) command is = absurd (no_writing (Unbanning m.0) (sym is))
is_alone Begin command is = record { change = Begins; told = refl; does = λ c h M. refl; fits = λ core. tt }
is_alone Preempt command is = record { change = Preempts; told = refl; does = λ c h M. refl; fits = λ core. tt }
is_alone Turn command is = elim command [ ]
is_alone (TurnTo p) command is = elim command [ ]
is_alone Resync command is = elim command [ ]

-- What is written may be told. Tests that pass, one by one
none_of : (t : Bool × WrittenRefusal) (ts : List (Bool × WrittenRefusal)) → first_refusal (t ∷ ts) ≡ None → (t.0 ≡ false) × (first_refusal ts ≡ None)
none_of (true, r) ts e = cc
none_of (false, r) ts e = (refl, e)

unrefused : (h : HardState) (e : ℕ) (v : HardEvent) (k : HardState) → hard_step h e v ≡ Ok k → first_refusal (hard_tests h e v) ≡ None
unrefused h e v k done = by (first_refusal (hard_tests h e v)) done
  where
    by : (o : Option WrittenRefusal) → elim o as (λ _. Result HardState WrittenRefusal) [ None ↦ Ok (written_after h e v) | Some r ↦ Err r ] ≡ Ok k → o ≡ None
    by None done = refl
    by (Some r) done = cc

-- a master that is not behind the fence knows the jobs
knows_jobs : (h : HardState) (core : CoreRecord) (e : ℕ) (knows : KnowsWritten h core) → e ≡ knows.role.state.epoch → (is_fenced h e).0 ≡ false → core.known.jobs ≡ h.jobs
knows_jobs h core e knows own free =
    let ran = knows.ran in
    let fence : knows.role.state.epoch ≡ h.fence = grind (arith, nat_tests, own, free, ran) in
    sym knows.stands.stands.jobs ∙ knows.jobs fence

pub fits : (event : MasterEvent) (h k : HardState) (core : CoreRecord) (e : ℕ) (v : HardEvent) → IsCommand event → written_for event ≡ Some v → (knows : KnowsWritten h core) → e ≡ knows.role.state.epoch → hard_step h e v ≡ Ok k
    → IsFitting core event
fits (Packet x) h k core e v command is knows own step = elim command [ ]
fits (Admit j) h k core e v command is knows own step =
    let passed = unrefused h e (Submission j) k (ap (hard_step h e) (own_writing (Submission j) v is) ∙ step) in
    let first = none_of (is_fenced h e) ((is_known h.jobs j.number, Known) ∷ is_full h ∷ []) passed in
    let second = none_of (is_known h.jobs j.number, Known) (is_full h ∷ []) first.1 in
    ap (λ jobs. is_known jobs j.number) (knows_jobs h core e knows own first.0) ∙ second.0
fits (Finish a) h k core e v command is knows own step =
    let passed = unrefused h e (Finishing a.0) k (ap (hard_step h e) (own_writing (Finishing a.0) v is) ∙ step) in
    let first = none_of (is_fenced h e) ((not (is_known h.jobs a.0), NoJob) ∷ (has_ended h.jobs a.0, Ended) ∷ is_full h ∷ []) passed in
    let second = none_of (not (is_known h.jobs a.0), NoJob) ((has_ended h.jobs a.0, Ended) ∷ is_full h ∷ []) first.1 in
    ap (λ jobs. is_known jobs a.0) (knows_jobs h core e knows own first.0) ∙ not_false (is_known h.jobs a.0) second.0
fits (Ban m) h k core e v command is knows own step = command
fits (Unban m) h k core e v command is knows own step = command
fits Begin h k core e v command is knows own step = tt
fits Preempt h k core e v command is knows own step = tt
fits Turn h k core e v command is knows own step = elim command [ ]
fits (TurnTo p) h k core e v command is knows own step = elim command [ ]
fits Resync h k core e v command is knows own step = elim command [ ]

-- What a master answers
master_same : (r : MasterRefusal) → refusal_of r ≡ as_refusal (master_refusal r)
master_same master.AlreadyServing = refl
master_same master.NotServing = refl
master_same master.NothingToPreempt = refl

done_says : (o : Outcome) → answer_of o ≡ IsDone → refusal_in o ≡ None
done_says outcome.Done is = refl
done_says (outcome.Refused r) is = cc
done_says (outcome.Sent packets) is = cc
done_says (outcome.Heard heard) is = cc

refused_is : (f g : WrittenRefusal) → IsRefusedAs f ≡ IsRefusedAs g → f ≡ g
refused_is f g is = cc

-- a command that the master does or refuses, with the hard state that it leaves
abbrev changed_in : MasterRole → HardState → Result Changed WrittenRefusal → Result (MasterRole × HardState) WrittenRefusal
changed_in r h res = then_do (then_do res (λ (d : Changed). Ok (record { hard = h; change = d }))) (λ (k : Commanded). Ok (master_changed r k.change, k.hard))

changed_as : (r : MasterRole) (h : HardState) (new : CoreRecord) (o : Outcome) (res : Result Changed WrittenRefusal) → Answers new o (changes_as r res) → ObeyedAs r h h new (refusal_in o) (changed_in r h res)
changed_as r h new o (Ok d) a = subst (λ answer. ObeyedAs r h h new answer (Ok (master_changed r d, h))) (sym (done_says o a.says)) (a.role, refl)
changed_as r h new outcome.Done (Err f) a = let is = a.says in cc
changed_as r h new (outcome.Refused q) (Err f) a = (a.role, refl, sym (refused_is (refusal_of q) f a.says) ∙ master_same q)
changed_as r h new (outcome.Sent packets) (Err f) a = let is = a.says in cc
changed_as r h new (outcome.Heard heard) (Err f) a = let is = a.says in cc

-- Nothing is written, and the master is told
changes_told : (event : MasterEvent) (core : CoreRecord) (x : MasterChange) (after : MasterRecord × Option Refusal) (r : MasterRole) → told_by event ≡ IsToldChange x → (t : IsTold event core after) → StandsFor core r
    → Answers after.0.core t.outcome (changes_as r (change_of r.cluster r.state x))
changes_told event core x after r is t s = subst (λ told. Answers after.0.core t.outcome (master_steps_alone r told)) is (t.steps r s)

pub alone_obeyed : (event : MasterEvent) (h : HardState) (core : CoreRecord) → IsAlone event → (after : MasterRecord × Option Refusal) → IsTold event core after → CarriesOut event h h core after
alone_obeyed event h core x after t r s =
    let res = change_of r.cluster r.state x.change in
    let made = changed_as r h after.0.core t.outcome res (changes_told event core x.change after r x.told t s) in
    let says = subst (λ answer. ObeyedAs r h h after.0.core answer (changed_in r h res)) (sym t.says) made in
    subst (ObeyedAs r h h after.0.core after.1) (ap (commanded_in r) (sym (x.does r.cluster h r.state))) says

-- It is written, or refused by the hard state. Each master that the core stands for has its epoch
abbrev pub IsOwn : CoreRecord → ℕ → Type 0
IsOwn core e = (r : MasterRole) → StandsFor core r → e ≡ r.state.epoch

writes_done : (c : ClusterRecord) (h : HardState) (M : Master) (v : HardEvent) (x : MasterChange) (k : HardState) (d : Changed) → hard_step h M.epoch v ≡ Ok k → change_of c M x ≡ Ok d → writes c h M v x ≡ Ok (record { hard = k; change = d })
writes_done c h M v x k d is to = ap (λ y. then_do y (λ k. changes c k M x)) is ∙ ap (λ y. then_do y (λ (d : Changed). Ok (record { hard = k; change = d }))) to

module _ (event : MasterEvent) (v : HardEvent) (h : HardState) (core : CoreRecord) (e : ℕ) (x : IsWriting event v) (own : IsOwn core e) where
  carried_written : (r : MasterRole) (k : HardState) → StandsFor core r → hard_step h e v ≡ Ok k → carried_out r h event ≡ Ok (master_changed r (x.made r.state), k)
  carried_written r k s step =
      ap (commanded_in r) (x.does r.cluster h r.state ∙ writes_done r.cluster h r.state v x.change k (x.made r.state) (ap (λ n. hard_step h n v) (sym (own r s)) ∙ step) (x.changes r.cluster r.state))

  carried_refused : (r : MasterRole) (f : WrittenRefusal) → StandsFor core r → hard_step h e v ≡ Err f → carried_out r h event ≡ Err f
  carried_refused r f s step = ap (commanded_in r) (x.does r.cluster h r.state ∙ ap (λ y. then_do y (λ k. changes r.cluster k r.state x.change)) (ap (λ n. hard_step h n v) (sym (own r s)) ∙ step))

  -- it is not refused where its writing is not
  pub carried_ok : (r : MasterRole) → StandsFor core r → IsOk (hard_step h e v) → IsOk (carried_out r h event)
  carried_ok r s ok = by (hard_step h e v) refl ok
    where
      by : (res : Result HardState WrittenRefusal) → hard_step h e v ≡ res → IsOk res → IsOk (carried_out r h event)
      by (Ok k) is ok = subst (λ (y : Result (MasterRole × HardState) WrittenRefusal). IsOk y) (sym (carried_written r k s is)) refl
      by (Err f) is ok = cc

  pub written_obeyed : (k : HardState) → hard_step h e v ≡ Ok k → (after : MasterRecord × Option Refusal) → IsTold event core after → CarriesOut event h k core after
  written_obeyed k step after t r s =
      let a = subst (λ res. Answers after.0.core t.outcome (changes_as r res)) (x.changes r.cluster r.state) (changes_told event core x.change after r x.told t s) in
      let none : after.1 ≡ None = t.says ∙ done_says t.outcome a.says in
      subst (ObeyedAs r h k after.0.core after.1) (sym (carried_written r k s step))
      (subst (λ answer. ObeyedAs r h k after.0.core answer (Ok (master_changed r (x.made r.state), k))) (sym none) (a.role, refl))

  pub refused_obeyed : (new : HardState) (m : MasterRecord) (refusal : Refusal) → m.core ≡ core → new ≡ h → hard_step h e v ≡ Err (as_refusal refusal) → CarriesOut event h new core (m, Some refusal)
  refused_obeyed new m refusal same kept step r s =
      subst (ObeyedAs r h new m.core (Some refusal)) (sym (carried_refused r (as_refusal refusal) s step)) (subst (λ core. StandsFor core r) (sym same) s, kept, refl)

-- a fault of the disk and want of memory come only where the step is not refused
pub step_wanted : (step : Result HardState WrittenRefusal) (why : HardFault) → Refuses step why → IsOpeningFault why → IsOk step
step_wanted step (fault.Stale fence) refuses opening = absurd opening
step_wanted step (fault.Fenced fence) refuses opening = absurd opening
step_wanted step fault.Known refuses opening = absurd opening
step_wanted step fault.NoJob refuses opening = absurd opening
step_wanted step fault.Ended refuses opening = absurd opening
step_wanted step fault.AlreadyBanned refuses opening = absurd opening
step_wanted step fault.NotBanned refuses opening = absurd opening
step_wanted step fault.Full refuses opening = absurd opening
step_wanted step (fault.NotCheckpoint offset) refuses opening = absurd refuses
step_wanted step fault.DiskFault refuses opening = refuses
step_wanted step fault.OutOfMemory refuses opening = refuses

-- What a crash leaves of the file. No call was made
abbrev Answered : Type 0
Answered = Result (MasterRecord × Option Refusal) CommandError

pub on_ok : {A E P : Type 0} (result : Result A E) → P → OnOk result P
on_ok (Ok x) p = p
on_ok (Err f) p = tt

pub leaves_untouched : (k l : Kept) (left : HardState) (result : Answered) (a b : Option Told) → l ≡ k → b ≡ a → WhereTold (LeavesOrder k l left result) a b
leaves_untouched k l left result a b kept same = subst (λ (l : Kept). WhereTold (LeavesOrder k l left result) a b) (sym kept) (subst (λ b. WhereTold (LeavesOrder k k left result) a b) (sym same) (by a))
  where
    by : (a : Option Told) → WhereTold (LeavesOrder k k left result) a a
    by None = tt
    by (Some t) = λ rest. (inl refl, on_ok result rest)

-- it was written, or the disk failed
pub leaves_written : (event : MasterEvent) (v : HardEvent) (before after : Kept) (core : CoreRecord) (e : ℕ) (written : Result (Unit {0}) HardFault) (result : Answered) (a b : Option Told) → IsWriting event v → IsOwn core e
    → ((new : Told) → OnOk written (IsAtRest after new.now) → OnOk result (IsAtRest after new.now)) → WhereTold (WritesStep (hard_step before.value e v) before after written) a b
    → (r : MasterRole) → StandsFor core r → WhereTold (LeavesOrder before after (hard_after before.value (carried_out r before.value event)) result) a b
leaves_written event v before after core e written result a b x own rests told r s =
    map_where {R = WritesStep (hard_step before.value e v) before after written} {S = LeavesOrder before after (hard_after before.value (carried_out r before.value event)) result} a b (λ old new w rest.
    (inr (leaves_more (IsBeforeOrAfter before.value (hard_step before.value e v)) (IsEither before.value (hard_after before.value (carried_out r before.value event))) either old new (w rest).0), rests new (w rest).1)) told
  where
    either : (file : List ℕ) → IsBeforeOrAfter before.value (hard_step before.value e v) file → IsEither before.value (hard_after before.value (carried_out r before.value event)) file
    either file is = ⊎_elim (λ was. inl was)
        (λ now. inr (now.2 ∙ ap {B = Result HardState ℕ} (λ k. Ok k) (sym (ap (hard_after before.value) (carried_written event v before.value core e x own r now.0 s now.1))))) is
