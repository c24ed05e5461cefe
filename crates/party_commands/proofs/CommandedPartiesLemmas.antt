-- The first tests of a command, by what they find.
use Rattle.std.proofs.Common.{◌≡◌, ℕ, ◌<◌, Bool, true, false, not, List, ◌∷◌, length, Some, None, Result, Ok, Err, refl, sym, ◌∙◌, ap, subst, arith}
use Rattle.std.specs.Prelude.{IsOk}
use Rattle.std.proofs.lemmas.Bool.Decides.{nat_tests}
use Rattle.fuxi_terms.specs.Cluster.{ClusterRecord, JobRecord, has_group}
use Rattle.fuxi_terms.specs.Counts.{then_do}
use Rattle.fuxi_terms.specs.Jobs.{eight_places}
use Rattle.schedule_unit.specs.declared.asks.Ask.{Ask}
use Rattle.schedule_unit.specs.declared.job.JobFault.{JobFault}
use Rattle.schedule_unit.specs.JobFaults.{IsFault, IsMade, job_fault}
use Rattle.spec_roles.specs.Refusals.{Refusal as WrittenRefusal, NoGroup, first_refusal, job_tests, unless_fault}
use Rattle.spec_roles.specs.HardState.{HardState, Submission}
use Rattle.spec_roles.specs.Masters.{Master}
use Rattle.spec_roles.specs.MasterSteps.{MasterCommand, Commanded, Admits, Submits, Finishes, BansMachine, UnbansMachine, StartsServing, MakesRoom, writes}
use Rattle.spec_roles.specs.MasterRoles.{MasterRole, master_changed, master_commanded}
use Rattle.fuxi_master.specs.declared.event.MasterEvent.{MasterEvent}
use Rattle.fuxi_master.specs.declared.event.MasterEvent.TheVariants.{Admit}
use Rattle.schedule_text.specs.declared.refusal.Refusal.{Refusal}
use Rattle.schedule_text.specs.Printing.{as_refusal}
use Rattle.schedule_text.specs.Asked.{AreTestedAlike, job_named, job_refusal}
use Rattle.party_commands.specs.CommandedParties.{MayWant, TestsAs, TestsWant, has_writing}
use Rattle.party_commands.specs.CarriedCommands.{carried_out}

passes : {A : Type 0} (tests : List (Bool × WrittenRefusal)) (r : Result A WrittenRefusal) → first_refusal tests ≡ None → unless_fault tests r ≡ r
passes {A} tests r none = ap (λ o. elim o as (λ _. Result A WrittenRefusal) [ None ↦ r | Some f ↦ Err f ]) none

fails : {A : Type 0} (tests : List (Bool × WrittenRefusal)) (r : Result A WrittenRefusal) (f : WrittenRefusal) → first_refusal tests ≡ Some f → unless_fault tests r ≡ Err f
fails {A} tests r f some = ap (λ o. elim o as (λ _. Result A WrittenRefusal) [ None ↦ r | Some f ↦ Err f ]) some

none_before : (t : Bool × WrittenRefusal) (ts : List (Bool × WrittenRefusal)) → t.0 ≡ false → first_refusal (t ∷ ts) ≡ first_refusal ts
none_before (true, r) ts e = cc
none_before (false, r) ts e = refl

-- A job: its group, and what is asked for it
abbrev submit_tests_of : ClusterRecord → JobRecord → List (Bool × WrittenRefusal)
submit_tests_of c j = (not (has_group c j.group), NoGroup) ∷ job_tests c.resources j

abbrev submit_writes : ClusterRecord → HardState → Master → JobRecord → Result Commanded WrittenRefusal
submit_writes c h M j = writes c h M (Submission (eight_places j)) (Admits (eight_places j))

pub group_there : (c : ClusterRecord) (g n : ℕ) → n ≡ length c.groups → g < n → has_group c g ≡ true
group_there c g n is below = grind (arith, nat_tests, is, below)

group_known : (c : ClusterRecord) (j : JobRecord) → has_group c j.group ≡ true → first_refusal (submit_tests_of c j) ≡ first_refusal (job_tests c.resources j)
group_known c j there = none_before (not (has_group c j.group), NoGroup) (job_tests c.resources j) (ap not there)

pub job_refused : AreTestedAlike → (c : ClusterRecord) (a g resources : ℕ) (asks : List Ask) (f : JobFault) (refusal : Refusal) → resources ≡ c.resources → has_group c g ≡ true → job_refusal f ≡ Some refusal
    → IsFault (job_fault resources asks) f → TestsAs c (Submits (job_named a g asks)) (Err refusal)
job_refused law c a g resources asks f refusal same there is fault = λ h M.
    let j = job_named a g asks in
    let fault_there = subst (λ n. IsFault (job_fault n asks) f) same fault in
    fails (submit_tests_of c j) (submit_writes c h M j) (as_refusal refusal) (group_known c j there ∙ law.refused c.resources a g asks f refusal fault_there is)

pub job_tested : AreTestedAlike → (c : ClusterRecord) (a g resources : ℕ) (asks : List Ask) (made : JobRecord) → resources ≡ c.resources → has_group c g ≡ true → IsMade a g resources asks (Ok made)
    → TestsAs c (Submits (job_named a g asks)) (Ok (Admit made))
job_tested law c a g resources asks made same there is = λ h M.
    let j = job_named a g asks in
    let none = law.passed c.resources a g asks (subst (λ n. job_fault n asks ≡ None) same is.0) in
    let kept : eight_places j ≡ made = sym (is.1 ∙ law.made a g asks) in
    passes (submit_tests_of c j) (submit_writes c h M j) (group_known c j there ∙ none) ∙ ap (λ y. writes c h M (Submission y) (Admits y)) kept

-- What a master is commanded is what it is then told
pub commanded_as : (c : ClusterRecord) (h : HardState) (r : MasterRole) (x : MasterCommand) (event : MasterEvent) → c ≡ r.cluster → TestsAs c x (Ok event) → master_commanded r h x ≡ carried_out r h event
commanded_as c h r x event same tests =
    ap (λ (k : Result Commanded WrittenRefusal). then_do k (λ k. Ok (master_changed r k.change, k.hard))) (subst (λ (c : ClusterRecord). TestsAs c x (Ok event)) same tests h r.state)

-- a command with the hard state that it leaves
abbrev pub commanded_in : MasterRole → Result Commanded WrittenRefusal → Result (MasterRole × HardState) WrittenRefusal
commanded_in r k = then_do k (λ k. Ok (master_changed r k.change, k.hard))

-- Want of memory: a submission that is not refused has its group
first_is : (t : Bool × WrittenRefusal) (ts : List (Bool × WrittenRefusal)) → t.0 ≡ true → first_refusal (t ∷ ts) ≡ Some t.1
first_is (true, r) ts e = refl
first_is (false, r) ts e = cc

submitted_there : (r : MasterRole) (h : HardState) (j : JobRecord) → IsOk (master_commanded r h (Submits j)) → has_group r.cluster j.group ≡ true
submitted_there r h j ok = elim (has_group r.cluster j.group) as (λ t. has_group r.cluster j.group ≡ t → has_group r.cluster j.group ≡ true) [
  | true ↦ λ e. e
  | false ↦ λ e.
      let none = fails (submit_tests_of r.cluster j) (submit_writes r.cluster h r.state j) NoGroup (first_is (not (has_group r.cluster j.group), NoGroup) (job_tests r.cluster.resources j) (ap not e)) in
      let wrong : false ≡ true = subst (λ (y : Result Commanded WrittenRefusal). IsOk (commanded_in r y)) none ok in
      cc
] refl

pub may_want : (r : MasterRole) (h : HardState) (x : MasterCommand) → (has_writing x ≡ true → IsOk (master_commanded r h x)) → MayWant r h x
may_want r h (Submits j) ok = submitted_there r h j (ok refl)
may_want r h (Finishes a) ok = ok refl
may_want r h (BansMachine m) ok = ok refl
may_want r h (UnbansMachine m) ok = ok refl
may_want r h StartsServing ok = tt
may_want r h MakesRoom ok = tt

pub tests_want : (c : ClusterRecord) (r : MasterRole) (h : HardState) (x : MasterCommand) → c ≡ r.cluster → TestsWant c x → MayWant r h x
tests_want c r h (Submits j) same there = subst (λ (c : ClusterRecord). has_group c j.group ≡ true) same there
tests_want c r h (Finishes a) same none = absurd none
tests_want c r h (BansMachine m) same none = absurd none
tests_want c r h (UnbansMachine m) same none = absurd none
tests_want c r h StartsServing same none = absurd none
tests_want c r h MakesRoom same none = absurd none
