-- What the commands of an application answer.
use Rattle.std.specs.Prelude.{◌≡◌, Result, Ok, Err, IsOk}
use Rattle.spec_roles.specs.Apps.{AppRole, AppCommand, commands_alone}
use Rattle.spec_roles.specs.Refusals.{Refusal, NoUnit, NoMachine, NoRack, WantRange, NotUsable, BackRange}
use Rattle.fuxi_terms.specs.Limits.{greatest_count}
use Rattle.app_master.specs.declared.fault.AppFault.{AppFault}
use Rattle.app_master.specs.declared.fault.AppFault.TheVariants.{NoUnit as SaysNoUnit, NoMachine as SaysNoMachine, NoRack as SaysNoRack, WantRange as SaysWantRange, NotUsable as SaysNotUsable, BackRange as SaysBackRange, OutOfMemory as WantOfMemory}
use Rattle.app_master.specs.AppCores.{AppCore, StandsFor}

-- a fault names the first refusal of the tests; want of memory comes only where they refuse nothing
abbrev pub Names : {A : Type 0} → AppFault → Result A Refusal → Type 0
Names SaysNoUnit answer = answer ≡ Err NoUnit
Names SaysNoMachine answer = answer ≡ Err NoMachine
Names SaysNoRack answer = answer ≡ Err NoRack
Names SaysWantRange answer = answer ≡ Err (WantRange greatest_count)
Names (SaysNotUsable usable) answer = answer ≡ Err (NotUsable usable)
Names SaysBackRange answer = answer ≡ Err BackRange
Names WantOfMemory answer = IsOk answer

-- after Ok the core stands for what the application by itself has become; after a fault it is as it was
abbrev pub Answers : AppCore → AppCore → Result (Unit {0}) AppFault → Result AppRole Refusal → Type 0
Answers old new (Ok done) (Ok role) = StandsFor new role
Answers old new (Ok done) (Err refusal) = ⊥
Answers old new (Err fault) answer = (new ≡ old) × Names fault answer

-- a command, of every application by itself that the core stands for
abbrev pub Commands : AppCommand → AppCore → Result (Unit {0}) AppFault → AppCore → Type 0
Commands x old result new = (r : AppRole) → StandsFor old r → Answers old new result (commands_alone r x)
