-- Why a master refuses, as it is printed.
use Rattle.fuxi_master.specs.declared.event.MasterRefusal.{MasterRefusal}
use Rattle.fuxi_master.specs.declared.event.MasterRefusal.TheVariants as master
use Rattle.schedule_text.specs.declared.refusal.Refusal.{Refusal}
use Rattle.schedule_text.specs.declared.refusal.Refusal.TheVariants as why

abbrev pub master_refusal : MasterRefusal → Refusal
master_refusal master.AlreadyServing = why.AlreadyServing
master_refusal master.NotServing = why.NotServing
master_refusal master.NothingToPreempt = why.NothingToPreempt
