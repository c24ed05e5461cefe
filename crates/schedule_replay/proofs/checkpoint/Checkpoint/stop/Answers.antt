use Rattle.std.proofs.Common.{ap, ◌∙◌}
use Rattle.hard_state.specs.declared.fault.HardFault.{HardFault}
use Rattle.schedule_replay.specs.GrowingDisks.{Grown}
use Rattle.schedule_replay.specs.Held.{Held}
use Rattle.party_commands.specs.CommandedParties.{event_of}
use Rattle.schedule_replay.proofs.StopLeaves.{leaves_stopped}
use Rattle.schedule_replay.proofs.checkpoint.Checkpoint.stop.Goals as goal

pub returns-in-Ok-clause-left : goal.returns-in-Ok-clause-left
returns-in-Ok-clause-left c =
    let same = c.self.view_is in
    leaves_stopped HardFault c.args.self.now c.args.epoch (event_of c.args.writing.now) c.self.inside.hard _ c.stop_after.new.self.told _ _ c.requires.open (ap (λ (h : Held). h.hard) same)
    (ap (λ (d : Grown). d.told) c.stop_after.ensures ∙ ap (λ (h : Held). h.told) same) c.write.ensures.told

pub returns-in-Err-DiskFault-clause-left : goal.returns-in-Err-DiskFault-clause-left
returns-in-Err-DiskFault-clause-left c =
    let same = c.self.view_is in
    leaves_stopped HardFault c.args.self.now c.args.epoch (event_of c.args.writing.now) c.self.inside.hard _ c.stop_after.new.self.told _ _ c.requires.open (ap (λ (h : Held). h.hard) same)
    (ap (λ (d : Grown). d.told) c.stop_after.ensures ∙ ap (λ (h : Held). h.told) same) c.write.ensures.told
