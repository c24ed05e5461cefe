use Rattle.fuxi_master.proofs.state.Core.preempt.Given as goal

abbrev pub ghosts-preempted : goal.ghosts-preempted
ghosts-preempted a = record { name = a.blank.name; parts = a.blank.parts }
