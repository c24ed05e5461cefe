use Rattle.std.specs.Prelude.{◌≡◌, ◌++◌, None, replicate}
use Rattle.fuxi_master.proofs.commands.make_slots.Given as goal

abbrev pub invariant-loop : goal.invariant-loop
invariant-loop l = l.apps.items ≡ l.fn.apps.items ++ replicate l.counter None
