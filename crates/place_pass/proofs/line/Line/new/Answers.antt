use Rattle.std.proofs.Common.{[], refl, rules}
use Rattle.place_pass.proofs.FlagsTellWhoWaits.{flags_none}
use Rattle.place_pass.proofs.FirstKeysWait.{line_none}
use Rattle.place_pass.proofs.line.Line.new.Goals as goal

pub invariant_of-result : goal.invariant_of-result
invariant_of-result c = line_none c.new.result.keys c.in_ok-waits.waits.items c.new.ensures.empty (flags_none [] c.in_ok-waits.waits.items refl (c.in_ok-waits.ensures.items_if_clones_equal (λ y e. search rules)))
