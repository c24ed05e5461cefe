use Rattle.std.specs.List.{flat_map}
use Rattle.fuxi_terms.specs.Lists.{below}
use Rattle.party_text.specs.MasterLines.{ban_lines}
use Rattle.party_text.specs.Texts.{Shows}
use Rattle.party_text.proofs.hard.write_bans.Given as goal

abbrev pub invariant-loop-number : goal.invariant-loop-number
invariant-loop-number l = Shows (flat_map (ban_lines l.hard.value.bans) (below l.number)) l.initial.out.items l.out.items
