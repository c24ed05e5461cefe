use Rattle.std.proofs.Common.{◌≡◌, ◌++◌, map, take}
use Rattle.std.specs.List.{flat_map}
use Rattle.master_desk.specs.Desks.{sending_of}
use Rattle.fuxi_desk.specs.DeskTexts.{sent_line}
use Rattle.fuxi_desk.proofs.text.push_heads.Given as goal

abbrev pub invariant-loop-index : goal.invariant-loop-index
invariant-loop-index l = l.out.items ≡ l.fn.out.items ++ flat_map sent_line (map sending_of (take l.index l.heads))
