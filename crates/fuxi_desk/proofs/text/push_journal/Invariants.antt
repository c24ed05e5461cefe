use Rattle.std.proofs.Common.{◌≡◌, ◌++◌, map, take}
use Rattle.std.specs.List.{flat_map}
use Rattle.master_desk.specs.Books.{entry_line}
use Rattle.fuxi_desk.specs.DeskTexts.{line_text}
use Rattle.fuxi_desk.proofs.text.push_journal.Given as goal

abbrev pub invariant-loop-index : goal.invariant-loop-index
invariant-loop-index l = l.out.items ≡ l.fn.out.items ++ flat_map line_text (map entry_line (take l.index l.book.journal))
