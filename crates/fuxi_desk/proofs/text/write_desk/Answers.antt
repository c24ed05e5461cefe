use Rattle.fuxi_desk.proofs.DeskTextsLemmas.{all_printed}
use Rattle.fuxi_desk.proofs.text.write_desk.Goals as goal

pub returns : goal.returns
returns c = all_printed c.write_master.result c.args.book.now c.master.result.now c.args.out.now.items c.push_journal.new.out.items c.write_master.new.out.items c.master.ensures.master c.in-Ok.ensures c.write_master.ensures.ok
