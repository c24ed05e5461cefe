use Rattle.std.proofs.Common.{sym, ap, subst, reverse}
use Rattle.fuxi_io.specs.Disks.{Moment, Told, IsImage}
use Rattle.fuxi_io.specs.MemoryDisks.{moment_of}
use Rattle.fuxi_io.proofs.DisksLemmas.{written_is_image}
use Rattle.fuxi_io.proofs.memory_disk.put_imaged.Goals as goal

pub returns-clause-image : goal.returns-clause-image
returns-clause-image c =
    let old = moment_of c.args.bytes.now.items c.args.covered.now.items (reverse c.args.log.now.items) in
    subst (λ (m : Moment). IsImage m m.bytes) (sym (ap (λ (t : Told). t.now) c.put.ensures.told)) (written_is_image old c.args.at c.args.new.now c.requires.begin c.requires.image)
