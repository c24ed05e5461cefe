use Rattle.std.proofs.Common.{None, sym, ◌∙◌, ap, cond}
use Rattle.hex.specs.Hex.{decode_of}
use Rattle.fuxi_desk.specs.DeskLines.{bytes_in}
use Rattle.fuxi_desk.proofs.read.hex_of.Goals as goal

pub returns-in-Ok : goal.returns-in-Ok
returns-in-Ok c = sym (ap (λ b. cond b (bytes_in (decode_of c.args.word.now)) None) (sym c.if-not-is_plain.ensures) ∙ ap bytes_in c.in-Ok.ensures.ok)
