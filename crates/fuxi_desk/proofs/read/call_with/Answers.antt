use Rattle.std.proofs.Common.{sym, ap}
use Rattle.fuxi_terms.specs.Counts.{then_do}
use Rattle.fuxi_desk.specs.DeskLines.{call_at, call_with, hex_of}
use Rattle.fuxi_desk.proofs.DeskLinesLemmas.{is_fault}
use Rattle.fuxi_desk.proofs.read.call_with.Goals as goal

pub returns-in-Err-clause-fault : goal.returns-in-Err-clause-fault
returns-in-Err-clause-fault c = is_fault (call_with c.args.session.now c.args.word.now) c.in-Err.fault (ap (λ r. then_do r (λ n. call_at n (hex_of c.args.word.now))) (sym c.in-Err.ensures.value))
