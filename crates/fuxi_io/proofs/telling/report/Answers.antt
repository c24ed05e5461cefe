use Rattle.std.proofs.Common.{◌∙◌, ◌++◌, ap, subst, OnErr, List, ℕ}
use Rattle.fuxi_io.specs.Causes.{TakesPart}
use Rattle.fuxi_io.proofs.ReportsLemmas.{bad_input_line}
use Rattle.fuxi_io.proofs.telling.report.Goals as goal

pub returns-in-Usage-clause-err : goal.returns-in-Usage-clause-err
returns-in-Usage-clause-err g c = rw c.in-Usage.is c.write_all_of.ensures.err

pub returns-in-BadInput-clause-err : goal.returns-in-BadInput-clause-err
returns-in-BadInput-clause-err g c =
    rw c.in-BadInput.is (subst (λ l. OnErr c.write_pieces.result (TakesPart (g.E.Sink.took c.args.err.now) (g.E.Sink.took c.write_pieces.new.out) l))
    (bad_input_line c.args.usage.now _ _ _ _ c.in-BadInput.line c.in-BadInput.fault (c.as_bytes.ensures.value ∙ c.format.ensures.text) (c.as_bytes-in-BadInput.ensures.value ∙ c.fault_name.ensures)
    (ap (λ (l : List ℕ). l ++ c.as_bytes-in-BadInput-3.result.now) c.as_bytes-in-BadInput-2.ensures.value ∙ ap (λ (l : List ℕ). c.fault_value.result.0.now ++ l) c.as_bytes-in-BadInput-3.ensures.value ∙ c.fault_value.ensures)) c.write_pieces.ensures.err)

pub returns-in-ReadFault-clause-ok : goal.returns-in-ReadFault-clause-ok
returns-in-ReadFault-clause-ok g c = rw c.in-ReadFault.is c.write_all_of-in-ReadFault.ensures.ok

pub returns-in-ReadFault-clause-err : goal.returns-in-ReadFault-clause-err
returns-in-ReadFault-clause-err g c = rw c.in-ReadFault.is c.write_all_of-in-ReadFault.ensures.err

pub returns-in-DiskFault-clause-err : goal.returns-in-DiskFault-clause-err
returns-in-DiskFault-clause-err g c = rw c.in-DiskFault.is c.write_all_of-in-DiskFault.ensures.err

pub returns-in-StaleEpoch-clause-ok : goal.returns-in-StaleEpoch-clause-ok
returns-in-StaleEpoch-clause-ok g c = rw c.in-StaleEpoch.is c.write_number.ensures.ok

pub returns-in-StaleEpoch-clause-err : goal.returns-in-StaleEpoch-clause-err
returns-in-StaleEpoch-clause-err g c = rw c.in-StaleEpoch.is c.write_number.ensures.err
