use Rattle.std.proofs.Common.{◌∙◌, ◌++◌, ap, subst, OnErr, List, ℕ}
use Rattle.fuxi_io.specs.Causes.{TakesPart}
use Rattle.node_core.specs.NodeTexts.{found_text}
use Rattle.node_core.proofs.Pieces.{done_line, bad_line}
use Rattle.node_core.proofs.text.write_round.Goals as goal

pub returns-in-Done-clause-err : goal.returns-in-Done-clause-err
returns-in-Done-clause-err g c =
    rw c.in-Done.is (subst (λ l. OnErr c.write_pieces.result (TakesPart (g.O.Sink.took c.args.out.now) (g.O.Sink.took c.write_pieces.new.out) l))
    (done_line _ _ c.in-Done.heard c.in-Done.sent (c.as_bytes.ensures.value ∙ c.format.ensures.text) (c.as_bytes-in-Done.ensures.value ∙ c.format-in-Done.ensures.text)) c.write_pieces.ensures.err)

pub returns-in-Fault-clause-ok : goal.returns-in-Fault-clause-ok
returns-in-Fault-clause-ok g c = rw c.in-Fault.is c.write_all_of.ensures.ok

pub returns-in-Fault-clause-err : goal.returns-in-Fault-clause-err
returns-in-Fault-clause-err g c = rw c.in-Fault.is c.write_all_of.ensures.err

pub returns-in-Bad-clause-err : goal.returns-in-Bad-clause-err
returns-in-Bad-clause-err g c =
    rw c.in-Bad.is (subst (λ l. OnErr c.write_pieces-in-Bad.result (TakesPart (g.O.Sink.took c.args.out.now) (g.O.Sink.took c.write_pieces-in-Bad.new.out) l))
    (bad_line _ _ _ _ c.in-Bad.at c.in-Bad.fault (c.as_bytes-in-Bad.ensures.value ∙ c.format-in-Bad.ensures.text) (c.as_bytes-in-Bad-2.ensures.value ∙ c.name.ensures)
    (ap (λ (l : List ℕ). l ++ c.as_bytes-in-Bad-4.result.now) c.as_bytes-in-Bad-3.ensures.value ∙ ap (λ (l : List ℕ). c.found_text.result.0.now ++ l) c.as_bytes-in-Bad-4.ensures.value ∙ c.found_text.ensures ∙ ap found_text c.found.ensures)) c.write_pieces-in-Bad.ensures.err)

pub returns-in-Long-clause-ok : goal.returns-in-Long-clause-ok
returns-in-Long-clause-ok g c = rw c.in-Long.is c.write_all_of-in-Long.ensures.ok

pub returns-in-Long-clause-err : goal.returns-in-Long-clause-err
returns-in-Long-clause-err g c = rw c.in-Long.is c.write_all_of-in-Long.ensures.err
