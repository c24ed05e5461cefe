use Rattle.std.proofs.Common.{[], ◌∷◌, ap}
use Rattle.party_ledgers.specs.Entries.{entry_of}
use Rattle.spec_refinement.specs.States.{row_line}
use Rattle.schedule_text.specs.PrintedLines.{line_text}
use Rattle.spec_refinement.proofs.ShowsLemmas.{shows_same, then_ok, one_item}
use Rattle.party_text.proofs.agent.write_row.Goals as goal

pub returns-clause-ok : goal.returns-clause-ok
returns-clause-ok c = let r = c.at-entry.result in let m = c.args.machine.0 in
    then_ok c.write_line.result c.write_line.ensures.ok (λ s e is. shows_same line_text (row_line m (entry_of r) ∷ []) (row_line m e ∷ []) c.args.out.now.items c.write_line.new.out.items
    (ap (λ e. row_line m e ∷ []) (one_item _ (entry_of r) e c.at-entry.ensures.entry is)) s)
