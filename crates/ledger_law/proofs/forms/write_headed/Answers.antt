use Rattle.std.proofs.Common.{◌++◌, ◌∙◌, ap, append_assoc}
use Rattle.std.specs.Int.{to_be_bytes, w64}
use Rattle.ledger_law.specs.Forms.{counted}
use Rattle.ledger_law.proofs.forms.write_headed.Goals as goal

pub returns-clause-ok : goal.returns-clause-ok
returns-clause-ok g c =
    let rest = counted g.F.EntryForm.form c.args.entries.now in
    let head = to_be_bytes w64 c.args.head in
    c.put_counted.ensures
    ∙ ap (λ bs. bs ++ rest) (c.append.ensures.items ∙ ap (λ bs. bs ++ c.to_be_bytes.result) c.in_ok-reserve.ensures.items ∙ ap (λ bs. c.args.out.now.items ++ bs) c.to_be_bytes.ensures)
    ∙ append_assoc c.args.out.now.items head rest
