use Rattle.std.proofs.Common.{◌≡◌, ◌++◌, ◌∙◌, ap}
use Rattle.std.specs.Int.{cast_unsigned, w64}
use Rattle.std.proofs.lemmas.Int.{to_z-of_z}
use Rattle.ledger_law.specs.Forms.{number_entry}
use Rattle.ledger_law.proofs.forms.ChangesEntryForm.write.Goals as goal

pub returns-clause-items : goal.returns-clause-items
returns-clause-items c =
    let value : c.cast_unsigned.result ≡ cast_unsigned w64 c.args.entry.now.1 = c.cast_unsigned.ensures ∙ ap (cast_unsigned w64) (to_z-of_z w64 c.args.entry.now.1 c.requires.entry.value) in
    c.append.ensures.items ∙ ap (λ bs. c.args.out.now.items ++ bs) (c.number_bytes.ensures ∙ ap (λ v. number_entry (c.args.entry.now.0, v)) value)
