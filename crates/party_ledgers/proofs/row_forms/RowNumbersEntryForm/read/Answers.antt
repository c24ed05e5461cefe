use Rattle.std.proofs.Common.{◌≡◌, ◌<◌, ◌++◌, ℕ, get_or, sym, ◌∙◌, ap, rules, arith}
use Rattle.std.specs.Int.{to_be_bytes, w32}
use Rattle.std.proofs.lemmas.Nat.{be_bytes_4}
use Rattle.party_ledgers.proofs.row_forms.RowNumbersEntryForm.read.Goals as goal

pub returns-clause-form : goal.returns-clause-form
returns-clause-form c =
    let fits : (k : ℕ) → get_or c.split_at.result.1.now k 0 < 256 = search rules in
    let value : to_be_bytes w32 c.from_be_bytes-count.result ≡ c.split_at.result.1.now = be_bytes_4 c.split_at.result.1.now c.from_be_bytes-count.result (omega (arith, c.split_at.ensures.back_len)) fits c.from_be_bytes-count.ensures in
    ap (λ bs. bs ++ to_be_bytes w32 c.from_be_bytes-count.result) c.read_key.ensures.form
    ∙ ap (λ bs. c.split_at.result.0.now ++ bs) value ∙ sym c.split_at.ensures.by_index.0
