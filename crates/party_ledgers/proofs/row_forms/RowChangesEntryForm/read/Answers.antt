use Rattle.std.proofs.Common.{◌≡◌, ◌<◌, ◌^◌, ◌++◌, ℕ, get_or, sym, ◌∙◌, ap, rules, arith}
use Rattle.std.specs.Int.{to_be_bytes, from_be_bytes, cast_unsigned, cast_signed, w32, w64}
use Rattle.std.specs.Int.RustNames.{FitsSigned}
use Rattle.std.proofs.lemmas.Nat.{be_bytes_4}
use Rattle.std.proofs.lemmas.Int.{to_z-of_z, of_z-to_z}
use Rattle.party_ledgers.proofs.row_forms.RowChangesEntryForm.read.Goals as goal

pub returns-clause-form : goal.returns-clause-form
returns-clause-form c =
    let bytes = c.split_at.result.1.now in
    let z = c.from_be_bytes-change.result in
    let fits : (k : ℕ) → get_or c.split_at.result.1.now k 0 < 256 = search rules in
    let small : FitsSigned w32 c.from_be_bytes-change.result = record { sfits = c.from_be_bytes-change.type_inv } in
    let large : FitsSigned w64 c.from_be_bytes-change.result = record { sfits = omega (arith, c.from_be_bytes-change.type_inv) } in
    let number = from_be_bytes w32 bytes in
    let number_fits : from_be_bytes w32 c.split_at.result.1.now < 2 ^ 32 = omega (arith, fits 0, fits 1, fits 2, fits 3) in
    let whole : cast_unsigned w32 (cast_signed w64 (cast_unsigned w64 (cast_signed w32 (cast_unsigned w32 z)))) ≡ from_be_bytes w32 bytes =
    ap (λ y. cast_unsigned w32 (cast_signed w64 (cast_unsigned w64 y))) (to_z-of_z w32 z small) ∙ ap (cast_unsigned w32) (to_z-of_z w64 z large)
    ∙ ap (cast_unsigned w32) c.from_be_bytes-change.ensures ∙ of_z-to_z w32 number number_fits in
    let value = be_bytes_4 bytes (cast_unsigned w32 (cast_signed w64 (cast_unsigned w64 (cast_signed w32 (cast_unsigned w32 z))))) (omega (arith, c.split_at.ensures.back_len)) fits whole in
    ap (λ bs. bs ++ to_be_bytes w32 (cast_unsigned w32 (cast_signed w64 (cast_unsigned w64 (cast_signed w32 (cast_unsigned w32 z)))))) c.read_key.ensures.form
    ∙ ap (λ bs. c.split_at.result.0.now ++ bs) value ∙ sym c.split_at.ensures.by_index.0
