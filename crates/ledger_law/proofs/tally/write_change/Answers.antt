use Rattle.std.proofs.Common.{◌≡◌, ◌<◌, ◌≤◌, ◌++◌, List, ◌∷◌, [], get_or, length, refl, sym, ◌∙◌, ap, arith, rules}
use Rattle.std.specs.Prelude.{ℤ, pos}
use Rattle.std.specs.Int.{cast_unsigned, to_be_bytes, w16, w64}
use Rattle.std.proofs.lemmas.Int.{to_z-of_z}
use Rattle.fuxi_terms.specs.declared.Key.{Key}
use Rattle.ledger_law.specs.Forms.{change_entry, headed}
use Rattle.ledger_law.proofs.tally.write_change.Goals as goal

single : {E : Type 0} (es : List E) (d : E) → 1 ≤ length es → length es < 2 → es ≡ get_or es 0 d ∷ []
single [] d some few = absurd (omega (arith, some))
single (e ∷ []) d some few = refl
single (e ∷ f ∷ es) d some few = absurd (omega (arith, few))

pub returns-clause-ok : goal.returns-clause-ok
returns-clause-ok c =
    let none : Key × ℤ = (record { what = 0; unit = 0; number = 0 }, pos 0) in
    let entry : Key × ℤ = get_or c.args.entries.now 0 none in
    let fits = c.requires.entries 0 none c.in-len1.len_at_least in
    let number : c.to_be_bytes.result ≡ to_be_bytes w16 entry.0.number = search rules in
    let value : c.cast_unsigned.result ≡ cast_unsigned w64 entry.1 = c.cast_unsigned.ensures ∙ ap (cast_unsigned w64) (to_z-of_z w64 entry.1 fits.value) in
    let bytes : c.as_flattened.result.now ≡ headed change_entry c.args.head (entry ∷ []) = rw (c.to_be_bytes-2.ensures, number, c.to_be_bytes-3.ensures, value) at c.as_flattened.ensures.value in
    c.in_ok-extend_from_slice.ensures.items ∙ ap (λ bs. c.args.out.now.items ++ bs) (bytes ∙ ap (headed change_entry c.args.head) (sym (single c.args.entries.now none c.in-len1.len_at_least c.in-len1.len_below)))
