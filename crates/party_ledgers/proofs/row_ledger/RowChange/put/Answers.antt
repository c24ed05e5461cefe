use Rattle.std.proofs.Common.{◌≡◌, ◌++◌, ◌∷◌, [], subst, sym, arith, ap, ◌∙◌}
use Rattle.std.specs.Prelude.{T}
use Rattle.std.specs.List.{All}
use Rattle.std.specs.Int.{cast_signed, cast_unsigned, w32, w64}
use Rattle.std.specs.Int.RustNames.{FitsSigned}
use Rattle.std.specs.declared.cmp.Ordering.TheVariants.{Less}
use Rattle.std.proofs.lemmas.Int.{to_z-of_z}
use Rattle.fuxi_terms.specs.Keys.{row_cmp}
use Rattle.fuxi_terms.specs.Rows.{AreRowChanges, row_key}
use Rattle.party_ledgers.proofs.NoRowForm.{row_changes_push}
use Rattle.party_ledgers.proofs.row_ledger.RowChange.put.Goals.{in-Ok, in-Err}
use Rattle.party_ledgers.proofs.row_ledger.RowChange.put.Goals as goal

pub invariant_of-self : goal.invariant_of-self
invariant_of-self c = elim c.match-push.branch [
  | in-Ok w ↦
      let key = row_key c.args.app.0 c.args.unit.0 c.args.size.now.q in
      let large : FitsSigned w64 c.args.change = record { sfits = omega (arith, c.ranges.change.sfits) } in
      let change = ap (λ z. cast_signed w64 (cast_unsigned w64 z)) (to_z-of_z w32 c.args.change c.ranges.change) ∙ to_z-of_z w64 c.args.change large in
      let pushed = w.in-Ok.ensures.items ∙ ap (λ z. c.self.inside.entries.items ++ (key, z) ∷ []) change in
      let rises : All (λ e. row_cmp e.0 key ≡ Less) c.self.inside.entries.items = subst (λ v. All (λ e. row_cmp e.0 key ≡ Less) v) (sym c.self.view_is) c.requires.rises in
      subst (λ cs. AreRowChanges cs) (sym pushed) (row_changes_push c.self.inside.entries.items key c.args.change c.self.invariant (subst T (sym c.requires.key) tt) c.requires.real c.requires.range rises)
  | in-Err w ↦ rw w.in-Err.ensures.items c.self.invariant
]
