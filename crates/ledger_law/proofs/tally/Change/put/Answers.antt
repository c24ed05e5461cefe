use Rattle.std.proofs.Common.{◌≡◌, subst, sym}
use Rattle.std.specs.List.{All}
use Rattle.std.specs.Int.{w64}
use Rattle.std.specs.declared.cmp.Ordering.TheVariants.{Less}
use Rattle.std.proofs.lemmas.Int.{to_z-of_z}
use Rattle.fuxi_terms.specs.Keys.{key_cmp}
use Rattle.fuxi_terms.proofs.OneChangeMore.{changes_push}
use Rattle.ledger_law.proofs.tally.Change.put.Goals.{in-Ok, in-Err}
use Rattle.ledger_law.proofs.tally.Change.put.Goals as goal

pub invariant_of-self : goal.invariant_of-self
invariant_of-self c = elim c.match-push.branch [
  | in-Ok w ↦
      let rises : All (λ e. key_cmp e.0 c.args.key ≡ Less) c.self.inside.entries.items = subst (λ v. All (λ e. key_cmp e.0 c.args.key ≡ Less) v.entries) (sym c.self.view_is) c.requires.rises in
      rw (w.in-Ok.ensures.ok, to_z-of_z w64 c.args.change c.ranges.change) (changes_push key_cmp c.self.inside.entries.items c.args.key c.args.change c.self.invariant c.requires.real rises)
  | in-Err w ↦ rw w.in-Err.ensures.err c.self.invariant
]
