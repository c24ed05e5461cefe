use Rattle.std.proofs.Common.{◌≡◌, arith, nat_eq, false, ap, ◌∙◌, sym}
use Rattle.std.proofs.lemmas.Bool.Decides.{nat_tests}
use Rattle.fuxi_terms.specs.Keys.{key_cmp}
use Rattle.fuxi_terms.specs.Counts.{count}
use Rattle.ledger_law.specs.Shapes.{kept_under}
use Rattle.ledger_law.proofs.KeptUnder.{gone, stays}
use Rattle.ledger_law.proofs.tally.kept_at.Goals.{else-not-same-via-then-not-same+else-key-dropped, else-not-same-via-else-not-same}
use Rattle.ledger_law.proofs.tally.kept_at.Goals as goal

pub returns-then-key-dropped : goal.returns-then-key-dropped
returns-then-key-dropped c = gone c.args.same c.args.dropped c.args.entries.now c.args.key.now c.if-not-same.true c.if-key-dropped.true

pub returns-else-not-same : goal.returns-else-not-same
returns-else-not-same c = elim c.else-not-same.branch [
  | else-not-same-via-then-not-same+else-key-dropped w ↦
      let differs : nat_eq c.args.key.now.what c.args.dropped ≡ false = grind (arith, nat_tests, w.if-key-dropped.false) in
      c.count_of.ensures ∙ stays c.args.dropped c.args.entries.now c.args.key.now differs ∙ ap (λ b. count key_cmp (kept_under b c.args.dropped c.args.entries.now) c.args.key.now) (sym w.if-not-same.true)
  | else-not-same-via-else-not-same w ↦ c.count_of.ensures ∙ ap (λ b. count key_cmp (kept_under b c.args.dropped c.args.entries.now) c.args.key.now) (sym w.if-not-same.false)
]
