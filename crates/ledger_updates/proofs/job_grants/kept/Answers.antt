use Rattle.std.proofs.Common.{◌∙◌, sym}
use Rattle.ledger_updates.proofs.GrantsSetLemmas.{gone, stays}
use Rattle.ledger_updates.proofs.job_grants.kept.Goals as goal

pub returns-then-key-eq-CREDITED : goal.returns-then-key-eq-CREDITED
returns-then-key-eq-CREDITED c = gone c.args.grants.now c.args.boot c.args.key.now (λ e. c.if-boot-head.false (e ∙ sym c.head.ensures)) c.if-key-eq-CREDITED.true

pub returns : goal.returns
returns c = c.get-2.ensures ∙ stays c.args.grants.now c.args.boot c.args.key.now (λ e. c.if-boot-head.false (e ∙ sym c.head.ensures)) c.if-key-eq-CREDITED.false
