use Rattle.std.proofs.Common.{sym, subst}
use Rattle.master_desk.specs.declared.entry.Words.TheVariants.{Took}
use Rattle.master_desk.specs.Desks.{taken}
use Rattle.master_desk.specs.Books.{IsTaking}
use Rattle.master_desk.proofs.hear.hear_call.Goals as goal

pub returns-in-Ok-clause-hears : goal.returns-in-Ok-clause-hears
returns-in-Ok-clause-hears c r s = subst (λ call. IsTaking c.in-Ok.master (Took c.in-Ok.heard) c.in-Ok.heads (taken r call)) (sym c.in-Whole.is) (c.in-Ok.ensures.hears r s)
