use Rattle.std.proofs.Common.{◌≡◌, sym, ◌∙◌, subst}
use Rattle.fuxi_master.specs.Cores.{MasterRecord, StandsFor}
use Rattle.master_desk.proofs.run.run_all.Goals as goal

pub returns-in-Ok-take_left-clause-runs : goal.returns-in-Ok-take_left-clause-runs
returns-in-Ok-take_left-clause-runs g c r s =
    let named = c.in-Ok-run_named.ensures.opening_is in
    let same : c.in-Ok-run_named.book.opening ≡ c.in-Ok.book.opening = cc in
    c.master-master.ensures.runs r (subst (λ (m : MasterRecord). StandsFor m.core r) (sym (c.in-Ok-take_left.ensures.same.opening ∙ same ∙ c.in-Ok.ensures.opening)) s)
