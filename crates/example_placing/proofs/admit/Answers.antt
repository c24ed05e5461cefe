use Rattle.std.proofs.Common.{◌≡◌, false, nat_lt, refl, sym, ap, ◌∙◌, arith}
use Rattle.std.specs.Prelude.{Option, Some, None, is_some}
use Rattle.std.specs.Option.{option_map}
use Rattle.std.proofs.lemmas.Bool.Decides.{nat_tests}
use Rattle.fuxi_terms.specs.Jobs.{KnownJob, job_of, is_known}
use Rattle.grant_table.specs.GrantTables.{as_known}
use Rattle.example_placing.proofs.admit.Goals as goal

none_there : {A B : Type 0} (f : A → B) (o : Option A) → is_some o ≡ false → option_map f o ≡ None
none_there f None h = refl
none_there f (Some x) h = cc

pub admit-requires-2 : goal.admit-requires-2
admit-requires-2 c =
    let jobs = as_known c.args.table.now.jobs in
    let few = c.if-units-gt0.false in
    let none : nat_lt 0 c.units.result ≡ false = grind (arith, nat_tests, few) in
    let fresh : is_known jobs c.args.job.now.number ≡ false = ap (is_known jobs) (sym c.app.ensures.number) ∙ c.units.ensures.known ∙ none in
    record { new = c.levels.ensures.jobs c.args.placer.now c.args.table.now c.args.job.now.number c.requires ∙ none_there (λ (k : KnownJob). k.job) (job_of jobs c.args.job.now.number) fresh }
