-- A group uses one grant at least of each of its units that have some.
use Rattle.std.proofs.Common.{◌≡◌, ℕ, zero, suc, ◌+◌, ◌*◌, ◌<◌, ◌≤◌, Bool, true, false, cond, nat_eq, List, [], ◌∷◌, get_or, refl, ◌∙◌, ap, arith}
use Rattle.std.specs.Prelude.{◌&&◌}
use Rattle.std.specs.List.{AllByRecursion}
use Rattle.std.proofs.lemmas.Bool.Decides.{nat_tests}
use Rattle.std.proofs.lemmas.List.Sums.{sum_by-cons}
use Rattle.fuxi_terms.specs.Jobs.{KnownJob, group_of, size_at}
use Rattle.fuxi_terms.specs.Keys.{Spot}
use Rattle.fuxi_terms.specs.Tables.{held, usage_at, Table}
use Rattle.fuxi_terms.proofs.Booleans.{both_true, nat_itself, number_is}
use Rattle.fuxi_terms.proofs.ByPlace.{fits_from}
use Rattle.grant_table.specs.GrantTables.{TableRecord, as_known}
use Rattle.preempt.specs.declared.entry.Entry.{Entry}
use Rattle.preempt.specs.declared.entry.GroupUse.{GroupUse}
use Rattle.preempt.specs.Given.{no_group, IsEntry, AreGroups}
use Rattle.preempt.specs.Shelves.{HoldsSome, IsUsed}
use Rattle.preempt.proofs.CountedAsWritten.{size_is}

held_used : (jobs : List KnownJob) (a u i : ℕ) (es : Table) → 0 < held es a u → size_at jobs a u i ≤ usage_at jobs (group_of jobs a) i es
held_used jobs a u i [] some = absurd (let x : ⊥ = omega (arith, some) in x)
held_used jobs a u i (e ∷ es) some = by (nat_eq e.0.job a && nat_eq e.0.unit u) refl e.1 refl (held_used jobs a u i es)
  where
    count : held (e ∷ es) a u ≡ cond (nat_eq e.0.job a && nat_eq e.0.unit u) e.1 0 + held es a u
    count = sum_by-cons (λ (x : Spot × ℕ). cond (nat_eq x.0.job a && nat_eq x.0.unit u) x.1 0) e es

    here : ℕ
    here = cond (nat_eq (group_of jobs e.0.job) (group_of jobs a)) (e.1 * size_at jobs e.0.job e.0.unit i) 0

    uses : usage_at jobs (group_of jobs a) i (e ∷ es) ≡ here + usage_at jobs (group_of jobs a) i es
    uses = sum_by-cons (λ (x : Spot × ℕ). cond (nat_eq (group_of jobs x.0.job) (group_of jobs a)) (x.1 * size_at jobs x.0.job x.0.unit i) 0) e es

    rest : (0 < held es a u → size_at jobs a u i ≤ usage_at jobs (group_of jobs a) i es) → held (e ∷ es) a u ≡ held es a u → size_at jobs a u i ≤ usage_at jobs (group_of jobs a) i (e ∷ es)
    rest behind same = let le = behind (omega (arith, some, same)) in omega (arith, uses, le)

    by : (b : Bool) → (nat_eq e.0.job a && nat_eq e.0.unit u) ≡ b → (n : ℕ) → e.1 ≡ n → (0 < held es a u → size_at jobs a u i ≤ usage_at jobs (group_of jobs a) i es) → size_at jobs a u i ≤ usage_at jobs (group_of jobs a) i (e ∷ es)
    by false f n is behind =
        let none : cond (nat_eq e.0.job a && nat_eq e.0.unit u) e.1 0 ≡ 0 = ap (λ b. cond b e.1 0) f in
        rest behind (omega (arith, count, none))
    by true t zero is behind =
        let none : cond (nat_eq e.0.job a && nat_eq e.0.unit u) e.1 0 ≡ 0 = λ k. cond (t k) (is k) 0 in
        rest behind (omega (arith, count, none))
    by true t (suc n) is behind =
        let both = both_true (nat_eq e.0.job a) (nat_eq e.0.unit u) t in
        let job = number_is e.0.job a both.0 in
        let unit = number_is e.0.unit u both.1 in
        let own : nat_eq (group_of jobs e.0.job) (group_of jobs a) ≡ true = ap (λ j. nat_eq (group_of jobs j) (group_of jobs a)) job ∙ nat_itself (group_of jobs a) in
        let size = size_at jobs a u i in
        let whole : here ≡ suc n * size = λ k. cond (own k) (is k * size_at jobs (job k) (unit k) i) 0 in
        let least : suc n * size ≡ size + n * size = omega arith in
        omega (arith, uses, whole, least)

pub used_by_holder : (t : TableRecord) (groups : List GroupUse) → AreGroups t groups → (e : Entry) → IsEntry t e → HoldsSome t e → IsUsed groups e
used_by_holder t groups are e h some = fits_from e.size.now.q (get_or groups e.group no_group).used.q (λ i _.
    let size = size_is t e h i in
    let used = (are.each e.group h.small).used i ∙ ap (λ g. usage_at (as_known t.jobs) g i t.entries) h.group in
    let le = held_used (as_known t.jobs) e.app.0 e.unit.0 i t.entries (grind (arith, nat_tests, some)) in
    omega (arith, size, used, le))

pub used_by_holders : (t : TableRecord) (groups : List GroupUse) → AreGroups t groups → (es : List Entry) → AllByRecursion (IsEntry t) es → AllByRecursion (HoldsSome t) es → AllByRecursion (IsUsed groups) es
used_by_holders t groups are [] h some = tt
used_by_holders t groups are (e ∷ es) h some = (used_by_holder t groups are e h.0 some.0, used_by_holders t groups are es h.1 some.1)
