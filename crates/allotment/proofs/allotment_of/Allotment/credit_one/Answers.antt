use Rattle.std.proofs.Common.{◌≡◌, ℕ, ◌-◌, min, ◌<◌, ◌≤◌, length, ◌∙◌, ap, sym, subst, true, nat_lt, arith}
use Rattle.std.specs.Prelude.{◌&&◌}
use Rattle.fuxi_terms.specs.Jobs.{unit_count}
use Rattle.fuxi_terms.specs.Tables.{held_on}
use Rattle.grant_table.specs.GrantTables.{IsSound, as_known}
use Rattle.allotment.specs.Allotted.{AllotmentRecord}
use Rattle.allotment.proofs.CreditsBackLemmas.{credits_level, credits_passed, credits_taken}
use Rattle.std.proofs.lemmas.Bool.Decides.{nat_tests}
use Rattle.fuxi_terms.proofs.Booleans.{both_true, number_is}
use Rattle.allotment.proofs.allotment_of.Allotment.credit_one.Goals as goal

is_less : (n m : ℕ) → nat_lt n m ≡ true → n < m
is_less n m h = grind (arith, nat_tests)

pub returns-clause-credits : goal.returns-clause-credits
returns-clause-credits c = λ given is.
    let x = c.args.self.now in let k = c.args.key in let a = c.args.app.0 in
    let units = unit_count (as_known x.table.jobs) a in
    let machines = length x.table.cluster.machines in
    let there = both_true (nat_lt k.unit units) (nat_lt k.number machines) (sym c.is_there.ensures ∙ c.if-not-is_there.false) in
    let held : c.held_on-held.result ≡ held_on x.table.entries a k.unit k.number = c.held_on-held.ensures ∙ ap (λ (r : AllotmentRecord). held_on r.table.entries a k.unit k.number) c.self.view_is in
    let fewer = c.min.ensures ∙ ap (λ n. min (c.args.back - c.args.credited) n) c.from.ensures ∙ (λ i. min (c.args.back - is i) (held i)) in
    let t = c.in_ok-take.ensures in
    credits_taken a given k c.args.back c.min.result x c.take.new.self (number_is k.what 5 c.requires.back) (is_less k.unit units there.0) (is_less k.number machines there.1) fewer t.stands t.waits t.touches t.table

pub returns-clause-new : goal.returns-clause-new
returns-clause-new c =
    let x = c.args.self.now in let k = c.args.key in
    let there = both_true (nat_lt k.unit (unit_count (as_known x.table.jobs) c.args.app.0)) (nat_lt k.number (length x.table.cluster.machines)) (sym c.is_there.ensures ∙ c.if-not-is_there.false) in
    let test = c.if-back-credited.false in
    let above : nat_lt c.args.credited c.args.back ≡ true = grind (arith, nat_tests, test) in
    sym (λ i. there.0 i && (there.1 i && above i))

pub returns-then-back-credited-clause-credits : goal.returns-then-back-credited-clause-credits
returns-then-back-credited-clause-credits c = λ given is.
    let x = c.args.self.now in let k = c.args.key in let a = c.args.app.0 in
    let units = unit_count (as_known x.table.jobs) a in
    let machines = length x.table.cluster.machines in
    let there = both_true (nat_lt k.unit units) (nat_lt k.number machines) (sym c.is_there.ensures ∙ c.if-not-is_there.false) in
    let sound = subst (λ (r : AllotmentRecord). IsSound r.table) c.self.view_is c.is_sound.ensures in
    credits_level a given k c.args.back x (number_is k.what 5 c.requires.back) (is_less k.unit units there.0) (is_less k.number machines there.1) (subst (λ n. c.args.back ≤ n) is c.if-back-credited.true) c.requires.waits sound.counts

pub returns-then-not-is_there-clause-credits : goal.returns-then-not-is_there-clause-credits
returns-then-not-is_there-clause-credits c = λ given is. credits_passed c.args.app.0 given c.args.key c.args.back c.args.self.now c.requires.waits (sym c.is_there.ensures ∙ c.if-not-is_there.true)
