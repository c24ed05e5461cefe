use Rattle.std.proofs.Common.{◌≡◌, ◌≤◌, cond, nat_lt, sym, ◌∙◌, ap, subst, arith}
use Rattle.std.specs.Prelude.{◌&&◌, not}
use Rattle.std.proofs.Math.ListN.{get_or-eq_default}
use Rattle.std.proofs.lemmas.List.{set_past}
use Rattle.fuxi_terms.specs.Counts.{count}
use Rattle.fuxi_terms.specs.Keys.{key_cmp}
use Rattle.locality_tree.specs.PlaceSets.{in_set}
use Rattle.place_pass.specs.Cells.{is_gone, ones_in}
use Rattle.place_pass.proofs.Places.{counted_long}
use Rattle.place_pass.proofs.CellsLemmas.{avoided_once, gone_where, ones_set}
use Rattle.place_pass.proofs.demand.changes.write_avoided.Goals as goal
use Rattle.place_pass.proofs.demand.changes.write_avoided.Goals.{After-set}

pub returns-then-key-machines-clause-numbers : goal.returns-then-key-machines-clause-numbers
returns-then-key-machines-clause-numbers c =
    let long = counted_long (λ m. cond (in_set c.args.avoided.now m) 1 0) c.args.machines in
    let ge = c.if-key-machines.true in
    sym (set_past (ones_in c.args.machines c.args.avoided.now) c.args.key.now.number (count key_cmp c.args.demand.now.entries c.args.key.now) (omega (arith, long, ge)))

pub returns-then-key-machines-clause-gone : goal.returns-then-key-machines-clause-gone
returns-then-key-machines-clause-gone c =
    let long = counted_long (λ m. cond (in_set c.args.avoided.now m) 1 0) c.args.machines in
    let ge = c.if-key-machines.true in
    sym (ap (λ n. is_gone n (count key_cmp c.args.demand.now.entries c.args.key.now)) (get_or-eq_default (ones_in c.args.machines c.args.avoided.now) 0 (omega (arith, long, ge))))

-- what the demand has at the key
at_key : (c : After-set) → c.number_at-now.result ≡ count key_cmp c.args.demand.now.entries c.args.key.now
at_key c = c.number_at-now.ensures ∙ ap (count key_cmp c.args.demand.now.entries) (λ i. record { what = sym c.requires.kind i; unit = c.args.key.now.unit; number = c.args.key.now.number })

pub returns-clause-numbers : goal.returns-clause-numbers
returns-clause-numbers c =
    let lt = c.if-key-machines.false in
    let once = avoided_once c.args.demand.now.entries c.args.key.now.unit c.args.key.now.number c.entries-counts.ensures.counts in
    ones_set c.args.machines c.args.key.now.number (count key_cmp c.args.demand.now.entries c.args.key.now) c.args.avoided.now c.set.new.self (omega (arith, lt))
    (subst (λ x. x ≤ 1) (sym c.number_at-now.ensures ∙ at_key c) once) (c.set.ensures.here ∙ ap (nat_lt 0) (at_key c)) c.set.ensures.others

pub returns-clause-gone : goal.returns-clause-gone
returns-clause-gone c =
    let lt = c.if-key-machines.false in
    ap (λ b. b && not (nat_lt 0 c.number_at-now.result)) c.contains-before.ensures
    ∙ ap (λ x. in_set c.args.avoided.now c.args.key.now.number && not (nat_lt 0 x)) (at_key c)
    ∙ sym (gone_where c.args.machines c.args.key.now.number (count key_cmp c.args.demand.now.entries c.args.key.now) c.args.avoided.now (omega (arith, lt)))
