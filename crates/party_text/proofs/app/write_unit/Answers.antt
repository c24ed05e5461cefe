use Rattle.std.proofs.Common.{◌≡◌, ◌+◌, ℕ, Bool, true, false, not, nat_eq, map, filter, length, [], ◌∷◌, ◌++◌, sym, ap, arith}
use Rattle.std.proofs.lemmas.Bool.Decides.{nat_tests}
use Rattle.fuxi_terms.specs.Lists.{below}
use Rattle.spec_roles.specs.Apps.{AppRole, held_by}
use Rattle.spec_refinement.specs.States.{hold_line, unit_lines}
use Rattle.schedule_text.specs.PrintedLines.{line_text}
use Rattle.spec_refinement.proofs.ShowsLemmas.{shows_same, shows_then, begins_then}
use Rattle.party_text.proofs.HeldWalk.{none_more, next_more}
use Rattle.party_text.proofs.app.write_unit.Goals as goal

none_held : (r : AppRole) (u m : ℕ) → held_by r u m ≡ 0 → not (nat_eq (held_by r u m) 0) ≡ false
none_held r u m is = ap (λ n. not (nat_eq n 0)) is

pub overflow_add-from : goal.overflow_add-from
overflow_add-from c =
    let inside = c.in-Some.ensures.core.inside in
    let is = c.machines-machines.ensures in
    let fits = c.machines-machines.type_inv in
    omega (arith, inside, is, fits)

pub loop-machine-preserved : goal.loop-machine-preserved
loop-machine-preserved c =
    let u = c.args.unit.0 in
    let m = c.in-Some.machine.0 in
    let from = c.loop-machine.from in
    let old = c.args.out.now.items in
    let was = c.loop-machine.out.items in
    let new = c.write_hold.new.out.items in
    record {
      within = let inside = c.in-Some.ensures.core.inside in omega (arith, inside);
      shows = λ r stands.
          let held : ℕ → Bool = λ m. not (nat_eq (held_by r u m) 0) in
          let next = c.in-Some.ensures.alone r stands in
          let some : held m ≡ true = (let is = next.number in let positive = next.some in grind (arith, nat_tests, is, positive)) in
          shows_same line_text (map (hold_line r u) (filter held (below from)) ++ hold_line r u m ∷ []) (map (hold_line r u) (filter held (below (m + 1)))) old new
          (sym (next_more held (hold_line r u) from m next.least some (λ n ge lt. none_held r u n (next.between n ge lt))))
          (shows_then line_text (map (hold_line r u) (filter held (below from))) (hold_line r u m ∷ []) old was new (c.loop-machine.invariant.shows r stands) (c.in-Ok.ensures.ok r stands));
      begins = begins_then old was new c.loop-machine.invariant.begins c.write_hold.ensures.begins;
    }

pub returns-clause-ok : goal.returns-clause-ok
returns-clause-ok c = λ r stands.
    let u = c.args.unit.0 in
    let held : ℕ → Bool = λ m. not (nat_eq (held_by r u m) 0) in
    let from = c.loop-machine.from in
    let machines = length r.cluster.machines in
    let all = stands.machines in
    let within = c.loop-machine.invariant.within in
    let none = c.in_default.ensures.alone r stands in
    shows_same line_text (map (hold_line r u) (filter held (below from))) (unit_lines r u) c.args.out.now.items c.loop-machine.out.items
    (ap (map (hold_line r u)) (sym (none_more held from machines (omega (arith, within, all)) (λ n ge lt. none_held r u n (none n ge (omega (arith, lt, all)))))))
    (c.loop-machine.invariant.shows r stands)
