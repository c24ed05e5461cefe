use Rattle.std.proofs.Common.{◌≡◌, ℕ, List, length, sym, subst, arith}
use Rattle.std.specs.Borrow.{Bor}
use Rattle.fuxi_terms.specs.Tables.{spot}
use Rattle.preempt.specs.Shelves.{IsWalked}
use Rattle.fuxi_terms.proofs.MovesLemmas.{every}
use Rattle.preempt.proofs.ShelvesLemmas.{none_open}
use Rattle.preempt.proofs.room.room_at.Goals as goal

pub has_any_on-requires : goal.has_any_on-requires
has_any_on-requires c = λ k d lt.
    let wide = every (λ (row : Bor (List ℕ)). length row.now ≡ length c.args.table.now.cluster.machines) c.args.rows.now k d lt c.requires.rows.wide in
    let there = c.requires.machine in
    omega (arith, wide, there)

pub returns-then-not-has_any_on : goal.returns-then-not-has_any_on
returns-then-not-has_any_on c = record {
  beyond = λ a u i group priority guaranteed lt more.
      let s = spot a u c.args.machine.0 in
      none_open c.args.table.now c.args.stock.now.holders.now c.requires.stock.holders s
      (c.requires.rows.shut s (record { group = group; priority = priority; guaranteed = guaranteed }) (c.has_any_on.ensures c.if-not-has_any_on.true));
}

pub room_among-requires-clause-entries : goal.room_among-requires-clause-entries
room_among-requires-clause-entries c = subst (IsWalked c.args.table.now c.args.machine.0) (sym c.deref.ensures.value) c.in_ok-entries.ensures
