use Rattle.std.proofs.Common.{◌≡◌, ℕ, cond, nat_eq, ◌∙◌, ap, arith}
use Rattle.std.specs.Prelude.{◌&&◌}
use Rattle.fuxi_terms.specs.Cluster.{rack_of}
use Rattle.place_pass.specs.Bounds.{mark_at, taken_mark, after_taking}
use Rattle.place_pass.proofs.CellsMatchTable.{rack_is}
use Rattle.place_pass.proofs.NotedMarksLemmas.{done_next, left_next}
use Rattle.place_pass.proofs.marks.told.take_on_each.Goals as goal

pub take-requires : goal.take-requires
take-requires c =
    let long = c.loop-number.invariant.long in
    let test = c.loop-number-test.true in
    let end = c.machines-number-end.ensures.number in
    let q = c.requires.marks in
    omega (arith, test, end, long, q)

pub loop-number-preserved : goal.loop-number-preserved
loop-number-preserved c =
    let i = c.loop-number.invariant in
    let cl = c.args.cluster.now in
    let n = c.loop-number.number in
    let before = c.loop-number.marks in
    let rack : c.machine.result.now.rack.0 ≡ rack_of cl c.args.machine.0 = rack_is cl.machines c.args.machine.0 c.machine.result.now c.machine.ensures in
    let is = λ (m : ℕ). c.take.ensures.marks m ∙ ap (λ b. cond (nat_eq n m) (taken_mark (nat_eq n c.args.machine.0) c.args.group.0 b (mark_at before n)) (mark_at before m))
    (c.is_nearer_on-near.ensures ∙ ap (λ r. c.args.nearer && nat_eq (rack_of cl n) r) rack) in
    record {
      long = c.take.ensures.long ∙ i.long;
      done = done_next (after_taking cl c.args.group.0 c.args.machine.0 c.args.nearer) c.args.marks.now before c.take.new.self n is i.left i.done;
      left = left_next (after_taking cl c.args.group.0 c.args.machine.0 c.args.nearer) c.args.marks.now before c.take.new.self n is i.left;
    }
