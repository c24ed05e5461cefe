use Rattle.std.proofs.Common.{◌≡◌, [], ◌∷◌, ◌++◌, length, sym, ◌∙◌, ap, subst, arith, length-append}
use Rattle.std.specs.Prelude.{slice_get}
use Rattle.fuxi_terms.specs.Cluster.{ClusterRecord}
use Rattle.preempt.specs.MachineRooms.{IsRoom, IsNarrower}
use Rattle.preempt.specs.Shelves.{AreOpen}
use Rattle.preempt.proofs.MachineRoomsLemmas.{each_more, narrower_more}
use Rattle.preempt.proofs.room.rooms_of.Goals as goal

pub room_at-requires-clause-machine : goal.room_at-requires-clause-machine
room_at-requires-clause-machine c =
    let same = ap (λ (x : ClusterRecord). length x.machines) c.cluster.ensures.cluster in
    let a = c.loop-number-test.true in
    let b = c.machines-machines.ensures.number in
    omega (arith, a, b, same)

pub room_at-requires-clause-rows : goal.room_at-requires-clause-rows
room_at-requires-clause-rows c = subst (AreOpen c.args.table.now c.args.need.now c.args.stock.now.holders.now) (sym c.deref.ensures.value) c.in_ok-rows.ensures

pub loop-number-preserved : goal.loop-number-preserved
loop-number-preserved c =
    let t = c.args.table.now in
    let n = c.args.need.now in
    let same = c.requires.resources in
    let before = c.loop-number.each.items in
    let room = c.in_ok-room.room in
    let wide = c.widen.new.widest in
    let long = c.loop-number.invariant.long in
    let pushed : c.push.new.self.items ≡ before ++ room ∷ [] = c.in_ok-push.ensures.items in
    let more = narrower_more n.resources c.loop-number.widest wide room.q c.widen.ensures in
    record {
      long = let a = ap length pushed ∙ length-append before (room ∷ []) in omega (arith, a, long);
      rooms = λ m x e. each_more (λ m x. IsRoom t n.group n.priority n.guaranteed m x.q) before room c.loop-number.invariant.rooms (subst (λ m. IsRoom t n.group n.priority n.guaranteed m room.q) (sym long) c.in_ok-room.ensures) m x (ap (λ xs. slice_get xs m) (sym pushed) ∙ e);
      narrower = λ m x e. each_more (λ m x. IsNarrower n.resources wide x.q) before room (λ m x e. more.1 x.q (c.loop-number.invariant.narrower m x e)) more.0 m x (ap (λ xs. slice_get xs m) (sym pushed) ∙ e);
    }
