use Rattle.std.proofs.Common.{◌≡◌, ◌+◌, ◌<◌, ◌∷◌, Bool, false, length, take, drop, get_or, Some, refl, sym, ◌∙◌, subst, arith, length-set}
use Rattle.fuxi_terms.proofs.Alls.{all_back}
use Rattle.slot_pool.specs.Pools.{value_at}
use Rattle.work_plan.specs.Crews.{IsSquad}
use Rattle.work_plan.specs.declared.squad.Member.{Member}
use Rattle.work_plan.proofs.CrewsLemmas.{goes_on, same_behind, front_stays, rest_stays, all_stay, front_full, front_fails, squad_without, middle_below}
use Rattle.work_plan.proofs.squad.stop_unwanted.Goals as goal
use Rattle.work_plan.proofs.squad.stop_unwanted.Goals.{else-kept-most-via-then-kept-most+else-wanted-member, else-kept-most-via-else-kept-most}

pub bounds-wanted-member : goal.bounds-wanted-member
bounds-wanted-member c =
    let now = c.loop-index.members.items in
    let v = c.loop-index.invariant in
    let lt : c.loop-index.index < length c.args.members.now.items = omega (arith, c.loop-index-test.true, c.len-index-end.ensures) in
    middle_below c.loop-index.pool (take c.loop-index.kept now) c.index-member.result.now (drop (c.loop-index.index + 1) now)
    (subst (IsSquad c.loop-index.pool) (goes_on (λ m. get_or c.args.wanted.now m.worker false) c.args.members.now.items now c.loop-index.kept c.loop-index.index c.args.most c.index-member.result.now v.front v.rest v.behind v.long lt c.index-member.ensures) v.squad)

pub loop-index-preserved-then-wanted-member : goal.loop-index-preserved-then-wanted-member
loop-index-preserved-then-wanted-member c =
    let p : Member → Bool = λ m. get_or c.args.wanted.now m.worker false in
    let old = c.args.members.now.items in
    let now = c.loop-index.members.items in
    let k = c.loop-index.kept in
    let i = c.loop-index.index in
    let m = c.index-member.result.now in
    let v = c.loop-index.invariant in
    let lt : i < length old = omega (arith, c.loop-index-test.true, c.len-index-end.ensures) in
    record {
      front = front_stays p old now k i c.args.most m v.front v.rest v.behind v.long lt c.index-member.ensures c.if-wanted-member.true c.if-kept-most.true;
      rest = rest_stays p old now k i c.args.most m v.front v.rest v.behind v.long lt c.index-member.ensures;
      behind = omega (arith, v.behind);
      few = omega (arith, c.if-kept-most.true);
      long = length-set now k m ∙ v.long;
      squad = subst (IsSquad c.loop-index.pool) (sym (all_stay p old now k i c.args.most m v.front v.rest v.behind v.long lt c.index-member.ensures)) v.squad;
      capacity = v.capacity;
    }

pub take-requires : goal.take-requires
take-requires c =
    let now = c.loop-index.members.items in
    let v = c.loop-index.invariant in
    let lt : c.loop-index.index < length c.args.members.now.items = omega (arith, c.loop-index-test.true, c.len-index-end.ensures) in
    let s = subst (IsSquad c.loop-index.pool) (goes_on (λ m. get_or c.args.wanted.now m.worker false) c.args.members.now.items now c.loop-index.kept c.loop-index.index c.args.most c.index-member.result.now v.front v.rest v.behind v.long lt c.index-member.ensures) v.squad in
    let placed = (all_back (λ (m : Member). value_at c.loop-index.pool m.slot ≡ Some m.worker) (take c.loop-index.kept now) (c.index-member.result.now ∷ drop (c.loop-index.index + 1) now) s.placed).0 in
    rw placed refl

pub loop-index-preserved : goal.loop-index-preserved
loop-index-preserved c =
    let p : Member → Bool = λ m. get_or c.args.wanted.now m.worker false in
    let old = c.args.members.now.items in
    let now = c.loop-index.members.items in
    let k = c.loop-index.kept in
    let i = c.loop-index.index in
    let m = c.index-member.result.now in
    let v = c.loop-index.invariant in
    let lt : i < length old = omega (arith, c.loop-index-test.true, c.len-index-end.ensures) in
    record {
      front = elim c.else-kept-most.branch [
        | else-kept-most-via-then-kept-most+else-wanted-member w ↦ front_fails p old now k i c.args.most m v.front v.rest v.behind v.long lt c.index-member.ensures w.if-wanted-member.false
        | else-kept-most-via-else-kept-most w ↦ front_full p old now k i c.args.most m v.front v.rest v.behind v.long lt c.index-member.ensures w.if-kept-most.false
      ];
      rest = same_behind p old now k i c.args.most m v.front v.rest v.behind v.long lt c.index-member.ensures;
      behind = omega (arith, v.behind);
      few = v.few;
      long = v.long;
      squad = squad_without c.loop-index.pool c.take.new.self m.slot c.take.ensures.others (take k now) (drop (i + 1) now) m.worker
          (subst (IsSquad c.loop-index.pool) (goes_on p old now k i c.args.most m v.front v.rest v.behind v.long lt c.index-member.ensures) v.squad) c.take.ensures.spare;
      capacity = v.capacity;
    }
