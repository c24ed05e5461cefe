use Rattle.std.proofs.Common.{◌≡◌, ℕ, ◌+◌, ◌-◌, ◌<◌, ◌≤◌, ◌∷◌, ◌++◌, [], Bool, false, true, length, take, get_or, refl, sym, ◌∙◌, ap, subst, arith, List}
use Rattle.fuxi_terms.specs.declared.Key.{Key}
use Rattle.fuxi_terms.specs.Numbers.{has_number}
use Rattle.work_plan.specs.PlanKeys.{most_workers}
use Rattle.work_plan.specs.RunAfter.{missing}
use Rattle.work_plan.specs.Crews.{workers_of, numbers_of, AreNumbers, Marks, Starts, IsSquad}
use Rattle.work_plan.specs.declared.squad.Member.{Member}
use Rattle.work_plan.proofs.CrewsLemmas.{mapped_get, front_more, later_apart, starts_full, starts_known, starts_one, not_started, squad_has_room, squad_with}
use Rattle.work_plan.proofs.squad.start_missing.Goals as goal

abbrev none : Key × ℕ
none = (record { what = 0; unit = 0; number = 0 }, 0)

abbrev number_is : Key × ℕ → ℕ
number_is e = e.0.number

-- a named worker whose mark is not set: its number is one that workers have, and nobody of it runs, neither before nor now
record RunsNowhere (old now : List Member) (x : ℕ) : Type 0 where
  pub within : x < most_workers
  pub free : has_number x (workers_of old) ≡ false
  pub apart : has_number x (workers_of now) ≡ false

runs_nowhere : (old now : List Member) (es : List (Key × ℕ)) (i most : ℕ) → i < length es → AreNumbers es → Starts old now (take (most - length old) (missing (workers_of old) (numbers_of (take i es)))) → (taken : List Bool) → Marks taken (workers_of old)
    → get_or taken (get_or es i none).0.number false ≡ false → RunsNowhere old now (get_or es i none).0.number
runs_nowhere old now es i most test rise starts taken marks off =
    let x = (get_or es i none).0.number in
    let lt = mapped_get (λ n. n < most_workers) number_is es i none test rise.within in
    let free = sym (marks.each x lt) ∙ off in
    record {
      within = lt;
      free = free;
      apart = not_started old now (workers_of old) (numbers_of (take i es)) most starts x refl free (later_apart number_is es i none test rise.distinct);
    }

pub loop-key-preserved-then-len-most : goal.loop-key-preserved-then-len-most
loop-key-preserved-then-len-most c =
    let old = c.args.members.now.items in
    let es = c.args.wanted.now in
    let i = c.loop-key.key-index in
    let enough : c.args.most ≤ length c.loop-key.members.items = omega (arith, c.if-len-most.true, c.len.ensures) in
    record {
      squad = c.loop-key.invariant.squad;
      starts = subst (λ ns. Starts old c.loop-key.members.items (take (c.args.most - length old) (missing (workers_of old) ns))) (sym (front_more number_is es i none c.loop-key-test.true))
          (starts_full old c.loop-key.members.items (workers_of old) (numbers_of (take i es)) c.args.most c.loop-key.invariant.starts (get_or es i none).0.number enough);
      capacity = c.loop-key.invariant.capacity;
    }

pub loop-key-preserved-then-taken-key : goal.loop-key-preserved-then-taken-key
loop-key-preserved-then-taken-key c =
    let old = c.args.members.now.items in
    let es = c.args.wanted.now in
    let i = c.loop-key.key-index in
    let x = (get_or es i none).0.number in
    let lt = mapped_get (λ n. n < most_workers) number_is es i none c.loop-key-test.true c.requires.rise.within in
    let marked : has_number x (workers_of old) ≡ true = ap (λ ms. has_number x (workers_of ms)) (sym c.deref.ensures.value) ∙ sym (c.taken_of-taken.ensures.each x lt) ∙ c.if-taken-key.true in
    record {
      squad = c.loop-key.invariant.squad;
      starts = subst (λ ns. Starts old c.loop-key.members.items (take (c.args.most - length old) (missing (workers_of old) ns))) (sym (front_more number_is es i none c.loop-key-test.true))
          (starts_known old c.loop-key.members.items (workers_of old) (numbers_of (take i es)) c.args.most c.loop-key.invariant.starts x marked);
      capacity = c.loop-key.invariant.capacity;
    }

pub bounds-taken-key : goal.bounds-taken-key
bounds-taken-key c = mapped_get (λ n. n < most_workers) number_is c.args.wanted.now c.loop-key.key-index none c.loop-key-test.true c.requires.rise.within

pub put-slot-requires : goal.put-slot-requires
put-slot-requires c =
    let old = c.args.members.now.items in
    let es = c.args.wanted.now in
    let i = c.loop-key.key-index in
    let x = (get_or es i none).0.number in
    let a = runs_nowhere old c.loop-key.members.items es i c.args.most c.loop-key-test.true c.requires.rise c.loop-key.invariant.starts c.taken_of-taken.result (subst (λ ms. Marks c.taken_of-taken.result (workers_of ms)) c.deref.ensures.value c.taken_of-taken.ensures) c.if-taken-key.false in
    (squad_has_room c.loop-key.pool c.loop-key.members.items x c.loop-key.invariant.squad a.apart a.within).0

pub push_reserved-requires : goal.push_reserved-requires
push_reserved-requires c =
    let old = c.args.members.now.items in
    let es = c.args.wanted.now in
    let i = c.loop-key.key-index in
    let x = (get_or es i none).0.number in
    let a = runs_nowhere old c.loop-key.members.items es i c.args.most c.loop-key-test.true c.requires.rise c.loop-key.invariant.starts c.taken_of-taken.result (subst (λ ms. Marks c.taken_of-taken.result (workers_of ms)) c.deref.ensures.value c.taken_of-taken.ensures) c.if-taken-key.false in
    let room = (squad_has_room c.loop-key.pool c.loop-key.members.items x c.loop-key.invariant.squad a.apart a.within).1 in
    omega (arith, room, c.requires.capacity, c.loop-key.invariant.capacity, c.len.ensures)

pub loop-key-preserved : goal.loop-key-preserved
loop-key-preserved c =
    let old = c.args.members.now.items in
    let es = c.args.wanted.now in
    let i = c.loop-key.key-index in
    let x = (get_or es i none).0.number in
    let a = runs_nowhere old c.loop-key.members.items es i c.args.most c.loop-key-test.true c.requires.rise c.loop-key.invariant.starts c.taken_of-taken.result (subst (λ ms. Marks c.taken_of-taken.result (workers_of ms)) c.deref.ensures.value c.taken_of-taken.ensures) c.if-taken-key.false in
    let fewer : length c.loop-key.members.items < c.args.most = omega (arith, c.if-len-most.false, c.len.ensures) in
    let m : Member = record { worker = x; slot = c.put-slot.result } in
    record {
      squad = subst (IsSquad c.put-slot.new.self) (sym c.push_reserved.ensures.items)
          (squad_with c.loop-key.pool c.put-slot.new.self c.put-slot.result c.put-slot.ensures.others c.loop-key.members.items x c.loop-key.invariant.squad c.put-slot.ensures.absent c.put-slot.ensures.put c.put-slot.ensures.spare a.apart a.within);
      starts = subst (λ ms. Starts old ms (take (c.args.most - length old) (missing (workers_of old) (numbers_of (take (i + 1) es))))) (sym c.push_reserved.ensures.items)
          (subst (λ ns. Starts old (c.loop-key.members.items ++ m ∷ []) (take (c.args.most - length old) (missing (workers_of old) ns))) (sym (front_more number_is es i none c.loop-key-test.true))
          (starts_one old c.loop-key.members.items (workers_of old) (numbers_of (take i es)) c.args.most c.loop-key.invariant.starts x a.free fewer c.put-slot.result));
      capacity = omega (arith, c.push_reserved.ensures.capacity, c.loop-key.invariant.capacity);
    }
