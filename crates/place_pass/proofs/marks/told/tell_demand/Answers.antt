use Rattle.std.proofs.Common.{◌≡◌, ℕ, ◌<◌, false, cond, nat_eq, [], length, get_or, sym, ◌∙◌, ap, subst, arith, inl, inr}
use Rattle.std.proofs.lemmas.Bool.{cases_lt}
use Rattle.std.proofs.lemmas.Bool.Decides.{nat_tests}
use Rattle.fuxi_terms.proofs.Booleans.{nat_itself}
use Rattle.place_pass.specs.Bounds.{MarkRecord, mark_of, mark_at, reset_mark, lowered_mark}
use Rattle.place_pass.specs.Candidates.{IsAsked}
use Rattle.place_pass.proofs.marks.told.tell_demand.Goals as goal

pub returns-then-not-lifts_any-clause-marks : goal.returns-then-not-lifts_any-clause-marks
returns-then-not-lifts_any-clause-marks c m l = record {
  lifted = false;
  is = c.lower_all.ensures.marks m l;
  some = λ e. cc;
  none = λ _. c.lifts_any.ensures c.if-not-lifts_any.true m (subst (λ n. m < n) c.requires.long l);
}

lesser : (n long first machines end there : ℕ) → n < end → end ≡ machines → first ≡ there → long ≡ first → machines ≡ there → n < long
lesser n long first machines end there a b d e f = omega (arith, a, b, d, e, f)

pub at-requires : goal.at-requires
at-requires c = let long = c.loop-number.invariant.long in let test = c.loop-number-test.true in let end = c.machines-number-end.ensures.number in lesser c.loop-number.number (length c.loop-number.marks) _ _ _ _ test end c.requires.long long (ap (λ (k : _). length k.machines) c.cluster.ensures.cluster)

pub put-requires : goal.put-requires
put-requires c = let long = c.loop-number.invariant.long in let test = c.loop-number-test.true in let end = c.machines-number-end.ensures.number in lesser c.loop-number.number (length c.loop-number.marks) _ _ _ _ test end c.requires.long long (ap (λ (k : _). length k.machines) c.cluster.ensures.cluster)

pub loop-number-preserved : goal.loop-number-preserved
loop-number-preserved c =
    let i = c.loop-number.invariant in
    let first = c.args.marks.now in
    let before = c.loop-number.marks in
    let after = c.put.new.self in
    let es = c.args.demand.now.entries in
    let xs = get_or c.args.wishes.now.cells c.args.app.0 [] in
    let n = c.loop-number.number in
    let old : mark_of c.at.result.now ≡ mark_at first n = c.at.ensures ∙ i.left n (omega arith) in
    let new = c.ask.ensures ∙ ap (λ (k : MarkRecord). cond c.lifts-lifted.result (reset_mark k.until) (lowered_mark k)) old in
    let other : (m : ℕ) → nat_eq n m ≡ false → mark_at after m ≡ mark_at before m = λ m f. c.put.ensures.marks m ∙ ap (λ t. cond t (mark_of c.ask.new.self) (mark_at before m)) f in
    record {
      long = c.put.ensures.long ∙ i.long;
      done = λ m l. elim (cases_lt m n) [
        | inl less ↦ subst (IsAsked es xs m (mark_at first m)) (sym (other m (grind (arith, nat_tests, less)))) (i.done m less)
        | inr ge ↦ subst (λ z. IsAsked es xs z (mark_at first z) (mark_at after z)) (omega (arith, l, ge)) (record {
          lifted = c.lifts-lifted.result;
          is = c.put.ensures.marks n ∙ ap (λ t. cond t (mark_of c.ask.new.self) (mark_at before n)) (nat_itself n) ∙ new;
          some = c.lifts-lifted.ensures.some;
          none = c.lifts-lifted.ensures.none;
        })
      ];
      left = λ m l. other m (grind (arith, nat_tests, l)) ∙ i.left m (omega (arith, l));
    }
