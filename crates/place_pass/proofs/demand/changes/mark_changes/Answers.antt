use Rattle.std.proofs.Common.{◌≡◌, ◌+◌, ◌<◌, false, cond, nat_eq, [], length, get_or, take, sym, ◌∙◌, ap, subst, arith, inl, inr}
use Rattle.std.proofs.lemmas.Bool.{cases_eq}
use Rattle.std.proofs.lemmas.Bool.Decides.{nat_tests}
use Rattle.std.proofs.lemmas.List.{take_all}
use Rattle.std.proofs.lemmas.Option.{slice_get-get_or}
use Rattle.fuxi_terms.specs.declared.Key.{Key}
use Rattle.fuxi_terms.proofs.Booleans.{nat_itself}
use Rattle.place_pass.specs.Bounds.{MarkRecord, mark_of, mark_at, reset_mark}
use Rattle.place_pass.proofs.DemandScopesLemmas.{no_change}
use Rattle.place_pass.proofs.MarksAtChanges.{IsAskedAt, asked_none, asked_more, asked_lifted, asked_all}
use Rattle.place_pass.proofs.demand.changes.mark_changes.Goals as goal

pub loop-place-init : goal.loop-place-init
loop-place-init c = record {
  long = c.lower_all.ensures.long;
  asked = λ m lt. asked_none c.args.demand.now.entries (get_or c.args.wishes.now.cells c.args.app.0 []) m (mark_at c.args.marks.now m) (mark_at c.lower_all.new.marks m) (c.lower_all.ensures.marks m lt);
}

pub loop-place-preserved-then-not-lifts_at : goal.loop-place-preserved-then-not-lifts_at
loop-place-preserved-then-not-lifts_at c =
    let i = c.loop-place.place in
    let cs = c.args.changes.now in
    record {
      long = c.loop-place.invariant.long;
      asked = λ m lt. asked_more c.args.demand.now.entries (get_or c.args.wishes.now.cells c.args.app.0 []) cs i (get_or cs i no_change) (slice_get-get_or cs i no_change c.loop-place-test.true) m (mark_at c.args.marks.now m) (mark_at c.loop-place.marks m) (c.loop-place.invariant.asked m lt)
          (λ u e l was. c.lifts_at.ensures.none c.if-not-lifts_at.true u m e l was);
    }

pub at-requires : goal.at-requires
at-requires c =
    let lt = c.lifts_at.ensures.machine c.if-not-lifts_at.false in
    let long = c.loop-place.invariant.long in
    let n = c.requires.long in
    omega (arith, lt, long, n)

pub put-requires : goal.put-requires
put-requires c =
    let lt = c.lifts_at.ensures.machine c.if-not-lifts_at.false in
    let long = c.loop-place.invariant.long in
    let n = c.requires.long in
    omega (arith, lt, long, n)

pub loop-place-preserved : goal.loop-place-preserved
loop-place-preserved c =
    let i = c.loop-place.place in
    let cs = c.args.changes.now in
    let es = c.args.demand.now.entries in
    let xs = get_or c.args.wishes.now.cells c.args.app.0 [] in
    let d = get_or cs i no_change in
    let is = slice_get-get_or cs i no_change c.loop-place-test.true in
    let first = c.args.marks.now in
    let now = c.loop-place.marks in
    let after = c.put.new.self in
    let here : mark_at after d.0.number ≡ reset_mark (mark_at now d.0.number).until =
    c.put.ensures.marks d.0.number ∙ ap (λ t. cond t (mark_of c.ask.new.self) (mark_at now d.0.number)) (nat_itself d.0.number) ∙ c.ask.ensures ∙ ap (λ (k : MarkRecord). reset_mark k.until) c.at.ensures in
    record {
      long = c.put.ensures.long ∙ c.loop-place.invariant.long;
      asked = λ m lt. elim (cases_eq m d.0.number) as (λ _. IsAskedAt es xs (take (i + 1) cs) m (mark_at first m) (mark_at after m)) [
        | inl q ↦ subst (λ n. IsAskedAt es xs (take (i + 1) cs) n (mark_at first n) (mark_at after n)) (sym q)
            (asked_lifted es xs cs i d is d.0.number (mark_at first d.0.number) (mark_at now d.0.number) (c.loop-place.invariant.asked d.0.number (subst (λ n. n < length first) q lt)) (mark_at after d.0.number) (c.lifts_at.ensures.some c.if-not-lifts_at.false) here)
        | inr f ↦
            let apart : nat_eq d.0.number m ≡ false = grind (arith, nat_tests, f) in
            subst (IsAskedAt es xs (take (i + 1) cs) m (mark_at first m)) (sym (c.put.ensures.marks m ∙ ap (λ t. cond t (mark_of c.ask.new.self) (mark_at now m)) apart))
            (asked_more es xs cs i d is m (mark_at first m) (mark_at now m) (c.loop-place.invariant.asked m lt) (λ u e l was. absurd (f (sym (ap (λ (k : Key). k.number) e)))))
      ];
    }

pub returns-clause-marks : goal.returns-clause-marks
returns-clause-marks c m lt =
    let es = c.args.demand.now.entries in
    let xs = get_or c.args.wishes.now.cells c.args.app.0 [] in
    let cs = c.args.changes.now in
    asked_all c.args.wishes.now.cluster es xs cs m (mark_at c.args.marks.now m) (mark_at c.loop-place.marks m) c.requires.same (subst (λ n. m < n) c.requires.long lt)
    (subst (λ ds. IsAskedAt es xs ds m (mark_at c.args.marks.now m) (mark_at c.loop-place.marks m)) (take_all c.loop-place.place cs c.loop-place-test.false) (c.loop-place.invariant.asked m lt))
