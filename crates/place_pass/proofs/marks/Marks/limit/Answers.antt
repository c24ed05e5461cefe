use Rattle.std.proofs.Common.{◌≡◌, true, false, get_or, cond, nat_eq, refl, sym, ◌∙◌, ap, subst}
use Rattle.fuxi_terms.proofs.Booleans.{number_is}
use Rattle.place_pass.specs.Bounds.{MarkRecord, mark_at, limited_mark}
use Rattle.place_pass.proofs.NotedMarksLemmas.{noted_set, clear_set, clear_there, lent_there, lent_mark, written_mark}
use Rattle.place_pass.proofs.marks.Marks.limit.Goals as goal

pub invariant_of-self : goal.invariant_of-self
invariant_of-self c =
    let items = c.self.inside.marks.items in (
      noted_set items c.args.machine c.limit.new.self c.self.inside.keys c.put.new.self c.number_of_mark-key.result c.self.inside.until c.put.ensures (lent_there items c.args.self.now c.self.view_is c.args.machine c.requires) c.self.invariant.0 c.number_of_mark-key.ensures.above c.number_of_mark-key.ensures.never,
      clear_set items c.args.self.now c.self.view_is c.args.machine c.requires c.limit.new.self c.self.inside.noted c.self.inside.noted c.self.invariant.1 (λ e. e) (λ e g.
          let groups = c.limit.ensures ∙ ap (limited_mark c.args.turns) (lent_mark items c.args.self.now c.self.view_is c.args.machine c.requires c.index_mut-mark.result.now c.index_mut-mark.ensures.value) in
          ap (λ (k : MarkRecord). get_or k.groups g false) groups ∙ clear_there items c.args.self.now c.self.view_is c.args.machine c.requires c.self.inside.noted c.self.invariant.1 e g),
    )

pub returns-clause-marks : goal.returns-clause-marks
returns-clause-marks c m =
    let n = c.args.machine in
    let items = c.self.inside.marks.items in
    written_mark items c.args.self.now c.self.view_is n c.requires c.limit.new.self m
    ∙ ap (λ (k : MarkRecord). cond (nat_eq n m) k (mark_at c.args.self.now m)) (c.limit.ensures ∙ ap (limited_mark c.args.turns) (lent_mark items c.args.self.now c.self.view_is n c.requires c.index_mut-mark.result.now c.index_mut-mark.ensures.value))

pub returns-then-is_within-clause-marks : goal.returns-then-is_within-clause-marks
returns-then-is_within-clause-marks c m =
    let n = c.args.machine in
    let same : limited_mark c.args.turns (mark_at c.args.self.now n) ≡ mark_at c.args.self.now n = subst (λ (k : MarkRecord). limited_mark c.args.turns k ≡ k) c.at.ensures (c.is_within.ensures c.if-is_within.true) in
    elim (nat_eq n m) as (λ t. nat_eq n m ≡ t → mark_at c.args.self.now m ≡ cond t (limited_mark c.args.turns (mark_at c.args.self.now n)) (mark_at c.args.self.now m)) [
      | true ↦ λ t. ap (mark_at c.args.self.now) (sym (number_is n m t)) ∙ sym same
      | false ↦ λ _. refl
    ] refl
