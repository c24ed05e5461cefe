use Rattle.std.proofs.Common.{cond, get_or, false, ◌∙◌, ap}
use Rattle.std.specs.Option.{option_map}
use Rattle.place_pass.specs.Bounds.{MarkRecord, rank_of, mark_of, mark_at, bounded_mark}
use Rattle.place_pass.proofs.NotedMarksLemmas.{noted_set, clear_set, clear_there, lent_there, lent_mark, written_mark, written_here}
use Rattle.place_pass.proofs.marks.Marks.set_bound.Goals as goal

pub invariant_of-self : goal.invariant_of-self
invariant_of-self c =
    let n = c.args.machine in
    let items = c.self.inside.marks.items in
    let bound = option_map rank_of c.args.bound in (
      noted_set items n c.set_bound.new.self c.self.inside.keys c.put.new.self c.number_of_mark-key.result c.self.inside.until c.put.ensures (lent_there items c.args.self.now c.self.view_is n c.requires) c.self.invariant.0 c.number_of_mark-key.ensures.above c.number_of_mark-key.ensures.never,
      clear_set items c.args.self.now c.self.view_is n c.requires c.set_bound.new.self c.self.inside.noted c.self.inside.noted c.self.invariant.1 (λ e. e) (λ e g.
          let groups = c.set_bound.ensures ∙ ap (bounded_mark bound c.args.turns) (lent_mark items c.args.self.now c.self.view_is n c.requires c.index_mut-mark.result.now c.index_mut-mark.ensures.value) in
          ap (λ (k : MarkRecord). get_or k.groups g false) groups ∙ clear_there items c.args.self.now c.self.view_is n c.requires c.self.inside.noted c.self.invariant.1 e g),
    )

pub returns-clause-here : goal.returns-clause-here
returns-clause-here c =
    let n = c.args.machine in
    let items = c.self.inside.marks.items in
    written_here items c.args.self.now c.self.view_is n c.requires c.set_bound.new.self
    ∙ c.set_bound.ensures ∙ ap (bounded_mark (option_map rank_of c.args.bound) c.args.turns) (lent_mark items c.args.self.now c.self.view_is n c.requires c.index_mut-mark.result.now c.index_mut-mark.ensures.value)

pub returns-clause-others : goal.returns-clause-others
returns-clause-others c m other = written_mark c.self.inside.marks.items c.args.self.now c.self.view_is c.args.machine c.requires c.set_bound.new.self m ∙ ap (λ t. cond t (mark_of c.set_bound.new.self) (mark_at c.args.self.now m)) other
