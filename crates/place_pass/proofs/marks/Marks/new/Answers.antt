use Rattle.std.proofs.Common.{ℕ, false, List, ◌∙◌, ap, map, subst, sym, rules}
use Rattle.std.specs.Prelude.{replicate}
use Rattle.place_pass.specs.Bounds.{MarkRecord, mark_of, reset_mark}
use Rattle.place_pass.specs.NotedMarks.{AreNoted, AreClearUnless}
use Rattle.place_pass.proofs.NotedMarksLemmas.{noted_new, clear_new}
use Rattle.place_pass.proofs.CandidatesLemmas.{marks_repeated}
use Rattle.place_pass.proofs.marks.Marks.new.Goals as goal

pub invariant_of-result : goal.invariant_of-result
invariant_of-result c =
    let marks = ap (map mark_of) (c.in_ok-from_elem.ensures.items_if_clones_equal (λ y e. search rules)) ∙ marks_repeated c.args.machines c.new.result ∙ ap (replicate c.args.machines) c.new.ensures in
    let keys = c.in_ok-new.ensures in
    (subst (λ (ks : List MarkRecord). AreNoted ks c.in_ok-new.field-0 0) (sym marks) (subst (λ (ns : List ℕ). AreNoted (replicate c.args.machines (reset_mark 0)) ns 0) (sym keys) (noted_new c.args.machines c.requires)), subst (λ (ks : List MarkRecord). AreClearUnless ks false) (sym marks) (clear_new c.args.machines))

pub returns : goal.returns
returns c = ap (map mark_of) (c.in_ok-from_elem.ensures.items_if_clones_equal (λ y e. search rules)) ∙ marks_repeated c.args.machines c.new.result ∙ ap (replicate c.args.machines) c.new.ensures
