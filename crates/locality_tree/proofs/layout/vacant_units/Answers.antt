use Rattle.std.proofs.Common.{ℕ, ◌∷◌, ◌++◌, [], replicate, List, ap, ◌∙◌, rules}
use Rattle.std.proofs.lemmas.List.{map_push, replicate_more}
use Rattle.std.specs.Global.{Vec}
use Rattle.locality_tree.specs.Layouts.{Places, rows_of}
use Rattle.locality_tree.proofs.layout.vacant_units.Goals as goal

pub loop-preserved : goal.loop-preserved
loop-preserved c =
    let same = c.in_ok-from_elem.ensures.items_if_clones_equal (λ y e. search rules) in
    ap rows_of c.in_ok-push.ensures.items ∙ map_push (λ (v : Vec ℕ). v.items) c.loop.rows.items c.in_ok-from_elem.field-0
    ∙ ap (λ (s : Places ℕ). s ++ c.in_ok-from_elem.field-0.items ∷ []) c.loop.invariant
    ∙ ap (λ (r : List ℕ). replicate c.loop.counter (replicate c.args.places 0) ++ r ∷ []) same
    ∙ replicate_more c.loop.counter (replicate c.args.places 0)
