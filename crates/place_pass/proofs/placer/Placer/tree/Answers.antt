use Rattle.std.proofs.Common.{sym, subst}
use Rattle.place_pass.specs.Placers.{PlacerRecord, IsLevelWith}
use Rattle.place_pass.specs.PlacerTrees.{TreeOf}
use Rattle.place_pass.proofs.placer.Placer.tree.Goals as goal

pub returns : goal.returns
unfolding IsLevelWith
returns c =
    let l = subst (λ (p : PlacerRecord). IsLevelWith p c.args.table.now) (sym c.self.view_is) c.requires.level in
    subst (λ (p : PlacerRecord). TreeOf p.seen.cluster p.seen.cells p.seen.line p.kept.turn_of c.args.table.now.entries c.self.inside.tree) c.self.view_is
    (record { waits = c.self.invariant.holds; rises = c.self.invariant.rises; stands = l.stands })
