use Rattle.std.proofs.Common.{[], ◌∷◌, refl}
use Rattle.place_pass.proofs.search.order.is_earlier_here.Goals as goal

pub returns : goal.returns
returns c =
    let rank = c.args.rank.now in
    let other = c.args.other.now in
    let turn = c.comes_first-by_turn.ensures [] [] refl in
    let level = c.comes_first-by_level.ensures (rank.turn ∷ []) (other.turn ∷ []) turn in
    c.comes_first.ensures (rank.level ∷ rank.turn ∷ []) (other.level ∷ other.turn ∷ []) level
