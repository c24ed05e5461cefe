use Rattle.std.proofs.Common.{[], ◌∷◌, refl}
use Rattle.place_pass.proofs.search.order.is_earlier.Goals as goal

pub returns : goal.returns
returns c =
    let rank = c.args.rank.now in
    let other = c.args.found.now in
    let machine = c.comes_first-by_machine.ensures [] [] refl in
    let turn = c.comes_first-by_turn.ensures (c.args.machine.0 ∷ []) (other.pick.machine.0 ∷ []) machine in
    let level = c.comes_first-by_level.ensures (rank.turn ∷ c.args.machine.0 ∷ []) (other.rank.turn ∷ other.pick.machine.0 ∷ []) turn in
    c.comes_first.ensures (rank.level ∷ rank.turn ∷ c.args.machine.0 ∷ []) (other.rank.level ∷ other.rank.turn ∷ other.pick.machine.0 ∷ []) level
