use Rattle.std.proofs.Common.{◌≡◌, ◌/◌, ◌%◌, ◌<◌, ℕ, true, not, length, get_or, set, ap, subst, ◌∙◌, arith}
use lib.Bits.{bit_xor}
use mathlib.Core.Bool.{beq}
use Rattle.locality_tree.specs.PlaceSets.{in_set}
use Rattle.locality_tree.proofs.PlaceSetsLemmas.{flipped_here, flipped_other, one_bit, other_bool}
use Rattle.locality_tree.proofs.place_set.PlaceSet.set.Goals as goal

pub returns-then-contains-stands-clause-here : goal.returns-then-contains-stands-clause-here
returns-then-contains-stands-clause-here c =
    let n = c.args.place in
    let words = c.args.self.now.words in
    let less = c.requires in
    let long : n / 64 < length words = omega arith in
    ap (λ (b : ℕ). in_set (record { words = set words (n / 64) (bit_xor (get_or words (n / 64) 0) b) }) n) (one_bit (n % 64) (omega arith))
    ∙ flipped_here words n long
    ∙ other_bool (in_set c.args.self.now n) c.args.stands (subst (λ b. not (beq b c.args.stands) ≡ true) c.contains.ensures c.if-contains-stands.true)

pub returns-then-contains-stands-clause-others : goal.returns-then-contains-stands-clause-others
returns-then-contains-stands-clause-others c = λ m d.
    let n = c.args.place in
    let words = c.args.self.now.words in
    ap (λ (b : ℕ). in_set (record { words = set words (n / 64) (bit_xor (get_or words (n / 64) 0) b) }) m) (one_bit (n % 64) (omega arith)) ∙ flipped_other words n m d
