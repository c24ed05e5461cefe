use Rattle.std.proofs.Common.{refl}
use Rattle.locality_tree.proofs.PlaceSetsLemmas.{none_set}
use Rattle.locality_tree.proofs.place_set.PlaceSet.new.Goals as goal

pub returns : goal.returns
returns c = λ n. none_set _ 6 n refl
