use Rattle.std.proofs.Common.{◌≡◌, ℕ, nat_eq, List, [], ◌∷◌, ◌&&◌, refl, ap, ◌∙◌, rules, tests}
use Rattle.std.specs.List.{list_all}
use Rattle.std.proofs.lemmas.Iterator.{YieldsList-from_slice}
use Rattle.std.proofs.lemmas.Iterator.Search.{all_from_yields_List}
use Rattle.fuxi_terms.specs.Vectors.{is_zero}
use Rattle.res_vector.proofs.is_zero.Goals as goal

each_is_zero : (qs : List ℕ) → list_all (λ q. nat_eq q 0) qs ≡ is_zero qs
each_is_zero [] = refl
each_is_zero (q ∷ qs) = ap (λ b. nat_eq q 0 && b) (each_is_zero qs)

pub returns : goal.returns
returns c =
    all_from_yields_List (λ q. nat_eq q 0) _ _ _ c.all.ensures.ran (YieldsList-from_slice c.args.quantities.now cc) (λ x b q k. search (rules, tests))
    ∙ each_is_zero c.args.quantities.now
