use Rattle.std.proofs.Common.{◌≡◌, ℕ, zero, suc, ◌-◌, List, [], ◌∷◌, get_or, replicate, refl, ◌∙◌, ap, arith}
use Rattle.fuxi_terms.specs.Vectors.{fits, minus, plus}
use Rattle.fuxi_terms.proofs.ByPlace.{fits_at, fits_from, get_or-plus}
use Rattle.fuxi_terms.proofs.IndexedLists.{repeated_at}
use Rattle.preempt.proofs.machine_grants.spares_one.Goals as goal

-- nothing taken leaves all
minus-zeros : (xs : List ℕ) (n : ℕ) → minus xs (replicate n 0) ≡ xs
minus-zeros [] n = refl
minus-zeros (x ∷ xs) zero = refl
minus-zeros (x ∷ xs) (suc n) = let first : x - 0 ≡ x = omega arith in let rest = minus-zeros xs n in λ i. first i ∷ rest i

pub spares-requires : goal.spares-requires
spares-requires c = fits_from (plus c.zero.result.q c.args.size.now.q) c.args.group.now.used.q (λ i _.
    let sum = get_or-plus c.zero.result.q c.args.size.now.q i in
    let none = ap (λ xs. get_or xs i 0) c.zero.ensures ∙ repeated_at 0 8 i in
    let part = fits_at c.args.size.now.q c.args.group.now.used.q c.requires i in
    omega (arith, sum, none, part))

pub returns : goal.returns
returns c =
    let used = c.args.group.now.used.q in
    c.spares.ensures ∙ ap (λ left. fits c.args.group.now.bounds.now.quota.q (minus left c.args.size.now.q)) (ap (minus used) c.zero.ensures ∙ minus-zeros used 8)
