use Rattle.std.proofs.Common.{◌≡◌, ◌+◌, ◌-◌, nat_lt, not, map, get_or, take, refl, subst, arith}
use Rattle.fuxi_terms.specs.Numbers.{has_number}
use Rattle.ledger_updates.proofs.OfNumbersLemmas.{first_is}
use Rattle.ledger_updates.proofs.numbered.is_first.Goals as goal

pub returns : goal.returns
returns g c =
    let es = c.args.entries.now in
    let k = c.args.index - 1 in
    let ns = map (λ e. e.0) es in
    let at : k + 1 ≡ c.args.index = omega (arith, c.if-index-eq0.false) in
    let a = c.index-entries-index.result in
    let b = c.index-entries-index-2.result in
    subst (λ i. nat_lt (get_or es k a).0 (get_or es i b).0 ≡ not (has_number (get_or ns i 0) (take i ns))) at (first_is es c.requires.rising k a b (omega (arith, at, c.requires.within)) _ refl)
