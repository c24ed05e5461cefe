use Rattle.std.proofs.Common.{get_or, ap, ◌∙◌, arith}
use Rattle.fuxi_terms.specs.Vectors.{plus}
use Rattle.fuxi_terms.proofs.ByPlace.{fits_from, fits_at, get_or-plus, get_or-minus}
use Rattle.quota_group.proofs.spares.Goals as goal

pub minus-requires : goal.minus-requires
minus-requires c = fits_from c.args.taken.now.q c.args.used.now.q (λ i _.
    let f = fits_at (plus c.args.taken.now.q c.args.size.now.q) c.args.used.now.q c.requires i in
    let p = get_or-plus c.args.taken.now.q c.args.size.now.q i in
    omega (arith, f, p))

pub minus-left-requires : goal.minus-left-requires
minus-left-requires c = fits_from c.args.size.now.q c.minus.result.q (λ i _.
    let f = fits_at (plus c.args.taken.now.q c.args.size.now.q) c.args.used.now.q c.requires i in
    let p = get_or-plus c.args.taken.now.q c.args.size.now.q i in
    let m = ap (λ xs. get_or xs i 0) c.minus.ensures ∙ get_or-minus c.args.used.now.q c.args.taken.now.q i in
    omega (arith, f, p, m))
