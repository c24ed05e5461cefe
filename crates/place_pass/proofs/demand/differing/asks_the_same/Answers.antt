use Rattle.std.proofs.Common.{◌≡◌, length, sym, ◌∙◌, ap}
use Rattle.std.specs.Cmp.Lexicographic.{same_text}
use Rattle.place_pass.specs.Cells.{cell_of, numbers_at, ones_in}
use Rattle.place_pass.proofs.demand.differing.asks_the_same.Goals as goal

pub returns : goal.returns
returns c e =
    let w = c.args.wish.now in
    let es = c.args.demand.now.entries in
    let u = c.args.unit in
    let m = c.machines-machines.ensures.number in
    let words = same_text w.avoided.words c.avoided_by.result.words (sym e ∙ c.eq.ensures) in
    let avoided : numbers_at es 4 u (length c.args.cluster.now.machines) ≡ (cell_of w).avoided =
    ap (numbers_at es 4 u) (sym m) ∙ sym c.avoided_by.ensures ∙ (λ i. ones_in ((m ∙ sym c.requires) i) (record { words = sym words i })) in
    let near = ap (numbers_at es 2 u) (sym m) ∙ c.has_near.ensures c.if-not-has_near.false ∙ c.deref.ensures.value in
    let racks = c.has_racks.ensures c.if-not-has_racks.false in
    let want = sym c.number_at.ensures ∙ c.if-number_at-wish.false in
    λ i. record { unit = (cell_of w).unit; group = (cell_of w).group; want = want i; near = near i; racks = racks i; avoided = avoided i }
