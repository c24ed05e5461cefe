use Rattle.std.proofs.Common.{◌≡◌, ℕ, List, nat_lt, false, not, get_or, length, sym, ◌∙◌, ap, arith}
use Rattle.std.specs.Prelude.{◌&&◌, ◌||◌}
use Rattle.std.proofs.lemmas.Bool.Decides.{nat_tests}
use Rattle.std.specs.List.{list_any}
use Rattle.fuxi_terms.specs.Counts.{count}
use Rattle.fuxi_terms.specs.Keys.{key_cmp}
use Rattle.fuxi_terms.specs.Lists.{below}
use Rattle.fuxi_terms.specs.TallyKeys.{key, want_key}
use Rattle.locality_tree.specs.declared.place_set.PlaceSet.{PlaceSet}
use Rattle.locality_tree.specs.PlaceSets.{in_set}
use Rattle.place_pass.specs.Cells.{cell_of, numbers_at, ones_in, any_gone, is_gone}
use Rattle.place_pass.proofs.CellsLemmas.{gone_where, one_where}
use Rattle.place_pass.proofs.IdleKept.{any_alike}
use Rattle.place_pass.proofs.Places.{counted_at}
use Rattle.fuxi_terms.specs.declared.Key.{Key}
use Rattle.place_pass.proofs.demand.reading.take_one.Goals as goal

-- of two sets a machine is in the first alone where, by a demand, it is no longer avoided
lifted_is : (es : List (Key × ℕ)) (u n : ℕ) (s t : PlaceSet) → ones_in n t ≡ numbers_at es 4 u n → list_any (λ m. in_set s m && not (in_set t m)) (below n) ≡ any_gone es 4 u (ones_in n s) n
lifted_is es u n s t e =
    let f : ℕ → ℕ = λ m. count key_cmp es (key 4 u m) in
    any_alike (λ m. in_set s m && not (in_set t m)) (λ m. is_gone (get_or (ones_in n s) m 0) (f m)) n
    (λ m lt. ap (λ b. in_set s m && not b) (sym (one_where n m t lt) ∙ ap (λ ns. nat_lt 0 (get_or ns m 0)) e ∙ ap (nat_lt 0) (counted_at f n m lt)) ∙ sym (gone_where n m (f m) s lt))

pub returns-else-rises-clause-more : goal.returns-else-rises-clause-more
returns-else-rises-clause-more c =
    let es = c.args.demand.now.entries in
    let u = c.args.unit in
    let n = c.machines-machines.result in
    let w = c.args.wish.now in
    let m = c.machines-machines.ensures.number in
    let lifted : c.is_lifted-lifted.result ≡ any_gone es 4 u (cell_of w).avoided (length c.args.cluster.now.machines) =
    c.is_lifted-lifted.ensures ∙ lifted_is es u n w.avoided c.avoided_by-avoided.result c.avoided_by-avoided.ensures
    ∙ ap (λ k. any_gone es 4 u (ones_in k w.avoided) n) (m ∙ sym c.requires) ∙ ap (any_gone es 4 u (cell_of w).avoided) m in
    let e = c.number_at-want.ensures in
    let ge = c.if-rises.false in
    let fell : nat_lt w.want (count key_cmp es (want_key u)) ≡ false = grind (arith, nat_tests, e, ge) in
    lifted ∙ ap (λ b. b || any_gone es 4 u (cell_of w).avoided (length c.args.cluster.now.machines)) (sym fell)
