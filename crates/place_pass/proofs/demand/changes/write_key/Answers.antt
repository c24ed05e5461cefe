use Rattle.std.proofs.Common.{◌≡◌, ℕ, List, cond, length, length-set, set, get_or, sym, ◌∙◌, ap, subst, rules}
use Rattle.std.specs.Vec.{with_items}
use Rattle.std.proofs.lemmas.List.{with_items_is}
use Rattle.fuxi_terms.specs.Counts.{count}
use Rattle.fuxi_terms.specs.Keys.{key_cmp}
use Rattle.place_pass.specs.declared.demand.wishes.Wish.{Wish}
use Rattle.place_pass.specs.Cells.{cell_of, is_gone, ones_in}
use Rattle.place_pass.specs.DemandScopes.{IsWritten}
use Rattle.locality_tree.specs.PlaceSets.{in_set}
use Rattle.place_pass.proofs.Places.{counted_long}
use Rattle.place_pass.proofs.DemandScopesLemmas.{near_written, rack_written, avoid_written, avoid_more}
use Rattle.place_pass.proofs.demand.changes.write_key.Goals as goal
use Rattle.place_pass.proofs.demand.changes.write_key.Goals.{After-write_avoided}

-- a unit of which the numbers by machine are written
near_put : (w : Wish) (ns : List ℕ) → length ns ≡ length w.near.items → cell_of (record w { near = with_items w.near ns }) ≡ record (cell_of w) { near = ns }
near_put w ns long =
    let is : (with_items w.near ns).items ≡ ns = with_items_is w.near ns (long ∙ sym w.near.ok.0) in
    λ i. record { unit = (cell_of w).unit; group = (cell_of w).group; want = w.want; near = is i; racks = w.racks; avoided = ones_in ((ap length is ∙ long) i) w.avoided }

pub returns-then-key-eq-NEAR-clause-cell : goal.returns-then-key-eq-NEAR-clause-cell
returns-then-key-eq-NEAR-clause-cell c =
    let w = c.args.wish.now in
    let k = c.args.key.now in
    let es = c.args.demand.now.entries in
    let ns = c.write_near.new.near in
    let is : ns ≡ set w.near.items k.number (count key_cmp es k) = c.write_near.ensures ∙ ap (λ xs. set xs k.number (count key_cmp es k)) c.deref_mut.ensures.value in
    subst (IsWritten c.args.cluster.now es k (cell_of w)) (sym (near_put w ns (ap length is ∙ length-set w.near.items k.number (count key_cmp es k))))
    (near_written c.args.cluster.now es k (cell_of w) c.if-key-eq-NEAR.true c.requires ns is)

pub returns-then-key-eq-RACK-clause-cell : goal.returns-then-key-eq-RACK-clause-cell
returns-then-key-eq-RACK-clause-cell c = rack_written c.args.cluster.now c.args.demand.now.entries c.args.key.now (cell_of c.args.wish.now) c.if-key-eq-RACK.true (search rules) c.write_rack.new.racks c.write_rack.ensures

-- the cluster has as many machines as the unit has numbers
wide : (c : After-write_avoided) → c.machines.result ≡ length c.args.wish.now.near.items
wide c = c.machines.ensures.number ∙ sym c.requires

marked : (c : After-write_avoided) → length (cell_of c.args.wish.now).avoided ≡ length c.args.cluster.now.machines
marked c = counted_long (λ m. cond (in_set c.args.wish.now.avoided m) 1 0) (length c.args.wish.now.near.items) ∙ c.requires

pub returns-then-key-eq-AVOID-clause-cell : goal.returns-then-key-eq-AVOID-clause-cell
returns-then-key-eq-AVOID-clause-cell c =
    let w = c.args.wish.now in
    let k = c.args.key.now in
    let es = c.args.demand.now.entries in
    avoid_written c.args.cluster.now es k (cell_of w) c.if-key-eq-AVOID.true (marked c) (ones_in (length w.near.items) c.write_avoided.new.avoided)
    (subst (λ n. ones_in n c.write_avoided.new.avoided ≡ set (ones_in n w.avoided) k.number (count key_cmp es k)) (wide c) c.write_avoided.ensures.numbers)

pub returns-then-key-eq-AVOID-clause-more : goal.returns-then-key-eq-AVOID-clause-more
returns-then-key-eq-AVOID-clause-more c =
    let w = c.args.wish.now in
    let k = c.args.key.now in
    let es = c.args.demand.now.entries in
    c.write_avoided.ensures.gone ∙ ap (λ n. is_gone (get_or (ones_in n w.avoided) k.number 0) (count key_cmp es k)) (wide c)
    ∙ avoid_more c.args.cluster.now es k (cell_of w) c.if-key-eq-AVOID.true (marked c)
