use Rattle.std.proofs.Common.{◌<◌, ◌+◌, sym, subst}
use Rattle.fuxi_terms.specs.Counts.{count}
use Rattle.fuxi_terms.specs.Keys.{spot_cmp}
use Rattle.place_pass.specs.Best.{spot_of}
use Rattle.core_golden.proofs.trees.bench.place.Goals as goal

pub changed-requires-clause-here : goal.changed-requires-clause-here
changed-requires-clause-here g c =
    let pick = c.in_ok-pick.pick in
    subst (λ n. pick.unit.0 < n) (sym (c.levels.ensures.units c.next.new.self c.args.table.now pick.app.0 c.in_ok-pick.ensures.level)) c.in_ok-pick.ensures.grantable.unit

pub returns : goal.returns
returns g c =
    let t = c.args.table.now in
    c.changed.ensures.level t c.in_ok-pick.ensures.level (record { sound = c.cluster-sound.ensures.sound; number = count spot_cmp t.entries (spot_of c.in_ok-pick.pick) + 1; is = c.grant.ensures })
