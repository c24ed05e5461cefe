use Rattle.std.proofs.Common.{◌≡◌, ◌<◌, true, sym, ◌∙◌, ap, subst, arith}
use Rattle.fuxi_terms.specs.Cluster.{ClusterRecord}
use Rattle.fuxi_terms.specs.Limits.{greatest_count}
use Rattle.fuxi_terms.specs.Tables.{held_on, with_grant}
use Rattle.spec_roles.specs.Masters.{Master, level_of}
use Rattle.spec_roles.specs.Placing.{placeable_in}
use Rattle.grant_table.specs.GrantTables.{TableRecord, IsSound}
use Rattle.place_pass.specs.Best.{spot_of}
use Rattle.place_pass.specs.Placers.{asks_seen, board_with}
use Rattle.allotment.specs.SettlingRuns.{IsSettling, Repeats, all_out, told_grant}
use Rattle.allotment.proofs.GrantsRepeat.{count_here, first_grant, one_more}
use Rattle.allotment.proofs.settle_run.grant.Goals as goal

pub level-level-requires-clause-unit : goal.level-level-requires-clause-unit
level-level-requires-clause-unit g c = subst (λ n. c.args.pick.unit.0 < n) (sym (c.levels.ensures.units c.args.placer.now c.args.table.now c.args.pick.app.0 c.requires.level)) c.requires.grantable.unit

pub loop-table-init : goal.loop-table-init
loop-table-init g c =
    let t = c.args.table.now in
    let s = c.args.placer.now.seen in
    let x = spot_of c.args.pick in
    subst (Repeats t s x) (sym c.grant.ensures) (first_grant c.set_numbers.ensures.held t s x c.requires.sound c.requires.up c.requires.first)

pub repeats-requires-clause-unit : goal.repeats-requires-clause-unit
repeats-requires-clause-unit g c = subst (λ n. c.args.pick.unit.0 < n) (sym (c.levels.ensures.units c.args.placer.now c.args.table.now c.args.pick.app.0 c.requires.level)) c.requires.grantable.unit

pub loop-table-preserved : goal.loop-table-preserved
loop-table-preserved g c =
    let t = c.args.table.now in
    let s = c.args.placer.now.seen in
    let x = spot_of c.args.pick in
    let k = c.loop-table.invariant in
    let grantable = c.repeats.ensures.grantable c.loop-table-test.true in
    let few : k.number < greatest_count = subst (λ n. n < greatest_count) (count_here t.entries x k.number) (subst (λ (z : TableRecord). held_on z.entries x.job x.unit x.machine < greatest_count) k.is grantable.few) in
    let may = subst (λ (z : TableRecord). placeable_in (board_with s z) z.entries x.job x.unit x.machine ≡ true) k.is (c.repeats.ensures.placeable c.loop-table-test.true) in
    let same = subst (λ (z : TableRecord). level_of z.cluster (asks_seen s) z.entries x.job x.unit x.machine ≡ c.level-level.result) k.is (c.repeats.ensures.same c.loop-table-test.true) ∙ c.level-level.ensures in
    subst (Repeats t s x) (sym (c.grant-in-loop-table.ensures ∙ ap (λ (z : TableRecord). record z { entries = with_grant z.entries x }) k.is))
    (one_more c.set_numbers.ensures.held t s x c.requires.sound c.requires.up c.requires.first c.first_stays.ensures k.number k.rises few (subst IsSound k.is c.repeats.ensures.sound) may same
    (subst (λ (z : TableRecord). (n : ClusterRecord) (M : Master) → IsSettling t s n M → IsSettling z (told_grant s z x) n M) k.is k.settles)
    (subst (λ (z : TableRecord). all_out z (told_grant s z x) < all_out t s) k.is k.fewer))

pub changed-requires-clause-here : goal.changed-requires-clause-here
changed-requires-clause-here g c = subst (λ n. c.args.pick.unit.0 < n) (sym (c.levels.ensures.units c.args.placer.now c.args.table.now c.args.pick.app.0 c.requires.level)) c.requires.grantable.unit

pub returns-clause-level : goal.returns-clause-level
returns-clause-level g c = let k = c.loop-table.invariant in c.changed.ensures.level c.args.table.now c.requires.level (record { sound = c.requires.sound; number = k.number; is = k.is })

pub returns-clause-up : goal.returns-clause-up
returns-clause-up g c = let k = c.loop-table.invariant in c.changed.ensures.up c.args.table.now c.requires.up (record { sound = c.requires.sound; number = k.number; is = k.is }) (let rises = k.rises in omega (arith, rises))

pub returns-clause-settles : goal.returns-clause-settles
returns-clause-settles g c = λ n M is. subst (λ z. IsSettling c.loop-table.table z n M) (sym c.changed.ensures.seen) (c.loop-table.invariant.settles n M is)
