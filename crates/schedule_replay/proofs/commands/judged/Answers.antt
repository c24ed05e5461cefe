use Rattle.std.proofs.Common.{◌-◌, ◌<◌, ◌≤◌, None, length, sym, ◌∙◌, ap, arith}
use Rattle.fuxi_terms.specs.Limits.{most_records}
use Rattle.hard_state.specs.HardFiles.{Kept}
use Rattle.spec_refinement.specs.SeenWorlds.{master_seen}
use Rattle.schedule_replay.specs.MasterCommands.{governing}
use Rattle.schedule_replay.proofs.MasterCommandsLemmas.{master_here, runs_as}
use Rattle.schedule_replay.proofs.JudgementIsBans.{is_below_fence, is_decided, is_too_many, runs_none}
use Rattle.schedule_replay.proofs.commands.judged.Goals as goal

pub returns-in_default : goal.returns-in_default
returns-in_default c w valid s = runs_none w c.args.epoch c.args.least c.args.percent (runs_as c.parties_run.ensures.masters w c.args.masters.now c.args.epoch None c.in_default.ensures s.stand)

pub returns-then-epoch-fence : goal.returns-then-epoch-fence
returns-then-epoch-fence c w valid s =
    let e = c.args.epoch in
    let master = c.in-Some.master.now in
    let r = master_here c.parties_run.ensures.masters w c.args.masters.now e master s.stand (sym c.in-Some.ensures) in
    let fence = c.fence-fence.ensures ∙ ap (λ (h : Kept). h.value.fence) c.hard-hard.ensures in
    is_below_fence w e c.args.least c.args.percent c.fence-fence.result (governing c.args.checkpoint.now c.args.masters.now) master.core s r fence c.if-epoch-fence.true

pub returns-then-len-left : goal.returns-then-len-left
returns-then-len-left c w valid s =
    let e = c.args.epoch in
    let master = c.in-Some.master.now in
    let r = master_here c.parties_run.ensures.masters w c.args.masters.now e master s.stand (sym c.in-Some.ensures) in
    let fence = c.fence-fence.ensures ∙ ap (λ (h : Kept). h.value.fence) c.hard-hard.ensures in
    let records = c.records.ensures.value ∙ ap (λ (h : Kept). h.value.records) c.hard-hard.ensures in
    let test = c.if-len-left.true in
    let len = c.len.ensures in
    let many : most_records - c.records.result < length c.in_ok-machines.machines.items = omega (arith, test, len) in
    is_too_many w e c.args.least c.args.percent c.fence-fence.result c.records.result (governing c.args.checkpoint.now c.args.masters.now) master.core c.in_ok-votes.votes c.in_ok-machines.machines s r
    fence c.if-epoch-fence.false (c.in_ok-votes.ensures.stands (master_seen w r.master) r.stands) c.in_ok-machines.ensures records c.records.ensures.few many

pub returns : goal.returns
returns c w valid s =
    let e = c.args.epoch in
    let master = c.in-Some.master.now in
    let r = master_here c.parties_run.ensures.masters w c.args.masters.now e master s.stand (sym c.in-Some.ensures) in
    let votes = c.in_ok-votes.votes in
    let fence = c.fence-fence.ensures ∙ ap (λ (h : Kept). h.value.fence) c.hard-hard.ensures in
    let records = c.records.ensures.value ∙ ap (λ (h : Kept). h.value.records) c.hard-hard.ensures in
    let test = c.if-len-left.false in
    let len = c.len.ensures in
    let few : length c.in_ok-machines.machines.items ≤ most_records - c.records.result = omega (arith, test, len) in
    is_decided w e c.args.least c.args.percent c.fence-fence.result c.records.result (governing c.args.checkpoint.now c.args.masters.now) master.core votes c.in_ok-machines.machines s r
    fence c.if-epoch-fence.false (c.in_ok-votes.ensures.stands (master_seen w r.master) r.stands) c.in_ok-machines.ensures records c.records.ensures.few valid few (c.judges.ensures.there votes c.args.least c.args.percent)
