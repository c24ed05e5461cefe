use Rattle.std.proofs.Common.{subst}
use Rattle.std.proofs.lemmas.Result.{IfOk-weaker}
use Rattle.schedule_unit.specs.declared.party.Role.TheVariants.{Master, Agent, App}
use Rattle.running_parties.specs.Slots.{HearInWorld}
use Rattle.running_parties.specs.Peers.{AgentStands, AppStands}
use Rattle.running_parties.specs.RunningMasters.{MasterStands}
use Rattle.schedule_replay.specs.Worlds.{WorldRecord}
use Rattle.schedule_replay.specs.Moves.{IsHeardBy}
use Rattle.schedule_replay.proofs.HeardInWorld.{hears_by, is_for, number_named}
use Rattle.schedule_replay.proofs.deliveries.hear.Goals as goal

pub returns-in-Master : goal.returns-in-Master
returns-in-Master c =
    let old : WorldRecord = record { cluster = c.running.inside.cluster; checkpoint = c.running.inside.checkpoint; masters = c.running.inside.masters; agents = c.running.inside.agents; apps = c.running.inside.apps; pool = c.running.inside.pool; events = c.running.inside.events } in
    let hear = c.hear in
    let after = hear.new.self in
    let packet = c.args.packet in
    let n = number_named Master packet.to in
    IfOk-weaker hear.result (HearInWorld MasterStands n packet old.masters after) (IsHeardBy packet c.args.running.now (record old { masters = after })) (λ heard h.
    subst (λ r. IsHeardBy packet r (record old { masters = after }) heard) c.running.view_is
    (hears_by c.masters_act.ensures.acts c.every_change_is_taken.ensures.good n packet old after heard (λ net x same. is_for Master packet net x c.in-Master.is c.requires.formed same) h hear.ensures.within)) hear.ensures.world

pub returns-in-Agent : goal.returns-in-Agent
returns-in-Agent c =
    let old : WorldRecord = record { cluster = c.running.inside.cluster; checkpoint = c.running.inside.checkpoint; masters = c.running.inside.masters; agents = c.running.inside.agents; apps = c.running.inside.apps; pool = c.running.inside.pool; events = c.running.inside.events } in
    let hear = c.hear-in-Agent in
    let after = hear.new.self in
    let packet = c.args.packet in
    let n = number_named Agent packet.to in
    IfOk-weaker hear.result (HearInWorld AgentStands n packet old.agents after) (IsHeardBy packet c.args.running.now (record old { agents = after })) (λ heard h.
    subst (λ r. IsHeardBy packet r (record old { agents = after }) heard) c.running.view_is
    (hears_by c.agents_act.ensures c.every_change_is_taken.ensures.good n packet old after heard (λ net x same. is_for Agent packet net x c.in-Agent.is c.requires.formed same) h hear.ensures.within)) hear.ensures.world

pub returns-in-App : goal.returns-in-App
returns-in-App c =
    let old : WorldRecord = record { cluster = c.running.inside.cluster; checkpoint = c.running.inside.checkpoint; masters = c.running.inside.masters; agents = c.running.inside.agents; apps = c.running.inside.apps; pool = c.running.inside.pool; events = c.running.inside.events } in
    let hear = c.hear-in-App in
    let after = hear.new.self in
    let packet = c.args.packet in
    let n = number_named App packet.to in
    IfOk-weaker hear.result (HearInWorld AppStands n packet old.apps after) (IsHeardBy packet c.args.running.now (record old { apps = after })) (λ heard h.
    subst (λ r. IsHeardBy packet r (record old { apps = after }) heard) c.running.view_is
    (hears_by c.apps_act.ensures c.every_change_is_taken.ensures.good n packet old after heard (λ net x same. is_for App packet net x c.in-App.is c.requires.formed same) h hear.ensures.within)) hear.ensures.world
