use Rattle.std.proofs.Common.{◌≡◌, ◌++◌, ◌∷◌, [], Some, length, map, take, slice_get, sym, ◌∙◌, ap, arith}
use Rattle.std.specs.List.{flat_map}
use Rattle.std.proofs.lemmas.List.{take_all}
use Rattle.fuxi_terms.specs.Jobs.{is_known, job_numbers}
use Rattle.spec_net.specs.Channels.{app_id}
use Rattle.peer_channel.specs.Parcels.{parcel_is}
use Rattle.grant_table.specs.GrantTables.{TableRecord, as_known}
use Rattle.fuxi_master.specs.Seen.{core_of}
use Rattle.fuxi_master.proofs.Projected.{known_alike}
use Rattle.fuxi_master.proofs.TurnPackets.{sent_to, app_next, known_at, numbers_in, numbers_more}
use Rattle.fuxi_master.proofs.state.Core.apps_turn.Goals as goal

pub app-requires-clause-peer : goal.app-requires-clause-peer
app-requires-clause-peer c =
    let x = core_of c.args.self.now in
    let js = x.allotment.table.jobs in
    let j = c.job.result.now in
    let there : slice_get js c.loop-index.index ≡ Some j = ap (λ (t : TableRecord). slice_get t.jobs c.loop-index.index) (sym c.table-table.ensures) ∙ c.job.ensures in
    ap (is_known x.known.jobs) c.app-app.ensures.number ∙ sym (known_alike (as_known js) x.known.jobs j.number (c.requires.near.kept.jobs j.number)) ∙ known_at js c.loop-index.index j there

pub turn-requires-clause-started : goal.turn-requires-clause-started
turn-requires-clause-started c =
    let own = c.requires.near.kept.apps_own c.app-app.result.0 c.app.result.now c.app.ensures.there in
    let epoch = c.requires.near.kept.epoch in
    omega (arith, own, epoch)

pub loop-index-preserved : goal.loop-index-preserved
loop-index-preserved c =
    let x = core_of c.args.self.now in
    let js = x.allotment.table.jobs in
    let i = c.loop-index.index in
    let j = c.job.result.now in
    let there : slice_get js i ≡ Some j = ap (λ (t : TableRecord). slice_get t.jobs i) (sym c.table-table.ensures) ∙ c.job.ensures in
    let numbers = ap (λ n. numbers_in (take i js) ++ n ∷ []) c.app-app.ensures.number ∙ numbers_more js i j there in
    record {
      sends = λ r h. app_next x r h c.app-app.result.0 c.args.packets.now c.loop-index.packets c.turn.new.packets c.app.result.now c.app.ensures.there c.in_ok-turn.ensures.turns (numbers_in (take i js)) (c.loop-index.invariant.sends r h)
          ∙ ap (λ ns. map parcel_is c.args.packets.now ++ flat_map (sent_to r) (map app_id ns)) numbers;
      formed = λ before. c.in_ok-turn.ensures.formed (c.loop-index.invariant.formed before);
    }

pub returns-clause-sends : goal.returns-clause-sends
returns-clause-sends c =
    let x = core_of c.args.self.now in
    let js = x.allotment.table.jobs in
    let i = c.loop-index.index in
    let t = c.table-table.ensures in
    let over = c.loop-index-test.false in
    let many = c.jobs-index-end.ensures ∙ ap (λ (t : TableRecord). length t.jobs) t in
    let all : take i js ≡ js = take_all i js (omega (arith, over, many)) in
    let order = ap (λ (t : TableRecord). job_numbers (as_known t.jobs)) (sym t) ∙ c.admitted_jobs.ensures.numbers c.table-table.result.now.jobs c.is_sound.ensures.in_order ∙ ap (λ (t : TableRecord). numbers_in t.jobs) t in
    λ r h. c.loop-index.invariant.sends r h
    ∙ ap (λ ns. map parcel_is c.args.packets.now ++ flat_map (sent_to r) (map app_id ns)) (ap numbers_in all ∙ sym order ∙ c.requires.near.kept.numbers ∙ ap job_numbers (sym h.stands.jobs))
