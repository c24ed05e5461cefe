use Rattle.std.proofs.Common.{◌≡◌, true, sym, ◌∙◌}
use Rattle.fuxi_terms.specs.Jobs.{is_known}
use Rattle.spec_net.specs.Channels.{master_id, app_id, party}
use Rattle.spec_refinement.specs.SeenWorlds.{master_seen, side_of}
use Rattle.schedule_replay.proofs.Peers.{app_runs, app_quiet}
use Rattle.schedule_replay.proofs.quiet.is_app_quiet.Goals as goal

pub returns : goal.returns
returns c w m stands apps =
    let number = c.args.app.0 in
    let r = app_runs c.parties_run.ensures.apps w c.args.apps.now number c.in-Some.core.now apps c.in-Some.ensures in
    let known : is_known m.jobs number ≡ true = sym (c.knows.ensures.stands (master_seen w m) stands) ∙ c.if-not-knows.false in
    let peer = party (app_id number) r.app.boot in
    app_quiet w m number c.are_at_rest.result r.app r.runs known
    (c.are_at_rest.ensures w.net m peer (c.master_end.ensures (master_seen w m) stands) (c.app_end.ensures r.app.boot (side_of w.net peer master_id) r.stands.up))
