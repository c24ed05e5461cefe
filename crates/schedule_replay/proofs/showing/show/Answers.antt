use Rattle.std.proofs.Common.{◌∙◌, ap, subst}
use Rattle.hard_state.specs.declared.hard.Hard.{Hard}
use Rattle.spec_world.specs.Events.{show_state}
use Rattle.schedule_replay.specs.ReplayTexts.{frame_of}
use Rattle.schedule_replay.specs.Worlds.{WorldRecord}
use Rattle.schedule_replay.specs.Moves.{IsActed}
use Rattle.schedule_replay.proofs.MovesLemmas.{once_up_to, none_once}
use Rattle.schedule_replay.proofs.SentIsKept.{kept_length}
use Rattle.schedule_replay.proofs.showing.show.Goals as goal

-- the lines are those of each world that runs, whatever the bytes of frames are
pub returns-in-Ok : goal.returns-in-Ok
returns-in-Ok c =
    let old : WorldRecord = record { cluster = c.running.inside.cluster; checkpoint = c.running.inside.checkpoint; masters = c.running.inside.masters; agents = c.running.inside.agents; apps = c.running.inside.apps; pool = c.running.inside.pool; events = c.running.inside.events } in
    subst (λ r. IsActed show_state r r c.args.out.now.items c.write_state.new.out.items) c.running.view_is (record {
      does = λ w is s. record {
        stands = s;
        text = c.in-Ok.ensures.ok w (record { good = is.good; order = is.order; cluster = s.cluster; hard = ap (λ (h : Hard). h.value) c.hard.ensures ∙ s.hard; masters = s.masters; agents = s.agents; apps = s.apps })
            s.events (c.len-packets.ensures.len ∙ kept_length w old.pool s.packets) frame_of;
      };
      moves = once_up_to old old (none_once old old.pool);
    })
