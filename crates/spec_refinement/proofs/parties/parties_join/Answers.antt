use Rattle.std.proofs.Common.{sym, subst, ◌∷◌, [], ◌++◌}
use Rattle.spec_net.specs.Channels.{master_id, agent_id, app_id, party}
use Rattle.spec_roles.specs.Agents.{row_excess}
use Rattle.spec_roles.specs.Apps.{no_excess}
use Rattle.spec_roles.specs.MasterRoles.{report_excess}
use Rattle.spec_refinement.specs.SeenWorlds.{has_of}
use Rattle.spec_refinement.specs.PartyJoins.{Leads}
use Rattle.spec_refinement.proofs.SeenPartiesLemmas.{Joins, comes_to, takes_turn, resyncs, asks_in, governs_in, agent_starts, app_starts, peer_leads}
use Rattle.spec_refinement.proofs.ActsLemmas.{master_started_as}
use Rattle.spec_refinement.proofs.parties.parties_join.Goals as goal

pub returns : goal.returns
returns c =
    let joins : Joins = record {
      agent = λ w m g which x at good leads runs to. c.agents_join.ensures.hears w m g which x at good.stands.sound (good.stands.agents m g runs).joined
          (λ from. subst (λ d. Leads (row_excess (has_of w m)) d x.to.id (w.net.histories (party d x.from.inc) x.to.id)) (sym from)
          (subst (λ d. Leads (row_excess (has_of w m)) master_id d (w.net.histories (party master_id x.from.inc) d)) (sym to) (leads.rows x.from.inc m)));
      app = λ w a g which x at good leads runs to. c.apps_join.ensures.hears w a g which x at good.stands.sound (good.stands.apps a g runs).joined
          (λ from. subst (λ d. Leads no_excess d x.to.id (w.net.histories (party d x.from.inc) x.to.id)) (sym from)
          (subst (λ d. Leads no_excess master_id d (w.net.histories (party master_id x.from.inc) d)) (sym to) (leads.grants x.from.inc a)));
      master = λ w M which x at good leads to. c.masters_join.ensures.hears (report_excess w.cluster M) w M which x at good.stands.sound to
          (λ t. subst (λ d. Leads (report_excess w.cluster M x.from.id) x.from.id d (w.net.histories x.from d)) (sym to)
          (c.kept_reports_lead.ensures w.cluster M x.from.id master_id (w.net.histories x.from master_id) (peer_leads w M x.from leads t)));
      agent_turns = c.agents_join.ensures.turns;
      app_turns = c.apps_join.ensures.turns;
      master_turns = c.masters_join.ensures.turns;
      agent_resyncs = c.agents_join.ensures.resyncs;
      app_resyncs = c.apps_join.ensures.resyncs;
      master_resyncs = c.masters_join.ensures.resyncs;
    } in
    record {
      hears = comes_to joins;
      turns = takes_turn joins;
      resyncs = resyncs joins;
      asks = asks_in c.apps_join.ensures.asks;
      governs = governs_in c.masters_join.ensures.commands;
      agents_start = λ w m b good later. agent_starts w m b good (c.agents_join.ensures.starts w m b good.stands.sound (λ q. good.stands.unstarted (party (agent_id m) b) q later));
      apps_start = λ w a b good later. app_starts w a b good (c.apps_join.ensures.starts w a b good.stands.sound (λ q. good.stands.unstarted (party (app_id a) b) q later));
      masters_start = λ w h e good later. master_started_as w h e good (c.masters_join.ensures.starts w h (w.ran ++ party master_id e ∷ []) e good.stands.sound (λ q. good.stands.unstarted (party master_id e) q later));
    }
