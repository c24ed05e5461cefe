use Rattle.std.proofs.Common.{◌++◌, sym, ◌∙◌, ap, subst}
use Rattle.node_core.specs.PartyEvents.{Commanded}
use Rattle.node_core.specs.NodeTexts.{answer_text}
use Rattle.node_parties.specs.MasterParties.{StandsAs}
use Rattle.fuxi_desk.specs.Preparing.{PreparedRecord}
use Rattle.fuxi_desk.proofs.prepare.Prepared.submit.Goals as goal

pub returns-in-Ok-push_answer-clause-takes : goal.returns-in-Ok-push_answer-clause-takes
returns-in-Ok-push_answer-clause-takes c p s =
    let role = subst (λ (x : PreparedRecord). StandsAs x.node p.role) (sym c.self.view_is) s.role in
    let does = c.in-Ok.ensures.does p.role role in
    let same = c.events_command_anywhere.ensures p.role c.args.event.now in
    record {
      stands = record {
        role = subst (λ (k : Commanded). StandsAs c.in-Ok.after.0 k.role) (sym same) does.stands;
        sessions = ap (λ (x : PreparedRecord). x.sessions) c.self.view_is ∙ s.sessions;
      };
      text = c.in-Ok-push_answer.ensures ∙ ap (λ a. c.args.text.now.items ++ answer_text a) (does.answers ∙ ap (λ (k : Commanded). k.answer) (sym same));
    }
