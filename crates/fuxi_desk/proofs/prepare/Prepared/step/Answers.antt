use Rattle.std.proofs.Common.{List, ℕ, subst}
use Rattle.fuxi_desk.specs.DeskLines.{Calls}
use Rattle.fuxi_desk.specs.Preparing.{IsStepped, Prepared, PreparedRecord, Stands}
use Rattle.fuxi_desk.proofs.DeskTextsLemmas.{if_ok}
use Rattle.fuxi_desk.proofs.prepare.Prepared.step.Goals as goal

pub returns-in-Call-clause-takes : goal.returns-in-Call-clause-takes
returns-in-Call-clause-takes c =
    let text = c.args.text.now.items in
    rw c.in-Call.is (if_ok c.call.result
    (λ (after : PreparedRecord). (p : Prepared) (text : List ℕ) → Stands c.args.self p → IsStepped (Calls c.in-Call.session c.as_slice.result.now) p after text text)
    (λ (after : PreparedRecord). (p : Prepared) → Stands c.args.self p → IsStepped (Calls c.in-Call.session c.in-Call.bytes.items) p after text text)
    (λ after h p s. subst (λ b. IsStepped (Calls c.in-Call.session b) p after text text) c.as_slice.ensures.value (h p text s)) c.call.ensures.takes)
