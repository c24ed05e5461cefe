use Rattle.std.proofs.Common.{◌++◌, [], ◌∷◌, drop, ap, ◌∙◌}
use Rattle.std.proofs.lemmas.List.{take_rest}
use Rattle.hard_state.specs.RecordBodies.{quantities_in}
use Rattle.hard_state.proofs.Front.{quantity_more}
use Rattle.hard_state.proofs.job.read_quantities.Goals as goal

pub loop-rest-preserved : goal.loop-rest-preserved
loop-rest-preserved c =
    let rest = c.loop-rest.rest.now in
    ap (λ l. c.push.new.self ++ quantities_in l) (take_rest rest 8) ∙ ap (λ m. m ++ quantities_in (drop 8 rest)) c.in_ok-push.ensures
    ∙ ap (λ q. c.loop-rest.quantities ++ q ∷ [] ++ quantities_in (drop 8 rest)) c.from_be_bytes.ensures
    ∙ quantity_more rest c.loop-rest.quantities (quantities_in c.args.bytes.now) c.in-len8-up.len_at_least c.loop-rest.invariant
