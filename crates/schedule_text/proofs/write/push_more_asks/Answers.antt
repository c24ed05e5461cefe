use Rattle.std.proofs.Common.{◌++◌, [], ◌∷◌, ap, ◌∙◌, append_assoc}
use Rattle.schedule_text.proofs.Texts.{begins_through}
use Rattle.schedule_text.proofs.write.push_more_asks.Goals as goal

pub returns-in-Err-clause-err : goal.returns-in-Err-clause-err
returns-in-Err-clause-err c =
    begins_through c.args.out.now.items _ c.extend_from_slice.new.self.items c.push_ask.new.out.items
    (c.in_ok-extend_from_slice.ensures.items ∙ ap (λ l. l ++ 32 ∷ 47 ∷ []) c.loop-ask.invariant ∙ append_assoc c.args.out.now.items _ (32 ∷ 47 ∷ []))
    c.in-Err.ensures.err
