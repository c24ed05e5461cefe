use Rattle.std.proofs.Common.{◌+◌, ◌++◌, ◌∙◌, ap}
use Rattle.work_plan.specs.Ends.{packet_of}
use Rattle.work_plan.specs.WorkLines.{Line, Sent, line_text}
use Rattle.work_plan.proofs.PacketsStandBehind.{sent_more}
use Rattle.work_plan.proofs.text.write_sent.Goals as goal

pub loop-index-preserved : goal.loop-index-preserved
loop-index-preserved c =
    let i = c.loop-index.index in
    sent_more c.args.packets.now i c.index-packets-index.result c.loop-index.out.items c.write_line.new.out.items c.loop-index-test.true
    (c.in_ok-write_line.ensures.ok ∙ ap (λ (x : Line). c.loop-index.out.items ++ line_text x) (c.sent_line.ensures ∙ ap (λ p. Sent (i + 1) (packet_of p)) c.index-packets-index.is)) ∙ c.loop-index.invariant
