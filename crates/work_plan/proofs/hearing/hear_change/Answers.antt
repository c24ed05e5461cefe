use Rattle.std.proofs.Common.{rules, ◌≡◌, false, refl, sym, ◌∙◌, ap}
use Rattle.delta_channel.specs.declared.receiver.Stamp.{Stamp}
use Rattle.delta_channel.specs.declared.receiver.Verdict.TheVariants.{Take}
use Rattle.channel_refinement.specs.Alike.{told_as}
use Rattle.spec_net.specs.Net.{Delta}
use Rattle.work_plan.specs.Ends.{change_packet}
use Rattle.work_plan.proofs.EndsLemmas.{verdict_says, change_end, change_made}
use Rattle.work_plan.proofs.hearing.hear_change.Goals as goal

pub returns-in-Ok-clause-takes : goal.returns-in-Ok-clause-takes
returns-in-Ok-clause-takes c p q l hs e brought at_q at_p =
    let old = c.args.ends.now in
    let x = change_packet c.args.from.now c.args.to.now c.args.seq in
    let take : c.verdict-verdict.result ≡ Take = search rules in
    let full : c.stamp_of-stamp.result.full ≡ false = ap (λ (s : Stamp). s.full) c.stamp_of-stamp.ensures in
    let place = ap (λ (s : Stamp). s.place) c.stamp_of-stamp.ensures in
    let word = ap told_as (sym take) ∙ verdict_says Delta old p q l hs x c.stamp_of-stamp.result c.verdict-verdict.result c.words_are_one.ensures.delta e refl c.stamp_of-stamp.ensures c.requires c.verdict-verdict.ensures in
    change_end old c.take_delta.new.self p q l hs c.args.from.now c.args.to.now c.args.seq c.args.change.now c.stamp_of-stamp.result e brought at_q at_p c.requires place full
    (sym (ap (λ y. y.seq) place) ∙ c.in-Ok.ensures.next full) word c.in-Ok.ensures.takes c.in-Ok.ensures.rest

pub returns-in-Ok-word_of-clause-takes : goal.returns-in-Ok-word_of-clause-takes
returns-in-Ok-word_of-clause-takes c p q l hs e brought at_q at_p =
    let old = c.args.ends.now in
    let full : c.stamp_of-stamp.result.full ≡ false = ap (λ (s : Stamp). s.full) c.stamp_of-stamp.ensures in
    let place = ap (λ (s : Stamp). s.place) c.stamp_of-stamp.ensures in
    absurd (change_made old p q l hs c.args.from.now c.args.to.now c.args.seq c.args.change.now c.in-Err.fault e brought at_q at_p c.requires (sym (ap (λ y. y.seq) place) ∙ c.in-Err.ensures.next full) c.in-Err.ensures.takes.1 c.in-Ok-word_of.ensures)
