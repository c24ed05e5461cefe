use Rattle.full_sync.proofs.TurnsLemmas.{marks_more}
use Rattle.fuxi_terms.proofs.Lists.{all_push}
use Rattle.full_sync.proofs.duplex.changes_from.Goals as goal

pub loop-offset-preserved : goal.loop-offset-preserved
loop-offset-preserved g c = record {
  marks = marks_more _ _ c.args.first c.loop-offset.offset _ c.loop-offset.invariant.marks c.in_ok-push.ensures.items;
  sends = rw c.in_ok-push.ensures.items (all_push _ _ _ c.loop-offset.invariant.sends (rw c.in_ok-change.ensures c.kept.ensures.place));
  brings = λ history stands. rw c.in_ok-push.ensures.items (all_push _ _ _ (c.loop-offset.invariant.brings history stands) (rw c.in_ok-change.ensures (c.kept.ensures.stands history stands)));
}
