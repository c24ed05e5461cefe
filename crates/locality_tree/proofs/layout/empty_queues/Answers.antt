use Rattle.std.proofs.Common.{◌+◌, length, List, sym, ap, subst, ◌∙◌}
use Rattle.std.specs.List.{AllByRecursion}
use Rattle.std.proofs.lemmas.List.{length_push}
use Rattle.fuxi_terms.proofs.Lists.{all_push}
use Rattle.wait_queue.specs.declared.queue.Queue.{Queue}
use Rattle.locality_tree.specs.Layouts.{IsEmptyQueue}
use Rattle.locality_tree.proofs.layout.empty_queues.Goals as goal

pub loop-preserved : goal.loop-preserved
loop-preserved c = record {
  count = ap length c.in_ok-push.ensures.items ∙ length_push c.loop.queues.items c.new.result ∙ ap (λ n. n + 1) c.loop.invariant.count;
  empty = subst (λ (qs : List Queue). AllByRecursion IsEmptyQueue qs) (sym c.in_ok-push.ensures.items) (all_push IsEmptyQueue c.loop.queues.items c.new.result c.loop.invariant.empty (c.new.ensures.stands, c.new.ensures.order));
}
