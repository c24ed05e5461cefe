use Rattle.wait_queue.proofs.QueuesLemmas.{order_parts, rank_rises, apart_turned}
use Rattle.wait_queue.proofs.law.orders.Goals as goal

pub returns : goal.returns
returns c = record { parts = order_parts; rises = rank_rises; apart = apart_turned }
