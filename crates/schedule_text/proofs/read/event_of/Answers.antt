use Rattle.std.proofs.Common.{arith}
use Rattle.schedule_text.proofs.read.event_of.Goals as goal

pub split_at-requires : goal.split_at-requires
split_at-requires c = rw c.as_slice.ensures (omega (arith, c.few_words.ensures.places, c.in-Some.ensures.words.0))
