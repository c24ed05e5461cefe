use Rattle.std.proofs.Common.{◌≡◌, ℕ, Some, slice_get, slice_range, sym, subst}
use Rattle.schedule_replay.specs.FrameEnds.{frames_in}
use Rattle.schedule_replay.proofs.FrameEndsLemmas.{frame_of}
use Rattle.schedule_replay.proofs.frame_ends.frame_at.Goals as goal

pub returns : goal.returns
returns c = subst (λ (b : ℕ × ℕ). slice_get (frames_in c.args.bytes.now c.args.ends.now) c.args.at ≡ Some (slice_range c.args.bytes.now b.0 b.1)) (sym c.bounds_of-start.ensures.is) (frame_of c.args.bytes.now c.args.ends.now c.args.at c.requires.there)
