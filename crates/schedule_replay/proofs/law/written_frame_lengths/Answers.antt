use Rattle.std.proofs.Common.{◌≡◌, ◌+◌, refl, ap, ◌∙◌}
use Rattle.party_ledgers.specs.declared.packets.Body.{Body}
use Rattle.party_ledgers.specs.declared.packets.Body.TheVariants.{Nothing, Row, RowDelta, Join, Grants, GrantsDelta, Demand, DemandDelta}
use Rattle.wire_frames.specs.Frames.{body_length as length_here}
use Rattle.spec_net.specs.Ledgers.{body_length}
use Rattle.peer_channel.specs.Parcels.{content_of}
use Rattle.schedule_replay.proofs.law.written_frame_lengths.Goals as goal

same_length : (b : Body) → length_here b ≡ body_length (content_of b)
same_length Nothing = refl
same_length (Row row) = refl
same_length (RowDelta change) = refl
same_length (Join join) = refl
same_length (Grants tally) = refl
same_length (GrantsDelta change) = refl
same_length (Demand tally) = refl
same_length (DemandDelta change) = refl

pub returns : goal.returns
returns c = λ x bytes f. c.frame_lengths.ensures x bytes f ∙ ap (λ n. 48 + n) (same_length x.body)
