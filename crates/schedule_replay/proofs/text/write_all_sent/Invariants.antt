use Rattle.std.proofs.Common.{◌≡◌, ◌++◌, List, map, take}
use Rattle.peer_channel.specs.Parcels.{parcel_is}
use Rattle.spec_net.specs.Net.{Net, Packet as WrittenPacket}
use Rattle.spec_net.specs.Ledgers.{Ledger}
use Rattle.spec_refinement.specs.SeenWorlds.{parcel_of}
use Rattle.spec_world.specs.Outputs.{sent_lines}
use Rattle.schedule_replay.specs.ReplayTexts.{lines_text}
use Rattle.schedule_replay.proofs.text.write_all_sent.Given as goal

-- the lines of so many packets are written
abbrev pub invariant-loop-place : goal.invariant-loop-place
invariant-loop-place l = record {
  text : (net : Net Ledger) (xs : List WrittenPacket) → map parcel_is l.packets ≡ map (parcel_of net) xs → l.out.items ≡ l.fn.out.items ++ lines_text (sent_lines net l.first (take l.place xs));
}
