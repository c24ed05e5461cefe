-- What a header that has no fault says, and where its frame ends.
use Rattle.std.specs.Prelude.{◌≡◌, ℕ, ◌+◌, ◌≤◌, List, length, Some, None, IsTrue}
use Rattle.party_ledgers.specs.Packets.{are_parties, is_place_of}
use Rattle.wire_frames.specs.Frames.{version, HaveRoom}
use Rattle.wire_frames.specs.ReadFrames.{header_fault, length_in, version_in, kind_in, sender_in, receiver_in, place_in}
use Rattle.wire_frames.specs.declared.read.Front.{Front}

pub record IsFront (bytes : List ℕ) (f : Front) : Type 0 where
  pub right : header_fault bytes ≡ None
  pub whole : f.end ≤ length bytes
  pub end : f.end ≡ 4 + length_in bytes
  pub body : 48 ≤ f.end
  pub first : version_in bytes ≡ version
  pub kind_is : kind_in bytes ≡ Some f.header.kind
  pub from_is : sender_in bytes ≡ Some f.header.from
  pub to_is : receiver_in bytes ≡ Some f.header.to
  pub place_is : place_in bytes ≡ f.header.place
  pub parties : IsTrue (are_parties f.header.from f.header.to)
  pub fits : IsTrue (is_place_of f.header.kind f.header.from.inc f.header.place)
  pub room : HaveRoom f.header.from f.header.to f.header.place
