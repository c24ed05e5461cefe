-- One end of a channel as its party tells it.
use Rattle.std.specs.Prelude.{◌≡◌, ℕ, Bool, ◌&&◌, nat_eq, nat_lt, length}
use Rattle.spec_net.specs.Sides.{Side}
use Rattle.fuxi_master.specs.Readers.{place_of}
use Rattle.schedule_replay.specs.declared.ends.End.{End}

-- it is what a party of this incarnation has of a side
pub record IsEnd (x : End) (inc : ℕ) (e : Side) : Type 0 where
  pub own : x.own ≡ inc
  pub place : x.place ≡ place_of e
  pub last : x.last ≡ length e.sent

-- the receiver has come to the end of what the sender of this incarnation sent, which has an entry
abbrev pub has_heard_all : End → End → Bool
has_heard_all s r = nat_eq r.place.inc s.own && (nat_eq r.place.seq s.last && nat_lt 0 s.last)
