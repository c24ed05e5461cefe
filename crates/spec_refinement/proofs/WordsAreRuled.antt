-- The word for a packet of the world is one of the rules of hearing.
use Rattle.std.proofs.Common.{ℕ, ◌+◌, Bool, true, false, cond, not, nat_eq, nat_lt}
use Rattle.std.specs.Prelude.{◌&&◌}
use Rattle.fuxi_terms.specs.declared.answers.What.TheVariants.{Stranger, Stale, NotMine, Old, Gap, Taken}
use Rattle.spec_net.specs.Net.{Party, Link, Packet, Kind, Ack, Delta, Full, met, unmoved, same_id, word_of, hear, hear_peer}
use Rattle.spec_refinement.specs.SeenParties.{IsRuled}

word_ruled : (k : Kind) (own : ℕ) (l : Link) (x : Packet) → IsRuled (word_of k own l x)
word_ruled Ack own l x = tt
word_ruled Full own l x = by (not (nat_eq x.to.inc own)) (nat_lt l.seq x.seq)
  where
    by : (a b : Bool) → IsRuled (cond a NotMine (cond b Taken Old))
    by true b = tt
    by false true = tt
    by false false = tt
word_ruled Delta own l x = by (not (nat_eq x.to.inc own)) (nat_eq x.seq (l.seq + 1) && nat_lt 1 x.seq) (nat_lt l.seq x.seq)
  where
    by : (a b d : Bool) → IsRuled (cond a NotMine (cond b Taken (cond d Gap Old)))
    by true b d = tt
    by false true d = tt
    by false false true = tt
    by false false false = tt

pub hear_ruled : (p : Party) (talks : Bool) (top : ℕ) (l : Link) (x : Packet) → IsRuled (hear p talks top l x).what
hear_ruled p talks top l x = by (not (same_id x.to.id p.id && talks)) (nat_lt x.from.inc l.known)
  where
    by : (a b : Bool) → IsRuled (cond a (unmoved Stranger l) (cond b (unmoved Stale l) (hear_peer p.inc top l x))).what
    by true b = tt
    by false true = tt
    by false false = word_ruled x.kind p.inc (met l x.from.inc) x
