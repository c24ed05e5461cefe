-- The words of the two ends of a channel and those of the net.
use Rattle.std.proofs.Common.{zero, suc, ◌≡◌, ℕ, ◌+◌, ◌-◌, Bool, true, false, cond, not, nat_eq, nat_lt, min, List, [], ◌∷◌, ◌++◌, map, refl, sym, ◌∙◌, ap, subst, arith}
use Rattle.std.specs.Prelude.{◌&&◌, ◌||◌, if◌then◌else◌}
use Rattle.std.proofs.lemmas.Bool.Decides.{nat_tests}
use Rattle.std.proofs.lemmas.List.{map-append}
use Rattle.fuxi_terms.specs.Limits.{kept_changes, turn_deltas}
use Rattle.fuxi_terms.specs.Lists.{numbers_from}
use Rattle.fuxi_terms.specs.declared.answers.What.TheVariants.{Stale as SaysStale, NotMine as SaysNotMine, Old as SaysOld, Gap as SaysGap, Taken as SaysTaken}
use Rattle.delta_channel.specs.Hearing.{verdict_of}
use Rattle.delta_channel.specs.declared.receiver.Verdict.TheVariants.{Take, Old, Gap, NotMine, Stale}
use Rattle.full_sync.specs.Turns.{MarkFull, MarkDelta, MarkAck, news, turn_of, acked_after}
use Rattle.spec_net.specs.Net.{Party, Id, Link, Packet, Kind, Ack, Delta, Full, met, acknowledge, word_of, notes, turn_packets}
use Rattle.channel_refinement.specs.Alike.{place_at, met_place, place_of, stamp_of, told_as, mark_as}

-- the Deltas from an index on
deltas_marked : (p to : Party) (n k : ℕ) → map mark_as (map (λ n. record { from = p; to = to; kind = Delta; inc = p.inc; seq = n }) (numbers_from n k)) ≡ map MarkDelta (numbers_from n k)
deltas_marked p to n zero = refl
deltas_marked p to n (suc k) = ap (λ ms. MarkDelta n ∷ ms) (deltas_marked p to (n + 1) k)

-- the news of a turn
notes_marked : (p to : Party) (last : ℕ) (l : Link) → map mark_as (notes p to last l) ≡ news l.known last l.acked
notes_marked p to last l = by (nat_eq l.known 0) (nat_eq last 0) (nat_eq l.acked last) (nat_eq l.acked 0 || nat_lt kept_changes (last - l.acked))
  where
    whole : List Packet
    whole = record { from = p; to = to; kind = Full; inc = p.inc; seq = last } ∷ []

    changes : List Packet
    changes = map (λ n. record { from = p; to = to; kind = Delta; inc = p.inc; seq = n }) (numbers_from (l.acked + 1) (min turn_deltas (last - l.acked)))

    by : (a b c d : Bool) → map mark_as (cond (a || (b || c)) [] (cond d whole changes)) ≡ cond (a || b || c) [] (cond d (MarkFull last ∷ []) (map MarkDelta (numbers_from (l.acked + 1) (min turn_deltas (last - l.acked)))))
    by true b c d = refl
    by false true c d = refl
    by false false true d = refl
    by false false false true = refl
    by false false false false = deltas_marked p to (l.acked + 1) (min turn_deltas (last - l.acked))

-- a turn
pub turn_marked : (p : Party) (q : Id) (last : ℕ) (l : Link) → map mark_as (turn_packets p q last l) ≡ turn_of last l.acked (place_at l)
turn_marked p q last l =
    let to : Party = record { id = q; inc = l.known } in
    map-append mark_as (notes p to last l) (record { from = p; to = to; kind = Ack; inc = l.known; seq = l.seq } ∷ []) ∙ ap (λ ms. ms ++ MarkAck (place_at l) ∷ []) (notes_marked p to last l)

-- the words of a whole ledger
pub full_word : (own : ℕ) (l : Link) (x : Packet) → x.kind ≡ Full → told_as (verdict_of own (place_at l) (stamp_of x)) ≡ cond (nat_lt x.from.inc l.known) SaysStale (word_of Full own l x)
full_word own l x e = subst (λ k. told_as (verdict_of own (place_at l) (record { from = x.from.inc; to = x.to.inc; full = full_of k; place = place_of x })) ≡ cond (nat_lt x.from.inc l.known) SaysStale (word_of Full own l x)) (sym e)
    (by (nat_lt x.from.inc l.known) (nat_eq x.to.inc own) (nat_lt l.seq x.seq))
  where
    full_of : Kind → Bool
    full_of k = (stamp_of (record { from = x.from; to = x.to; kind = k; inc = x.inc; seq = x.seq })).full

    by : (a b c : Bool) → told_as (if a then Stale else (if not b then NotMine else (if true then (if c then Take else Old) else Old))) ≡ cond a SaysStale (cond (not b) SaysNotMine (cond c SaysTaken SaysOld))
    by true b c = refl
    by false false c = refl
    by false true true = refl
    by false true false = refl

-- the words of a change: both tests say that it is the next one, and that the place is not before the first
pub delta_word : (own : ℕ) (l : Link) (x : Packet) → x.kind ≡ Delta → told_as (verdict_of own (place_at l) (stamp_of x)) ≡ cond (nat_lt x.from.inc l.known) SaysStale (word_of Delta own l x)
delta_word own l x e = subst (λ k. told_as (verdict_of own (place_at l) (record { from = x.from.inc; to = x.to.inc; full = full_of k; place = place_of x })) ≡ cond (nat_lt x.from.inc l.known) SaysStale (word_of Delta own l x)) (sym e)
    (by (nat_lt x.from.inc l.known) (nat_eq x.to.inc own) (nat_eq (l.seq + 1) x.seq && not (nat_eq l.seq 0)) (nat_eq x.seq (l.seq + 1) && nat_lt 1 x.seq) (nat_lt l.seq x.seq) (grind (arith, nat_tests)))
  where
    full_of : Kind → Bool
    full_of k = (stamp_of (record { from = x.from; to = x.to; kind = k; inc = x.inc; seq = x.seq })).full

    by : (a b c d n : Bool) → c ≡ d → told_as (if a then Stale else (if not b then NotMine else (if c then Take else (if n then Gap else Old)))) ≡ cond a SaysStale (cond (not b) SaysNotMine (cond d SaysTaken (cond n SaysGap SaysOld)))
    by true b c d n s = refl
    by false false c d n s = refl
    by false true true true n s = refl
    by false true true false n s = cc
    by false true false true n s = cc
    by false true false false true s = refl
    by false true false false false s = refl

-- meeting
pub met_alike : (l : Link) (inc : ℕ) → met_place (place_at l) inc ≡ place_at (met l inc)
met_alike l inc = by (nat_lt l.known inc)
  where
    by : (b : Bool) → (if b then record { inc = inc; seq = 0 } else place_at l) ≡ place_at (cond b (record { known = inc; seq = 0; acked = 0 }) l)
    by true = refl
    by false = refl

-- an acknowledgement
pub acked_place : (own last : ℕ) (l : Link) (x : Packet) → (acknowledge own last l x).acked ≡ acked_after own last l.acked (place_of x)
acked_place own last l x = by (nat_eq x.inc own) (nat_lt l.acked x.seq) (not (nat_lt last x.seq))
  where
    by : (a b c : Bool) → (cond (a && (b && c)) (record { known = l.known; seq = l.seq; acked = x.seq }) l).acked ≡ cond (a && b && c) x.seq l.acked
    by true true true = refl
    by true true false = refl
    by true false c = refl
    by false b c = refl
