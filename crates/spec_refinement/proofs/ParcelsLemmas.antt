-- What packets hold stays while histories grow, and a turn's packets hold what the sender's side has.
use Rattle.std.proofs.Common.{◌≡◌, ℕ, ◌-◌, Bool, true, false, cond, nat_eq, nat_lt, List, [], ◌∷◌, ◌++◌, length, map, refl, sym, ◌∙◌, ap, arith, min}
use Rattle.std.specs.Prelude.{◌||◌, ◌+◌}
use Rattle.std.proofs.lemmas.List.{map-append}
use Rattle.std.specs.List.{AllByRecursion}
use Rattle.fuxi_terms.specs.Lists.{numbers_from}
use Rattle.spec_net.specs.Sides.{Parcel, turn_parcels}
use Rattle.spec_net.specs.Net.{Net, Party, Id, Link, Packet, Kind, Ack, Delta, Full, notes, turn}
use Rattle.spec_refinement.specs.SeenWorlds.{side_of, parcel_of}
use Rattle.fuxi_terms.specs.Limits.{kept_changes, turn_deltas}
use Rattle.spec_net.specs.Ledgers.{Ledger, whole_body, change_body}
use Rattle.spec_net.specs.Channels.{is_agent, dropped_by, body_in, body_of, shape}
use Rattle.spec_net.specs.Sound.{PacketNames}
use Rattle.spec_net.proofs.SoundLemmas.{Grows}

body_stays : (net net' : Net Ledger) → Grows shape net.histories net'.histories → (k : Kind) (x : Packet) → PacketNames shape net.histories k x → body_of net' k x ≡ body_of net k x
body_stays net net' g Ack x h = refl
body_stays net net' g Full x h = ap (whole_body (is_agent x.to.id) (is_agent x.from.id)) ((g.longer x.from x.to.id).same x.seq h.names.there)
body_stays net net' g Delta x h =
    let l = g.longer x.from x.to.id in
    let before = l.same (x.seq - 1) (omega (arith, h.names.there)) in
    let here = l.same x.seq h.names.there in
    λ i. change_body (is_agent x.to.id) (is_agent x.from.id) (dropped_by x.from.id) (before i) (here i)

-- old packets hold what they held
pub parcels_stay : (net net' : Net Ledger) → Grows shape net.histories net'.histories → (xs : List Packet) → AllByRecursion (λ x. PacketNames shape net.histories x.kind x) xs → map (parcel_of net') xs ≡ map (parcel_of net) xs
parcels_stay net net' g [] h = refl
parcels_stay net net' g (x ∷ xs) h =
    let b = body_stays net net' g x.kind x h.0 in
    let r = parcels_stay net net' g xs h.1 in
    λ i. record { packet = x; body = b i } ∷ r i

map_both : {A B C : Type 0} (f g : B → C) (h : A → B) → ((a : A) → f (h a) ≡ g (h a)) → (xs : List A) → map f (map h xs) ≡ map g (map h xs)
map_both f g h same [] = refl
map_both f g h same (x ∷ xs) = let r = map_both f g h same xs in λ i. same x i ∷ r i

-- the packets of a turn hold what the side's do
pub turn_parcels_alike : (net : Net Ledger) (p : Party) (q : Id) → map (parcel_of net) (turn net p q) ≡ turn_parcels p q (side_of net p q)
turn_parcels_alike net p q =
    let e = side_of net p q in
    let to : Party = record { id = q; inc = e.link.known } in
    let news = notes p to (length e.sent) e.link in
    let ack : Packet = record { from = p; to = to; kind = Ack; inc = e.link.known; seq = e.link.seq } in
    let f : Packet → Parcel = parcel_of net in
    let g : Packet → Parcel = λ x. record { packet = x; body = body_in p.id q e.sent x.kind x.seq } in
    let lists = cases f g to (length e.sent) e.link (nat_eq e.link.known 0 || (nat_eq (length e.sent) 0 || nat_eq e.link.acked (length e.sent))) (nat_eq e.link.acked 0 || nat_lt kept_changes (length e.sent - e.link.acked)) refl (λ n. refl) in
    map-append f news (ack ∷ []) ∙ ap (λ l. l ++ f ack ∷ []) lists ∙ sym (map-append g news (ack ∷ []))
  where
    cases : (f g : Packet → Parcel) (to : Party) (top : ℕ) (l : Link) (a b : Bool) → f (record { from = p; to = to; kind = Full; inc = p.inc; seq = top }) ≡ g (record { from = p; to = to; kind = Full; inc = p.inc; seq = top })
        → ((n : ℕ) → f (record { from = p; to = to; kind = Delta; inc = p.inc; seq = n }) ≡ g (record { from = p; to = to; kind = Delta; inc = p.inc; seq = n }))
        → map f (cond a [] (cond b (record { from = p; to = to; kind = Full; inc = p.inc; seq = top } ∷ []) (map (λ n. record { from = p; to = to; kind = Delta; inc = p.inc; seq = n }) (numbers_from (l.acked + 1) (min turn_deltas (top - l.acked))))))
        ≡ map g (cond a [] (cond b (record { from = p; to = to; kind = Full; inc = p.inc; seq = top } ∷ []) (map (λ n. record { from = p; to = to; kind = Delta; inc = p.inc; seq = n }) (numbers_from (l.acked + 1) (min turn_deltas (top - l.acked))))))
    cases f g to top l true b full delta = refl
    cases f g to top l false true full delta = λ i. full i ∷ []
    cases f g to top l false false full delta = map_both f g (λ n. record { from = p; to = to; kind = Delta; inc = p.inc; seq = n }) delta (numbers_from (l.acked + 1) (min turn_deltas (top - l.acked)))
