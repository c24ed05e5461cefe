-- Histories that grow leave what ends and packets stand for.
use Rattle.std.proofs.Common.{◌≡◌, ℕ, zero, suc, ◌+◌, ◌-◌, ◌<◌, ◌≤◌, Bool, true, false, List, [], ◌∷◌, ◌++◌, length, Option, Some, None, IsSome, Result, Ok, Err, OnOk, slice_get, get_or, refl, sym, ◌∙◌, ap, subst, arith, append-nil, length-append}
use Rattle.std.specs.Option.{is_some, unwrap_or}
use Rattle.fuxi_terms.specs.Counts.{is_same}
use Rattle.fuxi_terms.specs.Keys.{key_cmp}
use Rattle.fuxi_terms.specs.Tallies.{TallyRecord, ChangeRecord, empty_tally}
use Rattle.fuxi_terms.proofs.KeyOrders.{key_total}
use Rattle.fuxi_terms.proofs.Lists.{got_grown}
use Rattle.fuxi_terms.proofs.SameEntries.{same_itself}
use Rattle.delta_channel.specs.Hearing.{HasEntry}
use Rattle.delta_channel.specs.Standing.{StandsFor}
use Rattle.full_sync.specs.Turns.{Endpoint}
use Rattle.full_sync.specs.declared.duplex.Note.{Note}
use Rattle.full_sync.specs.declared.duplex.Note.TheVariants.{Delta, Full, Ack}
use Rattle.spec_net.specs.Net.{Party, Id, Link, at_index}
use Rattle.work_plan.specs.WorkSettling.{published}
use Rattle.work_plan.specs.AgentWithApps.{present}
use Rattle.work_plan.specs.declared.ends.Parcel.{Parcel}
use Rattle.work_plan.specs.Ends.{IsEnd, Brought, NoteBrought, histories, packet_of, note_packet, party_of, patched_names}

-- so much stands behind a history
pub record Grown (h h' : List TallyRecord) : Type 0 where
  pub more : List TallyRecord
  pub is : h' ≡ h ++ more

pub same_grown : (h h' : List TallyRecord) → h' ≡ h → Grown h h'
same_grown h h' e = record { more = []; is = e ∙ sym (append-nil h) }

pub published_grown : (h : List TallyRecord) (t : TallyRecord) → Grown h (published h t)
published_grown h t = elim (is_same key_cmp (present h).entries t.entries) as (λ b. Grown h (elim b as (λ _. List TallyRecord) [ true ↦ h | false ↦ h ++ t ∷ [] ])) [ true ↦ same_grown h h refl | false ↦ record { more = t ∷ []; is = refl } ]

-- what differs in nothing is not appended
pub published_same : (h : List TallyRecord) (t : TallyRecord) → (present h).entries ≡ t.entries → published h t ≡ h
published_same h t e = ap (λ b. elim b as (λ _. List TallyRecord) [ true ↦ h | false ↦ h ++ t ∷ [] ]) (ap (λ es. is_same key_cmp (present h).entries es) (sym e) ∙ same_itself key_total (present h).entries)

got_more : (xs ys : List TallyRecord) (i : ℕ) (v : TallyRecord) → slice_get xs i ≡ Some v → slice_get (xs ++ ys) i ≡ Some v
got_more [] ys i v e = cc
got_more (x ∷ xs) ys zero v e = e
got_more (x ∷ xs) ys (suc i) v e = got_more xs ys i v e

pub entry_is : (h : List TallyRecord) (n : ℕ) (v : TallyRecord) → slice_get (empty_tally ∷ h) n ≡ Some v → at_index empty_tally h n ≡ v
entry_is h zero v e = cc
entry_is h (suc n) v e = ap (λ o. unwrap_or o empty_tally) e

-- the last entry of a history is the ledger that is sent
pub present_is : (d : Endpoint TallyRecord ChangeRecord TallyRecord) (p : Party) (q : Id) (l : Link) (hs : histories) → IsEnd d p q l hs → present (hs p q) ≡ d.outgoing.present
present_is d p q l hs e = entry_is (hs p q) (length (hs p q)) d.outgoing.present (subst (λ n. slice_get (empty_tally ∷ hs p q) n ≡ Some d.outgoing.present) e.last e.stands.at_last)

-- what was received is the entry at the place
pub received_is : (d : Endpoint TallyRecord ChangeRecord TallyRecord) (p : Party) (q : Id) (l : Link) (hs : histories) → IsEnd d p q l hs → at_index empty_tally (hs (record { id = q; inc = l.known }) p.id) l.seq ≡ d.incoming.received
received_is d p q l hs e = entry_is (hs (record { id = q; inc = l.known }) p.id) l.seq d.incoming.received (ap (λ y. slice_get (empty_tally ∷ hs (record { id = q; inc = l.known }) p.id) y.seq) (sym e.place) ∙ e.entry)

-- an end stands for a longer history of its peer
pub end_grows : (d : Endpoint TallyRecord ChangeRecord TallyRecord) (p : Party) (q : Id) (l : Link) (hs hs' : histories) → IsEnd d p q l hs → hs' p q ≡ hs p q → Grown (hs (record { id = q; inc = l.known }) p.id) (hs' (record { id = q; inc = l.known }) p.id) → IsEnd d p q l hs'
end_grows d p q l hs hs' e own theirs = record {
  own = e.own;
  also = e.also;
  apart = e.apart;
  place = e.place;
  acked = e.acked;
  last = e.last ∙ ap length (sym own);
  stands = subst (λ h. StandsFor empty_tally patched_names d.outgoing (empty_tally ∷ h)) (sym own) e.stands;
  entry = subst (λ h. HasEntry d.incoming (empty_tally ∷ h)) (sym theirs.is) (got_more (empty_tally ∷ hs (record { id = q; inc = l.known }) p.id) theirs.more d.incoming.place.seq d.incoming.received e.entry);
}

longer : (h more : List TallyRecord) (n : ℕ) → n ≤ length h → n ≤ length (h ++ more)
longer h more n le = let long = length-append h more in omega (arith, long, le)

-- a packet brings what it brought
pub brought_grows : (hs hs' : histories) → ((p : Party) (q : Id) → Grown (hs p q) (hs' p q)) → (x : Parcel) → Brought hs x → Brought hs' x
brought_grows hs hs' grown x b = by x.note b
  where
    by : (n : Note TallyRecord ChangeRecord) → NoteBrought hs (note_packet x.from x.to n) n → NoteBrought hs' (note_packet x.from x.to n) n
    by (Full n names) b = let y = note_packet x.from x.to (Full n names) in let g = grown y.from y.to.id in
        subst (λ h. slice_get (empty_tally ∷ h) n ≡ Some names) (sym g.is) (got_more (empty_tally ∷ hs y.from y.to.id) g.more n names b)
    by (Delta n change) b = let y = note_packet x.from x.to (Delta n change) in let g = grown y.from y.to.id in let h = hs y.from y.to.id in
        let there = b.there in
        let first = b.first in
        record {
          leads = λ old new at next.
              let before = got_grown (empty_tally ∷ h) g.more (n - 1) (omega (arith, there, first)) in
              let behind = got_grown (empty_tally ∷ h) g.more (n - 1 + 1) (omega (arith, there, first)) in
              b.leads old new (sym before ∙ ap (λ k. slice_get (empty_tally ∷ k) (n - 1)) (sym g.is) ∙ at) (sym behind ∙ ap (λ k. slice_get (empty_tally ∷ k) (n - 1 + 1)) (sym g.is) ∙ next);
          first = b.first;
          there = subst (λ k. n ≤ length k) (sym g.is) (longer h g.more n b.there);
        }
    by (Ack place) b = tt

-- which parties a packet names
pub packet_from : (x : Parcel) → (packet_of x).from ≡ party_of x.from
packet_from x = by x.note
  where
    by : (n : Note TallyRecord ChangeRecord) → (note_packet x.from x.to n).from ≡ party_of x.from
    by (Full n names) = refl
    by (Delta n change) = refl
    by (Ack place) = refl

pub packet_to : (x : Parcel) → (packet_of x).to ≡ party_of x.to
packet_to x = by x.note
  where
    by : (n : Note TallyRecord ChangeRecord) → (note_packet x.from x.to n).to ≡ party_of x.to
    by (Full n names) = refl
    by (Delta n change) = refl
    by (Ack place) = refl

-- nothing stands beyond a list
pub beyond : {A : Type 0} (xs : List A) (i : ℕ) (d : A) → length xs ≤ i → get_or xs i d ≡ d
beyond [] i d le = refl
beyond (x ∷ xs) zero d le = absurd (omega (arith, le))
beyond (x ∷ xs) (suc i) d le = beyond xs i d (omega (arith, le))

pub on_ok_both : {T E : Type 0} (P Q : Type 0) (r : Result T E) → OnOk r P → OnOk r Q → OnOk r (P × Q)
on_ok_both P Q (Ok x) p q = (p, q)
on_ok_both P Q (Err e) p q = tt

-- what stands at a number stands within the list
pub within : {A : Type 0} (xs : List (Option A)) (i : ℕ) (x : A) → get_or xs i None ≡ Some x → i < length xs
within [] i x e = absurd (let no : ⊥ = cc in no)
within (y ∷ ys) zero x e = omega arith
within (y ∷ ys) (suc i) x e = let lt = within ys i x e in omega (arith, lt)

pub at_there : {A : Type 0} (xs : List (Option A)) (i : ℕ) (v : Option A) → IsSome (get_or xs i None) → v ≡ get_or xs i v → get_or xs i None ≡ v
at_there [] i v there e = let bad : ◌≡◌ {A = Bool} false true = there in absurd (let no : ⊥ = cc in no)
at_there (x ∷ xs) zero v there e = sym e
at_there (x ∷ xs) (suc i) v there e = at_there xs i v there e

pub not_there : {A : Type 0} (o : Option A) → is_some o ≡ false → o ≡ None
not_there None e = refl
not_there (Some x) e = cc

pub got_at : {A : Type 0} (xs : List A) (i : ℕ) (x : A) → i < length xs → x ≡ get_or xs i x → slice_get xs i ≡ Some x
got_at [] i x lt e = absurd (omega (arith, lt))
got_at (y ∷ ys) zero x lt e = ap Some (sym e)
got_at (y ∷ ys) (suc i) x lt e = got_at ys i x (omega (arith, lt)) e
