-- From one slot to the world.
use Rattle.std.proofs.Common.{◌≡◌, ℕ, ◌+◌, ◌<◌, ◌≤◌, Bool, true, false, cond, nat_eq, List, [], slice_get, Option, Some, None, is_some, Result, Ok, Err, refl, sym, ◌∙◌, ap, subst, arith}
use Rattle.std.specs.Prelude.{IfOk, IfSome, IsSome, OnErr}
use Rattle.std.specs.BTreeMap.{is_at}
use Rattle.std.specs.Cmp.{unsigned_tied}
use Rattle.std.specs.Ordering.{nat_cmp, is_eq}
use Rattle.fuxi_terms.specs.Cluster.{ClusterRecord}
use Rattle.fuxi_terms.specs.Limits.{most_steps}
use Rattle.fuxi_terms.proofs.Booleans.{false_right, nat_itself, number_is}
use Rattle.party_ledgers.specs.Packets.{IsFormed}
use Rattle.party_ledgers.specs.PacketHeaders.{header_of}
use Rattle.party_ledgers.specs.declared.header.Header.{Header}
use Rattle.party_ledgers.specs.declared.packets.Heard.{Heard}
use Rattle.party_ledgers.specs.declared.packets.Packet.{Packet}
use Rattle.spec_net.specs.Net.{Packet as WrittenPacket}
use Rattle.spec_net.specs.Channels.{agent_id, app_id}
use Rattle.spec_net.specs.Sides.{Parcel}
use Rattle.spec_world.specs.World.{World, empty_world}
use Rattle.spec_world.specs.Good.{Good}
use Rattle.spec_refinement.specs.SeenWorlds.{parcel_of}
use Rattle.spec_refinement.specs.Leading.{AllLead}
use Rattle.spec_refinement.specs.SeenParties.{Kind, Masters, Agents, Apps, kind_number, is_same, IsFor, boot_of, Role, hears, resynced, seen, Acts, Keeps, IsRuled, ComesTo, TakesTurn, Resyncs, turn_of}
use Rattle.running_parties.specs.PartyAnswers.{Hears, HearsAlike, SendsAlike}
use Rattle.running_parties.specs.Slots.{SlotsRecord, entry_at, party_in, boot_in, slot_at, boot_at, IsNow, IsSet, IsStill, IsGone, IsTakenOut, IsActed, IsFailed, IsNone, ActsInSlot, AreWithin, MayStep, StandsAt, AreOf, IsHeardIn, IsLostIn, HearInWorld, TurnsOneIn, TurnInWorld, ResyncsOneIn, ResyncInWorld, StartInWorld, Stays}

-- The laws of the join, as they are called for
abbrev pub HearsJoin : Type 0
HearsJoin = (w : World) (k : Kind) (n which : ℕ) (x : WrittenPacket) → Good w → AllLead w → slice_get w.net.packets which ≡ Some x → IsFor x k n → ComesTo w k n x (seen w k n)

abbrev pub TurnsJoin : Type 0
TurnsJoin = (w : World) (k : Kind) (n : ℕ) → Good w → TakesTurn w k n (seen w k n)

abbrev pub ResyncsJoin : Type 0
ResyncsJoin = (w : World) (k : Kind) (n : ℕ) → Good w → Resyncs w k n (seen w k n)

-- what compares as equal
pub ties : (a b : ℕ) → is_eq (nat_cmp a b) ≡ nat_eq a b
ties a b = unsigned_tied a b

apart : (k : Kind) (n m : ℕ) → nat_eq n m ≡ false → is_same k n k m ≡ false
apart k n m e = false_right (nat_eq (kind_number k) (kind_number k)) (nat_eq n m) e

boot_stays : (w w' : World) (k : Kind) (n : ℕ) → Keeps w w' → boot_of w' k n ≡ boot_of w k n
boot_stays w w' Masters n keeps = refl
boot_stays w w' Agents n keeps = ap (λ b. b (agent_id n)) keeps.boots
boot_stays w w' Apps n keeps = ap (λ b. b (app_id n)) keeps.boots

module _ {P : Type 0} where
  -- What was lent of one slot is written
  pub set_at : (n : ℕ) (o : Option P) (e : Option P × ℕ) (old new : SlotsRecord P) → Some e ≡ entry_at old n → (IsSome (entry_at old n) → (m : ℕ) → entry_at new m ≡ cond (is_at (nat_cmp n) m) (Some (o, e.1)) (entry_at old m)) → IsSet n o (boot_at old n) old new
  set_at n o e old new there written =
      let set = written (subst IsSome there refl) in
      record {
        here = set n ∙ ap (λ t. cond t (Some (o, e.1)) (entry_at old n)) (ties n n ∙ nat_itself n) ∙ ap (λ e. Some (o, boot_in e)) there;
        others = λ m apart. set m ∙ ap (λ t. cond t (Some (o, e.1)) (entry_at old m)) (ties n m ∙ apart);
      }

  pub acted_at : {A E : Type 0} (does : P → Result (P × A) E → Type 0) (n : ℕ) (p q : P) (e : Option P × ℕ) (a : A) (old now new : SlotsRecord P) → old ≡ now → Some e ≡ entry_at old n → Some p ≡ e.0 → does p (Ok (q, a))
      → (IsSome (entry_at old n) → (m : ℕ) → entry_at new m ≡ cond (is_at (nat_cmp n) m) (Some (Some q, e.1)) (entry_at old m)) → IsActed does n now new a
  acted_at does n p q e a old now new same there party made written =
      subst (λ x. IsActed does n x new a) same (record { before = p; was = ap party_in (sym there) ∙ sym party; after = q; made = made; now = set_at n (Some q) e old new there written })

  pub failed_at : {A E : Type 0} (does : P → Result (P × A) E → Type 0) (n : ℕ) (p : P) (o : Option P) (e : Option P × ℕ) (f : E) (old now new : SlotsRecord P) → old ≡ now → Some e ≡ entry_at old n → Some p ≡ e.0 → o ≡ None → does p (Err f)
      → (IsSome (entry_at old n) → (m : ℕ) → entry_at new m ≡ cond (is_at (nat_cmp n) m) (Some (o, e.1)) (entry_at old m)) → IsFailed {A = A} does n now new f
  failed_at {A = A} does n p o e f old now new same there party taken made written =
      subst (λ x. IsFailed {A = A} does n x new f) same
      (record { before = p; was = ap party_in (sym there) ∙ sym party; made = made; now = subst (λ o. IsSet n o (boot_at old n) old new) taken (set_at n o e old new there written) })

  -- one whose core stays is as it was
  pub still_at : (n : ℕ) (p q : P) (old new : SlotsRecord P) → slot_at old n ≡ Some p → q ≡ p → IsSet n (Some q) (boot_at old n) old new → IsStill n old new
  still_at n p q old new was same set = record { here = set.here ∙ ap (λ c. Some (Some c, boot_at old n)) same ∙ by (entry_at old n) was; others = set.others }
    where
      by : (e : Option (Option P × ℕ)) → party_in e ≡ Some p → Some (Some p, boot_in e) ≡ e
      by None is = cc
      by (Some e) is = ap (λ o. Some (o, e.1)) (sym is)

  -- What is taken out of its slot and put back
  pub taken_at : (n : ℕ) (e : Option P × ℕ) (o r : Option P) (old now new : SlotsRecord P) → old ≡ now → Some e ≡ entry_at old n → r ≡ e.0 → o ≡ None → (IsSome (entry_at old n) → (m : ℕ) → entry_at new m ≡ cond (is_at (nat_cmp n) m) (Some (o, e.1)) (entry_at old m)) → IsTakenOut n now new r
  taken_at n e o r old now new same there party taken written = by r party
    where
      set : IsSet n None (boot_at now n) now new
      set = subst (λ x. IsSet n None (boot_at x n) x new) same (subst (λ o. IsSet n o (boot_at old n) old new) taken (set_at n o e old new there written))

      was : slot_at now n ≡ e.0
      was = ap (λ x. slot_at x n) (sym same) ∙ ap party_in (sym there)

      entry : entry_at now n ≡ Some e
      entry = ap (λ x. entry_at x n) (sym same) ∙ sym there

      by : (r : Option P) → r ≡ e.0 → IsTakenOut n now new r
      by None is = record { was = was ∙ sym is; now = record { here = set.here ∙ (λ i. Some (is i, boot_in (entry i))) ∙ sym entry; others = set.others } }
      by (Some p) is = (was ∙ sym is, set)

  pub put_back : (n : ℕ) (q : P) (old mid new : SlotsRecord P) → IsSet n None (boot_at old n) old mid → IsSet n (Some q) (boot_at mid n) mid new → IsSet n (Some q) (boot_at old n) old new
  put_back n q old mid new taken put = record { here = put.here ∙ ap (λ e. Some (Some q, boot_in e)) taken.here; others = λ m apart. put.others m apart ∙ taken.others m apart }

  -- What holds of what a call answers, by whether a party is there
  pub by_answer : {A E : Type 0} (does : P → Result (P × A) E → Type 0) (n : ℕ) (old new : SlotsRecord P) (R : Option A → Type 0) (result : Result (Option A) E) → ActsInSlot does n old new result → (IsNone n old new → R None) → ((a : A) → IsActed does n old new a → R (Some a)) → IfOk result R
  by_answer does n old new R (Ok None) acts none some = none acts
  by_answer does n old new R (Ok (Some a)) acts none some = some a acts
  by_answer does n old new R (Err f) acts none some = tt

  pub gone_at : {A E : Type 0} (does : P → Result (P × A) E → Type 0) (n : ℕ) (old new : SlotsRecord P) (result : Result (Option A) E) → ActsInSlot does n old new result → OnErr result (IsSet n None (boot_at old n) old new)
  gone_at does n old new (Ok None) a = tt
  gone_at does n old new (Ok (Some answer)) a = tt
  gone_at does n old new (Err f) a = a.now

  pub may_do : (steps : P → ℕ) (o : Option P) (p : P) → MayStep steps o → o ≡ Some p → steps p < most_steps
  may_do steps o p may is = subst (MayStep steps) is may

  -- No party took more steps than this, nor the one of the slot
  pub within_now : (steps : P → ℕ) (n : ℕ) (e : Option (Option P × ℕ)) (most l : ℕ) (old new : SlotsRecord P) → IsNow n e old new → most ≤ l → AreWithin steps most old → IfSome (party_in e) (λ p. steps p ≤ l) → AreWithin steps l new
  within_now steps n e most l old new set more within here = record { within = λ m q is. by m q is (nat_eq n m) refl }
    where
      by : (m : ℕ) (q : P) → slot_at new m ≡ Some q → (c : Bool) → nat_eq n m ≡ c → steps q ≤ l
      by m q is true t = subst (λ o. IfSome o (λ p. steps p ≤ l)) (sym (ap party_in set.here) ∙ subst (λ i. slot_at new i ≡ Some q) (sym (number_is n m t)) is) here
      by m q is false t = let le = within.within m q (sym (ap party_in (set.others m t)) ∙ is) in omega (arith, le, more)

  -- it took one step more
  pub within_step : (steps : P → ℕ) (n most : ℕ) (p q : P) (old new : SlotsRecord P) → slot_at old n ≡ Some p → steps q ≤ steps p + 1 → IsSet n (Some q) (boot_at old n) old new → AreWithin steps most old → AreWithin steps (most + 1) new
  within_step steps n most p q old new was more set within = let few = within.within n p was in within_now steps n (Some (Some q, boot_at old n)) most (most + 1) old new set (omega arith) within (omega (arith, more, few))

  -- or none is there then
  pub within_none : (steps : P → ℕ) (n most b : ℕ) (old new : SlotsRecord P) → IsSet n None b old new → AreWithin steps most old → AreWithin steps (most + 1) new
  within_none steps n most b old new set within = within_now steps n (Some (None, b)) most (most + 1) old new set (omega arith) within tt

  pub within_still : (steps : P → ℕ) (n most : ℕ) (old new : SlotsRecord P) → IsNone n old new → AreWithin steps most old → AreWithin steps (most + 1) new
  within_still steps n most old new none within =
      within_now steps n (entry_at old n) most (most + 1) old new none.now (omega arith) within (subst (λ o. IfSome o (λ p. steps p ≤ most + 1)) (sym none.was) tt)

  -- one step more of the one that acts, of none where none is there, and one party less where it fails
  pub within_acts : {A E : Type 0} (steps : P → ℕ) (does : P → Result (P × A) E → Type 0) (n most : ℕ) (old new : SlotsRecord P) (result : Result (Option A) E) → ((p : P) (r : Result (P × A) E) → does p r → IfOk r (λ after. steps after.0 ≤ steps p + 1))
      → ActsInSlot does n old new result → AreWithin steps most old → AreWithin steps (most + 1) new
  within_acts steps does n most old new (Ok None) says a within = within_now steps n (entry_at old n) most (most + 1) old new a.now (omega arith) within (subst (λ o. IfSome o (λ p. steps p ≤ most + 1)) (sym a.was) tt)
  within_acts steps does n most old new (Ok (Some answer)) says a within =
      let few = within.within n a.before a.was in
      let more = says a.before (Ok (a.after, answer)) a.made in
      within_now steps n (Some (Some a.after, boot_at old n)) most (most + 1) old new a.now (omega arith) within (omega (arith, more, few))
  within_acts steps does n most old new (Err f) says a within = within_now steps n (Some (None, boot_at old n)) most (most + 1) old new a.now (omega arith) within tt

  pub within_gone : (steps : P → ℕ) (n most : ℕ) (old new : SlotsRecord P) → IsGone n old new → AreWithin steps most old → AreWithin steps most new
  within_gone steps n most old new gone within = within_now steps n None most most old new gone (omega arith) within tt

  pub wider : (steps : P → ℕ) (most l : ℕ) (x : SlotsRecord P) → AreWithin steps most x → most ≤ l → AreWithin steps l x
  wider steps most l x within more = record { within = λ n p is. let le = within.within n p is in omega (arith, le, more) }

  pub may_step : (steps : P → ℕ) (most : ℕ) (x : SlotsRecord P) (n : ℕ) → AreWithin steps most x → most < most_steps → MayStep steps (slot_at x n)
  may_step steps most x n within few = by (slot_at x n) refl
    where
      by : (o : Option P) → slot_at x n ≡ o → MayStep steps o
      by None e = tt
      by (Some p) e = let le = within.within n p e in omega (arith, le, few)

module _ {P : Type 0} (stands : P → Role → Type 0) where
  -- parties of which there are none stand in the empty world
  pub none_stand : (c : ClusterRecord) (k : Kind) → AreOf stands k (empty_world c) (record { slots = [] })
  none_stand c Masters = record { each = λ n. tt; last = λ n. refl; full = λ n. refl }
  none_stand c Agents = record { each = λ n. tt; last = λ n. refl; full = λ n. refl }
  none_stand c Apps = record { each = λ n. tt; last = λ n. refl; full = λ n. refl }

  -- the party of a number is this one, or none runs, and all others stay
  pub stand_now : (w w' : World) (k : Kind) (n : ℕ) (o : Option Role) (e : Option (Option P × ℕ)) (old new : SlotsRecord P) → AreOf stands k w old → seen w' k n ≡ o → ((m : ℕ) → nat_eq n m ≡ false → seen w' k m ≡ seen w k m)
      → boot_of w' k n ≡ boot_in e → ((m : ℕ) → nat_eq n m ≡ false → boot_of w' k m ≡ boot_of w k m) → StandsAt stands (party_in e) o → is_some e ≡ is_some (party_in e) → IsNow n e old new → AreOf stands k w' new
  stand_now w w' k n o e old new s now others boot boots here whole set = record { each = λ m. each m (nat_eq n m) refl; last = λ m. last m (nat_eq n m) refl; full = λ m. full m (nat_eq n m) refl }
    where
      each : (m : ℕ) (c : Bool) → nat_eq n m ≡ c → StandsAt stands (slot_at new m) (seen w' k m)
      each m true t = subst (λ i. StandsAt stands (slot_at new i) (seen w' k i)) (number_is n m t)
          (subst (λ p. StandsAt stands p (seen w' k n)) (sym (ap party_in set.here)) (subst (λ r. StandsAt stands (party_in e) r) (sym now) here))
      each m false t = subst (λ p. StandsAt stands p (seen w' k m)) (sym (ap party_in (set.others m t)))
          (subst (λ r. StandsAt stands (slot_at old m) r) (sym (others m t)) (s.each m))

      last : (m : ℕ) (c : Bool) → nat_eq n m ≡ c → boot_of w' k m ≡ boot_at new m
      last m true t = subst (λ i. boot_of w' k i ≡ boot_at new i) (number_is n m t) (boot ∙ sym (ap boot_in set.here))
      last m false t = boots m t ∙ s.last m ∙ sym (ap boot_in (set.others m t))

      full : (m : ℕ) (c : Bool) → nat_eq n m ≡ c → is_some (entry_at new m) ≡ is_some (slot_at new m)
      full m true t = subst (λ i. is_some (entry_at new i) ≡ is_some (slot_at new i)) (number_is n m t) (ap is_some set.here ∙ whole ∙ sym (ap (λ e. is_some (party_in e)) set.here))
      full m false t = ap is_some (set.others m t) ∙ s.full m ∙ sym (ap (λ e. is_some (party_in e)) (set.others m t))

  -- it acted, and this core stands for it
  pub stand_set : (w w' : World) (k : Kind) (n : ℕ) (r : Role) (sent : List Parcel) (p : P) (b : ℕ) (old new : SlotsRecord P) → AreOf stands k w old → Acts w w' k n r sent → boot_of w' k n ≡ b → stands p r → IsSet n (Some p) b old new → AreOf stands k w' new
  stand_set w w' k n r sent p b old new s acts boot here set =
      stand_now w w' k n (Some r) (Some (Some p, b)) old new s acts.now (λ m t. acts.others k m (apart k n m t)) boot (λ m t. acts.boots k m (apart k n m t)) here refl set

  -- and so does one that was there, whose boot stays
  pub stand_kept : (w w' : World) (k : Kind) (n : ℕ) (r : Role) (sent : List Parcel) (p : P) (old new : SlotsRecord P) → AreOf stands k w old → Acts w w' k n r sent → Keeps w w' → stands p r → IsSet n (Some p) (boot_at old n) old new → AreOf stands k w' new
  stand_kept w w' k n r sent p old new s acts keeps here set = stand_set w w' k n r sent p (boot_at old n) old new s acts (boot_stays w w' k n keeps ∙ s.last n) here set

  -- it did nothing, and another core stands for it
  pub stand_still : (w : World) (k : Kind) (n : ℕ) (r : Role) (p : P) (old new : SlotsRecord P) → AreOf stands k w old → seen w k n ≡ Some r → stands p r → IsSet n (Some p) (boot_at old n) old new → AreOf stands k w new
  stand_still w k n r p old new s runs here set = stand_now w w k n (Some r) (Some (Some p, boot_at old n)) old new s runs (λ m _. refl) (s.last n) (λ m _. refl) here refl set

  -- nothing changed
  pub stand_same : (w : World) (k : Kind) (n : ℕ) (old new : SlotsRecord P) → AreOf stands k w old → IsStill n old new → AreOf stands k w new
  stand_same w k n old new s still = stand_now w w k n (seen w k n) (entry_at old n) old new s refl (λ m _. refl) (s.last n) (λ m _. refl) (s.each n) (s.full n) still

  pub others_stand : (w w' : World) (k : Kind) (x : SlotsRecord P) → Stays w w' k → AreOf stands k w x → AreOf stands k w' x
  others_stand w w' k x h s = record {
    each = λ n. subst (λ o. StandsAt stands (slot_at x n) o) (sym (h.seen n)) (s.each n);
    last = λ n. h.boots n ∙ s.last n;
    full = s.full;
  }

  pub at_slot : (w : World) (k : Kind) (n : ℕ) (o : Option P) (x : SlotsRecord P) → AreOf stands k w x → slot_at x n ≡ o → StandsAt stands o (seen w k n)
  at_slot w k n o x s is = subst (λ o. StandsAt stands o (seen w k n)) is (s.each n)

  -- Hearing
  pub heard_here : HearsJoin → (n : ℕ) (packet : Packet) (heard : Heard) (p q : P) (old new : SlotsRecord P) → slot_at old n ≡ Some p → IsSet n (Some q) (boot_at old n) old new
      → HearsAlike (stands p) (stands q) packet heard → HearInWorld stands n packet old new (Some heard)
  heard_here join n packet heard p q old new was set core w k which x good leads s at to is = by (seen w k n) (at_slot w k n (Some p) old s was) (join w k n which x good leads at to)
    where
      by : (o : Option Role) → StandsAt stands (Some p) o → ComesTo w k n x o → IsHeardIn stands k w n x new heard
      by None none c = absurd none
      by (Some r) st c =
          let h = subst (λ y. Hears (stands q) (hears r y) heard) is (core r st) in
          record {
            world = record { stand = stand_kept w _ k n _ [] q old new s c.acts c.keeps h.role set; role = (hears r (parcel_of w.net x)).role; acts = c.acts; hard = c.keeps.hard };
            word = c.word;
            answers = c.answers;
            fresh = h.fresh ∙ c.fresh;
            says = h.says ∙ c.says;
            ruled = subst IsRuled (sym h.says) c.ruled;
          }

  -- where nothing changes
  as_it_was : (n : ℕ) (p : P) (x : SlotsRecord P) → slot_at x n ≡ Some p → IsSet n (Some p) (boot_at x n) x x
  as_it_was n p x was = record { here = by (entry_at x n) was; others = λ m apart. refl }
    where
      by : (e : Option (Option P × ℕ)) → party_in e ≡ Some p → e ≡ Some (Some p, boot_in e)
      by None is = cc
      by (Some e) is = ap (λ o. Some (o, e.1)) is

  pub left_here : HearsJoin → (n : ℕ) (h : Header) (p : P) (x : SlotsRecord P) → slot_at x n ≡ Some p → (heard : Option Heard) → IfSome heard (λ t. (packet : Packet) → IsFormed packet → header_of packet ≡ h → HearsAlike (stands p) (stands p) packet t)
      → IfSome heard (λ t. (packet : Packet) → IsFormed packet → header_of packet ≡ h → HearInWorld stands n packet x x (Some t))
  left_here join n h p x was None alike = tt
  left_here join n h p x was (Some t) alike = λ packet formed is. heard_here join n packet t p p x x was (as_it_was n p x was) (alike packet formed is)

  pub lost_here : HearsJoin → (n : ℕ) (packet : Packet) (old new : SlotsRecord P) → slot_at old n ≡ None → IsStill n old new → HearInWorld stands n packet old new None
  lost_here join n packet old new was still w k which x good leads s at to is = by (seen w k n) (at_slot w k n None old s was) (join w k n which x good leads at to)
    where
      by : (o : Option Role) → StandsAt stands None o → ComesTo w k n x o → IsLostIn stands k w x new
      by None none c = record { answers = c.answers; same = c.same; stand = stand_same w k n old new s still }
      by (Some r) st c = absurd st

  -- Turns
  pub turned_here : TurnsJoin → (n : ℕ) (packets : List Packet) (p q : P) (old new : SlotsRecord P) → slot_at old n ≡ Some p → IsSet n (Some q) (boot_at old n) old new → SendsAlike (stands p) (stands q) packets → TurnInWorld stands n old new (Some packets)
  turned_here join n packets p q old new was set core w k good s = by (seen w k n) (at_slot w k n (Some p) old s was) (join w k n good)
    where
      by : (o : Option Role) → StandsAt stands (Some p) o → TakesTurn w k n o → TurnsOneIn stands k w n new (Some packets)
      by None none c = absurd none
      by (Some r) st c =
          let h = core r st in
          let acts = subst (Acts w (turn_of w k n).world k n r) (sym h.says) c.acts in
          record { world = record { stand = stand_kept w _ k n r _ q old new s acts c.keeps h.role set; role = r; acts = acts; hard = c.keeps.hard }; lines = c.lines }

  pub turned_none : TurnsJoin → (n : ℕ) (old new : SlotsRecord P) → slot_at old n ≡ None → IsStill n old new → TurnInWorld stands n old new None
  turned_none join n old new was still w k good s = by (seen w k n) (at_slot w k n None old s was) (join w k n good)
    where
      by : (o : Option Role) → StandsAt stands None o → TakesTurn w k n o → TurnsOneIn stands k w n new None
      by None none c = record { same = c; stand = stand_same w k n old new s still }
      by (Some r) st c = absurd st

  -- Resyncs
  pub resynced_here : ResyncsJoin → (n : ℕ) (p q : P) (old new : SlotsRecord P) → slot_at old n ≡ Some p → IsSet n (Some q) (boot_at old n) old new → ((r : Role) → stands p r → stands q (resynced r)) → ResyncInWorld stands n old new true
  resynced_here join n p q old new was set core w k good s = by (seen w k n) (at_slot w k n (Some p) old s was) (join w k n good)
    where
      by : (o : Option Role) → StandsAt stands (Some p) o → Resyncs w k n o → ResyncsOneIn stands k w n new true
      by None none c = absurd none
      by (Some r) st c = record { world = record { stand = stand_kept w _ k n _ [] q old new s c.acts c.keeps (core r st) set; role = resynced r; acts = c.acts; hard = c.keeps.hard }; lines = c.lines }

  pub resynced_none : ResyncsJoin → (n : ℕ) (old new : SlotsRecord P) → slot_at old n ≡ None → IsStill n old new → ResyncInWorld stands n old new false
  resynced_none join n old new was still w k good s = by (seen w k n) (at_slot w k n None old s was) (join w k n good)
    where
      by : (o : Option Role) → StandsAt stands None o → Resyncs w k n o → ResyncsOneIn stands k w n new false
      by None none c = record { same = c; stand = stand_same w k n old new s still }
      by (Some r) st c = absurd st

  -- Starts
  pub started_here : (n : ℕ) (p : P) (b : ℕ) (old new : SlotsRecord P) → IsSet n (Some p) b old new → StartInWorld stands n p b old new
  started_here n p b old new set w w' k r s start now = stand_set w w' k n r [] p b old new s start.acts start.boot now set
