-- Hearing brings a link forward, and never back.
use Rattle.std.proofs.Common.{◌≡◌, ℕ, ◌+◌, ◌<◌, ◌≤◌, Bool, true, false, cond, not, nat_eq, nat_lt, refl, sym, ◌∙◌, ap, subst, arith}
use Rattle.std.specs.Prelude.{◌&&◌}
use Rattle.std.proofs.lemmas.Bool.Decides.{nat_tests}
use Rattle.fuxi_terms.specs.declared.answers.What.{What}
use Rattle.fuxi_terms.specs.declared.answers.What.TheVariants.{Taken, Ack as Acked, Stranger, Stale, NotMine, Old, Gap, Ledger as SaysLedger, Exceeds as SaysExceeds}
use Rattle.fuxi_terms.proofs.Booleans.{and_true, either, both_true}
use Rattle.spec_net.specs.Net.{Party, Link, Packet, Heard, Ack, Delta, Full, same_id, met, acknowledge, unmoved, hear, hear_peer, word_of, link_after}
use Rattle.spec_net.proofs.BoundedLemmas.{met_known}
use Rattle.spec_world.proofs.CreditsLemmas.{taken_places}
use Rattle.spec_world.proofs.PartiesKept.{after_known}
use Rattle.spec_progress.specs.Reached.{Reaches}

-- a greater incarnation is known, or of the same one more is received and acknowledged
pub record Further (l l' : Link) : Type 0 where
  pub known : l.known ≤ l'.known
  pub seq : l.known ≡ l'.known → l.seq ≤ l'.seq
  pub acked : l.known ≡ l'.known → l.acked ≤ l'.acked

pub further_itself : (l : Link) → Further l l
further_itself l = record { known = omega arith; seq = λ _. omega arith; acked = λ _. omega arith }

-- one after another
pub further_then : (a b c : Link) → Further a b → Further b c → Further a c
further_then a b c f g =
    let u = f.known in
    let v = g.known in
    record {
      known = omega (arith, u, v);
      seq = λ e. let x = f.seq (omega (arith, u, v, e)) in let y = g.seq (omega (arith, u, v, e)) in omega (arith, x, y);
      acked = λ e. let x = f.acked (omega (arith, u, v, e)) in let y = g.acked (omega (arith, u, v, e)) in omega (arith, x, y);
    }

-- what was reached stays so
pub still_reaches : (l l' : Link) (inc n : ℕ) → Further l l' → Reaches l inc n → Reaches l' inc n
still_reaches l l' inc n f r = record {
  place = λ e. at e (nat_eq l.known inc) refl;
  before = λ lt. let u = f.known in r.before (omega (arith, u, lt));
}
  where
    at : l'.known ≡ inc → (b : Bool) → nat_eq l.known inc ≡ b → n ≤ l'.seq
    at e true t = let same : l.known ≡ inc = grind (arith, nat_tests, t) in let x = r.place same in let y = f.seq (same ∙ sym e) in omega (arith, x, y)
    at e false t = let u = f.known in let lt : l.known < inc = grind (arith, nat_tests, t, u, e) in let z = r.before lt in omega (arith, z)

-- nothing is reached by everybody
pub reaches_none : (l : Link) (inc : ℕ) → Reaches l inc 0
reaches_none l inc = record { place = λ _. omega arith; before = λ _. refl }

-- Hearing
met_further : (l : Link) (inc : ℕ) → Further l (met l inc)
met_further l inc = either (Further l) (nat_lt l.known inc) (record { known = inc; seq = 0; acked = 0 }) l
    (λ t. let lt : l.known < inc = grind (arith, nat_tests, t) in record { known = omega (arith, lt); seq = λ e. absurd (omega (arith, lt, e)); acked = λ e. absurd (omega (arith, lt, e)) })
    (λ _. further_itself l)

after_further : (w : What) (own top : ℕ) (m : Link) (x : Packet) → (w ≡ Taken → m.seq ≤ x.seq) → Further m (link_after w own top m x)
after_further Taken own top m x f = record { known = omega arith; seq = λ _. f refl; acked = λ _. omega arith }
after_further Acked own top m x f = either (Further m) (nat_eq x.inc own && (nat_lt m.acked x.seq && not (nat_lt top x.seq))) (record { known = m.known; seq = m.seq; acked = x.seq }) m
    (λ t. let b = (both_true (nat_lt m.acked x.seq) (not (nat_lt top x.seq)) (both_true (nat_eq x.inc own) (nat_lt m.acked x.seq && not (nat_lt top x.seq)) t).1).0 in record { known = omega arith; seq = λ _. omega arith; acked = λ _. grind (arith, nat_tests, b) })
    (λ _. further_itself m)
after_further Stranger own top m x f = further_itself m
after_further Stale own top m x f = further_itself m
after_further NotMine own top m x f = further_itself m
after_further Old own top m x f = further_itself m
after_further Gap own top m x f = further_itself m
after_further (SaysLedger fault) own top m x f = further_itself m
after_further (SaysExceeds total has) own top m x f = further_itself m

peer_further : (own top : ℕ) (l : Link) (x : Packet) → Further l (hear_peer own top l x).link
peer_further own top l x =
    let m = met l x.from.inc in
    let w = word_of x.kind own m x in
    further_then l m (link_after w own top m x) (met_further l x.from.inc) (after_further w own top m x (λ e. (taken_places x.kind own m x e).1))

-- whatever is heard
pub hear_further : (p : Party) (talks : Bool) (top : ℕ) (l : Link) (x : Packet) → Further l (hear p talks top l x).link
hear_further p talks top l x =
    let peer = hear_peer p.inc top l x in
    either (λ (h : Heard). Further l h.link) (not (same_id x.to.id p.id && talks)) (unmoved Stranger l) (cond (nat_lt x.from.inc l.known) (unmoved Stale l) peer)
    (λ _. further_itself l)
    (λ _. either (λ (h : Heard). Further l h.link) (nat_lt x.from.inc l.known) (unmoved Stale l) peer (λ _. further_itself l) (λ _. peer_further p.inc top l x))

-- A packet of a peer that is not left behind: the rules on strangers and on stale packets do not stop it
pub heard_is : (p : Party) (top : ℕ) (l : Link) (x : Packet) → same_id x.to.id p.id ≡ true → l.known ≤ x.from.inc → hear p true top l x ≡ hear_peer p.inc top l x
heard_is p top l x to le =
    let peer = hear_peer p.inc top l x in
    let fresh : nat_lt x.from.inc l.known ≡ false = grind (arith, nat_tests, le) in
    ap (λ b. cond (not (b && true)) (unmoved Stranger l) (cond (nat_lt x.from.inc l.known) (unmoved Stale l) peer)) to ∙ ap (λ b. cond b (unmoved Stale l) peer) fresh

-- its sender is known then
pub peer_known : (own top : ℕ) (l : Link) (x : Packet) → l.known ≤ x.from.inc → (hear_peer own top l x).link.known ≡ x.from.inc
peer_known own top l x le =
    let m = met l x.from.inc in
    after_known (word_of x.kind own m x) own top m x ∙ met_known l x.from.inc (grind (arith, nat_tests, le))

-- a whole ledger that is addressed to the party is reached
whole_reached : (own top : ℕ) (m : Link) (x : Packet) → nat_eq x.to.inc own ≡ true → x.seq ≤ (link_after (word_of Full own m x) own top m x).seq
whole_reached own top m x mine =
    subst (λ b. x.seq ≤ (link_after (cond (not b) NotMine (cond (nat_lt m.seq x.seq) Taken Old)) own top m x).seq) (sym mine)
    (either (λ (w : What). x.seq ≤ (link_after w own top m x).seq) (nat_lt m.seq x.seq) Taken Old (λ _. omega arith) (λ t. grind (arith, nat_tests, t)))

not_next : (a b : ℕ) → a ≤ b + 1 → 2 ≤ a → (nat_eq a (b + 1) && nat_lt 1 a) ≡ false → a ≤ b
not_next a b le two t = by (nat_eq a (b + 1)) refl
  where
    by : (x : Bool) → nat_eq a (b + 1) ≡ x → a ≤ b
    by true e = let one : nat_lt 1 a ≡ true = grind (arith, nat_tests, two) in let f = and_true (nat_eq a (b + 1)) (nat_lt 1 a) e one in absurd (let z : ⊥ = cc in z)
    by false e = grind (arith, nat_tests, e, le)

-- and so is a change that is at most the next one
change_reached : (own top : ℕ) (m : Link) (x : Packet) → nat_eq x.to.inc own ≡ true → x.seq ≤ m.seq + 1 → 2 ≤ x.seq → x.seq ≤ (link_after (word_of Delta own m x) own top m x).seq
change_reached own top m x mine le two =
    subst (λ b. x.seq ≤ (link_after (cond (not b) NotMine (cond (nat_eq x.seq (m.seq + 1) && nat_lt 1 x.seq) Taken (cond (nat_lt m.seq x.seq) Gap Old))) own top m x).seq) (sym mine)
    (either (λ (w : What). x.seq ≤ (link_after w own top m x).seq) (nat_eq x.seq (m.seq + 1) && nat_lt 1 x.seq) Taken (cond (nat_lt m.seq x.seq) Gap Old)
    (λ _. omega arith)
    (λ t. either (λ (w : What). x.seq ≤ (link_after w own top m x).seq) (nat_lt m.seq x.seq) Gap Old (λ _. not_next x.seq m.seq le two t) (λ _. not_next x.seq m.seq le two t)))

-- an Ack that names the party, and an index that is there, is counted
ack_counted : (own top : ℕ) (m : Link) (x : Packet) → nat_eq x.inc own ≡ true → x.seq ≤ top → x.seq ≤ (acknowledge own top m x).acked
ack_counted own top m x mine le = either (λ (k : Link). x.seq ≤ k.acked) (nat_eq x.inc own && (nat_lt m.acked x.seq && not (nat_lt top x.seq))) (record { known = m.known; seq = m.seq; acked = x.seq }) m
    (λ _. omega arith)
    (λ t. by t (nat_lt m.acked x.seq) refl)
  where
    by : (nat_eq x.inc own && (nat_lt m.acked x.seq && not (nat_lt top x.seq))) ≡ false → (b : Bool) → nat_lt m.acked x.seq ≡ b → x.seq ≤ m.acked
    by t true e =
        let there : not (nat_lt top x.seq) ≡ true = grind (arith, nat_tests, le) in
        let f = and_true (nat_eq x.inc own) _ mine (and_true (nat_lt m.acked x.seq) _ e there) in
        absurd (let z : ⊥ = cc in z)
    by t false e = grind (arith, nat_tests, e)

-- The link behind each kind of packet that comes from a peer which is not left behind
module _ (p : Party) (top : ℕ) (l : Link) (x : Packet) (to : same_id x.to.id p.id ≡ true) (le : l.known ≤ x.from.inc) where
  pub known_after : (hear p true top l x).link.known ≡ x.from.inc
  known_after = ap (λ (h : Heard). h.link.known) (heard_is p top l x to le) ∙ peer_known p.inc top l x le

  pub place_after_whole : x.kind ≡ Full → nat_eq x.to.inc p.inc ≡ true → x.seq ≤ (hear p true top l x).link.seq
  place_after_whole kind mine = subst (λ (h : Heard). x.seq ≤ h.link.seq) (sym (heard_is p top l x to le))
      (subst (λ k. x.seq ≤ (link_after (word_of k p.inc (met l x.from.inc) x) p.inc top (met l x.from.inc) x).seq) (sym kind) (whole_reached p.inc top (met l x.from.inc) x mine))

  pub place_after_change : x.kind ≡ Delta → nat_eq x.to.inc p.inc ≡ true → l.known ≡ x.from.inc → x.seq ≤ l.seq + 1 → 2 ≤ x.seq → x.seq ≤ (hear p true top l x).link.seq
  place_after_change kind mine same next two =
      let m = met l x.from.inc in
      let stays : nat_lt l.known x.from.inc ≡ false = grind (arith, nat_tests, same) in
      let seq : m.seq ≡ l.seq = ap (λ b. (cond b (record { known = x.from.inc; seq = 0; acked = 0 }) l).seq) stays in
      subst (λ (h : Heard). x.seq ≤ h.link.seq) (sym (heard_is p top l x to le))
      (subst (λ k. x.seq ≤ (link_after (word_of k p.inc m x) p.inc top m x).seq) (sym kind) (change_reached p.inc top m x mine (omega (arith, seq, next)) two))

  pub acked_after : x.kind ≡ Ack → nat_eq x.inc p.inc ≡ true → x.seq ≤ top → x.seq ≤ (hear p true top l x).link.acked
  acked_after kind mine there = subst (λ (h : Heard). x.seq ≤ h.link.acked) (sym (heard_is p top l x to le))
      (subst (λ k. x.seq ≤ (link_after (word_of k p.inc (met l x.from.inc) x) p.inc top (met l x.from.inc) x).acked) (sym kind) (ack_counted p.inc top (met l x.from.inc) x mine there))
