-- What holds of both directions that stand for a side, and the side after each of their calls.
use Rattle.std.proofs.Common.{◌≡◌, ℕ, suc, ◌+◌, true, false, cond, not, nat_eq, List, [], ◌∷◌, ◌++◌, length, Result, slice_get, refl, sym, ◌∙◌, ap, subst, add-one}
use Rattle.std.specs.Prelude.{◌&&◌}
use Rattle.std.specs.Option.{unwrap_or}
use Rattle.std.proofs.lemmas.List.{map-append}
use Rattle.fuxi_terms.specs.Counts.{is_same}
use Rattle.fuxi_terms.specs.Keys.{key_cmp, row_cmp}
use Rattle.fuxi_terms.specs.declared.answers.LedgerFault.{LedgerFault}
use Rattle.fuxi_terms.proofs.Booleans.{both_true, number_is, nat_itself, and_true}
use Rattle.fuxi_terms.proofs.KeyOrders.{key_total, same_key, row_key_total, same_row_key}
use Rattle.fuxi_terms.proofs.Lists.{all_push}
use Rattle.fuxi_terms.proofs.SameEntries.{same_entries, same_itself}
use Rattle.delta_channel.specs.Standing.{StandsFor}
use Rattle.delta_channel.specs.Calls.{IsPosted}
use Rattle.full_sync.specs.Turns.{Endpoint}
use Rattle.channel_refinement.specs.Alike.{place_at}
use Rattle.spec_net.specs.Net.{Link, at_index}
use Rattle.spec_net.specs.Ledgers.{Ledger, nothing, same_ledger}
use Rattle.spec_net.specs.Sides.{Side, shown}
use Rattle.peer_channel.specs.CoreSides.{IsSide, PostsAlike, IsShown}

-- ledgers that a test finds the same
pub ledger_is : (a b : Ledger) → same_ledger a b ≡ true → a ≡ b
ledger_is a b t =
    let h = both_true (nat_eq a.head b.head) (is_same row_cmp a.rows b.rows && is_same key_cmp a.entries b.entries) t in
    let k = both_true (is_same row_cmp a.rows b.rows) (is_same key_cmp a.entries b.entries) h.1 in
    let head = number_is a.head b.head h.0 in
    let rows = same_entries row_cmp same_row_key a.rows b.rows k.0 in
    let entries = same_entries key_cmp same_key a.entries b.entries k.1 in
    λ i. record { head = head i; rows = rows i; entries = entries i }

pub ledger_itself : (a : Ledger) → same_ledger a a ≡ true
ledger_itself a = and_true (nat_eq a.head a.head) _ (nat_itself a.head) (and_true (is_same row_cmp a.rows a.rows) _ (same_itself row_key_total a.rows) (same_itself key_total a.entries))

-- the last entry of a history with one more
length_more : (h : List Ledger) (l : Ledger) → length (h ++ l ∷ []) ≡ suc (length h)
length_more [] l = refl
length_more (x ∷ h) l = ap suc (length_more h l)

last_more : (h : List Ledger) (l : Ledger) → at_index nothing (h ++ l ∷ []) (length (h ++ l ∷ [])) ≡ l
last_more h l = ap (at_index nothing (h ++ l ∷ [])) (length_more h l) ∙ by h
  where
    by : (h : List Ledger) → unwrap_or (slice_get (h ++ l ∷ []) (length h)) nothing ≡ l
    by [] = refl
    by (x ∷ h) = by h

module _ {V D W : Type 0} (first : V) (patched : V → D → Result V LedgerFault) (valid : V → Type 0) (out : V → Ledger) (inward : W → Ledger) where
  -- what is sent stays
  pub kept_side : (d d' : Endpoint V D W) (inc : ℕ) (e : Side) (l : Link) (g : Ledger) → d'.outgoing ≡ d.outgoing → d'.incoming.place ≡ place_at l → d'.acked ≡ l.acked → g ≡ inward d'.incoming.received
      → IsSide first patched valid out inward d inc e → IsSide first patched valid out inward d' inc (record { link = l; got = g; sent = e.sent })
  kept_side d d' inc e l g sent place acked got s = record {
    own = ap (λ x. x.own) sent ∙ s.own;
    place = place;
    acked = acked;
    got = got;
    last = ap (λ x. x.last) sent ∙ s.last;
    shown = s.shown ∙ ap (λ x. out x.present) (sym sent);
    ledgers = s.ledgers;
    sent = s.sent;
    stands = subst (λ x. StandsFor first patched x (first ∷ s.ledgers)) (sym sent) s.stands;
    all_valid = s.all_valid;
  }

  -- one ledger more was sent
  pub posted_side : (d d' : Endpoint V D W) (inc : ℕ) (e : Side) (change : D) → d'.incoming ≡ d.incoming → d'.acked ≡ d.acked → IsPosted first patched change d.outgoing d'.outgoing → valid d'.outgoing.present
      → IsSide first patched valid out inward d inc e → IsSide first patched valid out inward d' inc (record { link = e.link; got = e.got; sent = e.sent ++ out d'.outgoing.present ∷ [] })
  posted_side d d' inc e change got acked p v s =
      let l = out d'.outgoing.present in
      record {
        own = p.own ∙ s.own;
        place = ap (λ x. x.place) got ∙ s.place;
        acked = acked ∙ s.acked;
        got = s.got ∙ ap (λ x. inward x.received) (sym got);
        last = p.next ∙ ap (λ n. n + 1) s.last ∙ add-one (length e.sent) ∙ sym (length_more e.sent l);
        shown = last_more e.sent l;
        ledgers = s.ledgers ++ d'.outgoing.present ∷ [];
        sent = ap (λ h. h ++ l ∷ []) s.sent ∙ sym (map-append out s.ledgers (d'.outgoing.present ∷ []));
        stands = p.stands (first ∷ s.ledgers) s.stands;
        all_valid = all_push valid s.ledgers d'.outgoing.present s.all_valid v;
      }

  pub posts_alike : (d d' : Endpoint V D W) (change : D) → d'.incoming ≡ d.incoming → d'.acked ≡ d.acked → IsPosted first patched change d.outgoing d'.outgoing → valid d'.outgoing.present → PostsAlike first patched valid out inward d d'
  posts_alike d d' change got acked p v inc e s =
      let l = out d'.outgoing.present in
      let more : Side = record { link = e.link; got = e.got; sent = e.sent ++ l ∷ [] } in
      let after = posted_side d d' inc e change got acked p v s in
      record {
        even_if_equal = after;
        differing = λ differs. elim (same_ledger (shown e) l) as (λ b. same_ledger (shown e) l ≡ b → IsSide first patched valid out inward d' inc (cond (not b) more e)) [
          | true ↦ λ t. absurd (differs (sym s.shown ∙ ledger_is (shown e) l t))
          | false ↦ λ t. after
        ] refl;
      }

  pub shown_already : (d : Endpoint V D W) → IsShown first patched valid out inward d
  shown_already d inc e s =
      let l = out d.outgoing.present in
      ap (λ b. cond (not b) (record { link = e.link; got = e.got; sent = e.sent ++ l ∷ [] }) e) (ap (λ y. same_ledger y l) s.shown ∙ ledger_itself l)
