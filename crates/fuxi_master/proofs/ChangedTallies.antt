-- What was received of a peer that was heard, and what a change leaves of a tally at the keys that it does not name.
use Rattle.std.proofs.Common.{◌≡◌, ℕ, true, false, cond, not, nat_eq, nat_lt, List, [], ◌∷◌, Option, Some, None, Result, Ok, Err, refl, sym, ◌∙◌, ap}
use Rattle.std.specs.Prelude.{ℤ}
use Rattle.std.specs.Ordering.{eq_by_cmp}
use Rattle.std.specs.FinMap.Entries.{where_key}
use Rattle.fuxi_terms.specs.declared.Key.{Key}
use Rattle.fuxi_terms.specs.declared.answers.LedgerFault.{LedgerFault}
use Rattle.fuxi_terms.specs.declared.answers.LedgerFault.TheVariants.{Below, TooGreat}
use Rattle.fuxi_terms.specs.declared.vectors.Res.{Res}
use Rattle.fuxi_terms.specs.declared.vectors.Sum.{Sum}
use Rattle.fuxi_terms.specs.Counts.{count, set_count, set_moved, change_one, change_all, moved, then_do}
use Rattle.fuxi_terms.specs.Keys.{key_cmp}
use Rattle.fuxi_terms.specs.Tallies.{TallyRecord, ChangeRecord, staying, patched_tally}
use Rattle.fuxi_terms.proofs.Booleans.{both_false, nat_itself}
use Rattle.fuxi_terms.proofs.CountsLemmas.{count-set_count}
use Rattle.fuxi_terms.proofs.KeyOrders.{key_total}
use Rattle.spec_net.specs.Ledgers.{Ledger, nothing, tally_ledger}
use Rattle.spec_net.specs.Net.{Heard, is_taken}
use Rattle.spec_net.specs.Sides.{Side, Parcel, HeardSide, Taking, Took, Refused, TooMuch, heard_with, heard_as, taken_as, tested, unless_excess, patched_by}
use Rattle.place_pass.specs.Placers.{is_named}

-- a packet that was not taken leaves what was received, and of a new sender nothing was
module _ (h : Heard) (e : Side) (x : Parcel) (excess : Ledger → Option (Sum × Res)) where
  abbrev kept : Ledger
  kept = cond h.fresh nothing e.got

  abbrev Left : HeardSide → Type 0
  Left s = is_taken s.what ≡ false → s.side.got ≡ cond s.fresh nothing e.got

  left_by : (t : Taking) → Left (taken_as h e x.packet t)
  left_by (Took l) t = cc
  left_by (Refused fault) t = refl
  left_by (TooMuch total has) t = refl

  pub left_untaken : is_taken (heard_with h e x excess).what ≡ false → (heard_with h e x excess).side.got ≡ cond (heard_with h e x excess).fresh nothing e.got
  left_untaken = elim (is_taken h.what) as (λ b. Left (cond b (taken_as h e x.packet (tested excess (patched_by x.packet.from.id kept x.body))) (heard_as h e h.link kept h.what))) [
    | true ↦ left_by (tested excess (patched_by x.packet.from.id kept x.body))
    | false ↦ λ _. refl
  ]

  -- one that was taken makes of what was received what is received then
  abbrev Made : HeardSide → Type 0
  Made s = is_taken s.what ≡ true → patched_by x.packet.from.id (cond s.fresh nothing e.got) x.body ≡ Ok s.side.got

  made_by : (r : Result Ledger LedgerFault) → patched_by x.packet.from.id kept x.body ≡ r → Made (taken_as h e x.packet (tested excess r))
  made_by (Err fault) is = λ t. cc
  made_by (Ok l) is = by (excess l)
    where
      by : (o : Option (Sum × Res)) → Made (taken_as h e x.packet (unless_excess l o))
      by None = λ _. is
      by (Some k) = λ t. cc

  pub made_taken : is_taken (heard_with h e x excess).what ≡ true → patched_by x.packet.from.id (cond (heard_with h e x excess).fresh nothing e.got) x.body ≡ Ok (heard_with h e x excess).side.got
  made_taken = elim (is_taken h.what) as (λ b. is_taken h.what ≡ b → Made (cond b (taken_as h e x.packet (tested excess (patched_by x.packet.from.id kept x.body))) (heard_as h e h.link kept h.what))) [
    | true ↦ λ _. made_by (patched_by x.packet.from.id kept x.body) refl
    | false ↦ λ off t. absurd (let f : true ≡ false = sym t ∙ off in cc)
  ] refl

-- the number at a key that no change names
module _ (greatest : Key → ℕ) where
  abbrev low : Key → ℕ → ℤ → LedgerFault
  low = Below

  one_left : (es : List (Key × ℕ)) (c : Key × ℤ) (k : Key) → eq_by_cmp key_cmp k c.0 ≡ false → (o : Option ℕ) (fs : List (Key × ℕ)) → set_moved key_cmp low TooGreat greatest es c.0 (count key_cmp es c.0) c.1 o ≡ Ok fs → count key_cmp fs k ≡ count key_cmp es k
  one_left es c k off None fs e = cc
  one_left es c k off (Some n) fs e = elim (nat_lt (greatest c.0) n) as (λ b. cond b (Err (TooGreat c.0)) (Ok (set_count key_cmp es c.0 n)) ≡ Ok fs → count key_cmp fs k ≡ count key_cmp es k) [
    | true ↦ λ e. cc
    | false ↦ λ e.
        let same : set_count key_cmp es c.0 n ≡ fs = cc in
        ap (λ gs. count key_cmp gs k) (sym same) ∙ count-set_count key_total es c.0 n k ∙ ap (λ t. cond t n (count key_cmp es k)) off
  ] e

  then_left : (es fs : List (Key × ℕ)) (c : Key × ℤ) (cs : List (Key × ℤ)) (k : Key) → eq_by_cmp key_cmp k c.0 ≡ false → ((gs : List (Key × ℕ)) → change_all key_cmp low TooGreat greatest gs cs ≡ Ok fs → count key_cmp fs k ≡ count key_cmp gs k)
      → (r : Result (List (Key × ℕ)) LedgerFault) → change_one key_cmp low TooGreat greatest es c.0 c.1 ≡ r → then_do r (λ gs. change_all key_cmp low TooGreat greatest gs cs) ≡ Ok fs → count key_cmp fs k ≡ count key_cmp es k
  then_left es fs c cs k off rest (Err fault) is e = cc
  then_left es fs c cs k off rest (Ok gs) is e = rest gs e ∙ one_left es c k off (moved (count key_cmp es c.0) c.1) gs is

  all_left : (cs : List (Key × ℤ)) (es fs : List (Key × ℕ)) (k : Key) → is_named k cs ≡ false → change_all key_cmp low TooGreat greatest es cs ≡ Ok fs → count key_cmp fs k ≡ count key_cmp es k
  all_left [] es fs k off e = let same : es ≡ fs = cc in ap (λ gs. count key_cmp gs k) (sym same)
  all_left (c ∷ cs) es fs k off e =
      let parts = both_false (eq_by_cmp key_cmp k c.0) (is_named k cs) off in
      then_left es fs c cs k parts.0 (λ gs. all_left cs gs fs k parts.1) (change_one key_cmp low TooGreat greatest es c.0 c.1) refl e

  -- a changed tally, with its head, and its numbers at the keys that the change does not name where the head is as before
  pub record IsLeft (change : ChangeRecord) (l m : Ledger) : Type 0 where
    pub head : m.head ≡ change.head
    pub entries : change.head ≡ l.head → (k : Key) → is_named k change.entries ≡ false → count key_cmp m.entries k ≡ count key_cmp l.entries k

  abbrev tally_in : Ledger → TallyRecord
  tally_in l = record { head = l.head; entries = l.entries }

  abbrev headed : ℕ → List (Key × ℕ) → Result TallyRecord LedgerFault
  headed head es = Ok (record { head = head; entries = es })

  pub tally_left : (dropped : ℕ) (l m : Ledger) (change : ChangeRecord) → then_do (patched_tally low TooGreat greatest dropped (record { head = l.head; entries = l.entries }) change) (λ t. Ok (tally_ledger t.head t.entries)) ≡ Ok m → IsLeft change l m
  tally_left dropped l m change e = by (change_all key_cmp low TooGreat greatest (staying dropped (tally_in l) change.head) change.entries) refl e
    where
      by : (r : Result (List (Key × ℕ)) LedgerFault) → change_all key_cmp low TooGreat greatest (staying dropped (tally_in l) change.head) change.entries ≡ r
          → then_do (then_do r (headed change.head)) (λ (t : TallyRecord). Ok (tally_ledger t.head t.entries)) ≡ Ok m → IsLeft change l m
      by (Err fault) is e = cc
      by (Ok es) is e =
          let same : tally_ledger change.head es ≡ m = cc in
          record {
            head = ap (λ (n : Ledger). n.head) (sym same);
            entries = λ kept k off.
                let stays : staying dropped (tally_in l) change.head ≡ l.entries = ap (λ b. cond b l.entries (where_key key_cmp (λ k. not (nat_eq k.what dropped)) l.entries)) (ap (nat_eq change.head) (sym kept) ∙ nat_itself change.head) in
                ap (λ (n : Ledger). count key_cmp n.entries k) (sym same) ∙ all_left change.entries (staying dropped (tally_in l) change.head) es k off is ∙ ap (λ fs. count key_cmp fs k) stays;
          }
