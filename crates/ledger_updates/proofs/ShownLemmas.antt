-- When a peer is shown a ledger by a change that is posted, and by none.
use Rattle.std.proofs.Common.{◌≡◌, ℕ, ◌+◌, Bool, true, false, cond, not, nat_eq, List, [], ◌∷◌, ◌++◌, length, Result, Ok, refl, sym, ◌∙◌, ap, subst, arith}
use Rattle.std.specs.Prelude.{◌||◌}
use Rattle.std.proofs.lemmas.Bool.Decides.{nat_tests}
use Rattle.fuxi_terms.specs.declared.answers.LedgerFault.{LedgerFault}
use Rattle.full_sync.specs.Turns.{Endpoint}
use Rattle.fuxi_terms.specs.Counts.{is_same}
use Rattle.fuxi_terms.specs.Keys.{row_cmp}
use Rattle.fuxi_terms.proofs.Booleans.{nat_itself, and_true}
use Rattle.fuxi_terms.proofs.KeyOrders.{key_total, row_key_total}
use Rattle.fuxi_terms.proofs.SameEntries.{same_itself}
use Rattle.spec_net.specs.Ledgers.{Ledger, same_ledger}
use Rattle.spec_net.specs.Sides.{Side, shown, appended}
use Rattle.peer_channel.specs.CoreSides.{IsSide, PostsAlike}
use Rattle.ledger_updates.specs.Shown.{Shows}

ledger_itself : (l : Ledger) → same_ledger l l ≡ true
ledger_itself l = and_true (nat_eq l.head l.head) _ (nat_itself l.head) (and_true (is_same row_cmp l.rows l.rows) _ (same_itself row_key_total l.rows) (same_itself key_total l.entries))

module _ {V D W : Type 0} (nothing : V) (patched : V → D → Result V LedgerFault) (valid : V → Type 0) (out : V → Ledger) (inward : W → Ledger) where
  pub shown_posted : (even_if_equal : Bool) (ledger : V) (change : D) (old new : Endpoint V D W) → patched old.outgoing.present change ≡ Ok ledger → patched old.outgoing.present change ≡ Ok new.outgoing.present
      → PostsAlike nothing patched valid out inward old new → (even_if_equal ≡ false → out old.outgoing.present ≡ out ledger → ⊥) → new.outgoing.last ≡ old.outgoing.last + 1 → new.outgoing.own ≡ old.outgoing.own → new ≡ record old { outgoing = new.outgoing }
      → Shows nothing patched valid out inward even_if_equal ledger old new
  shown_posted even_if_equal ledger change old new leads made posts differs last own rest =
      let both : Ok new.outgoing.present ≡ Ok ledger = sym made ∙ leads in
      let same : new.outgoing.present ≡ ledger = cc in
      record {
        present = same;
        side = λ inc e s. subst (λ l. IsSide nothing patched valid out inward new inc (appended even_if_equal (out l) e)) same (by even_if_equal refl inc e s);
        last = omega (arith, last);
        own = own;
        rest = rest;
      }
    where
      by : (b : Bool) → even_if_equal ≡ b → (inc : ℕ) (e : Side) → IsSide nothing patched valid out inward old inc e → IsSide nothing patched valid out inward new inc (appended b (out new.outgoing.present) e)
      by true is inc e s = (posts inc e s).even_if_equal
      by false is inc e s = (posts inc e s).differing (λ h. let both : Ok new.outgoing.present ≡ Ok ledger = sym made ∙ leads in let same : new.outgoing.present ≡ ledger = cc in differs is (h ∙ ap out same))

  -- what is shown already stays
  pub shown_kept : (even_if_equal : Bool) (ledger : V) (old : Endpoint V D W) → even_if_equal ≡ false → old.outgoing.present ≡ ledger → Shows nothing patched valid out inward even_if_equal ledger old old
  shown_kept even_if_equal ledger old not_forced same = record {
    present = same;
    side = λ inc e s.
        let due : same_ledger (shown e) (out ledger) ≡ true = ap (λ l. same_ledger l (out ledger)) (s.shown ∙ ap out same) ∙ ledger_itself (out ledger) in
        let none : appended even_if_equal (out ledger) e ≡ e = ap (λ b. appended b (out ledger) e) not_forced ∙ ap (λ b. cond (not b) (record { link = e.link; got = e.got; sent = e.sent ++ out ledger ∷ [] }) e) due in
        subst (IsSide nothing patched valid out inward old inc) (sym none) s;
    last = omega arith;
    own = refl;
    rest = refl;
  }

-- nothing is due
pub not_due : {A : Type 0} (even_if_equal : Bool) (xs : List A) (other : Bool) → (even_if_equal || not (nat_eq (length xs) 0) || other) ≡ false → (even_if_equal ≡ false) × (xs ≡ []) × (other ≡ false)
not_due true xs other h = cc
not_due false [] true h = cc
not_due false [] false h = (refl, refl, refl)
not_due false (x ∷ xs) other h = let t : nat_eq (length (x ∷ xs)) 0 ≡ false = grind (arith, nat_tests) in let f : (not (nat_eq (length (x ∷ xs)) 0) || other) ≡ true = ap (λ b. not b || other) t in cc

pub is_empty_due : {A : Type 0} (even_if_equal : Bool) (xs : List A) (other : Bool) → (even_if_equal || not (nat_eq (length xs) 0) || other) ≡ true → even_if_equal ≡ false → xs ≡ [] → other ≡ true
is_empty_due true xs other h f e = cc
is_empty_due false [] other h f e = h
is_empty_due false (x ∷ xs) other h f e = cc

pub not_due_alone : {A : Type 0} (even_if_equal : Bool) (xs : List A) → (even_if_equal || not (nat_eq (length xs) 0)) ≡ false → (even_if_equal ≡ false) × (xs ≡ [])
not_due_alone true xs h = cc
not_due_alone false [] h = (refl, refl)
not_due_alone false (x ∷ xs) h = let t : nat_eq (length (x ∷ xs)) 0 ≡ false = grind (arith, nat_tests) in let f : not (nat_eq (length (x ∷ xs)) 0) ≡ true = ap not t in cc

pub due_alone : {A : Type 0} (even_if_equal : Bool) (xs : List A) → (even_if_equal || not (nat_eq (length xs) 0)) ≡ true → even_if_equal ≡ false → xs ≡ [] → ⊥
due_alone true xs h f e = cc
due_alone false [] h f e = cc
due_alone false (x ∷ xs) h f e = cc
