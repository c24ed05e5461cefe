-- One change at a key: what it makes of the number there is what it makes of the entries.
use Rattle.std.proofs.Common.{◌≡◌, ℕ, ℤ, Bool, true, false, nat_lt, cond, List, Option, Some, None, Result, Ok, Err, refl, sym, subst}
use Rattle.std.specs.Prelude.{IsOk}
use Rattle.fuxi_terms.specs.declared.Key.{Key}
use Rattle.fuxi_terms.specs.declared.answers.LedgerFault.{LedgerFault}
use Rattle.fuxi_terms.specs.declared.answers.LedgerFault.TheVariants.{Below, TooGreat, OutOfMemory}
use Rattle.fuxi_terms.specs.Keys.{key_cmp}
use Rattle.fuxi_terms.specs.Counts.{AreCounts, count, change_one, in_bounds, moved, moved_within, set_count, set_moved}
use Rattle.fuxi_terms.proofs.KeyOrders.{key_total, same_key}
use Rattle.fuxi_terms.proofs.CountsLemmas.{counts-set_count}
use Rattle.fuxi_terms.proofs.ChangesInTurn.{made_one}
use Rattle.ledger_law.specs.Applying.{IsRefusal}

module _ (greatest : Key → ℕ) (es : List (Key × ℕ)) (k : Key) (change : ℤ) where
  abbrev within : Option ℕ → Result ℕ LedgerFault
  within = in_bounds Below TooGreat greatest k (count key_cmp es k) change

  abbrev made : Option ℕ → Result (List (Key × ℕ)) LedgerFault
  made = set_moved key_cmp Below TooGreat greatest es k (count key_cmp es k) change

  fails : (o : Option ℕ) (fault : LedgerFault) → within o ≡ Err fault → made o ≡ Err fault
  fails None fault h = cc
  fails (Some n) fault h = by (nat_lt (greatest k) n) h
    where
      by : (b : Bool) → ◌≡◌ {A = Result ℕ LedgerFault} (cond b (Err (TooGreat k)) (Ok n)) (Err fault) → cond b (Err (TooGreat k)) (Ok (set_count key_cmp es k n)) ≡ Err fault
      by true h = cc
      by false h = cc

  is_some : (o : Option ℕ) (n : ℕ) → within o ≡ Ok n → o ≡ Some n
  is_some None n h = cc
  is_some (Some m) n h = by (nat_lt (greatest k) m) h
    where
      by : (b : Bool) → ◌≡◌ {A = Result ℕ LedgerFault} (cond b (Err (TooGreat k)) (Ok m)) (Ok n) → Some m ≡ Some n
      by true h = cc
      by false h = cc

  succeeds : (o : Option ℕ) (n : ℕ) → within o ≡ Ok n → made o ≡ Ok (set_count key_cmp es k n)
  succeeds None n h = cc
  succeeds (Some m) n h = by (nat_lt (greatest k) m) h
    where
      by : (b : Bool) → ◌≡◌ {A = Result ℕ LedgerFault} (cond b (Err (TooGreat k)) (Ok m)) (Ok n) → cond b (Err (TooGreat k)) (Ok (set_count key_cmp es k m)) ≡ Ok (set_count key_cmp es k n)
      by true h = cc
      by false h = cc

  as_refusal : (r : Result (List (Key × ℕ)) LedgerFault) (fault : LedgerFault) → r ≡ Err fault → IsRefusal r fault
  as_refusal r OutOfMemory h = tt
  as_refusal r (Below key kept c) h = h
  as_refusal r (TooGreat key) h = h

  pub one_refused : (fault : LedgerFault) → moved_within Below TooGreat greatest k (count key_cmp es k) change ≡ Err fault → IsRefusal (change_one key_cmp Below TooGreat greatest es k change) fault
  one_refused fault h = as_refusal _ fault (fails (moved (count key_cmp es k) change) fault h)

  pub one_made : (n : ℕ) → moved_within Below TooGreat greatest k (count key_cmp es k) change ≡ Ok n → change_one key_cmp Below TooGreat greatest es k change ≡ Ok (set_count key_cmp es k n)
  one_made n h = succeeds (moved (count key_cmp es k) change) n h

  pub one_counts : (n : ℕ) → moved_within Below TooGreat greatest k (count key_cmp es k) change ≡ Ok n → AreCounts key_cmp greatest es → AreCounts key_cmp greatest (set_count key_cmp es k n)
  one_counts n h counts =
      let can = subst IsOk (sym (one_made n h)) refl in
      counts-set_count key_total greatest same_key es k n (made_one key_cmp Below TooGreat greatest es k change n can (is_some (moved (count key_cmp es k) change) n h)).1 counts
