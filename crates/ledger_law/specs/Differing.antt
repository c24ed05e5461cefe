-- The law of differences: which change leads from one value to another.
use Rattle.std.specs.Prelude.{◌≡◌, ℕ, List, Result, Ok, Err}
use Rattle.std.proofs.Common.{refl, ◌∙◌, ap, subst}
use Rattle.fuxi_terms.specs.declared.Key.{Key}
use Rattle.fuxi_terms.specs.declared.answers.LedgerFault.{LedgerFault}
use Rattle.fuxi_terms.specs.declared.answers.LedgerFault.TheVariants.{Below, TooGreat}
use Rattle.fuxi_terms.specs.Keys.{key_cmp}
use Rattle.fuxi_terms.specs.Counts.{AreChanges, change_all, then_do}
use Rattle.fuxi_terms.specs.Tallies.{TallyRecord, ChangeRecord, staying, patched_tally, tally_difference}
use Rattle.fuxi_terms.proofs.KeyOrders.{key_total, same_key}
use Rattle.fuxi_terms.proofs.OnlyDifference.{only_difference}
use Rattle.fuxi_terms.proofs.Patched.{tally_reaches}
use Rattle.ledger_law.specs.Shapes.{IsTally}

-- patching a value with its difference to another gives the other, where the change can be made on its way; and only the difference does
pub record ByDifference {V D : Type 0} (has_form : V → Type 0) (is_change : D → Type 0) (reaches : V → V → Type 0) (patched : V → D → Result V LedgerFault) (difference : V → V → D) : Type 0 where
  pub gives : (old new : V) → has_form old → has_form new → reaches old new → patched old (difference old new) ≡ Ok new
  pub alone : (old new : V) (change : D) → has_form old → has_form new → is_change change → patched old change ≡ Ok new → change ≡ difference old new

-- where every change can be made on its way
abbrev pub AlwaysReaches : {V : Type 0} → V → V → Type 0
AlwaysReaches old new = Unit {0}

abbrev pub IsTallyChange : ChangeRecord → Type 0
IsTallyChange c = AreChanges key_cmp c.entries

module _ (greatest : Key → ℕ) (dropped : ℕ) where
  -- a change that was made has the head and the entries of what it made
  record IsMade (old new : TallyRecord) (change : ChangeRecord) : Type 0 where
    head : change.head ≡ new.head
    entries : change_all key_cmp Below TooGreat greatest (staying dropped old change.head) change.entries ≡ Ok new.entries

  made : (old new : TallyRecord) (change : ChangeRecord) (r : Result (List (Key × ℕ)) LedgerFault) → change_all key_cmp Below TooGreat greatest (staying dropped old change.head) change.entries ≡ r
      → then_do r (λ es. Ok (record { head = change.head; entries = es })) ≡ Ok new → IsMade old new change
  made old new change (Err x) e is = cc
  made old new change (Ok es) e is =
      let same : record { head = change.head; entries = es } ≡ new = cc in
      record { head = ap (λ (t : TallyRecord). t.head) same; entries = e ∙ ap (λ (t : TallyRecord). Ok t.entries) same }

  only_tally_difference : (old new : TallyRecord) (change : ChangeRecord) → IsTally greatest new → IsTallyChange change → patched_tally Below TooGreat greatest dropped old change ≡ Ok new
      → change ≡ tally_difference dropped old new
  only_tally_difference old new change b c e =
      let m = made old new change _ refl e in
      let to : change_all key_cmp Below TooGreat greatest (staying dropped old new.head) change.entries ≡ Ok new.entries = subst (λ h. change_all key_cmp Below TooGreat greatest (staying dropped old h) change.entries ≡ Ok new.entries) m.head m.entries in
      let only = only_difference key_total same_key Below TooGreat greatest (staying dropped old new.head) new.entries change.entries c b.counts.sorted to in
      λ i. record { head = m.head i; entries = only i }

  pub tally_by_difference : ByDifference (IsTally greatest) IsTallyChange AlwaysReaches (patched_tally Below TooGreat greatest dropped) (tally_difference dropped)
  tally_by_difference = record {
    gives = λ old new a b _. tally_reaches Below TooGreat greatest dropped old new a.counts b.counts;
    alone = λ old new change a b c e. only_tally_difference old new change b c e;
  }
