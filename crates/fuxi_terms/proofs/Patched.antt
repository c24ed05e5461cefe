-- The laws of differences, at any order of keys and for tallies.
use Rattle.std.proofs.Common.{◌≡◌, ℕ, Bool, true, false, cond, not, nat_eq, List, Result, Ok, Err, refl, ◌∙◌, ap, subst}
use Rattle.std.specs.Cmp.{IsTotalOrder}
use Rattle.std.specs.declared.cmp.Ordering.{Ordering}
use Rattle.std.specs.declared.cmp.Ordering.TheVariants.{Equal}
use Rattle.std.specs.FinMap.Entries.{where_key}
use Rattle.fuxi_terms.specs.declared.Key.{Key}
use Rattle.fuxi_terms.specs.Keys.{key_cmp}
use Rattle.fuxi_terms.specs.Counts.{AreCounts, change_all, then_do}
use Rattle.fuxi_terms.specs.Tallies.{TallyRecord, ChangeRecord, staying, patched_tally, tally_difference}
use Rattle.std.specs.Prelude.{ℤ}
use Rattle.fuxi_terms.specs.Patching.{PatchFault, Below, TooGreat, PatchedByDifference, TalliesByDifference}
use Rattle.fuxi_terms.proofs.KeyOrders.{key_total, same_key}
use Rattle.fuxi_terms.proofs.CountsLemmas.{counts-where_key, difference_law}
use Rattle.fuxi_terms.proofs.OnlyDifference.{only_difference}

pub patched_by_difference : {K : Type 0} {R : K → K → Ordering} → IsTotalOrder R → ((x y : K) → R x y ≡ Equal → x ≡ y) → (greatest : K → ℕ) → PatchedByDifference R greatest
patched_by_difference {R = R} o same greatest = record {
  reaches = λ old new a b. difference_law o same greatest Below TooGreat old new b a;
  alone = λ old new changes b c e. only_difference o same Below TooGreat greatest old new changes c b.sorted e;
}

either_counts : (greatest : Key → ℕ) (p : Key → Bool) (es : List (Key × ℕ)) (b : Bool) → AreCounts key_cmp greatest es → AreCounts key_cmp greatest (cond b es (where_key key_cmp p es))
either_counts greatest p es true h = h
either_counts greatest p es false h = counts-where_key key_total greatest p es h

-- the difference of two tallies takes the one to the other, whatever the refusals are
pub tally_reaches : {E : Type 0} (low : Key → ℕ → ℤ → E) (high : Key → E) (greatest : Key → ℕ) (dropped : ℕ) (old new : TallyRecord) → AreCounts key_cmp greatest old.entries → AreCounts key_cmp greatest new.entries
    → patched_tally low high greatest dropped old (tally_difference dropped old new) ≡ Ok new
tally_reaches low high greatest dropped old new a b =
    let law = difference_law key_total same_key greatest low high (staying dropped old new.head) new.entries b (either_counts greatest (λ k. not (nat_eq k.what dropped)) old.entries (nat_eq new.head old.head) a) in
    ap (λ r. then_do r (λ es. Ok (record { head = new.head; entries = es }))) law

-- a change that was made has the head and the entries of what it made
record IsMade (greatest : Key → ℕ) (dropped : ℕ) (old new : TallyRecord) (change : ChangeRecord) : Type 0 where
  head : change.head ≡ new.head
  entries : change_all key_cmp Below TooGreat greatest (staying dropped old change.head) change.entries ≡ Ok new.entries

made : (greatest : Key → ℕ) (dropped : ℕ) (old new : TallyRecord) (change : ChangeRecord) (r : Result (List (Key × ℕ)) (PatchFault Key)) → change_all key_cmp Below TooGreat greatest (staying dropped old change.head) change.entries ≡ r
    → then_do r (λ es. Ok (record { head = change.head; entries = es })) ≡ Ok new → IsMade greatest dropped old new change
made greatest dropped old new change (Err x) e is = cc
made greatest dropped old new change (Ok es) e is =
    let same : record { head = change.head; entries = es } ≡ new = cc in
    record { head = ap (λ (t : TallyRecord). t.head) same; entries = e ∙ ap (λ (t : TallyRecord). Ok t.entries) same }

pub tallies_by_difference : (greatest : Key → ℕ) (dropped : ℕ) → TalliesByDifference greatest dropped
tallies_by_difference greatest dropped = record {
  reaches = λ old new a b. tally_reaches Below TooGreat greatest dropped old new a b;
  alone = λ old new change b c e.
      let m = made greatest dropped old new change _ refl e in
      let to : change_all key_cmp Below TooGreat greatest (staying dropped old new.head) change.entries ≡ Ok new.entries = subst (λ h. change_all key_cmp Below TooGreat greatest (staying dropped old h) change.entries ≡ Ok new.entries) m.head m.entries in
      let only = only_difference key_total same_key Below TooGreat greatest (staying dropped old new.head) new.entries change.entries c b.sorted to in
      λ i. record { head = m.head i; entries = only i };
}
