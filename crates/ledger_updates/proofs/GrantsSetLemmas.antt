-- The grants that stay under a boot, and the change that sets numbers in them.
use Rattle.std.proofs.Common.{◌≡◌, ℕ, ◌<◌, ◌≤◌, ◌^◌, Bool, true, false, cond, not, nat_eq, List, [], Ok, refl, sym, ◌∙◌, ap, arith}
use Rattle.std.specs.FinMap.Entries.{where_key}
use Rattle.std.proofs.lemmas.Bool.Decides.{nat_tests}
use Rattle.fuxi_terms.specs.declared.Key.{Key}
use Rattle.fuxi_terms.specs.declared.answers.LedgerFault.TheVariants.{Below, TooGreat}
use Rattle.fuxi_terms.specs.Keys.{key_cmp}
use Rattle.fuxi_terms.specs.Counts.{count, then_do, difference, AreCounts, AreChanges}
use Rattle.fuxi_terms.specs.Tallies.{TallyRecord, ChangeRecord, patched_tally, tally_difference, staying}
use Rattle.fuxi_terms.specs.TallyKeys.{greatest_grant, credited_what}
use Rattle.fuxi_terms.proofs.Booleans.{nat_itself}
use Rattle.fuxi_terms.proofs.CountsLemmas.{counts-where_key, count_le, count_where}
use Rattle.fuxi_terms.proofs.KeyOrders.{key_total, same_key}
use Rattle.ledger_law.specs.Differing.{tally_by_difference}
use Rattle.ledger_law.specs.Shapes.{IsTally, IsChange}
use Rattle.spec_net.specs.Ledgers.{Ledger}
use Rattle.peer_channel.specs.Bodies.{tally_of}
use Rattle.fuxi_terms.specs.NumbersSet.{moves, AreNumbers}
use Rattle.ledger_updates.specs.Shown.{grants_set}
use Rattle.fuxi_terms.proofs.NumbersSetLemmas.{moves_make, moves_within, no_difference}
use Rattle.fuxi_terms.proofs.MovesLemmas.{are_others}

other_head : (t : TallyRecord) (boot : ℕ) (k : Key) → (boot ≡ t.head → ⊥) → count key_cmp (staying credited_what t boot) k ≡ cond (not (nat_eq k.what credited_what)) (count key_cmp t.entries k) 0
other_head t boot k differs =
    ap (λ b. count key_cmp (cond b t.entries (where_key key_cmp (λ k. not (nat_eq k.what credited_what)) t.entries)) k) (are_others boot boot t.head refl differs)
    ∙ count_where key_cmp same_key (λ k. not (nat_eq k.what credited_what)) t.entries k

pub gone : (t : TallyRecord) (boot : ℕ) (k : Key) → (boot ≡ t.head → ⊥) → k.what ≡ credited_what → 0 ≡ count key_cmp (staying credited_what t boot) k
gone t boot k differs is = let c : nat_eq k.what credited_what ≡ true = grind (arith, nat_tests, is) in sym (other_head t boot k differs ∙ ap (λ b. cond (not b) (count key_cmp t.entries k) 0) c)

pub stays : (t : TallyRecord) (boot : ℕ) (k : Key) → (boot ≡ t.head → ⊥) → (k.what ≡ credited_what → ⊥) → count key_cmp t.entries k ≡ count key_cmp (staying credited_what t boot) k
stays t boot k differs is = sym (other_head t boot k differs ∙ ap (λ b. cond (not b) (count key_cmp t.entries k) 0) (are_others k.what k.what credited_what refl is))

pub stays_counts : (t : TallyRecord) (boot : ℕ) → AreCounts key_cmp greatest_grant t.entries → AreCounts key_cmp greatest_grant (staying credited_what t boot)
stays_counts t boot h = by (nat_eq boot t.head)
  where
    by : (b : Bool) → AreCounts key_cmp greatest_grant (cond b t.entries (where_key key_cmp (λ k. not (nat_eq k.what credited_what)) t.entries))
    by true = h
    by false = counts-where_key key_total greatest_grant (λ k. not (nat_eq k.what credited_what)) t.entries h

pub grant_small : (k : Key) → greatest_grant k ≤ 1000000000000
grant_small k = grind (arith, nat_tests)

pub count_small : (t : TallyRecord) (boot : ℕ) (k : Key) → AreCounts key_cmp greatest_grant t.entries → count key_cmp (staying credited_what t boot) k ≤ 1000000000000
count_small t boot k h = omega (arith, count_le key_total same_key greatest_grant (staying credited_what t boot) k (stays_counts t boot h).within, grant_small k)

pub number_small : (k : Key) (n : ℕ) → n ≤ greatest_grant k → n ≤ 1000000000000
number_small k n le = omega (arith, le, grant_small k)

-- the grants with the numbers set are what the change makes
pub grants_are_set : (t : TallyRecord) (boot : ℕ) (ns : List (Key × ℕ)) → AreCounts key_cmp greatest_grant t.entries → AreNumbers key_cmp greatest_grant ns
    → patched_tally Below TooGreat greatest_grant credited_what t (record { head = boot; entries = moves key_cmp (staying credited_what t boot) ns }) ≡ Ok (grants_set t boot ns)
grants_are_set t boot ns h numbers =
    let es = staying credited_what t boot in
    ap (λ r. then_do r (λ es. Ok (record { head = boot; entries = es }))) (moves_make key_total same_key greatest_grant Below TooGreat es es ns (stays_counts t boot h) numbers.sorted numbers.within (λ q _. refl))

-- a change with entries or another head makes other grants
pub grants_differ : (old ledger : TallyRecord) (change : ChangeRecord) → IsTally greatest_grant old → AreChanges key_cmp change.entries → patched_tally Below TooGreat greatest_grant credited_what old change ≡ Ok ledger
    → (change.entries ≡ [] → change.head ≡ old.head → ⊥) → tally_of old ≡ tally_of ledger → ⊥
grants_differ old ledger change tally are made some same =
    let is : old ≡ ledger = λ i. record { head = ap (λ (l : Ledger). l.head) same i; entries = ap (λ (l : Ledger). l.entries) same i } in
    let back : patched_tally Below TooGreat greatest_grant credited_what old change ≡ Ok old = made ∙ ap (λ t. Ok t) (sym is) in
    let only : change ≡ tally_difference credited_what old old = (tally_by_difference greatest_grant credited_what).alone old old change tally tally are back in
    let kept : staying credited_what old old.head ≡ old.entries = ap (λ b. cond b old.entries (where_key key_cmp (λ k. not (nat_eq k.what credited_what)) old.entries)) (nat_itself old.head) in
    some (ap (λ (d : ChangeRecord). d.entries) only ∙ ap (λ es. difference key_cmp es old.entries) kept ∙ no_difference key_cmp old.entries) (ap (λ (d : ChangeRecord). d.head) only)

-- the change that sets the numbers has a form
pub grants_form : (t : TallyRecord) (boot : ℕ) (ns : List (Key × ℕ)) → boot < 2 ^ 64 → AreCounts key_cmp greatest_grant t.entries → AreNumbers key_cmp greatest_grant ns → AreChanges key_cmp (moves key_cmp (staying credited_what t boot) ns)
    → IsChange greatest_grant (record { head = boot; entries = moves key_cmp (staying credited_what t boot) ns })
grants_form t boot ns small h numbers are = record {
  head = small;
  entries = record {
    changes = are;
    within = moves_within key_cmp greatest_grant (staying credited_what t boot) ns (λ k. count_le key_total same_key greatest_grant (staying credited_what t boot) k (stays_counts t boot h).within) numbers.within;
  };
}

-- under the head that they have, the grants are as they are
pub kept_as : (t : TallyRecord) (boot : ℕ) → boot ≡ t.head → t ≡ record { head = boot; entries = staying credited_what t boot }
kept_as t boot is =
    let same : nat_eq boot t.head ≡ true = ap (λ n. nat_eq n t.head) is ∙ nat_itself t.head in
    λ i. record { head = sym is i; entries = sym (ap (λ b. cond b t.entries (where_key key_cmp (λ k. not (nat_eq k.what credited_what)) t.entries)) same) i }
