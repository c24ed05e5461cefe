-- The change that sets names, as a change of a tally.
use Rattle.std.proofs.Common.{◌≡◌, ℕ, ◌<◌, ◌≤◌, ◌^◌, Bool, true, false, cond, not, nat_eq, List, [], ◌∷◌, length, Ok, refl, sym, ◌∙◌, ap, arith}
use Rattle.std.proofs.lemmas.Bool.Decides.{nat_tests}
use Rattle.std.specs.FinMap.Entries.{where_key}
use Rattle.fuxi_terms.specs.declared.Key.{Key}
use Rattle.fuxi_terms.specs.declared.answers.LedgerFault.TheVariants.{Below, TooGreat}
use Rattle.fuxi_terms.specs.Counts.{AreCounts, AreChanges, change_all, then_do, count, is_same, difference}
use Rattle.fuxi_terms.specs.Keys.{key_cmp}
use Rattle.fuxi_terms.specs.Tallies.{TallyRecord, ChangeRecord, staying}
use Rattle.fuxi_terms.proofs.Booleans.{nat_itself}
use Rattle.fuxi_terms.proofs.CountsLemmas.{count_le}
use Rattle.fuxi_terms.proofs.KeyOrders.{key_total, same_key}
use Rattle.fuxi_terms.proofs.SameEntries.{same_entries, same_itself}
use Rattle.ledger_law.specs.Differing.{tally_by_difference}
use Rattle.ledger_law.specs.Shapes.{IsTally}
use Rattle.work_plan.specs.PlanKeys.{greatest_named, no_what}
use Rattle.fuxi_terms.specs.NumbersSet.{numbers_set, moves, AreNumbers}
use Rattle.work_plan.specs.Ends.{names_set, patched_names}
use Rattle.fuxi_terms.proofs.NumbersSetLemmas.{moves_make, no_difference}

pub at_most_one : (k : Key) → greatest_named k ≤ 1
at_most_one k = grind (arith, nat_tests)

pub count_small : (es : List (Key × ℕ)) (k : Key) → AreCounts key_cmp greatest_named es → count key_cmp es k ≤ 1
count_small es k h = let le = count_le key_total same_key greatest_named es k h.within in let one = at_most_one k in omega (arith, le, one)

staying_same : (t : TallyRecord) → staying no_what t t.head ≡ t.entries
staying_same t = ap (λ b. cond b t.entries (where_key key_cmp (λ k. not (nat_eq k.what no_what)) t.entries)) (nat_itself t.head)

-- the change makes the ledger with these names set
pub names_are_set : (t : TallyRecord) (ns : List (Key × ℕ)) → AreCounts key_cmp greatest_named t.entries → AreNumbers key_cmp greatest_named ns → patched_names t (record { head = t.head; entries = moves key_cmp t.entries ns }) ≡ Ok (names_set t ns)
names_are_set t ns h n =
    let stays : staying no_what t t.head ≡ t.entries = staying_same t in
    ap (λ es. then_do (change_all key_cmp Below TooGreat greatest_named es (moves key_cmp t.entries ns)) (λ fs. Ok (record { head = t.head; entries = fs }))) stays
    ∙ ap (λ r. then_do r (λ fs. Ok (record { head = t.head; entries = fs }))) (moves_make key_total same_key greatest_named Below TooGreat t.entries t.entries ns h n.sorted n.within (λ q e. refl))

-- where it changes nothing it has no entry
pub no_moves : (t : TallyRecord) (ns : List (Key × ℕ)) → t.head < 2 ^ 64 → AreCounts key_cmp greatest_named t.entries → AreNumbers key_cmp greatest_named ns → AreChanges key_cmp (moves key_cmp t.entries ns) → t.entries ≡ (names_set t ns).entries → moves key_cmp t.entries ns ≡ []
no_moves t ns small h n real same =
    let form : IsTally greatest_named t = record { head = small; counts = h } in
    let d : ChangeRecord = record { head = t.head; entries = moves key_cmp t.entries ns } in
    let makes : patched_names t d ≡ Ok t = names_are_set t ns h n ∙ ap (λ es. Ok (record { head = t.head; entries = es })) (sym same) in
    let only = (tally_by_difference greatest_named no_what).alone t t d form form real makes in
    ap (λ (c : ChangeRecord). c.entries) only ∙ ap (λ es. difference key_cmp es t.entries) (staying_same t) ∙ no_difference key_cmp t.entries

-- where it has none nothing changes
pub same_names : (t : TallyRecord) (ns : List (Key × ℕ)) → AreCounts key_cmp greatest_named t.entries → AreNumbers key_cmp greatest_named ns → moves key_cmp t.entries ns ≡ [] → t.entries ≡ (names_set t ns).entries
same_names t ns h n none =
    let made = moves_make key_total same_key greatest_named Below TooGreat t.entries t.entries ns h n.sorted n.within (λ q e. refl) in
    let all : Ok t.entries ≡ Ok (numbers_set key_cmp t.entries ns) = ap (change_all key_cmp Below TooGreat greatest_named t.entries) (sym none) ∙ made in
    cc

pub found_same : (es fs : List (Key × ℕ)) → es ≡ fs → is_same key_cmp es fs ≡ true
found_same es fs e = ap (λ gs. is_same key_cmp es gs) (sym e) ∙ same_itself key_total es

pub found_other : (es fs : List (Key × ℕ)) → (es ≡ fs → ⊥) → is_same key_cmp es fs ≡ false
found_other es fs differ = by (is_same key_cmp es fs) refl
  where
    by : (b : Bool) → is_same key_cmp es fs ≡ b → b ≡ false
    by true t = absurd (differ (same_entries key_cmp same_key es fs t))
    by false t = refl

pub no_items : {A : Type 0} (xs : List A) → nat_eq (length xs) 0 ≡ true → xs ≡ []
no_items [] h = refl
no_items (x ∷ xs) h = let f : nat_eq (length (x ∷ xs)) 0 ≡ false = grind (arith, nat_tests) in cc

pub some_items : {A : Type 0} (xs : List A) → nat_eq (length xs) 0 ≡ false → xs ≡ [] → ⊥
some_items [] h e = cc
some_items (x ∷ xs) h e = cc
