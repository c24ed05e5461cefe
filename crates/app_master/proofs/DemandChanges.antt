-- What a change of one key, and a new head, make of a demand.
use Rattle.std.proofs.Common.{◌≡◌, ℕ, ◌≤◌, ◌<◌, true, false, cond, not, nat_eq, nat_lt, List, [], ◌∷◌, Ok, Err, Result, refl, sym, ◌∙◌, ap, arith}
use Rattle.std.specs.Ordering.{eq_by_cmp, is_eq}
use Rattle.std.specs.Cmp.{tied_itself}
use Rattle.std.proofs.lemmas.Bool.Decides.{nat_tests}
use Rattle.std.specs.FinMap.Entries.{where_key}
use Rattle.fuxi_terms.specs.declared.Key.{Key}
use Rattle.fuxi_terms.specs.declared.answers.LedgerFault.{LedgerFault}
use Rattle.fuxi_terms.specs.declared.answers.LedgerFault.TheVariants.{Below, TooGreat}
use Rattle.fuxi_terms.specs.Keys.{key_cmp}
use Rattle.fuxi_terms.specs.Counts.{AreCounts, count, set_count, set_moved, change_all, then_do}
use Rattle.fuxi_terms.specs.Tallies.{TallyRecord, ChangeRecord, staying}
use Rattle.fuxi_terms.specs.TallyKeys.{greatest_demand, back_what}
use Rattle.fuxi_terms.proofs.Booleans.{nat_itself}
use Rattle.fuxi_terms.proofs.CountsLemmas.{count_le, is_key, same_counts, counts-set_count, count-set_count}
use Rattle.fuxi_terms.proofs.KeyOrders.{key_total, same_key}
use Rattle.spec_net.specs.Ledgers.{Ledger, tally_ledger}
use Rattle.spec_roles.specs.Apps.{changed_demand, joined_demand}
use Rattle.peer_channel.specs.Bodies.{tally_of}
use Rattle.app_master.specs.AppCores.{patched_demand}
use Rattle.app_master.specs.Asking.{IsMove}

-- a number that is set where it stands already
pub set_itself : (es : List (Key × ℕ)) (k : Key) (n : ℕ) → AreCounts key_cmp greatest_demand es → n ≡ count key_cmp es k → set_count key_cmp es k n ≡ es
set_itself es k n h e =
    let le : n ≤ greatest_demand k = let l = count_le key_total same_key greatest_demand es k h.within in omega (arith, l, e) in
    same_counts key_total same_key greatest_demand (set_count key_cmp es k n) es (counts-set_count key_total greatest_demand same_key es k n le h) h
    (λ q. count-set_count key_total es k n q ∙ elim (eq_by_cmp key_cmp q k) as (λ b. eq_by_cmp key_cmp q k ≡ b → cond b n (count key_cmp es q) ≡ count key_cmp es q) [
      | true ↦ λ t. e ∙ ap (count key_cmp es) (sym (is_key key_total same_key greatest_demand q k t))
      | false ↦ λ t. refl
    ] refl)

-- a number that was set
pub set_here : (es : List (Key × ℕ)) (k : Key) (n : ℕ) → count key_cmp (set_count key_cmp es k n) k ≡ n
set_here es k n = count-set_count key_total es k n k ∙ ap (λ r. cond (is_eq r) n (count key_cmp es k)) (tied_itself key_total k)

-- a changed number, under the head that stands
pub move_made : (t : TallyRecord) (k : Key) (n : ℕ) (c : ChangeRecord) → n ≤ greatest_demand k → IsMove t.head k (count key_cmp t.entries k) n c
    → patched_demand t c ≡ Ok (record { head = t.head; entries = set_count key_cmp t.entries k n })
move_made t k n c le m =
    let within : nat_lt (greatest_demand k) n ≡ false = grind (arith, nat_tests, le) in
    let made : List (Key × ℕ) → Result TallyRecord LedgerFault = λ es. Ok (record { head = t.head; entries = es }) in
    ap (patched_demand t) m.is
    ∙ ap (λ b. then_do (change_all key_cmp Below TooGreat greatest_demand (cond b t.entries (where_key key_cmp (λ k. not (nat_eq k.what back_what)) t.entries)) ((k, m.change) ∷ [])) made) (nat_itself t.head)
    ∙ ap (λ o. then_do (then_do (set_moved key_cmp Below TooGreat greatest_demand t.entries k (count key_cmp t.entries k) m.change o) Ok) made) m.moves
    ∙ ap (λ b. then_do (then_do (cond b (Err (TooGreat k)) (Ok (set_count key_cmp t.entries k n))) Ok) made) within

-- a demand that joins an epoch
pub joined_is : (t u : TallyRecord) (epoch : ℕ) → t.head < epoch → patched_demand t (record { head = epoch; entries = [] }) ≡ Ok u → (d : Ledger) → d ≡ tally_of t → tally_of u ≡ joined_demand epoch d
joined_is t u epoch later made d is =
    let differs : nat_eq epoch t.head ≡ false = grind (arith, nat_tests, later) in
    let there : record { head = epoch; entries = staying back_what t epoch } ≡ u = cc in
    ap tally_of (sym there) ∙ ap (λ b. tally_ledger epoch (cond b t.entries (where_key key_cmp (λ k. not (nat_eq k.what back_what)) t.entries))) differs ∙ ap (joined_demand epoch) (sym is)

-- a changed number of the ledger that is shown
pub changed_is : (t : TallyRecord) (k : Key) (n : ℕ) (d : Ledger) → d ≡ tally_of t → tally_of (record { head = t.head; entries = set_count key_cmp t.entries k n }) ≡ changed_demand d k n
changed_is t k n d is = ap (λ l. changed_demand l k n) (sym is)
