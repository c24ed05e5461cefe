-- Changes to a row: each of them tested on the entries as they are, and then made.
use Rattle.std.proofs.Common.{◌≡◌, ℕ, ◌+◌, ◌<◌, ◌≤◌, Bool, true, false, cond, nat_lt, nat_eq, List, [], ◌∷◌, length, get_or, drop, Option, Some, None, Result, Ok, Err, refl, sym, ◌∙◌, ap, subst, arith, add-one, drop-cons, lit≤}
use Rattle.std.specs.Prelude.{ℤ, pos, negsuc, zero, suc, T, IsOk, unsigned_abs}
use Rattle.std.proofs.lemmas.List.Elements.{All-from_recursion}
use Rattle.std.specs.Option.{is_some}
use Rattle.std.specs.Ordering.{eq_by_cmp, is_eq}
use Rattle.std.specs.Cmp.{tied_itself}
use Rattle.std.specs.FinMap.Entries.{below_all, find, is_sorted}
use Rattle.std.proofs.lemmas.Bool.Decides.{nat_tests}
use Rattle.std.proofs.lemmas.List.{drop_all}
use Rattle.fuxi_terms.specs.Keys.{RowKey, row_cmp}
use Rattle.fuxi_terms.specs.Counts.{moved, is_no_change, in_bounds, moved_within, count, set_count, change_one, then_do, AreCounts}
use Rattle.fuxi_terms.specs.declared.answers.LedgerFault.{LedgerFault}
use Rattle.fuxi_terms.proofs.CountsLemmas.{both_true, tied, below_none, count_le, count-set_count, counts-set_count, length-set_count}
use Rattle.fuxi_terms.proofs.ChangesInTurn.{made_one}
use Rattle.fuxi_terms.proofs.TestedAlone.{change_one_is}
use Rattle.fuxi_terms.proofs.KeyOrders.{row_key_total, same_row_key}
use Rattle.fuxi_terms.specs.Rows.{IsRow, AreRowChanges, is_row_key, greatest_row, patched_row, change_row_once, within_row, row_below, row_too_great}
use Rattle.fuxi_terms.specs.Limits.{most_entries}

abbrev Entries : Type 0
Entries = List (RowKey × ℕ)

-- no key of the changes that are left was changed, so the test may look at the entries as they were
pub record IsTestedTo (es : Entries) (cs : List (RowKey × ℤ)) (i len : ℕ) : Type 0 where
  pub mid : Entries
  pub row : IsRow mid
  pub long : length mid ≡ len
  pub rising : T (is_sorted row_cmp (drop i cs))
  pub made : patched_row mid (drop i cs) ≡ patched_row es cs
  pub untouched : (q : RowKey) → is_some (find row_cmp q (drop i cs)) ≡ true → count row_cmp mid q ≡ count row_cmp es q

-- a key that stands above is another
pub differs : (k q : RowKey) (cs : List (RowKey × ℤ)) → T (below_all row_cmp k cs) → is_some (find row_cmp q cs) ≡ true → eq_by_cmp row_cmp q k ≡ false
differs k q cs below found = elim (eq_by_cmp row_cmp q k) as (λ b. eq_by_cmp row_cmp q k ≡ b → b ≡ false) [
  | true ↦ λ t. let none : is_some (find row_cmp q cs) ≡ false = subst (λ x. is_some (find row_cmp x cs) ≡ false) (sym (same_row_key q k (tied _ t))) (ap is_some (below_none row_cmp k cs below)) in cc
  | false ↦ λ t. refl
] refl

pub made_within : (k : RowKey) (kept : ℕ) (change : ℤ) (n : ℕ) → moved_within row_below row_too_great greatest_row k kept change ≡ Ok n → n ≤ greatest_row k
made_within k kept change n is = by (moved kept change) is
  where
    at : (m : ℕ) (b : Bool) → nat_lt (greatest_row k) m ≡ b → cond b (Err (row_too_great k)) (Ok m) ≡ Ok n → n ≤ greatest_row k
    at m true t e = cc
    at m false t e = let same : m ≡ n = cc in grind (arith, nat_tests)

    by : (o : Option ℕ) → in_bounds row_below row_too_great greatest_row k kept change o ≡ Ok n → n ≤ greatest_row k
    by None e = cc
    by (Some m) e = at m (nat_lt (greatest_row k) m) refl e

real_change : (z : ℤ) → is_no_change z ≡ false → 0 < unsigned_abs z
real_change (pos zero) e = cc
real_change (pos (suc n)) e = omega arith
real_change (negsuc n) e = omega arith

-- a change of a row is of a key, since it is not 0
pub is_changed_key : (cs : List (RowKey × ℤ)) → AreRowChanges cs → (i : ℕ) (c : RowKey × ℤ) → c ≡ get_or cs i c → i < length cs → is_row_key c.0 ≡ true
is_changed_key cs h i c is lt =
    let real = All-from_recursion (λ c. is_no_change c.1 ≡ false) cs h.changes.real i c lt in
    let within = All-from_recursion (λ c. unsigned_abs c.1 ≤ greatest_row c.0) cs h.within i c lt in
    subst (λ c. is_row_key c.0 ≡ true) (sym is) (by (is_row_key (get_or cs i c).0) (omega (arith, real_change (get_or cs i c).1 real, within)))
  where
    by : (b : Bool) → 0 < cond b 100000 0 → b ≡ true
    by true h = refl
    by false h = absurd (omega (arith, h))

pub row_start : (es : Entries) (cs : List (RowKey × ℤ)) → IsRow es → T (is_sorted row_cmp cs) → IsTestedTo es cs 0 (length es)
row_start es cs row s = record { mid = es; row = row; long = refl; rising = s; made = refl; untouched = λ q _. refl }

module _ (es : Entries) (cs : List (RowKey × ℤ)) (i len : ℕ) (c : RowKey × ℤ) (c_is : c ≡ get_or cs i c) (t : IsTestedTo es cs i len) (lt : i < length cs) (kept : ℕ) (kept_is : kept ≡ count row_cmp es c.0) where
  pub here : drop i cs ≡ c ∷ drop (i + 1) cs
  here = drop-cons cs i c lt ∙ ap (λ n. get_or cs i c ∷ drop n cs) (sym (add-one i)) ∙ ap (λ x. x ∷ drop (i + 1) cs) (sym c_is)

  pub rest_rises : T (below_all row_cmp c.0 (drop (i + 1) cs)) × T (is_sorted row_cmp (drop (i + 1) cs))
  rest_rises = both_true _ _ (subst (λ l. T (is_sorted row_cmp l)) here t.rising)

  pub kept_mid : count row_cmp t.mid c.0 ≡ kept
  kept_mid =
      let first : is_some (find row_cmp c.0 (drop i cs)) ≡ true = ap (λ l. is_some (find row_cmp c.0 l)) here ∙ ap (λ r. is_some (cond (is_eq r) (Some c.1) (find row_cmp c.0 (drop (i + 1) cs)))) (tied_itself row_key_total c.0) in
      t.untouched c.0 first ∙ sym kept_is

  -- what the change makes of the row so far
  pub patched_here : (r : Result ℕ LedgerFault) → moved_within row_below row_too_great greatest_row c.0 kept c.1 ≡ r
      → patched_row es cs ≡ then_do (then_do (then_do r (λ n. Ok (set_count row_cmp t.mid c.0 n))) (within_row c.0)) (λ fs. patched_row fs (drop (i + 1) cs))
  patched_here r is =
      let k : RowKey = c.0 in
      let made : change_one row_cmp row_below row_too_great greatest_row t.mid k c.1 ≡ then_do r (λ n. Ok (set_count row_cmp t.mid k n)) =
      change_one_is row_cmp row_below row_too_great greatest_row t.mid k c.1
      ∙ ap (λ m. then_do (moved_within row_below row_too_great greatest_row k m c.1) (λ n. Ok (set_count row_cmp t.mid k n))) kept_mid
      ∙ ap (λ r. then_do r (λ n. Ok (set_count row_cmp t.mid k n))) is in
      sym t.made ∙ ap (patched_row t.mid) here ∙ ap (λ r. then_do (then_do r (within_row k)) (λ fs. patched_row fs (drop (i + 1) cs))) made

  pub row_refused : (f : LedgerFault) → Err f ≡ moved_within row_below row_too_great greatest_row c.0 kept c.1 → patched_row es cs ≡ Err f
  row_refused f is = patched_here (Err f) (sym is)

  module _ (n after : ℕ) (is : Ok n ≡ moved_within row_below row_too_great greatest_row c.0 kept c.1) (len_is : after + cond (nat_eq kept 0) 0 1 ≡ len + cond (nat_eq n 0) 0 1) where
    pub after_is : length (set_count row_cmp t.mid c.0 n) ≡ after
    after_is =
        let by_count : length (set_count row_cmp t.mid c.0 n) + cond (nat_eq kept 0) 0 1 ≡ length t.mid + cond (nat_eq n 0) 0 1 = subst (λ m. length (set_count row_cmp t.mid c.0 n) + cond (nat_eq m 0) 0 1 ≡ length t.mid + cond (nat_eq n 0) 0 1) kept_mid (length-set_count row_key_total greatest_row t.mid c.0 n t.row.counts) in
        omega (arith, by_count, len_is, t.long)

    pub row_too_long : most_entries < after → patched_row es cs ≡ Err (row_too_great c.0)
    row_too_long more =
        let test : nat_lt most_entries (length (set_count row_cmp t.mid c.0 n)) ≡ true = let e = after_is in grind (arith, nat_tests) in
        patched_here (Ok n) (sym is) ∙ ap (λ b. then_do (cond b (Err (row_too_great c.0)) (Ok (set_count row_cmp t.mid c.0 n))) (λ fs. patched_row fs (drop (i + 1) cs))) test

    abbrev pub row_more : after ≤ most_entries → IsTestedTo es cs (i + 1) after
    row_more few =
        let k : RowKey = c.0 in
        let test : nat_lt most_entries (length (set_count row_cmp t.mid c.0 n)) ≡ false = let e = after_is in grind (arith, nat_tests) in
        let other : (q : RowKey) → is_some (find row_cmp q (drop (i + 1) cs)) ≡ true → eq_by_cmp row_cmp q c.0 ≡ false = λ q found. differs c.0 q (drop (i + 1) cs) rest_rises.0 found in
        record {
          mid = set_count row_cmp t.mid k n;
          row = record { counts = counts-set_count row_key_total greatest_row same_row_key t.mid k n (made_within k kept c.1 n (sym is)) t.row.counts; few = omega (arith, after_is) };
          long = after_is;
          rising = rest_rises.1;
          made = sym (patched_here (Ok n) (sym is) ∙ ap (λ b. then_do (cond b (Err (row_too_great c.0)) (Ok (set_count row_cmp t.mid c.0 n))) (λ fs. patched_row fs (drop (i + 1) cs))) test);
          untouched = λ q found.
              count-set_count row_key_total t.mid k n q ∙ ap (λ b. cond b n (count row_cmp t.mid q)) (other q found)
              ∙ t.untouched q (ap (λ l. is_some (find row_cmp q l)) here ∙ ap (λ b. is_some (cond b (Some c.1) (find row_cmp q (drop (i + 1) cs)))) (other q found) ∙ found);
        }

pub row_passes : (es : Entries) (cs : List (RowKey × ℤ)) (i len : ℕ) → length cs ≤ i → IsTestedTo es cs i len → IsOk (patched_row es cs)
row_passes es cs i len le t = subst (λ r. IsOk r) (sym (ap (patched_row t.mid) (drop_all i cs le)) ∙ t.made) refl

pub greatest_small : (k : RowKey) → greatest_row k ≤ 100000
greatest_small k = by (is_row_key k)
  where
    by : (b : Bool) → cond b 100000 0 ≤ 100000
    by true = lit≤ tt
    by false = lit≤ tt

pub count_small : (es : Entries) (k : RowKey) → AreCounts row_cmp greatest_row es → count row_cmp es k ≤ 100000
count_small es k h = omega (arith, count_le row_key_total same_row_key greatest_row es k h.within, greatest_small k)

nonempty : (es : Entries) (q : RowKey) → 0 < count row_cmp es q → 0 < length es
nonempty [] q h = absurd (omega (arith, h))
nonempty (e ∷ es) q h = omega arith

pub row_some : (es : Entries) (cs : List (RowKey × ℤ)) (i len : ℕ) (c : RowKey × ℤ) → c ≡ get_or cs i c → IsTestedTo es cs i len → i < length cs → (kept : ℕ) → kept ≡ count row_cmp es c.0 → 0 < kept → 0 < len
row_some es cs i len c c_is t lt kept is more = let m = kept_mid es cs i len c c_is t lt kept is in let n = nonempty t.mid c.0 (omega (arith, m)) in omega (arith, t.long)

-- a change that can be made, with room for the entry
made_row : (es : Entries) (k : RowKey) (r : Result Entries LedgerFault) (fs : Entries) → r ≡ Ok fs → IsOk (then_do r (within_row k)) → (then_do r (within_row k) ≡ Ok fs) × (length fs ≤ most_entries)
made_row es k r fs is ok = by (nat_lt most_entries (length fs)) refl
  where
    once : then_do r (within_row k) ≡ cond (nat_lt most_entries (length fs)) (Err (row_too_great k)) (Ok fs)
    once = ap (λ r. then_do r (within_row k)) is

    by : (b : Bool) → nat_lt most_entries (length fs) ≡ b → (then_do r (within_row k) ≡ Ok fs) × (length fs ≤ most_entries)
    by true t = let bad : IsOk {T = Entries} (Err (row_too_great k)) = subst (λ r. IsOk r) (once ∙ ap (λ b. cond b (Err (row_too_great k)) (Ok fs)) t) ok in absurd (let f : ⊥ = cc in f)
    by false t = (once ∙ ap (λ b. cond b (Err (row_too_great k)) (Ok fs)) t, grind (arith, nat_tests))

first_ok : (k : RowKey) (r : Result Entries LedgerFault) → IsOk (then_do r (within_row k)) → IsOk r
first_ok k (Ok fs) h = refl
first_ok k (Err f) h = cc

pub row_made_once : (es : Entries) (k : RowKey) (change : ℤ) (n : ℕ) → AreCounts row_cmp greatest_row es → IsOk (change_row_once es k change) → moved (count row_cmp es k) change ≡ Some n → (change_row_once es k change ≡ Ok (set_count row_cmp es k n)) × IsRow (set_count row_cmp es k n)
row_made_once es k change n h ok is =
    let one = made_one row_cmp row_below row_too_great greatest_row es k change n (first_ok k (change_one row_cmp row_below row_too_great greatest_row es k change) ok) is in
    let row = made_row es k (change_one row_cmp row_below row_too_great greatest_row es k change) (set_count row_cmp es k n) one.0 ok in
    (row.0, record { counts = counts-set_count row_key_total greatest_row same_row_key es k n one.1 h; few = row.1 })
