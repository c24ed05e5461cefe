-- The total of a row after changes, one at a time.
use Rattle.std.proofs.Common.{◌≡◌, ℕ, ◌+◌, ◌-◌, ◌*◌, ◌<◌, ◌≤◌, ◌^◌, Bool, true, false, cond, not, nat_eq, nat_lt, List, [], ◌∷◌, length, get_or, Some, Ok, Err, refl, sym, ◌∙◌, ap, subst, arith}
use Rattle.std.specs.Prelude.{ℤ, T}
use Rattle.std.specs.Option.{unwrap_or}
use Rattle.std.specs.List.{All, sum_by}
use Rattle.std.specs.Ordering.{eq_by_cmp}
use Rattle.std.specs.FinMap.Entries.{below_all, is_sorted, where_key, put, find}
use Rattle.std.proofs.lemmas.List.Sums.{sum_by-cons}
use Rattle.std.proofs.lemmas.List.{drop_all}
use Rattle.std.proofs.lemmas.Bool.Decides.{nat_tests}
use Rattle.fuxi_terms.specs.declared.vectors.Sum.{Sum}
use Rattle.fuxi_terms.specs.Keys.{RowKey, row_cmp}
use Rattle.fuxi_terms.specs.Counts.{count, set_count, moved_within}
use Rattle.fuxi_terms.specs.Limits.{most_entries}
use Rattle.fuxi_terms.specs.Rows.{IsRow, patched_row, row_below, row_too_great, row_total, greatest_row}
use Rattle.fuxi_terms.specs.Totals.{total_of}
use Rattle.fuxi_terms.specs.Vectors.{plus, minus, times, fits, at_place}
use Rattle.fuxi_terms.specs.declared.answers.LedgerFault.{LedgerFault}
use Rattle.fuxi_terms.proofs.Booleans.{number_is}
use Rattle.fuxi_terms.proofs.CountsLemmas.{both_true, tied, below_none}
use Rattle.fuxi_terms.proofs.KeyOrders.{row_key_total, same_row_key}
use Rattle.fuxi_terms.proofs.Sums.{sum_put_exact}
use Rattle.fuxi_terms.proofs.ByPlace.{length-plus, length-minus, length-times}
use Rattle.fuxi_terms.proofs.VectorLaws.{at_place-plus, at_place-minus, at_place-times, at_place-padded, same_at_places, fits_places, length-padded}
use Rattle.party_ledgers.specs.RowOneForm.{row_entries}
use Rattle.party_ledgers.proofs.Totals.{sized, total_long, total_fits}
use Rattle.party_ledgers.proofs.PatchedRow.{IsTestedTo, made_within, greatest_small, kept_mid, row_more}
use Rattle.party_ledgers.specs.Weighing.{TotalsAfter, total_moved}

abbrev Entries : Type 0
Entries = List (RowKey × ℕ)

-- one resource of a row
module _ (i : ℕ) where
  abbrev weigh : RowKey → ℕ → ℕ
  weigh k n = n * at_place k.size i

  abbrev weighed : RowKey × ℕ → ℕ
  weighed e = weigh e.0 e.1

  no_weight : (k : RowKey) → weigh k 0 ≡ 0
  no_weight k = omega arith

  total_at : (es : Entries) → at_place (row_total es) i ≡ sum_by weighed es
  total_at es = at_place-padded (total_of (sized es)) i ∙ by es
    where
      by : (es : Entries) → at_place (total_of (sized es)) i ≡ sum_by weighed es
      by [] = refl
      by (e ∷ es) = at_place-plus (times e.1 e.0.size) (total_of (sized es)) i ∙ (λ j. at_place-times e.1 e.0.size i j + by es j) ∙ sym (sum_by-cons weighed e es)

  without : (k : RowKey) (es : Entries) → T (is_sorted row_cmp es) → sum_by weighed (where_key row_cmp (λ x. not (eq_by_cmp row_cmp k x)) es) + weigh k (count row_cmp es k) ≡ sum_by weighed es
  without k [] s = let z = no_weight k in omega (arith, z)
  without k (e ∷ es) s =
      let parts = both_true (below_all row_cmp e.0 es) (is_sorted row_cmp es) s in
      let rest = without k es parts.1 in
      elim (eq_by_cmp row_cmp k e.0) as (λ b. eq_by_cmp row_cmp k e.0 ≡ b → sum_by weighed (cond (not b) (e ∷ where_key row_cmp (λ x. not (eq_by_cmp row_cmp k x)) es) (where_key row_cmp (λ x. not (eq_by_cmp row_cmp k x)) es)) + weigh k (unwrap_or (cond b (Some e.1) (find row_cmp k es)) 0) ≡ sum_by weighed (e ∷ es)) [
        | true ↦ λ t.
            let same : k ≡ e.0 = same_row_key k e.0 (tied _ t) in
            let gone : count row_cmp es k ≡ 0 = ap (λ q. count row_cmp es q) same ∙ ap (λ o. unwrap_or o 0) (below_none row_cmp e.0 es parts.0) in
            let z : weigh k (count row_cmp es k) ≡ 0 = ap (weigh k) gone ∙ no_weight k in
            let here : weigh k e.1 ≡ weigh e.0 e.1 = ap (λ q. weigh q e.1) same in
            rw (sum_by-cons weighed e es) (omega (arith, rest, z, here))
        | false ↦ λ t. rw (sum_by-cons weighed e (where_key row_cmp (λ x. not (eq_by_cmp row_cmp k x)) es), sum_by-cons weighed e es) (omega (arith, rest))
      ] refl

  -- after a number is set
  set_weight : (k : RowKey) (n : ℕ) (es : Entries) → T (is_sorted row_cmp es) → at_place (row_total (set_count row_cmp es k n)) i + weigh k (count row_cmp es k) ≡ at_place (row_total es) i + weigh k n
  set_weight k n es s = ap (λ m. m + weigh k (count row_cmp es k)) (total_at (set_count row_cmp es k n)) ∙ by (nat_eq n 0) refl ∙ ap (λ m. m + weigh k n) (sym (total_at es))
    where
      by : (b : Bool) → nat_eq n 0 ≡ b → sum_by weighed (cond b (where_key row_cmp (λ x. not (eq_by_cmp row_cmp k x)) es) (put row_cmp k n es)) + weigh k (count row_cmp es k) ≡ sum_by weighed es + weigh k n
      by true t = let z : weigh k n ≡ 0 = ap (weigh k) (number_is n 0 t) ∙ no_weight k in let e = without k es s in omega (arith, z, e)
      by false t = sum_put_exact row_key_total same_row_key (λ k n. n * at_place k.size i) (λ k. no_weight k) k n es s

total_eight : (es : Entries) → IsRow es → length (row_total es) ≡ 8
total_eight es row = length-padded (total_of (sized es)) (total_long es (row_entries es row))

-- more and fewer of one size
module _ (k : RowKey) (n : ℕ) (es : Entries) (row : IsRow es) (after : IsRow (set_count row_cmp es k n)) (eight : length k.size ≡ 8) where
  split : (a b c s : ℕ) → a ≡ b + c → a * s ≡ b * s + c * s
  split a b c s is = ap (λ m. m * s) is ∙ (omega arith)

  pub total_more : count row_cmp es k ≤ n → plus (row_total es) (times (n - count row_cmp es k) k.size) ≡ row_total (set_count row_cmp es k n)
  total_more le =
      let c = count row_cmp es k in
      let part = times (n - c) k.size in
      let long : length part ≡ 8 = length-times (n - c) k.size ∙ eight in
      same_at_places (plus (row_total es) part) (row_total (set_count row_cmp es k n)) (length-plus (row_total es) part (total_eight es row ∙ sym long) ∙ total_eight es row ∙ sym (total_eight (set_count row_cmp es k n) after))
      (λ i. omega (arith, at_place-plus (row_total es) part i, at_place-times (n - c) k.size i, set_weight i k n es row.counts.sorted, split n c (n - c) (at_place k.size i) (omega (arith, le))))

  pub fewer_fit : n < count row_cmp es k → fits (times (count row_cmp es k - n) k.size) (row_total es) ≡ true
  fewer_fit lt =
      let c = count row_cmp es k in
      (fits_places (times (c - n) k.size) (row_total es)).1 (λ i. omega (arith, at_place-times (c - n) k.size i, set_weight i k n es row.counts.sorted, split c n (c - n) (at_place k.size i) (omega (arith, lt))))

  pub total_fewer : n < count row_cmp es k → minus (row_total es) (times (count row_cmp es k - n) k.size) ≡ row_total (set_count row_cmp es k n)
  total_fewer lt =
      let c = count row_cmp es k in
      let part = times (c - n) k.size in
      same_at_places (minus (row_total es) part) (row_total (set_count row_cmp es k n)) (length-minus (row_total es) part ∙ total_eight es row ∙ sym (total_eight (set_count row_cmp es k n) after))
      (λ i. omega (arith, at_place-minus (row_total es) part i, at_place-times (c - n) k.size i, set_weight i k n es row.counts.sorted, split c n (c - n) (at_place k.size i) (omega (arith, lt))))

-- The changes up to an index are tested, and the total of the row that they make is told
pub record IsMovedTo (es : Entries) (cs : List (RowKey × ℤ)) (i len : ℕ) (total : List ℕ) : Type 0 where
  pub tested : IsTestedTo es cs i len
  pub total_is : total ≡ row_total tested.mid

pub moved_start : (es : Entries) (cs : List (RowKey × ℤ)) (total : List ℕ) → IsRow es → T (is_sorted row_cmp cs) → total ≡ row_total es → IsMovedTo es cs 0 (length es) total
moved_start es cs total row s is = record { tested = record { mid = es; row = row; long = refl; rising = s; made = refl; untouched = λ q _. refl }; total_is = is }

pub moved_small : (k : RowKey) (kept : ℕ) (change : ℤ) (n : ℕ) → Ok n ≡ moved_within row_below row_too_great greatest_row k kept change → n ≤ 100000
moved_small k kept change n is = omega (arith, made_within k kept change n (sym is), greatest_small k)

module _ (es : Entries) (cs : List (RowKey × ℤ)) (i len : ℕ) (total : List ℕ) (c : RowKey × ℤ) (c_is : c ≡ get_or cs i c) (t : IsMovedTo es cs i len total) (lt : i < length cs) (before : ℕ) (before_is : before ≡ count row_cmp es c.0)
    (n after : ℕ) (is : Ok n ≡ moved_within row_below row_too_great greatest_row c.0 before c.1) (len_is : after + cond (nat_eq before 0) 0 1 ≡ len + cond (nat_eq n 0) 0 1) (few : after ≤ most_entries) (eight : length c.0.size ≡ 8) where
  abbrev mid : Entries
  mid = t.tested.mid

  before_mid : count row_cmp mid c.0 ≡ before
  before_mid = kept_mid es cs i len c c_is t.tested lt before before_is

  abbrev next : IsTestedTo es cs (i + 1) after
  next = row_more es cs i len c c_is t.tested lt before before_is n after is len_is few

  one : IsRow (set_count row_cmp mid c.0 n)
  one = next.row

  pub fewer_fits : n < before → fits (times (before - n) c.0.size) total ≡ true
  fewer_fits less = subst (λ q. fits (times (before - n) c.0.size) q ≡ true) (sym t.total_is)
      (subst (λ m. fits (times (m - n) c.0.size) (row_total mid) ≡ true) before_mid (fewer_fit c.0 n mid t.tested.row one eight (omega (arith, less, before_mid))))

  moved_up : before ≤ n → plus total (times (n - before) c.0.size) ≡ row_total (set_count row_cmp mid c.0 n)
  moved_up le = ap (λ q. plus q (times (n - before) c.0.size)) t.total_is
      ∙ subst (λ m. plus (row_total mid) (times (n - m) c.0.size) ≡ row_total (set_count row_cmp mid c.0 n)) before_mid (total_more c.0 n mid t.tested.row one eight (omega (arith, le, before_mid)))

  moved_down : n < before → minus total (times (before - n) c.0.size) ≡ row_total (set_count row_cmp mid c.0 n)
  moved_down less = ap (λ q. minus q (times (before - n) c.0.size)) t.total_is
      ∙ subst (λ m. minus (row_total mid) (times (m - n) c.0.size) ≡ row_total (set_count row_cmp mid c.0 n)) before_mid (total_fewer c.0 n mid t.tested.row one eight (omega (arith, less, before_mid)))

  pub more_room : before ≤ n → All (λ m. m < 2 ^ 128) (plus total (times (n - before) c.0.size))
  more_room le = subst (All (λ m. m < 2 ^ 128)) (sym (moved_up le)) (total_fits (set_count row_cmp mid c.0 n) one)

  pub moved_more : IsMovedTo es cs (i + 1) after (total_moved total c.0.size before n)
  moved_more = record { tested = next; total_is = by (nat_lt n before) refl }
    where
      by : (b : Bool) → nat_lt n before ≡ b → cond b (minus total (times (before - n) c.0.size)) (plus total (times (n - before) c.0.size)) ≡ row_total (set_count row_cmp mid c.0 n)
      by true is = moved_down (grind (arith, nat_tests, is))
      by false is = moved_up (grind (arith, nat_tests, is))

pub moved_end : (es : Entries) (cs : List (RowKey × ℤ)) (i len : ℕ) (total : Sum) → length cs ≤ i → IsMovedTo es cs i len total.q → TotalsAfter (patched_row es cs) (Ok total)
moved_end es cs i len total le t = subst (λ r. TotalsAfter r (Ok total)) (sym (ap (patched_row t.tested.mid) (drop_all i cs le)) ∙ t.tested.made) t.total_is

pub moved_refused : (es : Entries) (cs : List (RowKey × ℤ)) (fault : LedgerFault) → patched_row es cs ≡ Err fault → TotalsAfter (patched_row es cs) (Err fault)
moved_refused es cs fault is = subst (λ r. TotalsAfter r (Err fault)) (sym is) refl
