-- The difference of two rows takes the one to the other, where the keys of both are not too many together.
use Rattle.std.proofs.Common.{◌≡◌, ℕ, ◌+◌, ◌<◌, ◌≤◌, Bool, true, false, cond, nat_lt, nat_eq, List, [], ◌∷◌, length, Some, None, Result, Ok, Err, refl, sym, ◌∙◌, ap, subst, arith}
use Rattle.std.specs.Prelude.{ℤ, T}
use Rattle.std.specs.Option.{is_some, unwrap_or}
use Rattle.std.specs.Ordering.{eq_by_cmp, is_eq}
use Rattle.std.specs.Cmp.{tied_itself}
use Rattle.std.specs.FinMap.Entries.{put, find, is_sorted, is_sorted-put, find-put}
use Rattle.std.proofs.lemmas.Bool.Decides.{nat_tests}
use Rattle.fuxi_terms.specs.Keys.{RowKey, row_cmp}
use Rattle.fuxi_terms.specs.Counts.{moved, change_between, count, set_count, set_moved, change_one, then_do, change_all, joined, differences, difference, AreCounts, AreChanges}
use Rattle.fuxi_terms.specs.declared.answers.LedgerFault.{LedgerFault}
use Rattle.fuxi_terms.proofs.CountsLemmas.{both_true, below_none, moved_between, tied, same_counts, count_le, count-set_count, counts-set_count, length-set_count}
use Rattle.fuxi_terms.proofs.OnlyDifference.{only_difference}
use Rattle.fuxi_terms.proofs.KeyOrders.{row_key_total, same_row_key}
use Rattle.fuxi_terms.specs.Rows.{IsRow, greatest_row, patched_row, change_row_once, within_row, row_below, row_too_great}
use Rattle.fuxi_terms.specs.Limits.{most_entries}

abbrev Entries : Type 0
Entries = List (RowKey × ℕ)

abbrev number : Entries → RowKey → ℕ
number es q = count row_cmp es q

abbrev has : Entries → RowKey → Bool
has es q = is_some (find row_cmp q es)

is_key : (q k : RowKey) → eq_by_cmp row_cmp q k ≡ true → q ≡ k
is_key q k e = same_row_key q k (tied _ e)

itself : (k : RowKey) → eq_by_cmp row_cmp k k ≡ true
itself k = ap is_eq (tied_itself row_key_total k)

without_key : (es : Entries) (k : RowKey) → AreCounts row_cmp greatest_row es → length es ≤ length (set_count row_cmp es k 0) + 1
without_key es k h = by (nat_eq (number es k) 0) (length-set_count row_key_total greatest_row es k 0 h)
  where
    by : (b : Bool) → length (set_count row_cmp es k 0) + cond b 0 1 ≡ length es + 0 → length es ≤ length (set_count row_cmp es k 0) + 1
    by true e = omega (arith, e)
    by false e = omega (arith, e)

-- a row whose keys are among others has not more of them
pub few_of : (js es : Entries) → AreCounts row_cmp greatest_row es → ((q : RowKey) → 0 < number es q → has js q ≡ true) → length es ≤ length js
few_of [] [] h among = omega arith
few_of [] (e ∷ es) h among =
    let here : number (e ∷ es) e.0 ≡ e.1 = ap (λ b. unwrap_or (cond b (Some e.1) (find row_cmp e.0 es)) 0) (itself e.0) in
    let none : false ≡ true = among e.0 (omega (arith, here, h.positive.0)) in
    absurd (let f : ⊥ = cc in f)
few_of (j ∷ js) es h among =
    let fewer : Entries = set_count row_cmp es j.0 0 in
    let fewer_is : (q : RowKey) → number fewer q ≡ cond (eq_by_cmp row_cmp q j.0) 0 (number es q) = λ q. count-set_count row_key_total es j.0 0 q in
    let counts : AreCounts row_cmp greatest_row fewer = counts-set_count row_key_total greatest_row same_row_key es j.0 0 (omega arith) h in
    let rest : (q : RowKey) → 0 < number fewer q → has js q ≡ true = λ q more. elim (eq_by_cmp row_cmp q j.0) as (λ b. number fewer q ≡ cond b 0 (number es q) → (0 < number es q → is_some (cond b (Some j.1) (find row_cmp q js)) ≡ true) → has js q ≡ true) [
      | true ↦ λ e a. absurd (omega (arith, e, more))
      | false ↦ λ e a. a (omega (arith, e, more))
    ] (fewer_is q) (λ m. among q m) in
    let ih = few_of js fewer counts rest in
    omega (arith, ih, without_key es j.0 h)

-- the keys of both
has_put : (es : Entries) (k : RowKey) (n : ℕ) (q : RowKey) → has (put row_cmp k n es) q ≡ is_some (cond (eq_by_cmp row_cmp q k) (Some n) (find row_cmp q es))
has_put es k n q = ap is_some (find-put row_cmp row_key_total q k n es)

in_first : (es fs : Entries) (q : RowKey) → has es q ≡ true → has (joined row_cmp es fs) q ≡ true
in_first [] fs q h = cc
in_first (e ∷ es) fs q h = has_put (joined row_cmp es fs) e.0 e.1 q ∙ elim (eq_by_cmp row_cmp q e.0) as (λ b. is_some (cond b (Some e.1) (find row_cmp q es)) ≡ true → is_some (cond b (Some e.1) (find row_cmp q (joined row_cmp es fs))) ≡ true) [
  | true ↦ λ _. refl
  | false ↦ λ f. in_first es fs q f
] h

in_second : (es fs : Entries) (q : RowKey) → has fs q ≡ true → has (joined row_cmp es fs) q ≡ true
in_second [] fs q h = h
in_second (e ∷ es) fs q h = has_put (joined row_cmp es fs) e.0 e.1 q ∙ elim (eq_by_cmp row_cmp q e.0) as (λ b. is_some (cond b (Some e.1) (find row_cmp q (joined row_cmp es fs))) ≡ true) [
  | true ↦ refl
  | false ↦ in_second es fs q h
]

joined_sorted : (es fs : Entries) → T (is_sorted row_cmp fs) → T (is_sorted row_cmp (joined row_cmp es fs))
joined_sorted [] fs h = h
joined_sorted (e ∷ es) fs h = is_sorted-put row_cmp row_key_total e.0 e.1 (joined row_cmp es fs) (joined_sorted es fs h)

pub counted_has : (es : Entries) (q : RowKey) → 0 < number es q → has es q ≡ true
counted_has es q h = elim (find row_cmp q es) as (λ r. 0 < unwrap_or r 0 → is_some r ≡ true) [ None ↦ λ m. absurd (omega (arith, m)) | Some n ↦ λ _. refl ] h

none_counted : (es : Entries) (q : RowKey) → has es q ≡ false → number es q ≡ 0
none_counted es q h = elim (find row_cmp q es) as (λ r. is_some r ≡ false → unwrap_or r 0 ≡ 0) [ None ↦ λ _. refl | Some n ↦ λ e. cc ] h

module _ (old new keys : Entries) (new_is : AreCounts row_cmp greatest_row new) (few : length keys ≤ most_entries) where
  abbrev changes_of : Entries → List (RowKey × ℤ)
  changes_of js = differences row_cmp old new js

  abbrev is_among : Entries → Type 0
  is_among es = (q : RowKey) → 0 < number es q → has keys q ≡ true

  record Reaches (es js : Entries) : Type 0 where
    end : Entries
    made : patched_row es (changes_of js) ≡ Ok end
    counts : AreCounts row_cmp greatest_row end
    values : (q : RowKey) → number end q ≡ cond (has js q) (number new q) (number es q)

  -- one change, where the row that it makes is not too long
  first_made : (es : Entries) (k : RowKey) → number es k ≡ number old k → length (set_count row_cmp es k (number new k)) ≤ most_entries → change_row_once es k (change_between (number old k) (number new k)) ≡ Ok (set_count row_cmp es k (number new k))
  first_made es k e short =
      let within : nat_lt (greatest_row k) (number new k) ≡ false = let le = count_le row_key_total same_row_key greatest_row new k new_is.within in grind (arith, nat_tests) in
      let there : moved (number es k) (change_between (number old k) (number new k)) ≡ Some (number new k) = subst (λ n. moved n (change_between (number old k) (number new k)) ≡ Some (number new k)) (sym e) (moved_between (number old k) (number new k)) in
      let one : change_one row_cmp row_below row_too_great greatest_row es k (change_between (number old k) (number new k)) ≡ Ok (set_count row_cmp es k (number new k)) =
      ap (set_moved row_cmp row_below row_too_great greatest_row es k (number es k) (change_between (number old k) (number new k))) there ∙ ap (λ b. cond b (Err (row_too_great k)) (Ok (set_count row_cmp es k (number new k)))) within in
      let test : nat_lt most_entries (length (set_count row_cmp es k (number new k))) ≡ false = grind (arith, nat_tests, short) in
      ap (λ r. then_do r (within_row k)) one ∙ ap (λ b. cond b (Err (row_too_great k)) (Ok (set_count row_cmp es k (number new k)))) test

  first_then : (r : Result Entries LedgerFault) (set end : Entries) (changes : List (RowKey × ℤ)) → r ≡ Ok set → patched_row set changes ≡ Ok end → then_do r (λ fs. patched_row fs changes) ≡ Ok end
  first_then r set end changes is rest = ap (λ r. then_do r (λ fs. patched_row fs changes)) is ∙ rest

  reaches : (js es : Entries) → T (is_sorted row_cmp js) → ((q : RowKey) → has js q ≡ true → has keys q ≡ true) → AreCounts row_cmp greatest_row es → is_among es → ((q : RowKey) → has js q ≡ true → number es q ≡ number old q) → Reaches es js
  reaches [] es s in_keys c among is = record { end = es; made = refl; counts = c; values = λ q. refl }
  reaches (j ∷ js) es s in_keys c among is =
      let parts = both_true _ (is_sorted row_cmp js) s in
      let absent = below_none row_cmp j.0 js parts.0 in
      let here : number es j.0 ≡ number old j.0 = is j.0 (ap (λ b. is_some (cond b (Some j.1) (find row_cmp j.0 js))) (itself j.0)) in
      let other : (q : RowKey) → has js q ≡ true → eq_by_cmp row_cmp q j.0 ≡ false = λ q in_js. elim (eq_by_cmp row_cmp q j.0) as (λ b. eq_by_cmp row_cmp q j.0 ≡ b → b ≡ false) [
        | true ↦ λ t. let none : has js q ≡ false = subst (λ x. has js x ≡ false) (sym (is_key q j.0 t)) (ap is_some absent) in cc
        | false ↦ λ t. refl
      ] refl in
      let later : (q : RowKey) → has js q ≡ true → has (j ∷ js) q ≡ true = λ q in_js. ap (λ b. is_some (cond b (Some j.1) (find row_cmp q js))) (other q in_js) ∙ in_js in
      let rest : (q : RowKey) → has js q ≡ true → number es q ≡ number old q = λ q in_js. is q (later q in_js) in
      let rest_in : (q : RowKey) → has js q ≡ true → has keys q ≡ true = λ q in_js. in_keys q (later q in_js) in
      elim (nat_eq (number old j.0) (number new j.0)) as (λ b. nat_eq (number old j.0) (number new j.0) ≡ b → Reaches es (j ∷ js)) [
        | true ↦ λ e.
            let ih = reaches js es parts.1 rest_in c among rest in
            record {
              end = ih.end;
              made = ap (λ b. patched_row es (cond b (changes_of js) ((j.0, change_between (number old j.0) (number new j.0)) ∷ changes_of js))) e ∙ ih.made;
              counts = ih.counts;
              values = λ q. elim (eq_by_cmp row_cmp q j.0) as (λ b. eq_by_cmp row_cmp q j.0 ≡ b → number ih.end q ≡ cond (is_some (cond b (Some j.1) (find row_cmp q js))) (number new q) (number es q)) [
                | true ↦ λ t. subst (λ x. number ih.end x ≡ number new x) (sym (is_key q j.0 t)) (ih.values j.0 ∙ ap (λ r. cond (is_some r) (number new j.0) (number es j.0)) absent ∙ here ∙ grind (arith, nat_tests, e))
                | false ↦ λ t. ih.values q
              ] refl;
            }
        | false ↦ λ e.
            let set = set_count row_cmp es j.0 (number new j.0) in
            let set_is : (q : RowKey) → number set q ≡ cond (eq_by_cmp row_cmp q j.0) (number new j.0) (number es q) = λ q. count-set_count row_key_total es j.0 (number new j.0) q in
            let kept : AreCounts row_cmp greatest_row set = counts-set_count row_key_total greatest_row same_row_key es j.0 (number new j.0) (count_le row_key_total same_row_key greatest_row new j.0 new_is.within) c in
            let set_among : is_among set = λ q more. elim (eq_by_cmp row_cmp q j.0) as (λ b. eq_by_cmp row_cmp q j.0 ≡ b → number set q ≡ cond b (number new j.0) (number es q) → has keys q ≡ true) [
              | true ↦ λ t _. in_keys q (ap (λ b. is_some (cond b (Some j.1) (find row_cmp q js))) t)
              | false ↦ λ t n. among q (omega (arith, n, more))
            ] refl (set_is q) in
            let short : length set ≤ most_entries = let le = few_of keys set kept set_among in omega (arith, le, few) in
            let ih = reaches js set parts.1 rest_in kept set_among (λ q in_js. set_is q ∙ ap (λ b. cond b (number new j.0) (number es q)) (other q in_js) ∙ rest q in_js) in
            record {
              end = ih.end;
              made = ap (λ b. patched_row es (cond b (changes_of js) ((j.0, change_between (number old j.0) (number new j.0)) ∷ changes_of js))) e
                  ∙ first_then (change_row_once es j.0 (change_between (number old j.0) (number new j.0))) set ih.end (changes_of js) (first_made es j.0 here short) ih.made;
              counts = ih.counts;
              values = λ q. elim (eq_by_cmp row_cmp q j.0) as (λ b. eq_by_cmp row_cmp q j.0 ≡ b → number ih.end q ≡ cond (is_some (cond b (Some j.1) (find row_cmp q js))) (number new q) (number es q)) [
                | true ↦ λ t. subst (λ x. number ih.end x ≡ number new x) (sym (is_key q j.0 t)) (ih.values j.0 ∙ ap (λ r. cond (is_some r) (number new j.0) (number set j.0)) absent ∙ set_is j.0 ∙ ap (λ b. cond b (number new j.0) (number es j.0)) (itself j.0))
                | false ↦ λ t. ih.values q ∙ ap (λ n. cond (has js q) (number new q) n) (set_is q ∙ ap (λ b. cond b (number new j.0) (number es q)) t)
              ] refl;
            }
      ] refl

absent_in : (a b : Bool) → (a ≡ true → b ≡ true) → b ≡ false → a ≡ false
absent_in true b h e = let t = h refl in cc
absent_in false b h e = refl

pub row_by_difference : (old new : Entries) → IsRow old → IsRow new → length (joined row_cmp old new) ≤ most_entries → patched_row old (difference row_cmp old new) ≡ Ok new
row_by_difference old new old_is new_is few =
    let js : Entries = joined row_cmp old new in
    let r = reaches old new js new_is.counts few js old (joined_sorted old new new_is.counts.sorted) (λ q h. h) old_is.counts (λ q more. in_first old new q (counted_has old q more)) (λ q _. refl) in
    let ends : r.end ≡ new = same_counts row_key_total same_row_key greatest_row r.end new r.counts new_is.counts (λ q. r.values q ∙ elim (has js q) as (λ b. has js q ≡ b → cond b (number new q) (number old q) ≡ number new q) [
      | true ↦ λ _. refl
      | false ↦ λ t. none_counted old q (absent_in (has old q) (has js q) (in_first old new q) t) ∙ sym (none_counted new q (absent_in (has new q) (has js q) (in_second old new q) t))
    ] refl) in
    r.made ∙ ap (λ es. Ok es) ends

-- a change of a row is a change of its counts
abbrev unbounded_all : Entries → List (RowKey × ℤ) → Result Entries LedgerFault
unbounded_all es cs = change_all row_cmp row_below row_too_great greatest_row es cs

few_then : (k : RowKey) (cs : List (RowKey × ℤ)) (fs end : Entries) (b : Bool) → (patched_row fs cs ≡ Ok end → unbounded_all fs cs ≡ Ok end) → then_do (cond b (Err (row_too_great k)) (Ok fs)) (λ gs. patched_row gs cs) ≡ Ok end → unbounded_all fs cs ≡ Ok end
few_then k cs fs end true rest e = cc
few_then k cs fs end false rest e = rest e

once_then : (k : RowKey) (cs : List (RowKey × ℤ)) (end : Entries) (r : Result Entries LedgerFault) → ((fs : Entries) → patched_row fs cs ≡ Ok end → unbounded_all fs cs ≡ Ok end) → then_do (then_do r (within_row k)) (λ gs. patched_row gs cs) ≡ Ok end → then_do r (λ gs. unbounded_all gs cs) ≡ Ok end
once_then k cs end (Err x) rest e = cc
once_then k cs end (Ok fs) rest e = few_then k cs fs end (nat_lt most_entries (length fs)) (rest fs) e

unbounded : (cs : List (RowKey × ℤ)) (es end : Entries) → patched_row es cs ≡ Ok end → unbounded_all es cs ≡ Ok end
unbounded [] es end e = e
unbounded (c ∷ cs) es end e = once_then c.0 cs end (change_one row_cmp row_below row_too_great greatest_row es c.0 c.1) (λ fs. unbounded cs fs end) e

pub row_difference_alone : (old new : Entries) (cs : List (RowKey × ℤ)) → IsRow new → AreChanges row_cmp cs → patched_row old cs ≡ Ok new → cs ≡ difference row_cmp old new
row_difference_alone old new cs new_is are e = only_difference row_key_total same_row_key row_below row_too_great greatest_row old new cs are new_is.counts.sorted (unbounded cs old new e)
