-- What setting a number does to the others, and the difference of two lists of counts, which takes the one to the other.
use Rattle.std.proofs.Common.{◌≡◌, ℕ, ◌+◌, ◌-◌, ◌≤◌, ◌<◌, length, Bool, true, false, cond, not, nat_lt, nat_eq, List, [], ◌∷◌, Option, Some, None, Result, Ok, Err, refl, sym, ◌∙◌, ap, subst, arith, inl, inr}
use Rattle.std.specs.Prelude.{ℤ, T, ◌||◌, ◌&&◌}
use Rattle.std.specs.Option.{unwrap_or, is_some}
use Rattle.std.specs.Ordering.{eq_by_cmp, is_eq, is_lt}
use Rattle.std.specs.Cmp.{IsTotalOrder, tied_itself, eq_by_cmp_equiv, alike_right}
use Rattle.std.specs.declared.cmp.Ordering.{Ordering}
use Rattle.std.specs.declared.cmp.Ordering.TheVariants.{Less, Equal, Greater}
use Rattle.std.specs.List.{AllByRecursion}
use Rattle.std.proofs.lemmas.Bool.{cases_lt}
use Rattle.std.proofs.lemmas.Bool.Decides.{nat_tests}
use Rattle.std.specs.FinMap.Entries.{by_order, below_all, put, where_key, find, is_sorted, is_sorted-put, is_sorted-where_key, find-put, find-where_key, length-put, length_without, same_entries}
use Rattle.fuxi_terms.specs.Counts.{moved, change_between, count, set_count, set_moved, change_one, then_do, change_all, joined, differences, difference, AreCounts}
use Rattle.fuxi_terms.proofs.Booleans.{both_false}

-- the change between two numbers moves the one to the other
down : (a b : ℕ) → b < a → cond (nat_lt (a - b - 1) a) (Some (a - (a - b - 1 + 1))) None ≡ Some b
down a b lt = grind (arith, nat_tests)

pub moved_between : (a b : ℕ) → moved a (change_between a b) ≡ Some b
moved_between a b = elim (cases_lt b a) [
  | inl lt ↦ let t : nat_lt b a ≡ true = grind (arith, nat_tests) in rw t (down a b lt)
  | inr le ↦ let t : nat_lt b a ≡ false = grind (arith, nat_tests) in rw t (ap (λ n. Some n) (omega arith))
]

pub both_true : (a b : Bool) → T (a && b) → T a × T b
both_true true b p = (tt, p)
both_true false b p = absurd p

pub lesser : (r : Ordering) → T (is_lt r) → r ≡ Less
lesser Less p = refl
lesser Equal p = absurd p
lesser Greater p = absurd p

pub tied : (r : Ordering) → is_eq r ≡ true → r ≡ Equal
tied Less p = cc
tied Equal p = refl
tied Greater p = cc

unwrapped : (b : Bool) (n : ℕ) (r : Option ℕ) → unwrap_or (cond b (Some n) r) 0 ≡ cond b n (unwrap_or r 0)
unwrapped true n r = refl
unwrapped false n r = refl

turned : (b : Bool) (r : Option ℕ) → unwrap_or (cond (not b) r None) 0 ≡ cond b 0 (unwrap_or r 0)
turned true r = refl
turned false r = refl

-- a key below all is not found
pub below_none : {K X : Type 0} (R : K → K → Ordering) (q : K) (es : List (K × X)) → T (below_all R q es) → find R q es ≡ None
below_none R q [] h = refl
below_none R q (e ∷ es) h = let b = both_true (is_lt (R q e.0)) _ h in ap (λ r. cond (is_eq r) (Some e.1) (find R q es)) (lesser _ b.0) ∙ below_none R q es b.1

-- nor one that is below the first of keys that rise
pub find_below_head : {K X : Type 0} {R : K → K → Ordering} (o : IsTotalOrder R) (k : K) (e : K × X) (es : List (K × X)) → R k e.0 ≡ Less → T (below_all R e.0 es) → find R k es ≡ None
find_below_head o k e [] lt h = refl
find_below_head {R = R} o k e (f ∷ es) lt h =
    let b = both_true (is_lt (R e.0 f.0)) _ h in
    ap (λ r. cond (is_eq r) (Some f.1) (find R k es)) (o.trans k e.0 f.0 lt (lesser _ b.0)) ∙ find_below_head o k e es lt b.1

-- a number that is found is not 0
found : {K : Type 0} (R : K → K → Ordering) (es : List (K × ℕ)) (q : K) → AllByRecursion (λ e. 0 < e.1) es → find R q es ≡ cond (nat_eq (count R es q) 0) None (Some (count R es q))
found R [] q h = refl
found R (e ∷ es) q h = elim (eq_by_cmp R q e.0) as (λ b. cond b (Some e.1) (find R q es) ≡ cond (nat_eq (unwrap_or (cond b (Some e.1) (find R q es)) 0) 0) None (Some (unwrap_or (cond b (Some e.1) (find R q es)) 0))) [
  | true ↦ let t : nat_eq e.1 0 ≡ false = grind (arith, nat_tests, h.0) in rw t
  | false ↦ found R es q h.1
]

-- among the entries whose keys pass a test, a key that passes has its count, and any other none
pub count_where : {K : Type 0} (R : K → K → Ordering) → ((x y : K) → R x y ≡ Equal → x ≡ y) → (p : K → Bool) (es : List (K × ℕ)) (k : K) → count R (where_key R p es) k ≡ cond (p k) (count R es k) 0
count_where R same p es k = ap (λ r. unwrap_or r 0) (find-where_key R p k (λ x t. ap p (sym (same k x t))) es) ∙ elim (p k) as (λ b. unwrap_or (cond b (find R k es) None) 0 ≡ cond b (count R es k) 0) [ true ↦ refl | false ↦ refl ]

module _ {K : Type 0} {R : K → K → Ordering} (o : IsTotalOrder R) where
  count-set_some : (es : List (K × ℕ)) (k : K) (n : ℕ) (q : K) (b : Bool) → nat_eq n 0 ≡ b → count R (cond b (where_key R (λ x. not (eq_by_cmp R k x)) es) (put R k n es)) q ≡ cond (eq_by_cmp R q k) n (count R es q)
  count-set_some es k n q true e =
      let zero_is : n ≡ 0 = grind (arith, nat_tests) in
      ap (λ r. unwrap_or r 0) (find-where_key R (λ x. not (eq_by_cmp R k x)) q (λ x t. ap (λ r. not (is_eq r)) (sym (alike_right o q x k t))) es)
      ∙ turned (eq_by_cmp R k q) (find R q es) ∙ ap (λ b. cond b 0 (count R es q)) ((eq_by_cmp_equiv o).symm k q) ∙ ap (λ m. cond (eq_by_cmp R q k) m (count R es q)) (sym zero_is)
  count-set_some es k n q false e = ap (λ r. unwrap_or r 0) (find-put R o q k n es) ∙ unwrapped (eq_by_cmp R q k) n (find R q es)

  pub count-set_count : (es : List (K × ℕ)) (k : K) (n : ℕ) (q : K) → count R (set_count R es k n) q ≡ cond (eq_by_cmp R q k) n (count R es q)
  count-set_count es k n q = count-set_some es k n q (nat_eq n 0) refl

  -- set_count keeps the order, and the counts positive and within
  all_where : (P : K × ℕ → Type 0) (p : K → Bool) (es : List (K × ℕ)) → AllByRecursion P es → AllByRecursion P (where_key R p es)
  all_where P p [] h = tt
  all_where P p (e ∷ es) h = elim (p e.0) as (λ b. AllByRecursion P (cond b (e ∷ where_key R p es) (where_key R p es))) [ true ↦ (h.0, all_where P p es h.1) | false ↦ all_where P p es h.1 ]

  all_put : (P : ℕ → K → Type 0) (k : K) (n : ℕ) (es : List (K × ℕ)) → ((x : K) → R k x ≡ Equal → P n x) → P n k → AllByRecursion (λ e. P e.1 e.0) es → AllByRecursion (λ e. P e.1 e.0) (put R k n es)
  all_put P k n [] tie here h = (here, tt)
  all_put P k n (e ∷ es) tie here h = elim (R k e.0) as (λ r. R k e.0 ≡ r → AllByRecursion (λ e. P e.1 e.0) (by_order r ((k, n) ∷ e ∷ es) ((e.0, n) ∷ es) (e ∷ put R k n es))) [
    | Less ↦ λ _. (here, (h.0, h.1))
    | Equal ↦ λ is. (tie e.0 is, h.1)
    | Greater ↦ λ _. (h.0, all_put P k n es tie here h.1)
  ] refl

  -- what is left out leaves counts
  pub counts-where_key : (greatest : K → ℕ) (p : K → Bool) (es : List (K × ℕ)) → AreCounts R greatest es → AreCounts R greatest (where_key R p es)
  counts-where_key greatest p es h = record { sorted = is_sorted-where_key R p es h.sorted; positive = all_where _ p es h.positive; within = all_where _ p es h.within }

  pub counts-set_count : (greatest : K → ℕ) → ((x y : K) → R x y ≡ Equal → x ≡ y) → (es : List (K × ℕ)) (k : K) (n : ℕ) → n ≤ greatest k → AreCounts R greatest es → AreCounts R greatest (set_count R es k n)
  counts-set_count greatest same es k n le h = elim (nat_eq n 0) as (λ b. nat_eq n 0 ≡ b → AreCounts R greatest (cond b (where_key R (λ x. not (eq_by_cmp R k x)) es) (put R k n es))) [
    | true ↦ λ _. record { sorted = is_sorted-where_key R _ es h.sorted; positive = all_where _ _ es h.positive; within = all_where _ _ es h.within }
    | false ↦ λ e.
        let above : 0 < n = grind (arith, nat_tests) in
        record {
          sorted = is_sorted-put R o k n es h.sorted;
          positive = all_put (λ m x. 0 < m) k n es (λ _ _. above) above h.positive;
          within = all_put (λ m x. m ≤ greatest x) k n es (λ x t. subst (λ y. n ≤ greatest y) (same k x t) le) le h.within;
        }
  ] refl

  module _ (greatest : K → ℕ) where
    is_some_cond : (b : Bool) (n : ℕ) → is_some (cond b None (Some n)) ≡ not b
    is_some_cond true n = refl
    is_some_cond false n = refl

    there : (es : List (K × ℕ)) (q : K) → AllByRecursion (λ e. 0 < e.1) es → is_some (find R q es) ≡ not (nat_eq (count R es q) 0)
    there es q h = ap is_some (found R es q h) ∙ is_some_cond (nat_eq (count R es q) 0) (count R es q)

    -- an entry more where there was none, and one less where there was one
    pub length-set_count : (es : List (K × ℕ)) (k : K) (n : ℕ) → AreCounts R greatest es → length (set_count R es k n) + cond (nat_eq (count R es k) 0) 0 1 ≡ length es + cond (nat_eq n 0) 0 1
    length-set_count es k n h =
        let put = length-put R o k n es h.sorted ∙ ap (λ b. cond b (length es) (length es + 1)) (there es k h.positive) in
        let gone : cond (not (nat_eq (count R es k) 0)) 1 0 + length (where_key R (λ x. not (eq_by_cmp R k x)) es) ≡ length es = subst (λ b. cond b 1 0 + length (where_key R (λ x. not (eq_by_cmp R k x)) es) ≡ length es) (there es k h.positive) (length_without R o k es h.sorted) in
        by (nat_eq n 0) (nat_eq (count R es k) 0) put gone
      where
        by : (b c : Bool) → length (put R k n es) ≡ cond (not c) (length es) (length es + 1) → cond (not c) 1 0 + length (where_key R (λ x. not (eq_by_cmp R k x)) es) ≡ length es
            → length (cond b (where_key R (λ x. not (eq_by_cmp R k x)) es) (put R k n es)) + cond c 0 1 ≡ length es + cond b 0 1
        by true true p q = omega (arith, q)
        by true false p q = omega (arith, q)
        by false true p q = omega (arith, p)
        by false false p q = omega (arith, p)

  module _ (same : (x y : K) → R x y ≡ Equal → x ≡ y) (greatest : K → ℕ) where
    pub is_key : (q k : K) → eq_by_cmp R q k ≡ true → q ≡ k
    is_key q k e = same q k (tied _ e)

    pub count_le : (es : List (K × ℕ)) (q : K) → AllByRecursion (λ e. e.1 ≤ greatest e.0) es → count R es q ≤ greatest q
    count_le [] q h = omega arith
    count_le (e ∷ es) q h = elim (eq_by_cmp R q e.0) as (λ b. eq_by_cmp R q e.0 ≡ b → unwrap_or (cond b (Some e.1) (find R q es)) 0 ≤ greatest q) [
      | true ↦ λ t. subst (λ k. e.1 ≤ greatest k) (sym (is_key q e.0 t)) h.0
      | false ↦ λ t. count_le es q h.1
    ] refl

    -- two lists with the same counts are one
    pub same_counts : (es fs : List (K × ℕ)) → AreCounts R greatest es → AreCounts R greatest fs → ((q : K) → count R es q ≡ count R fs q) → es ≡ fs
    same_counts es fs g h is = same_entries R o same es fs g.sorted h.sorted (λ q. found R es q g.positive ∙ ap (λ n. cond (nat_eq n 0) None (Some n)) (is q) ∙ sym (found R fs q h.positive))

    -- of a number that is set twice the second stays
    pub set_twice : (es : List (K × ℕ)) (k : K) (n m : ℕ) → AreCounts R greatest es → n ≤ greatest k → m ≤ greatest k → set_count R (set_count R es k n) k m ≡ set_count R es k m
    set_twice es k n m h few more =
        let once = counts-set_count greatest same es k n few h in
        same_counts (set_count R (set_count R es k n) k m) (set_count R es k m) (counts-set_count greatest same (set_count R es k n) k m more once) (counts-set_count greatest same es k m more h)
        (λ q. count-set_count (set_count R es k n) k m q ∙ ap (cond (eq_by_cmp R q k) m) (count-set_count es k n q) ∙ later (eq_by_cmp R q k) (count R es q) ∙ sym (count-set_count es k m q))
      where
        later : (b : Bool) (c : ℕ) → cond b m (cond b n c) ≡ cond b m c
        later true c = refl
        later false c = refl

    module _ {E : Type 0} (low : K → ℕ → ℤ → E) (high : K → E) (old new : List (K × ℕ)) (new_is : AreCounts R greatest new) where
      record Reaches (es js : List (K × ℕ)) : Type 0 where
        end : List (K × ℕ)
        made : change_all R low high greatest es (differences R old new js) ≡ Ok end
        counts : AreCounts R greatest end
        values : (q : K) → count R end q ≡ cond (is_some (find R q js)) (count R new q) (count R es q)

      first_made : (es : List (K × ℕ)) (k : K) → count R es k ≡ count R old k → change_one R low high greatest es k (change_between (count R old k) (count R new k)) ≡ Ok (set_count R es k (count R new k))
      first_made es k e =
          let within : nat_lt (greatest k) (count R new k) ≡ false = let le = count_le new k new_is.within in grind (arith, nat_tests) in
          let there : moved (count R es k) (change_between (count R old k) (count R new k)) ≡ Some (count R new k) = subst (λ n. moved n (change_between (count R old k) (count R new k)) ≡ Some (count R new k)) (sym e) (moved_between (count R old k) (count R new k)) in
          ap (set_moved R low high greatest es k (count R es k) (change_between (count R old k) (count R new k))) there ∙ ap (λ b. cond b (Err (high k)) (Ok (set_count R es k (count R new k)))) within

      first_then : (r : Result (List (K × ℕ)) E) (set end : List (K × ℕ)) (changes : List (K × ℤ)) → r ≡ Ok set → change_all R low high greatest set changes ≡ Ok end → then_do r (λ fs. change_all R low high greatest fs changes) ≡ Ok end
      first_then r set end changes is rest = ap (λ r. then_do r (λ fs. change_all R low high greatest fs changes)) is ∙ rest

      reaches : (js es : List (K × ℕ)) → T (is_sorted R js) → AreCounts R greatest es → ((q : K) → is_some (find R q js) ≡ true → count R es q ≡ count R old q) → Reaches es js
      reaches [] es s c is = record { end = es; made = refl; counts = c; values = λ q. refl }
      reaches (j ∷ js) es s c is =
          let parts = both_true (below_all R j.0 js) (is_sorted R js) s in
          let absent = below_none R j.0 js parts.0 in
          let itself : eq_by_cmp R j.0 j.0 ≡ true = ap is_eq (tied_itself o j.0) in
          let here : count R es j.0 ≡ count R old j.0 = is j.0 (ap (λ b. is_some (cond b (Some j.1) (find R j.0 js))) itself) in
          let other : (q : K) → is_some (find R q js) ≡ true → eq_by_cmp R q j.0 ≡ false = λ q in_js. elim (eq_by_cmp R q j.0) as (λ b. eq_by_cmp R q j.0 ≡ b → b ≡ false) [
            | true ↦ λ t. let none : is_some (find R q js) ≡ false = subst (λ x. is_some (find R x js) ≡ false) (sym (is_key q j.0 t)) (ap is_some absent) in cc
            | false ↦ λ t. refl
          ] refl in
          let rest : (q : K) → is_some (find R q js) ≡ true → count R es q ≡ count R old q = λ q in_js. is q (ap (λ b. is_some (cond b (Some j.1) (find R q js))) (other q in_js) ∙ in_js) in
          elim (nat_eq (count R old j.0) (count R new j.0)) as (λ b. nat_eq (count R old j.0) (count R new j.0) ≡ b → Reaches es (j ∷ js)) [
            | true ↦ λ e.
                let ih = reaches js es parts.1 c rest in
                record {
                  end = ih.end;
                  made = ap (λ b. change_all R low high greatest es (cond b (differences R old new js) ((j.0, change_between (count R old j.0) (count R new j.0)) ∷ differences R old new js))) e ∙ ih.made;
                  counts = ih.counts;
                  values = λ q. elim (eq_by_cmp R q j.0) as (λ b. eq_by_cmp R q j.0 ≡ b → count R ih.end q ≡ cond (is_some (cond b (Some j.1) (find R q js))) (count R new q) (count R es q)) [
                    | true ↦ λ t. subst (λ x. count R ih.end x ≡ count R new x) (sym (is_key q j.0 t)) (ih.values j.0 ∙ ap (λ r. cond (is_some r) (count R new j.0) (count R es j.0)) absent ∙ here ∙ grind (arith, nat_tests, e))
                    | false ↦ λ t. ih.values q
                  ] refl;
                }
            | false ↦ λ e.
                let set = set_count R es j.0 (count R new j.0) in
                let set_is : (q : K) → count R set q ≡ cond (eq_by_cmp R q j.0) (count R new j.0) (count R es q) = λ q. count-set_count es j.0 (count R new j.0) q in
                let kept : AreCounts R greatest set = counts-set_count greatest same es j.0 (count R new j.0) (count_le new j.0 new_is.within) c in
                let ih = reaches js set parts.1 kept (λ q in_js. set_is q ∙ ap (λ b. cond b (count R new j.0) (count R es q)) (other q in_js) ∙ rest q in_js) in
                record {
                  end = ih.end;
                  made = ap (λ b. change_all R low high greatest es (cond b (differences R old new js) ((j.0, change_between (count R old j.0) (count R new j.0)) ∷ differences R old new js))) e
                      ∙ first_then (change_one R low high greatest es j.0 (change_between (count R old j.0) (count R new j.0))) set ih.end (differences R old new js) (first_made es j.0 here) ih.made;
                  counts = ih.counts;
                  values = λ q. elim (eq_by_cmp R q j.0) as (λ b. eq_by_cmp R q j.0 ≡ b → count R ih.end q ≡ cond (is_some (cond b (Some j.1) (find R q js))) (count R new q) (count R es q)) [
                    | true ↦ λ t. subst (λ x. count R ih.end x ≡ count R new x) (sym (is_key q j.0 t)) (ih.values j.0 ∙ ap (λ r. cond (is_some r) (count R new j.0) (count R set j.0)) absent ∙ set_is j.0 ∙ ap (λ b. cond b (count R new j.0) (count R es j.0)) itself)
                    | false ↦ λ t. ih.values q ∙ ap (λ n. cond (is_some (find R q js)) (count R new q) n) (set_is q ∙ ap (λ b. cond b (count R new j.0) (count R es q)) t)
                  ] refl;
                }
          ] refl

      pub in_joined : (es fs : List (K × ℕ)) (q : K) → is_some (find R q (joined R es fs)) ≡ (is_some (find R q es) || is_some (find R q fs))
      in_joined [] fs q = refl
      in_joined (e ∷ es) fs q = ap is_some (find-put R o q e.0 e.1 (joined R es fs)) ∙ elim (eq_by_cmp R q e.0) as (λ b. is_some (cond b (Some e.1) (find R q (joined R es fs))) ≡ (is_some (cond b (Some e.1) (find R q es)) || is_some (find R q fs))) [
        | true ↦ refl
        | false ↦ in_joined es fs q
      ]

      pub joined_sorted : (es fs : List (K × ℕ)) → T (is_sorted R fs) → T (is_sorted R (joined R es fs))
      joined_sorted [] fs h = h
      joined_sorted (e ∷ es) fs h = is_sorted-put R o e.0 e.1 (joined R es fs) (joined_sorted es fs h)

      pub none_count : (es : List (K × ℕ)) (q : K) → is_some (find R q es) ≡ false → count R es q ≡ 0
      none_count es q h = elim (find R q es) as (λ r. is_some r ≡ false → unwrap_or r 0 ≡ 0) [ None ↦ λ _. refl | Some n ↦ λ e. cc ] h

      -- the difference takes the old list to the new one
      pub difference_law : AreCounts R greatest old → change_all R low high greatest old (difference R old new) ≡ Ok new
      difference_law old_is =
          let js = joined R old new in
          let r = reaches js old (joined_sorted old new new_is.sorted) old_is (λ q _. refl) in
          let ends : r.end ≡ new = same_counts r.end new r.counts new_is (λ q. r.values q ∙ elim (is_some (find R q js)) as (λ b. is_some (find R q js) ≡ b → cond b (count R new q) (count R old q) ≡ count R new q) [
            | true ↦ λ _. refl
            | false ↦ λ t. let none = both_false _ _ (sym (in_joined old new q) ∙ t) in none_count old q none.0 ∙ sym (none_count new q none.1)
          ] refl) in
          r.made ∙ ap (λ es. Ok es) ends
