-- Marks of which some are noted: what another mark changes, and what is passed.
use Rattle.std.proofs.Common.{◌≡◌, ℕ, zero, suc, ◌+◌, ◌^◌, ◌<◌, ◌≤◌, Bool, true, false, cond, nat_eq, nat_lt, List, length, map, set, Option, None, Some, get_or, refl, subst, sym, ◌∙◌, ap, arith, inl, inr}
use Rattle.std.specs.Prelude.{◌||◌, is_some, replicate}
use Rattle.std.specs.List.{list_any}
use Rattle.std.proofs.lemmas.Bool.{cases_lt}
use Rattle.std.proofs.lemmas.Bool.Decides.{nat_tests}
use Rattle.std.proofs.lemmas.List.{length-map, length-set, length-replicate}
use Rattle.fuxi_terms.proofs.Booleans.{both_false, number_is, nat_itself}
use Rattle.fuxi_terms.proofs.IndexedLists.{one_set}
use Rattle.place_pass.specs.declared.marks.mark.Mark.{Mark}
use Rattle.place_pass.specs.Bounds.{MarkRecord, mark_of, mark_at, key_of, zero_rank, no_mark, reset_mark, lowered, lowered_mark, taken_mark}
use Rattle.place_pass.specs.NotedMarks.{AreNoted, AreClearUnless}
use Rattle.place_pass.specs.PackedRanks.{never_rank, renewed_number, IsSmall, IsAbove}
use Rattle.place_pass.proofs.PackedRanksLemmas.{first_key, least_above, least_some}
use Rattle.place_pass.proofs.SearchCountsLemmas.{none_noted, none_any}
use Rattle.place_pass.proofs.CandidatesLemmas.{mark_read, marks_set}

-- a mark without a bound stays as it is where what is placeable may come earlier
pub lowered_none : (k : MarkRecord) → key_of k 0 ≡ None → lowered_mark k ≡ k
lowered_none k e =
    let with : Option (List ℕ) → MarkRecord = λ b. record { bound = b; until = k.until; groups = k.groups } in
    let f : nat_lt k.until 0 ≡ false = grind (arith, nat_tests) in
    let none : k.bound ≡ None = sym (ap (λ b. cond b (Some zero_rank) k.bound) f) ∙ e in
    ap (λ b. with (lowered b)) none ∙ sym (ap with none)

-- marks that are passed without a bound stay as they are
pub lowered_passed : (first before : List MarkRecord) (from to : ℕ) → ((m : ℕ) → m < from → mark_at before m ≡ lowered_mark (mark_at first m)) → ((m : ℕ) → from ≤ m → mark_at before m ≡ mark_at first m)
    → ((m : ℕ) → from ≤ m → m < to → key_of (mark_at before m) 0 ≡ None) → (m : ℕ) → m < to → mark_at before m ≡ lowered_mark (mark_at first m)
lowered_passed first before from to done left passed m lt = elim (cases_lt m from) as (λ _. mark_at before m ≡ lowered_mark (mark_at first m)) [
  | inl less ↦ done m less
  | inr ge ↦ sym (lowered_none (mark_at before m) (passed m ge lt)) ∙ ap lowered_mark (left m ge)
]

-- machines that were not looked at
repeated : {A : Type 0} (n m : ℕ) (x d : A) → m < n → get_or (replicate n x) m d ≡ x
repeated zero m x d lt = absurd (omega (arith, lt))
repeated (suc n) zero x d lt = refl
repeated (suc n) (suc m) x d lt = repeated n m x d (omega (arith, lt))

pub noted_new : (n : ℕ) → n ≤ 256 → AreNoted (replicate n (reset_mark 0)) (replicate n 0) 0
noted_new n few =
    let long = length-replicate {A = MarkRecord} n (reset_mark 0) in
    record {
      few = omega (arith, few, long);
      long = length-replicate {A = ℕ} n 0 ∙ sym long;
      above = λ m turns lt le some.
          let inside : m < n = omega (arith, lt, long) in
          let small : IsSmall first_key = record { late = omega arith; level = omega arith; turn = omega arith } in
          subst (λ (k : MarkRecord). is_some (key_of k turns) ≡ true → IsAbove k turns m (get_or (replicate n 0) m 0)) (sym (repeated n m (reset_mark 0) no_mark inside))
          (λ e. subst (IsAbove (reset_mark 0) turns m) (sym (repeated {A = ℕ} n m 0 0 inside)) (least_some (reset_mark 0) first_key turns m refl small e)) some;
      never = λ m turns lt is few. let zero = repeated {A = ℕ} n m 0 0 (omega (arith, lt, long)) in absurd (omega (arith, is, zero));
    }

-- the numbers of all machines are the least, but where there never is a rank
pub noted_renewed : (marks : List MarkRecord) (keys news : List ℕ) (until turns : ℕ) → turns < 2 ^ 64 → length news ≡ length keys → ((n : ℕ) → n < length news → get_or news n 0 ≡ renewed_number (get_or keys n 0)) → AreNoted marks keys until → AreNoted marks news turns
noted_renewed marks keys news until turns small long all old = record {
  few = old.few;
  long = long ∙ old.long;
  above = λ m t lt le some. let key = get_or keys m 0 in subst (IsAbove (mark_at marks m) t m) (sym (all m (inside m lt))) (elim (nat_eq key never_rank) as (λ b. nat_eq key never_rank ≡ b → IsAbove (mark_at marks m) t m (cond b key 0)) [
    | true ↦ λ e. let none : false ≡ true = sym (old.never m t lt (number_is key never_rank e) (omega (arith, le, small))) ∙ some in cc
    | false ↦ λ _. least_above (mark_at marks m) t m key (λ e. old.above m 0 lt (omega arith) e) some
  ] refl);
  never = λ m t lt is few. let key = get_or keys m 0 in elim (nat_eq key never_rank) as (λ b. nat_eq key never_rank ≡ b → cond b key 0 ≡ never_rank → is_some (key_of (mark_at marks m) t) ≡ false) [
    | true ↦ λ _ same. old.never m t lt same few
    | false ↦ λ _ none. absurd (omega (arith, none))
  ] refl (sym (all m (inside m lt)) ∙ is);
}
  where
    inside : (m : ℕ) → m < length marks → m < length news
    inside m lt = let number = old.long in omega (arith, lt, number, long)

-- ---- one machine has another mark
module _ (marks : List Mark) (machine : ℕ) (x : Mark) where
  pub long_set : length (map mark_of (set marks machine x)) ≡ length (map mark_of marks)
  long_set = length-map (set marks machine x) mark_of ∙ length-set marks machine x ∙ sym (length-map marks mark_of)

  noted_put : (keys : List ℕ) (key until : ℕ) → machine < length marks → AreNoted (map mark_of marks) keys until
      → ((turns : ℕ) → turns ≤ until → is_some (key_of (mark_of x) turns) ≡ true → IsAbove (mark_of x) turns machine key)
      → ((turns : ℕ) → key ≡ never_rank → turns < 2 ^ 64 → is_some (key_of (mark_of x) turns) ≡ false) → AreNoted (map mark_of (set marks machine x)) (set keys machine key) until
  noted_put keys key until lt old here ends =
      let after : List MarkRecord = map mark_of (set marks machine x) in
      let long = long_set in
      let number = old.long in
      let few = old.few in
      let all = length-map marks mark_of in
      let inside : machine < length keys = omega (arith, lt, number, all) in
      record {
        few = omega (arith, long, few);
        long = length-set keys machine key ∙ old.long ∙ sym long;
        above = λ m turns l le some. elim (nat_eq machine m) as (λ t. nat_eq machine m ≡ t → IsAbove (mark_at after m) turns m (get_or (set keys machine key) m 0)) [
          | true ↦ λ t.
              let is : mark_at after m ≡ mark_of x = marks_set marks machine x m lt ∙ ap (λ b. cond b (mark_of x) (mark_at (map mark_of marks) m)) t in
              let k : get_or (set keys machine key) m 0 ≡ key = one_set keys machine m key 0 inside ∙ ap (λ b. cond b key (get_or keys m 0)) t in
              let one : IsAbove (mark_of x) turns machine key = here turns le (sym (ap (λ (z : MarkRecord). is_some (key_of z turns)) is) ∙ some) in
              subst (λ (z : MarkRecord). IsAbove z turns m (get_or (set keys machine key) m 0)) (sym is) (subst (IsAbove (mark_of x) turns m) (sym k) (subst (λ n. IsAbove (mark_of x) turns n key) (number_is machine m t) one))
          | false ↦ λ t.
              let is : mark_at after m ≡ mark_at (map mark_of marks) m = marks_set marks machine x m lt ∙ ap (λ b. cond b (mark_of x) (mark_at (map mark_of marks) m)) t in
              let k : get_or (set keys machine key) m 0 ≡ get_or keys m 0 = one_set keys machine m key 0 inside ∙ ap (λ b. cond b key (get_or keys m 0)) t in
              let one : IsAbove (mark_at (map mark_of marks) m) turns m (get_or keys m 0) = old.above m turns (omega (arith, l, long)) le (sym (ap (λ (z : MarkRecord). is_some (key_of z turns)) is) ∙ some) in
              subst (λ (z : MarkRecord). IsAbove z turns m (get_or (set keys machine key) m 0)) (sym is) (subst (IsAbove (mark_at (map mark_of marks) m) turns m) (sym k) one)
        ] refl;
        never = λ m turns l same small. elim (nat_eq machine m) as (λ t. nat_eq machine m ≡ t → is_some (key_of (mark_at after m) turns) ≡ false) [
          | true ↦ λ t.
              let is : mark_at after m ≡ mark_of x = marks_set marks machine x m lt ∙ ap (λ b. cond b (mark_of x) (mark_at (map mark_of marks) m)) t in
              let k : get_or (set keys machine key) m 0 ≡ key = one_set keys machine m key 0 inside ∙ ap (λ b. cond b key (get_or keys m 0)) t in
              ap (λ (z : MarkRecord). is_some (key_of z turns)) is ∙ ends turns (sym k ∙ same) small
          | false ↦ λ t.
              let is : mark_at after m ≡ mark_at (map mark_of marks) m = marks_set marks machine x m lt ∙ ap (λ b. cond b (mark_of x) (mark_at (map mark_of marks) m)) t in
              let k : get_or (set keys machine key) m 0 ≡ get_or keys m 0 = one_set keys machine m key 0 inside ∙ ap (λ b. cond b key (get_or keys m 0)) t in
              ap (λ (z : MarkRecord). is_some (key_of z turns)) is ∙ old.never m turns (omega (arith, l, long)) (sym k ∙ same) small
        ] refl;
      }

  pub noted_set : (keys news : List ℕ) (key until : ℕ) → news ≡ set keys machine key → machine < length marks → AreNoted (map mark_of marks) keys until
      → ((turns : ℕ) → turns ≤ until → is_some (key_of (mark_of x) turns) ≡ true → IsAbove (mark_of x) turns machine key)
      → ((turns : ℕ) → key ≡ never_rank → turns < 2 ^ 64 → is_some (key_of (mark_of x) turns) ≡ false) → AreNoted (map mark_of (set marks machine x)) news until
  noted_set keys news key until is lt old here ends = subst (λ (ks : List ℕ). AreNoted (map mark_of (set marks machine x)) ks until) (sym is) (noted_put keys key until lt old here ends)

-- ---- a mark of those that have these values is lent, and written
module _ (items : List Mark) (marks : List MarkRecord) (view : map mark_of items ≡ marks) (n : ℕ) (there : n < length marks) where
  pub lent_there : n < length items
  lent_there = let long = length-map items mark_of in let inside = subst (λ (xs : List MarkRecord). n < length xs) (sym view) there in omega (arith, long, inside)

  pub lent_mark : (x : Mark) → x ≡ get_or items n x → mark_of x ≡ mark_at marks n
  lent_mark x is = mark_read items n x lent_there is ∙ ap (λ (xs : List MarkRecord). mark_at xs n) view

  pub written_mark : (x : Mark) (m : ℕ) → mark_at (map mark_of (set items n x)) m ≡ cond (nat_eq n m) (mark_of x) (mark_at marks m)
  written_mark x m = marks_set items n x m lent_there ∙ ap (λ (xs : List MarkRecord). cond (nat_eq n m) (mark_of x) (mark_at xs m)) view

  pub written_here : (x : Mark) → mark_at (map mark_of (set items n x)) n ≡ mark_of x
  written_here x = written_mark x n ∙ ap (λ t. cond t (mark_of x) (mark_at marks n)) (nat_itself n)

  pub clear_there : (noted : Bool) → AreClearUnless (map mark_of items) noted → noted ≡ false → (g : ℕ) → get_or (mark_at marks n).groups g false ≡ false
  clear_there noted old e g = subst (λ (xs : List MarkRecord). n < length xs → get_or (mark_at xs n).groups g false ≡ false) view (old.clear e n g) there

  -- where no group may be noted then, none is: neither was one before, nor does this mark note any
  pub clear_set : (x : Mark) (before after : Bool) → AreClearUnless (map mark_of items) before → (after ≡ false → before ≡ false) → (after ≡ false → (g : ℕ) → get_or x.groups g false ≡ false) → AreClearUnless (map mark_of (set items n x)) after
  clear_set x before after old then here = record {
    clear = λ e m g lt. let long = long_set items n x in ap (λ (k : MarkRecord). get_or k.groups g false) (marks_set items n x m lent_there) ∙ (elim (nat_eq n m) as (λ t. get_or (cond t (mark_of x) (mark_at (map mark_of items) m)).groups g false ≡ false) [
      | true ↦ here e g
      | false ↦ old.clear (then e) m g (omega (arith, lt, long))
    ]);
  }

  -- so where it is said of this mark whether it notes one
  pub clear_or : (x : Mark) (before some : Bool) → AreClearUnless (map mark_of items) before → some ≡ list_any (λ noted. noted) x.groups → AreClearUnless (map mark_of (set items n x)) (before || some)
  clear_or x before some old is = clear_set x before (before || some) old (λ e. (both_false before some e).0) (λ e g. none_any x.groups g (sym is ∙ (both_false before some e).1))

-- ---- no group is noted
pub clear_new : (n : ℕ) → AreClearUnless (replicate n (reset_mark 0)) false
clear_new n = record { clear = λ _ m g lt. let long = length-replicate {A = MarkRecord} n (reset_mark 0) in ap (λ (k : MarkRecord). get_or k.groups g false) (repeated n m (reset_mark 0) no_mark (omega (arith, lt, long))) ∙ none_noted g }

-- a taking notes none
pub taken_clear : (here nearer : Bool) (group : ℕ) (k : MarkRecord) → ((g : ℕ) → get_or k.groups g false ≡ false) → (g : ℕ) → get_or (taken_mark here group nearer k).groups g false ≡ false
taken_clear here nearer group k none g = by here (get_or k.groups group false) nearer
  where
    by : (h n t : Bool) → get_or (cond h (reset_mark k.until) (cond n (reset_mark k.until) (cond t (lowered_mark k) k))).groups g false ≡ false
    by true n t = none_noted g
    by false true t = none_noted g
    by false false true = none g
    by false false false = none g

-- ---- a walk over the marks changes one more
module _ (f : ℕ → MarkRecord → MarkRecord) (first before after : List MarkRecord) (n : ℕ) (is : (m : ℕ) → mark_at after m ≡ cond (nat_eq n m) (f n (mark_at before n)) (mark_at before m))
    (left : (m : ℕ) → n ≤ m → mark_at before m ≡ mark_at first m) where
  pub done_next : ((m : ℕ) → m < n → mark_at before m ≡ f m (mark_at first m)) → (m : ℕ) → m < n + 1 → mark_at after m ≡ f m (mark_at first m)
  done_next done m lt = is m ∙ (elim (cases_lt m n) as (λ _. cond (nat_eq n m) (f n (mark_at before n)) (mark_at before m) ≡ f m (mark_at first m)) [
    | inl less ↦ let e : nat_eq n m ≡ false = grind (arith, nat_tests, less) in ap (λ t. cond t (f n (mark_at before n)) (mark_at before m)) e ∙ done m less
    | inr ge ↦
        let same : n ≡ m = omega (arith, lt, ge) in
        ap (λ t. cond t (f n (mark_at before n)) (mark_at before m)) (ap (λ z. nat_eq n z) (sym same) ∙ nat_itself n) ∙ ap (f n) (left n (omega arith)) ∙ ap (λ z. f z (mark_at first z)) same
  ])

  pub left_next : (m : ℕ) → n + 1 ≤ m → mark_at after m ≡ mark_at first m
  left_next m le = let e : nat_eq n m ≡ false = grind (arith, nat_tests, le) in is m ∙ ap (λ t. cond t (f n (mark_at before n)) (mark_at before m)) e ∙ left m (omega (arith, le))
