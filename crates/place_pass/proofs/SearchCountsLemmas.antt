-- Which marks are unsettled, or note a group, after a change; and how many machines are looked at.
use Rattle.std.proofs.Common.{◌≡◌, ℕ, zero, suc, ◌+◌, ◌<◌, ◌≤◌, Bool, true, false, cond, not, nat_eq, nat_lt, List, [], ◌∷◌, get_or, refl, sym, ◌∙◌, ap, subst, arith, inl, inr, ◌⊎◌, Option, None, Some}
use Rattle.std.specs.Prelude.{◌&&◌, is_some}
use Rattle.std.specs.List.{list_any}
use Rattle.std.specs.Option.{is_none}
use Rattle.std.proofs.lemmas.Bool.{cases_lt}
use Rattle.std.proofs.lemmas.Bool.Decides.{nat_tests}
use Rattle.fuxi_terms.specs.Cluster.{ClusterRecord, rack_of}
use Rattle.fuxi_terms.specs.declared.Key.{Key}
use Rattle.fuxi_terms.proofs.Booleans.{both_true, and_true, number_is, nat_itself}
use Rattle.place_pass.specs.Bounds.{MarkRecord, mark_at, key_of, zero_rank, no_groups, lowered, lowered_mark, reset_mark, after_taking}
use Rattle.place_pass.specs.Cells.{Cell, Lifts}
use Rattle.place_pass.specs.SearchCounts.{is_unsettled_by, is_unsettled, count_below, IsTight, StaysTight}
use Rattle.place_pass.specs.Placers.{PlacerRecord}
use Rattle.place_pass.specs.Candidates.{IsAsked}
use Rattle.fuxi_terms.proofs.IndexedLists.{repeated_at}

-- ---- how many machines are looked at
apart_le : (f : ℕ → Bool) (start n : ℕ) → count_below (λ m. not (nat_eq m start) && f m) n ≤ count_below f n
apart_le f start zero = omega arith
apart_le f start (suc n) = let le = apart_le f start n in let x = fewer (not (nat_eq n start)) (f n) in omega (arith, le, x)
  where
    fewer : (a b : Bool) → cond (a && b) 1 0 ≤ cond b 1 0
    fewer true b = omega arith
    fewer false b = omega arith

pub count_same : (f g : ℕ → Bool) (n : ℕ) → ((m : ℕ) → f m ≡ g m) → count_below f n ≡ count_below g n
count_same f g zero e = refl
count_same f g (suc n) e = λ i. count_same f g n e i + cond (e n i) 1 0

-- no fewer are counted below a greater number
pub count_more : (f : ℕ → Bool) (from to : ℕ) → from ≤ to → count_below f from ≤ count_below f to
count_more f from zero le = let e = ap (count_below f) (let e : zero ≡ from = omega (arith, le) in e) in omega (arith, e)
count_more f from (suc to) le = elim (cases_lt to from) as (λ _. count_below f from ≤ count_below f (suc to)) [
  | inl lt ↦ let e = ap (count_below f) (let e : suc to ≡ from = omega (arith, lt, le) in e) in omega (arith, e)
  | inr ge ↦ let before = count_more f from to ge in omega (arith, before)
]

-- the machine that is looked at first and the others are all of them
pub count_first : (f : ℕ → Bool) (start n : ℕ) → start < n → count_below (λ m. not (nat_eq m start) && f m) n + cond (f start) 1 0 ≤ count_below f n
count_first f start zero lt = absurd (omega (arith, lt))
count_first f start (suc n) lt = elim (cases_lt start n) [
  | inl less ↦
      let le = count_first f start n less in
      let e : nat_eq n start ≡ false = grind (arith, nat_tests, less) in
      let x : ◌≡◌ {A = ℕ} (cond (not (nat_eq n start) && f n) 1 0) (cond (f n) 1 0) = ap (λ b. cond (not b && f n) 1 0) e in
      omega (arith, le, x)
  | inr ge ↦
      let same : start ≡ n = omega (arith, lt, ge) in
      let le = apart_le f start n in
      let e : nat_eq n start ≡ true = ap (λ z. nat_eq n z) same ∙ nat_itself n in
      let x : ◌≡◌ {A = ℕ} (cond (not (nat_eq n start) && f n) 1 0) 0 = ap (λ b. cond (not b && f n) 1 0) e in
      let y : ◌≡◌ {A = ℕ} (cond (f start) 1 0) (cond (f n) 1 0) = ap (λ z. cond (f z) 1 0) same in
      omega (arith, le, x, y)
]

-- a look at one machine, and then at the others, whose marks are as before
pub both_looks : (o : List Bool) (old new : List MarkRecord) (turns start n s0 s1 s2 : ℕ) → start < n → s1 ≤ s0 + cond (is_unsettled_by o (mark_at old start) turns start) 1 0
    → s2 ≤ s1 + count_below (λ m. not (nat_eq m start) && is_unsettled_by o (mark_at new m) turns m) n → ((m : ℕ) → nat_eq start m ≡ false → mark_at new m ≡ mark_at old m)
    → s2 ≤ s0 + count_below (λ m. is_unsettled_by o (mark_at old m) turns m) n
both_looks o old new turns start n s0 s1 s2 lt one others same =
    let e = count_same (λ m. not (nat_eq m start) && is_unsettled_by o (mark_at new m) turns m) (λ m. not (nat_eq m start) && is_unsettled_by o (mark_at old m) turns m) n (λ m. apart m (nat_eq m start) refl) in
    let all = count_first (λ m. is_unsettled_by o (mark_at old m) turns m) start n lt in
    omega (arith, one, others, e, all)
  where
    apart : (m : ℕ) (t : Bool) → nat_eq m start ≡ t → (not t && is_unsettled_by o (mark_at new m) turns m) ≡ (not t && is_unsettled_by o (mark_at old m) turns m)
    apart m true t = refl
    apart m false f = ap (λ (k : MarkRecord). is_unsettled_by o k turns m) (same m (grind (arith, nat_tests, f)))

pub one_look : (unsettled : Bool) (n n' : ℕ) → n' ≡ n + 1 → unsettled ≡ true → n' ≤ n + cond unsettled 1 0
one_look unsettled n n' e u = let x : ◌≡◌ {A = ℕ} (cond unsettled 1 0) 1 = ap (λ b. cond b 1 0) u in omega (arith, e, x)

-- ---- one mark
abbrev pub IsTightMark : ℕ → MarkRecord → Type 0
IsTightMark turns k = is_some (key_of k turns) ≡ false → (g : ℕ) → get_or k.groups g false ≡ false

-- it is tight, and unsettled where it was, or where more is so
pub record MarkStays (turns : ℕ) (more : Type 0) (k k' : MarkRecord) : Type 0 where
  pub tight : IsTightMark turns k'
  pub few : is_some (key_of k' turns) ≡ true → (is_some (key_of k turns) ≡ true) ⊎ more

pub stays_for : (turns : ℕ) (A B : Type 0) (k k' : MarkRecord) → (A → B) → MarkStays turns A k k' → MarkStays turns B k k'
stays_for turns A B k k' f h = record { tight = h.tight; few = λ e. elim (h.few e) [ inl x ↦ inl x | inr y ↦ inr (f y) ] }

pub none_noted : (g : ℕ) → get_or no_groups g false ≡ false
none_noted g = repeated_at false 32 g

pub same_stays : (turns : ℕ) (more : Type 0) (k : MarkRecord) → IsTightMark turns k → MarkStays turns more k k
same_stays turns more k h = record { tight = h; few = λ e. inl e }

reset_here : (turns : ℕ) (more : Type 0) (k : MarkRecord) → more → MarkStays turns more k (reset_mark k.until)
reset_here turns more k x = record { tight = λ _ g. none_noted g; few = λ _. inr x }

reset_again : (turns : ℕ) (more : Type 0) (k : MarkRecord) → is_some (key_of k turns) ≡ true → MarkStays turns more k (reset_mark k.until)
reset_again turns more k e = record { tight = λ _ g. none_noted g; few = λ _. inl e }

lowered_some : (k : MarkRecord) (turns : ℕ) → is_some (key_of (lowered_mark k) turns) ≡ is_some (key_of k turns)
lowered_some k turns = by (nat_lt k.until turns) k.bound
  where
    by : (t : Bool) (o : Option (List ℕ)) → is_some (cond t (Some zero_rank) (lowered o)) ≡ is_some (cond t (Some zero_rank) o)
    by true o = refl
    by false None = refl
    by false (Some b) = refl

lowered_stays : (turns : ℕ) (more : Type 0) (k : MarkRecord) → IsTightMark turns k → MarkStays turns more k (lowered_mark k)
lowered_stays turns more k h = record { tight = λ e. h (sym (lowered_some k turns) ∙ e); few = λ e. inl (sym (lowered_some k turns) ∙ e) }

pub asked_stays : (turns : ℕ) (es : List (Key × ℕ)) (xs : List Cell) (m : ℕ) (k k' : MarkRecord) → IsAsked es xs m k k' → IsTightMark turns k → MarkStays turns (Lifts es xs m) k k'
asked_stays turns es xs m k k' a h = subst (MarkStays turns (Lifts es xs m) k) (sym a.is) (elim a.lifted as (λ b. a.lifted ≡ b → MarkStays turns (Lifts es xs m) k (cond b (reset_mark k.until) (lowered_mark k))) [
  | true ↦ λ e. reset_here turns (Lifts es xs m) k (a.some e)
  | false ↦ λ _. lowered_stays turns (Lifts es xs m) k h
] refl)

pub taken_stays : (turns : ℕ) (c : ClusterRecord) (g machine : ℕ) (nearer : Bool) (m : ℕ) (k : MarkRecord) → IsTightMark turns k → MarkStays turns (m ≡ machine) k (after_taking c g machine nearer m k)
taken_stays turns c g machine nearer m k h = elim (nat_eq m machine) as (λ x. nat_eq m machine ≡ x → MarkStays turns (m ≡ machine) k (cond x (reset_mark k.until) (cond (get_or k.groups g false) (reset_mark k.until) (cond (nearer && nat_eq (rack_of c m) (rack_of c machine)) (lowered_mark k) k)))) [
  | true ↦ λ e. reset_here turns (m ≡ machine) k (number_is m machine e)
  | false ↦ λ _. elim (get_or k.groups g false) as (λ x. get_or k.groups g false ≡ x → MarkStays turns (m ≡ machine) k (cond x (reset_mark k.until) (cond (nearer && nat_eq (rack_of c m) (rack_of c machine)) (lowered_mark k) k))) [
    | true ↦ λ noted. reset_again turns (m ≡ machine) k (elim (is_some (key_of k turns)) as (λ x. is_some (key_of k turns) ≡ x → x ≡ true) [
      | true ↦ λ _. refl
      | false ↦ λ e. sym (h e g) ∙ noted
    ] refl)
    | false ↦ λ _. elim (nearer && nat_eq (rack_of c m) (rack_of c machine)) as (λ x. MarkStays turns (m ≡ machine) k (cond x (lowered_mark k) k)) [
      | true ↦ lowered_stays turns (m ≡ machine) k h
      | false ↦ same_stays turns (m ≡ machine) k h
    ]
  ] refl
] refl

pub told_stays : (turns : ℕ) (fell : Bool) (c : ClusterRecord) (g machine : ℕ) (nearer : Bool) (m : ℕ) (k : MarkRecord) → IsTightMark turns k → MarkStays turns (m ≡ machine) k (cond fell (after_taking c g machine nearer m k) k)
told_stays turns true c g machine nearer m k h = taken_stays turns c g machine nearer m k h
told_stays turns false c g machine nearer m k h = same_stays turns (m ≡ machine) k h

-- ---- the marks of a placer
pub stays_tight : {p q new : PlacerRecord} {more : ℕ → Type 0} → p ≡ q → new.seen.opened ≡ p.seen.opened → new.seen.turns ≡ p.seen.turns
    → ((m : ℕ) → get_or p.seen.opened m false ≡ true → IsTightMark p.seen.turns (mark_at p.kept.marks m) → MarkStays p.seen.turns (more m) (mark_at p.kept.marks m) (mark_at new.kept.marks m))
    → IsTight q → StaysTight q new more
stays_tight {p} {q} {new} {more} e o t stays h = subst (λ (z : PlacerRecord). StaysTight z new more) e (record {
  tight = record { clear = λ m g opened settled. (stays m (was m opened) (at m (was m opened))).tight (sym (ap (λ b. b && is_some (key_of (mark_at new.kept.marks m) p.seen.turns)) (was m opened)) ∙ sym (now m) ∙ settled) g };
  few = λ m unsettled.
      let b = both_true (get_or p.seen.opened m false) _ (sym (now m) ∙ unsettled) in
      elim ((stays m b.0 (at m b.0)).few b.1) [
        | inl x ↦ inl (and_true (get_or p.seen.opened m false) _ b.0 x)
        | inr y ↦ inr y
      ];
})
  where
    old : IsTight p
    old = subst IsTight (sym e) h

    now : (m : ℕ) → is_unsettled new m ≡ is_unsettled_by p.seen.opened (mark_at new.kept.marks m) p.seen.turns m
    now m = λ i. is_unsettled_by (o i) (mark_at new.kept.marks m) (t i) m

    was : (m : ℕ) → get_or new.seen.opened m false ≡ true → get_or p.seen.opened m false ≡ true
    was m opened = sym (ap (λ os. get_or os m false) o) ∙ opened

    at : (m : ℕ) → get_or p.seen.opened m false ≡ true → IsTightMark p.seen.turns (mark_at p.kept.marks m)
    at m opened settled g = old.clear m g opened (ap (λ b. b && is_some (key_of (mark_at p.kept.marks m) p.seen.turns)) opened ∙ settled)

-- ---- a mark without a bound of all pairs
pub asked_settled : (turns : ℕ) (es : List (Key × ℕ)) (xs : List Cell) (m : ℕ) (k k' : MarkRecord) → IsAsked es xs m k k' → (Lifts es xs m → ⊥) → key_of k turns ≡ None → key_of k' turns ≡ None
asked_settled turns es xs m k k' a none e = ap (λ x. key_of x turns) a.is ∙ elim a.lifted as (λ b. a.lifted ≡ b → key_of (cond b (reset_mark k.until) (lowered_mark k)) turns ≡ None) [
  | true ↦ λ is. absurd (none (a.some is))
  | false ↦ λ _. by (nat_lt k.until turns) k.bound e
] refl
  where
    by : (t : Bool) (o : Option (List ℕ)) → cond t (Some zero_rank) o ≡ None → cond t (Some zero_rank) (lowered o) ≡ None
    by true o e = cc
    by false None e = refl
    by false (Some b) e = cc

pub asked_clear : (es : List (Key × ℕ)) (xs : List Cell) (m : ℕ) (k k' : MarkRecord) → IsAsked es xs m k k' → (Lifts es xs m → ⊥) → (g : ℕ) → get_or k.groups g false ≡ false → get_or k'.groups g false ≡ false
asked_clear es xs m k k' a none g e = ap (λ (x : MarkRecord). get_or x.groups g false) a.is ∙ elim a.lifted as (λ b. a.lifted ≡ b → get_or (cond b (reset_mark k.until) (lowered_mark k)).groups g false ≡ false) [
  | true ↦ λ is. absurd (none (a.some is))
  | false ↦ λ _. e
] refl

pub none_some : {A : Type 0} (o : Option A) → o ≡ None → is_some o ≡ false
none_some None e = refl
none_some (Some x) e = cc

-- a closed machine, and one whose mark has no bound, is settled
pub is_settled : (opened : Bool) (k : MarkRecord) (turns : ℕ) → (opened ≡ true → key_of k turns ≡ None) → (opened && is_some (key_of k turns)) ≡ false
is_settled true k turns f = none_some (key_of k turns) (f refl)
is_settled false k turns f = refl

pub some_some : {A : Type 0} (o : Option A) (x : A) → o ≡ Some x → is_some o ≡ true
some_some None x e = cc
some_some (Some y) x e = refl

pub not_none : {A : Type 0} (o : Option A) → is_none o ≡ false → o ≡ None → ⊥
not_none None f e = cc
not_none (Some x) f e = cc

-- no test holds of any of these
pub none_any : (xs : List Bool) (g : ℕ) → list_any (λ noted. noted) xs ≡ false → get_or xs g false ≡ false
none_any [] g e = refl
none_any (true ∷ xs) g e = cc
none_any (false ∷ xs) zero e = refl
none_any (false ∷ xs) (suc g) e = none_any xs g e
