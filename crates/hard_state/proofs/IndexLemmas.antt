-- The places of jobs by their numbers.
use Rattle.std.proofs.Common.{take, ◌≡◌, ◌≢◌, inl, inr, ℕ, zero, suc, ◌+◌, ◌-◌, ◌<◌, ◌≤◌, Bool, true, false, cond, nat_eq, List, [], ◌∷◌, ◌++◌, length, get_or, set, replicate, map, slice_get, Option, None, Some, is_some, refl, sym, ◌∙◌, ap, subst, arith, length-append}
use Rattle.std.specs.Option.{option_map}
use Rattle.std.proofs.lemmas.List.{take_more, map-append, get_or-map, get_or-set_same, get_or-set_other, length-set, length-map}
use Rattle.std.proofs.lemmas.Bool.{cases_eq, cases_lt}
use Rattle.std.proofs.lemmas.Bool.Decides.{nat_tests}
use Rattle.std.specs.Prelude.{◌&&◌, nat_lt}
use Rattle.std.specs.List.{list_all}
use Rattle.fuxi_terms.specs.Cluster.{JobRecord, is_valid_job, is_valid_unit, is_between}
use Rattle.fuxi_terms.proofs.Booleans.{both_true}
use Rattle.fuxi_terms.specs.Jobs.{KnownJob, job_of, is_known}
use Rattle.spec_roles.specs.HardState.{with_ended}
use Rattle.hard_state.specs.Index.{job_at, count_used, IsIndex}

-- nothing is submitted
nothing_at : (place : ℕ) → None ≡ job_at [] place
nothing_at zero = refl
nothing_at (suc i) = refl

abbrev pub zeros : ℕ → List ℕ
zeros n = replicate n 0

all_zero : (n i : ℕ) → get_or (zeros n) i 0 ≡ 0
all_zero zero i = refl
all_zero (suc n) zero = refl
all_zero (suc n) (suc i) = all_zero n i

none_used : (n : ℕ) → count_used (zeros n) ≡ 0
none_used zero = refl
none_used (suc n) = none_used n

pub empty_index : (places : List ℕ) → places ≡ zeros 256 → IsIndex places []
empty_index places is = subst (λ l. IsIndex l []) (sym is) (record {
  numbers = refl;
  leads = λ number. nothing_at (get_or (zeros 256) number 0);
  within = λ number. omega (arith, all_zero 256 number);
  only = λ i job at. absurd (cc);
  count = sym (none_used 256);
})

-- a number without a job leaves room
used_most : (places : List ℕ) → count_used places ≤ length places
used_most [] = omega arith
used_most (zero ∷ places) = omega (arith, used_most places)
used_most (suc place ∷ places) = omega (arith, used_most places)

used_few : (places : List ℕ) (number : ℕ) → number < length places → get_or places number 0 ≡ 0 → count_used places < length places
used_few [] number within free = absurd (omega (arith, within))
used_few (zero ∷ places) number within free = omega (arith, used_most places)
used_few (suc place ∷ places) zero within free = absurd (omega (arith, free))
used_few (suc place ∷ places) (suc number) within free = omega (arith, used_few places number (omega (arith, within)) free)

one_used : (places : List ℕ) (number place : ℕ) → number < length places → get_or places number 0 ≡ 0 → count_used (set places number (suc place)) ≡ count_used places + 1
one_used [] number place within free = absurd (omega (arith, within))
one_used (zero ∷ places) zero place within free = refl
one_used (zero ∷ places) (suc number) place within free = one_used places number place (omega (arith, within)) free
one_used (suc other ∷ places) zero place within free = absurd (omega (arith, free))
one_used (suc other ∷ places) (suc number) place within free = ap (λ n. n + 1) (one_used places number place (omega (arith, within)) free)

some_there : {A : Type 0} (xs : List A) (i : ℕ) → i < length xs → slice_get xs i ≡ None → ⊥
some_there [] i within none = omega (arith, within)
some_there (x ∷ xs) zero within none = cc
some_there (x ∷ xs) (suc i) within none = some_there xs i (omega (arith, within)) none

-- where no job has the number, its place is 0
pub free_of : (places : List ℕ) (jobs : List KnownJob) (number : ℕ) → IsIndex places jobs → job_of jobs number ≡ None → get_or places number 0 ≡ 0
free_of places jobs number index none = go (get_or places number 0) (index.within number) (sym (index.leads number) ∙ none)
  where
    go : (place : ℕ) → place ≤ length jobs → job_at jobs place ≡ None → place ≡ 0
    go zero within is = refl
    go (suc i) within is = absurd (some_there jobs i (omega (arith, within)) is)

pub room_of : (places : List ℕ) (jobs : List KnownJob) (number : ℕ) → IsIndex places jobs → number < 256 → job_of jobs number ≡ None → length jobs < 256
room_of places jobs number index small none =
    omega (arith, index.count, index.numbers, used_few places number (omega (arith, small, index.numbers)) (free_of places jobs number index none))

-- a number above the places has no job
pub number_small : (places : List ℕ) (jobs : List KnownJob) (number : ℕ) (job : KnownJob) → IsIndex places jobs → job_of jobs number ≡ Some job → number < 256
number_small places jobs number job index is = go (get_or places number 0) refl
  where
    none_beyond : (ps : List ℕ) (i : ℕ) → length ps ≤ i → get_or ps i 0 ≡ 0
    none_beyond [] i beyond = refl
    none_beyond (p ∷ ps) zero beyond = absurd (omega (arith, beyond))
    none_beyond (p ∷ ps) (suc i) beyond = none_beyond ps i (omega (arith, beyond))

    go : (place : ℕ) → get_or places number 0 ≡ place → number < 256
    go zero at = absurd (let e : None ≡ Some job = ap (job_at jobs) (sym at) ∙ sym (index.leads number) ∙ is in cc)
    go (suc i) at = below
      where
        below : number < 256
        below = elim (cases_lt number 256) [ inl small ↦ small | inr large ↦ absurd (omega (arith, sym (none_beyond places number (omega (arith, large, index.numbers))) ∙ at)) ]

pub known_small : (places : List ℕ) (jobs : List KnownJob) (number : ℕ) → IsIndex places jobs → is_known jobs number ≡ true → number < 256
known_small places jobs number index known = go (job_of jobs number) refl known
  where
    go : (o : Option KnownJob) → job_of jobs number ≡ o → is_some o ≡ true → number < 256
    go None is some = absurd (cc)
    go (Some job) is some = number_small places jobs number job index is

-- one job more
module _ (places : List ℕ) (jobs : List KnownJob) (job : KnownJob) (index : IsIndex places jobs) (small : job.job.number < 256) (none : job_of jobs job.job.number ≡ None) where
  abbrev number : ℕ
  number = job.job.number

  abbrev grown : List KnownJob
  grown = jobs ++ job ∷ []

  abbrev placed : List ℕ
  placed = set places number (length jobs + 1)

  here : get_or placed number 0 ≡ length jobs + 1
  here = get_or-set_same places number (length jobs + 1) 0 (omega (arith, small, index.numbers))

  elsewhere : (other : ℕ) → other ≢ number → get_or placed other 0 ≡ get_or places other 0
  elsewhere other differs = get_or-set_other places number other (length jobs + 1) 0 differs

  behind : (b : Bool) (j : KnownJob) (o new : Option KnownJob) → cond b (Some j) o ≡ None → (o ≡ None → new ≡ Some job) → cond b (Some j) new ≡ Some job
  behind true j o new none more = absurd (cc)
  behind false j o new none more = more none

  found_own : (js : List KnownJob) → job_of js number ≡ None → job_of (js ++ job ∷ []) number ≡ Some job
  found_own [] none = let is : nat_eq number number ≡ true = grind (arith, nat_tests) in ap (λ b. cond b (Some job) None) is
  found_own (j ∷ js) none = behind (nat_eq j.job.number number) j (job_of js number) (job_of (js ++ job ∷ []) number) none (found_own js)

  found_other : (other : ℕ) → other ≢ number → (js : List KnownJob) → job_of (js ++ job ∷ []) other ≡ job_of js other
  found_other other differs [] = let is : nat_eq number other ≡ false = grind (arith, nat_tests) in ap (λ b. cond b (Some job) None) is
  found_other other differs (j ∷ js) = ap (λ o. cond (nat_eq j.job.number other) (Some j) o) (found_other other differs js)

  at_end : (js : List KnownJob) → slice_get (js ++ job ∷ []) (length js) ≡ Some job
  at_end [] = refl
  at_end (j ∷ js) = at_end js

  before_end : (js : List KnownJob) (i : ℕ) → i < length js → slice_get (js ++ job ∷ []) i ≡ slice_get js i
  before_end [] i within = absurd (omega (arith, within))
  before_end (j ∷ js) zero within = refl
  before_end (j ∷ js) (suc i) within = before_end js i (omega (arith, within))

  behind_end : (js : List KnownJob) (i : ℕ) (k : KnownJob) → length js ≤ i → slice_get (js ++ job ∷ []) i ≡ Some k → (i ≡ length js) × (k ≡ job)
  behind_end [] zero k from is = (refl, cc)
  behind_end [] (suc i) k from is = absurd (cc)
  behind_end (j ∷ js) zero k from is = absurd (omega (arith, from))
  behind_end (j ∷ js) (suc i) k from is = let b = behind_end js i k (omega (arith, from)) is in (omega (arith, b.0), b.1)

  same_at : (place : ℕ) → place ≤ length jobs → job_at grown place ≡ job_at jobs place
  same_at zero within = refl
  same_at (suc i) within = before_end jobs i (omega (arith, within))

  leads_to : (other : ℕ) → job_of grown other ≡ job_at grown (get_or placed other 0)
  leads_to other = elim (cases_eq other number) [
    | inl same ↦ subst (λ n. job_of grown n ≡ job_at grown (get_or placed n 0)) (sym same) (found_own jobs none ∙ sym (ap (job_at grown) (here ∙ (let e : length jobs + 1 ≡ suc (length jobs) = omega arith in e)) ∙ at_end jobs))
    | inr differs ↦ found_other other differs jobs ∙ index.leads other ∙ sym (ap (job_at grown) (elsewhere other differs) ∙ same_at (get_or places other 0) (index.within other))
  ]

  is_within : (other : ℕ) → get_or placed other 0 ≤ length grown
  is_within other = elim (cases_eq other number) [
    | inl same ↦ omega (arith, ap (λ n. get_or placed n 0) same, here, length-append jobs (job ∷ []))
    | inr differs ↦ omega (arith, elsewhere other differs, index.within other, length-append jobs (job ∷ []))
  ]

  -- the others have other numbers
  apart : (i : ℕ) (k : KnownJob) → slice_get jobs i ≡ Some k → k.job.number ≢ number
  apart i k at same = omega (arith, sym (index.only i k at), ap (λ n. get_or places n 0) same, free_of places jobs number index none)

  only_one : (i : ℕ) (k : KnownJob) → slice_get grown i ≡ Some k → get_or placed k.job.number 0 ≡ suc i
  only_one i k at = elim (cases_lt i (length jobs)) [
    | inl before ↦ let own : slice_get jobs i ≡ Some k = sym (before_end jobs i before) ∙ at in elsewhere k.job.number (apart i k own) ∙ index.only i k own
    | inr behind ↦
        let b = behind_end jobs i k behind at in
        ap (λ (j : KnownJob). get_or placed j.job.number 0) b.1 ∙ here ∙ (let e : length jobs + 1 ≡ suc i = omega (arith, b.0) in e)
  ]

  pub index_added : IsIndex placed grown
  index_added = record {
    numbers = length-set places number (length jobs + 1) ∙ index.numbers;
    leads = leads_to;
    within = is_within;
    only = only_one;
    count =
        let free = free_of places jobs number index none in
        length-append jobs (job ∷ []) ∙ ap (λ n. n + 1) index.count
        ∙ sym (ap (λ p. count_used (set places number p)) (let e : length jobs + 1 ≡ suc (length jobs) = omega arith in e) ∙ one_used places number (length jobs) (omega (arith, small, index.numbers)) free);
  }

-- a job has ended
abbrev pub ended : KnownJob → KnownJob
ended k = record { job = k.job; ended = true }

abbrev ended_if : ℕ → KnownJob → KnownJob
ended_if a k = cond (nat_eq k.job.number a) (ended k) k

number_kept : (a : ℕ) (k : KnownJob) → (ended_if a k).job.number ≡ k.job.number
number_kept a k = go (nat_eq k.job.number a)
  where
    go : (b : Bool) → (cond b (ended k) k).job.number ≡ k.job.number
    go true = refl
    go false = refl

mapped_at : (f : KnownJob → KnownJob) (jobs : List KnownJob) (i : ℕ) → slice_get (map f jobs) i ≡ option_map f (slice_get jobs i)
mapped_at f [] i = refl
mapped_at f (j ∷ jobs) zero = refl
mapped_at f (j ∷ jobs) (suc i) = mapped_at f jobs i

mapped_job : (f : KnownJob → KnownJob) → ((k : KnownJob) → (f k).job.number ≡ k.job.number) → (jobs : List KnownJob) (a : ℕ) → job_of (map f jobs) a ≡ option_map f (job_of jobs a)
mapped_job f kept [] a = refl
mapped_job f kept (j ∷ jobs) a = ap (λ n. cond (nat_eq n a) (Some (f j)) (job_of (map f jobs) a)) (kept j) ∙ ap (λ o. cond (nat_eq j.job.number a) (Some (f j)) o) (mapped_job f kept jobs a) ∙ choice (nat_eq j.job.number a)
  where
    choice : (b : Bool) → cond b (Some (f j)) (option_map f (job_of jobs a)) ≡ option_map f (cond b (Some j) (job_of jobs a))
    choice true = refl
    choice false = refl

mapped_place : (f : KnownJob → KnownJob) (jobs : List KnownJob) (place : ℕ) → job_at (map f jobs) place ≡ option_map f (job_at jobs place)
mapped_place f jobs zero = refl
mapped_place f jobs (suc i) = mapped_at f jobs i

was : (f : KnownJob → KnownJob) (o : Option KnownJob) (k : KnownJob) → option_map f o ≡ Some k → (j : KnownJob) × (o ≡ Some j) × (f j ≡ k)
was f None k is = absurd (cc)
was f (Some j) k is = (j, refl, cc)

pub index_ended : (places : List ℕ) (jobs : List KnownJob) (a : ℕ) → IsIndex places jobs → IsIndex places (with_ended a jobs)
index_ended places jobs a index = record {
  numbers = index.numbers;
  leads = λ number. mapped_job (ended_if a) (number_kept a) jobs number ∙ ap (option_map (ended_if a)) (index.leads number) ∙ sym (mapped_place (ended_if a) jobs (get_or places number 0));
  within = λ number. omega (arith, index.within number, length-map jobs (ended_if a));
  only = λ i k at.
      let w = was (ended_if a) (slice_get jobs i) k (sym (mapped_at (ended_if a) jobs i) ∙ at) in
      ap (λ n. get_or places n 0) (ap (λ (j : KnownJob). j.job.number) (sym w.2) ∙ number_kept a w.0) ∙ index.only i w.0 w.1;
  count = length-map jobs (ended_if a) ∙ index.count;
}

-- where one job alone has the number, that one ends
set_ended : (a : ℕ) (jobs : List KnownJob) (i : ℕ) (job : KnownJob) → slice_get jobs i ≡ Some job → nat_eq job.job.number a ≡ true
    → ((j : ℕ) (k : KnownJob) → slice_get jobs j ≡ Some k → j ≢ i → nat_eq k.job.number a ≡ false) → with_ended a jobs ≡ set jobs i (ended job)
set_ended a [] i job at own others = absurd (cc)
set_ended a (k ∷ jobs) zero job at own others =
    let same : k ≡ job = cc in
    (λ n. (ap (ended_if a) same ∙ ap (λ b. cond b (ended job) job) own) n ∷ untouched jobs (λ j l is. others (suc j) l is (λ e. omega (arith, e))) n)
  where
    untouched : (js : List KnownJob) → ((j : ℕ) (l : KnownJob) → slice_get js j ≡ Some l → nat_eq l.job.number a ≡ false) → with_ended a js ≡ js
    untouched [] none = refl
    untouched (l ∷ js) none = (λ n. ap (λ b. cond b (ended l) l) (none 0 l refl) n ∷ untouched js (λ j m is. none (suc j) m is) n)
set_ended a (k ∷ jobs) (suc i) job at own others =
    (λ n. ap (λ b. cond b (ended k) k) (others 0 k refl (λ e. omega (arith, e))) n ∷ set_ended a jobs i job at own (λ j l is differs. others (suc j) l is (λ e. differs (omega (arith, e)))) n)

number_of : (b : Bool) (a : ℕ) (j job : KnownJob) (o : Option KnownJob) → nat_eq j.job.number a ≡ b → cond b (Some j) o ≡ Some job → (o ≡ Some job → nat_eq job.job.number a ≡ true) → nat_eq job.job.number a ≡ true
number_of true a j job o test is more = let same : j ≡ job = cc in subst (λ (k : KnownJob). nat_eq k.job.number a ≡ true) same test
number_of false a j job o test is more = more is

numbered : (jobs : List KnownJob) (a : ℕ) (job : KnownJob) → job_of jobs a ≡ Some job → nat_eq job.job.number a ≡ true
numbered [] a job is = absurd (cc)
numbered (j ∷ jobs) a job is = number_of (nat_eq j.job.number a) a j job (job_of jobs a) refl is (numbered jobs a job)

pub ended_at : (places : List ℕ) (jobs : List KnownJob) (a i : ℕ) (job : KnownJob) → IsIndex places jobs → get_or places a 0 ≡ suc i → slice_get jobs i ≡ Some job → with_ended a jobs ≡ set jobs i (ended job)
ended_at places jobs a i job index place at = set_ended a jobs i job at (numbered jobs a job (index.leads a ∙ ap (job_at jobs) place ∙ at)) others
  where
    others : (j : ℕ) (k : KnownJob) → slice_get jobs j ≡ Some k → j ≢ i → nat_eq k.job.number a ≡ false
    others j k is differs = other (nat_eq k.job.number a) refl
      where
        other : (b : Bool) → nat_eq k.job.number a ≡ b → b ≡ false
        other false test = refl
        other true test = let same : k.job.number ≡ a = grind (arith, nat_tests) in absurd (differs (omega (arith, sym (index.only j k is), ap (λ n. get_or places n 0) same, place)))

-- the same as the code has them
pub mapped_there : {A B : Type 0} (f : A → B) (xs : List A) (i : ℕ) (x : A) → slice_get xs i ≡ Some x → slice_get (map f xs) i ≡ Some (f x)
mapped_there f [] i x is = absurd (cc)
mapped_there f (y ∷ xs) zero x is = let same : y ≡ x = cc in ap (λ z. Some (f z)) same
mapped_there f (y ∷ xs) (suc i) x is = mapped_there f xs i x is

pub mapped_set : {A B : Type 0} (f : A → B) (xs : List A) (i : ℕ) (x : A) → map f (set xs i x) ≡ set (map f xs) i (f x)
mapped_set f [] i x = refl
mapped_set f (y ∷ xs) zero x = refl
mapped_set f (y ∷ xs) (suc i) x = ap (λ l. f y ∷ l) (mapped_set f xs i x)

suc_of : (place : ℕ) → place ≢ 0 → place ≡ suc (place - 1)
suc_of zero some = absurd (some refl)
suc_of (suc i) some = omega arith

pub found_there : (places : List ℕ) (jobs : List KnownJob) (number place : ℕ) (job : KnownJob) → IsIndex places jobs → place ≡ get_or places number 0 → place ≢ 0 → slice_get jobs (place - 1) ≡ Some job → job_of jobs number ≡ Some job
found_there places jobs number place job index is some at = index.leads number ∙ ap (job_at jobs) (sym is ∙ suc_of place some) ∙ at

pub none_there : (places : List ℕ) (jobs : List KnownJob) (number place : ℕ) → IsIndex places jobs → place ≡ get_or places number 0 → place ≡ 0 → job_of jobs number ≡ None
none_there places jobs number place index is none = index.leads number ∙ ap (job_at jobs) (sym is ∙ none)

pub ended_there : (places : List ℕ) (jobs : List KnownJob) (number place : ℕ) (job : KnownJob) → IsIndex places jobs → place ≡ get_or places number 0 → place ≢ 0 → slice_get jobs (place - 1) ≡ Some job
    → with_ended number jobs ≡ set jobs (place - 1) (ended job)
ended_there places jobs number place job index is some at = ended_at places jobs number (place - 1) job index (sym is ∙ suc_of place some) at

pub item_there : {A : Type 0} (xs : List A) (i : ℕ) (x : A) → i < length xs → get_or xs i x ≡ x → slice_get xs i ≡ Some x
item_there [] i x within is = absurd (omega (arith, within))
item_there (y ∷ xs) zero x within is = ap Some is
item_there (y ∷ xs) (suc i) x within is = item_there xs i x (omega (arith, within)) is

pub number_below : (job : JobRecord) → is_valid_job 8 job ≡ true → job.number < 256
number_below job ok =
    let first = (both_true (nat_lt job.number 256) (nat_lt job.group 32 && (is_between 1 8 (length job.units) && list_all (is_valid_unit 8) job.units)) ok).0 in
    grind (arith, nat_tests)

pub place_within : {A : Type 0} (f : A → KnownJob) (places : List ℕ) (jobs : List A) (number place : ℕ) → IsIndex places (map f jobs) → place ≡ get_or places number 0 → place ≢ 0 → place - 1 < length jobs
place_within f places jobs number zero index is some = absurd (some refl)
place_within f places jobs number (suc i) index is some = omega (arith, index.within number, is, length-map jobs f)

pub first_index : (places : List ℕ) (jobs : List KnownJob) → places ≡ zeros 256 → jobs ≡ [] → IsIndex places jobs
first_index places jobs is none = subst (IsIndex places) (sym none) (empty_index places is)

pub most_known : {A : Type 0} (f : A → KnownJob) (places : List ℕ) (jobs : List A) → IsIndex places (map f jobs) → length jobs ≤ 256
most_known f places jobs index = omega (arith, index.count, index.numbers, used_most places, length-map jobs f)

-- one more that is the same
pub copied_more : {A : Type 0} (f : A → KnownJob) (jobs copies new : List A) (i : ℕ) (job copy : A) → i < length jobs → new ≡ copies ++ copy ∷ [] → f copy ≡ f job → job ≡ get_or jobs i job → map f copies ≡ take i (map f jobs)
    → map f new ≡ take (i + 1) (map f jobs)
copied_more f jobs copies new i job copy within grown same there so_far =
    ap (map f) grown ∙ map-append f copies (copy ∷ []) ∙ ap (λ l. l ++ f copy ∷ []) so_far
    ∙ ap (λ k. take i (map f jobs) ++ k ∷ []) (same ∙ ap f there ∙ sym (get_or-map f jobs i job (f job) within))
    ∙ sym (take_more (map f jobs) i (f job) (omega (arith, within, length-map jobs f)))
