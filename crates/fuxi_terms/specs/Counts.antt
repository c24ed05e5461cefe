-- Finite maps from keys to positive numbers, as lists of entries in the order of the keys. A count of 0 has no entry.
use Rattle.std.specs.Prelude.{◌≡◌, ℕ, ◌+◌, ◌-◌, ◌≤◌, ◌<◌, ℤ, pos, negsuc, Bool, true, false, cond, not, nat_lt, nat_eq, ◌&&◌, T, List, [], ◌∷◌, Option, Some, None, Result, Ok, Err}
use Rattle.std.specs.Option.{unwrap_or}
use Rattle.std.specs.Ordering.{eq_by_cmp}
use Rattle.std.specs.declared.cmp.Ordering.{Ordering}
use Rattle.std.specs.List.{AllByRecursion}
use Rattle.std.specs.FinMap.Entries.{put, where_key, find, is_sorted}

-- a number moved by a signed change, where it stays at least 0
abbrev pub moved : ℕ → ℤ → Option ℕ
moved n (pos k) = Some (n + k)
moved n (negsuc k) = cond (nat_lt k n) (Some (n - (k + 1))) None

-- the change from one number to another
abbrev pub change_between : ℕ → ℕ → ℤ
change_between a b = cond (nat_lt b a) (negsuc (a - b - 1)) (pos (b - a))

abbrev pub is_no_change : ℤ → Bool
is_no_change (pos n) = nat_eq n 0
is_no_change (negsuc n) = false

-- a number moved by a change of its key, or the refusal: low where it would fall below 0, high where it would rise above the greatest of its key
module _ {K E : Type 0} (low : K → ℕ → ℤ → E) (high : K → E) (greatest : K → ℕ) where
  abbrev pub in_bounds : K → ℕ → ℤ → Option ℕ → Result ℕ E
  in_bounds k kept change None = Err (low k kept change)
  in_bounds k kept change (Some n) = cond (nat_lt (greatest k) n) (Err (high k)) (Ok n)

  abbrev pub moved_within : K → ℕ → ℤ → Result ℕ E
  moved_within k kept change = in_bounds k kept change (moved kept change)

-- goes on with the value, and stays at a refusal
abbrev pub then_do : {A B E : Type 0} → Result A E → (A → Result B E) → Result B E
then_do (Ok x) f = f x
then_do (Err e) f = Err e

module _ {K : Type 0} (R : K → K → Ordering) where
  -- the number at a key
  abbrev pub count : List (K × ℕ) → K → ℕ
  count es k = unwrap_or (find R k es) 0

  abbrev pub set_count : List (K × ℕ) → K → ℕ → List (K × ℕ)
  set_count es k n = cond (nat_eq n 0) (where_key R (λ x. not (eq_by_cmp R k x)) es) (put R k n es)

  abbrev pub is_same : List (K × ℕ) → List (K × ℕ) → Bool
  is_same [] [] = true
  is_same [] (f ∷ fs) = false
  is_same (e ∷ es) [] = false
  is_same (e ∷ es) (f ∷ fs) = eq_by_cmp R e.0 f.0 && (nat_eq e.1 f.1 && is_same es fs)

  -- low and high are the two refusals: the number would fall below 0, or rise above the greatest of its key
  module _ {E : Type 0} (low : K → ℕ → ℤ → E) (high : K → E) (greatest : K → ℕ) where
    abbrev pub set_moved : List (K × ℕ) → K → ℕ → ℤ → Option ℕ → Result (List (K × ℕ)) E
    set_moved es k kept change None = Err (low k kept change)
    set_moved es k kept change (Some n) = cond (nat_lt (greatest k) n) (Err (high k)) (Ok (set_count es k n))

    abbrev pub change_one : List (K × ℕ) → K → ℤ → Result (List (K × ℕ)) E
    change_one es k change = set_moved es k (count es k) change (moved (count es k) change)

    -- the changes in order, or the first refusal
    abbrev pub change_all : List (K × ℕ) → List (K × ℤ) → Result (List (K × ℕ)) E
    change_all es [] = Ok es
    change_all es (c ∷ cs) = then_do (change_one es c.0 c.1) (λ fs. change_all fs cs)

  -- the keys of both
  abbrev pub joined : List (K × ℕ) → List (K × ℕ) → List (K × ℕ)
  joined [] fs = fs
  joined (e ∷ es) fs = put R e.0 e.1 (joined es fs)

  -- at each of these keys the change from the first to the second, where there is one
  abbrev pub differences : List (K × ℕ) → List (K × ℕ) → List (K × ℕ) → List (K × ℤ)
  differences es fs [] = []
  differences es fs (j ∷ js) = cond (nat_eq (count es j.0) (count fs j.0)) (differences es fs js) ((j.0, change_between (count es j.0) (count fs j.0)) ∷ differences es fs js)

  abbrev pub difference : List (K × ℕ) → List (K × ℕ) → List (K × ℤ)
  difference es fs = differences es fs (joined es fs)

  -- keys rise, and each number is positive and at most the greatest of its key
  pub record AreCounts (greatest : K → ℕ) (es : List (K × ℕ)) : Type 0 where
    pub sorted : T (is_sorted R es)
    pub positive : AllByRecursion (λ e. 0 < e.1) es
    pub within : AllByRecursion (λ e. e.1 ≤ greatest e.0) es

  -- keys rise, and no change is 0
  pub record AreChanges (cs : List (K × ℤ)) : Type 0 where
    pub sorted : T (is_sorted R cs)
    pub real : AllByRecursion (λ c. is_no_change c.1 ≡ false) cs
