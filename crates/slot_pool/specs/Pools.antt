-- What a contract sees of a pool.
use Rattle.std.specs.Prelude.{◌≡◌, ℕ, nat_eq, cond, List, Option, Some, None, get_or, set, refl}
use Rattle.std.specs.Coded.{Coded, code_by, coded×, coded_ℕ, coded_list, coded_option}
use Rattle.slot_pool.specs.declared.pool.Slot.{Slot}

-- By number: the value that stands there or nothing, and the present generation. Then how many values can be put in.
pub record PoolRecord (T : Type 0) : Type 0 where
  pub values : List (Option T)
  pub generations : List ℕ
  pub spare : ℕ

abbrev pub pool_code : {T : Type 0} → Coded T → Coded (PoolRecord T)
pool_code {T} code =
    code_by
    (List (Option T) × (List ℕ × ℕ))
    (coded× (coded_list (coded_option code)) (coded× (coded_list coded_ℕ) coded_ℕ))
    (λ p. (p.values, (p.generations, p.spare)))
    (λ t. record { values = t.0; generations = t.1.0; spare = t.1.1 })
    (λ _. refl)

module _ {T : Type 0} where
  -- the present generation of a number, which is 0 where nothing was ever taken out
  abbrev pub generation_at : PoolRecord T → ℕ → ℕ
  generation_at p number = get_or p.generations number 0

  -- the slot of a number in its present generation
  abbrev pub slot_at : PoolRecord T → ℕ → Slot
  slot_at p number = record { number = number; generation = generation_at p number }

  -- the finite map from slots to values: a slot whose generation is not the present one has none
  abbrev pub value_at : PoolRecord T → Slot → Option T
  value_at p slot = cond (nat_eq (generation_at p slot.number) slot.generation) (get_or p.values slot.number None) None

  -- no value stands anywhere, and each number is in generation 0
  pub record IsEmptyPool (p : PoolRecord T) : Type 0 where
    pub values : (slot : Slot) → value_at p slot ≡ None
    pub generations : (number : ℕ) → generation_at p number ≡ 0

  -- each slot has the value that it had, and each number the generation
  pub record SameSlots (old new : PoolRecord T) : Type 0 where
    pub values : (slot : Slot) → value_at new slot ≡ value_at old slot
    pub generations : (number : ℕ) → generation_at new number ≡ generation_at old number

  -- the pool after a write to the value under a number
  abbrev pub with_value : PoolRecord T → ℕ → T → PoolRecord T
  with_value p number value = record p { values = set p.values number (Some value) }
