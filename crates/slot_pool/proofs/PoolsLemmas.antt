-- What is read of a pool after a change of its layout.
use Rattle.std.proofs.Common.{◌≡◌, ◌≢◌, ◌⊎◌, ℕ, zero, suc, ◌<◌, Bool, true, false, cond, nat_eq, List, [], ◌∷◌, ◌++◌, length, get_or, set, Option, Some, None, IsSome, refl, sym, ap, subst, ◌∙◌, inl, inr, arith}
use Rattle.std.proofs.lemmas.Bool.{cases_eq, eq-eqb}
use Rattle.std.proofs.lemmas.Bool.Decides.{eqb_tells}
use Rattle.std.proofs.lemmas.List.{get_or-set_same, get_or-set_other}
use Rattle.slot_pool.specs.declared.pool.Slot.{Slot}

pub same_slot : (one other : Slot) → one.number ≡ other.number → one.generation ≡ other.generation → one ≡ other
same_slot one other n g =
    let numbered : ℕ → Slot = λ k. record { number = k; generation = one.generation } in
    let of_generation : ℕ → Slot = λ k. record { number = other.number; generation = k } in
    ap numbered n ∙ ap of_generation g

-- an item that is appended is read at its place alone, and the default at none
pub appended_other : {A : Type 0} (xs : List A) (n m : ℕ) (x d : A) → n ≡ length xs → m ≢ n → get_or (xs ++ x ∷ []) m d ≡ get_or xs m d
appended_other [] n zero x d e other = absurd (other (sym e))
appended_other [] n (suc m) x d e other = refl
appended_other (y ∷ ys) n zero x d e other = refl
appended_other (y ∷ ys) n (suc m) x d e other = appended_other ys (length ys) m x d refl (λ f. other (omega arith))

pub appended_default : {A : Type 0} (xs : List A) (d : A) (m : ℕ) → get_or (xs ++ d ∷ []) m d ≡ get_or xs m d
appended_default [] d zero = refl
appended_default [] d (suc m) = refl
appended_default (x ∷ xs) d zero = refl
appended_default (x ∷ xs) d (suc m) = appended_default xs d m

module _ {T : Type 0} where
  -- what is read of two lists
  abbrev pub read : List (Option T) → List ℕ → Slot → Option T
  read values generations slot = cond (nat_eq (get_or generations slot.number 0) slot.generation) (get_or values slot.number None) None

  -- a slot of its number's present generation reads what stands there, one of another reads nothing
  pub read_present : (values : List (Option T)) (generations : List ℕ) (slot : Slot) → get_or generations slot.number 0 ≡ slot.generation → read values generations slot ≡ get_or values slot.number None
  read_present values generations slot present = ap (λ b. cond b (get_or values slot.number None) None) (eq-eqb _ _ present)

  pub read_past : (values : List (Option T)) (generations : List ℕ) (slot : Slot) → get_or generations slot.number 0 ≢ slot.generation → read values generations slot ≡ None
  read_past values generations slot past = elim (eqb_tells (get_or generations slot.number 0) slot.generation) as (λ _. read values generations slot ≡ None) [
    | inl t ↦ absurd (past t.1)
    | inr f ↦ ap (λ b. cond b (get_or values slot.number None) None) f.0
  ]

  -- the value that stands under a live slot, and that the slot is of the present generation
  pub record Reads (values : List (Option T)) (generations : List ℕ) (slot : Slot) : Type 0 where
    pub value : T
    pub stands : get_or values slot.number None ≡ Some value
    pub present : get_or generations slot.number 0 ≡ slot.generation

  pub live_reads : (values : List (Option T)) (generations : List ℕ) (slot : Slot) → IsSome (read values generations slot) → Reads values generations slot
  live_reads values generations slot live = elim (eqb_tells (get_or generations slot.number 0) slot.generation) as (λ _. Reads values generations slot) [
    | inl t ↦ at_value (get_or values slot.number None) refl (subst (λ (b : Bool). IsSome (cond b (get_or values slot.number None) None)) t.0 live) t.1
    | inr f ↦ absurd (none_live (read values generations slot) live (read_past values generations slot f.1))
  ]
    where
      at_value : (o : Option T) → get_or values slot.number None ≡ o → IsSome o → get_or generations slot.number 0 ≡ slot.generation → Reads values generations slot
      at_value None e some present = absurd (cc)
      at_value (Some v) e some present = record { value = v; stands = e; present = present }

      none_live : (o : Option T) → IsSome o → o ≡ None → ⊥
      none_live o live none = cc

  -- where nothing stands, nothing is read
  pub read_nothing : (values : List (Option T)) (generations : List ℕ) (slot : Slot) → get_or values slot.number None ≡ None → read values generations slot ≡ None
  read_nothing values generations slot none = subst (λ (o : Option T). cond (nat_eq (get_or generations slot.number 0) slot.generation) o None ≡ None) (sym none) (either (nat_eq (get_or generations slot.number 0) slot.generation))
    where
      either : (b : Bool) → cond {A = Option T} b None None ≡ None
      either true = refl
      either false = refl

  -- The lists differ at one number alone, and the slot is another one than that of this number in its present generation. Then it reads as before, where at this number
  -- either nothing is left or the generation is as before.
  pub record Differs (values : List (Option T)) (generations : List ℕ) (after : List (Option T)) (next : List ℕ) (n : ℕ) : Type 0 where
    pub values_same : (m : ℕ) → m ≢ n → get_or after m None ≡ get_or values m None
    pub generations_same : (m : ℕ) → m ≢ n → get_or next m 0 ≡ get_or generations m 0
    pub here : (get_or after n None ≡ None) ⊎ (get_or next n 0 ≡ get_or generations n 0)

  pub reads_as_before : (values : List (Option T)) (generations : List ℕ) (after : List (Option T)) (next : List ℕ) (n g : ℕ) → Differs values generations after next n → get_or generations n 0 ≡ g → (slot : Slot) → slot ≢ record { number = n; generation = g } → read after next slot ≡ read values generations slot
  reads_as_before values generations after next n g d present slot other = elim (cases_eq slot.number n) as (λ _. read after next slot ≡ read values generations slot) [
    | inl e ↦
        let past : get_or generations slot.number 0 ≢ slot.generation = λ f. other (same_slot slot (record { number = n; generation = g }) e (sym f ∙ ap (λ (k : ℕ). get_or generations k 0) e ∙ present)) in
        elim d.here as (λ _. read after next slot ≡ read values generations slot) [
          | inl none ↦ read_nothing after next slot (ap (λ (k : ℕ). get_or after k None) e ∙ none) ∙ sym (read_past values generations slot past)
          | inr same ↦ read_past after next slot (λ f. past (ap (λ (k : ℕ). get_or generations k 0) e ∙ sym same ∙ ap (λ (k : ℕ). get_or next k 0) (sym e) ∙ f)) ∙ sym (read_past values generations slot past)
        ]
    | inr f ↦ reads_same (d.values_same slot.number f) (d.generations_same slot.number f)
  ]
    where
      reads_same : get_or after slot.number None ≡ get_or values slot.number None → get_or next slot.number 0 ≡ get_or generations slot.number 0 → read after next slot ≡ read values generations slot
      reads_same v k = rw (v, k) refl

  -- a write under one number; a value under a new number; a value taken out, with the next generation
  pub differs_set : (values : List (Option T)) (generations : List ℕ) (n : ℕ) (x : Option T) → Differs values generations (set values n x) generations n
  differs_set values generations n x = record { values_same = λ m d. get_or-set_other values n m x None d; generations_same = λ m d. refl; here = inr refl }

  pub differs_taken : (values : List (Option T)) (generations : List ℕ) (n g : ℕ) → n < length values → Differs values generations (set values n None) (set generations n g) n
  differs_taken values generations n g inside = record {
    values_same = λ m d. get_or-set_other values n m None None d;
    generations_same = λ m d. get_or-set_other generations n m g 0 d;
    here = inl (get_or-set_same values n None None inside);
  }

  pub differs_appended : (values : List (Option T)) (generations : List ℕ) (n : ℕ) (x : Option T) → n ≡ length values → length generations ≡ length values → Differs values generations (values ++ x ∷ []) (generations ++ 0 ∷ []) n
  differs_appended values generations n x e numbered = record {
    values_same = λ m d. appended_other values n m x None e d;
    generations_same = λ m d. appended_default generations 0 m;
    here = inr (appended_default generations 0 n);
  }
