-- Reading does not look at what stands behind: a file that is changed from its closed gate on reads alike up to there, and a record is read from
-- a piece of the file as from the whole.
use Rattle.std.proofs.Common.{◌≡◌, ◌⊎◌, inl, inr, ℕ, zero, suc, ◌+◌, ◌-◌, ◌<◌, ◌≤◌, Bool, true, false, cond, nat_lt, nat_eq, List, [], ◌∷◌, ◌++◌, length, take, drop, slice_index, Option, None, Some, Result, Ok, Err, refl, sym, ◌∙◌, ap, subst, arith, append_assoc, length-append, length-take, length-drop, append-nil}
use Rattle.std.proofs.Math.Seq.{take-add}
use Rattle.std.proofs.lemmas.List.{take_at, drop_at, drop-drop, drop-take, take-take}
use Rattle.std.proofs.lemmas.Bool.{cases_lt}
use Rattle.std.proofs.lemmas.Bool.Decides.{nat_tests}
use Rattle.std.specs.Int.{from_be_bytes, w32}
use Rattle.hard_state.specs.Checkpoints.{is_open, body_size, record_size, body_at, Found, Closed, Damaged, Whole, found_body, Opened, read_from, found_record, found_at, read_on}

pub cond_cases : {A : Type 0} (b : Bool) (x y z : A) → cond b x y ≡ z → ((b ≡ true) × (x ≡ z)) ⊎ ((b ≡ false) × (y ≡ z))
cond_cases true x y z is = inl (refl, is)
cond_cases false x y z is = inr (refl, is)

-- a front of a list, with another end
parts : (k size : ℕ) (bytes end : List ℕ) → k ≤ size → take size bytes ++ end ≡ take k bytes ++ (take (size - k) (drop k bytes) ++ end)
parts k size bytes end within =
    ap (λ n. take n bytes ++ end) (omega (arith, within)) ∙ ap (λ l. l ++ end) (take-add k (size - k) bytes) ∙ append_assoc (take k bytes) (take (size - k) (drop k bytes)) end

front_same : (k size : ℕ) (bytes end : List ℕ) → k ≤ size → size ≤ length bytes → take k (take size bytes ++ end) ≡ take k bytes
front_same k size bytes end within fits =
    ap (λ l. take k l) (parts k size bytes end within) ∙ take_at (take k bytes) (take (size - k) (drop k bytes) ++ end) k (omega (arith, within, fits, length-take k bytes))

rest_same : (k size : ℕ) (bytes end : List ℕ) → k ≤ size → size ≤ length bytes → drop k (take size bytes ++ end) ≡ take (size - k) (drop k bytes) ++ end
rest_same k size bytes end within fits =
    ap (λ l. drop k l) (parts k size bytes end within) ∙ drop_at (take k bytes) (take (size - k) (drop k bytes) ++ end) k (omega (arith, within, fits, length-take k bytes))

first_of : (l : List ℕ) → slice_index l 0 ≡ slice_index (take 1 l) 0
first_of [] = refl
first_of (x ∷ l) = refl

-- the gate and the length are read from the first five bytes
open_same : (size : ℕ) (bytes end : List ℕ) → 1 ≤ size → size ≤ length bytes → is_open (take size bytes ++ end) ≡ is_open bytes
open_same size bytes end some fits = ap (λ b. nat_eq b 1) (first_of (take size bytes ++ end) ∙ ap (λ l. slice_index l 0) (front_same 1 size bytes end some fits) ∙ sym (first_of bytes))

size_same : (size : ℕ) (bytes end : List ℕ) → 5 ≤ size → size ≤ length bytes → body_size (take size bytes ++ end) ≡ body_size bytes
size_same size bytes end some fits =
    ap (from_be_bytes w32)
    (ap (λ l. take 4 l) (rest_same 1 size bytes end (omega (arith, some)) fits) ∙ front_same 4 (size - 1) (drop 1 bytes) end (omega (arith, some)) (omega (arith, fits, length-drop 1 bytes)))

module _ {S : Type 0} (taken : S → List ℕ → Option S) where
  -- what is known of a whole record
  pub record IsWhole (value : S) (bytes : List ℕ) (next : S) (size : ℕ) : Type 0 where
    pub opened : is_open bytes ≡ true
    pub some : 5 ≤ size
    pub fits : size < length bytes
    pub counts : size ≡ record_size bytes
    pub takes : taken value (take (size - 5) (drop 5 bytes)) ≡ Some next

  body_is : (t : Option S) (n size : ℕ) (next : S) → found_body t n ≡ Whole next size → (t ≡ Some next) × (n ≡ size)
  body_is None n size next is = absurd (cc)
  body_is (Some v) n size next is = (cc, cc)

  pub whole_is : (value : S) (bytes : List ℕ) (next : S) (size : ℕ) → found_at taken value bytes ≡ Whole next size → IsWhole value bytes next size
  whole_is value bytes next size is = elim (cond_cases (is_open bytes) _ _ _ is) [
    | inl a ↦ elim (cond_cases (nat_lt (record_size bytes) (length bytes)) _ _ _ a.1) [
      | inl b ↦
          let p = body_is _ (record_size bytes) size next b.1 in
          let fits : record_size bytes < length bytes = grind (arith, nat_tests) in
          record {
            opened = a.0;
            some = omega (arith, p.1);
            fits = omega (arith, p.1, fits);
            counts = sym p.1;
            takes = ap (λ n. taken value (take n (drop 5 bytes))) (omega (arith, p.1)) ∙ p.0;
          }
      | inr b ↦ absurd (cc)
    ]
    | inr a ↦ absurd (cc)
  ]

  pub makes_whole : (value : S) (bytes : List ℕ) (next : S) (size : ℕ) → IsWhole value bytes next size → found_at taken value bytes ≡ Whole next size
  makes_whole value bytes next size w =
      let fits : record_size bytes < length bytes = omega (arith, w.counts, w.fits) in
      let enough : nat_lt (record_size bytes) (length bytes) ≡ true = grind (arith, nat_tests) in
      ap (λ b. cond b (found_record taken value bytes) Closed) w.opened
      ∙ ap (λ b. cond b (found_body (taken value (body_at bytes)) (record_size bytes)) Damaged) enough
      ∙ ap (λ t. found_body t (record_size bytes)) (ap (λ m. taken value (take m (drop 5 bytes))) (omega (arith, w.counts)) ∙ w.takes)
      ∙ ap (Whole next) (sym w.counts)

  closed_is : (value : S) (bytes : List ℕ) → found_at taken value bytes ≡ Closed → is_open bytes ≡ false
  closed_is value bytes is = elim (cond_cases (is_open bytes) _ _ _ is) [
    | inl a ↦ elim (cond_cases (nat_lt (record_size bytes) (length bytes)) _ _ _ a.1) [ inl b ↦ absurd (not_closed _ _ b.1) | inr b ↦ absurd (cc) ]
    | inr a ↦ a.0
  ]
    where
      not_closed : (t : Option S) (n : ℕ) → found_body t n ≡ Closed → ⊥
      not_closed None n e = cc
      not_closed (Some v) n e = cc

  damaged_is : (value : S) (bytes : List ℕ) → found_at taken value bytes ≡ Damaged → is_open bytes ≡ true
  damaged_is value bytes is = elim (cond_cases (is_open bytes) _ _ _ is) [ inl a ↦ a.0 | inr a ↦ absurd (cc) ]

  -- one record of a walk, whichever number of records may still come
  pub reads_closed : (left gate : ℕ) (value : S) (bytes : List ℕ) → found_at taken value bytes ≡ Closed → read_on taken left gate value bytes ≡ Ok (record { value = value; gate = gate })
  reads_closed zero gate value bytes is = ap (λ b. cond b (Err gate) (Ok (record { value = value; gate = gate }))) (closed_is value bytes is)
  reads_closed (suc left) gate value bytes is = ap (read_from (read_on taken left) gate value bytes) is

  pub reads_damaged : (left gate : ℕ) (value : S) (bytes : List ℕ) → found_at taken value bytes ≡ Damaged → read_on taken left gate value bytes ≡ Err gate
  reads_damaged zero gate value bytes is = ap (λ b. cond b (Err gate) (Ok (record { value = value; gate = gate }))) (damaged_is value bytes is)
  reads_damaged (suc left) gate value bytes is = ap (read_from (read_on taken left) gate value bytes) is

  pub reads_whole : (left gate : ℕ) (value next : S) (bytes : List ℕ) (size : ℕ) → 0 < left → found_at taken value bytes ≡ Whole next size
      → read_on taken (left - 1) (gate + size) next (drop size bytes) ≡ read_on taken left gate value bytes
  reads_whole zero gate value next bytes size some is = absurd (omega (arith, some))
  reads_whole (suc left) gate value next bytes size some is = ap (λ n. read_on taken n (gate + size) next (drop size bytes)) (omega arith) ∙ ap (read_from (read_on taken left) gate value bytes) (sym is)

  -- a record is found in a piece of the file as in the file, where the piece has 569 bytes
  module _ (bounded : (value : S) (body : List ℕ) (next : S) → taken value body ≡ Some next → length body ≤ 563) (value : S) (rest : List ℕ) (n : ℕ) (long : 569 ≤ n) (within : n ≤ length rest) where
    abbrev piece : List ℕ
    piece = take n rest

    length-piece : length piece ≡ n
    length-piece = omega (arith, length-take n rest, within)

    open_piece : is_open piece ≡ is_open rest
    open_piece = ap is_open (sym (append-nil piece)) ∙ open_same n rest [] (omega (arith, long)) within

    size_piece : record_size piece ≡ record_size rest
    size_piece = ap record_size (sym (append-nil piece)) ∙ ap (λ m. 5 + m) (size_same n rest [] (omega (arith, long)) within)

    behind_five : drop 5 piece ≡ take (n - 5) (drop 5 rest)
    behind_five = ap (λ m. drop 5 (take m rest)) (let e : n ≡ 5 + (n - 5) = omega (arith, long) in e) ∙ drop-take 5 (n - 5) rest

    body_piece : record_size rest < n → body_at piece ≡ body_at rest
    body_piece fits =
        ap (λ m. take m (drop 5 piece)) (let e : body_size piece ≡ body_size rest = omega (arith, size_piece) in e)
        ∙ ap (λ l. take (body_size rest) l) behind_five ∙ take-take (body_size rest) (n - 5) (drop 5 rest) (omega (arith, fits))

    too_long : (t : Option S) (m : ℕ) → ((next : S) → t ≡ Some next → ⊥) → Damaged ≡ found_body t m
    too_long None m not = refl
    too_long (Some next) m not = absurd (not next refl)

    damaged_rest : (b : Bool) → n ≤ record_size rest → nat_lt (record_size rest) (length rest) ≡ b → Damaged ≡ cond b (found_body (taken value (body_at rest)) (record_size rest)) Damaged
    damaged_rest false large test = refl
    damaged_rest true large test = too_long (taken value (body_at rest)) (record_size rest) (λ next is.
        let fits : record_size rest < length rest = grind (arith, nat_tests) in
        omega (arith, bounded value (body_at rest) next is, large, long, fits, length-take (body_size rest) (drop 5 rest), length-drop 5 rest))

    record_piece : found_record taken value piece ≡ found_record taken value rest
    record_piece = elim (cases_lt (record_size rest) n) [
      | inl fits ↦
          let inside : record_size piece < length piece = omega (arith, fits, size_piece, length-piece) in
          let inside_rest : record_size rest < length rest = omega (arith, fits, within) in
          let test : nat_lt (record_size piece) (length piece) ≡ true = grind (arith, nat_tests) in
          let test_rest : nat_lt (record_size rest) (length rest) ≡ true = grind (arith, nat_tests) in
          ap (λ b. cond b (found_body (taken value (body_at piece)) (record_size piece)) Damaged) test
          ∙ (λ i. found_body (taken value (body_piece fits i)) (size_piece i))
          ∙ sym (ap (λ b. cond b (found_body (taken value (body_at rest)) (record_size rest)) Damaged) test_rest)
      | inr large ↦
          let outside : length piece ≤ record_size piece = omega (arith, large, size_piece, length-piece) in
          let test : nat_lt (record_size piece) (length piece) ≡ false = grind (arith, nat_tests) in
          ap (λ b. cond b (found_body (taken value (body_at piece)) (record_size piece)) Damaged) test ∙ damaged_rest (nat_lt (record_size rest) (length rest)) large refl
    ]

    pub found_piece : found_at taken value piece ≡ found_at taken value rest
    found_piece = ap (λ b. cond b (found_record taken value piece) Closed) open_piece ∙ ap (λ r. cond (is_open rest) r Closed) record_piece

  -- the same record before another end
  pub whole_again : (value : S) (bytes : List ℕ) (next : S) (size : ℕ) (end : List ℕ) → IsWhole value bytes next size → 0 < length end → found_at taken value (take size bytes ++ end) ≡ Whole next size
  whole_again value bytes next size end w some =
      let all = take size bytes ++ end in
      makes_whole value all next size (record {
        opened = open_same size bytes end (omega (arith, w.some)) (omega (arith, w.fits)) ∙ w.opened;
        some = w.some;
        fits = omega (arith, w.fits, some, length-append (take size bytes) end, length-take size bytes);
        counts = w.counts ∙ ap (λ m. 5 + m) (sym (size_same size bytes end w.some (omega (arith, w.fits))));
        takes =
            ap (λ l. taken value (take (size - 5) l)) (rest_same 5 size bytes end w.some (omega (arith, w.fits)))
            ∙ ap (taken value) (take_at (take (size - 5) (drop 5 bytes)) end (size - 5) (omega (arith, w.fits, w.some, length-take (size - 5) (drop 5 bytes), length-drop 5 bytes))) ∙ w.takes;
      })

  -- What is known of a file that was read up to its closed gate: with any other end from that gate on, reading comes there too and goes on.
  pub record Continues (records : S → ℕ) (left gate : ℕ) (value : S) (file : List ℕ) (o : Opened S) : Type 0 where
    pub size : ℕ
    pub left_then : ℕ
    pub at : o.gate ≡ gate + size
    pub within : size ≤ length file
    pub shut : is_open (drop size file) ≡ false
    pub again : (end : List ℕ) → 0 < length end → read_on taken left gate value (take size file ++ end) ≡ read_on taken left_then o.gate o.value end
    pub counts : left_then + records o.value ≡ left + records value

  abbrev Answer : Type 0
  Answer = Result (Opened S) ℕ

  pub ok_is : (a b : Opened S) → ◌≡◌ {A = Answer} (Ok a) (Ok b) → a ≡ b
  ok_is a b is = cc

  module _ (records : S → ℕ) (one_more : (value : S) (body : List ℕ) (next : S) → taken value body ≡ Some next → records next ≡ records value + 1) where
    at_gate : (left gate : ℕ) (value : S) (file : List ℕ) (o : Opened S) → is_open file ≡ false → record { value = value; gate = gate } ≡ o → Continues records left gate value file o
    at_gate left gate value file o shut is = subst (Continues records left gate value file) is (record {
      size = 0;
      left_then = left;
      at = omega arith;
      within = omega arith;
      shut = shut;
      again = λ end some. refl;
      counts = refl;
    })

    abbrev AllContinue : ℕ → Type 0
    AllContinue left = (gate : ℕ) (value : S) (file : List ℕ) (o : Opened S) → read_on taken left gate value file ≡ Ok o → Continues records left gate value file o

    behind_one : (left : ℕ) → AllContinue left → (gate : ℕ) (value : S) (file : List ℕ) (o : Opened S) (f : Found S) → found_at taken value file ≡ f
        → read_from (read_on taken left) gate value file f ≡ Ok o → Continues records (suc left) gate value file o
    behind_one left more gate value file o Closed found is = at_gate (suc left) gate value file o (closed_is value file found) (ok_is _ o is)
    behind_one left more gate value file o Damaged found is = absurd (cc)
    behind_one left more gate value file o (Whole next size) found is =
        let w = whole_is value file next size found in
        let c = more (gate + size) next (drop size file) o is in
        record {
          size = size + c.size;
          left_then = c.left_then;
          at = omega (arith, c.at);
          within = omega (arith, c.within, length-drop size file, w.fits);
          shut = ap is_open (sym (drop-drop c.size size file)) ∙ c.shut;
          again = λ end some.
              let tail = take c.size (drop size file) ++ end in
              let some_tail : 0 < length tail = omega (arith, some, length-append (take c.size (drop size file)) end) in
              let behind : drop size (take size file ++ tail) ≡ tail = drop_at (take size file) tail size (omega (arith, w.fits, length-take size file)) in
              ap (λ l. read_on taken (suc left) gate value l) (ap (λ l. l ++ end) (take-add size c.size file) ∙ append_assoc (take size file) (take c.size (drop size file)) end)
              ∙ ap (read_from (read_on taken left) gate value (take size file ++ tail)) (whole_again value file next size tail w some_tail)
              ∙ ap (read_on taken left (gate + size) next) behind
              ∙ c.again end some;
          counts = omega (arith, c.counts, one_more value (take (size - 5) (drop 5 file)) next w.takes);
        }

    pub continues : (left : ℕ) → AllContinue left
    continues zero gate value file o is = elim (cond_cases (is_open file) _ _ _ is) [ inl a ↦ absurd (cc) | inr a ↦ at_gate zero gate value file o a.0 (ok_is _ o a.1) ]
    continues (suc left) gate value file o is = behind_one left (continues left) gate value file o (found_at taken value file) refl is
