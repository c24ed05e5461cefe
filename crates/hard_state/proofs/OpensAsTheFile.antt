-- What is read of a checkpoint that is opened, and what a crash leaves meanwhile.
use Rattle.std.proofs.Common.{◌⊎◌, ◌≡◌, ⊎_elim, inl, inr, ℕ, ◌+◌, ◌-◌, ◌<◌, ◌≤◌, true, false, cond, nat_lt, List, [], ◌∷◌, length, take, drop, Option, None, Some, Result, Ok, Err, OnOk, IfOk, IfSome, refl, sym, ◌∙◌, ap, subst, arith, length-drop}
use Rattle.std.proofs.lemmas.List.{take_all, drop_all, drop-drop, drop-take}
use Rattle.std.proofs.lemmas.Bool.Decides.{nat_tests}
use Rattle.fuxi_io.specs.Disks.{Moment, Told, synced_moment, after_write, after_sync, then_told, Writes, Syncs, WhereTold, LeavesAlways}
use Rattle.fuxi_terms.specs.Limits.{most_records}
use Rattle.spec_roles.specs.HardState.{HardState, empty_hard}
use Rattle.hard_state.specs.RecordBodies.{record_in}
use Rattle.hard_state.specs.declared.records.Record.{Record}
use Rattle.hard_state.specs.Gates.{WritesThrough}
use Rattle.hard_state.specs.Checkpoints.{Opened, Closed, Damaged, Whole, found_at, read_on}
use Rattle.hard_state.specs.FilePieces.{Piece, IsPieceOf, Reaches, end_of}
use Rattle.hard_state.specs.HardFiles.{record_taken, taken, reads_as, value_of, records_of, Kept, opened_as, Opens, OpensAs, IsDamagedAt, Begins, Settles, KeepsDamaged}
use Rattle.hard_state.proofs.HardFilesLemmas.{whole_keeps}
use Rattle.hard_state.proofs.Images.{synced_image, length-overwritten}
use Rattle.hard_state.proofs.ReadsAlike.{reads_closed, reads_damaged, reads_whole, found_piece}
use Rattle.hard_state.proofs.Runs.{Then, then_where, map_where, knowing_first, knowing_second, IsLong, leaves_first, leaves_write, leaves_sync}
use Rattle.hard_state.proofs.StandsWhileAppended.{closed_reads}

-- a record is found in a piece of the file
record_bounded : (h : HardState) (o : Option Record) (next : HardState) (P : Type 0) → record_taken h o ≡ Some next → ((r : Record) → o ≡ Some r → P) → P
record_bounded h None next P is from = absurd (cc)
record_bounded h (Some r) next P is from = from r refl

bounded : ((body : List ℕ) (r : Record) → record_in body ≡ Some r → length body ≤ 563) → (value : HardState) (body : List ℕ) (next : HardState) → taken value body ≡ Some next → length body ≤ 563
unfolding taken
bounded short value body next is = record_bounded value (record_in body) next (length body ≤ 563) is (short body)

piece_front : (p : Piece) (file : List ℕ) (at : ℕ) → IsPieceOf p file → p.begin ≤ at → at ≤ end_of p → drop (at - p.begin) p.bytes ≡ take (end_of p - at) (drop at file)
piece_front p file at is from to =
    let k = at - p.begin in
    let n = end_of p - at in
    ap (λ l. drop k l) (is ∙ ap (λ m. take m (drop p.begin file)) (let e : length p.bytes ≡ k + n = omega (arith, from, to) in e))
    ∙ drop-take k n (drop p.begin file)
    ∙ ap (λ l. take n l) (drop-drop k p.begin file ∙ ap (λ m. drop m file) (let e : p.begin + k ≡ at = omega (arith, from) in e))

pub found_in_file : ((body : List ℕ) (r : Record) → record_in body ≡ Some r → length body ≤ 563) → (value : HardState) (p : Piece) (file seen : List ℕ) (at len : ℕ)
    → IsPieceOf p file → Reaches p at len → len ≡ length file → seen ≡ drop (at - p.begin) p.bytes → found_at taken value seen ≡ found_at taken value (drop at file)
found_in_file short value p file seen at len is reaches long sees =
    let front : seen ≡ take (end_of p - at) (drop at file) = sees ∙ piece_front p file at is reaches.from reaches.to in
    ap (found_at taken value) front
    ∙ ⊎_elim
    (λ many. found_piece taken (bounded short) value (drop at file) (end_of p - at) many (omega (arith, reaches.inside, reaches.to, long, length-drop at file)))
    (λ ends. ap (found_at taken value) (take_all (end_of p - at) (drop at file) (omega (arith, ends, long, length-drop at file))))
    reaches.enough

-- the walk over the records, after so many of them
unfoldable pub walk : ℕ → ℕ → HardState → List ℕ → Result (Opened HardState) ℕ
walk number at value bytes = read_on taken (most_records - number) at value bytes

pub walk_starts : (file : List ℕ) (value : HardState) → value ≡ empty_hard → walk 0 0 value file ≡ reads_as file
unfolding walk reads_as
walk_starts file value is = ap (λ v. read_on taken most_records 0 v file) is

module _ (number at : ℕ) (value : HardState) (file seen : List ℕ) (so_far : walk number at value (drop at file) ≡ reads_as file) (same : found_at taken value seen ≡ found_at taken value (drop at file)) where
  pub walk_on : (next : HardState) (size : ℕ) → number < most_records → found_at taken value seen ≡ Whole next size → walk (number + 1) (at + size) next (drop (at + size) file) ≡ reads_as file
  unfolding walk
  walk_on next size few found =
      ap (λ l. read_on taken (most_records - (number + 1)) (at + size) next l) (sym (drop-drop size at file))
      ∙ ap (λ n. read_on taken n (at + size) next (drop size (drop at file))) (let e : most_records - (number + 1) ≡ most_records - number - 1 = omega (arith, few) in e)
      ∙ reads_whole taken (most_records - number) at value next (drop at file) size (omega (arith, few)) (sym same ∙ found) ∙ so_far

  pub walk_damaged : found_at taken value seen ≡ Damaged → reads_as file ≡ Err at
  unfolding walk
  walk_damaged found = sym so_far ∙ reads_damaged taken (most_records - number) at value (drop at file) (sym same ∙ found)

  pub walk_closed : found_at taken value seen ≡ Closed → reads_as file ≡ Ok (record { value = value; gate = at })
  unfolding walk
  walk_closed found = sym so_far ∙ reads_closed taken (most_records - number) at value (drop at file) (sym same ∙ found)

some_told : (K : Told → Type 0) (a : Option Told) (t : Told) → IfSome a K → a ≡ Some t → K t
some_told K None t k is = absurd (cc)
some_told K (Some u) t k is = let same : u ≡ t = cc in subst K same k

pub empty_piece : (p : Piece) (file : List ℕ) → p ≡ record { begin = 0; bytes = [] } → IsPieceOf p file
empty_piece p file is = subst (λ (q : Piece). IsPieceOf q file) (sym is) refl

-- one record of the walk, where the disk tells its bytes
module _ (short : (body : List ℕ) (r : Record) → record_in body ≡ Some r → length body ≤ 563) (told : Option Told) (size : ℕ) (known : IfSome told (IsLong size)) (number at len : ℕ) (value : HardState) (p : Piece) (seen : List ℕ)
    (long : len ≡ size) (reaches : Reaches p at len) (sees : seen ≡ drop (at - p.begin) p.bytes) (holds : (t : Told) → told ≡ Some t → IsPieceOf p t.now.bytes)
    (walked : (t : Told) → told ≡ Some t → walk number at value (drop at t.now.bytes) ≡ reads_as t.now.bytes) where
  same_there : (t : Told) → told ≡ Some t → found_at taken value seen ≡ found_at taken value (drop at t.now.bytes)
  same_there t is = found_in_file short value p t.now.bytes seen at len (holds t is) reaches (long ∙ some_told (IsLong size) told t known is) sees

  pub ends_closed : (t : Told) → told ≡ Some t → found_at taken value seen ≡ Closed → reads_as t.now.bytes ≡ Ok (record { value = value; gate = at })
  ends_closed t is = walk_closed number at value t.now.bytes seen (walked t is) (same_there t is)

  pub ends_damaged : (t : Told) → told ≡ Some t → found_at taken value seen ≡ Damaged → reads_as t.now.bytes ≡ Err at
  ends_damaged t is = walk_damaged number at value t.now.bytes seen (walked t is) (same_there t is)

  pub goes_on : (next : HardState) (n : ℕ) → number < most_records → found_at taken value seen ≡ Whole next n → (t : Told) → told ≡ Some t → walk (number + 1) (at + n) next (drop (at + n) t.now.bytes) ≡ reads_as t.now.bytes
  goes_on next n few found t is = walk_on number at value t.now.bytes seen (walked t is) (same_there t is) next n few found

-- a file of at most one byte is empty, and a longer one stands for what is read of it
pub short_file : (file : List ℕ) → length file ≤ 1 → records_of file ≡ Ok empty_hard
unfolding records_of
short_file file short =
    let not_long : nat_lt 1 (length file) ≡ false = grind (arith, nat_tests) in
    ap (λ b. value_of (cond b (read_on taken most_records 0 empty_hard file) (Ok (record { value = empty_hard; gate = 0 })))) not_long

long_file : (file : List ℕ) → 1 < length file → records_of file ≡ value_of (reads_as file)
unfolding records_of reads_as
long_file file long =
    let is_long : nat_lt 1 (length file) ≡ true = grind (arith, nat_tests) in
    ap (λ b. value_of (cond b (read_on taken most_records 0 empty_hard file) (Ok (record { value = empty_hard; gate = 0 })))) is_long

closed_file : reads_as (0 ∷ []) ≡ Ok (record { value = empty_hard; gate = 0 })
unfolding reads_as
closed_file = closed_reads taken most_records 0 empty_hard (0 ∷ []) refl

-- the write with its sync that makes a short file one of a closed gate
module _ (old : Told) (short : length old.now.bytes ≤ 1) where
  abbrev P : List ℕ → Type 0
  P file = records_of file ≡ Ok empty_hard

  abbrev mid : Told
  mid = then_told old (after_write 0 (0 ∷ []) old.now)

  short_mid : length mid.now.bytes ≤ 1
  short_mid = omega (arith, short, length-overwritten old.now.bytes (0 ∷ []) 0 (omega arith))

  begin_writes : {E : Type 0} (new : Told) (result : Result (Unit {0}) E) → Writes 0 (0 ∷ []) result old new → LeavesAlways P old new
  begin_writes new result writes =
      leaves_write P old old new 0 (0 ∷ []) result (leaves_first P old (λ left image. short_file left (omega (arith, short, image.at_most)))) writes (omega arith)
      (λ left image. short_file left (omega (arith, image.at_most, short_mid)))

  begin_leaves : {E : Type 0} (new : Told) (result : Result (Unit {0}) E) → WritesThrough 0 (0 ∷ []) result old new → LeavesAlways P old new × OnOk result (new.now ≡ synced_moment (0 ∷ []))
  begin_leaves {E} new (Ok done) is = (
    leaves_sync {E = E} P old mid new (Ok done) (begin_writes {E = E} mid (Ok done) refl) is (short_file mid.now.bytes short_mid),
    ap (λ (t : Told). t.now) is ∙ ap (λ l. synced_moment (0 ∷ l)) (drop_all 1 old.now.bytes short),
  )
  begin_leaves new (Err fault) writes = (begin_writes new (Err fault) writes, tt)

pub begins_where : {E : Type 0} (a b : Option Told) (result : Result (Unit {0}) E) → WhereTold (WritesThrough 0 (0 ∷ []) result) a b → WhereTold (Begins result) a b
begins_where a b result w = map_where {S = Begins result} a b (λ old new h rest short. begin_leaves old short new result h) w

-- no call was made
pub begin_rests : (A E : Type 0) (a : Option Told) (fault : E) → WhereTold (Begins {A = A} (Err fault)) a a
begin_rests A E None fault = tt
begin_rests A E (Some t) fault = λ rest short. (leaves_first (λ file. records_of file ≡ Ok empty_hard) t (λ left image. short_file left (omega (arith, short, image.at_most))), tt)

-- what holds of each told that a disk may have
where_some : (K : Told → Type 0) (a : Option Told) → ((t : Told) → a ≡ Some t → K t) → IfSome a K
where_some K None f = tt
where_some K (Some t) f = f t refl

-- what is known of the first
where_first : (K : Told → Type 0) (a b : Option Told) → WhereTold (λ old new. K old) a b → IfSome a K
where_first K None b known = tt
where_first K (Some t) None known = absurd known
where_first K (Some t) (Some u) known = known

both_some : (K L : Told → Type 0) (a : Option Told) → IfSome a K → IfSome a L → IfSome a (λ t. K t × L t)
both_some K L None k l = tt
both_some K L (Some t) k l = (k, l)

-- an opening whose sync, or whose asking for the length, failed
pub settling_fails : (E : Type 0) (d : Unit {0}) (a b : Option Told) → WhereTold (λ old new. (new ≡ old) ⊎ Syncs {E = E} (Ok d) old new) a b → WhereTold Opens a b
settling_fails E d a b s = map_where {S = Opens} a b
    (λ old new h value stands. ⊎_elim (λ same. inl same) (λ is.
    inr (subst (LeavesAlways (λ file. records_of file ≡ Ok value) (then_told old (after_sync old.now))) (sym is)
    (leaves_first (λ file. records_of file ≡ Ok value) (then_told old (after_sync old.now)) (λ left image. ap records_of (synced_image old.now.bytes left image) ∙ stands)))) h)
    s

-- a disk that was synced at most has its damaged file as it was
pub settling_keeps : (a b : Option Told) → WhereTold Settles a b → KeepsDamaged a b
settling_keeps None b s = tt
settling_keeps (Some t) b s = λ offset damaged. s

-- an opening, once its sync was served
module _ (E : Type 0) (a b : Option Told) (d : Unit {0}) (synced : WhereTold (Syncs {E = E} (Ok d)) a b) where
  abbrev Sync : Told → Told → Type 0
  Sync old new = Syncs {E = E} (Ok d) old new

  -- while nothing is written
  pub opening_rests : (c : Option Told) → c ≡ b → WhereTold Opens a c
  opening_rests c same = subst (WhereTold Opens a) (sym same) (map_where {S = Opens} a b rests synced)
    where
      rests : (old new : Told) → Sync old new → Opens old new
      rests old new is value stands =
          inr (subst (LeavesAlways (λ file. records_of file ≡ Ok value) (then_told old (after_sync old.now))) (sym is)
          (leaves_first (λ file. records_of file ≡ Ok value) (then_told old (after_sync old.now)) (λ left image. ap records_of (synced_image old.now.bytes left image) ∙ stands)))

  pub keeping_rests : (c : Option Told) → c ≡ b → KeepsDamaged a c
  keeping_rests c same = subst (KeepsDamaged a) (sym same) (settling_keeps a b (map_where {S = Settles} a b (λ old new is. inr is) synced))

  -- a short file gets its closed gate
  module _ {A F : Type 0} (c e : Option Told) (size : ℕ) (result : Result A F) (same : c ≡ b) (short : size ≤ 1) (known : IfSome c (IsLong size)) (begins : WhereTold (Begins result) c e) where
    abbrev Begin : Told → Told → Type 0
    Begin old new = IsLong size old × Begins result old new

    both : WhereTold (Then Sync Begin) a e
    both = then_where Sync Begin a c e (subst (WhereTold Sync a) (sym same) synced) (knowing_first (IsLong size) (λ old new. Begins result old new) c e known begins)

    few : (old new : Told) → Then Sync Begin old new → length old.now.bytes ≤ 1
    few old new h = omega (arith, short, h.2.0, ap (λ (t : Told). length t.now.bytes) h.1)

    begun : (old new : Told) (h : Then Sync Begin old new) → LeavesAlways (λ file. records_of file ≡ Ok empty_hard) h.0 new × OnOk result (new.now ≡ synced_moment (0 ∷ []))
    begun old new h = h.2.1 (ap (λ (t : Told). t.now) h.1 ∙ ap (λ (t : Told). synced_moment t.now.bytes) (sym h.1)) (omega (arith, short, h.2.0))

    pub opening_begins : WhereTold Opens a e
    opening_begins = map_where {S = Opens} a e
        (λ old new h value stands.
        let empty : Ok empty_hard ≡ Ok value = sym (short_file old.now.bytes (few old new h)) ∙ stands in
        inr (subst (λ (t : Told). LeavesAlways (λ file. records_of file ≡ Ok value) t new) h.1 (subst (λ r. LeavesAlways (λ file. records_of file ≡ r) h.0 new) empty (begun old new h).0)))
        both

    -- which has no damaged record
    pub keeping_begins : KeepsDamaged a e
    keeping_begins = whole_keeps empty_hard a e (where_first (λ t. records_of t.now.bytes ≡ Ok empty_hard) a e (map_where {S = λ old new. records_of old.now.bytes ≡ Ok empty_hard} a e (λ old new h. short_file old.now.bytes (few old new h)) both))

    pub opens_empty : (k : Kept) → ((P : Type 0) → OnOk result P → P) → k.value ≡ empty_hard → k.gate ≡ 0 → WhereTold (OpensAs k) a e
    opens_empty k ok value gate = map_where {S = OpensAs k} a e
        (λ old new h.
        let at = ok (new.now ≡ synced_moment (0 ∷ [])) (begun old new h).1 in (
          short_file old.now.bytes (few old new h) ∙ ap Ok (sym value),
          record {
            synced = at ∙ ap (λ (m : Moment). synced_moment m.bytes) (sym at);
            reads = ap (λ (m : Moment). reads_as m.bytes) at ∙ closed_file ∙ (λ i. Ok (record { value = sym value i; gate = sym gate i }));
          },
        ))
        both

  pub opens_begun : (F : Type 0) (c e : Option Told) (size : ℕ) (result : Result Kept F) → c ≡ b → size ≤ 1 → IfSome c (IsLong size) → WhereTold (Begins result) c e
      → IfOk result (λ k. k ≡ record { value = empty_hard; gate = 0; broken = false }) → IfOk result (λ k. WhereTold (OpensAs k) a e)
  opens_begun F c e size (Ok k) same short known begins empty = opens_empty {A = Kept} {F = F} c e size (Ok k) same short known begins k (λ P p. p) (ap (λ (q : Kept). q.value) empty) (ap (λ (q : Kept). q.gate) empty)
  opens_begun F c e size (Err fault) same short known begins empty = tt

  -- a longer file is read
  module _ (c e : Option Told) (size : ℕ) (same : c ≡ b) (stays : e ≡ c) (known : IfSome c (IsLong size)) (long : 1 < size) where
    abbrev Read : (Told → Type 0) → Told → Told → Type 0
    Read K old new = Sync old new × (IsLong size new × K new)

    seen : (K : Told → Type 0) → ((t : Told) → c ≡ Some t → K t) → WhereTold (Read K) a e
    seen K is =
        subst (WhereTold (Read K) a) (sym stays) (knowing_second Sync (λ t. IsLong size t × K t) a c (both_some (IsLong size) K c known (where_some K c is)) (subst (WhereTold Sync a) (sym same) synced))

    stood : (K : Told → Type 0) (old new : Told) → Read K old new → records_of old.now.bytes ≡ value_of (reads_as new.now.bytes)
    stood K old new h =
        let bytes : old.now.bytes ≡ new.now.bytes = sym (ap (λ (t : Told). t.now.bytes) h.0) in
        ap records_of bytes ∙ long_file new.now.bytes (omega (arith, long, h.1.0))

    pub opens_read : (k : Kept) → ((t : Told) → c ≡ Some t → reads_as t.now.bytes ≡ Ok (opened_as k)) → WhereTold (OpensAs k) a e
    opens_read k is = map_where {S = OpensAs k} a e
        (λ old new h. (
          stood (λ t. reads_as t.now.bytes ≡ Ok (opened_as k)) old new h ∙ ap value_of h.1.1,
          record {
            synced = ap (λ (t : Told). t.now) h.0 ∙ ap (λ (t : Told). synced_moment t.now.bytes) (sym h.0);
            reads = h.1.1;
          },
        ))
        (seen (λ t. reads_as t.now.bytes ≡ Ok (opened_as k)) is)

    pub opens_damaged : (offset : ℕ) → ((t : Told) → c ≡ Some t → reads_as t.now.bytes ≡ Err offset) → WhereTold (IsDamagedAt offset) a e
    opens_damaged offset is = map_where {S = IsDamagedAt offset} a e
        (λ old new h. stood (λ t. reads_as t.now.bytes ≡ Err offset) old new h ∙ ap value_of h.1.1) (seen (λ t. reads_as t.now.bytes ≡ Err offset) is)
