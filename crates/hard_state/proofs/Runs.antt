-- One call of a disk after another, and the four calls of an appending.
use Rattle.std.proofs.Common.{◌≡◌, inl, inr, ℕ, ◌+◌, ◌<◌, ◌≤◌, List, [], ◌∷◌, length, Option, None, Some, Result, Ok, Err, OnOk, IfSome, refl, sym, ◌∙◌, ap, subst, arith}
use Rattle.std.specs.Bool.{⊤}
use Rattle.std.specs.List.{AllByRecursion}
use Rattle.fuxi_io.specs.Disks.{Moment, Told, overwritten, synced_moment, after_write, after_sync, then_told, Writes, Syncs, WhereTold, Leaves, LeavesAlways}
use Rattle.hard_state.specs.Gates.{IsAppending, appended, IsSynced, Appends, WritesThrough}
use Rattle.hard_state.proofs.Images.{synced_image, part_image, with_bytes, length-with_bytes, untouched, writing_bytes, bytes_written, writing_gate, all_written}

-- one relation of what is told, and then another
abbrev pub Then : (Told → Told → Type 0) → (Told → Told → Type 0) → Told → Told → Type 0
Then R S old new = (mid : Told) × R old mid × S mid new

pub then_where : (R S : Told → Told → Type 0) (a b c : Option Told) → WhereTold R a b → WhereTold S b c → WhereTold (Then R S) a c
then_where R S None b c r s = tt
then_where R S (Some a) None c r s = absurd r
then_where R S (Some a) (Some b) None r s = s
then_where R S (Some a) (Some b) (Some c) r s = (b, r, s)

pub map_where : {R S : Told → Told → Type 0} (a b : Option Told) → ((old new : Told) → R old new → S old new) → WhereTold R a b → WhereTold S a b
map_where None b f r = tt
map_where (Some a) None f r = r
map_where (Some a) (Some b) f r = f a b r

-- with what is known of the first, or of the second
pub knowing_first : (K : Told → Type 0) (R : Told → Told → Type 0) (a b : Option Told) → IfSome a K → WhereTold R a b → WhereTold (λ old new. K old × R old new) a b
knowing_first K R None b k r = tt
knowing_first K R (Some a) None k r = r
knowing_first K R (Some a) (Some b) k r = (k, r)

pub knowing_second : (R : Told → Told → Type 0) (K : Told → Type 0) (a b : Option Told) → IfSome b K → WhereTold R a b → WhereTold (λ old new. R old new × K new) a b
knowing_second R K None b k r = tt
knowing_second R K (Some a) None k r = r
knowing_second R K (Some a) (Some b) k r = (r, k)

-- so far no call was made; one moment more; one write more, and one sync more, whatever came of it
pub leaves_first : (P : List ℕ → Type 0) (old : Told) → Leaves P old.now → LeavesAlways P old old
leaves_first P old first = record { since = []; reached = refl; first = first; each = tt }

leaves_next : (P : List ℕ → Type 0) (old mid : Told) (m : Moment) → LeavesAlways P old mid → Leaves P m → LeavesAlways P old (then_told mid m)
leaves_next P old mid m so_far here = record { since = m ∷ so_far.since; reached = ap (λ l. m ∷ l) so_far.reached; first = so_far.first; each = (here, so_far.each) }

pub leaves_write : {E : Type 0} (P : List ℕ → Type 0) (old mid new : Told) (at : ℕ) (bytes : List ℕ) (result : Result (Unit {0}) E)
    → LeavesAlways P old mid → Writes at bytes result mid new → at ≤ length mid.now.bytes → Leaves P (after_write at bytes mid.now) → LeavesAlways P old new
leaves_write P old mid new at bytes (Ok done) so_far is within here = subst (LeavesAlways P old) (sym is) (leaves_next P old mid (after_write at bytes mid.now) so_far here)
leaves_write P old mid new at bytes (Err fault) so_far (inl same) within here = subst (LeavesAlways P old) (sym same) so_far
leaves_write P old mid new at bytes (Err fault) so_far (inr part) within here =
    subst (LeavesAlways P old) (sym part.2) (leaves_next P old mid (after_write at part.0 mid.now) so_far (λ left image. here left (part_image at part.0 bytes mid.now left within part.1 image)))

pub leaves_sync : {E : Type 0} (P : List ℕ → Type 0) (old mid new : Told) (result : Result (Unit {0}) E) → LeavesAlways P old mid → Syncs result mid new → P mid.now.bytes → LeavesAlways P old new
leaves_sync P old mid new (Ok done) so_far is here =
    subst (LeavesAlways P old) (sym is) (leaves_next P old mid (after_sync mid.now) so_far (λ left image. subst P (sym (synced_image mid.now.bytes left image)) here))
leaves_sync P old mid new (Err fault) so_far same here = subst (LeavesAlways P old) (sym same) so_far

-- what is left always has what follows from it
pub leaves_more : (P Q : List ℕ → Type 0) → ((file : List ℕ) → P file → Q file) → (old new : Told) → LeavesAlways P old new → LeavesAlways Q old new
leaves_more P Q f old new all = record { since = all.since; reached = all.reached; first = λ file image. f file (all.first file image); each = more all.since all.each }
  where
    more : (ms : List Moment) → AllByRecursion (Leaves P) ms → AllByRecursion (Leaves Q) ms
    more [] each = tt
    more (m ∷ ms) each = (λ file image. f file (each.0 file image), more ms each.1)

-- the four calls, with the moments after them
module _ (gate : ℕ) (bytes : List ℕ) (old : Told) (within : gate < length old.now.bytes) (rest : IsSynced old.now) where
  abbrev P : List ℕ → Type 0
  P left = IsAppending old.now.bytes gate bytes left

  abbrev file_2 : List ℕ
  file_2 = with_bytes old.now.bytes bytes gate within

  long_2 : gate < length file_2
  long_2 = omega (arith, within, length-with_bytes old.now.bytes bytes gate within)

  leaves_1 : {E : Type 0} (a : Told) (result : Result (Unit {0}) E) → Writes (gate + 1) bytes result old a → LeavesAlways P old a
  leaves_1 a result is =
      leaves_write P old old a (gate + 1) bytes result (leaves_first P old (subst (Leaves P) (sym rest) (untouched old.now.bytes bytes gate within))) is (omega (arith, within))
      (subst (λ m. Leaves P (after_write (gate + 1) bytes m)) (sym rest) (writing_bytes old.now.bytes bytes gate within))

  -- what stands after the calls that were served
  abbrev Is_1 : Told → Type 0
  Is_1 a = a ≡ then_told old (after_write (gate + 1) bytes old.now)

  abbrev Is_2 : Told → Told → Type 0
  Is_2 a b = Is_1 a × (b ≡ then_told a (after_sync a.now))

  abbrev Is_3 : Told → Told → Told → Type 0
  Is_3 a b c = Is_2 a b × (c ≡ then_told b (after_write gate (1 ∷ []) b.now))

  leaves_2 : {E : Type 0} (a b : Told) (result : Result (Unit {0}) E) → Is_1 a → Syncs result a b → LeavesAlways P old b
  leaves_2 a b result is syncs =
      leaves_sync P old a b result (leaves_1 {E = ⊤} a (Ok (record {})) is) syncs (subst (λ (t : Told). P t.now.bytes) (sym is) (bytes_written old.now.bytes bytes gate within))

  now_2 : (a b : Told) → Is_2 a b → b.now ≡ synced_moment file_2
  now_2 a b is = ap (λ (t : Told). t.now) is.1 ∙ ap (λ (t : Told). synced_moment t.now.bytes) is.0

  leaves_3 : {E : Type 0} (a b c : Told) (result : Result (Unit {0}) E) → Is_2 a b → Writes gate (1 ∷ []) result b c → LeavesAlways P old c
  leaves_3 a b c result is writes =
      leaves_write P old b c gate (1 ∷ []) result (leaves_2 {E = ⊤} a b (Ok (record {})) is.0 is.1) writes
      (subst (λ m. gate ≤ length m.bytes) (sym (now_2 a b is)) (omega (arith, long_2)))
      (subst (λ m. Leaves P (after_write gate (1 ∷ []) m)) (sym (now_2 a b is)) (writing_gate old.now.bytes bytes gate within))

  bytes_3 : (a b c : Told) → Is_3 a b c → c.now.bytes ≡ appended old.now.bytes gate bytes
  bytes_3 a b c is = ap (λ (t : Told). t.now.bytes) is.1 ∙ ap (λ (m : Moment). overwritten m.bytes gate (1 ∷ [])) (now_2 a b is.0)

  leaves_4 : {E : Type 0} (a b c d : Told) (result : Result (Unit {0}) E) → Is_3 a b c → Syncs result c d → LeavesAlways P old d
  leaves_4 a b c d result is last =
      leaves_sync P old c d result (leaves_3 {E = ⊤} a b c (Ok (record {})) is.0 is.1) last (subst P (sym (bytes_3 a b c is)) (all_written old.now.bytes bytes gate within))

  now_4 : {E : Type 0} (a b c d : Told) (result : Result (Unit {0}) E) → Is_3 a b c → Syncs result c d → OnOk result (d.now ≡ synced_moment (appended old.now.bytes gate bytes))
  now_4 a b c d (Ok done) is last = ap (λ (t : Told). t.now) last ∙ ap synced_moment (bytes_3 a b c is)
  now_4 a b c d (Err fault) is last = tt

-- a disk that tells its bytes is as long as these
abbrev pub IsLong : ℕ → Told → Type 0
IsLong size told = size ≡ length told.now.bytes

pub within_bytes : (gate size : ℕ) (t : Told) → gate < size → IsLong size t → gate < length t.now.bytes
within_bytes gate size t within is = omega (arith, is, within)

-- a write with a sync behind it, where the sync fails and where it is answered
pub sync_fails : {E : Type 0} (at : ℕ) (bytes : List ℕ) (a b c : Option Told) (fault : E) → WhereTold (Writes {E = E} at bytes (Ok (record {}))) a b → WhereTold (Syncs (Err fault)) b c → WhereTold (WritesThrough at bytes (Err fault)) a c
sync_fails {E} at bytes a b c fault w s =
    map_where {S = WritesThrough at bytes (Err fault)} a c (λ old new h. inr (bytes, omega arith, h.2 ∙ h.1)) (then_where (Writes {E = E} at bytes (Ok (record {}))) (Syncs (Err fault)) a b c w s)

pub sync_ends : {E : Type 0} (at : ℕ) (bytes : List ℕ) (a b c : Option Told) (result : Result (Unit {0}) E) → WhereTold (Writes {E = E} at bytes (Ok (record {}))) a b → WhereTold (Syncs result) b c → WhereTold (WritesThrough at bytes result) a c
sync_ends {E} at bytes a b c (Ok done) w s =
    map_where {S = WritesThrough {E = E} at bytes (Ok done)} a c (λ old new h. h.2 ∙ ap (λ (t : Told). then_told t (after_sync t.now)) h.1) (then_where (Writes {E = E} at bytes (Ok (record {}))) (Syncs {E = E} (Ok done)) a b c w s)
sync_ends {E} at bytes a b c (Err fault) w s = sync_fails at bytes a b c fault w s

-- the two ends of an appending, where the disk tells its moments
module _ {E : Type 0} (gate : ℕ) (bytes : List ℕ) (size : ℕ) (within : gate < size) where
  abbrev Through : ℕ → List ℕ → Result (Unit {0}) E → Told → Told → Type 0
  Through at new result a b = WritesThrough at new result a b

  abbrev Append : Result (Unit {0}) E → Told → Told → Type 0
  Append result a b = Appends gate bytes result a b

  abbrev done : Result (Unit {0}) E
  done = Ok (record {})

  pub append_fails : (a b : Option Told) (fault : E) → IfSome a (IsLong size) → WhereTold (Through (gate + 1) bytes (Err fault)) a b → WhereTold (Append (Err fault)) a b
  append_fails a b fault known w =
      map_where {S = Append (Err fault)} a b (λ old new h rest. (leaves_1 gate bytes old (within_bytes gate size old within h.0) rest new (Err fault) h.1, tt)) (knowing_first (IsLong size) _ a b known w)

  ends : (result : Result (Unit {0}) E) (old mid new : Told) → gate < length old.now.bytes → IsSynced old.now → Through (gate + 1) bytes done old mid → Through gate (1 ∷ []) result mid new
      → LeavesAlways (IsAppending old.now.bytes gate bytes) old new × OnOk result (new.now ≡ synced_moment (appended old.now.bytes gate bytes))
  ends (Ok d) old mid new inside rest first second =
      let a = then_told old (after_write (gate + 1) bytes old.now) in
      let c = then_told mid (after_write gate (1 ∷ []) mid.now) in (
        leaves_4 gate bytes old inside rest {E = E} a mid c new (Ok d) ((refl, first), refl) second,
        now_4 gate bytes old inside rest {E = E} a mid c new (Ok d) ((refl, first), refl) second,
      )
  ends (Err fault) old mid new inside rest first second =
      let a = then_told old (after_write (gate + 1) bytes old.now) in
      (leaves_3 gate bytes old inside rest a mid new (Err fault) (refl, first) second, tt)

  pub append_ends : (a b c : Option Told) (result : Result (Unit {0}) E) → IfSome a (IsLong size) → WhereTold (Through (gate + 1) bytes done) a b → WhereTold (Through gate (1 ∷ []) result) b c
      → WhereTold (Append result) a c
  append_ends a b c result known w x =
      map_where {S = Append result} a c (λ old new h rest. ends result old h.1.0 new (within_bytes gate size old within h.0) rest h.1.1 h.1.2)
      (knowing_first (IsLong size) _ a c known (then_where _ _ a b c w x))
