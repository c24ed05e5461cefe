-- Full pieces one behind another: the frames of all of them, in which one the frame of a place lies, and the first of them.
use Rattle.std.proofs.Common.{◌≡◌, ℕ, zero, suc, ◌+◌, ◌-◌, ◌<◌, ◌≤◌, List, [], ◌∷◌, ◌++◌, length, length-append, take, get_or, slice_get, refl, sym, ◌∙◌, ap, subst, arith}
use Rattle.std.proofs.Math.Seq.{take-append-add}
use Rattle.std.proofs.lemmas.List.{append-nil, append_assoc, take-append-le}
use Rattle.schedule_replay.specs.FrameEnds.{AreEnds, frames_in}
use Rattle.schedule_replay.specs.FullPieces.{ArePieces, first_at, frames_of}
use Rattle.schedule_replay.specs.declared.pieces.Piece.{Piece}
use Rattle.schedule_replay.proofs.FrameEndsLemmas.{frames_cut, pieces_length}

-- one full piece more
pub frames_more_piece : (ss : List Piece) (s : Piece) → frames_of (ss ++ s ∷ []) ≡ frames_of ss ++ frames_in s.bytes s.ends.items
frames_more_piece [] s = append-nil (frames_in s.bytes s.ends.items)
frames_more_piece (t ∷ ts) s = ap (λ l. frames_in t.bytes t.ends.items ++ l) (frames_more_piece ts s) ∙ sym (append_assoc (frames_in t.bytes t.ends.items) (frames_of ts) (frames_in s.bytes s.ends.items))

pub one_more_piece : (first : ℕ) (ss : List Piece) (s : Piece) → ArePieces first ss → s.first ≡ first + length (frames_of ss) → AreEnds 0 s.ends.items (length s.bytes) → ArePieces first (ss ++ s ∷ [])
one_more_piece first [] s each is ends = (omega (arith, is), ends, record {})
one_more_piece first (t ∷ ts) s each is ends =
    let size = pieces_length 0 t.bytes t.ends.items in
    let both = length-append (frames_in t.bytes t.ends.items) (frames_of ts) in
    (each.0, each.1, one_more_piece (first + length t.ends.items) ts s each.2 (omega (arith, is, size, both)) ends)

-- the frame of a place in one list, or in the one behind it
front_at : (xs ys : List (List ℕ)) (at : ℕ) → at < length xs → slice_get (xs ++ ys) at ≡ slice_get xs at
front_at [] ys at lt = absurd (omega (arith, lt))
front_at (x ∷ xs) ys zero lt = refl
front_at (x ∷ xs) ys (suc at) lt = front_at xs ys at (omega (arith, lt))

pub behind_at : (xs ys : List (List ℕ)) (at : ℕ) → length xs ≤ at → slice_get (xs ++ ys) at ≡ slice_get ys (at - length xs)
behind_at [] ys at le = ap (slice_get ys) (let e : at ≡ at - 0 = omega arith in e)
behind_at (x ∷ xs) ys zero le = absurd (omega (arith, le))
behind_at (x ∷ xs) ys (suc at) le = behind_at xs ys at (omega (arith, le)) ∙ ap (slice_get ys) (let e : at - length xs ≡ suc at - suc (length xs) = omega arith in e)

-- the number of the first frame never falls
firsts_up : (first : ℕ) (ss : List Piece) (i : ℕ) → ArePieces first ss → i < length ss → first ≤ first_at ss i
firsts_up first [] i each lt = absurd (omega (arith, lt))
firsts_up first (s ∷ ss) zero each lt = omega (arith, each.0)
firsts_up first (s ∷ ss) (suc i) each lt = omega (arith, firsts_up (first + length s.ends.items) ss i each.2 (omega (arith, lt)))

-- a piece has the frame of a place, at its own place in it
pub record IsHeld (first : ℕ) (ss : List Piece) (k : ℕ) (s : Piece) : Type 0 where
  pub from : s.first ≤ k
  pub there : k - s.first < length s.ends.items
  pub ends : AreEnds 0 s.ends.items (length s.bytes)
  pub is : slice_get (frames_of ss) (k - first) ≡ slice_get (frames_in s.bytes s.ends.items) (k - s.first)

-- it is the piece whose first frame comes last of those that do not come after it
pub held : (first : ℕ) (ss : List Piece) (i k : ℕ) (s : Piece) → ArePieces first ss → i < length ss → s ≡ get_or ss i s → first_at ss i ≤ k
    → (suc i < length ss → k < first_at ss (suc i)) → k - first < length (frames_of ss) → IsHeld first ss k s
held first [] i k s each lt e from next there = absurd (omega (arith, lt))
held first (t ∷ []) zero k s each lt e from next there = subst (IsHeld first (t ∷ []) k) (sym e) (record {
  from = from;
  there = omega (arith, there, each.0, pieces_length 0 t.bytes t.ends.items, length-append (frames_in t.bytes t.ends.items) []);
  ends = each.1;
  is = ap (λ l. slice_get l (k - first)) (append-nil (frames_in t.bytes t.ends.items)) ∙ ap (λ n. slice_get (frames_in t.bytes t.ends.items) (k - n)) (sym each.0);
})
held first (t ∷ u ∷ us) zero k s each lt e from next there =
    let size = pieces_length 0 t.bytes t.ends.items in
    let before : k < u.first = next (omega arith) in
    let inside : k - first < length t.ends.items = omega (arith, before, each.2.0, from, each.0) in
    subst (IsHeld first (t ∷ u ∷ us) k) (sym e) (record {
      from = from;
      there = omega (arith, inside, each.0);
      ends = each.1;
      is = front_at (frames_in t.bytes t.ends.items) (frames_of (u ∷ us)) (k - first) (omega (arith, inside, size)) ∙ ap (λ n. slice_get (frames_in t.bytes t.ends.items) (k - n)) (sym each.0);
    })
held first (t ∷ ts) (suc i) k s each lt e from next there =
    let size = pieces_length 0 t.bytes t.ends.items in
    let both = length-append (frames_in t.bytes t.ends.items) (frames_of ts) in
    let up = firsts_up (first + length t.ends.items) ts i each.2 (omega (arith, lt)) in
    let h = held (first + length t.ends.items) ts i k s each.2 (omega (arith, lt)) e from (λ l. next (omega (arith, l))) (omega (arith, there, size, both, up, from)) in
    record {
      from = h.from;
      there = h.there;
      ends = h.ends;
      is = behind_at (frames_in t.bytes t.ends.items) (frames_of ts) (k - first) (omega (arith, up, from, size))
          ∙ ap (slice_get (frames_of ts)) (let e : k - first - length (frames_in t.bytes t.ends.items) ≡ k - (first + length t.ends.items) = omega (arith, size) in e)
          ∙ h.is;
    }

-- the same from the first piece on
pub record IsHolder (ss : List Piece) (at : ℕ) (s : Piece) : Type 0 where
  pub from : s.first ≤ at
  pub there : at - s.first < length s.ends.items
  pub ends : AreEnds 0 s.ends.items (length s.bytes)
  pub is : slice_get (frames_of ss) at ≡ slice_get (frames_in s.bytes s.ends.items) (at - s.first)

pub holds : (ss : List Piece) (i at : ℕ) (s : Piece) → ArePieces 0 ss → at < length (frames_of ss) → i < length ss → s ≡ get_or ss i s → first_at ss i ≤ at
    → (i + 1 < length ss → at < first_at ss (i + 1)) → IsHolder ss at s
holds ss i at s each there lt e from next =
    let h = held 0 ss i at s each lt e from (λ l. subst (λ n. at < first_at ss n) (let e : i + 1 ≡ suc i = omega arith in e) (next (omega (arith, l)))) (omega (arith, there)) in
    record { from = h.from; there = h.there; ends = h.ends; is = ap (slice_get (frames_of ss)) (let same : at ≡ at - 0 = omega arith in same) ∙ h.is }

-- the same of pieces that are these
pub holds_in : (ss seen : List Piece) (i at : ℕ) (s : Piece) → seen ≡ ss → ArePieces 0 ss → at < length (frames_of ss) → i < length seen → s ≡ get_or ss i s → first_at seen i ≤ at
    → (i + 1 < length seen → at < first_at seen (i + 1)) → IsHolder ss at s
holds_in ss seen i at s same each there lt e from next =
    holds ss i at s each there (subst (λ l. i < length l) same lt) e (subst (λ l. first_at l i ≤ at) same from) (subst (λ l. i + 1 < length l → at < first_at l (i + 1)) same next)

-- how many frames come before the piece that is read, and before the first
pub first_is : (ss : List Piece) (i : ℕ) (s : Piece) → i < length ss → s ≡ get_or ss i s → first_at ss i ≡ s.first
first_is [] i s lt e = absurd (omega (arith, lt))
first_is (t ∷ ts) zero s lt e = ap (λ (u : Piece). u.first) (sym e)
first_is (t ∷ ts) (suc i) s lt e = first_is ts i s (omega (arith, lt)) e

pub starts : (ss : List Piece) → ArePieces 0 ss → 0 < length ss → first_at ss 0 ≡ 0
starts [] each lt = absurd (omega (arith, lt))
starts (s ∷ ss) each lt = each.0

-- a piece whose first frame comes behind a place is not the first one
pub later : (ss : List Piece) (at i : ℕ) → ArePieces 0 ss → 0 < length ss → at < first_at ss i → 0 < i
later ss at zero each some before = absurd (omega (arith, before, starts ss each some))
later ss at (suc i) each some before = omega arith

-- the pieces before one have the frames before its first
pub pieces_before : (first : ℕ) (ss : List Piece) (i : ℕ) (s : Piece) → ArePieces first ss → i < length ss → s ≡ get_or ss i s → ArePieces first (take i ss) × (first + length (frames_of (take i ss)) ≡ s.first)
pieces_before first [] i s each lt e = absurd (omega (arith, lt))
pieces_before first (t ∷ ts) zero s each lt e = (record {}, omega (arith, each.0, ap (λ (u : Piece). u.first) e))
pieces_before first (t ∷ ts) (suc i) s each lt e =
    let rest = pieces_before (first + length t.ends.items) ts i s each.2 (omega (arith, lt)) e in
    ((each.0, each.1, rest.0), omega (arith, rest.1, pieces_length 0 t.bytes t.ends.items, length-append (frames_in t.bytes t.ends.items) (frames_of (take i ts))))

-- the first frames are those of the pieces before one, and its own first ones
first_frames : (first : ℕ) (ss : List Piece) (i k : ℕ) (s : Piece) → ArePieces first ss → i < length ss → s ≡ get_or ss i s → s.first ≤ k → k - s.first ≤ length s.ends.items
    → take (k - first) (frames_of ss) ≡ frames_of (take i ss) ++ take (k - s.first) (frames_in s.bytes s.ends.items)
first_frames first [] i k s each lt e from there = absurd (omega (arith, lt))
first_frames first (t ∷ ts) zero k s each lt e from there =
    let short : k - first ≤ length (frames_in t.bytes t.ends.items) =
    omega (arith, there, each.0, ap (λ (u : Piece). u.first) e, ap (λ (u : Piece). length u.ends.items) e, pieces_length 0 t.bytes t.ends.items) in
    take-append-le (k - first) (frames_in t.bytes t.ends.items) (frames_of ts) short
    ∙ ap (λ n. take (k - n) (frames_in t.bytes t.ends.items)) (sym each.0)
    ∙ ap (λ (u : Piece). take (k - u.first) (frames_in u.bytes u.ends.items)) (sym e)
first_frames first (t ∷ ts) (suc i) k s each lt e from there =
    let own = frames_in t.bytes t.ends.items in
    let next = first + length t.ends.items in
    let before = pieces_before next ts i s each.2 (omega (arith, lt)) e in
    let split : k - first ≡ length own + (k - next) = omega (arith, from, before.1, pieces_length 0 t.bytes t.ends.items) in
    ap (λ n. take n (own ++ frames_of ts)) split
    ∙ take-append-add own (frames_of ts) (k - next)
    ∙ ap (λ l. own ++ l) (first_frames next ts i k s each.2 (omega (arith, lt)) e from there)
    ∙ sym (append_assoc own (frames_of (take i ts)) (take (k - s.first) (frames_in s.bytes s.ends.items)))

-- pieces of the first frames alone
pub record AreFirst (ss after : List Piece) (k : ℕ) : Type 0 where
  pub frames : frames_of after ≡ take k (frames_of ss)
  pub each : ArePieces 0 after

-- those before one, where it begins there
pub cut_between : (ss : List Piece) (i k : ℕ) (s : Piece) → ArePieces 0 ss → i < length ss → s ≡ get_or ss i s → s.first ≡ k → AreFirst ss (take i ss) k
cut_between ss i k s each lt e is = record {
  frames =
      sym (append-nil (frames_of (take i ss)))
      ∙ ap (λ n. frames_of (take i ss) ++ take n (frames_in s.bytes s.ends.items)) (let none : 0 ≡ k - s.first = omega (arith, is) in none)
      ∙ sym (first_frames 0 ss i k s each lt e (omega (arith, is)) (omega (arith, is)))
      ∙ ap (λ n. take n (frames_of ss)) (let same : k - 0 ≡ k = omega arith in same);
  each = (pieces_before 0 ss i s each lt e).0;
}

-- and else with that one, which is cut
pub cut_within : (ss : List Piece) (i k first : ℕ) (s t : Piece) → ArePieces 0 ss → i < length ss → s ≡ get_or ss i s → IsHolder ss k s → first ≡ s.first
    → t.bytes ≡ take (get_or (0 ∷ s.ends.items) (k - first) 0) s.bytes → t.ends.items ≡ take (k - first) s.ends.items → t.first ≡ s.first → AreFirst ss (take i ss ++ t ∷ []) k
cut_within ss i k first s t each lt e h same is_bytes is_ends is_first =
    let there : k - s.first ≤ length s.ends.items = omega (arith, h.there) in
    let cut_bytes = is_bytes ∙ ap (λ n. take (get_or (0 ∷ s.ends.items) (k - n) 0) s.bytes) same in
    let cut = frames_cut s.bytes s.ends.items t.bytes t.ends.items (k - s.first) h.ends there cut_bytes (is_ends ∙ ap (λ n. take (k - n) s.ends.items) same) in
    let before = pieces_before 0 ss i s each lt e in
    record {
      frames =
          frames_more_piece (take i ss) t
          ∙ ap (λ l. frames_of (take i ss) ++ l) cut.frames
          ∙ sym (first_frames 0 ss i k s each lt e h.from there)
          ∙ ap (λ n. take n (frames_of ss)) (let same : k - 0 ≡ k = omega arith in same);
      each = one_more_piece 0 (take i ss) t before.0 (omega (arith, is_first, before.1)) cut.rising;
    }
