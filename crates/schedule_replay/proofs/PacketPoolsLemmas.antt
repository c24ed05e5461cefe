-- What a pool counts, and its frames, where a piece is full, where frames are written, and where the last ones go.
use Rattle.std.proofs.Common.{◌≡◌, ℕ, ◌+◌, ◌-◌, ◌<◌, ◌≤◌, List, [], ◌∷◌, ◌++◌, length, length-append, take, drop, slice_get, refl, sym, ◌∙◌, ap, subst, arith}
use Rattle.std.proofs.Math.Seq.{take-append-add}
use Rattle.std.proofs.lemmas.List.{append-nil, length-take-le, take-append-drop, take-append-le}
use Rattle.std.proofs.lemmas.List.Sums.{sum_by-append}
use Rattle.fuxi_terms.specs.Limits.{most_packets, most_packet_bytes}
use Rattle.schedule_replay.specs.FrameEnds.{AreEnds, frames_in}
use Rattle.schedule_replay.specs.FullPieces.{frames_of}
use Rattle.schedule_replay.specs.PacketPools.{IsPool, all_frames, bytes_of}
use Rattle.schedule_replay.specs.declared.pieces.Piece.{Piece}
use Rattle.schedule_replay.proofs.FrameEndsLemmas.{AreCut, frames_bytes, pieces_length}
use Rattle.schedule_replay.proofs.FullPiecesLemmas.{AreFirst, behind_at, frames_more_piece, one_more_piece}

pub written_at : (ss : List Piece) (bytes ends : List ℕ) (at : ℕ) → length (frames_of ss) ≤ at → slice_get (all_frames ss bytes ends) at ≡ slice_get (frames_in bytes ends) (at - length (frames_of ss))
written_at ss bytes ends at le = behind_at (frames_of ss) (frames_in bytes ends) at le

-- what is counted is all that is kept
pub all_length : (ss : List Piece) (before before_bytes : ℕ) (bytes ends : List ℕ) → IsPool ss before before_bytes bytes ends → length (all_frames ss bytes ends) ≡ before + length ends
all_length ss before before_bytes bytes ends p = omega (arith, p.before_is, length-append (frames_of ss) (frames_in bytes ends), pieces_length 0 bytes ends)

pub all_bytes : (ss : List Piece) (before before_bytes : ℕ) (bytes ends : List ℕ) → IsPool ss before before_bytes bytes ends → bytes_of (all_frames ss bytes ends) ≡ before_bytes + length bytes
all_bytes ss before before_bytes bytes ends p = omega (arith, p.before_bytes_is, sum_by-append length (frames_of ss) (frames_in bytes ends), frames_bytes bytes ends p.rising)

-- the piece that was written is one full piece more, and nothing is written yet
pub pool_sealed : (ss : List Piece) (before before_bytes : ℕ) (bytes ends : List ℕ) (s : Piece) → IsPool ss before before_bytes bytes ends
    → s.bytes ≡ bytes → s.ends.items ≡ ends → s.first ≡ before → IsPool (ss ++ s ∷ []) (before + length ends) (before_bytes + length bytes) [] []
pool_sealed ss before before_bytes bytes ends s p is_bytes is_ends is_first =
    let here = ap (λ b. frames_in b s.ends.items) is_bytes ∙ ap (frames_in bytes) is_ends in
    let all = frames_more_piece ss s ∙ ap (λ l. frames_of ss ++ l) here in
    record {
      before_is = omega (arith, ap length all, all_length ss before before_bytes bytes ends p);
      before_bytes_is = omega (arith, ap bytes_of all, all_bytes ss before before_bytes bytes ends p);
      few = omega (arith, p.few);
      within = omega (arith, p.within);
      each = one_more_piece 0 ss s p.each (omega (arith, is_first, p.before_is)) (subst (λ b. AreEnds 0 s.ends.items (length b)) (sym is_bytes) (subst (λ l. AreEnds 0 l (length bytes)) (sym is_ends) p.rising));
      rising = refl;
    }

pub frames_are : (ss : List Piece) (bytes ends : List ℕ) (s : Piece) → s.bytes ≡ bytes → s.ends.items ≡ ends → all_frames (ss ++ s ∷ []) [] [] ≡ all_frames ss bytes ends
frames_are ss bytes ends s is_bytes is_ends =
    append-nil (frames_of (ss ++ s ∷ [])) ∙ frames_more_piece ss s ∙ ap (λ l. frames_of ss ++ l) (ap (λ b. frames_in b s.ends.items) is_bytes ∙ ap (frames_in bytes) is_ends)

-- the same of what equals these
pub pool_sealed_as : (ss : List Piece) (before before_bytes : ℕ) (bytes ends : List ℕ) (s : Piece) (all : List Piece) (after after_bytes : ℕ) (no_bytes no_ends : List ℕ)
    → IsPool ss before before_bytes bytes ends → s.bytes ≡ bytes → s.ends.items ≡ ends → s.first ≡ before
    → all ≡ ss ++ s ∷ [] → after ≡ before + length ends → after_bytes ≡ before_bytes + length bytes → no_bytes ≡ [] → no_ends ≡ [] → IsPool all after after_bytes no_bytes no_ends
pool_sealed_as ss before before_bytes bytes ends s all after after_bytes no_bytes no_ends p is_bytes is_ends is_first e f g h i =
    subst (λ l. IsPool l after after_bytes no_bytes no_ends) (sym e)
    (subst (λ n. IsPool (ss ++ s ∷ []) n after_bytes no_bytes no_ends) (sym f)
    (subst (λ n. IsPool (ss ++ s ∷ []) (before + length ends) n no_bytes no_ends) (sym g)
    (subst (λ l. IsPool (ss ++ s ∷ []) (before + length ends) (before_bytes + length bytes) l no_ends) (sym h)
    (subst (IsPool (ss ++ s ∷ []) (before + length ends) (before_bytes + length bytes) []) (sym i) (pool_sealed ss before before_bytes bytes ends s p is_bytes is_ends is_first)))))

pub frames_are_as : (ss : List Piece) (bytes ends : List ℕ) (s : Piece) (all : List Piece) (no_bytes no_ends : List ℕ) → s.bytes ≡ bytes → s.ends.items ≡ ends
    → all ≡ ss ++ s ∷ [] → no_bytes ≡ [] → no_ends ≡ [] → all_frames all no_bytes no_ends ≡ all_frames ss bytes ends
frames_are_as ss bytes ends s all no_bytes no_ends is_bytes is_ends e h i =
    ap (λ l. all_frames l no_bytes no_ends) e ∙ ap (λ l. all_frames (ss ++ s ∷ []) l no_ends) h ∙ ap (all_frames (ss ++ s ∷ []) []) i ∙ frames_are ss bytes ends s is_bytes is_ends

-- frames that are written behind those of the piece
pub pool_written : (ss : List Piece) (before before_bytes : ℕ) (bytes ends bytes_after ends_after : List ℕ) (more : List (List ℕ)) → IsPool ss before before_bytes bytes ends
    → frames_in bytes_after ends_after ≡ frames_in bytes ends ++ more → AreEnds 0 ends_after (length bytes_after)
    → length (all_frames ss bytes ends) + length more ≤ most_packets → bytes_of (all_frames ss bytes ends) + bytes_of more ≤ most_packet_bytes
    → IsPool ss before before_bytes bytes_after ends_after
pool_written ss before before_bytes bytes ends bytes_after ends_after more p is rising few within = record {
  before_is = p.before_is;
  before_bytes_is = p.before_bytes_is;
  few = omega (arith, few, all_length ss before before_bytes bytes ends p, pieces_length 0 bytes_after ends_after, pieces_length 0 bytes ends, ap length is, length-append (frames_in bytes ends) more);
  within = omega (arith, within, all_bytes ss before before_bytes bytes ends p, frames_bytes bytes_after ends_after rising, frames_bytes bytes ends p.rising, ap bytes_of is, sum_by-append length (frames_in bytes ends) more);
  each = p.each;
  rising = rising;
}

-- bytes of the first frames
first_bytes : (xs : List (List ℕ)) (n : ℕ) → bytes_of (take n xs) ≤ bytes_of xs
first_bytes xs n = let both = sum_by-append length (take n xs) (drop n xs) in omega (arith, both, ap bytes_of (take-append-drop n xs))

-- the first frames, with some in the piece that is written
pub record IsCut (ss : List Piece) (bytes ends : List ℕ) (ss_after : List Piece) (before before_bytes : ℕ) (bytes_after ends_after : List ℕ) (kept : ℕ) : Type 0 where
  pub frames : all_frames ss_after bytes_after ends_after ≡ take kept (all_frames ss bytes ends)
  pub pool : IsPool ss_after before before_bytes bytes_after ends_after

pub pool_cut : (ss : List Piece) (before before_bytes : ℕ) (bytes ends bytes_after ends_after : List ℕ) (kept : ℕ) → IsPool ss before before_bytes bytes ends → before ≤ kept
    → kept ≤ length (all_frames ss bytes ends) → AreCut bytes ends bytes_after ends_after (kept - before) → IsCut ss bytes ends ss before before_bytes bytes_after ends_after kept
pool_cut ss before before_bytes bytes ends bytes_after ends_after kept p from there cut =
    let size = pieces_length 0 bytes ends in
    let n = kept - before in
    let few : n ≤ length (frames_in bytes ends) = omega (arith, from, there, size, all_length ss before before_bytes bytes ends p) in
    record {
      frames =
          ap (λ l. frames_of ss ++ l) cut.frames
          ∙ sym (take-append-add (frames_of ss) (frames_in bytes ends) n)
          ∙ ap (λ k. take k (all_frames ss bytes ends)) (let all : length (frames_of ss) + n ≡ kept = omega (arith, from, p.before_is) in all);
      pool = record {
        before_is = p.before_is;
        before_bytes_is = p.before_bytes_is;
        few = omega (arith, p.few, size, few, pieces_length 0 bytes_after ends_after, ap length cut.frames, length-take-le n (frames_in bytes ends) few);
        within = omega (arith, p.within, cut.shorter);
        each = p.each;
        rising = cut.rising;
      };
    }

-- fewer than the full pieces have
pub pool_cut_back : (ss : List Piece) (before before_bytes : ℕ) (bytes ends : List ℕ) (after : List Piece) (total : ℕ) (no_bytes no_ends : List ℕ) (kept : ℕ) → IsPool ss before before_bytes bytes ends → kept < before
    → AreFirst ss after kept → total ≡ bytes_of (take kept (all_frames ss bytes ends)) → no_bytes ≡ [] → no_ends ≡ [] → IsCut ss bytes ends after kept total no_bytes no_ends kept
pool_cut_back ss before before_bytes bytes ends after total no_bytes no_ends kept p less first is is_bytes is_ends =
    let few : kept ≤ length (frames_of ss) = omega (arith, less, p.before_is) in
    let all = first.frames ∙ sym (take-append-le kept (frames_of ss) (frames_in bytes ends) few) in
    subst (λ b. IsCut ss bytes ends after kept total b no_ends kept) (sym is_bytes) (subst (λ e. IsCut ss bytes ends after kept total [] e kept) (sym is_ends) (record {
      frames = append-nil (frames_of after) ∙ all;
      pool = record {
        before_is = omega (arith, ap length first.frames, length-take-le kept (frames_of ss) few);
        before_bytes_is = omega (arith, is, ap bytes_of all);
        few = omega (arith, less, p.few);
        within = omega (arith, is, p.within, first_bytes (all_frames ss bytes ends) kept, all_bytes ss before before_bytes bytes ends p);
        each = first.each;
        rising = refl;
      };
    }))
