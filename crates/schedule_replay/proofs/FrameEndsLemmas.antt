-- Frames that lie one behind another, by the places where they end.
use Rattle.std.proofs.Common.{◌≡◌, ℕ, zero, suc, ◌+◌, ◌-◌, ◌<◌, ◌≤◌, List, [], ◌∷◌, ◌++◌, length, length-append, take, drop, get_or, slice_get, slice_range, Some, refl, sym, ◌∙◌, ap, subst, arith}
use Rattle.std.proofs.Math.Seq.{take-length, drop-append_seam}
use Rattle.std.proofs.lemmas.List.{drop-append-le, length-drop, length-take-le, take-append-drop, take-append-le}
use Rattle.std.proofs.lemmas.List.Sums.{sum_by-cons}
use Rattle.schedule_replay.specs.FrameEnds.{AreEnds, pieces_from, frames_in}
use Rattle.schedule_replay.specs.PacketPools.{bytes_of}

-- no end stands before the first place or behind the last
pub ends_rise : (start : ℕ) (ends : List ℕ) (last : ℕ) → AreEnds start ends last → start ≤ last
ends_rise start [] last h = omega (arith, h)
ends_rise start (end ∷ ends) last h = omega (arith, h.0, ends_rise end ends last h.1)

-- there are as many pieces as ends, and their bytes are all from the first place to the last
pub pieces_length : (start : ℕ) (bytes ends : List ℕ) → length (pieces_from start bytes ends) ≡ length ends
pieces_length start bytes [] = refl
pieces_length start bytes (end ∷ ends) = ap suc (pieces_length end bytes ends)

range_length : (bytes : List ℕ) (start end : ℕ) → end ≤ length bytes → length (slice_range bytes start end) ≡ end - start
range_length bytes start end le = length-take-le (end - start) (drop start bytes) (omega (arith, le, length-drop start bytes))

pub pieces_bytes : (start : ℕ) (bytes ends : List ℕ) (last : ℕ) → AreEnds start ends last → last ≤ length bytes → start + bytes_of (pieces_from start bytes ends) ≡ last
pieces_bytes start bytes [] last h le = omega (arith, h)
pieces_bytes start bytes (end ∷ ends) last h le =
    let up = ends_rise end ends last h.1 in
    omega (
      arith,
      h.0,
      up,
      le,
      range_length bytes start end (omega (arith, up, le)),
      pieces_bytes end bytes ends last h.1 le,
      sum_by-cons length (slice_range bytes start end) (pieces_from end bytes ends),
    )

pub frames_bytes : (bytes ends : List ℕ) → AreEnds 0 ends (length bytes) → bytes_of (frames_in bytes ends) ≡ length bytes
frames_bytes bytes ends h = omega (arith, pieces_bytes 0 bytes ends (length bytes) h (omega arith))

-- one end more
pub ends_more : (start : ℕ) (ends : List ℕ) (last n : ℕ) → AreEnds start ends last → last ≤ n → AreEnds start (ends ++ n ∷ []) n
ends_more start [] last n h le = (omega (arith, h, le), refl)
ends_more start (end ∷ ends) last n h le = (h.0, ends_more end ends last n h.1 le)

range_kept : (bytes more : List ℕ) (start end : ℕ) → start ≤ end → end ≤ length bytes → slice_range (bytes ++ more) start end ≡ slice_range bytes start end
range_kept bytes more start end up le =
    ap (take (end - start)) (drop-append-le start bytes more (omega (arith, up, le)))
    ∙ take-append-le (end - start) (drop start bytes) more (omega (arith, up, le, length-drop start bytes))

pieces_more : (start : ℕ) (bytes more ends : List ℕ) (last n : ℕ) → AreEnds start ends last → last ≤ length bytes
    → pieces_from start (bytes ++ more) (ends ++ n ∷ []) ≡ pieces_from start bytes ends ++ slice_range (bytes ++ more) last n ∷ []
pieces_more start bytes more [] last n h le = ap (λ s. slice_range (bytes ++ more) s n ∷ []) h
pieces_more start bytes more (end ∷ ends) last n h le =
    let up = ends_rise end ends last h.1 in
    ap (λ p. p ∷ pieces_from end (bytes ++ more) (ends ++ n ∷ [])) (range_kept bytes more start end h.0 (omega (arith, up, le)))
    ∙ ap (λ ps. slice_range bytes start end ∷ ps) (pieces_more end bytes more ends last n h.1 le)

-- what is written behind them is one frame more
pub frames_more : (bytes more ends : List ℕ) → AreEnds 0 ends (length bytes) → frames_in (bytes ++ more) (ends ++ length (bytes ++ more) ∷ []) ≡ frames_in bytes ends ++ more ∷ []
frames_more bytes more ends h =
    pieces_more 0 bytes more ends (length bytes) (length (bytes ++ more)) h (omega arith)
    ∙ ap (λ p. frames_in bytes ends ++ p ∷ []) whole
  where
    size : length (bytes ++ more) - length bytes ≡ length more
    size = omega (arith, length-append bytes more)

    whole : slice_range (bytes ++ more) (length bytes) (length (bytes ++ more)) ≡ more
    whole = ap (take (length (bytes ++ more) - length bytes)) (drop-append_seam bytes more) ∙ ap (λ n. take n more) size ∙ take-length more

-- the frame of a place, which begins where the one before it ends
piece_at : (start : ℕ) (bytes ends : List ℕ) (at : ℕ) → at < length ends → slice_get (pieces_from start bytes ends) at ≡ Some (slice_range bytes (get_or (start ∷ ends) at 0) (get_or ends at 0))
piece_at start bytes [] at lt = absurd (omega (arith, lt))
piece_at start bytes (end ∷ ends) zero lt = refl
piece_at start bytes (end ∷ ends) (suc at) lt = piece_at end bytes ends at (omega (arith, lt))

pub frame_of : (bytes ends : List ℕ) (at : ℕ) → at < length ends → slice_get (frames_in bytes ends) at ≡ Some (slice_range bytes (get_or (0 ∷ ends) at 0) (get_or ends at 0))
frame_of bytes ends at lt = piece_at 0 bytes ends at lt

-- a frame begins where the one before it ends
pub begins_at : (ends : List ℕ) (at : ℕ) → 0 < at → get_or (0 ∷ ends) at 0 ≡ get_or ends (at - 1) 0
begins_at ends zero lt = absurd (omega (arith, lt))
begins_at ends (suc at) lt = ap (λ n. get_or ends n 0) (let e : at ≡ suc at - 1 = omega arith in e)

pub end_at : (start : ℕ) (ends : List ℕ) (last at : ℕ) → AreEnds start ends last → at < length ends → (get_or (start ∷ ends) at 0 ≤ get_or ends at 0) × (get_or ends at 0 ≤ last)
end_at start [] last at h lt = absurd (omega (arith, lt))
end_at start (end ∷ ends) last zero h lt = (h.0, ends_rise end ends last h.1)
end_at start (end ∷ ends) last (suc at) h lt = end_at end ends last at h.1 (omega (arith, lt))

-- the ends before the frame of a place rise up to where it begins, which is no further than the last one
pub ends_cut : (start : ℕ) (ends : List ℕ) (last n : ℕ) → AreEnds start ends last → n ≤ length ends → AreEnds start (take n ends) (get_or (start ∷ ends) n 0)
ends_cut start [] last zero h le = refl
ends_cut start [] last (suc n) h le = absurd (omega (arith, le))
ends_cut start (end ∷ ends) last zero h le = refl
ends_cut start (end ∷ ends) last (suc n) h le = (h.0, ends_cut end ends last n h.1 (omega (arith, le)))

begins_within : (start : ℕ) (ends : List ℕ) (last n : ℕ) → AreEnds start ends last → n ≤ length ends → get_or (start ∷ ends) n 0 ≤ last
begins_within start ends last zero h le = ends_rise start ends last h
begins_within start [] last (suc n) h le = absurd (omega (arith, le))
begins_within start (end ∷ ends) last (suc n) h le = begins_within end ends last n h.1 (omega (arith, le))

range_cut : (bytes : List ℕ) (cut start end : ℕ) → start ≤ end → end ≤ cut → cut ≤ length bytes → slice_range (take cut bytes) start end ≡ slice_range bytes start end
range_cut bytes cut start end up le inside =
    sym (range_kept (take cut bytes) (drop cut bytes) start end up (omega (arith, le, length-take-le cut bytes inside)))
    ∙ ap (λ b. slice_range b start end) (take-append-drop cut bytes)

pieces_cut : (start : ℕ) (bytes ends : List ℕ) (last n : ℕ) → AreEnds start ends last → last ≤ length bytes → n ≤ length ends
    → pieces_from start (take (get_or (start ∷ ends) n 0) bytes) (take n ends) ≡ take n (pieces_from start bytes ends)
pieces_cut start bytes [] last zero h le lt = refl
pieces_cut start bytes [] last (suc n) h le lt = absurd (omega (arith, lt))
pieces_cut start bytes (end ∷ ends) last zero h le lt = refl
pieces_cut start bytes (end ∷ ends) last (suc n) h le lt =
    let cut = get_or (end ∷ ends) n 0 in
    let few : n ≤ length ends = omega (arith, lt) in
    let inside = begins_within end ends last n h.1 few in
    let up = ends_rise end (take n ends) cut (ends_cut end ends last n h.1 few) in
    ap (λ p. p ∷ pieces_from end (take cut bytes) (take n ends)) (range_cut bytes cut start end h.0 up (omega (arith, inside, le)))
    ∙ ap (λ ps. slice_range bytes start end ∷ ps) (pieces_cut end bytes ends last n h.1 le few)

-- the first frames, and no byte behind them
pub record AreCut (bytes ends bytes_after ends_after : List ℕ) (n : ℕ) : Type 0 where
  pub frames : frames_in bytes_after ends_after ≡ take n (frames_in bytes ends)
  pub rising : AreEnds 0 ends_after (length bytes_after)
  pub shorter : length bytes_after ≤ length bytes

pub frames_cut : (bytes ends bytes_after ends_after : List ℕ) (n : ℕ) → AreEnds 0 ends (length bytes) → n ≤ length ends
    → bytes_after ≡ take (get_or (0 ∷ ends) n 0) bytes → ends_after ≡ take n ends → AreCut bytes ends bytes_after ends_after n
frames_cut bytes ends bytes_after ends_after n h le is_bytes is_ends =
    let cut = get_or (0 ∷ ends) n 0 in
    let inside = begins_within 0 ends (length bytes) n h le in
    let size = length-take-le cut bytes inside in
    subst (λ b. AreCut bytes ends b ends_after n) (sym is_bytes) (subst (λ e. AreCut bytes ends (take cut bytes) e n) (sym is_ends) (record {
      frames = pieces_cut 0 bytes ends (length bytes) n h (omega arith) le;
      rising = subst (AreEnds 0 (take n ends)) (sym size) (ends_cut 0 ends (length bytes) n h le);
      shorter = omega (arith, size, inside);
    }))
