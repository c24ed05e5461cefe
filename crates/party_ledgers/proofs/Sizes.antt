-- The places of a size, read one after another.
use Rattle.std.proofs.Common.{◌≡◌, ℕ, ◌+◌, ◌<◌, List, [], ◌∷◌, ◌++◌, length, take, set, append_assoc, add-one, sym, ◌∙◌, ap}
use Rattle.std.specs.List.{flat_map}
use Rattle.std.specs.Int.{to_be_bytes, w64}
use Rattle.std.proofs.Math.Seq.{take-suc-set}
use Rattle.std.proofs.lemmas.List.Concat.{flat_map-append}

pub size_more : (size : List ℕ) (i x : ℕ) (left front rest bytes : List ℕ) → i < length size → to_be_bytes w64 x ≡ front → left ≡ front ++ rest → flat_map (to_be_bytes w64) (take i size) ++ left ≡ bytes
    → flat_map (to_be_bytes w64) (take (i + 1) (set size i x)) ++ rest ≡ bytes
size_more size i x left front rest bytes lt is left_is so_far =
    let more : take (i + 1) (set size i x) ≡ take i size ++ x ∷ [] = ap (λ n. take n (set size i x)) (add-one i) ∙ take-suc-set size i x lt in
    let joined : flat_map (to_be_bytes w64) (take (i + 1) (set size i x)) ≡ flat_map (to_be_bytes w64) (take i size) ++ front =
    ap (flat_map (to_be_bytes w64)) more ∙ flat_map-append (to_be_bytes w64) (take i size) (x ∷ []) ∙ ap (λ l. flat_map (to_be_bytes w64) (take i size) ++ l) is in
    ap (λ l. l ++ rest) joined ∙ append_assoc (flat_map (to_be_bytes w64) (take i size)) front rest ∙ ap (λ l. flat_map (to_be_bytes w64) (take i size) ++ l) (sym left_is) ∙ so_far
