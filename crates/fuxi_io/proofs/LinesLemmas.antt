-- What stands before the first newline is the first line.
use Rattle.std.proofs.Common.{◌≡◌, ◌≢◌, ℕ, zero, suc, ◌+◌, ◌-◌, ◌<◌, ◌≤◌, true, false, cond, nat_eq, List, [], ◌∷◌, ◌++◌, length, get_or, take, drop, slice_range, refl, ap, sym, subst, ◌∙◌, arith, append_assoc, take-append-drop, length-append}
use Rattle.std.proofs.lemmas.Bool.Decides.{nat_tests}
use Rattle.std.proofs.lemmas.List.{drop_more, drop-drop, drop-take, take-take}
use Rattle.std.proofs.lemmas.List.Elements.{All-head, All-tail, All-append}
use Rattle.fuxi_io.specs.Lines.{InputLine, lines_of, onto_first, FirstLonger}
use Rattle.fuxi_io.specs.Pieces.{NoNewline}

-- a byte that is no newline goes on with the line
goes_on : (b : ℕ) (bytes : List ℕ) → b ≢ 10 → lines_of (b ∷ bytes) ≡ onto_first b (lines_of bytes)
goes_on b bytes other = let t : nat_eq b 10 ≡ false = grind (arith, nat_tests, other) in ap (λ t. cond t ((record { bytes = []; ended = true }) ∷ lines_of bytes) (onto_first b (lines_of bytes))) t

pub lines_of-cut : (xs ys : List ℕ) → NoNewline xs → lines_of (xs ++ 10 ∷ ys) ≡ (record { bytes = xs; ended = true }) ∷ lines_of ys
lines_of-cut [] ys none = refl
lines_of-cut (x ∷ xs) ys none =
    goes_on x (xs ++ 10 ∷ ys) (All-head (λ b. b ≢ 10) x xs none) ∙ ap (onto_first x) (lines_of-cut xs ys (All-tail (λ b. b ≢ 10) x xs none))

pub lines_of-last : (xs : List ℕ) → NoNewline xs → 0 < length xs → lines_of xs ≡ (record { bytes = xs; ended = false }) ∷ []
lines_of-last [] none some = absurd (omega (arith, some))
lines_of-last (x ∷ []) none some = goes_on x [] (All-head (λ b. b ≢ 10) x [] none)
lines_of-last (x ∷ y ∷ xs) none some =
    goes_on x (y ∷ xs) (All-head (λ b. b ≢ 10) x (y ∷ xs) none) ∙ ap (onto_first x) (lines_of-last (y ∷ xs) (All-tail (λ b. b ≢ 10) x (y ∷ xs) none) (omega arith))

longer_zero : (b : ℕ) (lines : List InputLine) → FirstLonger 0 (onto_first b lines)
longer_zero b [] = omega arith
longer_zero b (line ∷ lines) = omega arith

longer_suc : (b n : ℕ) (lines : List InputLine) → FirstLonger n lines → FirstLonger (suc n) (onto_first b lines)
longer_suc b n [] h = absurd h
longer_suc b n (line ∷ lines) h = omega (arith, h)

pub FirstLonger-prefix : (n : ℕ) (xs ys : List ℕ) → NoNewline xs → n < length xs → FirstLonger n (lines_of (xs ++ ys))
FirstLonger-prefix n [] ys none more = absurd (omega (arith, more))
FirstLonger-prefix zero (x ∷ xs) ys none more = subst (FirstLonger 0) (sym (goes_on x (xs ++ ys) (All-head (λ b. b ≢ 10) x xs none))) (longer_zero x (lines_of (xs ++ ys)))
FirstLonger-prefix (suc n) (x ∷ xs) ys none more =
    subst (FirstLonger (suc n)) (sym (goes_on x (xs ++ ys) (All-head (λ b. b ≢ 10) x xs none)))
    (longer_suc x n (lines_of (xs ++ ys)) (FirstLonger-prefix n xs ys (All-tail (λ b. b ≢ 10) x xs none) (omega (arith, more))))

pub FirstLonger-whole : (n : ℕ) (line bytes more : List ℕ) → NoNewline line → NoNewline bytes → n < length line + length bytes → FirstLonger n (lines_of (line ++ bytes ++ more))
FirstLonger-whole n line bytes more plain none long =
    FirstLonger-prefix n (line ++ bytes) more (All-append (λ b. b ≢ 10) line bytes plain none) (omega (arith, long, length-append line bytes))

slice_after : (xs : List ℕ) (from to m : ℕ) → from + m ≤ to → drop m (slice_range xs from to) ≡ slice_range xs (from + m) to
slice_after xs from to m le =
    let split : to - from ≡ m + (to - (from + m)) = omega (arith, le) in
    ap (λ k. drop m (take k (drop from xs))) split ∙ drop-take m (to - (from + m)) (drop from xs) ∙ ap (λ l. take (to - (from + m)) l) (drop-drop m from xs)

slice_split : (bytes : List ℕ) (from end to : ℕ) → from ≤ end → end ≤ to → slice_range bytes from to ≡ slice_range bytes from end ++ slice_range bytes end to
slice_split bytes from end to begun ended =
    let m = end - from in
    let same : from + m ≡ end = omega (arith, begun) in
    sym (take-append-drop m (slice_range bytes from to)) ∙ ap (λ l. l ++ drop m (slice_range bytes from to)) (take-take m (to - from) (drop from bytes) (omega (arith, begun, ended)))
    ∙ ap (λ l. slice_range bytes from end ++ l) (slice_after bytes from to m (omega (arith, begun, ended)) ∙ ap (λ k. slice_range bytes k to) same)

-- some bytes between two places, cut at a newline
cut_line : (bytes : List ℕ) (from end to : ℕ) → from ≤ end → end < to → to ≤ length bytes → get_or bytes end 0 ≡ 10 → slice_range bytes from to ≡ slice_range bytes from end ++ 10 ∷ slice_range bytes (end + 1) to
cut_line bytes from end to begun more inside is =
    let step : to - end ≡ suc (to - (end + 1)) = omega (arith, more) in
    slice_split bytes from end to begun (omega (arith, more))
    ∙ ap (λ l. slice_range bytes from end ++ take (to - end) l) (drop_more bytes end 0 (omega (arith, more, inside)) ∙ ap (λ b. b ∷ drop (end + 1) bytes) is)
    ∙ ap (λ k. slice_range bytes from end ++ take k (10 ∷ drop (end + 1) bytes)) step

newline_in : (xs ys : List ℕ) → NoNewline (xs ++ 10 ∷ ys) → ⊥
newline_in [] ys none = All-head (λ b. b ≢ 10) 10 ys none refl
newline_in (x ∷ xs) ys none = newline_in xs ys (All-tail (λ b. b ≢ 10) x (xs ++ 10 ∷ ys) none)

pub has_newline : (bytes : List ℕ) (from end to : ℕ) → from ≤ end → end < to → to ≤ length bytes → get_or bytes end 0 ≡ 10 → NoNewline (slice_range bytes from to) → ⊥
has_newline bytes from end to begun more inside is none =
    newline_in (slice_range bytes from end) (slice_range bytes (end + 1) to) (subst NoNewline (cut_line bytes from end to begun more inside is) none)

-- the bytes up to a newline go behind a line, and those behind the newline stay
pub moved_line : (seen bytes line made part : List ℕ) (from end to : ℕ) → seen ≡ bytes → slice_range bytes from to ≡ part → from ≤ end → end < to → to ≤ length bytes → get_or bytes end 0 ≡ 10 → made ≡ line ++ slice_range seen from end → line ++ part ≡ made ++ 10 ∷ slice_range bytes (end + 1) to
moved_line seen bytes line made part from end to same view begun more inside is made_of =
    let rest = 10 ∷ slice_range bytes (end + 1) to in
    ap (λ l. line ++ l) (sym view ∙ cut_line bytes from end to begun more inside is) ∙ sym (append_assoc line (slice_range bytes from end) rest)
    ∙ ap (λ l. (line ++ slice_range l from end) ++ rest) (sym same) ∙ ap (λ l. l ++ rest) (sym made_of)

-- the same of a line that gets too long by them
pub FirstLonger-slice : (n : ℕ) (line bytes more : List ℕ) (from end to : ℕ) → from ≤ end → end ≤ to → NoNewline line → NoNewline (slice_range bytes from end) → n < length line + length (slice_range bytes from end) → FirstLonger n (lines_of (line ++ slice_range bytes from to ++ more))
FirstLonger-slice n line bytes more from end to begun ended plain none long =
    let part = slice_range bytes from end in
    let rest = slice_range bytes end to in
    let split : line ++ slice_range bytes from to ++ more ≡ (line ++ part) ++ (rest ++ more) =
    ap (λ l. line ++ l ++ more) (slice_split bytes from end to begun ended) ∙ ap (λ l. l ++ more) (sym (append_assoc line part rest)) ∙ append_assoc (line ++ part) rest more in
    subst (λ l. FirstLonger n (lines_of l)) (sym split) (FirstLonger-whole n line part (rest ++ more) plain none long)
