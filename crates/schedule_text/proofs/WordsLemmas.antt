-- The words of bytes, which end at each blank.
use Rattle.std.proofs.Common.{◌≡◌, ℕ, suc, ◌+◌, ◌-◌, ◌<◌, ◌≤◌, ◌==◌, Bool, true, false, not, cond, nat_lt, List, [], ◌∷◌, ◌++◌, length, filter, take, drop, Some, None, refl, ap, sym, ◌∙◌, arith}
use Rattle.std.proofs.lemmas.Bool.{ltb-false}
use Rattle.std.proofs.lemmas.List.{take_all}
use Rattle.std.proofs.lemmas.List.Sums.{prefix_len-le-length}
use Rattle.std.proofs.lemmas.List.Splits.{slice_split-cons_yes, slice_split-cons_no}
use Rattle.std.specs.List.{position, position_or_len, slice_split, onto_first}
use Rattle.schedule_text.specs.Words.{is_word, words_of}

-- Where a byte that passes first stands, and the length where none does
by_room : (t : Bool) (m n : ℕ) → cond t (Some m) None ≡ Some n → m ≡ n
by_room true m n e = cc
by_room false m n e = cc

pub position_is : (p : ℕ → Bool) (bs : List ℕ) (n : ℕ) → position p bs ≡ Some n → n ≡ position_or_len p bs
position_is p bs n e = sym (by_room (nat_lt (position_or_len p bs) (length bs)) (position_or_len p bs) n e)

by_end : (t : Bool) (m : ℕ) → cond t (Some m) None ≡ None → t ≡ false
by_end true m e = cc
by_end false m e = refl

pub position_none : (p : ℕ → Bool) (bs : List ℕ) → position p bs ≡ None → length bs ≡ position_or_len p bs
position_none p bs e =
    let most = prefix_len-le-length (λ b. not (p b)) bs in
    let least = ltb-false (position_or_len p bs) (length bs) (by_end (nat_lt (position_or_len p bs) (length bs)) (position_or_len p bs) e) in
    omega (arith, most, least)

position_here : (p : ℕ → Bool) (b : ℕ) (bs : List ℕ) → p b ≡ true → position_or_len p (b ∷ bs) ≡ 0
position_here p b bs e = ap (λ t. cond (not t) (1 + position_or_len p bs) 0) e

position_past : (p : ℕ → Bool) (b : ℕ) (bs : List ℕ) → p b ≡ false → position_or_len p (b ∷ bs) ≡ suc (position_or_len p bs)
position_past p b bs e =
    let up : 1 + position_or_len p bs ≡ suc (position_or_len p bs) = omega arith in
    ap (λ t. cond (not t) (1 + position_or_len p bs) 0) e ∙ up

-- The first part, which ends at the first blank, and the parts behind that
abbrev is_blank : ℕ → Bool
is_blank b = b == 32

abbrev pub width : List ℕ → ℕ
width bs = position_or_len is_blank bs

abbrev parts : List ℕ → List (List ℕ)
parts bs = slice_split is_blank bs

abbrev behind : List ℕ → List (List ℕ)
behind [] = []
behind (b ∷ bs) = parts bs

first_part : (bs : List ℕ) → parts bs ≡ take (width bs) bs ∷ behind (drop (width bs) bs)
first_part [] = refl
first_part (b ∷ bs) = by_blank (b == 32) refl (first_part bs)
  where
    by_blank : (t : Bool) → (b == 32) ≡ t → parts bs ≡ take (width bs) bs ∷ behind (drop (width bs) bs) → parts (b ∷ bs) ≡ take (width (b ∷ bs)) (b ∷ bs) ∷ behind (drop (width (b ∷ bs)) (b ∷ bs))
    by_blank true e more = slice_split-cons_yes is_blank b bs e ∙ ap (λ n. take n (b ∷ bs) ∷ behind (drop n (b ∷ bs))) (sym (position_here is_blank b bs e))
    by_blank false e more = slice_split-cons_no is_blank b bs e ∙ ap (onto_first b) more ∙ ap (λ n. take n (b ∷ bs) ∷ behind (drop n (b ∷ bs))) (sym (position_past is_blank b bs e))

-- it is a word or it is none, and the words behind the blank follow
by_word : (t : Bool) (w : List ℕ) (ws : List (List ℕ)) → cond t (w ∷ ws) ws ≡ cond t (w ∷ []) [] ++ ws
by_word true w ws = refl
by_word false w ws = refl

behind_blank : (part rest : List ℕ) → 1 ≤ length rest → filter is_word (part ∷ behind rest) ≡ filter is_word (part ∷ []) ++ words_of (take (length rest - 1) (drop 1 rest))
behind_blank part [] lt = absurd (omega (arith, lt))
behind_blank part (b ∷ left) lt =
    let few : length left ≤ length (b ∷ left) - 1 = omega arith in
    by_word (is_word part) part (words_of left) ∙ ap (λ l. filter is_word (part ∷ []) ++ words_of l) (sym (take_all (length (b ∷ left) - 1) left few))

pub part_before : (bs : List ℕ) → 1 ≤ length (drop (width bs) bs) → words_of bs ≡ filter is_word (take (width bs) bs ∷ []) ++ words_of (take (length (drop (width bs) bs) - 1) (drop 1 (drop (width bs) bs)))
part_before bs some = ap (filter is_word) (first_part bs) ∙ behind_blank (take (width bs) bs) (drop (width bs) bs) some

behind_end : (part rest : List ℕ) → length rest < 1 → filter is_word (part ∷ behind rest) ≡ filter is_word (part ∷ [])
behind_end part [] none = refl
behind_end part (b ∷ left) none = absurd (omega (arith, none))

pub part_last : (bs : List ℕ) → length (drop (width bs) bs) < 1 → words_of bs ≡ filter is_word (take (width bs) bs ∷ [])
part_last bs none = ap (filter is_word) (first_part bs) ∙ behind_end (take (width bs) bs) (drop (width bs) bs) none
