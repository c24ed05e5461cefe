-- Quantities and units, read one from the front.
use Rattle.std.proofs.Common.{◌≡◌, ℕ, zero, suc, ◌+◌, ◌*◌, ◌-◌, ◌<◌, ◌≤◌, List, [], ◌∷◌, ◌++◌, length, drop, get_or, sym, refl, ◌∙◌, ap, arith, append_assoc}
use Rattle.std.proofs.lemmas.List.{get_or-drop}
use Rattle.std.specs.Int.{from_be_bytes, w32, w64}
use Rattle.fuxi_terms.specs.Cluster.{UnitRecord}
use Rattle.hard_state.specs.RecordBodies.{quantities_in, unit_size, unit_in, units_in}

abbrev pub first_eight : List ℕ → List ℕ
first_eight l = get_or l 0 0 ∷ get_or l 1 0 ∷ get_or l 2 0 ∷ get_or l 3 0 ∷ get_or l 4 0 ∷ get_or l 5 0 ∷ get_or l 6 0 ∷ get_or l 7 0 ∷ []

quantities_from : (l : List ℕ) → 8 ≤ length l → quantities_in l ≡ from_be_bytes w64 (first_eight l) ∷ quantities_in (drop 8 l)
quantities_from (a ∷ b ∷ c ∷ d ∷ e ∷ f ∷ g ∷ h ∷ l) long = refl
quantities_from [] long = absurd (omega (arith, long))
quantities_from (a ∷ []) long = absurd (omega (arith, long))
quantities_from (a ∷ b ∷ []) long = absurd (omega (arith, long))
quantities_from (a ∷ b ∷ c ∷ []) long = absurd (omega (arith, long))
quantities_from (a ∷ b ∷ c ∷ d ∷ []) long = absurd (omega (arith, long))
quantities_from (a ∷ b ∷ c ∷ d ∷ e ∷ []) long = absurd (omega (arith, long))
quantities_from (a ∷ b ∷ c ∷ d ∷ e ∷ f ∷ []) long = absurd (omega (arith, long))
quantities_from (a ∷ b ∷ c ∷ d ∷ e ∷ f ∷ g ∷ []) long = absurd (omega (arith, long))

pub quantity_more : (l made all : List ℕ) → 8 ≤ length l → made ++ quantities_in l ≡ all → made ++ from_be_bytes w64 (first_eight l) ∷ [] ++ quantities_in (drop 8 l) ≡ all
quantity_more l made all long so_far = append_assoc made (from_be_bytes w64 (first_eight l) ∷ []) (quantities_in (drop 8 l)) ∙ ap (λ m. made ++ m) (sym (quantities_from l long)) ∙ so_far

units_from : (v n : ℕ) (l : List ℕ) → 0 < n → units_in v n l ≡ unit_in v l ∷ units_in v (n - 1) (drop (unit_size v) l)
units_from v zero l some = absurd (omega (arith, some))
units_from v (suc n) l some = ap (λ k. unit_in v l ∷ units_in v k (drop (unit_size v) l)) (omega arith)

-- the bytes of the units that are left are those of one and those of the others
pub bytes_left : (size n i : ℕ) → i < n → size * (n - i) ≡ size + size * (n - (i + 1))
bytes_left size n i few = ap (λ k. size * k) (let e : n - i ≡ 1 + (n - (i + 1)) = omega (arith, few) in e) ∙ omega arith

pub unit_more : (v n i : ℕ) (l rest : List ℕ) (made new : List UnitRecord) (u : UnitRecord) → i < n → new ≡ made ++ u ∷ [] → u ≡ unit_in v rest
    → made ++ units_in v (n - i) rest ≡ units_in v n l → new ++ units_in v (n - (i + 1)) (drop (unit_size v) rest) ≡ units_in v n l
unit_more v n i l rest made new u few grown is so_far =
    let behind = drop (unit_size v) rest in
    let count : n - (i + 1) ≡ n - i - 1 = omega arith in
    let front : units_in v (n - i) rest ≡ unit_in v rest ∷ units_in v (n - i - 1) behind = units_from v (n - i) rest (omega (arith, few)) in
    ap (λ us. us ++ units_in v (n - (i + 1)) behind) grown ∙ ap (λ w. made ++ w ∷ [] ++ units_in v (n - (i + 1)) behind) is
    ∙ ap (λ k. made ++ unit_in v rest ∷ [] ++ units_in v k behind) count
    ∙ append_assoc made (unit_in v rest ∷ []) (units_in v (n - i - 1) behind) ∙ ap (λ us. made ++ us) (sym front) ∙ so_far

pub four_at : (l : List ℕ) (at : ℕ) → from_be_bytes w32 (get_or l at 0 ∷ get_or l (at + 1) 0 ∷ get_or l (at + 2) 0 ∷ get_or l (at + 3) 0 ∷ []) ≡ from_be_bytes w32 (drop at l)
four_at l at =
    let first : get_or l at 0 ≡ get_or (drop at l) 0 0 = ap (λ n. get_or l n 0) (omega arith) ∙ sym (get_or-drop at l 0 0) in
    (λ i. from_be_bytes w32 (first i ∷ sym (get_or-drop at l 1 0) i ∷ sym (get_or-drop at l 2 0) i ∷ sym (get_or-drop at l 3 0) i ∷ []))
