-- A set of numbers that is kept as a mark for each.
use Rattle.std.proofs.Common.{◌≡◌, inl, inr, ℕ, zero, suc, ◌+◌, ◌-◌, ◌<◌, ◌≤◌, Bool, true, false, cond, not, nat_eq, nat_lt, List, [], ◌∷◌, length, get_or, set, replicate, refl, sym, ◌∙◌, ap, arith}
use Rattle.std.specs.Prelude.{◌||◌}
use Rattle.std.proofs.lemmas.Bool.{cases_eq}
use Rattle.std.proofs.lemmas.Bool.Decides.{nat_tests}
use Rattle.fuxi_terms.specs.Numbers.{has_number, with_number, without_number}
use Rattle.hard_state.specs.Bans.{marked_from}

pub none_marked : (n count : ℕ) → marked_from n (replicate count false) ≡ []
none_marked n zero = refl
none_marked n (suc count) = none_marked (n + 1) count

-- a number below the first is none of those that are marked
has_lower : (n m : ℕ) (marks : List Bool) → m < n → has_number m (marked_from n marks) ≡ false
has_lower n m [] lower = refl
has_lower n m (true ∷ marks) lower =
    let other : nat_eq m n ≡ false = grind (arith, nat_tests) in
    ap (λ b. b || has_number m (marked_from (n + 1) marks)) other ∙ has_lower (n + 1) m marks (omega (arith, lower))
has_lower n m (false ∷ marks) lower = has_lower (n + 1) m marks (omega (arith, lower))

mark_behind : (mark : Bool) (marks : List Bool) (n m : ℕ) → n < m → get_or marks (m - (n + 1)) false ≡ get_or (mark ∷ marks) (m - n) false
mark_behind mark marks n m later = ap (λ k. get_or (mark ∷ marks) k false) (let e : suc (m - (n + 1)) ≡ m - n = omega (arith, later) in e)

mark_here : (mark : Bool) (marks : List Bool) (n m : ℕ) → m ≡ n → get_or (mark ∷ marks) (m - n) false ≡ mark
mark_here mark marks n m same = ap (λ k. get_or (mark ∷ marks) k false) (let e : m - n ≡ 0 = omega (arith, same) in e)

has_here : (mark : Bool) (marks : List Bool) (n m : ℕ) → m ≡ n → has_number m (marked_from n (mark ∷ marks)) ≡ mark
has_here true marks n m same =
    let is : nat_eq m n ≡ true = grind (arith, nat_tests) in
    ap (λ b. b || has_number m (marked_from (n + 1) marks)) is
has_here false marks n m same = has_lower (n + 1) m marks (omega (arith, same))

has_behind : (mark : Bool) (marks : List Bool) (n m : ℕ) → n < m → has_number m (marked_from n (mark ∷ marks)) ≡ has_number m (marked_from (n + 1) marks)
has_behind true marks n m later =
    let other : nat_eq m n ≡ false = grind (arith, nat_tests) in
    ap (λ b. b || has_number m (marked_from (n + 1) marks)) other
has_behind false marks n m later = refl

pub has_marked : (n m : ℕ) (marks : List Bool) → n ≤ m → has_number m (marked_from n marks) ≡ get_or marks (m - n) false
has_marked n m [] from = refl
has_marked n m (mark ∷ marks) from = elim (cases_eq m n) [
  | inl same ↦ has_here mark marks n m same ∙ sym (mark_here mark marks n m same)
  | inr other ↦
      let later : n < m = omega (arith, from, other) in
      has_behind mark marks n m later ∙ has_marked (n + 1) m marks (omega (arith, later)) ∙ mark_behind mark marks n m later
]

-- a number below the first comes first
with_lower : (n m : ℕ) (marks : List Bool) → m < n → with_number m (marked_from n marks) ≡ m ∷ marked_from n marks
with_lower n m [] lower = refl
with_lower n m (true ∷ marks) lower =
    let below : nat_lt m n ≡ true = grind (arith, nat_tests) in
    ap (λ b. cond b (m ∷ n ∷ marked_from (n + 1) marks) (cond (nat_eq m n) (n ∷ marked_from (n + 1) marks) (n ∷ with_number m (marked_from (n + 1) marks)))) below
with_lower n m (false ∷ marks) lower = with_lower (n + 1) m marks (omega (arith, lower))

set_here : (mark new : Bool) (marks : List Bool) (n m : ℕ) → m ≡ n → set (mark ∷ marks) (m - n) new ≡ new ∷ marks
set_here mark new marks n m same = ap (λ k. set (mark ∷ marks) k new) (let e : m - n ≡ 0 = omega (arith, same) in e)

set_behind : (mark new : Bool) (marks : List Bool) (n m : ℕ) → n < m → set (mark ∷ marks) (m - n) new ≡ mark ∷ set marks (m - (n + 1)) new
set_behind mark new marks n m later = ap (λ k. set (mark ∷ marks) k new) (let e : m - n ≡ suc (m - (n + 1)) = omega (arith, later) in e)

with_here : (mark : Bool) (marks : List Bool) (n m : ℕ) → m ≡ n → with_number m (marked_from n (mark ∷ marks)) ≡ n ∷ marked_from (n + 1) marks
with_here true marks n m same =
    let not_below : nat_lt m n ≡ false = grind (arith, nat_tests) in
    let is : nat_eq m n ≡ true = grind (arith, nat_tests) in
    let rest = marked_from (n + 1) marks in
    ap (λ (p : Bool × Bool). cond p.0 (m ∷ n ∷ rest) (cond p.1 (n ∷ rest) (n ∷ with_number m rest))) (λ i. (not_below i, is i))
with_here false marks n m same = with_lower (n + 1) m marks (omega (arith, same)) ∙ ap (λ k. k ∷ marked_from (n + 1) marks) same

with_behind : (mark : Bool) (marks new : List Bool) (n m : ℕ) → n < m → with_number m (marked_from (n + 1) marks) ≡ marked_from (n + 1) new → with_number m (marked_from n (mark ∷ marks)) ≡ marked_from n (mark ∷ new)
with_behind true marks new n m later more =
    let not_below : nat_lt m n ≡ false = grind (arith, nat_tests) in
    let other : nat_eq m n ≡ false = grind (arith, nat_tests) in
    let rest = marked_from (n + 1) marks in
    ap (λ (p : Bool × Bool). cond p.0 (m ∷ n ∷ rest) (cond p.1 (n ∷ rest) (n ∷ with_number m rest))) (λ i. (not_below i, other i)) ∙ ap (λ l. n ∷ l) more
with_behind false marks new n m later more = more

pub with_marked : (n m : ℕ) (marks : List Bool) → n ≤ m → m - n < length marks → with_number m (marked_from n marks) ≡ marked_from n (set marks (m - n) true)
with_marked n m [] from within = absurd (omega (arith, within))
with_marked n m (mark ∷ marks) from within = elim (cases_eq m n) [
  | inl same ↦ with_here mark marks n m same ∙ ap (marked_from n) (sym (set_here mark true marks n m same))
  | inr other ↦
      let later : n < m = omega (arith, from, other) in
      with_behind mark marks (set marks (m - (n + 1)) true) n m later (with_marked (n + 1) m marks (omega (arith, later)) (omega (arith, later, within))) ∙ ap (marked_from n) (sym (set_behind mark true marks n m later))
]

without_lower : (n m : ℕ) (marks : List Bool) → m < n → without_number m (marked_from n marks) ≡ marked_from n marks
without_lower n m [] lower = refl
without_lower n m (true ∷ marks) lower =
    let other : nat_eq n m ≡ false = grind (arith, nat_tests) in
    let rest = without_number m (marked_from (n + 1) marks) in
    ap (λ b. cond (not b) (n ∷ rest) rest) other ∙ ap (λ l. n ∷ l) (without_lower (n + 1) m marks (omega (arith, lower)))
without_lower n m (false ∷ marks) lower = without_lower (n + 1) m marks (omega (arith, lower))

without_here : (mark : Bool) (marks : List Bool) (n m : ℕ) → m ≡ n → without_number m (marked_from n (mark ∷ marks)) ≡ marked_from (n + 1) marks
without_here true marks n m same =
    let is : nat_eq n m ≡ true = grind (arith, nat_tests) in
    let rest = without_number m (marked_from (n + 1) marks) in
    ap (λ b. cond (not b) (n ∷ rest) rest) is ∙ without_lower (n + 1) m marks (omega (arith, same))
without_here false marks n m same = without_lower (n + 1) m marks (omega (arith, same))

without_behind : (mark : Bool) (marks new : List Bool) (n m : ℕ) → n < m → without_number m (marked_from (n + 1) marks) ≡ marked_from (n + 1) new → without_number m (marked_from n (mark ∷ marks)) ≡ marked_from n (mark ∷ new)
without_behind true marks new n m later more =
    let other : nat_eq n m ≡ false = grind (arith, nat_tests) in
    let rest = without_number m (marked_from (n + 1) marks) in
    ap (λ b. cond (not b) (n ∷ rest) rest) other ∙ ap (λ l. n ∷ l) more
without_behind false marks new n m later more = more

pub without_marked : (n m : ℕ) (marks : List Bool) → n ≤ m → m - n < length marks → without_number m (marked_from n marks) ≡ marked_from n (set marks (m - n) false)
without_marked n m [] from within = absurd (omega (arith, within))
without_marked n m (mark ∷ marks) from within = elim (cases_eq m n) [
  | inl same ↦ without_here mark marks n m same ∙ ap (marked_from n) (sym (set_here mark false marks n m same))
  | inr other ↦
      let later : n < m = omega (arith, from, other) in
      without_behind mark marks (set marks (m - (n + 1)) false) n m later (without_marked (n + 1) m marks (omega (arith, later)) (omega (arith, later, within))) ∙ ap (marked_from n) (sym (set_behind mark false marks n m later))
]

-- the same as the code reads and writes them
pub marked_at : (marks : List Bool) (m : ℕ) → get_or marks m false ≡ has_number m (marked_from 0 marks)
marked_at marks m = sym (has_marked 0 m marks (omega arith) ∙ ap (λ k. get_or marks k false) (omega arith))

not_beyond : (marks : List Bool) (m : ℕ) → length marks ≤ m → get_or marks m false ≡ false
not_beyond [] m beyond = refl
not_beyond (mark ∷ marks) zero beyond = absurd (omega (arith, beyond))
not_beyond (mark ∷ marks) (suc m) beyond = not_beyond marks m (omega (arith, beyond))

pub none_beyond : (marks : List Bool) (m : ℕ) → length marks ≤ m → false ≡ has_number m (marked_from 0 marks)
none_beyond marks m beyond = sym (not_beyond marks m beyond) ∙ marked_at marks m

pub marked_more : (marks : List Bool) (m : ℕ) → m < length marks → marked_from 0 (set marks m true) ≡ with_number m (marked_from 0 marks)
marked_more marks m within = sym (with_marked 0 m marks (omega arith) (omega (arith, within)) ∙ ap (λ k. marked_from 0 (set marks k true)) (omega arith))

pub marked_fewer : (marks : List Bool) (m : ℕ) → m < length marks → marked_from 0 (set marks m false) ≡ without_number m (marked_from 0 marks)
marked_fewer marks m within = sym (without_marked 0 m marks (omega arith) (omega (arith, within)) ∙ ap (λ k. marked_from 0 (set marks k false)) (omega arith))
