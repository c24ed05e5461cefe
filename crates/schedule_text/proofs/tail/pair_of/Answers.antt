use Rattle.std.proofs.Common.{◌≡◌, ◌+◌, ◌*◌, ◌-◌, ◌/◌, ◌%◌, ◌<◌, ℕ, zero, suc, Bool, true, ◌&&◌, T, eqb, get_or, eqb→eq, eq-zero-or-pos, inl, inr, arith}
use lib.Ieee.Fits.{and_l, and_r}
use Rattle.schedule_text.specs.declared.tail.TheConstants.{PAIRS}
use Rattle.schedule_text.proofs.tail.pair_of.Goals as goal

abbrev are_pairs : ℕ → Bool
are_pairs zero = true
are_pairs (suc n) = (eqb (get_or PAIRS (2 * n) 0) (48 + n / 10) && eqb (get_or PAIRS (2 * n + 1) 0) (48 + n % 10)) && are_pairs n

below : (end n : ℕ) → T (are_pairs end) → n < end → (get_or PAIRS (2 * n) 0 ≡ 48 + n / 10) × (get_or PAIRS (2 * n + 1) 0 ≡ 48 + n % 10)
below zero n t less = absurd (omega arith)
below (suc end) n t less =
    elim (eq-zero-or-pos (end - n)) [
      | inl last ↦ let e : n ≡ end = omega arith in let one = and_l _ (are_pairs end) t in rw e (eqb→eq _ _ (and_l _ _ one), eqb→eq _ _ (and_r _ _ one))
      | inr more ↦ below end n (and_r _ (are_pairs end) t) (omega arith)
    ]

pub returns-clause-tens : goal.returns-clause-tens
returns-clause-tens c = (below 100 c.args.number tt c.requires).0

pub returns-clause-ones : goal.returns-clause-ones
returns-clause-ones c = (below 100 c.args.number tt c.requires).1
