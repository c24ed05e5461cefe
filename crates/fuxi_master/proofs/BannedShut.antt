-- The banned machines are shut, one after the other.
use Rattle.std.proofs.Common.{◌≡◌, ℕ, ◌+◌, ◌<◌, ◌≤◌, Bool, true, false, nat_eq, nat_lt, List, length, get_or, map, set, replicate, refl, sym, ◌∙◌, ap, subst, arith}
use Rattle.std.specs.Prelude.{◌&&◌}
use Rattle.std.proofs.lemmas.Bool.Decides.{nat_tests}
use Rattle.std.proofs.lemmas.List.{get_or-replicate, get_or-set_other, get_or-set_same, length-replicate, length-set}
use Rattle.fuxi_terms.specs.Lists.{below}
use Rattle.fuxi_terms.specs.Numbers.{has_number}
use Rattle.fuxi_terms.proofs.Booleans.{and_true, number_is, numbers_differ}
use Rattle.spec_roles.specs.Votes.{VotesRecord, is_shut}
use Rattle.fuxi_master.proofs.Below.{all_below, by_places, fails_below, none_below, same_below}

-- there are no votes, and of the machines below a number those that are banned are shut
pub record AreShut (bans : List ℕ) (machines n : ℕ) (v : VotesRecord) : Type 0 where
  pub none : v.votes ≡ replicate machines 0
  pub long : length v.shut ≡ machines
  pub each : (m : ℕ) → m < machines → is_shut v m ≡ (nat_lt m n && has_number m bans)

module _ (bans : List ℕ) (machines : ℕ) where
  pub none_shut : (v : VotesRecord) → v ≡ record { votes = replicate machines 0; shut = replicate machines false } → AreShut bans machines 0 v
  none_shut v e = record {
    none = ap (λ (x : VotesRecord). x.votes) e;
    long = ap (λ (x : VotesRecord). length x.shut) e ∙ length-replicate machines false;
    each = λ m low. ap (λ (x : VotesRecord). is_shut x m) e ∙ get_or-replicate machines m false false low ∙ sym (none_below m (has_number m bans));
  }

  module _ (n : ℕ) (v : VotesRecord) (h : AreShut bans machines n v) where
    pub one_shut : (new : VotesRecord) → n < machines → has_number n bans ≡ true → new ≡ record v { shut = set v.shut n true } → AreShut bans machines (n + 1) new
    one_shut new low banned e = record {
      none = ap (λ (x : VotesRecord). x.votes) e ∙ h.none;
      long = ap (λ (x : VotesRecord). length x.shut) e ∙ length-set v.shut n true ∙ h.long;
      each = λ m lt. ap (λ (x : VotesRecord). is_shut x m) e ∙ at m lt (nat_eq m n) refl;
    }
      where
        here : get_or (set v.shut n true) n false ≡ (nat_lt n (n + 1) && has_number n bans)
        here =
            let long = h.long in
            get_or-set_same v.shut n true false (omega (arith, low, long))
            ∙ sym (and_true (nat_lt n (n + 1)) (has_number n bans) (let t : nat_lt n (n + 1) ≡ true = grind (arith, nat_tests) in t) banned)

        at : (m : ℕ) → m < machines → (b : Bool) → nat_eq m n ≡ b → get_or (set v.shut n true) m false ≡ (nat_lt m (n + 1) && has_number m bans)
        at m lt true same = subst (λ k. get_or (set v.shut n true) k false ≡ (nat_lt k (n + 1) && has_number k bans)) (sym (number_is m n same)) here
        at m lt false other = get_or-set_other v.shut n m true false (numbers_differ m n other) ∙ h.each m lt ∙ ap (λ t. t && has_number m bans) (same_below m n other)

    pub one_usable : has_number n bans ≡ false → AreShut bans machines (n + 1) v
    one_usable usable = record { none = h.none; long = h.long; each = λ m lt. h.each m lt ∙ fails_below (λ k. has_number k bans) n m usable }

  pub all_shut : (n : ℕ) (v : VotesRecord) → machines ≤ n → AreShut bans machines n v → v ≡ record { votes = replicate machines 0; shut = map (λ m. has_number m bans) (below machines) }
  all_shut n v past h =
      let flags : v.shut ≡ map (λ m. has_number m bans) (below machines) =
      by_places machines (λ m. has_number m bans) v.shut false h.long (λ m lt. h.each m lt ∙ all_below m n (has_number m bans) (omega (arith, lt, past))) in
      λ i. record { votes = h.none i; shut = flags i }
