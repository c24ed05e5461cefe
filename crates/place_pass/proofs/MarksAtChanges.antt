-- The marks of machines, of which a demand's changes are told one by one.
use Rattle.std.proofs.Common.{◌≡◌, ℕ, ℤ, ◌+◌, ◌<◌, Bool, true, false, cond, List, [], get_or, length, take, refl, sym, ◌∙◌, ap, subst, inl, inr, ◌⊎◌, slice_get, Some}
use Rattle.fuxi_terms.specs.Cluster.{ClusterRecord}
use Rattle.fuxi_terms.specs.Counts.{count}
use Rattle.fuxi_terms.specs.declared.Key.{Key}
use Rattle.fuxi_terms.specs.Keys.{key_cmp}
use Rattle.std.specs.Ordering.{eq_by_cmp}
use Rattle.fuxi_terms.specs.TallyKeys.{avoid_key}
use Rattle.place_pass.specs.Bounds.{MarkRecord, reset_mark, lowered_mark}
use Rattle.place_pass.specs.Cells.{Cell, Lifts, no_cell}
use Rattle.place_pass.specs.Placers.{is_named}
use Rattle.place_pass.specs.Candidates.{IsAsked}
use Rattle.place_pass.specs.DemandScopes.{AsksSameBut}
use Rattle.place_pass.proofs.DemandScopesLemmas.{key_is, named_more}
use Rattle.place_pass.proofs.WaitingLinesLemmas.{either_one}
use Rattle.place_pass.proofs.Places.{counted_at}

-- a mark after a demand was told at the keys that changes name
pub record IsAskedAt (es : List (Key × ℕ)) (xs : List Cell) (cs : List (Key × ℤ)) (m : ℕ) (before after : MarkRecord) : Type 0 where
  pub lifted : Bool
  pub is : after ≡ cond lifted (reset_mark before.until) (lowered_mark before)
  pub some : lifted ≡ true → Lifts es xs m
  pub none : lifted ≡ false → (u : ℕ) → u < length xs → is_named (avoid_key u m) cs ≡ true → 0 < get_or (get_or xs u no_cell).avoided m 0 → 0 < count key_cmp es (avoid_key u m)

pub asked_none : (es : List (Key × ℕ)) (xs : List Cell) (m : ℕ) (before after : MarkRecord) → after ≡ lowered_mark before → IsAskedAt es xs [] m before after
asked_none es xs m before after e = record { lifted = false; is = e; some = λ f. cc; none = λ _ u lt f. cc }

module _ (es : List (Key × ℕ)) (xs : List Cell) (cs : List (Key × ℤ)) (i : ℕ) (d : Key × ℤ) (is : slice_get cs i ≡ Some d) (m : ℕ) (before now : MarkRecord) (h : IsAskedAt es xs (take i cs) m before now) where
  pub asked_more : ((u : ℕ) → d.0 ≡ avoid_key u m → u < length xs → 0 < get_or (get_or xs u no_cell).avoided m 0 → 0 < count key_cmp es (avoid_key u m)) → IsAskedAt es xs (take (i + 1) cs) m before now
  asked_more here = record {
    lifted = h.lifted;
    is = h.is;
    some = h.some;
    none = λ f u lt named was. by f u lt was (either_one (is_named (avoid_key u m) (take i cs)) (eq_by_cmp key_cmp (avoid_key u m) d.0) (sym (named_more cs i d (avoid_key u m) is) ∙ named));
  }
    where
      by : h.lifted ≡ false → (u : ℕ) → u < length xs → 0 < get_or (get_or xs u no_cell).avoided m 0 → (is_named (avoid_key u m) (take i cs) ≡ true) ⊎ (eq_by_cmp key_cmp (avoid_key u m) d.0 ≡ true) → 0 < count key_cmp es (avoid_key u m)
      by f u lt was (inl named) = h.none f u lt named was
      by f u lt was (inr same) = here u (sym (key_is (avoid_key u m) d.0 same)) lt was

  until_kept : (b : Bool) → (cond b (reset_mark before.until) (lowered_mark before)).until ≡ before.until
  until_kept true = refl
  until_kept false = refl

  pub asked_lifted : (after : MarkRecord) → Lifts es xs m → after ≡ reset_mark now.until → IsAskedAt es xs (take (i + 1) cs) m before after
  asked_lifted after l e = record {
    lifted = true;
    is = e ∙ ap reset_mark (ap (λ (k : MarkRecord). k.until) h.is ∙ until_kept h.lifted);
    some = λ _. l;
    none = λ f. cc;
  }

pub asked_all : (c : ClusterRecord) (es : List (Key × ℕ)) (xs : List Cell) (cs : List (Key × ℤ)) (m : ℕ) (before after : MarkRecord) → AsksSameBut cs c es xs → m < length c.machines → IsAskedAt es xs cs m before after → IsAsked es xs m before after
asked_all c es xs cs m before after same lt h = record {
  lifted = h.lifted;
  is = h.is;
  some = h.some;
  none = λ f u l was. by f u l was (is_named (avoid_key u m) cs) refl;
}
  where
    by : h.lifted ≡ false → (u : ℕ) → u < length xs → 0 < get_or (get_or xs u no_cell).avoided m 0 → (t : Bool) → is_named (avoid_key u m) cs ≡ t → 0 < count key_cmp es (avoid_key u m)
    by f u l was true t = h.none f u l t was
    by f u l was false t = let e = same (avoid_key u m) l t in let at = counted_at (λ n. count key_cmp es (avoid_key u n)) (length c.machines) m lt in subst (λ n. 0 < n) (e ∙ at) was
