-- The ends of the channels with which a master starts.
use Rattle.std.proofs.Common.{◌≡◌, ℕ, zero, suc, ◌+◌, List, [], ◌∷◌, ◌++◌, length, Option, Some, None, slice_get, refl, sym, ◌∙◌, ap, subst, arith}
use Rattle.std.specs.Prelude.{is_some, IfSome}
use Rattle.std.specs.List.{AllByRecursion}
use Rattle.std.proofs.lemmas.List.{length-append}
use Rattle.fuxi_terms.specs.Jobs.{KnownJob, is_known}
use Rattle.ledger_updates.specs.AllShown.{Down, App}
use Rattle.fuxi_master.specs.MasterStarts.{IsDownStarted, IsAppStarted, AreAppsStarted}

-- as many ends of channels with agents
pub record AreDownsStarted (epoch n : ℕ) (sides : List Down) : Type 0 where
  pub wide : length sides ≡ n
  pub each : AllByRecursion (IsDownStarted epoch) sides

-- an item that is pushed stands at the end
each_pushed : {A : Type 0} (P : ℕ → A → Type 0) (xs : List A) (x : A) → P (length xs) x → ((k : ℕ) (y : A) → slice_get xs k ≡ Some y → P k y) → (k : ℕ) (y : A) → slice_get (xs ++ x ∷ []) k ≡ Some y → P k y
each_pushed P [] x here others zero y e = let same : x ≡ y = cc in subst (P 0) same here
each_pushed P [] x here others (suc k) y e = cc
each_pushed P (z ∷ xs) x here others zero y e = others 0 y e
each_pushed P (z ∷ xs) x here others (suc k) y e = each_pushed (λ i. P (suc i)) xs x here (λ i w f. others (suc i) w f) k y e

from_some : (P : App → Type 0) (o : Option App) → IfSome o P → (d : App) → o ≡ Some d → P d
from_some P None h d e = cc
from_some P (Some c) h d e = let same : c ≡ d = cc in subst P same h

pub slots_more : (epoch : ℕ) (jobs : List KnownJob) (n : ℕ) (slots new : List (Option App)) (o : Option App) → new ≡ slots ++ o ∷ [] → is_some o ≡ is_known jobs n → IfSome o (IsAppStarted epoch)
    → AreAppsStarted epoch jobs n slots → AreAppsStarted epoch jobs (n + 1) new
slots_more epoch jobs n slots new o is known started h = subst (AreAppsStarted epoch jobs (n + 1)) (sym is) (record {
  wide = let a = length-append slots (o ∷ []) in let w = h.wide in omega (arith, a, w);
  slots_are = each_pushed (λ a (p : Option App). is_some p ≡ is_known jobs a) slots o (known ∙ ap (is_known jobs) (sym h.wide)) h.slots_are;
  each = λ a d e. each_pushed (λ _ (p : Option App). (d : App) → p ≡ Some d → IsAppStarted epoch d) slots o (from_some (IsAppStarted epoch) o started) (λ k p f d q. h.each k d (f ∙ ap Some q)) a (Some d) e d refl;
})
