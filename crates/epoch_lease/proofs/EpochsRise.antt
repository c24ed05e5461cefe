-- Over every history epochs rise.
use Rattle.std.proofs.Common.{◌≡◌, ◌⊎◌, inl, inr, ℕ, zero, suc, ◌+◌, ◌<◌, ◌≤◌, Bool, true, false, not, nat_lt, List, [], ◌∷◌, ◌++◌, length, slice_get, Option, None, Some, refl, sym, ◌∙◌, ap, subst, arith}
use Rattle.std.specs.Prelude.{if◌then◌else◌}
use Rattle.fuxi_terms.specs.Limits.{most_records}
use Rattle.epoch_lease.specs.declared.event.LeaseEvent.TheVariants.{Acquire, Renew, Release, Expire}
use Rattle.epoch_lease.specs.declared.event.LeaseOut.TheVariants.{Granted, NoEpoch, HardFull, Renewed, Released, NotHolder}
use Rattle.epoch_lease.specs.Leases.{LeaseState, Stepped, becomes, granted, freed, acquired, expired, holds, greatest_epoch}
use Rattle.epoch_lease.specs.Histories.{Episode, Answers, Opens, Stops, Tenure, KeepHold, state_after, state_behind, tenure_in, tenures_of, all_tenures, AreBetween, EpochsRise, HasOneHolder}

-- A episode tenures nothing, and the last epoch does not fall; or it tenures the next epoch, which is the last one then
pub data Granting (s after : LeaseState) (tenures : List Tenure) : Type 0 where
  Nothing : tenures ≡ [] → s.last ≤ after.last → Granting s after tenures
  Next : (h : ℕ) → tenures ≡ record { holder = h; epoch = s.last + 1 } ∷ [] → after.last ≡ s.last + 1 → Granting s after tenures

not_fallen : (s after : LeaseState) (tenures : List Tenure) → Granting s after tenures → s.last ≤ after.last
not_fallen s after tenures (Nothing none least) = least
not_fallen s after tenures (Next h one next) = omega (arith, next)

acquiring : (s : LeaseState) (h : ℕ) (held : Option (ℕ × ℕ)) → Granting s (acquired s h held).state (tenure_in h (acquired s h held).answer)
acquiring s h (Some held) = Nothing refl (omega arith)
acquiring s h None = by (nat_lt s.last greatest_epoch) (nat_lt s.records most_records)
  where
    tested : Bool → Bool → Stepped
    tested b c = if not b then becomes s NoEpoch else (if not c then becomes s (HardFull most_records) else becomes (granted s h) (Granted (s.last + 1)))

    by : (b c : Bool) → Granting s (tested b c).state (tenure_in h (tested b c).answer)
    by true true = Next h refl refl
    by true false = Nothing refl (omega arith)
    by false c = Nothing refl (omega arith)

releasing : (s : LeaseState) (b : Bool) (e : ℕ) → s.last ≤ (if b then becomes (freed s) (Released e) else becomes s (NotHolder s.last)).state.last
releasing s true e = omega arith
releasing s false e = omega arith

renewing : (s : LeaseState) (b : Bool) (e : ℕ) → s.last ≤ (if b then becomes s (Renewed e) else becomes s (NotHolder s.last)).state.last
renewing s true e = omega arith
renewing s false e = omega arith

expiring : (s : LeaseState) (held : Option (ℕ × ℕ)) → s.last ≤ (expired s held).state.last
expiring s None = omega arith
expiring s (Some held) = omega arith

granting : (s : LeaseState) (episode : Episode) → Granting s (state_after s episode) (tenures_of s episode)
granting s (Answers (Acquire h)) = acquiring s h s.holder
granting s (Answers (Renew h e)) = Nothing refl (renewing s (holds s.holder h e) e)
granting s (Answers (Release h e)) = Nothing refl (releasing s (holds s.holder h e) e)
granting s (Answers Expire) = Nothing refl (expiring s s.holder)
granting s Opens = Nothing refl (omega arith)
granting s (Stops h true) = Nothing refl (not_fallen s (acquired s h s.holder).state _ (acquiring s h s.holder))
granting s (Stops h false) = Nothing refl (omega arith)

-- the last epoch never falls
pub never_falls : (s : LeaseState) (episodes : List Episode) → s.last ≤ (state_behind s episodes).last
never_falls s [] = omega arith
never_falls s (episode ∷ episodes) = omega (arith, not_fallen s (state_after s episode) (tenures_of s episode) (granting s episode), never_falls (state_after s episode) episodes)

-- of tenures that are none or the next one, and of those behind them
put_between : (s after : LeaseState) (most : ℕ) (now more : List Tenure) → Granting s after now → after.last ≤ most → AreBetween after.last most more → AreBetween s.last most (now ++ more)
put_between s after most now more (Nothing none least) up all =
    subst (λ gs. AreBetween s.last most (gs ++ more)) (sym none) (record { each = λ i a is. let b = all.each i a is in (omega (arith, b.0), b.1) })
put_between s after most now more (Next h one next) up all = subst (λ gs. AreBetween s.last most (gs ++ more)) (sym one) (record { each = each })
  where
    each : (i : ℕ) (a : Tenure) → slice_get (record { holder = h; epoch = s.last + 1 } ∷ more) i ≡ Some a → (s.last < a.epoch) × (a.epoch ≤ most)
    each zero a is = let e : s.last + 1 ≡ a.epoch = cc in (omega (arith, e), omega (arith, e, up, next))
    each (suc i) a is = let b = all.each i a is in (omega (arith, b.0, next), b.1)

pub all_between : (s : LeaseState) (episodes : List Episode) → AreBetween s.last (state_behind s episodes).last (all_tenures s episodes)
all_between s [] = record { each = λ i a is. absurd (let no : ⊥ = cc in no) }
all_between s (episode ∷ episodes) = put_between s (state_after s episode) _ (tenures_of s episode) _ (granting s episode) (never_falls (state_after s episode) episodes) (all_between (state_after s episode) episodes)

put_rising : (s after : LeaseState) (most : ℕ) (now more : List Tenure) → Granting s after now → AreBetween after.last most more → EpochsRise more → EpochsRise (now ++ more)
put_rising s after most now more (Nothing none least) all rise = subst (λ gs. EpochsRise (gs ++ more)) (sym none) rise
put_rising s after most now more (Next h one next) all rise = subst (λ gs. EpochsRise (gs ++ more)) (sym one) (record { each = each })
  where
    each : (i j : ℕ) (a b : Tenure) → i < j → slice_get (record { holder = h; epoch = s.last + 1 } ∷ more) i ≡ Some a → slice_get (record { holder = h; epoch = s.last + 1 } ∷ more) j ≡ Some b → a.epoch < b.epoch
    each i zero a b before is_a is_b = absurd (omega (arith, before))
    each zero (suc j) a b before is_a is_b = let e : s.last + 1 ≡ a.epoch = cc in omega (arith, e, next, (all.each j b is_b).0)
    each (suc i) (suc j) a b before is_a is_b = rise.each i j a b (omega (arith, before)) is_a is_b

pub all_rise : (s : LeaseState) (episodes : List Episode) → EpochsRise (all_tenures s episodes)
all_rise s [] = record { each = λ i j a b before is_a is_b. absurd (let no : ⊥ = cc in no) }
all_rise s (episode ∷ episodes) = let after = state_after s episode in put_rising s after (state_behind after episodes).last (tenures_of s episode) (all_tenures after episodes) (granting s episode) (all_between after episodes) (all_rise after episodes)

-- epochs that rise are one holder's each
pub has_one_holder : (tenures : List Tenure) → EpochsRise tenures → HasOneHolder tenures
has_one_holder tenures rise = record { each = λ i j a b is_a is_b same. by i j a b is_a is_b same (order i j) }
  where
    order : (i j : ℕ) → (i < j) ⊎ ((i ≡ j) ⊎ (j < i))
    order zero zero = inr (inl refl)
    order zero (suc j) = inl (omega arith)
    order (suc i) zero = inr (inr (omega arith))
    order (suc i) (suc j) = elim (order i j) [ inl less ↦ inl (omega (arith, less)) | inr rest ↦ elim rest [ inl same ↦ inr (inl (ap suc same)) | inr more ↦ inr (inr (omega (arith, more))) ] ]

    by : (i j : ℕ) (a b : Tenure) → slice_get tenures i ≡ Some a → slice_get tenures j ≡ Some b → a.epoch ≡ b.epoch → (i < j) ⊎ ((i ≡ j) ⊎ (j < i)) → (i ≡ j) × (a.holder ≡ b.holder)
    by i j a b is_a is_b same (inl less) = absurd (omega (arith, same, rise.each i j a b less is_a is_b))
    by i j a b is_a is_b same (inr (inl equal)) =
        let one : ◌≡◌ {A = Option Tenure} (Some a) (Some b) = sym is_a ∙ ap (slice_get tenures) equal ∙ is_b in
        let grant : a ≡ b = cc in
        (equal, ap (λ (g : Tenure). g.holder) grant)
    by i j a b is_a is_b same (inr (inr more)) = absurd (omega (arith, same, rise.each j i b a more is_b is_a))

renewed_state : (s : LeaseState) (b : Bool) (e : ℕ) → (if b then becomes s (Renewed e) else becomes s (NotHolder s.last)).state ≡ s
renewed_state s true e = refl
renewed_state s false e = refl

-- while somebody holds and nobody lets go, nothing is granted
held_still : (s : LeaseState) (held : ℕ × ℕ) (episodes : List Episode) → s.holder ≡ Some held → KeepHold episodes → all_tenures s episodes ≡ []
held_still s held [] is keep = refl
held_still s held (Answers (Acquire h) ∷ episodes) is keep =
    ap (λ (o : Option (ℕ × ℕ)). tenure_in h (acquired s h o).answer ++ all_tenures (acquired s h o).state episodes) is ∙ held_still s held episodes is keep.1
held_still s held (Answers (Renew h e) ∷ episodes) is keep = ap (λ (x : LeaseState). all_tenures x episodes) (renewed_state s (holds s.holder h e) e) ∙ held_still s held episodes is keep.1
held_still s held (Answers (Release h e) ∷ episodes) is keep = absurd keep.0
held_still s held (Answers Expire ∷ episodes) is keep = absurd keep.0
held_still s held (Opens ∷ episodes) is keep = absurd keep.0
held_still s held (Stops h written ∷ episodes) is keep = absurd keep.0

-- an epoch that is asked for, with at most one grant behind it where it is refused
asked_once : (s : LeaseState) (h : ℕ) (episodes : List Episode) → KeepHold episodes → length (all_tenures s episodes) ≤ 1 → (held : Option (ℕ × ℕ)) → length (tenure_in h (acquired s h held).answer ++ all_tenures (acquired s h held).state episodes) ≤ 1
asked_once s h episodes keep few (Some held) = few
asked_once s h episodes keep few None = tested (nat_lt s.last greatest_epoch) (nat_lt s.records most_records)
  where
    count : Stepped → ℕ
    count x = length (tenure_in h x.answer ++ all_tenures x.state episodes)

    tested : (b c : Bool) → count (if not b then becomes s NoEpoch else (if not c then becomes s (HardFull most_records) else becomes (granted s h) (Granted (s.last + 1)))) ≤ 1
    tested true true = omega (arith, ap length (held_still (granted s h) (h, s.last + 1) episodes refl keep))
    tested true false = few
    tested false c = few

pub one_at_most : (s : LeaseState) (episodes : List Episode) → KeepHold episodes → length (all_tenures s episodes) ≤ 1
one_at_most s [] keep = omega arith
one_at_most s (Answers (Acquire h) ∷ episodes) keep = asked_once s h episodes keep.1 (one_at_most s episodes keep.1) s.holder
one_at_most s (Answers (Renew h e) ∷ episodes) keep = subst (λ (x : LeaseState). length (all_tenures x episodes) ≤ 1) (sym (renewed_state s (holds s.holder h e) e)) (one_at_most s episodes keep.1)
one_at_most s (Answers (Release h e) ∷ episodes) keep = absurd keep.0
one_at_most s (Answers Expire ∷ episodes) keep = absurd keep.0
one_at_most s (Opens ∷ episodes) keep = absurd keep.0
one_at_most s (Stops h written ∷ episodes) keep = absurd keep.0
