-- What a crash leaves, over several calls of a disk.
use Rattle.std.proofs.Common.{◌≡◌, ℕ, List, [], ◌∷◌, ◌++◌, Option, Some, None, refl, sym, ◌∙◌, ap, subst}
use Rattle.std.specs.List.{AllByRecursion}
use Rattle.fuxi_io.specs.Disks.{Moment, Told, Leaves, LeavesAlways, WhereTold}

pub both_where : (R S : Told → Told → Type 0) (a b : Option Told) → WhereTold R a b → WhereTold S a b → WhereTold (λ old new. R old new × S old new) a b
both_where R S None b r s = tt
both_where R S (Some old) None r s = elim r [ ]
both_where R S (Some old) (Some new) r s = (r, s)

pub then_where : {R S U : Told → Told → Type 0} (a b c : Option Told) → ((old mid new : Told) → R old mid → S mid new → U old new) → WhereTold R a b → WhereTold S b c → WhereTold U a c
then_where None b c f r s = tt
then_where (Some old) None c f r s = elim r [ ]
then_where (Some old) (Some mid) None f r s = elim s [ ]
then_where (Some old) (Some mid) (Some new) f r s = f old mid new r s

all_both : (P : List ℕ → Type 0) (ms ns : List Moment) → AllByRecursion (Leaves P) ms → AllByRecursion (Leaves P) ns → AllByRecursion (Leaves P) (ms ++ ns)
all_both P [] ns a b = b
all_both P (m ∷ ms) ns a b = (a.0, all_both P ms ns a.1 b)

put_together : (ms ns rest : List Moment) → ms ++ (ns ++ rest) ≡ (ms ++ ns) ++ rest
put_together [] ns rest = refl
put_together (m ∷ ms) ns rest = ap (λ l. m ∷ l) (put_together ms ns rest)

pub leaves_both : (P : List ℕ → Type 0) (old mid new : Told) → LeavesAlways P old mid → LeavesAlways P mid new → LeavesAlways P old new
leaves_both P old mid new l m = record {
  since = m.since ++ l.since;
  reached = m.reached ∙ ap (λ rest. m.since ++ rest) l.reached ∙ put_together m.since l.since (old.now ∷ old.before);
  first = l.first;
  each = all_both P m.since l.since m.each l.each;
}

-- at the last moment too
pub leaves_last : (P : List ℕ → Type 0) (old new : Told) → LeavesAlways P old new → Leaves P new.now
leaves_last P old new l = by l.since l.reached l.each
  where
    by : (since : List Moment) → new.now ∷ new.before ≡ since ++ old.now ∷ old.before → AllByRecursion (Leaves P) since → Leaves P new.now
    by [] is all = let same : new.now ≡ old.now = cc in subst (Leaves P) (sym same) l.first
    by (m ∷ ms) is all = let same : new.now ≡ m = cc in subst (Leaves P) (sym same) all.0
