-- Texts that grow at their end.
use Rattle.std.proofs.Common.{◌≡◌, ℕ, List, [], ◌∷◌, ◌++◌, length, take, refl, sym, ◌∙◌, subst, append-nil}
use Rattle.std.proofs.Math.Seq.{take-append_seam}
use Rattle.schedule_text.specs.Writing.{Begins}

pub begins_more : (old new more : List ℕ) → new ≡ old ++ more → Begins old new
begins_more old new more e = subst (λ l. take (length old) l ≡ old) (sym e) (take-append_seam old more)

pub begins_same : (old new : List ℕ) → new ≡ old → Begins old new
begins_same old new e = begins_more old new [] (e ∙ sym (append-nil old))

front_of_front : (old more new : List ℕ) → take (length (old ++ more)) new ≡ old ++ more → take (length old) new ≡ old
front_of_front [] more new e = refl
front_of_front (x ∷ old) more [] e = cc
front_of_front (x ∷ old) more (y ∷ new) e =
    let first : y ≡ x = cc in
    let rest : take (length (old ++ more)) new ≡ old ++ more = cc in
    λ i. first i ∷ front_of_front old more new rest i

-- what began with more began with what was there before
pub begins_through : (old more mid new : List ℕ) → mid ≡ old ++ more → Begins mid new → Begins old new
begins_through old more mid new e h = front_of_front old more new (subst (λ l. take (length l) new ≡ l) e h)
