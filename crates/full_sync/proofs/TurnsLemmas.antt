-- Marks of notes that are appended one at a time.
use Rattle.std.proofs.Common.{◌≡◌, ℕ, ◌+◌, List, [], ◌∷◌, ◌++◌, map, sym, ◌∙◌, ap}
use Rattle.std.proofs.lemmas.List.{map-append}
use Rattle.fuxi_terms.specs.Lists.{numbers_from}
use Rattle.fuxi_terms.proofs.Lists.{one_more}
use Rattle.full_sync.specs.Turns.{mark_of, MarkDelta, Mark}
use Rattle.full_sync.specs.declared.duplex.Note.{Note}
use Rattle.full_sync.specs.declared.duplex.Note.TheVariants.{Delta}

pub marks_more : {V D : Type 0} (now after : List (Note V D)) (first n : ℕ) (change : D) → map mark_of now ≡ map MarkDelta (numbers_from first n) → after ≡ now ++ Delta (first + n) change ∷ []
    → map mark_of after ≡ map MarkDelta (numbers_from first (n + 1))
marks_more {V} {D} now after first n change marks made =
    ap (map mark_of) made ∙ map-append mark_of now (Delta (first + n) change ∷ []) ∙ ap (λ (l : List Mark). l ++ MarkDelta (first + n) ∷ []) marks
    ∙ sym (map-append MarkDelta (numbers_from first n) ((first + n) ∷ [])) ∙ ap (map MarkDelta) (sym (one_more first n))
