use Rattle.std.proofs.Common.{rules, tests, ℕ, List, codes, map, Bor, ap, sym, ◌∙◌}
use Rattle.std.proofs.lemmas.Iterator.Search.{all_from_yields_List}
use Rattle.std.proofs.lemmas.Iterator.Splits.{YieldsList-from_slice_split}
use Rattle.std.specs.List.{list_all, slice_split}
use Rattle.std.specs.Str.{bytes_eq}
use Rattle.schedule_text.specs.ReadEvents.{is_unit}
use Rattle.schedule_text.proofs.Pieces.{split_mapped, all_mapped}
use Rattle.schedule_text.proofs.read.are_units.Goals as goal

pub returns : goal.returns
returns c =
    all_from_yields_List (λ (u : List (Bor (List ℕ))). is_unit (map (λ (w : Bor (List ℕ)). w.now) u)) _ _ _ c.all.ensures.ran
    (YieldsList-from_slice_split _ (λ (w : Bor (List ℕ)). bytes_eq w.now (codes "/")) c.args.words.now c.split.ensures.rest c.split.ensures.done c.split.ensures.closure (λ x b q k. search (rules, tests)))
    (λ x b q k. search (rules, tests))
    ∙ all_mapped is_unit (map (λ (w : Bor (List ℕ)). w.now)) (slice_split (λ (w : Bor (List ℕ)). bytes_eq w.now (codes "/")) c.args.words.now)
    ∙ sym (ap (list_all is_unit) (split_mapped (λ w. bytes_eq w (codes "/")) (λ (w : Bor (List ℕ)). w.now) c.args.words.now))
