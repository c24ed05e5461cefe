use Rattle.std.proofs.Common.{rules, tests, ℕ, List, codes, map, Bor, ap, sym, ◌∙◌}
use Rattle.std.proofs.lemmas.Iterator.Consumers.{map_from_collect}
use Rattle.std.proofs.lemmas.Iterator.Splits.{YieldsList-from_slice_split}
use Rattle.std.specs.Str.{bytes_eq}
use Rattle.schedule_text.proofs.Pieces.{split_mapped, map_twice}
use Rattle.schedule_text.proofs.read.units_of.Goals as goal

pub returns : goal.returns
returns c =
    let parts = rw c.in_ok-collect.was at (map_from_collect _ c.collect.ensures.ran
    (YieldsList-from_slice_split _ (λ (w : Bor (List ℕ)). bytes_eq w.now (codes "/")) c.args.words.now c.split.ensures.rest c.split.ensures.done c.split.ensures.closure (λ x b q k. search (rules, tests)))) in
    map_twice (λ (u : Bor (List (Bor (List ℕ)))). u.now) (map (λ (w : Bor (List ℕ)). w.now)) c.in_ok-collect.field-0.items
    ∙ ap (map (map (λ (w : Bor (List ℕ)). w.now))) parts
    ∙ sym (split_mapped (λ w. bytes_eq w (codes "/")) (λ (w : Bor (List ℕ)). w.now) c.args.words.now)
