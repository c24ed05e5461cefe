use Rattle.std.proofs.Common.{rules, tests, ℕ, List, Bor, ◌∙◌}
use Rattle.std.proofs.lemmas.Iterator.{YieldsList-from_slice, YieldsList-from_zip}
use Rattle.std.proofs.lemmas.Iterator.Search.{all_from_yields_List}
use Rattle.std.specs.Str.{bytes_eq}
use Rattle.schedule_text.proofs.Pieces.{pairs_mapped}
use Rattle.schedule_text.proofs.number.begins_with.Goals as goal

pub returns : goal.returns
returns c =
    all_from_yields_List (λ (p : Bor (List ℕ) × Bor (List ℕ)). bytes_eq p.0.now p.1.now) c.all.new.self _ _ c.all.ensures.ran
    (YieldsList-from_zip (YieldsList-from_slice c.args.first.now cc) (YieldsList-from_slice c.args.words.now cc))
    (λ x b q k. search (rules, tests))
    ∙ pairs_mapped (λ p. bytes_eq p.0 p.1) (λ (w : Bor (List ℕ)). w.now) (λ (w : Bor (List ℕ)). w.now) c.args.first.now c.args.words.now
