use Rattle.std.proofs.Common.{◌≡◌, ℕ, List, map, take, Bor, ap, sym, ◌∙◌}
use Rattle.std.proofs.lemmas.List.{take-map}
use Rattle.schedule_text.specs.ReadEvents.{counts_at, ask_at}
use Rattle.schedule_text.proofs.Walks.{fault_spreads, own_fault}
use Rattle.schedule_text.proofs.read.ask_at.Goals as goal

-- words as they are read
abbrev seen : List (Bor (List ℕ)) → List (List ℕ)
seen ws = map (λ (w : Bor (List ℕ)). w.now) ws

pub returns-in-Err-clause-fault : goal.returns-in-Err-clause-fault
returns-in-Err-clause-fault c =
    let words = seen c.args.words.now in
    let own = c.own_count.result in
    let same : take own words ≡ seen c.split_at.result.0.now = take-map (λ (w : Bor (List ℕ)). w.now) own c.args.words.now ∙ ap seen (sym c.split_at.ensures.front) in
    fault_spreads (counts_at c.args.first (seen c.split_at.result.0.now)) (ask_at c.args.first words) c.in-Err.fault
    (λ f e. own_fault words c.args.first own f (sym c.own_count.ensures.value) (ap (counts_at c.args.first) same ∙ e)) c.in-Err.ensures.fault
