use Rattle.std.proofs.Common.{◌≡◌, ℕ, List, drop, map, Bor, ap, sym, ◌∙◌}
use Rattle.std.proofs.lemmas.List.{drop-map}
use Rattle.schedule_text.specs.ReadEvents.{event_behind, halt_of}
use Rattle.schedule_text.proofs.Halts.{head_fault, stop_fault, halt_read}
use Rattle.schedule_text.proofs.Walks.{fault_is, fault_spreads}
use Rattle.schedule_text.proofs.read.halt_of.Goals as goal

-- words as they are read
abbrev seen : List (Bor (List ℕ)) → List (List ℕ)
seen ws = map (λ (w : Bor (List ℕ)). w.now) ws

pub returns-in-Err-clause-fault : goal.returns-in-Err-clause-fault
returns-in-Err-clause-fault c =
    let behind : seen c.split_at.result.1.now ≡ drop 3 (seen c.args.words.now) = ap seen c.split_at.ensures.back ∙ sym (drop-map (λ (w : Bor (List ℕ)). w.now) 3 c.args.words.now) in
    fault_is _ c.in-Err.fault (head_fault (seen c.args.words.now) (seen c.split_at.result.1.now) behind c.in-Err.fault (sym c.head_of.ensures.value ∙ c.in-Err.is))

pub returns-in-Err-stop_of-clause-fault : goal.returns-in-Err-stop_of-clause-fault
returns-in-Err-stop_of-clause-fault c =
    let behind : seen c.split_at.result.1.now ≡ drop 3 (seen c.args.words.now) = ap seen c.split_at.ensures.back ∙ sym (drop-map (λ (w : Bor (List ℕ)). w.now) 3 c.args.words.now) in
    fault_is _ c.in-Err-stop_of.fault (stop_fault (seen c.args.words.now) (seen c.split_at.result.1.now) behind c.in-Ok.head (sym c.head_of.ensures.value ∙ c.in-Ok.is) c.in-Err-stop_of.fault c.in-Err-stop_of.ensures.fault)

pub returns-in-Err-event_behind-clause-fault : goal.returns-in-Err-event_behind-clause-fault
returns-in-Err-event_behind-clause-fault c =
    let behind : seen c.split_at.result.1.now ≡ drop 3 (seen c.args.words.now) = ap seen c.split_at.ensures.back ∙ sym (drop-map (λ (w : Bor (List ℕ)). w.now) 3 c.args.words.now) in
    fault_spreads (event_behind c.in-Ok.head 3 (seen c.split_at.result.1.now)) (halt_of (seen c.args.words.now)) c.in-Err-event_behind.fault
    (λ f e. halt_read (seen c.args.words.now) (seen c.split_at.result.1.now) behind c.in-Ok.head (sym c.head_of.ensures.value ∙ c.in-Ok.is) c.in-Ok-stop_of.stop _ c.in-Ok-stop_of.ensures.ok e) c.in-Err-event_behind.ensures.fault

pub returns-in-Ok-new-clause-ok : goal.returns-in-Ok-new-clause-ok
returns-in-Ok-new-clause-ok c =
    let behind : seen c.split_at.result.1.now ≡ drop 3 (seen c.args.words.now) = ap seen c.split_at.ensures.back ∙ sym (drop-map (λ (w : Bor (List ℕ)). w.now) 3 c.args.words.now) in
    rw c.in-Ok-new.ensures.ok (halt_read (seen c.args.words.now) (seen c.split_at.result.1.now) behind c.in-Ok.head (sym c.head_of.ensures.value ∙ c.in-Ok.is) c.in-Ok-stop_of.stop _ c.in-Ok-stop_of.ensures.ok c.in-Ok-event_behind.ensures.ok)
