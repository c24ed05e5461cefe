use Rattle.std.proofs.Common.{◌≡◌, ℕ, false, List, map, Bor, IfOk, IfErr, Result, Ok, Err, sym, ◌∙◌, subst}
use Rattle.schedule_text.specs.declared.event.Event.{Event}
use Rattle.schedule_text.specs.declared.event.LineFault.{LineFault}
use Rattle.schedule_text.specs.LineForms.{halt_shape}
use Rattle.schedule_text.specs.Halting.{anywhere}
use Rattle.schedule_text.specs.ReadEvents.{begins, IsFault}
use Rattle.schedule_text.proofs.Halts.{line_begins}
use Rattle.schedule_text.proofs.Walks.{fault_is}
use Rattle.schedule_text.proofs.read.event_by_table.Goals as goal

-- words as they are read
abbrev seen : List (Bor (List ℕ)) → List (List ℕ)
seen ws = map (λ (w : Bor (List ℕ)). w.now) ws

pub returns-in-Ok-clause-ok : goal.returns-in-Ok-clause-ok
returns-in-Ok-clause-ok c =
    let words = seen c.args.words.now in
    let other : begins halt_shape words ≡ false = sym c.is_halt.ensures ∙ c.if-is_halt.false in
    subst (λ (r : Result Event LineFault). IfOk c.event_behind.result (λ event. r ≡ Ok (anywhere event))) (sym (line_begins words (Ok c.in-Ok.head) other (sym c.head_in.ensures.value ∙ c.in-Ok.is))) c.event_behind.ensures.ok

pub returns-in-Ok-clause-fault : goal.returns-in-Ok-clause-fault
returns-in-Ok-clause-fault c =
    let words = seen c.args.words.now in
    let other : begins halt_shape words ≡ false = sym c.is_halt.ensures ∙ c.if-is_halt.false in
    subst (λ (r : Result Event LineFault). IfErr c.event_behind.result (IsFault r)) (sym (line_begins words (Ok c.in-Ok.head) other (sym c.head_in.ensures.value ∙ c.in-Ok.is))) c.event_behind.ensures.fault

pub returns-in-Err-clause-fault : goal.returns-in-Err-clause-fault
returns-in-Err-clause-fault c =
    let words = seen c.args.words.now in
    let other : begins halt_shape words ≡ false = sym c.is_halt.ensures ∙ c.if-is_halt.false in
    fault_is _ c.in-Err.fault (line_begins words (Err c.in-Err.fault) other (sym c.head_in.ensures.value ∙ c.in-Err.is))
