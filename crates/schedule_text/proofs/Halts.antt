-- What is read of a stop within a writing, test by test.
use Rattle.std.proofs.Common.{◌≡◌, ℕ, Bool, true, false, List, [], ◌∷◌, drop, Result, Ok, Err, refl, ap, sym, ◌∙◌}
use Rattle.fuxi_terms.specs.Counts.{then_do}
use Rattle.schedule_text.specs.declared.event.Event.{Event}
use Rattle.schedule_text.specs.declared.event.LineFault.{LineFault}
use Rattle.schedule_text.specs.declared.form.Head.{Head}
use Rattle.schedule_text.specs.LineForms.{heads, halt_shape, writing_heads}
use Rattle.schedule_text.specs.Halting.{halting}
use Rattle.schedule_text.specs.ReadEvents.{begins, head_of, event_behind, stop_of, halt_of, event_of_words}

chosen : List (List ℕ) → Bool → Result Event LineFault
chosen words b = elim b [ true ↦ halt_of words | false ↦ then_do (head_of heads words) (λ h. event_behind h 0 words) ]

-- a line of some words says a stop, or it is one of the table
pub halt_begins : (words : List (List ℕ)) → (words ≡ [] → ⊥) → begins halt_shape words ≡ true → event_of_words words ≡ halt_of words
unfolding chosen
halt_begins [] some is = absurd (some refl)
halt_begins (w ∷ ws) some is = ap (chosen (w ∷ ws)) is

pub line_begins : (words : List (List ℕ)) (r : Result Head LineFault) → begins halt_shape words ≡ false → head_of heads words ≡ r → event_of_words words ≡ then_do r (λ h. event_behind h 0 words)
unfolding chosen
line_begins [] r is head = absurd cc
line_begins (w ∷ ws) r is head = ap (chosen (w ∷ ws)) is ∙ ap (λ r. then_do r (λ h. event_behind h 0 (w ∷ ws))) head

-- Of a stop
module _ (words inner : List (List ℕ)) (behind : inner ≡ drop 3 words) where
  -- what is left once it is known which line stands behind it
  abbrev headed : Result Head LineFault → Result Event LineFault
  headed r = then_do r (λ h. then_do (stop_of words) (λ stop. then_do (event_behind h 3 (drop 3 words)) (λ x. Ok (halting stop.0 stop.1 x))))

  pub head_fault : (fault : LineFault) → head_of writing_heads inner ≡ Err fault → halt_of words ≡ Err fault
  head_fault fault is = ap headed (ap (head_of writing_heads) (sym behind) ∙ is)

  module _ (h : Head) (head : head_of writing_heads inner ≡ Ok h) where
    abbrev stopped : Result (ℕ × Bool) LineFault → Result Event LineFault
    stopped r = then_do r (λ stop. then_do (event_behind h 3 (drop 3 words)) (λ x. Ok (halting stop.0 stop.1 x)))

    pub stop_fault : (fault : LineFault) → stop_of words ≡ Err fault → halt_of words ≡ Err fault
    stop_fault fault is = ap headed (ap (head_of writing_heads) (sym behind) ∙ head) ∙ ap stopped is

    pub halt_read : (stop : ℕ × Bool) (r : Result Event LineFault) → stop_of words ≡ Ok stop → event_behind h 3 inner ≡ r → halt_of words ≡ then_do r (λ x. Ok (halting stop.0 stop.1 x))
    halt_read stop r is line = ap headed (ap (head_of writing_heads) (sym behind) ∙ head) ∙ ap stopped is ∙ ap {A = Result Event LineFault} (λ r. then_do r (λ x. Ok (halting stop.0 stop.1 x))) (ap (event_behind h 3) (sym behind) ∙ line)
