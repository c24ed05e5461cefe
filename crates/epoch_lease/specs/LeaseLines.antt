-- What a line tells a lease, or why it tells nothing.
use Rattle.std.specs.Prelude.{ℕ, Bool, cond, not, nat_eq, List, [], ◌∷◌, Option, Some, None, Result, Ok, Err, codes}
use Rattle.std.specs.Str.{bytes_eq}
use Rattle.fuxi_terms.specs.Cluster.{is_at_most}
use Rattle.fuxi_terms.specs.Counts.{then_do}
use Rattle.schedule_unit.specs.NumberWords.{number_of}
use Rattle.schedule_text.specs.Words.{words_of}
use Rattle.schedule_text.specs.declared.event.LineFault.{LineFault}
use Rattle.schedule_text.specs.declared.event.LineFault.TheVariants.{UnknownWord, WrongCount, BadNumber, Range}
use Rattle.epoch_lease.specs.declared.event.LeaseEvent.{LeaseEvent}
use Rattle.epoch_lease.specs.declared.event.LeaseEvent.TheVariants.{Acquire, Renew, Release, Expire}

-- the greatest number of a holder
abbrev pub greatest_holder : ℕ
greatest_holder = 65535

-- the word at a place: it has the form of a number, and then it is in range
abbrev pub number_at : (ℕ → Bool) → ℕ → Option ℕ → Result ℕ LineFault
number_at within place None = Err (BadNumber place)
number_at within place (Some n) = cond (within n) (Ok n) (Err (Range place))

abbrev pub holder_at : List ℕ → Result ℕ LineFault
holder_at word = number_at (is_at_most greatest_holder) 1 (number_of word)

abbrev pub epoch_at : List ℕ → Result ℕ LineFault
epoch_at word = number_at (λ e. not (nat_eq e 0)) 2 (number_of word)

-- the words behind the first one: a holder; a holder and an epoch; or none
abbrev pub acquire_of : List (List ℕ) → Result LeaseEvent LineFault
acquire_of [] = Err WrongCount
acquire_of (h ∷ []) = then_do (holder_at h) (λ h. Ok (Acquire h))
acquire_of (h ∷ word ∷ words) = Err WrongCount

abbrev pub held_at : List (List ℕ) → Result (ℕ × ℕ) LineFault
held_at [] = Err WrongCount
held_at (h ∷ []) = Err WrongCount
held_at (h ∷ e ∷ []) = then_do (holder_at h) (λ h. then_do (epoch_at e) (λ e. Ok (h, e)))
held_at (h ∷ e ∷ word ∷ words) = Err WrongCount

abbrev pub renew_of : List (List ℕ) → Result LeaseEvent LineFault
renew_of words = then_do (held_at words) (λ held. Ok (Renew held.0 held.1))

abbrev pub release_of : List (List ℕ) → Result LeaseEvent LineFault
release_of words = then_do (held_at words) (λ held. Ok (Release held.0 held.1))

abbrev pub expire_of : List (List ℕ) → Result LeaseEvent LineFault
expire_of [] = Ok Expire
expire_of (word ∷ words) = Err WrongCount

abbrev pub event_of_words : List (List ℕ) → Result LeaseEvent LineFault
event_of_words [] = Err UnknownWord
event_of_words (word ∷ words) =
    cond (bytes_eq word (codes "acquire")) (acquire_of words)
    (cond (bytes_eq word (codes "renew")) (renew_of words)
    (cond (bytes_eq word (codes "release")) (release_of words)
    (cond (bytes_eq word (codes "expire")) (expire_of words) (Err UnknownWord))))

-- the event of a line, or the first fault: the first word, then the count of words, and then place by place
abbrev pub lease_event : List ℕ → Result LeaseEvent LineFault
lease_event line = event_of_words (words_of line)
