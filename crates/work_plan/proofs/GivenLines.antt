-- What is read of a line is an event that a line can give.
use Rattle.std.proofs.Common.{◌≡◌, ℕ, ◌+◌, ◌-◌, ◌≤◌, Bool, true, false, cond, ◌&&◌, nat_eq, List, [], ◌∷◌, length, drop, Option, Some, None, Result, Ok, Err, IfSome, IfOk, find, refl, arith}
use Rattle.std.proofs.lemmas.Bool.Decides.{nat_tests}
use Rattle.std.proofs.lemmas.List.{length-drop}
use Rattle.fuxi_terms.specs.Counts.{then_do}
use Rattle.schedule_text.specs.declared.event.LineFault.{LineFault}
use Rattle.schedule_text.specs.declared.event.LineFault.TheVariants.{BadNumber, Range}
use Rattle.schedule_text.specs.PlaceNumbers.{number_at, numbers_at}
use Rattle.schedule_text.specs.Words.{words_of}
use Rattle.schedule_unit.specs.NumberWords.{number_of}
use Rattle.work_plan.specs.GivenEvents.{IsGiven}
use Rattle.work_plan.specs.declared.form.Head.{Head}
use Rattle.work_plan.specs.declared.form.Head.TheVariants.{Agent, App, Row, Plan, TurnAgent, TurnApp, Deliver, DeliverRange, Show}
use Rattle.work_plan.specs.declared.form.Place.{Place}
use Rattle.work_plan.specs.WorkLineForms.{shape_of, heads, is_within}
use Rattle.work_plan.specs.ReadWorkEvents.{begins, has_count, is_head, head_of, event_at, event_behind, work_of_words, work_of}

-- one thing after another: what the first gives, the second needs
then_holds : {A B E : Type 0} (P : A → Type 0) (Q : B → Type 0) (r : Result A E) (f : A → Result B E) → IfOk r P → ((a : A) → P a → IfOk (f a) Q) → IfOk (then_do r f) Q
then_holds P Q (Ok a) f h k = k a h
then_holds P Q (Err e) f h k = tt

-- Which line it is
found_does : {A : Type 0} (p : A → Bool) (xs : List A) → IfSome (find p xs) (λ x. p x ≡ true)
found_does p [] = tt
found_does p (y ∷ ys) = tested (p y) refl (found_does p ys)
  where
    tested : (b : Bool) → p y ≡ b → IfSome (find p ys) (λ x. p x ≡ true) → IfSome (cond b (Some y) (find p ys)) (λ x. p x ≡ true)
    tested true is later = is
    tested false is later = later

second_true : (a b : Bool) → (a && b) ≡ true → b ≡ true
second_true true b e = e
second_true false b e = cc

head_counts : (hs : List Head) (words : List (List ℕ)) → IfOk (head_of hs words) (λ h. has_count (shape_of h) words ≡ true)
head_counts hs words = counted (find (is_head words) hs) _ (found_does (is_head words) hs)
  where
    counted : (o : Option Head) (fault : LineFault) → IfSome o (λ h. is_head words h ≡ true)
        → IfOk (elim o as (λ _. Result Head LineFault) [ Some h ↦ Ok h | None ↦ Err fault ]) (λ h. has_count (shape_of h) words ≡ true)
    counted (Some h) fault is = second_true (begins (shape_of h) words) (has_count (shape_of h) words) is
    counted None fault is = tt

-- Each number is in the range of its place
abbrev AreWithin : ℕ → List Place → List ℕ → Type 0
AreWithin before [] ns = Unit {0}
AreWithin before (p ∷ ps) [] = ⊥
AreWithin before (p ∷ ps) (n ∷ ns) = (is_within p before n ≡ true) × AreWithin n ps ns

number_within : (p : Place) (place before : ℕ) (word : List ℕ) → IfOk (number_at is_within p place before word) (λ n. is_within p before n ≡ true)
number_within p place before word = read (number_of word)
  where
    ranged : (n : ℕ) (b : Bool) → is_within p before n ≡ b → IfOk (cond b (Ok n) (Err (Range place))) (λ n. is_within p before n ≡ true)
    ranged n true is = is
    ranged n false is = tt

    read : (o : Option ℕ) → IfOk (elim o as (λ _. Result ℕ LineFault) [ None ↦ Err (BadNumber place) | Some n ↦ cond (is_within p before n) (Ok n) (Err (Range place)) ]) (λ n. is_within p before n ≡ true)
    read None = tt
    read (Some n) = ranged n (is_within p before n) refl

numbers_within : (ps : List Place) (place before : ℕ) (words : List (List ℕ)) → length ps ≤ length words → IfOk (numbers_at is_within ps place before words) (AreWithin before ps)
numbers_within [] place before words long = tt
numbers_within (p ∷ ps) place before [] long = absurd (omega (arith, long))
numbers_within (p ∷ ps) place before (w ∷ ws) long =
    then_holds (λ n. is_within p before n ≡ true) (AreWithin before (p ∷ ps)) (number_at is_within p place before w) _ (number_within p place before w)
    (λ n within. then_holds (AreWithin n ps) (AreWithin before (p ∷ ps)) (numbers_at is_within ps (place + 1) n ws) _ (numbers_within ps (place + 1) n ws (omega (arith, long))) (λ ns more. (within, more)))

-- an event of such numbers
event_given : (h : Head) (ns : List ℕ) → AreWithin 0 (shape_of h).places ns → IsGiven (event_at h ns)
event_given Agent (b ∷ ns) is = grind (arith, nat_tests, is.0)
event_given Agent [] is = absurd is
event_given App (a ∷ b ∷ ns) is = (grind (arith, nat_tests, is.0), grind (arith, nat_tests, is.1.0))
event_given App (a ∷ []) is = absurd is.1
event_given App [] is = absurd is
event_given Row (a ∷ u ∷ n ∷ ns) is = (grind (arith, nat_tests, is.0), grind (arith, nat_tests, is.1.0), grind (arith, nat_tests, is.1.1.0))
event_given Row (a ∷ u ∷ []) is = absurd is.1.1
event_given Row (a ∷ []) is = absurd is.1
event_given Row [] is = absurd is
event_given Plan (a ∷ u ∷ w ∷ s ∷ ns) is = (grind (arith, nat_tests, is.0), grind (arith, nat_tests, is.1.0), grind (arith, nat_tests, is.1.1.0))
event_given Plan (a ∷ u ∷ w ∷ []) is = absurd is.1.1.1
event_given Plan (a ∷ u ∷ []) is = absurd is.1.1
event_given Plan (a ∷ []) is = absurd is.1
event_given Plan [] is = absurd is
event_given TurnAgent ns is = tt
event_given TurnApp (a ∷ ns) is = grind (arith, nat_tests, is.0)
event_given TurnApp [] is = absurd is
event_given Deliver (k ∷ ns) is = grind (arith, nat_tests, is.0)
event_given Deliver [] is = absurd is
event_given DeliverRange (k ∷ l ∷ ns) is = (grind (arith, nat_tests, is.0), grind (arith, nat_tests, is.1.0))
event_given DeliverRange (k ∷ []) is = absurd is.1
event_given DeliverRange [] is = absurd is
event_given Show ns is = tt

room_behind : (n ps ws : ℕ) → nat_eq ws (n + ps) ≡ true → ps ≤ ws - n
room_behind n ps ws h = grind (arith, nat_tests, h)

behind_given : (h : Head) (words : List (List ℕ)) → has_count (shape_of h) words ≡ true → IfOk (event_behind h words) IsGiven
behind_given h words count =
    let s = shape_of h in
    let words_behind = drop (length s.words) words in
    let room : length s.places ≤ length words_behind = rw (length-drop (length s.words) words) (room_behind (length s.words) (length s.places) (length words) count) in
    then_holds (AreWithin 0 s.places) IsGiven (numbers_at is_within s.places (length s.words) 0 words_behind) (λ ns. Ok (event_at h ns)) (numbers_within s.places (length s.words) 0 words_behind room) (λ ns is. event_given h ns is)

words_given : (words : List (List ℕ)) → IfOk (work_of_words words) IsGiven
words_given [] = tt
words_given (w ∷ ws) = then_holds (λ h. has_count (shape_of h) (w ∷ ws) ≡ true) IsGiven (head_of heads (w ∷ ws)) (λ h. event_behind h (w ∷ ws)) (head_counts heads (w ∷ ws)) (λ h count. behind_given h (w ∷ ws) count)

pub line_given : (line : List ℕ) → IfOk (work_of line) IsGiven
line_given line = words_given (words_of line)
