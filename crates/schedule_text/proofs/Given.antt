-- What is read of a line is an event that a line can give.
use Rattle.std.proofs.Common.{◌≡◌, ℕ, zero, suc, ◌+◌, ◌-◌, ◌<◌, ◌≤◌, ◌^◌, Bool, true, false, cond, nat_eq, nat_lt, ◌&&◌, List, [], ◌∷◌, length, take, drop, slice_index, codes, Option, Some, None, Result, Ok, Err, refl, ap, sym, ◌∙◌, subst, arith}
use Rattle.std.proofs.lemmas.Bool.Decides.{nat_tests}
use Rattle.std.proofs.lemmas.List.{length-drop, length-take-le}
use Rattle.std.specs.List.{find, list_all, slice_split, onto_first, AllByRecursion}
use Rattle.std.specs.Str.{bytes_eq}
use Rattle.std.specs.Str.Parse.{digits_value}
use Rattle.fuxi_terms.specs.Limits.{greatest_count}
use Rattle.fuxi_terms.specs.Cluster.{is_between}
use Rattle.fuxi_terms.specs.Counts.{then_do}
use Rattle.schedule_unit.specs.NumberWords.{is_numeral, number_of}
use Rattle.schedule_unit.specs.declared.asks.Ask.{Ask}
use Rattle.schedule_text.specs.declared.event.Event.{Event}
use Rattle.schedule_text.specs.declared.event.LineFault.{LineFault}
use Rattle.schedule_text.specs.declared.event.LineFault.TheVariants.{BadNumber, Range}
use Rattle.schedule_text.specs.declared.form.Head.{Head}
use Rattle.schedule_text.specs.declared.form.Head.TheVariants.{Master, Stop, Agent, App, Submit, Finish, Ban, Unban, Begin, Preempt, Judge, Want, Near, Rack, Avoid, Back, TurnMaster, TurnAgent, TurnApp, ResyncMaster, ResyncAgent, ResyncApp, Deliver, DeliverRange, Dump, Show}
use Rattle.schedule_text.specs.declared.form.Place.{Place}
use Rattle.schedule_text.specs.declared.form.Place.TheVariants.{Switch, Calls, Count}
use Rattle.schedule_text.specs.Words.{words_of}
use Rattle.schedule_text.specs.LineForms.{shape_of, heads, halt_shape, writing_heads, is_within}
use Rattle.schedule_text.specs.Halting.{is_writing, halting}
use Rattle.schedule_text.specs.ReadEvents.{front, units_of, is_bounded, own_count, is_unit, begins, has_count, is_head, head_of, number_at, numbers_at, counts_at, most_at, ask_of, ask_at, asks_at, asks_of, event_at, event_behind, stop_of, halt_of, event_of_words, event_of}
use Rattle.schedule_text.specs.Writing.{Saying, says, switch, saying_of, AreWithin, IsAsk, AreAsks, MayStop, IsLineEvent}
use Rattle.schedule_text.proofs.RoundTrip.{within_length}

-- One thing after another was done: the first, and then the second
done : {A B E : Type 0} (r : Result A E) (f : A → Result B E) (b : B) → then_do r f ≡ Ok b → (a : A) × (r ≡ Ok a) × (f a ≡ Ok b)
done (Ok a) f b h = (a, refl, h)
done (Err e) f b h = absurd cc

ok_same : {A E : Type 0} (r : Result A E) (a b : A) → r ≡ Ok a → r ≡ Ok b → a ≡ b
ok_same r a b h k = cc

second_true : (a b : Bool) → (a && b) ≡ true → b ≡ true
second_true true b e = e
second_true false b e = cc

first_true : (a b : Bool) → (a && b) ≡ true → a ≡ true
first_true true b e = refl
first_true false b e = cc

-- Which line it is
found_does : {A : Type 0} (p : A → Bool) (xs : List A) (x : A) → find p xs ≡ Some x → p x ≡ true
found_does p [] x h = absurd cc
found_does p (y ∷ ys) x h = tested (p y) refl h (found_does p ys x)
  where
    tested : (b : Bool) → p y ≡ b → cond b (Some y) (find p ys) ≡ Some x → (find p ys ≡ Some x → p x ≡ true) → p x ≡ true
    tested true is h later = let same : y ≡ x = cc in subst (λ z. p z ≡ true) same is
    tested false is h later = later h

found_holds : {A : Type 0} (Q : A → Type 0) (p : A → Bool) (xs : List A) (x : A) → AllByRecursion Q xs → find p xs ≡ Some x → Q x
found_holds Q p [] x all h = absurd cc
found_holds Q p (y ∷ ys) x all h = tested (p y) h (found_holds Q p ys x all.1)
  where
    tested : (b : Bool) → cond b (Some y) (find p ys) ≡ Some x → (find p ys ≡ Some x → Q x) → Q x
    tested true h later = let same : y ≡ x = cc in subst Q same all.0
    tested false h later = later h

head_found : (o : Option Head) (fault : LineFault) (h : Head) → elim o as (λ _. Result Head LineFault) [ Some h ↦ Ok h | None ↦ Err fault ] ≡ Ok h → o ≡ Some h
head_found (Some k) fault h is = cc
head_found None fault h is = absurd cc

head_counts : (hs : List Head) (words : List (List ℕ)) (h : Head) → head_of hs words ≡ Ok h → has_count (shape_of h) words ≡ true
head_counts hs words h is =
    second_true _ (has_count (shape_of h) words) (found_does (is_head words) hs h (head_found (find (is_head words) hs) _ h is))

-- Numbers. Each fits 64 bits and is in the range of its place
number_fits : (word : List ℕ) (n : ℕ) → number_of word ≡ Some n → n < 2 ^ 64
number_fits word n is = tested (is_numeral word) (digits_value 10 word) is
  where
    fitting : (b : Bool) (v : ℕ) → nat_lt v (2 ^ 64) ≡ b → cond b (Some v) None ≡ Some n → n < 2 ^ 64
    fitting true v lt is = let same : v ≡ n = cc in subst (λ k. k < 2 ^ 64) same (grind (arith, nat_tests, lt))
    fitting false v lt is = absurd cc

    tested : (a : Bool) (v : ℕ) → cond (a && nat_lt v (2 ^ 64)) (Some v) None ≡ Some n → n < 2 ^ 64
    tested true v is = fitting (nat_lt v (2 ^ 64)) v refl is
    tested false v is = absurd cc

number_within : (p : Place) (place before : ℕ) (word : List ℕ) (n : ℕ) → number_at p place before word ≡ Ok n → (n < 2 ^ 64) × (is_within p before n ≡ true)
number_within p place before word n is = read (number_of word) refl is
  where
    ranged : (m : ℕ) (b : Bool) → is_within p before m ≡ b → cond b (Ok m) (Err (Range place)) ≡ Ok n → (m ≡ n) × (is_within p before n ≡ true)
    ranged m true in_range is = let same : m ≡ n = cc in (same, subst (λ k. is_within p before k ≡ true) same in_range)
    ranged m false in_range is = absurd cc

    read : (o : Option ℕ) → number_of word ≡ o → elim o as (λ _. Result ℕ LineFault) [ None ↦ Err (BadNumber place) | Some m ↦ cond (is_within p before m) (Ok m) (Err (Range place)) ] ≡ Ok n
        → (n < 2 ^ 64) × (is_within p before n ≡ true)
    read None number is = absurd cc
    read (Some m) number is = let it = ranged m (is_within p before m) refl is in (number_fits word n (number ∙ ap (λ k. Some k) it.0), it.1)

numbers_within : (ps : List Place) (place before : ℕ) (words : List (List ℕ)) (ns : List ℕ) → length ps ≤ length words → numbers_at ps place before words ≡ Ok ns → AreWithin before ps ns
numbers_within [] place before words [] long is = record {}
numbers_within [] place before words (n ∷ ns) long is = absurd cc
numbers_within (p ∷ ps) place before [] ns long is = absurd (omega (arith, long))
numbers_within (p ∷ ps) place before (w ∷ ws) ns long is =
    let first = done (number_at p place before w) _ ns is in
    let rest = done (numbers_at ps (place + 1) first.0 ws) (λ ms. Ok (first.0 ∷ ms)) ns first.2 in
    let both : first.0 ∷ rest.0 ≡ ns = ok_same (Ok (first.0 ∷ rest.0)) _ _ refl rest.2 in
    let one = number_within p place before w first.0 first.1 in
    subst (AreWithin before (p ∷ ps)) both (one.0, one.1, numbers_within ps (place + 1) first.0 ws rest.0 (omega (arith, long)) rest.1)

-- Units
counts_fit : (place : ℕ) (words : List (List ℕ)) (ns : List ℕ) → counts_at place words ≡ Ok ns → (length ns ≡ length words) × AllByRecursion (λ n. n < 2 ^ 64) ns
counts_fit place [] [] is = (refl, tt)
counts_fit place [] (n ∷ ns) is = absurd cc
counts_fit place (w ∷ ws) ns is =
    let first = done (number_at Count place 0 w) _ ns is in
    let rest = done (counts_at (place + 1) ws) (λ ms. Ok (first.0 ∷ ms)) ns first.2 in
    let both : first.0 ∷ rest.0 ≡ ns = ok_same (Ok (first.0 ∷ rest.0)) _ _ refl rest.2 in
    let more = counts_fit (place + 1) ws rest.0 rest.1 in
    subst (λ ns. (length ns ≡ length (w ∷ ws)) × AllByRecursion (λ n. n < 2 ^ 64) ns) both
    (ap (λ k. suc k) more.0, ((number_within Count place 0 w first.0 first.1).0, more.1))

-- a unit's own words are no more than all of them
own_within : (u : List (List ℕ)) → own_count u ≤ length u
own_within u = elim (is_bounded u) as (λ b. cond b (length u - 2) (length u) ≤ length u) [ true ↦ omega arith | false ↦ omega arith ]

unit_size : (u : List (List ℕ)) → is_unit u ≡ true → (2 ≤ own_count u) × (own_count u ≤ 9)
unit_size u h = between (own_count u) h
  where
    between : (n : ℕ) → is_between 2 9 n ≡ true → (2 ≤ n) × (n ≤ 9)
    between n h = (grind (arith, nat_tests, h), grind (arith, nat_tests, h))

-- a bound has a number
most_fits : (place : ℕ) (words : List (List ℕ)) (n : ℕ) → most_at place words ≡ Ok n → n < 2 ^ 64
most_fits place [] n is = let same : greatest_count ≡ n = cc in omega (arith, same)
most_fits place (w ∷ []) n is = let same : greatest_count ≡ n = cc in omega (arith, same)
most_fits place (w ∷ m ∷ ws) n is = (number_within Count (place + 1) 0 m n is).0

ask_of_within : (ns : List ℕ) (most : ℕ) → 2 ≤ length ns → length ns ≤ 9 → AllByRecursion (λ n. n < 2 ^ 64) ns → most < 2 ^ 64 → IsAsk (ask_of ns most)
ask_of_within [] most some few fit bound = absurd (omega (arith, some))
ask_of_within (n ∷ ns) most some few fit bound = record { priority = fit.0; some = omega (arith, some); few = omega (arith, few); quantities = fit.1; most = bound }

ask_made : (place : ℕ) (u : List (List ℕ)) (ask : Ask) → is_unit u ≡ true → ask_at place u ≡ Ok ask → IsAsk ask
ask_made place u ask sized is =
    let own = own_count u in
    let first = done (counts_at place (take own u)) _ ask is in
    let second = done (most_at (place + own) (drop own u)) (λ most. Ok (ask_of first.0 most)) ask first.2 in
    let same : ask_of first.0 second.0 ≡ ask = ok_same (Ok (ask_of first.0 second.0)) _ _ refl second.2 in
    let counts = counts_fit place (take own u) first.0 first.1 in
    let long : length first.0 ≡ own = counts.0 ∙ length-take-le own u (own_within u) in
    let size = unit_size u sized in
    subst IsAsk same (ask_of_within first.0 second.0 (subst (λ n. 2 ≤ n) (sym long) size.0) (subst (λ n. n ≤ 9) (sym long) size.1) counts.1 (most_fits (place + own) (drop own u) second.0 second.1))

asks_made : (place : ℕ) (us : List (List (List ℕ))) (asks : List Ask) → list_all is_unit us ≡ true → asks_at place us ≡ Ok asks → (length asks ≡ length us) × AllByRecursion IsAsk asks
asks_made place [] [] sized is = (refl, tt)
asks_made place [] (a ∷ as_) sized is = absurd cc
asks_made place (u ∷ us) asks sized is =
    let first = done (ask_at place u) _ asks is in
    let rest = done (asks_at (place + length u + 1) us) (λ more. Ok (first.0 ∷ more)) asks first.2 in
    let both : first.0 ∷ rest.0 ≡ asks = ok_same (Ok (first.0 ∷ rest.0)) _ _ refl rest.2 in
    let more = asks_made (place + length u + 1) us rest.0 (second_true (is_unit u) _ sized) rest.1 in
    subst (λ as_. (length as_ ≡ length (u ∷ us)) × AllByRecursion IsAsk as_) both
    (ap (λ k. suc k) more.0, (ask_made place u first.0 (first_true (is_unit u) _ sized) first.1, more.1))

-- What is split has a part, and the first one is no longer than the whole
onto_some : {A : Type 0} (x : A) (parts : List (List A)) → 1 ≤ length (onto_first x parts)
onto_some x [] = grind (arith)
onto_some x (p ∷ ps) = grind (arith)

split_some : {A : Type 0} (p : A → Bool) (xs : List A) → 1 ≤ length (slice_split p xs)
split_some p [] = grind (arith)
split_some p (x ∷ xs) =
    elim (p x) as (λ b. 1 ≤ length (cond b ([] ∷ slice_split p xs) (onto_first x (slice_split p xs)))) [
      | true ↦ grind (arith)
      | false ↦ onto_some x (slice_split p xs)
    ]

-- so where each part is a unit, there are words
units_some : (words : List (List ℕ)) → list_all is_unit (units_of words) ≡ true → 1 ≤ length words
units_some [] h = absurd cc
units_some (w ∷ ws) h = grind (arith)

dropped : {A : Type 0} (n : ℕ) (xs : List A) → length (drop n xs) + n ≤ length xs + n
dropped n xs = let e = length-drop n xs in omega (arith, e)

-- A line has a word for each number
long_enough : (h : Head) (words : List (List ℕ)) → has_count (shape_of h) words ≡ true → front (shape_of h) ≤ length words
long_enough h words is = counted (shape_of h).units is
  where
    counted : (b : Bool) → elim b as (λ _. Bool) [ true ↦ list_all is_unit (units_of (drop (front (shape_of h)) words)) | false ↦ nat_eq (length words) (front (shape_of h)) ] ≡ true → front (shape_of h) ≤ length words
    counted true is = let some = units_some (drop (front (shape_of h)) words) is in let e = length-drop (front (shape_of h)) words in omega (arith, some, e)
    counted false is = grind (arith, nat_tests, is)

asks_are : (h : Head) (place : ℕ) (words : List (List ℕ)) (asks : List Ask) → has_count (shape_of h) words ≡ true → asks_of (shape_of h) place words ≡ Ok asks → AreAsks (shape_of h).units asks
asks_are h place words asks counted is = of (shape_of h).units counted is
  where
    of : (b : Bool) → elim b as (λ _. Bool) [ true ↦ list_all is_unit (units_of (drop (front (shape_of h)) words)) | false ↦ nat_eq (length words) (front (shape_of h)) ] ≡ true
        → elim b as (λ _. Result (List Ask) LineFault) [ true ↦ asks_at (place + front (shape_of h)) (units_of (drop (front (shape_of h)) words)) | false ↦ Ok [] ] ≡ Ok asks → AreAsks b asks
    of true sized is =
        let made = asks_made (place + front (shape_of h)) (units_of (drop (front (shape_of h)) words)) asks sized is in
        let some = split_some (λ w. bytes_eq w (codes "/")) (drop (front (shape_of h)) words) in
        let same = made.0 in
        (omega (arith, some, same), made.1)
    of false sized is = cc

-- What an event says is its line with these numbers and units
one : (ns : List ℕ) → length ns ≡ 1 → slice_index ns 0 ∷ [] ≡ ns
one [] e = absurd cc
one (a ∷ []) e = refl
one (a ∷ b ∷ ns) e = absurd (omega (arith, e))

two : (ns : List ℕ) → length ns ≡ 2 → slice_index ns 0 ∷ slice_index ns 1 ∷ [] ≡ ns
two [] e = absurd cc
two (a ∷ []) e = absurd (omega (arith, e))
two (a ∷ b ∷ []) e = refl
two (a ∷ b ∷ c ∷ ns) e = absurd (omega (arith, e))

three : (ns : List ℕ) → length ns ≡ 3 → slice_index ns 0 ∷ slice_index ns 1 ∷ slice_index ns 2 ∷ [] ≡ ns
three [] e = absurd cc
three (a ∷ []) e = absurd (omega (arith, e))
three (a ∷ b ∷ []) e = absurd (omega (arith, e))
three (a ∷ b ∷ c ∷ []) e = refl
three (a ∷ b ∷ c ∷ d ∷ ns) e = absurd (omega (arith, e))

four : (ns : List ℕ) → length ns ≡ 4 → slice_index ns 0 ∷ slice_index ns 1 ∷ slice_index ns 2 ∷ slice_index ns 3 ∷ [] ≡ ns
four [] e = absurd cc
four (a ∷ []) e = absurd (omega (arith, e))
four (a ∷ b ∷ []) e = absurd (omega (arith, e))
four (a ∷ b ∷ c ∷ []) e = absurd (omega (arith, e))
four (a ∷ b ∷ c ∷ d ∷ []) e = refl
four (a ∷ b ∷ c ∷ d ∷ f ∷ ns) e = absurd (omega (arith, e))

abbrev saying : Head → List ℕ → List Ask → Saying
saying h ns asks = record { head = h; numbers = ns; asks = asks }

alone : (h : Head) (ms ns : List ℕ) (asks : List Ask) → ms ≡ ns → asks ≡ [] → says h ms ≡ saying h ns asks
alone h ms ns asks same none = ap (λ l. saying h l []) same ∙ ap (saying h ns) (sym none)

switched : (n : ℕ) → nat_lt n 2 ≡ true → switch (nat_eq n 1) ≡ n
switched zero h = refl
switched (suc zero) h = refl
switched (suc (suc n)) h = absurd (grind (arith, nat_tests, h))

said : (h : Head) (ns : List ℕ) (asks : List Ask) → AreWithin 0 (shape_of h).places ns → AreAsks (shape_of h).units asks → saying_of (event_at h ns asks) ≡ saying h ns asks
said h ns asks w u = by h w u (within_length (shape_of h).places 0 ns w)
  where
    by : (h : Head) → AreWithin 0 (shape_of h).places ns → AreAsks (shape_of h).units asks → length ns ≡ length (shape_of h).places → saying_of (event_at h ns asks) ≡ saying h ns asks
    by Master w u n = alone Master _ ns asks (one ns n) u
    by Stop w u n = alone Stop _ ns asks (one ns n) u
    by Agent w u n = alone Agent _ ns asks (two ns n) u
    by App w u n = alone App _ ns asks (two ns n) u
    by Submit w u n = ap (λ l. saying Submit l asks) (three ns n)
    by Finish w u n = alone Finish _ ns asks (two ns n) u
    by Ban w u n = alone Ban _ ns asks (two ns n) u
    by Unban w u n = alone Unban _ ns asks (two ns n) u
    by Begin w u n = alone Begin _ ns asks (one ns n) u
    by Preempt w u n = alone Preempt _ ns asks (one ns n) u
    by Judge w u n = alone Judge _ ns asks (three ns n) u
    by Want w u n = alone Want _ ns asks (three ns n) u
    by Near w u n = alone Near _ ns asks (four ns n) u
    by Rack w u n = alone Rack _ ns asks (four ns n) u
    by Avoid w u n = alone Avoid _ ns asks (on ns w) u
      where
        on : (ns : List ℕ) → AreWithin 0 (shape_of Avoid).places ns → slice_index ns 0 ∷ slice_index ns 1 ∷ slice_index ns 2 ∷ switch (nat_eq (slice_index ns 3) 1) ∷ [] ≡ ns
        on [] w = absurd w
        on (a ∷ []) w = absurd w.2
        on (a ∷ b ∷ []) w = absurd w.2.2
        on (a ∷ b ∷ c ∷ []) w = absurd w.2.2.2
        on (a ∷ b ∷ c ∷ d ∷ []) w = ap (λ n. a ∷ b ∷ c ∷ n ∷ []) (switched d w.2.2.2.1)
        on (a ∷ b ∷ c ∷ d ∷ e ∷ ns) w = absurd w.2.2.2.2
    by Back w u n = alone Back _ ns asks (four ns n) u
    by TurnMaster w u n = alone TurnMaster _ ns asks (one ns n) u
    by TurnAgent w u n = alone TurnAgent _ ns asks (one ns n) u
    by TurnApp w u n = alone TurnApp _ ns asks (one ns n) u
    by ResyncMaster w u n = alone ResyncMaster _ ns asks (one ns n) u
    by ResyncAgent w u n = alone ResyncAgent _ ns asks (one ns n) u
    by ResyncApp w u n = alone ResyncApp _ ns asks (one ns n) u
    by Deliver w u n = alone Deliver _ ns asks (one ns n) u
    by DeliverRange w u n = alone DeliverRange _ ns asks (two ns n) u
    by Dump w u n = alone Dump _ ns asks (one ns n) u
    by Show w u n = alone Show [] ns asks (none ns n) u
      where
        none : (ns : List ℕ) → length ns ≡ 0 → [] ≡ ns
        none [] e = refl
        none (a ∷ ns) e = absurd (omega (arith, e))

plain_stops : (h : Head) (ns : List ℕ) (asks : List Ask) → MayStop (event_at h ns asks)
plain_stops Master ns asks = tt
plain_stops Stop ns asks = tt
plain_stops Agent ns asks = tt
plain_stops App ns asks = tt
plain_stops Submit ns asks = tt
plain_stops Finish ns asks = tt
plain_stops Ban ns asks = tt
plain_stops Unban ns asks = tt
plain_stops Begin ns asks = tt
plain_stops Preempt ns asks = tt
plain_stops Judge ns asks = tt
plain_stops Want ns asks = tt
plain_stops Near ns asks = tt
plain_stops Rack ns asks = tt
plain_stops Avoid ns asks = tt
plain_stops Back ns asks = tt
plain_stops TurnMaster ns asks = tt
plain_stops TurnAgent ns asks = tt
plain_stops TurnApp ns asks = tt
plain_stops ResyncMaster ns asks = tt
plain_stops ResyncAgent ns asks = tt
plain_stops ResyncApp ns asks = tt
plain_stops Deliver ns asks = tt
plain_stops DeliverRange ns asks = tt
plain_stops Dump ns asks = tt
plain_stops Show ns asks = tt

given_behind : (h : Head) (place : ℕ) (words : List (List ℕ)) (e : Event) → has_count (shape_of h) words ≡ true → event_behind h place words ≡ Ok e → IsLineEvent e
given_behind h place words e counted is =
    let s = shape_of h in
    let first = done (numbers_at s.places (place + length s.words) 0 (drop (length s.words) words)) _ e is in
    let second = done (asks_of s place words) (λ asks. Ok (event_at h first.0 asks)) e first.2 in
    let long = long_enough h words counted in
    let left = length-drop (length s.words) words in
    let within = numbers_within s.places (place + length s.words) 0 (drop (length s.words) words) first.0 (omega (arith, long, left)) first.1 in
    let asks = asks_are h place words second.0 counted second.1 in
    let same : event_at h first.0 second.0 ≡ e = ok_same (Ok (event_at h first.0 second.0)) _ _ refl second.2 in
    subst IsLineEvent same (record {
      numbers = subst (λ (s : Saying). AreWithin 0 (shape_of s.head).places s.numbers) (sym (said h first.0 second.0 within asks)) within;
      asks = subst (λ (s : Saying). AreAsks (shape_of s.head).units s.asks) (sym (said h first.0 second.0 within asks)) asks;
      stop = plain_stops h first.0 second.0;
    })

-- what holds of each event of a line holds of the one that is read
behind_holds : (Q : Event → Type 0) (h : Head) (place : ℕ) (words : List (List ℕ)) (e : Event) → ((ns : List ℕ) (asks : List Ask) → Q (event_at h ns asks)) → event_behind h place words ≡ Ok e → Q e
behind_holds Q h place words e all is =
    let s = shape_of h in
    let first = done (numbers_at s.places (place + length s.words) 0 (drop (length s.words) words)) _ e is in
    let second = done (asks_of s place words) (λ asks. Ok (event_at h first.0 asks)) e first.2 in
    let same : event_at h first.0 second.0 ≡ e = ok_same (Ok (event_at h first.0 second.0)) _ _ refl second.2 in
    subst Q same (all first.0 second.0)

-- Behind a stop stands a line that writes, and it has words
record IsWriting (h : Head) : Type 0 where
  some : nat_lt 0 (front (shape_of h)) ≡ true
  writes : (ns : List ℕ) (asks : List Ask) → is_writing (event_at h ns asks) ≡ true

heads_write : AllByRecursion IsWriting writing_heads
heads_write = (
  record { some = refl; writes = λ ns asks. refl },
  (
    record { some = refl; writes = λ ns asks. refl },
    (
      record { some = refl; writes = λ ns asks. refl },
      (record { some = refl; writes = λ ns asks. refl }, (record { some = refl; writes = λ ns asks. refl }, tt)),
    ),
  ),
)

stop_within : (words : List (List ℕ)) (stop : ℕ × Bool) → 3 ≤ length words → stop_of words ≡ Ok stop → is_within Calls 0 stop.0 ≡ true
stop_within words stop long is =
    let read = done (numbers_at (Calls ∷ Switch ∷ []) 1 0 (drop 1 words)) (λ ns. Ok (slice_index ns 0, nat_eq (slice_index ns 1) 1)) stop is in
    let left = length-drop 1 words in
    let same : (slice_index read.0 0, nat_eq (slice_index read.0 1) 1) ≡ stop = ok_same (Ok (slice_index read.0 0, nat_eq (slice_index read.0 1) 1)) _ _ refl read.2 in
    subst (λ (s : ℕ × Bool). is_within Calls 0 s.0 ≡ true) same (first read.0 (numbers_within (Calls ∷ Switch ∷ []) 1 0 (drop 1 words) read.0 (omega (arith, long, left)) read.1))
  where
    first : (ns : List ℕ) → AreWithin 0 (Calls ∷ Switch ∷ []) ns → is_within Calls 0 (slice_index ns 0) ≡ true
    first [] w = absurd w
    first (n ∷ ns) w = w.1

given_halt : (words : List (List ℕ)) (e : Event) → halt_of words ≡ Ok e → IsLineEvent e
given_halt words e is =
    let inner = drop (front halt_shape) words in
    let head = done (head_of writing_heads inner) _ e is in
    let stop = done (stop_of words) _ e head.2 in
    let line = done (event_behind head.0 (front halt_shape) inner) (λ x. Ok (halting stop.0.0 stop.0.1 x)) e stop.2 in
    let same : halting stop.0.0 stop.0.1 line.0 ≡ e = ok_same (Ok (halting stop.0.0 stop.0.1 line.0)) _ _ refl line.2 in
    let writing = found_holds IsWriting (is_head inner) writing_heads head.0 heads_write (head_found (find (is_head inner) writing_heads) _ head.0 head.1) in
    let counted = head_counts writing_heads inner head.0 head.1 in
    let within = given_behind head.0 (front halt_shape) inner line.0 counted line.1 in
    let long = long_enough head.0 inner counted in
    let left = length-drop 3 words in
    let some : 1 ≤ front (shape_of head.0) = grind (arith, nat_tests, writing.some) in
    subst IsLineEvent same (record {
      numbers = within.numbers;
      asks = within.asks;
      stop = (stop_within words stop.0 (omega (arith, some, long, left)) stop.1, behind_holds (λ x. is_writing x ≡ true) head.0 (front halt_shape) inner line.0 writing.writes line.1);
    })

pub given : (line : List ℕ) (e : Event) → event_of line ≡ Ok e → IsLineEvent e
given line e is = of (words_of line) is
  where
    by_halt : (w : List ℕ) (ws : List (List ℕ)) (b : Bool) → elim b as (λ _. Result Event LineFault) [ true ↦ halt_of (w ∷ ws) | false ↦ then_do (head_of heads (w ∷ ws)) (λ h. event_behind h 0 (w ∷ ws)) ] ≡ Ok e → IsLineEvent e
    by_halt w ws true is = given_halt (w ∷ ws) e is
    by_halt w ws false is =
        let head = done (head_of heads (w ∷ ws)) (λ h. event_behind h 0 (w ∷ ws)) e is in
        given_behind head.0 0 (w ∷ ws) e (head_counts heads (w ∷ ws) head.0 head.1) head.2

    of : (words : List (List ℕ)) → event_of_words words ≡ Ok e → IsLineEvent e
    of [] is = absurd cc
    of (w ∷ ws) is = by_halt w ws (begins halt_shape (w ∷ ws)) is
