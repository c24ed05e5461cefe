-- What is written of an event is read as that event.
use Rattle.std.proofs.Common.{◌≡◌, ℕ, zero, suc, ◌+◌, ◌-◌, ◌<◌, ◌≤◌, ◌^◌, ◌==◌, Bool, true, false, not, cond, nat_eq, nat_lt, ◌&&◌, List, [], ◌∷◌, ◌++◌, length, get_or, slice_index, drop, map, filter, codes, decimal, Some, None, Result, Ok, Err, refl, ap, sym, ◌∙◌, subst, arith, append_assoc}
use Rattle.std.proofs.lemmas.Bool.{eqb-true}
use Rattle.std.proofs.lemmas.Bool.Decides.{nat_tests}
use Rattle.std.proofs.lemmas.Grind.{flat_map-append}
use Rattle.std.proofs.lemmas.List.{length-map, length-append, append-nil, get_or_at, take_at, drop_at}
use Rattle.std.specs.List.{list_all, flat_map, slice_split, onto_first, AllByRecursion}
use Rattle.std.specs.Char.{is_ascii_digit}
use Rattle.std.specs.Str.{all_ascii_digits, bytes_eq}
use Rattle.std.specs.Str.Parse.{digits_value}
use Rattle.fuxi_terms.specs.Limits.{greatest_count}
use Rattle.fuxi_terms.specs.Cluster.{is_between}
use Rattle.fuxi_terms.specs.Counts.{then_do}
use Rattle.fuxi_terms.proofs.Booleans.{and_false}
use Rattle.fuxi_terms.proofs.Alls.{all_append}
use Rattle.schedule_unit.specs.NumberWords.{is_numeral, number_of}
use Rattle.schedule_unit.specs.declared.asks.Ask.{Ask}
use Rattle.schedule_text.specs.declared.event.Event.{Event}
use Rattle.schedule_text.specs.declared.event.Event.TheVariants.{Master as MasterEvent, Stop as StopEvent, Agent as AgentEvent, App as AppEvent, Submit as SubmitEvent, Finish as FinishEvent, Ban as BanEvent, Unban as UnbanEvent, Begin as BeginEvent, Preempt as PreemptEvent, Judge as JudgeEvent, Want as WantEvent, Near as NearEvent, Rack as RackEvent, Avoid as AvoidEvent, Back as BackEvent, TurnMaster as TurnMasterEvent, TurnAgent as TurnAgentEvent, TurnApp as TurnAppEvent, ResyncMaster as ResyncMasterEvent, ResyncAgent as ResyncAgentEvent, ResyncApp as ResyncAppEvent, Deliver as DeliverEvent, DeliverRange as DeliverRangeEvent, Dump as DumpEvent, Show as ShowEvent, Halt' as HaltEvent}
use Rattle.schedule_text.specs.declared.event.LineFault.{LineFault}
use Rattle.schedule_text.specs.declared.event.LineFault.TheVariants.{BadNumber, Range}
use Rattle.schedule_text.specs.declared.form.Head.{Head}
use Rattle.schedule_text.specs.declared.form.Head.TheVariants.{Master, Stop, Agent, App, Submit, Finish, Ban, Unban, Begin, Preempt, Judge, Want, Near, Rack, Avoid, Back, TurnMaster, TurnAgent, TurnApp, ResyncMaster, ResyncAgent, ResyncApp, Deliver, DeliverRange, Dump, Show}
use Rattle.schedule_text.specs.declared.form.Place.{Place}
use Rattle.schedule_text.specs.declared.form.Place.TheVariants.{Calls, Count}
use Rattle.schedule_text.specs.Words.{is_word, words_of}
use Rattle.schedule_text.specs.LineForms.{shape_of, halt_shape, writing_heads, is_within}
use Rattle.schedule_text.specs.Halting.{is_writing, halting, anywhere}
use Rattle.schedule_text.specs.ReadEvents.{front, units_of, is_bounded, own_count, is_unit, number_at, numbers_at, counts_at, most_at, ask_at, asks_at, asks_of, head_of, event_at, event_behind, stop_of, event_of_words, event_of}
use Rattle.schedule_text.specs.Writing.{Saying, switch, saying_of, saying_words, halt_words, most_words, ask_words, asks_words, blanked, spaced, event_text, AreWithin, IsAsk, AreAsks, IsLineEvent}
use Rattle.schedule_text.proofs.Walks.{ask_read}

-- Splitting what was joined. The elements at which nothing is split
abbrev Lacks : {A : Type 0} → (A → Bool) → List A → Type 0
Lacks p xs = AllByRecursion (λ x. p x ≡ false) xs

split_lacking : {A : Type 0} (p : A → Bool) (xs : List A) → Lacks p xs → slice_split p xs ≡ xs ∷ []
split_lacking p [] h = refl
split_lacking p (x ∷ xs) h = ap (λ b. cond b ([] ∷ slice_split p xs) (onto_first x (slice_split p xs))) h.0 ∙ ap (onto_first x) (split_lacking p xs h.1)

split_behind : {A : Type 0} (p : A → Bool) (xs : List A) (y : A) (ys : List A) → p y ≡ true → Lacks p xs → slice_split p (xs ++ y ∷ ys) ≡ xs ∷ slice_split p ys
split_behind p [] y ys at h = ap (λ b. cond b ([] ∷ slice_split p ys) (onto_first y (slice_split p ys))) at
split_behind p (x ∷ xs) y ys at h =
    ap (λ b. cond b ([] ∷ slice_split p (xs ++ y ∷ ys)) (onto_first x (slice_split p (xs ++ y ∷ ys)))) h.0 ∙ ap (onto_first x) (split_behind p xs y ys at h.1)

split_joined : {A : Type 0} (p : A → Bool) (y : A) (w : List A) (ws : List (List A)) → p y ≡ true → Lacks p w → AllByRecursion (Lacks p) ws → slice_split p (w ++ flat_map (λ v. y ∷ v) ws) ≡ w ∷ ws
split_joined p y w [] at h hs = ap (slice_split p) (append-nil w) ∙ split_lacking p w h
split_joined p y w (v ∷ ws) at h hs = split_behind p w y (v ++ flat_map (λ v. y ∷ v) ws) at h ∙ ap (λ l. w ∷ l) (split_joined p y v ws at hs.0 hs.1)

-- Words. A word has a byte and no blank
abbrev pub is_blank : ℕ → Bool
is_blank b = b == 32

pub record IsPlain (w : List ℕ) : Type 0 where
  pub some : is_word w ≡ true
  pub lacks : AllByRecursion (λ b. is_blank b ≡ false) w

lacking : (ws : List (List ℕ)) → AllByRecursion IsPlain ws → AllByRecursion (λ w. AllByRecursion (λ b. is_blank b ≡ false) w) ws
lacking [] h = tt
lacking (w ∷ ws) h = (h.0.lacks, lacking ws h.1)

all_words : (ws : List (List ℕ)) → AllByRecursion IsPlain ws → filter is_word ws ≡ ws
all_words [] h = refl
all_words (w ∷ ws) h = ap (λ b. cond b (w ∷ filter is_word ws) (filter is_word ws)) h.0.some ∙ ap (λ l. w ∷ l) (all_words ws h.1)

pub spaced_words : (ws : List (List ℕ)) → AllByRecursion IsPlain ws → words_of (spaced ws) ≡ ws
spaced_words [] h = refl
spaced_words (w ∷ ws) h = ap (filter is_word) (split_joined is_blank 32 w ws refl h.0.lacks (lacking ws h.1)) ∙ all_words (w ∷ ws) h

-- Numbers. A word that is a number is digits
if_true : (b : Bool) (v n : ℕ) → cond (b && nat_lt v (2 ^ 64)) (Some v) None ≡ Some n → b ≡ true
if_true true v n e = refl
if_true false v n e = cc

first_true : (a b : Bool) → (a && b) ≡ true → a ≡ true
first_true true b e = refl
first_true false b e = cc

digits_of : (word : List ℕ) (n : ℕ) → number_of word ≡ Some n → all_ascii_digits word ≡ true
digits_of word n e = first_true (all_ascii_digits word) _ (if_true (is_numeral word) (digits_value 10 word) n e)

no_blank : (b : ℕ) → is_ascii_digit b ≡ true → is_blank b ≡ false
no_blank b h = grind (arith, nat_tests, h)

no_slash : (b : ℕ) → is_ascii_digit b ≡ true → nat_eq b 47 ≡ false
no_slash b h = grind (arith, nat_tests, h)

digits_lack : (word : List ℕ) → all_ascii_digits word ≡ true → AllByRecursion (λ b. is_blank b ≡ false) word
digits_lack [] h = tt
digits_lack (b ∷ bs) h = (no_blank b (first_true (is_ascii_digit b) (all_ascii_digits bs) h), digits_lack bs (second_true (is_ascii_digit b) (all_ascii_digits bs) h))
  where
    second_true : (a b : Bool) → (a && b) ≡ true → b ≡ true
    second_true true b e = e
    second_true false b e = cc

plain_number : (word : List ℕ) (n : ℕ) → number_of word ≡ Some n → IsPlain word
plain_number [] n e = cc
plain_number (b ∷ bs) n e = record { some = refl; lacks = digits_lack (b ∷ bs) (digits_of (b ∷ bs) n e) }

number_no_slash : (word : List ℕ) (n : ℕ) → number_of word ≡ Some n → bytes_eq word (codes "/") ≡ false
number_no_slash [] n e = refl
number_no_slash (b ∷ bs) n e = ap (λ t. t && bytes_eq bs []) (no_slash b (first_true (is_ascii_digit b) (all_ascii_digits bs) (digits_of (b ∷ bs) n e)))

-- what is known of numbers: each is read back from its word
abbrev pub Written : Type 0
Written = (n : ℕ) → n < 2 ^ 64 → number_of (decimal n) ≡ Some n

plain_numbers : Written → (ns : List ℕ) → AllByRecursion (λ n. n < 2 ^ 64) ns → AllByRecursion IsPlain (map decimal ns)
plain_numbers w [] h = tt
plain_numbers w (n ∷ ns) h = (plain_number (decimal n) n (w n h.0), plain_numbers w ns h.1)

numbers_lack : Written → (ns : List ℕ) → AllByRecursion (λ n. n < 2 ^ 64) ns → AllByRecursion (λ word. bytes_eq word (codes "/") ≡ false) (map decimal ns)
numbers_lack w [] h = tt
numbers_lack w (n ∷ ns) h = (number_no_slash (decimal n) n (w n h.0), numbers_lack w ns h.1)

-- a number that is in the range of its place
number_back : Written → (p : Place) (place before n : ℕ) → n < 2 ^ 64 → is_within p before n ≡ true → number_at p place before (decimal n) ≡ Ok n
number_back w p place before n lt h =
    ap (λ o. elim o as (λ _. Result ℕ LineFault) [ None ↦ Err (BadNumber place) | Some m ↦ cond (is_within p before m) (Ok m) (Err (Range place)) ]) (w n lt)
    ∙ ap (λ b. cond b (Ok n) (Err (Range place))) h

pub numbers_back : Written → (ps : List Place) (place before : ℕ) (ns : List ℕ) (more : List (List ℕ)) → AreWithin before ps ns → numbers_at ps place before (map decimal ns ++ more) ≡ Ok ns
numbers_back w [] place before [] more h = refl
numbers_back w [] place before (n ∷ ns) more h = absurd h
numbers_back w (p ∷ ps) place before [] more h = absurd h
numbers_back w (p ∷ ps) place before (n ∷ ns) more h =
    ap (λ r. then_do r (λ m. then_do (numbers_at ps (place + 1) m (map decimal ns ++ more)) (λ ms. Ok (m ∷ ms)))) (number_back w p place before n h.0 h.1)
    ∙ ap (λ r. then_do r (λ ms. Ok (n ∷ ms))) (numbers_back w ps (place + 1) n ns more h.2)

pub within_length : (ps : List Place) (before : ℕ) (ns : List ℕ) → AreWithin before ps ns → length ns ≡ length ps
within_length [] before [] h = refl
within_length [] before (n ∷ ns) h = absurd h
within_length (p ∷ ps) before [] h = absurd h
within_length (p ∷ ps) before (n ∷ ns) h = ap (λ k. suc k) (within_length ps n ns h.2)

pub within_range : (ps : List Place) (before : ℕ) (ns : List ℕ) → AreWithin before ps ns → AllByRecursion (λ n. n < 2 ^ 64) ns
within_range [] before [] h = tt
within_range [] before (n ∷ ns) h = absurd h
within_range (p ∷ ps) before [] h = absurd h
within_range (p ∷ ps) before (n ∷ ns) h = (h.0, within_range ps n ns h.2)

-- Units. Any numbers
counts_back : Written → (place : ℕ) (ns : List ℕ) → AllByRecursion (λ n. n < 2 ^ 64) ns → counts_at place (map decimal ns) ≡ Ok ns
counts_back w place [] h = refl
counts_back w place (n ∷ ns) h =
    ap (λ r. then_do r (λ m. then_do (counts_at (place + 1) (map decimal ns)) (λ ms. Ok (m ∷ ms)))) (number_back w Count place 0 n h.0 refl)
    ∙ ap (λ r. then_do r (λ ms. Ok (n ∷ ms))) (counts_back w (place + 1) ns h.1)

-- its own words: a priority and quantities
abbrev ask_numbers : Ask → List ℕ
ask_numbers a = a.priority ∷ a.quantities

ask_range : (a : Ask) → IsAsk a → AllByRecursion (λ n. n < 2 ^ 64) (ask_numbers a)
ask_range a h = (h.priority, h.quantities)

-- no number is the word of a bound
number_no_most : (word : List ℕ) (n : ℕ) → number_of word ≡ Some n → bytes_eq word (codes "most") ≡ false
number_no_most [] n e = refl
number_no_most (b ∷ bs) n e = ap (λ t. t && bytes_eq bs (111 ∷ 115 ∷ 116 ∷ [])) (no_m b (first_true (is_ascii_digit b) (all_ascii_digits bs) (digits_of (b ∷ bs) n e)))
  where
    no_m : (b : ℕ) → is_ascii_digit b ≡ true → nat_eq b 109 ≡ false
    no_m b h = grind (arith, nat_tests, h)

none_most : Written → (ns : List ℕ) (i : ℕ) → AllByRecursion (λ n. n < 2 ^ 64) ns → bytes_eq (get_or (map decimal ns) i []) (codes "most") ≡ false
none_most w [] i h = refl
none_most w (n ∷ ns) zero h = number_no_most (decimal n) n (w n h.0)
none_most w (n ∷ ns) (suc i) h = none_most w ns i h.1

-- so behind numbers alone nothing is set aside, and with a bound behind them that bound
own_numbers : Written → (ns : List ℕ) → AllByRecursion (λ n. n < 2 ^ 64) ns → own_count (map decimal ns) ≡ length (map decimal ns)
own_numbers w ns h =
    let ws = map decimal ns in
    let none : is_bounded ws ≡ false = ap (λ b. nat_lt 1 (length ws) && b) (none_most w ns (length ws - 2) h) ∙ and_false (nat_lt 1 (length ws)) in
    ap (λ b. cond b (length ws - 2) (length ws)) none

own_before : (ws : List (List ℕ)) (n : List ℕ) → own_count (ws ++ codes "most" ∷ n ∷ []) ≡ length ws
own_before ws n =
    let all = ws ++ codes "most" ∷ n ∷ [] in
    let long : length all ≡ length ws + 2 = length-append ws (codes "most" ∷ n ∷ []) in
    let less : length all - 2 ≡ length ws = omega (arith, long) in
    let more : nat_lt 1 (length all) ≡ true = grind (arith, nat_tests, long) in
    let here : get_or all (length all - 2) [] ≡ codes "most" = ap (λ i. get_or all i []) less ∙ get_or_at ws (codes "most") (n ∷ []) [] (length ws) refl in
    let is : is_bounded all ≡ true = ap (λ b. b && bytes_eq (get_or all (length all - 2) []) (codes "most")) more ∙ ap (λ v. bytes_eq v (codes "most")) here in
    ap (λ b. cond b (length all - 2) (length all)) is ∙ less

own_back : Written → (ns : List ℕ) (n : ℕ) → AllByRecursion (λ n. n < 2 ^ 64) ns → own_count (map decimal ns ++ most_words n) ≡ length (map decimal ns)
own_back w ns n h =
    elim (nat_eq n greatest_count) as (λ b. own_count (map decimal ns ++ cond b [] (codes "most" ∷ decimal n ∷ [])) ≡ length (map decimal ns)) [
      | true ↦ ap own_count (append-nil (map decimal ns)) ∙ own_numbers w ns h
      | false ↦ own_before (map decimal ns) (decimal n)
    ]

most_back : Written → (place n : ℕ) → n < 2 ^ 64 → most_at place (most_words n) ≡ Ok n
most_back w place n lt = by (nat_eq n greatest_count) refl
  where
    by : (b : Bool) → nat_eq n greatest_count ≡ b → most_at place (cond b [] (codes "most" ∷ decimal n ∷ [])) ≡ Ok n
    by true is = ap (λ k. Ok k) (sym (eqb-true n greatest_count is))
    by false is = number_back w Count (place + 1) 0 n lt refl

ask_back : Written → (place : ℕ) (a : Ask) → IsAsk a → ask_at place (ask_words a) ≡ Ok a
ask_back w place a h =
    let own = map decimal (ask_numbers a) in
    let bound = most_words a.most in
    ask_read (own ++ bound) place (length own) (ask_numbers a) a.most (own_back w (ask_numbers a) a.most (ask_range a h))
    (ap (counts_at place) (take_at own bound (length own) refl) ∙ counts_back w place (ask_numbers a) (ask_range a h))
    (ap (most_at (place + length own)) (drop_at own bound (length own) refl) ∙ most_back w (place + length own) a.most h.most)

asks_back : Written → (place : ℕ) (asks : List Ask) → AllByRecursion IsAsk asks → asks_at place (map ask_words asks) ≡ Ok asks
asks_back w place [] h = refl
asks_back w place (a ∷ as_) h =
    ap (λ r. then_do r (λ ask. then_do (asks_at (place + length (ask_words a) + 1) (map ask_words as_)) (λ asks. Ok (ask ∷ asks)))) (ask_back w place a h.0)
    ∙ ap (λ r. then_do r (λ asks. Ok (a ∷ asks))) (asks_back w (place + length (ask_words a) + 1) as_ h.1)

slashed : (as_ : List Ask) → flat_map (λ b. codes "/" ∷ ask_words b) as_ ≡ flat_map (λ v. codes "/" ∷ v) (map ask_words as_)
slashed [] = refl
slashed (a ∷ as_) = ap (λ l. codes "/" ∷ ask_words a ++ l) (slashed as_)

-- no word of a unit is a slash
most_lacks : Written → (n : ℕ) → n < 2 ^ 64 → AllByRecursion (λ word. bytes_eq word (codes "/") ≡ false) (most_words n)
most_lacks w n lt =
    elim (nat_eq n greatest_count) as (λ b. AllByRecursion (λ word. bytes_eq word (codes "/") ≡ false) (cond b [] (codes "most" ∷ decimal n ∷ []))) [
      | true ↦ tt
      | false ↦ (refl, (number_no_slash (decimal n) n (w n lt), tt))
    ]

ask_lacks : Written → (a : Ask) → IsAsk a → AllByRecursion (λ word. bytes_eq word (codes "/") ≡ false) (ask_words a)
ask_lacks w a h = all_append (λ word. bytes_eq word (codes "/") ≡ false) (map decimal (ask_numbers a)) (most_words a.most) (numbers_lack w (ask_numbers a) (ask_range a h)) (most_lacks w a.most h.most)

asks_lack : Written → (as_ : List Ask) → AllByRecursion IsAsk as_ → AllByRecursion (λ u. AllByRecursion (λ word. bytes_eq word (codes "/") ≡ false) u) (map ask_words as_)
asks_lack w [] h = tt
asks_lack w (a ∷ as_) h = (ask_lacks w a h.0, asks_lack w as_ h.1)

pub units_back : Written → (asks : List Ask) → 1 ≤ length asks → AllByRecursion IsAsk asks → units_of (asks_words asks) ≡ map ask_words asks
units_back w [] some h = absurd (omega (arith, some))
units_back w (a ∷ as_) some h =
    ap (λ l. units_of (ask_words a ++ l)) (slashed as_)
    ∙ split_joined (λ word. bytes_eq word (codes "/")) (codes "/") (ask_words a) (map ask_words as_) refl (ask_lacks w a h.0) (asks_lack w as_ h.1)

pub asks_read : Written → (place : ℕ) (asks : List Ask) → 1 ≤ length asks → AllByRecursion IsAsk asks → asks_at place (units_of (asks_words asks)) ≡ Ok asks
asks_read w place asks some h = ap (asks_at place) (units_back w asks some h) ∙ asks_back w place asks h

sized : (n : ℕ) → 1 ≤ n → n ≤ 8 → is_between 2 9 (suc n) ≡ true
sized n some few = grind (arith, nat_tests, some, few)

unit_sized : Written → (a : Ask) → IsAsk a → is_unit (ask_words a) ≡ true
unit_sized w a h =
    ap (is_between 2 9) (own_back w (ask_numbers a) a.most (ask_range a h) ∙ ap (λ n. suc n) (length-map a.quantities decimal))
    ∙ sized (length a.quantities) h.some h.few

units_sized : Written → (asks : List Ask) → AllByRecursion IsAsk asks → list_all is_unit (map ask_words asks) ≡ true
units_sized w [] h = refl
units_sized w (a ∷ as_) h = ap (λ b. b && list_all is_unit (map ask_words as_)) (unit_sized w a h.0) ∙ units_sized w as_ h.1

pub units_counted : Written → (asks : List Ask) → 1 ≤ length asks → AllByRecursion IsAsk asks → list_all is_unit (units_of (asks_words asks)) ≡ true
units_counted w asks some h = ap (list_all is_unit) (units_back w asks some h) ∙ units_sized w asks h

plain_slash : IsPlain (codes "/")
plain_slash = record { some = refl; lacks = (refl, tt) }

plain_most : Written → (n : ℕ) → n < 2 ^ 64 → AllByRecursion IsPlain (most_words n)
plain_most w n lt =
    elim (nat_eq n greatest_count) as (λ b. AllByRecursion IsPlain (cond b [] (codes "most" ∷ decimal n ∷ []))) [
      | true ↦ tt
      | false ↦ (record { some = refl; lacks = (refl, (refl, (refl, (refl, tt)))) }, (plain_number (decimal n) n (w n lt), tt))
    ]

plain_ask : Written → (a : Ask) → IsAsk a → AllByRecursion IsPlain (ask_words a)
plain_ask w a h = all_append IsPlain (map decimal (ask_numbers a)) (most_words a.most) (plain_numbers w (ask_numbers a) (ask_range a h)) (plain_most w a.most h.most)

plain_more : Written → (as_ : List Ask) → AllByRecursion IsAsk as_ → AllByRecursion IsPlain (flat_map (λ b. codes "/" ∷ ask_words b) as_)
plain_more w [] h = tt
plain_more w (a ∷ as_) h = (plain_slash, all_append IsPlain (ask_words a) (flat_map (λ b. codes "/" ∷ ask_words b) as_) (plain_ask w a h.0) (plain_more w as_ h.1))

plain_asks : Written → (asks : List Ask) → AllByRecursion IsAsk asks → AllByRecursion IsPlain (asks_words asks)
plain_asks w [] h = tt
plain_asks w (a ∷ as_) h = all_append IsPlain (ask_words a) (flat_map (λ b. codes "/" ∷ ask_words b) as_) (plain_ask w a h.0) (plain_more w as_ h.1)

-- The first words of each line are plain
is_plain : List ℕ → Bool
is_plain w = is_word w && list_all (λ b. not (is_blank b)) w

plain_test : (w : List ℕ) → is_plain w ≡ true → IsPlain w
unfolding is_plain
plain_test w h = record { some = first_true (is_word w) _ h; lacks = no_blanks w (then_true (is_word w) _ h) }
  where
    then_true : (a b : Bool) → (a && b) ≡ true → b ≡ true
    then_true true b e = e
    then_true false b e = cc

    negated : (b : Bool) → not b ≡ true → b ≡ false
    negated true e = cc
    negated false e = refl

    no_blanks : (w : List ℕ) → list_all (λ b. not (is_blank b)) w ≡ true → AllByRecursion (λ b. is_blank b ≡ false) w
    no_blanks [] e = tt
    no_blanks (b ∷ bs) e = (negated (is_blank b) (first_true (not (is_blank b)) _ e), no_blanks bs (then_true (not (is_blank b)) _ e))

plain_tests : (ws : List (List ℕ)) → list_all is_plain ws ≡ true → AllByRecursion IsPlain ws
plain_tests [] h = tt
plain_tests (w ∷ ws) h = (plain_test w (first_true (is_plain w) _ h), plain_tests ws (then_true (is_plain w) _ h))
  where
    then_true : (a b : Bool) → (a && b) ≡ true → b ≡ true
    then_true true b e = e
    then_true false b e = cc

heads_plain : (h : Head) → list_all is_plain (shape_of h).words ≡ true
unfolding is_plain
heads_plain Master = refl
heads_plain Stop = refl
heads_plain Agent = refl
heads_plain App = refl
heads_plain Submit = refl
heads_plain Finish = refl
heads_plain Ban = refl
heads_plain Unban = refl
heads_plain Begin = refl
heads_plain Preempt = refl
heads_plain Judge = refl
heads_plain Want = refl
heads_plain Near = refl
heads_plain Rack = refl
heads_plain Avoid = refl
heads_plain Back = refl
heads_plain TurnMaster = refl
heads_plain TurnAgent = refl
heads_plain TurnApp = refl
heads_plain ResyncMaster = refl
heads_plain ResyncAgent = refl
heads_plain ResyncApp = refl
heads_plain Deliver = refl
heads_plain DeliverRange = refl
heads_plain Dump = refl
heads_plain Show = refl

asks_range : (b : Bool) (asks : List Ask) → AreAsks b asks → AllByRecursion IsAsk asks
asks_range true asks h = h.1
asks_range false asks h = subst (AllByRecursion IsAsk) (sym h) tt

saying_plain : Written → (s : Saying) → AreWithin 0 (shape_of s.head).places s.numbers → AreAsks (shape_of s.head).units s.asks → AllByRecursion IsPlain (saying_words s)
saying_plain w s within asks =
    all_append IsPlain (shape_of s.head).words (map decimal s.numbers ++ asks_words s.asks) (plain_tests (shape_of s.head).words (heads_plain s.head))
    (all_append IsPlain (map decimal s.numbers) (asks_words s.asks) (plain_numbers w s.numbers (within_range (shape_of s.head).places 0 s.numbers within)) (plain_asks w s.asks (asks_range (shape_of s.head).units s.asks asks)))

-- behind its front a line has its units
front_dropped : (vs ms as_ : List (List ℕ)) (n : ℕ) → length ms ≡ n → drop (length vs + n) (vs ++ (ms ++ as_)) ≡ as_
front_dropped vs ms as_ n e =
    let long : length (vs ++ ms) ≡ length vs + n = length-append vs ms ∙ ap (λ k. length vs + k) e in
    ap (drop (length vs + n)) (sym (append_assoc vs ms as_)) ∙ drop_at (vs ++ ms) as_ (length vs + n) long

asks_case : Written → (b : Bool) (place : ℕ) (asks : List Ask) → AreAsks b asks
    → elim b as (λ _. Result (List Ask) LineFault) [ true ↦ asks_at place (units_of (asks_words asks)) | false ↦ Ok [] ] ≡ Ok asks
asks_case w true place asks h = asks_read w place asks h.0 h.1
asks_case w false place asks h = ap (λ l. Ok l) (sym h)

saying_behind : Written → (s : Saying) (place : ℕ) → AreWithin 0 (shape_of s.head).places s.numbers → AreAsks (shape_of s.head).units s.asks
    → event_behind s.head place (saying_words s) ≡ Ok (event_at s.head s.numbers s.asks)
saying_behind w s place within asks =
    let f = shape_of s.head in
    let ms = map decimal s.numbers in
    let counted : length ms ≡ length f.places = length-map s.numbers decimal ∙ within_length f.places 0 s.numbers within in
    ap (λ l. then_do (numbers_at f.places (place + length f.words) 0 l) (λ ns. then_do (asks_of f place (saying_words s)) (λ as_. Ok (event_at s.head ns as_)))) (drop_at f.words (ms ++ asks_words s.asks) (length f.words) refl)
    ∙ ap (λ r. then_do r (λ ns. then_do (asks_of f place (saying_words s)) (λ as_. Ok (event_at s.head ns as_)))) (numbers_back w f.places (place + length f.words) 0 s.numbers (asks_words s.asks) within)
    ∙ ap (λ l. then_do (elim f.units as (λ _. Result (List Ask) LineFault) [ true ↦ asks_at (place + front f) (units_of l) | false ↦ Ok [] ]) (λ as_. Ok (event_at s.head s.numbers as_)))
    (front_dropped f.words ms (asks_words s.asks) (length f.places) counted)
    ∙ ap (λ r. then_do r (λ as_. Ok (event_at s.head s.numbers as_))) (asks_case w f.units (place + front f) s.asks asks)

-- Where its first words and the number of its words tell which line it is
plain_back : Written → (e : Event) → IsLineEvent e → event_of_words (saying_words (saying_of e)) ≡ event_behind (saying_of e).head 0 (saying_words (saying_of e))
    → event_at (saying_of e).head (saying_of e).numbers (saying_of e).asks ≡ e → event_of (spaced (saying_words (saying_of e))) ≡ Ok e
plain_back w e h found same =
    ap event_of_words (spaced_words (saying_words (saying_of e)) (saying_plain w (saying_of e) h.numbers h.asks))
    ∙ found ∙ saying_behind w (saying_of e) 0 h.numbers h.asks ∙ ap (λ e. Ok e) same

-- A stop within a writing. Its own numbers
calls_fit : (n : ℕ) → is_within Calls 0 n ≡ true → n < 2 ^ 64
calls_fit n h = grind (arith, nat_tests, h)

stop_numbers : (calls : ℕ) (all : Bool) → is_within Calls 0 calls ≡ true → AreWithin 0 halt_shape.places (calls ∷ switch all ∷ [])
stop_numbers calls true h = (calls_fit calls h, h, (grind (arith), refl, record {}))
stop_numbers calls false h = (calls_fit calls h, h, (grind (arith), refl, record {}))

switched_back : (all : Bool) → nat_eq (switch all) 1 ≡ all
switched_back true = refl
switched_back false = refl

halt_plain : Written → (calls : ℕ) (all : Bool) → is_within Calls 0 calls ≡ true → AllByRecursion IsPlain (halt_words calls all)
unfolding is_plain
halt_plain w calls all h =
    (plain_test (codes "halt") refl, plain_numbers w (calls ∷ switch all ∷ []) (within_range halt_shape.places 0 (calls ∷ switch all ∷ []) (stop_numbers calls all h)))

stop_back : Written → (calls : ℕ) (all : Bool) (words : List (List ℕ)) → is_within Calls 0 calls ≡ true → stop_of (halt_words calls all ++ words) ≡ Ok (calls, all)
stop_back w calls all words h =
    ap (λ r. then_do r (λ ns. Ok (slice_index ns 0, nat_eq (slice_index ns 1) 1))) (numbers_back w halt_shape.places 1 0 (calls ∷ switch all ∷ []) words (stop_numbers calls all h))
    ∙ ap {A = Bool} {B = Result (ℕ × Bool) LineFault} (λ b. Ok (calls, b)) (switched_back all)

-- its words are those of the line behind its own
halt_joined : (calls : ℕ) (all : Bool) (v : List ℕ) (vs : List (List ℕ)) → spaced (halt_words calls all) ++ (32 ∷ spaced (v ∷ vs)) ≡ spaced (halt_words calls all ++ v ∷ vs)
halt_joined calls all v vs =
    append_assoc (codes "halt") (blanked (decimal calls ∷ decimal (switch all) ∷ [])) (32 ∷ spaced (v ∷ vs))
    ∙ ap (λ l. codes "halt" ++ l) (sym (flat_map-append (λ u. 32 ∷ u) (decimal calls ∷ decimal (switch all) ∷ []) (v ∷ vs)))

halt_back : Written → (calls : ℕ) (all : Bool) (x : Event) → is_within Calls 0 calls ≡ true → AreWithin 0 (shape_of (saying_of x).head).places (saying_of x).numbers
    → AreAsks (shape_of (saying_of x).head).units (saying_of x).asks
    → spaced (halt_words calls all) ++ (32 ∷ event_text x) ≡ spaced (halt_words calls all ++ saying_words (saying_of x))
    → head_of writing_heads (saying_words (saying_of x)) ≡ Ok (saying_of x).head
    → event_at (saying_of x).head (saying_of x).numbers (saying_of x).asks ≡ x
    → event_of (spaced (halt_words calls all) ++ (32 ∷ event_text x)) ≡ Ok (halting calls all x)
halt_back w calls all x within numbers asks joined found same =
    let words = saying_words (saying_of x) in
    ap event_of joined
    ∙ ap event_of_words (spaced_words (halt_words calls all ++ words) (all_append IsPlain (halt_words calls all) words (halt_plain w calls all within) (saying_plain w (saying_of x) numbers asks)))
    ∙ ap (λ r. then_do r (λ h. then_do (stop_of (halt_words calls all ++ words)) (λ stop. then_do (event_behind h (front halt_shape) words) (λ x. Ok (halting stop.0 stop.1 x))))) found
    ∙ ap {A = Result (ℕ × Bool) LineFault} (λ r. then_do r (λ stop. then_do (event_behind (saying_of x).head (front halt_shape) words) (λ x. Ok (halting stop.0 stop.1 x)))) (stop_back w calls all words within)
    ∙ ap (λ r. then_do r (λ x. Ok (halting calls all x))) (saying_behind w (saying_of x) (front halt_shape) numbers asks)
    ∙ ap (λ x. Ok (halting calls all x)) same

stopped_back : Written → (calls : ℕ) (all : Bool) (x : Event) → is_within Calls 0 calls ≡ true → is_writing x ≡ true → AreWithin 0 (shape_of (saying_of x).head).places (saying_of x).numbers
    → AreAsks (shape_of (saying_of x).head).units (saying_of x).asks → event_of (spaced (halt_words calls all) ++ (32 ∷ event_text x)) ≡ Ok (halting calls all (anywhere x))
stopped_back w calls all (MasterEvent e) h is numbers asks = halt_back w calls all (MasterEvent e) h numbers asks (halt_joined calls all (codes "master") (map decimal (e ∷ []) ++ [])) refl refl
stopped_back w calls all (SubmitEvent e a g us) h is numbers asks =
    halt_back w calls all (SubmitEvent e a g us) h numbers asks (halt_joined calls all (codes "submit") (map decimal (e ∷ a.0 ∷ g.0 ∷ []) ++ asks_words us)) (rw (units_counted w us asks.0 asks.1) refl) refl
stopped_back w calls all (FinishEvent e a) h is numbers asks = halt_back w calls all (FinishEvent e a) h numbers asks (halt_joined calls all (codes "finish") (map decimal (e ∷ a.0 ∷ []) ++ [])) refl refl
stopped_back w calls all (BanEvent e m) h is numbers asks = halt_back w calls all (BanEvent e m) h numbers asks (halt_joined calls all (codes "ban") (map decimal (e ∷ m.0 ∷ []) ++ [])) refl refl
stopped_back w calls all (UnbanEvent e m) h is numbers asks = halt_back w calls all (UnbanEvent e m) h numbers asks (halt_joined calls all (codes "unban") (map decimal (e ∷ m.0 ∷ []) ++ [])) refl refl
stopped_back w calls all (StopEvent e) h is numbers asks = absurd cc
stopped_back w calls all (AgentEvent m b) h is numbers asks = absurd cc
stopped_back w calls all (AppEvent a b) h is numbers asks = absurd cc
stopped_back w calls all (BeginEvent e) h is numbers asks = absurd cc
stopped_back w calls all (PreemptEvent e) h is numbers asks = absurd cc
stopped_back w calls all (JudgeEvent e least percent) h is numbers asks = absurd cc
stopped_back w calls all (WantEvent a u n) h is numbers asks = absurd cc
stopped_back w calls all (NearEvent a u m n) h is numbers asks = absurd cc
stopped_back w calls all (RackEvent a u r n) h is numbers asks = absurd cc
stopped_back w calls all (AvoidEvent a u m on) h is numbers asks = absurd cc
stopped_back w calls all (BackEvent a u m n) h is numbers asks = absurd cc
stopped_back w calls all (TurnMasterEvent e) h is numbers asks = absurd cc
stopped_back w calls all (TurnAgentEvent m) h is numbers asks = absurd cc
stopped_back w calls all (TurnAppEvent a) h is numbers asks = absurd cc
stopped_back w calls all (ResyncMasterEvent e) h is numbers asks = absurd cc
stopped_back w calls all (ResyncAgentEvent m) h is numbers asks = absurd cc
stopped_back w calls all (ResyncAppEvent a) h is numbers asks = absurd cc
stopped_back w calls all (DeliverEvent k) h is numbers asks = absurd cc
stopped_back w calls all (DeliverRangeEvent k l) h is numbers asks = absurd cc
stopped_back w calls all (DumpEvent k) h is numbers asks = absurd cc
stopped_back w calls all ShowEvent h is numbers asks = absurd cc
stopped_back w calls all (HaltEvent k on p x) h is numbers asks = absurd cc

pub event_back : Written → (e : Event) → IsLineEvent e → event_of (event_text e) ≡ Ok (anywhere e)
event_back w (MasterEvent e) h = plain_back w (MasterEvent e) h refl refl
event_back w (StopEvent e) h = plain_back w (StopEvent e) h refl refl
event_back w (AgentEvent m b) h = plain_back w (AgentEvent m b) h refl refl
event_back w (AppEvent a b) h = plain_back w (AppEvent a b) h refl refl
event_back w (SubmitEvent e a g asks) h = plain_back w (SubmitEvent e a g asks) h (rw (units_counted w asks h.asks.0 h.asks.1) refl) refl
event_back w (FinishEvent e a) h = plain_back w (FinishEvent e a) h refl refl
event_back w (BanEvent e m) h = plain_back w (BanEvent e m) h refl refl
event_back w (UnbanEvent e m) h = plain_back w (UnbanEvent e m) h refl refl
event_back w (BeginEvent e) h = plain_back w (BeginEvent e) h refl refl
event_back w (PreemptEvent e) h = plain_back w (PreemptEvent e) h refl refl
event_back w (JudgeEvent e least percent) h = plain_back w (JudgeEvent e least percent) h refl refl
event_back w (WantEvent a u n) h = plain_back w (WantEvent a u n) h refl refl
event_back w (NearEvent a u m n) h = plain_back w (NearEvent a u m n) h refl refl
event_back w (RackEvent a u r n) h = plain_back w (RackEvent a u r n) h refl refl
event_back w (AvoidEvent a u m true) h = plain_back w (AvoidEvent a u m true) h refl refl
event_back w (AvoidEvent a u m false) h = plain_back w (AvoidEvent a u m false) h refl refl
event_back w (BackEvent a u m n) h = plain_back w (BackEvent a u m n) h refl refl
event_back w (TurnMasterEvent e) h = plain_back w (TurnMasterEvent e) h refl refl
event_back w (TurnAgentEvent m) h = plain_back w (TurnAgentEvent m) h refl refl
event_back w (TurnAppEvent a) h = plain_back w (TurnAppEvent a) h refl refl
event_back w (ResyncMasterEvent e) h = plain_back w (ResyncMasterEvent e) h refl refl
event_back w (ResyncAgentEvent m) h = plain_back w (ResyncAgentEvent m) h refl refl
event_back w (ResyncAppEvent a) h = plain_back w (ResyncAppEvent a) h refl refl
event_back w (DeliverEvent k) h = plain_back w (DeliverEvent k) h refl refl
event_back w (DeliverRangeEvent k l) h = plain_back w (DeliverRangeEvent k l) h refl refl
event_back w (DumpEvent k) h = plain_back w (DumpEvent k) h refl refl
event_back w ShowEvent h = plain_back w ShowEvent h refl refl
event_back w (HaltEvent calls all p x) h = stopped_back w calls all x h.stop.0 h.stop.1 h.numbers h.asks
