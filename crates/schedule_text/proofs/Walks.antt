-- Numbers are read one after another: what is read of a line is what was read and what is left.
use Rattle.std.proofs.Common.{◌≡◌, ℕ, zero, suc, ◌+◌, ◌<◌, List, [], ◌∷◌, ◌++◌, length, get_or, set, map, take, drop, drop-cons, Result, Ok, Err, Bool, true, false, ◌&&◌, Bor, refl, ap, sym, subst, ◌∙◌, arith, add-one, append_assoc}
use Rattle.fuxi_terms.specs.Counts.{then_do}
use Rattle.schedule_text.specs.declared.event.LineFault.{LineFault}
use Rattle.schedule_text.specs.declared.event.LineFault.TheVariants.{UnknownWord, WrongCount, BadNumber, Range, OutOfMemory}
use Rattle.schedule_text.specs.declared.form.Place.{Place}
use Rattle.schedule_text.specs.declared.form.Place.TheVariants.{Incarnation, Job, Unit as UnitPlace, Machine, Rack as RackPlace, Group, Switch, Packet, LastPacket, Votes, Percent, Calls, Count}
use Rattle.std.proofs.lemmas.Bool.Decides.{nat_tests}
use Rattle.std.specs.List.{list_all}
use Rattle.schedule_unit.specs.declared.asks.Ask.{Ask}
use Rattle.schedule_text.specs.LineForms.{is_within, IsNarrow}
use Rattle.schedule_text.specs.PlaceNumbers.{number_at as number_in, numbers_at as numbers_in}
use Rattle.schedule_text.specs.ReadEvents.{number_at, counts_at, own_count, most_at, ask_of, ask_at, asks_at, IsFault}

pub then_ok : {A E : Type 0} (r : Result A E) → then_do r (λ x. Ok x) ≡ r
then_ok (Ok x) = refl
then_ok (Err e) = refl

-- what stands from an index on, as it is read
map_at : {A B : Type 0} (f : A → B) (xs : List A) (i : ℕ) (d : A) → i < length xs → drop i (map f xs) ≡ f (get_or xs i d) ∷ drop (suc i) (map f xs)
map_at f [] i d lt = absurd (omega (arith, lt))
map_at f (x ∷ xs) zero d lt = refl
map_at f (x ∷ xs) (suc i) d lt = map_at f xs i d (omega (arith, lt))

pub behind_at : {A B : Type 0} (f : A → B) (xs : List A) (i : ℕ) (d : A) → i < length xs → drop i (map f xs) ≡ f (get_or xs i d) ∷ drop (i + 1) (map f xs)
behind_at f xs i d lt = map_at f xs i d lt ∙ ap (λ n. f (get_or xs i d) ∷ drop n (map f xs)) (sym (add-one i))

behind_word : (ws : List (Bor (List ℕ))) (i : ℕ) (d : Bor (List ℕ)) → i < length ws → drop i (map (λ w. w.now) ws) ≡ (get_or ws i d).now ∷ drop (i + 1) (map (λ w. w.now) ws)
behind_word ws i d lt = behind_at (λ (w : Bor (List ℕ)). w.now) ws i d lt

-- from what is behind a number to what is behind the next one
joined : (front : List ℕ) (n : ℕ) (r : Result (List ℕ) LineFault) → then_do (then_do r (λ ns. Ok (n ∷ ns))) (λ ns. Ok (front ++ ns)) ≡ then_do r (λ ns. Ok ((front ++ n ∷ []) ++ ns))
joined front n (Ok ns) = ap (λ l. Ok l) (sym (append_assoc front (n ∷ []) ns))
joined front n (Err e) = refl

next_place : (place i : ℕ) → place + i + 1 ≡ place + (i + 1)
next_place place i = omega arith

pub counts_step : (ws : List (Bor (List ℕ))) (place i : ℕ) (d : Bor (List ℕ)) (front : List ℕ) (n : ℕ) (all : Result (List ℕ) LineFault) → i < length ws
    → number_at Count (place + i) 0 (get_or ws i d).now ≡ Ok n
    → all ≡ then_do (counts_at (place + i) (drop i (map (λ w. w.now) ws))) (λ ns. Ok (front ++ ns))
    → all ≡ then_do (counts_at (place + (i + 1)) (drop (i + 1) (map (λ w. w.now) ws))) (λ ns. Ok ((front ++ n ∷ []) ++ ns))
counts_step ws place i d front n all lt is h =
    let rest = drop (i + 1) (map (λ (w : Bor (List ℕ)). w.now) ws) in
    h ∙ ap (λ l. then_do (counts_at (place + i) l) (λ ns. Ok (front ++ ns))) (behind_word ws i d lt)
    ∙ ap (λ r. then_do (then_do r (λ m. then_do (counts_at (place + i + 1) rest) (λ ns. Ok (m ∷ ns)))) (λ ns. Ok (front ++ ns))) is
    ∙ joined front n (counts_at (place + i + 1) rest)
    ∙ ap (λ p. then_do (counts_at p rest) (λ ns. Ok ((front ++ n ∷ []) ++ ns))) (next_place place i)

pub counts_fault : (ws : List (Bor (List ℕ))) (place i : ℕ) (d : Bor (List ℕ)) (front : List ℕ) (fault : LineFault) (all : Result (List ℕ) LineFault) → i < length ws
    → number_at Count (place + i) 0 (get_or ws i d).now ≡ Err fault
    → all ≡ then_do (counts_at (place + i) (drop i (map (λ w. w.now) ws))) (λ ns. Ok (front ++ ns))
    → all ≡ Err fault
counts_fault ws place i d front fault all lt is h =
    let rest = drop (i + 1) (map (λ (w : Bor (List ℕ)). w.now) ws) in
    h ∙ ap (λ l. then_do (counts_at (place + i) l) (λ ns. Ok (front ++ ns))) (behind_word ws i d lt)
    ∙ ap (λ r. then_do (then_do r (λ m. then_do (counts_at (place + i + 1) rest) (λ ns. Ok (m ∷ ns)))) (λ ns. Ok (front ++ ns))) is

module _ {P : Type 0} (is_within : P → ℕ → ℕ → Bool) where
  behind_place : (ps : List P) (i : ℕ) (d : P) → i < length ps → drop i ps ≡ get_or ps i d ∷ drop (i + 1) ps
  behind_place ps i d lt = drop-cons ps i d lt ∙ ap (λ n. get_or ps i d ∷ drop n ps) (sym (add-one i))

  pub numbers_step : (ps : List P) (ws : List (Bor (List ℕ))) (place before i : ℕ) (d : Bor (List ℕ)) (e x : P) (front : List ℕ) (n : ℕ) (all : Result (List ℕ) LineFault)
      → i < length ps → i < length ws
      → x ≡ get_or ps i e
      → number_in is_within x (place + i) before (get_or ws i d).now ≡ Ok n
      → all ≡ then_do (numbers_in is_within (drop i ps) (place + i) before (drop i (map (λ w. w.now) ws))) (λ ns. Ok (front ++ ns))
      → all ≡ then_do (numbers_in is_within (drop (i + 1) ps) (place + (i + 1)) n (drop (i + 1) (map (λ w. w.now) ws))) (λ ns. Ok ((front ++ n ∷ []) ++ ns))
  numbers_step ps ws place before i d e x front n all named lt same is h =
      let rest = drop (i + 1) (map (λ (w : Bor (List ℕ)). w.now) ws) in
      h ∙ ap (λ l. then_do (numbers_in is_within (drop i ps) (place + i) before l) (λ ns. Ok (front ++ ns))) (behind_word ws i d lt)
      ∙ ap (λ l. then_do (numbers_in is_within l (place + i) before ((get_or ws i d).now ∷ rest)) (λ ns. Ok (front ++ ns))) (behind_place ps i e named)
      ∙ ap (λ r. then_do (then_do r (λ m. then_do (numbers_in is_within (drop (i + 1) ps) (place + i + 1) m rest) (λ ns. Ok (m ∷ ns)))) (λ ns. Ok (front ++ ns))) (subst (λ p. number_in is_within p (place + i) before (get_or ws i d).now ≡ Ok n) same is)
      ∙ joined front n (numbers_in is_within (drop (i + 1) ps) (place + i + 1) n rest)
      ∙ ap (λ p. then_do (numbers_in is_within (drop (i + 1) ps) p n rest) (λ ns. Ok ((front ++ n ∷ []) ++ ns))) (next_place place i)

  pub numbers_fault : (ps : List P) (ws : List (Bor (List ℕ))) (place before i : ℕ) (d : Bor (List ℕ)) (e x : P) (front : List ℕ) (fault : LineFault) (all : Result (List ℕ) LineFault)
      → i < length ps → i < length ws
      → x ≡ get_or ps i e
      → number_in is_within x (place + i) before (get_or ws i d).now ≡ Err fault
      → all ≡ then_do (numbers_in is_within (drop i ps) (place + i) before (drop i (map (λ w. w.now) ws))) (λ ns. Ok (front ++ ns))
      → all ≡ Err fault
  numbers_fault ps ws place before i d e x front fault all named lt same is h =
      let rest = drop (i + 1) (map (λ (w : Bor (List ℕ)). w.now) ws) in
      h ∙ ap (λ l. then_do (numbers_in is_within (drop i ps) (place + i) before l) (λ ns. Ok (front ++ ns))) (behind_word ws i d lt)
      ∙ ap (λ l. then_do (numbers_in is_within l (place + i) before ((get_or ws i d).now ∷ rest)) (λ ns. Ok (front ++ ns))) (behind_place ps i e named)
      ∙ ap (λ r. then_do (then_do r (λ m. then_do (numbers_in is_within (drop (i + 1) ps) (place + i + 1) m rest) (λ ns. Ok (m ∷ ns)))) (λ ns. Ok (front ++ ns))) (subst (λ p. number_in is_within p (place + i) before (get_or ws i d).now ≡ Err fault) same is)

pub fault_is : {A : Type 0} (outcome : Result A LineFault) (fault : LineFault) → outcome ≡ Err fault → IsFault outcome fault
fault_is outcome UnknownWord is = is
fault_is outcome WrongCount is = is
fault_is outcome (BadNumber place) is = is
fault_is outcome (Range place) is = is
fault_is outcome OutOfMemory is = tt

-- an array that is filled from its front
pub front_set : (xs : List ℕ) (i n : ℕ) → i < length xs → take (i + 1) (set xs i n) ≡ take i xs ++ n ∷ []
front_set [] i n lt = absurd (omega (arith, lt))
front_set (x ∷ xs) zero n lt = refl
front_set (x ∷ xs) (suc i) n lt = ap (λ k. take k (x ∷ set xs i n)) (add-one (suc i)) ∙ ap (λ l. x ∷ l) (sym (ap (λ k. take k (set xs i n)) (add-one i)) ∙ front_set xs i n (omega (arith, lt)))

-- a number that is read is in the range of its place
pub narrow_within : (p : Place) (before n : ℕ) → is_within p before n ≡ true → IsNarrow p n
narrow_within Incarnation before n h = tt
narrow_within Job before n h = grind (arith, nat_tests, h)
narrow_within UnitPlace before n h = grind (arith, nat_tests, h)
narrow_within Machine before n h = grind (arith, nat_tests, h)
narrow_within RackPlace before n h = grind (arith, nat_tests, h)
narrow_within Group before n h = grind (arith, nat_tests, h)
narrow_within Switch before n h = grind (arith, nat_tests, h)
narrow_within Packet before n h = tt
narrow_within LastPacket before n h = tt
narrow_within Votes before n h = grind (arith, nat_tests, h)
narrow_within Percent before n h = grind (arith, nat_tests, h)
narrow_within Calls before n h = grind (arith, nat_tests, h)
narrow_within Count before n h = tt

-- Units. Its own words and its bound
pub ask_read : (u : List (List ℕ)) (place own : ℕ) (ns : List ℕ) (most : ℕ) → own_count u ≡ own → counts_at place (take own u) ≡ Ok ns → most_at (place + own) (drop own u) ≡ Ok most → ask_at place u ≡ Ok (ask_of ns most)
ask_read u place own ns most count numbers bound =
    ap (λ o. then_do (counts_at place (take o u)) (λ ns. then_do (most_at (place + o) (drop o u)) (λ m. Ok (ask_of ns m)))) count
    ∙ ap (λ r. then_do r (λ ns. then_do (most_at (place + own) (drop own u)) (λ m. Ok (ask_of ns m)))) numbers
    ∙ ap (λ r. then_do r (λ m. Ok (ask_of ns m))) bound

pub own_fault : (u : List (List ℕ)) (place own : ℕ) (fault : LineFault) → own_count u ≡ own → counts_at place (take own u) ≡ Err fault → ask_at place u ≡ Err fault
own_fault u place own fault count numbers =
    ap (λ o. then_do (counts_at place (take o u)) (λ ns. then_do (most_at (place + o) (drop o u)) (λ m. Ok (ask_of ns m)))) count
    ∙ ap (λ r. then_do r (λ ns. then_do (most_at (place + own) (drop own u)) (λ m. Ok (ask_of ns m)))) numbers

-- one after another
ask_joined : (r : Result Ask LineFault) (s : Result (List Ask) LineFault) (ask : Ask) (before : List Ask) → r ≡ Ok ask
    → then_do (then_do r (λ a. then_do s (λ asks. Ok (a ∷ asks)))) (λ asks. Ok (before ++ asks)) ≡ then_do s (λ asks. Ok ((before ++ ask ∷ []) ++ asks))
ask_joined (Ok a) (Ok asks) ask before e = let same : a ≡ ask = cc in ap (λ a. Ok (before ++ a ∷ asks)) same ∙ ap (λ l. Ok l) (sym (append_assoc before (ask ∷ []) asks))
ask_joined (Ok a) (Err f) ask before e = refl
ask_joined (Err f) s ask before e = cc

pub asks_step : (u : List (List ℕ)) (rest : List (List (List ℕ))) (place : ℕ) (ask : Ask) (before : List Ask) (all : Result (List Ask) LineFault)
    → ask_at place u ≡ Ok ask
    → all ≡ then_do (asks_at place (u ∷ rest)) (λ asks. Ok (before ++ asks))
    → all ≡ then_do (asks_at (place + (length u + 1)) rest) (λ asks. Ok ((before ++ ask ∷ []) ++ asks))
asks_step u rest place ask before all is h =
    h ∙ ask_joined (ask_at place u) (asks_at (place + length u + 1) rest) ask before is
    ∙ ap (λ p. then_do (asks_at p rest) (λ asks. Ok ((before ++ ask ∷ []) ++ asks))) (next_place place (length u))

pub fault_spreads : {A B : Type 0} (r : Result A LineFault) (s : Result B LineFault) (fault : LineFault) → ((f : LineFault) → r ≡ Err f → s ≡ Err f) → IsFault r fault → IsFault s fault
fault_spreads r s UnknownWord spreads is = spreads UnknownWord is
fault_spreads r s WrongCount spreads is = spreads WrongCount is
fault_spreads r s (BadNumber place) spreads is = spreads (BadNumber place) is
fault_spreads r s (Range place) spreads is = spreads (Range place) is
fault_spreads r s OutOfMemory spreads is = tt

pub asks_fault : (u : List (List ℕ)) (rest : List (List (List ℕ))) (place : ℕ) (fault : LineFault) (before : List Ask) (all : Result (List Ask) LineFault)
    → IsFault (ask_at place u) fault
    → all ≡ then_do (asks_at place (u ∷ rest)) (λ asks. Ok (before ++ asks))
    → IsFault all fault
asks_fault u rest place fault before all is h =
    fault_spreads (ask_at place u) all fault (λ f e. h ∙ ap (λ r. then_do (then_do r (λ ask. then_do (asks_at (place + length u + 1) rest) (λ asks. Ok (ask ∷ asks)))) (λ asks. Ok (before ++ asks))) e) is

pub first_passes : {A : Type 0} (p : A → Bool) (x : A) (xs : List A) → list_all p (x ∷ xs) ≡ true → (p x ≡ true) × (list_all p xs ≡ true)
first_passes p x xs h = both (p x) (list_all p xs) h
  where
    both : (a b : Bool) → (a && b) ≡ true → (a ≡ true) × (b ≡ true)
    both true b e = (refl, e)
    both false b e = cc
