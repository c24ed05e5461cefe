-- What one turn that is delivered whole brings its receiver to, whatever the world is in which it is heard.
use Rattle.std.proofs.Common.{◌≡◌, inl, inr, ℕ, zero, suc, ◌+◌, ◌-◌, ◌<◌, ◌≤◌, Bool, true, false, cond, nat_eq, nat_lt, List, [], ◌∷◌, ◌++◌, map, min, refl, sym, ◌∙◌, ap, subst, arith}
use Rattle.std.specs.Prelude.{◌||◌}
use Rattle.std.specs.List.{AllByRecursion}
use Rattle.std.proofs.lemmas.Bool.Decides.{nat_tests}
use Rattle.fuxi_terms.specs.Limits.{kept_changes, turn_deltas}
use Rattle.fuxi_terms.specs.Lists.{numbers_from}
use Rattle.fuxi_terms.proofs.Alls.{all_append, all_back, all_front, all_more}
use Rattle.fuxi_terms.proofs.Booleans.{both_false, either, nat_itself, number_is}
use Rattle.spec_net.specs.Net.{Party, Id, Link, Packet, Ack, Delta, Full, hear, notes, turn_packets, same_id}
use Rattle.spec_net.proofs.BoundedLemmas.{in_numbers}
use Rattle.spec_net.proofs.PublishLemmas.{same_id_itself}
use Rattle.spec_progress.specs.Reached.{Reaches, ComesTo, hears_each, IsBroughtForward, TurnsBringForward}
use Rattle.spec_progress.proofs.FurtherLemmas.{Further, further_itself, further_then, hear_further, still_reaches, known_after, place_after_whole, place_after_change, acked_after}

-- packets that are delivered one after the other
abbrev pub deliver_each : {W : Type 0} → (Packet → W → W) → List Packet → W → W
deliver_each step [] w = w
deliver_each step (x ∷ xs) w = deliver_each step xs (step x w)

pub deliver_append : {W : Type 0} (step : Packet → W → W) (xs ys : List Packet) (w : W) → deliver_each step (xs ++ ys) w ≡ deliver_each step ys (deliver_each step xs w)
deliver_append step [] ys w = refl
deliver_append step (x ∷ xs) ys w = deliver_append step xs ys (step x w)

-- whose the packets of a turn are
abbrev pub IsOf : Party → Id → Packet → Type 0
IsOf s q x = (x.from ≡ s) × (x.to.id ≡ q)

-- and for whom, with its incarnation
pub turn_between : (s : Party) (q : Id) (last : ℕ) (l : Link) → AllByRecursion (λ x. (x.from ≡ s) × (x.to ≡ record { id = q; inc = l.known })) (turn_packets s q last l)
turn_between s q last l =
    let to : Party = record { id = q; inc = l.known } in
    let B : Packet → Type 0 = λ x. (x.from ≡ s) × (x.to ≡ to) in
    let P : List Packet → Type 0 = AllByRecursion B in
    let whole : Packet = record { from = s; to = to; kind = Full; inc = s.inc; seq = last } in
    let delta : ℕ → Packet = λ n. record { from = s; to = to; kind = Delta; inc = s.inc; seq = n } in
    let few = min turn_deltas (last - l.acked) in
    let deltas : P (map delta (numbers_from (l.acked + 1) few)) = in_numbers B delta (l.acked + 1) few (λ i le lt. (refl, refl)) in
    all_append B (notes s to last l) (record { from = s; to = to; kind = Ack; inc = l.known; seq = l.seq } ∷ [])
    (either P (nat_eq l.known 0 || (nat_eq last 0 || nat_eq l.acked last)) [] (cond (nat_eq l.acked 0 || nat_lt kept_changes (last - l.acked)) (whole ∷ []) (map delta (numbers_from (l.acked + 1) few)))
    (λ _. tt) (λ _. either P (nat_eq l.acked 0 || nat_lt kept_changes (last - l.acked)) (whole ∷ []) (map delta (numbers_from (l.acked + 1) few)) (λ _. ((refl, refl), tt)) (λ _. deltas)))
    ((refl, refl), tt)

pub turn_of : (s : Party) (q : Id) (last : ℕ) (l : Link) → AllByRecursion (IsOf s q) (turn_packets s q last l)
turn_of s q last l = all_more (λ x. (x.from ≡ s) × (x.to ≡ record { id = q; inc = l.known })) (IsOf s q) (λ x b. (b.0, ap (λ (r : Party). r.id) b.1)) (turn_packets s q last l) (turn_between s q last l)

-- the place to which the changes lead
comes_to : (last acked : ℕ) → acked ≤ last → last ≤ acked + kept_changes → ComesTo last acked (acked + min turn_deltas (last - acked))
comes_to last acked le few = by (nat_lt turn_deltas (last - acked)) refl
  where
    by : (b : Bool) → nat_lt turn_deltas (last - acked) ≡ b → ComesTo last acked (acked + min turn_deltas (last - acked))
    by true t = let lt : turn_deltas < last - acked = grind (arith, nat_tests, t) in inr (few, omega (arith, lt))
    by false t = let ge : last - acked ≤ turn_deltas = grind (arith, nat_tests, t) in inl (omega (arith, ge, le))

-- one that is further will do
pub comes_more : (last acked n m : ℕ) → n ≤ m → ComesTo last acked n → ComesTo last acked m
comes_more last acked n m le (inl a) = inl (omega (arith, a, le))
comes_more last acked n m le (inr b) = inr (b.0, let c = b.1 in omega (arith, c, le))

-- A world whose steps hear the packets of one sender at one receiver. Where it is fine the receiver knows no later incarnation; what may come is of that sender
module _ {W : Type 0} (step : Packet → W → W) (link : W → Link) (top : W → ℕ) (Fine : W → Type 0) (May : Packet → Type 0) (s r : Party)
    (whose : (x : Packet) → May x → IsOf s r.id x)
    (heard : (x : Packet) (w : W) → Fine w → May x → (link (step x w) ≡ (hear r true (top w) (link w) x).link) × Fine (step x w))
    (bounded : (w : W) → Fine w → (link w).known ≤ s.inc) where
  pub record Goes (w w' : W) : Type 0 where
    pub fine : Fine w'
    pub further : Further (link w) (link w')

  one : (x : Packet) (w : W) → Fine w → May x → Goes w (step x w)
  one x w fine may = let h = heard x w fine may in record {
    fine = h.1;
    further = subst (Further (link w)) (sym h.0) (hear_further r true (top w) (link w) x);
  }

  goes_each : (xs : List Packet) (w : W) → Fine w → AllByRecursion May xs → Goes w (deliver_each step xs w)
  goes_each [] w fine may = record { fine = fine; further = further_itself (link w) }
  goes_each (x ∷ xs) w fine may =
      let g = one x w fine may.0 in
      let f = goes_each xs (step x w) g.fine may.1 in
      record { fine = f.fine; further = further_then (link w) (link (step x w)) (link (deliver_each step xs (step x w))) g.further f.further }

  own : (x : Packet) → May x → same_id x.to.id r.id ≡ true
  own x may = ap (λ (d : Id). same_id d r.id) (whose x may).1 ∙ same_id_itself r.id

  below : (x : Packet) (w : W) → Fine w → May x → (link w).known ≤ x.from.inc
  below x w fine may = subst (λ (p : Party). (link w).known ≤ p.inc) (sym (whose x may).0) (bounded w fine)

  -- behind any packet the sender is known
  meets : (x : Packet) (w : W) → Fine w → May x → (link (step x w)).known ≡ s.inc
  meets x w fine may = ap (λ (l : Link). l.known) (heard x w fine may).0 ∙ known_after r (top w) (link w) x (own x may) (below x w fine may) ∙ ap (λ (p : Party). p.inc) (whose x may).0

  -- a whole ledger
  takes_whole : (x : Packet) (w : W) → Fine w → May x → x.kind ≡ Full → nat_eq x.to.inc r.inc ≡ true → Reaches (link (step x w)) s.inc x.seq
  takes_whole x w fine may kind mine = record {
    place = λ _. subst (λ (l : Link). x.seq ≤ l.seq) (sym (heard x w fine may).0) (place_after_whole r (top w) (link w) x (own x may) (below x w fine may) kind mine);
    before = λ lt. let e = meets x w fine may in absurd (omega (arith, lt, e));
  }

  -- the next change
  takes_change : (x : Packet) (w : W) (n : ℕ) → Fine w → May x → x.kind ≡ Delta → nat_eq x.to.inc r.inc ≡ true → 1 ≤ n → x.seq ≡ n + 1 → Reaches (link w) s.inc n → Reaches (link (step x w)) s.inc x.seq
  takes_change x w n fine may kind mine some next reached = record {
    place = λ _. subst (λ (l : Link). x.seq ≤ l.seq) (sym (heard x w fine may).0)
        (place_after_change r (top w) (link w) x (own x may) (below x w fine may) kind mine (same (nat_lt (link w).known s.inc) refl ∙ sym (ap (λ (p : Party). p.inc) (whose x may).0))
        (let at = reached.place (same (nat_lt (link w).known s.inc) refl) in omega (arith, at, next)) (omega (arith, next, some)));
    before = λ lt. let e = meets x w fine may in absurd (omega (arith, lt, e));
  }
    where
      same : (b : Bool) → nat_lt (link w).known s.inc ≡ b → (link w).known ≡ s.inc
      same true t = let lt : (link w).known < s.inc = grind (arith, nat_tests, t) in let z = reached.before lt in absurd (omega (arith, z, some))
      same false t = let le = bounded w fine in grind (arith, nat_tests, t, le)

  -- several changes, one for each number
  changes : (inc : ℕ) → nat_eq inc r.inc ≡ true → (n a : ℕ) (w : W) → Fine w → 1 ≤ a → Reaches (link w) s.inc a
      → AllByRecursion May (map (λ k. record { from = s; to = record { id = r.id; inc = inc }; kind = Delta; inc = s.inc; seq = k }) (numbers_from (a + 1) n))
      → Reaches (link (deliver_each step (map (λ k. record { from = s; to = record { id = r.id; inc = inc }; kind = Delta; inc = s.inc; seq = k }) (numbers_from (a + 1) n)) w)) s.inc (a + n)
  changes inc mine zero a w fine some reached may = subst (Reaches (link w) s.inc) (let e : a ≡ a + 0 = omega arith in e) reached
  changes inc mine (suc n) a w fine some reached may =
      let x : Packet = record { from = s; to = record { id = r.id; inc = inc }; kind = Delta; inc = s.inc; seq = a + 1 } in
      let rest : List Packet = map (λ k. record { from = s; to = record { id = r.id; inc = inc }; kind = Delta; inc = s.inc; seq = k }) (numbers_from (a + 1 + 1) n) in
      let g = one x w fine may.0 in
      let c = changes inc mine n (a + 1) (step x w) g.fine (omega arith) (takes_change x w a fine may.0 refl mine some refl reached) may.1 in
      subst (Reaches (link (deliver_each step rest (step x w))) s.inc) (let e : a + 1 + n ≡ a + suc n = omega arith in e) c

  -- all that is open for a receiver that the sender knows
  record Opened (last acked : ℕ) (w' : W) : Type 0 where
    to : ℕ
    comes : ComesTo last acked to
    reached : Reaches (link w') s.inc to

  opens : (last : ℕ) (l : Link) (w : W) → Fine w → l.known ≡ r.inc → 1 ≤ r.inc → l.acked ≤ last → Reaches (link w) s.inc l.acked
      → AllByRecursion May (notes s (record { id = r.id; inc = l.known }) last l) → Opened last l.acked (deliver_each step (notes s (record { id = r.id; inc = l.known }) last l) w)
  opens last l w fine knows some within reached =
      let to : Party = record { id = r.id; inc = l.known } in
      let whole : Packet = record { from = s; to = to; kind = Full; inc = s.inc; seq = last } in
      let few = min turn_deltas (last - l.acked) in
      let deltas : List Packet = map (λ n. record { from = s; to = to; kind = Delta; inc = s.inc; seq = n }) (numbers_from (l.acked + 1) few) in
      let P : List Packet → Type 0 = λ xs. AllByRecursion May xs → Opened last l.acked (deliver_each step xs w) in
      let mine : nat_eq l.known r.inc ≡ true = ap (λ n. nat_eq n r.inc) knows ∙ nat_itself r.inc in
      either P (nat_eq l.known 0 || (nat_eq last 0 || nat_eq l.acked last)) [] (cond (nat_eq l.acked 0 || nat_lt kept_changes (last - l.acked)) (whole ∷ []) deltas)
      (λ t may. record { to = l.acked; comes = inl (nothing_open t); reached = reached })
      (λ _. either P (nat_eq l.acked 0 || nat_lt kept_changes (last - l.acked)) (whole ∷ []) deltas
      (λ _ may. record { to = last; comes = inl (omega arith); reached = takes_whole whole w fine may.0 refl mine })
      (λ t may. let b = both_false (nat_eq l.acked 0) (nat_lt kept_changes (last - l.acked)) t in
      let b0 = b.0 in
      let b1 = b.1 in
      let first : 1 ≤ l.acked = grind (arith, nat_tests, b0) in
      let kept : last - l.acked ≤ kept_changes = grind (arith, nat_tests, b1) in
      record { to = l.acked + few; comes = comes_to last l.acked within (omega (arith, kept)); reached = changes l.known mine few l.acked w fine first reached may }))
    where
      nothing_open : (nat_eq l.known 0 || (nat_eq last 0 || nat_eq l.acked last)) ≡ true → last ≤ l.acked
      nothing_open t = by (nat_eq l.known 0) (nat_eq last 0) (nat_eq l.acked last) refl refl refl t
        where
          by : (a b c : Bool) → nat_eq l.known 0 ≡ a → nat_eq last 0 ≡ b → nat_eq l.acked last ≡ c → (a || (b || c)) ≡ true → last ≤ l.acked
          by true b c x y z t = absurd (let e = number_is l.known 0 x in omega (arith, e, knows, some))
          by false true c x y z t = let e = number_is last 0 y in omega (arith, e)
          by false false true x y z t = let e = number_is l.acked last z in omega (arith, e)
          by false false false x y z t = absurd (let f : ⊥ = cc in f)

  -- a whole turn
  pub record Turned (last : ℕ) (l : Link) (w w' : W) : Type 0 where
    pub goes : Goes w w'
    pub known : (link w').known ≡ s.inc
    pub place : l.known ≡ r.inc → 1 ≤ r.inc → ComesTo last l.acked (link w').seq
    pub acked : l.known ≡ r.inc → l.seq ≤ (link w').acked

  pub turned_whole : (last : ℕ) (l : Link) (w : W) → Fine w → l.acked ≤ last → (l.known ≡ r.inc → Reaches (link w) s.inc l.acked) → (l.known ≡ r.inc → (w' : W) → Fine w' → l.seq ≤ top w') → AllByRecursion May (turn_packets s r.id last l)
      → Turned last l w (deliver_each step (turn_packets s r.id last l) w)
  turned_whole last l w fine within reached there may =
      subst (Turned last l w) (sym (deliver_append step changes_of (ack ∷ []) w)) (record {
        goes = record { fine = g2.fine; further = further_then (link w) (link w1) (link w2) g1.further g2.further };
        known = known;
        place = λ knows some. let o = opens last l w fine knows some within (reached knows) opened in comes_more last l.acked o.to (link w2).seq ((still_reaches (link w1) (link w2) s.inc o.to g2.further o.reached).place known) o.comes;
        acked = λ knows. subst (λ (k : Link). l.seq ≤ k.acked) (sym (heard ack w1 g1.fine last_may).0)
            (acked_after r (top w1) (link w1) ack (own ack last_may) (below ack w1 g1.fine last_may) refl (ap (λ n. nat_eq n r.inc) knows ∙ nat_itself r.inc) (there knows w1 g1.fine));
      })
    where
      changes_of : List Packet
      changes_of = notes s (record { id = r.id; inc = l.known }) last l

      ack : Packet
      ack = record { from = s; to = record { id = r.id; inc = l.known }; kind = Ack; inc = l.known; seq = l.seq }

      opened : AllByRecursion May changes_of
      opened = all_front May changes_of (ack ∷ []) may

      last_may : May ack
      last_may = (all_back May changes_of (ack ∷ []) may).0

      w1 : W
      w1 = deliver_each step changes_of w

      w2 : W
      w2 = step ack w1

      g1 : Goes w w1
      g1 = goes_each changes_of w fine opened

      g2 : Goes w1 w2
      g2 = one ack w1 g1.fine last_may

      known : (link w2).known ≡ s.inc
      known = meets ack w1 g1.fine last_may

-- One channel
each_is : (r : Party) (top : ℕ) (xs : List Packet) (l : Link) → deliver_each (λ x l. (hear r true top l x).link) xs l ≡ hears_each r top xs l
each_is r top [] l = refl
each_is r top (x ∷ xs) l = each_is r top xs (hear r true top l x).link

pub turns_bring_forward : TurnsBringForward
turns_bring_forward s r last top sender receiver h =
    let step : Packet → Link → Link = λ x l. (hear r true top l x).link in
    let t = turned_whole step (λ l. l) (λ _. top) (λ l. l.known ≤ s.inc) (IsOf s r.id) s r (λ x m. m)
    (λ x l le m. (refl, heard_bounded x l le m)) (λ l le. le) last sender receiver h.known h.acked h.reached (λ knows _ _. h.place knows) (turn_of s r.id last sender) in
    subst (IsBroughtForward s r last sender) (each_is r top (turn_packets s r.id last sender) receiver) (record { known = t.known; place = t.place; acked = t.acked })
  where
    heard_bounded : (x : Packet) (l : Link) → l.known ≤ s.inc → IsOf s r.id x → (hear r true top l x).link.known ≤ s.inc
    heard_bounded x l le m =
        let e = known_after r top l x (ap (λ (d : Id). same_id d r.id) m.1 ∙ same_id_itself r.id) (subst (λ (p : Party). l.known ≤ p.inc) (sym m.0) le) in
        let f = ap (λ (p : Party). p.inc) m.0 in
        omega (arith, e, f)
