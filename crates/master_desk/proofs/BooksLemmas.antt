-- A book keeps what it is when a call is taken.
use Rattle.std.proofs.Common.{◌≡◌, ◌<◌, ◌≤◌, ℕ, ◌+◌, ◌*◌, Bool, true, false, cond, nat_eq, nat_lt, List, [], ◌∷◌, length, map, get_or, Option, Some, None, refl, sym, ◌∙◌, ap, subst, arith}
use Rattle.std.specs.Prelude.{◌++◌, ◌^◌, set, replicate, is_some, IfSome}
use Rattle.std.proofs.lemmas.Bool.Decides.{nat_tests}
use Rattle.std.proofs.lemmas.List.{get_or-set_same, get_or-set_other, get_or_past, get_or_read, length-set, length-replicate, length_push, map_push}
use Rattle.std.proofs.lemmas.List.Sums.{sum_by-set}
use Rattle.fuxi_terms.proofs.Booleans.{number_is}
use Rattle.fuxi_terms.specs.Limits.{most_steps}
use Rattle.spec_roles.specs.MasterRoles.{MasterRole}
use Rattle.fuxi_master.specs.Cores.{MasterRecord, StandsFor}
use Rattle.master_desk.specs.declared.call.Decoded.{Decoded}
use Rattle.master_desk.specs.declared.entry.Entry.{Entry}
use Rattle.master_desk.specs.CallOrders.{Fits, IsCallOf, IsSessions, IsWhole, calls_of, most_calls, most_sessions, times}
use Rattle.master_desk.specs.Desks.{IsDeskRun, desk_takes, line_of, sending_of, sessions_in, taken}
use Rattle.master_desk.specs.Books.{BookRecord, Counts, Grows, HasRoom, HasRun, HearsAlike, IsBook, IsEntered, SameDesk, entry_line, order_in}
use Rattle.master_desk.proofs.CallOrdersLemmas.{calls_few, fits_more, never_less, once_more, session_there, taken_few, times_more, zero_at, zero_sum}
use Rattle.master_desk.proofs.DesksLemmas.{run_more}

-- the order of the written journal is that of the book's
same_order : (journal : List Entry) → sessions_in (map entry_line journal) ≡ order_in journal
same_order [] = refl
same_order (e ∷ es) = ap (λ o. e.session ∷ o) (same_order es)

pub order_more : (journal : List Entry) (e : Entry) → order_in (journal ++ e ∷ []) ≡ order_in journal ++ e.session ∷ []
order_more journal e = map_push (λ (e : Entry). e.session) journal e

-- without its master it is still a book
pub gone_is : (x : BookRecord) → IsBook x → IsBook (record x { master = None })
gone_is x b = record {
  sessions = b.sessions;
  fits = b.fits;
  runs = λ r s. let h = b.runs r s in record { desk = h.desk; run = h.run; named = h.named; journal = h.journal; master = tt };
  steps = tt;
}

-- a call that was taken: the book with one entry more, and the master after it
abbrev pub entered : BookRecord → MasterRecord → Entry → BookRecord
entered x m e = record { sessions = x.sessions; opening = x.opening; journal = x.journal ++ e ∷ []; master = Some m }

pub entered_run : (x : BookRecord) (r : MasterRole) (old new : MasterRecord) (call : Decoded) (e : Entry) → HasRun r x → x.master ≡ Some old → IsCallOf x.sessions e.session (times e.session (order_in x.journal)) call
    → e.call ≡ times e.session (order_in x.journal) + 1 → HearsAlike old call new e.words e.heads → HasRun r (entered x new e)
entered_run x r old new call e h is call_is number hears =
    let stands : StandsFor old.core h.desk.role = subst (λ (o : Option MasterRecord). IfSome o (λ m. StandsFor m.core h.desk.role)) is h.master in
    let t = hears h.desk.role stands in
    let order : sessions_in h.desk.journal ≡ order_in x.journal = ap sessions_in (sym h.journal) ∙ same_order x.journal in
    let line : entry_line e ≡ line_of h.desk.journal e.session (taken h.desk.role call) =
    ap (λ n. record { session = e.session; call = n; words = e.words; sent = map sending_of e.heads }) (number ∙ ap (λ o. times e.session o + 1) (sym order))
    ∙ ap (λ w. record { session = e.session; call = times e.session (sessions_in h.desk.journal) + 1; words = w; sent = map sending_of e.heads }) t.words_are
    ∙ ap (λ s. record { session = e.session; call = times e.session (sessions_in h.desk.journal) + 1; words = (taken h.desk.role call).words; sent = s }) t.sent in
    let journal : map entry_line (x.journal ++ e ∷ []) ≡ (desk_takes h.desk (e.session, call)).journal = map_push entry_line x.journal e ∙ ap (λ js. js ++ entry_line e ∷ []) h.journal ∙ ap (λ l. h.desk.journal ++ l ∷ []) line in
    record {
      desk = desk_takes h.desk (e.session, call);
      run = subst (λ o. IsDeskRun r x.sessions o (desk_takes h.desk (e.session, call))) (sym (order_more x.journal e)) (run_more r x.sessions (order_in x.journal) h.desk e.session call h.run call_is);
      named = sym (ap sessions_in journal) ∙ same_order (x.journal ++ e ∷ []);
      journal = journal;
      master = t.role;
    }

pub entered_is : (x : BookRecord) (old new : MasterRecord) (call : Decoded) (e : Entry) → IsBook x → x.master ≡ Some old → IsCallOf x.sessions e.session (times e.session (order_in x.journal)) call
    → e.call ≡ times e.session (order_in x.journal) + 1 → HearsAlike old call new e.words e.heads → new.steps ≤ old.steps + 2 → IsBook (entered x new e)
entered_is x old new call e b is call_is number hears few =
    let steps : old.steps ≤ x.opening.steps + 2 * length x.journal = subst (λ (o : Option MasterRecord). IfSome o (λ m. m.steps ≤ x.opening.steps + 2 * length x.journal)) is b.steps in
    let longer = length_push x.journal e in
    record {
      sessions = b.sessions;
      fits = subst (λ o. Fits x.sessions o) (sym (order_more x.journal e)) (fits_more x.sessions (order_in x.journal) e.session b.fits call_is.there);
      runs = λ r s. entered_run x r old new call e (b.runs r s) is call_is number hears;
      steps = omega (arith, steps, longer, few);
    }

counted_at : (taken : List ℕ) (order : List ℕ) (c d : ℕ) → ((n : ℕ) → get_or taken n 0 ≡ times n order) → c < length taken → (b : Bool) → nat_eq c d ≡ b
    → get_or (set taken c (get_or taken c 0 + 1)) d 0 ≡ times d order + cond b 1 0
counted_at taken order c d each there true e =
    subst (λ n. get_or (set taken c (get_or taken c 0 + 1)) n 0 ≡ times n order + 1) (number_is c d e) (get_or-set_same taken c (get_or taken c 0 + 1) 0 there ∙ ap (λ n. n + 1) (each c))
counted_at taken order c d each there false e =
    let same = get_or-set_other taken c d (get_or taken c 0 + 1) 0 (λ is. absurd (grind (arith, nat_tests, e, is))) in
    let at = each d in
    omega (arith, same, at)

pub counts_more : (taken : List ℕ) (journal : List Entry) (e : Entry) → Counts taken journal → e.session < length taken → Counts (set taken e.session (get_or taken e.session 0 + 1)) (journal ++ e ∷ [])
counts_more taken journal e k there =
    let all = sum_by-set (λ (n : ℕ). n) taken e.session (get_or taken e.session 0 + 1) 0 there in
    let before = k.all in
    let longer = length_push journal e in
    record {
      wide = length-set taken e.session (get_or taken e.session 0 + 1) ∙ k.wide;
      each = λ d. counted_at taken (order_in journal) e.session d k.each there (nat_eq e.session d) refl ∙ sym (times_more d e.session (order_in journal)) ∙ ap (times d) (sym (order_more journal e));
      all = omega (arith, all, before, longer);
    }

-- the place of a session that has a call left, and its next number
pub place_there : (taken : List ℕ) (x : BookRecord) (c n : ℕ) → IsBook x → Counts taken x.journal → n < length (calls_of x.sessions c) → c < length taken
place_there taken x c n b k left = let there = session_there x.sessions c n left in let wide = b.sessions.wide in let long = k.wide in omega (arith, there, wide, long)

pub next_small : (taken : List ℕ) (x : BookRecord) (c : ℕ) → IsBook x → Counts taken x.journal → times c (order_in x.journal) < length (calls_of x.sessions c) → get_or taken c 0 + 1 ≤ most_calls
next_small taken x c b k left =
    let each = k.each c in
    let most = calls_few x.sessions c in
    let few = b.sessions.few in
    omega (arith, each, most, few)

-- no more calls stand in the journal than there are
pub few_entries : (taken : List ℕ) (x : BookRecord) → IsBook x → Counts taken x.journal → length x.journal ≤ most_calls
few_entries taken x b k =
    let few = taken_few taken x.sessions (k.wide ∙ sym b.sessions.wide) (λ c. subst (λ n. n ≤ length (calls_of x.sessions c)) (sym (k.each c)) (b.fits c)) in
    let all = k.all in
    let most = b.sessions.few in
    omega (arith, few, all, most)

has_room : (o : Option MasterRecord) (n : ℕ) → is_some o ≡ true → IfSome o (λ m. m.steps ≤ n) → n + 2 ≤ most_steps → HasRoom o
has_room None n is steps few = cc
has_room (Some m) n is steps few = omega (arith, steps, few)

pub room_is : (taken : List ℕ) (x : BookRecord) → IsBook x → Counts taken x.journal → is_some x.master ≡ true → x.opening.steps < 2 ^ 49 → HasRoom x.master
room_is taken x b k here small = let few = few_entries taken x b k in has_room x.master (x.opening.steps + 2 * length x.journal) here b.steps (omega (arith, few, small))

-- a new book
pub new_is : (sessions : List (List (List ℕ))) (m : MasterRecord) → IsSessions sessions → IsBook (record { sessions = sessions; opening = m; journal = []; master = Some m })
new_is sessions m is = record {
  sessions = is;
  fits = λ c. omega arith;
  runs = λ r s. record { desk = record { role = r; journal = [] }; run = record { calls = []; order_is = refl; are = tt; run = refl }; named = refl; journal = refl; master = s };
  steps = omega arith;
}

pub none_counted : Counts (replicate most_sessions 0) []
none_counted = record { wide = length-replicate {A = ℕ} most_sessions 0; each = λ c. zero_at most_sessions c; all = zero_sum most_sessions }

-- all of it, of the values that the code has
pub enters : (x : BookRecord) (taken : List ℕ) (old new : MasterRecord) (call : Decoded) (e : Entry) (read : ℕ) (journal : List Entry) → IsBook x → Counts taken x.journal → x.master ≡ Some old
    → IsCallOf x.sessions e.session (times e.session (order_in x.journal)) call → read ≡ get_or taken e.session read → e.call ≡ read + 1 → HearsAlike old call new e.words e.heads → new.steps ≤ old.steps + 2 → journal ≡ x.journal ++ e ∷ []
    → IsBook (record { sessions = x.sessions; opening = x.opening; journal = journal; master = Some new }) × Counts (set taken e.session (read + 1)) journal
enters x taken old new call e read journal b k is call_is reads number hears few longer =
    let there = place_there taken x e.session (times e.session (order_in x.journal)) b k call_is.there in
    let same : read ≡ get_or taken e.session 0 = get_or_read taken e.session read there reads 0 in (
      subst (λ (j : List Entry). IsBook (record { sessions = x.sessions; opening = x.opening; journal = j; master = Some new })) (sym longer)
          (entered_is x old new call e b is call_is (number ∙ ap (λ n. n + 1) (same ∙ k.each e.session)) hears few),
      subst (λ (j : List Entry). Counts (set taken e.session (read + 1)) j) (sym longer) (subst (λ n. Counts (set taken e.session (n + 1)) (x.journal ++ e ∷ [])) (sym same) (counts_more taken x.journal e k there)),
    )

pub number_is_next : (x : BookRecord) (taken : List ℕ) (c read n : ℕ) → IsBook x → Counts taken x.journal → n < length (calls_of x.sessions c) → read ≡ get_or taken c read → read + 1 ≡ times c (order_in x.journal) + 1
number_is_next x taken c read n b k left reads = ap (λ n. n + 1) (get_or_read taken c read (place_there taken x c n b k left) reads 0 ∙ k.each c)

pub gone_as : (x : BookRecord) (journal : List Entry) (m : Option MasterRecord) → IsBook x → journal ≡ x.journal → m ≡ None → IsBook (record { sessions = x.sessions; opening = x.opening; journal = journal; master = m })
gone_as x journal m b same none =
    subst (λ (j : List Entry). IsBook (record { sessions = x.sessions; opening = x.opening; journal = j; master = m })) (sym same)
    (subst (λ (o : Option MasterRecord). IsBook (record { sessions = x.sessions; opening = x.opening; journal = x.journal; master = o })) (sym none) (gone_is x b))

pub grows_more : (journal longer : List Entry) (e : Entry) → longer ≡ journal ++ e ∷ [] → (c : ℕ) → times c (order_in journal) ≤ times c (order_in longer)
grows_more journal longer e is c = subst (λ o. times c (order_in journal) ≤ times c o) (sym (ap order_in is ∙ order_more journal e)) (never_less c e.session (order_in journal))

-- what several calls did one after another
pub one_entered : (c : ℕ) (old new : BookRecord) → IsEntered c old new → times c (order_in new.journal) ≡ times c (order_in old.journal) + 1
one_entered c old new h = ap (λ j. times c (order_in j)) h.journal ∙ ap (times c) (order_more old.journal h.entry ∙ ap (λ n. order_in old.journal ++ n ∷ []) h.is_of) ∙ once_more c (order_in old.journal)

pub same_itself : (x : BookRecord) → SameDesk x x
same_itself x = record { sessions = refl; opening = refl }

pub then_same : (x y z : BookRecord) → SameDesk x y → SameDesk y z → SameDesk x z
then_same x y z s t = record { sessions = t.sessions ∙ s.sessions; opening = t.opening ∙ s.opening }

pub grows_itself : (x : BookRecord) → Grows x x
grows_itself x c = omega arith

pub then_grows : (x y z : BookRecord) → Grows x y → Grows y z → Grows x z
then_grows x y z s t c = let first = s c in let second = t c in omega (arith, first, second)

-- sessions whose calls were all taken stay so, and one more is
pub whole_more : (sessions : List (List (List ℕ))) (n : ℕ) (old new : List ℕ) → ((c : ℕ) → c < n → times c old ≡ length (calls_of sessions c)) → ((c : ℕ) → times c old ≤ times c new) → Fits sessions new → times n new ≡ length (calls_of sessions n)
    → (c : ℕ) → c < n + 1 → times c new ≡ length (calls_of sessions c)
whole_more sessions n old new before grows fits here c within = by_place (nat_lt c n) refl
  where
    by_place : (b : Bool) → nat_lt c n ≡ b → times c new ≡ length (calls_of sessions c)
    by_place true e =
        let same = before c (grind (arith, nat_tests, e)) in
        let more = grows c in
        let most = fits c in
        omega (arith, same, more, most)
    by_place false e = let is : n ≡ c = grind (arith, nat_tests, e, within) in subst (λ m. times m new ≡ length (calls_of sessions m)) is here

pub whole_all : (sessions : List (List (List ℕ))) (order : List ℕ) → IsSessions sessions → Fits sessions order → ((c : ℕ) → c < most_sessions → times c order ≡ length (calls_of sessions c)) → IsWhole sessions order
whole_all sessions order is fits whole c = by_place (nat_lt c most_sessions) refl
  where
    by_place : (b : Bool) → nat_lt c most_sessions ≡ b → times c order ≡ length (calls_of sessions c)
    by_place true e = whole c (grind (arith, nat_tests, e))
    by_place false e =
        let wide = is.wide in
        let past : length sessions ≤ c = grind (arith, nat_tests, e, wide) in
        let none : length (calls_of sessions c) ≡ 0 = ap (λ (xs : List (List ℕ)). length xs) (get_or_past sessions c [] past) in
        let most = fits c in
        omega (arith, none, most)
