-- What is written behind the sessions, and lines of a desk out of those of a schedule.
use Rattle.std.proofs.Common.{◌≡◌, ℕ, List, [], ◌++◌, map, Some, IfSome, Result, Ok, Err, refl, sym, ◌∙◌, ap, subst, append_assoc, ◌+◌, ◌<◌, ◌∷◌, drop, get_or, length, take, IfOk, arith, append-nil}
use Rattle.std.specs.Prelude.{OnOk, codes, decimal}
use Rattle.std.specs.List.{flat_map}
use Rattle.spec_world.specs.Show.{show_master}
use Rattle.party_text.specs.Texts.{Shows}
use Rattle.node_core.specs.NodeTexts.{lines_text, no_frame}
use Rattle.spec_roles.specs.HardState.{HardState}
use Rattle.spec_roles.specs.MasterRoles.{MasterRole}
use Rattle.fuxi_master.specs.Cores.{MasterRecord, StandsFor}
use Rattle.node_core.specs.Roles.{Role, OfAgent, OfApp, OfMaster}
use Rattle.node_parties.specs.MasterParties.{NodeRecord, StandsAs}
use Rattle.master_desk.specs.CallOrders.{IsWhole}
use Rattle.master_desk.specs.Desks.{IsDeskRun}
use Rattle.master_desk.specs.Books.{BookRecord, HasRun, entry_line, order_in}
use Rattle.fuxi_desk.specs.Preparing.{Prepared, PreparedRecord, Stands}
use Rattle.fuxi_desk.specs.DeskTexts.{IsDeskText, desk_text, line_text}
use Rattle.std.proofs.lemmas.Fmt.{decimal_digit}
use Rattle.std.proofs.lemmas.List.{map-append, take_more}
use Rattle.std.proofs.lemmas.List.Concat.{flat_map-append}
use Rattle.schedule_text.specs.PrintedLines.{ended}

-- the line of a packet without its number, of one digit
pub sent_pushed : (old one two slice back text : List ℕ) (ws : List (List ℕ)) → one ≡ old ++ codes "sent" → two ≡ one ++ back → back ≡ drop 6 slice → slice ≡ text → text ≡ ended (codes "sent" ∷ decimal 0 ∷ ws)
    → two ≡ old ++ ended (codes "sent" ∷ ws)
sent_pushed old one two slice back text ws is_one is_two is_back is_slice is_text =
    is_two ∙ ap (λ xs. xs ++ back) is_one ∙ append_assoc old (codes "sent") back ∙ ap (λ xs. old ++ (codes "sent" ++ xs)) (is_back ∙ ap (drop 6) (is_slice ∙ is_text ∙ ap (λ z. ended (codes "sent" ∷ z ∷ ws)) (decimal_digit 0 (omega arith))))

-- the text of one more element
pub one_more : {X Y : Type 0} (text : Y → List ℕ) (view : X → Y) (xs : List X) (i : ℕ) (x : X) (old before after : List ℕ) → i < length xs → x ≡ get_or xs i x → before ≡ old ++ flat_map text (map view (take i xs)) → after ≡ before ++ text (view x)
    → after ≡ old ++ flat_map text (map view (take (i + 1) xs))
one_more text view xs i x old before after within at was pushed =
    let more : take (i + 1) xs ≡ take i xs ++ x ∷ [] = take_more xs i x within ∙ ap (λ y. take i xs ++ y ∷ []) (sym at) in
    let single : flat_map text (map view (take (i + 1) xs)) ≡ flat_map text (map view (take i xs)) ++ text (view x) =
    ap (λ ys. flat_map text (map view ys)) more ∙ ap (flat_map text) (map-append view (take i xs) (x ∷ [])) ∙ flat_map-append text (map view (take i xs)) (view x ∷ []) ∙ ap (λ ys. flat_map text (map view (take i xs)) ++ ys) (append-nil (text (view x))) in
    pushed ∙ ap (λ ys. ys ++ text (view x)) was ∙ append_assoc old (flat_map text (map view (take i xs))) (text (view x)) ∙ ap (λ ys. old ++ ys) (sym single)

-- what follows from what holds at Ok
pub if_ok : {A E : Type 0} (r : Result A E) (P Q : A → Type 0) → ((a : A) → P a → Q a) → IfOk r P → IfOk r Q
if_ok (Ok a) P Q f h = f a h
if_ok (Err e) P Q f h = tt

by_role : (role : Role) (sessions : List (List (List ℕ))) (node : NodeRecord) (book : BookRecord) (text : List ℕ) → StandsAs node role → book.sessions ≡ sessions → IsWhole sessions (order_in book.journal)
    → ((h : HardState) (r : MasterRole) → StandsAs node (OfMaster h r) → StandsFor book.opening.core r) → ((r : MasterRole) → StandsFor book.opening.core r → HasRun r book)
    → ((r : MasterRole) → StandsFor book.opening.core r → (h : HasRun r book) → text ≡ desk_text h.desk) → IsDeskText (record { role = role; sessions = sessions }) text
by_role (OfAgent a) sessions node book text stands same whole opens runs says = elim stands [ ]
by_role (OfApp a) sessions node book text stands same whole opens runs says = elim stands [ ]
by_role (OfMaster h r) sessions node book text stands same whole opens runs says =
    let s = opens h r stands in
    let run = runs r s in
    record {
      hard = h;
      master = r;
      role_is = refl;
      order = order_in book.journal;
      whole = whole;
      desk = run.desk;
      run = subst (λ ss. IsDeskRun r ss (order_in book.journal) run.desk) same run.run;
      named = run.named;
      says = says r s run;
    }

-- the text of a book over the sessions of what was prepared, which began with its master
pub desk_says : (x : PreparedRecord) (m : MasterRecord) (sessions : List (List (List ℕ))) (book : BookRecord) (text : List ℕ) (w : Prepared) → Stands x w → sessions ≡ x.sessions → book.sessions ≡ sessions → book.opening ≡ m
    → IsWhole sessions (order_in book.journal) → ((h : HardState) (r : MasterRole) → StandsAs x.node (OfMaster h r) → StandsFor m.core r) → ((r : MasterRole) → StandsFor m.core r → HasRun r book)
    → ((r : MasterRole) → StandsFor book.opening.core r → (h : HasRun r book) → text ≡ [] ++ desk_text h.desk) → IsDeskText w text
desk_says x m sessions book text w stands own same is whole opens runs says =
    by_role w.role w.sessions x.node book text stands.role (same ∙ own ∙ stands.sessions) (subst (λ ss. IsWhole ss (order_in book.journal)) (own ∙ stands.sessions) whole)
    (λ h r s. subst (λ (n : MasterRecord). StandsFor n.core r) (sym is) (opens h r s)) (λ r s. runs r (subst (λ (n : MasterRecord). StandsFor n.core r) is s)) says

-- the journal was printed, and the master behind it
desk_printed : (book : BookRecord) (m : MasterRecord) (old journal new : List ℕ) → Some m ≡ book.master → journal ≡ old ++ flat_map line_text (map entry_line book.journal)
    → ((r : MasterRole) → StandsFor m.core r → Shows (show_master r.state) journal new)
    → (r : MasterRole) → StandsFor book.opening.core r → (h : HasRun r book) → new ≡ old ++ desk_text h.desk
desk_printed book m old journal new here was shows r s h =
    let stands : StandsFor m.core h.desk.role = subst (λ o. IfSome o (λ (m : MasterRecord). StandsFor m.core h.desk.role)) (sym here) h.master in
    shows h.desk.role stands no_frame ∙ ap (λ xs. xs ++ lines_text (show_master h.desk.role.state)) (was ∙ ap (λ j. old ++ flat_map line_text j) h.journal)
    ∙ append_assoc old (flat_map line_text h.desk.journal) (lines_text (show_master h.desk.role.state))

pub all_printed : {E : Type 0} (result : Result (Unit {0}) E) (book : BookRecord) (m : MasterRecord) (old journal new : List ℕ) → Some m ≡ book.master → journal ≡ old ++ flat_map line_text (map entry_line book.journal)
    → OnOk result ((r : MasterRole) → StandsFor m.core r → Shows (show_master r.state) journal new)
    → OnOk result ((r : MasterRole) → StandsFor book.opening.core r → (h : HasRun r book) → new ≡ old ++ desk_text h.desk)
all_printed (Ok done) book m old journal new here was shows = desk_printed book m old journal new here was shows
all_printed (Err refusal) book m old journal new here was shows = tt
