-- What reads and faults, one behind another, make of a connection.
use Rattle.std.proofs.Common.{◌≡◌, ℕ, Bool, true, false, ◌||◌, ◌&&◌, List, [], ◌∷◌, ◌++◌, append_assoc, append-nil, refl, sym, ap, ◌∙◌}
use Rattle.fuxi_io.specs.Doors.{Told, Talk, given, failing, on_first, on_last}
use Rattle.fuxi_io.specs.UsageTraces.{trace_read, trace_failed}
use Rattle.fuxi_io.specs.declared.usage_trace.UsageTrace.{UsageTrace}
use Rattle.node_core.specs.FrameReaders.{trace_on, trace_broken, read_on, broken_by}

or_none : (b : Bool) → b ≡ b || false
or_none true = refl
or_none false = refl

or_all : (b : Bool) → true ≡ b || true
or_all true = refl
or_all false = refl

or_behind : (a b : Bool) → (a || false) || b ≡ a || b
or_behind true b = refl
or_behind false b = refl

and_none : (a b : Bool) → a ≡ a || (b && false)
and_none true b = refl
and_none false true = refl
and_none false false = refl

and_all : (a b : Bool) → a || b ≡ a || (b && true)
and_all true b = refl
and_all false true = refl
and_all false false = refl

and_once : (a b r : Bool) → (a || (b && r)) || b ≡ a || (b && true)
and_once true b r = refl
and_once false true true = refl
and_once false true false = refl
and_once false false r = refl

-- what a read and a fault change of an order
abbrev trace_of : Bool → Bool → Bool → Bool → UsageTrace → UsageTrace
trace_of read asked fails late o = record { read = read; written = o.written; asked = asked; answered = o.answered; failed = fails; closed = o.closed; late = late }

trace_same : (o : UsageTrace) (r a f l : Bool) → o.read ≡ r → o.asked ≡ a → o.failed ≡ f → o.late ≡ l → o ≡ trace_of r a f l o
trace_same o r a f l read asked fails late =
    ap (λ b. trace_of b o.asked o.failed o.late o) read ∙ ap (λ b. trace_of r b o.failed o.late o) asked ∙ ap (λ b. trace_of r a b o.late o) fails ∙ ap (λ b. trace_of r a f b o) late

unread : (o : UsageTrace) → o ≡ trace_on false o
unread o = trace_same o (o.read || false) (o.asked || (o.written && false)) o.failed (o.late || ((o.failed || o.closed) && false)) (or_none o.read) (and_none o.asked o.written) refl (and_none o.late (o.failed || o.closed))

read_once : (o : UsageTrace) (reads : Bool) → trace_read (trace_on reads o) ≡ trace_on true o
read_once o reads =
    ap (λ b. trace_of b ((o.asked || (o.written && reads)) || o.written) o.failed ((o.late || ((o.failed || o.closed) && reads)) || (o.failed || o.closed)) o) (or_all o.read)
    ∙ ap (λ b. trace_of (o.read || true) b o.failed ((o.late || ((o.failed || o.closed) && reads)) || (o.failed || o.closed)) o) (and_once o.asked o.written reads)
    ∙ ap (λ b. trace_of (o.read || true) (o.asked || (o.written && true)) o.failed b o) (and_once o.late (o.failed || o.closed) reads)

unbroken : (o : UsageTrace) → o ≡ trace_broken false o
unbroken o = trace_same o o.read o.asked (o.failed || false) (o.late || ((o.failed || o.closed) && false)) refl refl (or_none o.failed) (and_none o.late (o.failed || o.closed))

broke_off : (o : UsageTrace) → trace_failed o ≡ trace_broken true o
broke_off o = ap (λ b. trace_of o.read o.asked b (o.late || (o.failed || o.closed)) o) (or_all o.failed) ∙ ap (λ b. trace_of o.read o.asked (o.failed || true) b o) (and_all o.late (o.failed || o.closed))

-- what is the same of each connection
same_last : (f g : Talk → Talk) (t : Told) → ((x : Talk) → f x ≡ g x) → on_last f t ≡ on_last g t
same_last f g t same = ap (λ l. let u : Told = record { knock = t.knock; knocks = t.knocks; talks = l } in u) (by t.talks)
  where
    by : (l : List Talk) → on_first f l ≡ on_first g l
    by [] = refl
    by (x ∷ xs) = ap (λ (y : Talk). y ∷ xs) (same x)

then_last : (f g : Talk → Talk) (t : Told) → on_last g (on_last f t) ≡ on_last (λ talk. g (f talk)) t
then_last f g t = ap (λ l. let u : Told = record { knock = t.knock; knocks = t.knocks; talks = l } in u) (by t.talks)
  where
    by : (l : List Talk) → on_first g (on_first f l) ≡ on_first (λ talk. g (f talk)) l
    by [] = refl
    by (x ∷ xs) = refl

abbrev talk_of : List ℕ → Bool → UsageTrace → Talk → Talk
talk_of gave ended order x = record { gave = gave; took = x.took; ended = ended; order = order }

-- nothing came yet
pub nothing_given : (t : Told) → t ≡ on_last (read_on false [] false) t
nothing_given t = ap (λ l. let u : Told = record { knock = t.knock; knocks = t.knocks; talks = l } in u) (by t.talks)
  where
    by : (l : List Talk) → l ≡ on_first (read_on false [] false) l
    by [] = refl
    by (x ∷ xs) =
        ap (λ g. talk_of g x.ended x.order x ∷ xs) (sym (append-nil x.gave)) ∙ ap (λ e. talk_of (x.gave ++ []) e x.order x ∷ xs) (or_none x.ended)
        ∙ ap (λ o. talk_of (x.gave ++ []) (x.ended || false) o x ∷ xs) (unread x.order)

-- some bytes came, and then some more
pub given_both : (t : Told) (reads : Bool) (front bytes : List ℕ) (ended : Bool) → on_last (given bytes ended) (on_last (read_on reads front false) t) ≡ on_last (read_on true (front ++ bytes) ended) t
given_both t reads front bytes ended = then_last (read_on reads front false) (given bytes ended) t ∙ same_last (λ talk. given bytes ended (read_on reads front false talk)) (read_on true (front ++ bytes) ended) t (λ x.
    ap (λ g. talk_of g ((x.ended || false) || ended) (trace_read (trace_on reads x.order)) x) (append_assoc x.gave front bytes)
    ∙ ap (λ e. talk_of (x.gave ++ (front ++ bytes)) e (trace_read (trace_on reads x.order)) x) (or_behind x.ended ended)
    ∙ ap (λ o. talk_of (x.gave ++ (front ++ bytes)) (x.ended || ended) o x) (read_once x.order reads))

-- and no call failed, or a read did
pub given_whole : (t : Told) (f : Talk → Talk) → on_last f t ≡ on_last (λ talk. broken_by false (f talk)) t
given_whole t f = same_last f (λ talk. broken_by false (f talk)) t (λ x. ap (λ o. talk_of (f x).gave (f x).ended o (f x)) (unbroken (f x).order))

pub given_part : (t : Told) (f : Talk → Talk) → on_last failing (on_last f t) ≡ on_last (λ talk. broken_by true (f talk)) t
given_part t f = then_last f failing t ∙ same_last (λ talk. failing (f talk)) (λ talk. broken_by true (f talk)) t (λ x. ap (λ o. talk_of (f x).gave (f x).ended o (f x)) (broke_off (f x).order))
