-- Lines that are taken from the front of an input, and a last output that breaks off.
use Rattle.std.proofs.Common.{◌≡◌, ◌≢◌, ℕ, ◌-◌, Bool, true, false, cond, nat_eq, List, [], ◌∷◌, ◌++◌, length, take, Option, None, Some, refl, sym, ◌∙◌, ap, subst, arith, append_assoc, append-nil, length-append, slice_get}
use Rattle.std.specs.Option.{unwrap_or}
use Rattle.std.specs.List.{concat}
use Rattle.std.specs.Io.KnownBytes.{Appends, Consumes, prepend_known}
use Rattle.std.proofs.lemmas.Bool.Decides.{nat_tests}
use Rattle.std.proofs.lemmas.List.Elements.{All-head, All-tail, filter-append}
use Rattle.std.proofs.lemmas.List.Folds.{concat-append}
use Rattle.std.proofs.Math.Seq.{take-append_seam, take-length}
use Rattle.fuxi_terms.proofs.AppendsLemmas.{appends_both}
use Rattle.fuxi_io.specs.Lines.{InputLine, lines_of, onto_first, bytes_of, BreaksOff, GivesKnown, IsFirst}
use Rattle.fuxi_io.specs.Pieces.{NoNewline}
use Rattle.fuxi_io.specs.declared.lines.Got.TheVariants.{Line, End}
use Rattle.input_lines.specs.Wholes.{whole_lines, AreWhole, WritesLast, IsBroken, IsNext, TakesLines}

no_first : (t : Bool) (x y : InputLine) (ls : List InputLine) → cond t (x ∷ ls) ls ≡ [] → cond t (y ∷ ls) ls ≡ []
no_first true x y ls e = cc
no_first false x y ls e = e

still_open : (b : ℕ) (lines : List InputLine) → whole_lines lines ≡ [] → whole_lines (onto_first b lines) ≡ []
still_open b [] none = refl
still_open b (line ∷ lines) none = no_first line.ended line (record { bytes = b ∷ line.bytes; ended = line.ended }) (whole_lines lines) none

-- without a newline there is no whole line
none_whole : (part : List ℕ) → NoNewline part → whole_lines (lines_of part) ≡ []
none_whole [] none = refl
none_whole (b ∷ bytes) none =
    let t : nat_eq b 10 ≡ false = grind (arith, nat_tests, All-head (λ b. b ≢ 10) b bytes none) in
    ap (λ t. whole_lines (cond t ((record { bytes = []; ended = true }) ∷ lines_of bytes) (onto_first b (lines_of bytes)))) t
    ∙ still_open b (lines_of bytes) (none_whole bytes (All-tail (λ b. b ≢ 10) b bytes none))

taken_none : (bytes : List ℕ) → AreWhole bytes bytes []
taken_none bytes = record { given = []; is = refl; alone = λ more. refl; whole = refl }

taken_more : (bytes left left' : List ℕ) (lines : List InputLine) (line : InputLine) → AreWhole bytes left lines → IsFirst left line left' → line.ended ≡ true → AreWhole bytes left' (lines ++ line ∷ [])
taken_more bytes left left' lines line t f ended = record {
  given = t.given ++ bytes_of line;
  is = t.is ∙ ap (λ l. t.given ++ l) f.cut ∙ sym (append_assoc t.given (bytes_of line) left');
  alone = λ more. ap lines_of (append_assoc t.given (bytes_of line) more) ∙ t.alone (bytes_of line ++ more) ∙ ap (λ ls. lines ++ ls) (f.alone ended more) ∙ sym (append_assoc lines (line ∷ []) (lines_of more));
  whole = filter-append (λ (line : InputLine). line.ended) lines (line ∷ []) ∙ ap (λ ls. ls ++ whole_lines (line ∷ [])) t.whole ∙ ap (λ b. lines ++ cond b (line ∷ []) []) ended;
}

broken : (bytes left : List ℕ) (left' : Option (List ℕ)) (lines : List InputLine) → AreWhole bytes left lines → BreaksOff (Some left) left' → IsBroken bytes left' lines
broken bytes left None lines t b = absurd b.gave
broken bytes left (Some left') lines t b = record {
  given = t.given ++ b.part;
  gave = t.is ∙ ap (λ l. t.given ++ l) b.gave ∙ sym (append_assoc t.given b.part left');
  whole = ap whole_lines (t.alone b.part) ∙ filter-append (λ (line : InputLine). line.ended) lines (lines_of b.part) ∙ ap (λ ls. whole_lines lines ++ ls) (none_whole b.part b.plain) ∙ append-nil (whole_lines lines) ∙ t.whole;
}

-- what waits in a reader, with what its source has left
read_of : (pending left : List ℕ) (source : Option (List ℕ)) → prepend_known pending source ≡ Some left → Consumes (Some left) source pending
read_of pending left None e = cc
read_of pending left (Some more) e = let is : pending ++ more ≡ left = cc in sym is

no_more : (pending : List ℕ) (source : Option (List ℕ)) → prepend_known pending source ≡ Some [] → source ≡ Some []
no_more pending None e = cc
no_more [] (Some xs) e = e
no_more (p ∷ pending) (Some xs) e = cc

some_line : (bytes : List ℕ) → bytes ≢ [] → lines_of bytes ≢ []
some_line [] some = λ e. some refl
some_line (b ∷ bytes) some = λ e. split (lines_of bytes) (nat_eq b 10) e
  where
    onto : (ls : List InputLine) → onto_first b ls ≡ [] → ⊥
    onto [] e = cc
    onto (l ∷ ls) e = cc

    split : (ls : List InputLine) (t : Bool) → cond t ((record { bytes = []; ended = true }) ∷ ls) (onto_first b ls) ≡ [] → ⊥
    split ls true e = cc
    split ls false e = onto ls e

next_line : (left : List ℕ) (line : InputLine) (old rest : Option (List ℕ)) → old ≡ Some left → GivesKnown Line old line rest → IsNext left line rest
next_line left line old rest is gives = of rest (subst (λ r. GivesKnown Line r line rest) is gives)
  where
    of : (rest : Option (List ℕ)) → GivesKnown Line (Some left) line rest → IsNext left line rest
    of None h = absurd h
    of (Some behind) h = record { behind = behind; is_left = refl; first = h }

at_end : (left : List ℕ) (line : InputLine) (old rest : Option (List ℕ)) → old ≡ Some left → GivesKnown End old line rest → (left ≡ []) × (rest ≡ Some [])
at_end left line old rest is gives = of rest (subst (λ r. GivesKnown End r line rest) is gives)
  where
    of : (rest : Option (List ℕ)) → GivesKnown End (Some left) line rest → (left ≡ []) × (rest ≡ Some [])
    of None h = absurd h
    of (Some behind) h = (h.0, ap (λ l. Some l) h.1)

-- what is written one after another
concat_one : (front : List (List ℕ)) (x : List ℕ) → concat (front ++ x ∷ []) ≡ concat front ++ x
concat_one front x = concat-append front (x ∷ []) ∙ ap (λ l. concat front ++ l) (append-nil x)

-- all pieces but the last are written, and of the last a part
seam : (front : List (List ℕ)) (x : List ℕ) → unwrap_or (slice_get (front ++ x ∷ []) (length front)) [] ≡ x
seam [] x = refl
seam (y ∷ front) x = seam front x

last_part : (all front : List (List ℕ)) (x : List ℕ) (n : ℕ) (w0 w w' : Option (List ℕ)) → all ≡ front ++ x ∷ [] → Appends w0 w (concat front) → Appends w w' (take n x) → WritesLast all w0 w'
last_part all front x n w0 w w' is writes part =
    let k : length (front ++ x ∷ []) - 1 ≡ length front = omega (arith, length-append front (x ∷ [])) in
    subst (λ ps. WritesLast ps w0 w') (sym is) (record {
      part = n;
      writes = rw (k, take-append_seam front (x ∷ []), seam front x) (appends_both w0 w w' (concat front) (take n x) writes part);
    })

-- the last of some pieces, and those before it
record Last (all : List (List ℕ)) : Type 0 where
  pub front : List (List ℕ)
  pub last : List ℕ
  pub is : all ≡ front ++ last ∷ []

last_of : (x : List ℕ) (all : List (List ℕ)) → Last (x ∷ all)
last_of x [] = record { front = []; last = x; is = refl }
last_of x (y ∷ all) = let l = last_of y all in record { front = x ∷ l.front; last = l.last; is = ap (λ ps. x ∷ ps) l.is }

-- all pieces are written: of the last one a part that is the whole
all_written : (all : List (List ℕ)) (w0 w : Option (List ℕ)) → Appends w0 w (concat all) → WritesLast all w0 w
all_written [] w0 w writes = record { part = 0; writes = writes }
all_written (y ∷ all) w0 w writes =
    let l = last_of y all in
    let k : length (l.front ++ l.last ∷ []) - 1 ≡ length l.front = omega (arith, length-append l.front (l.last ∷ [])) in
    subst (λ ps. WritesLast ps w0 w) (sym l.is) (record {
      part = length l.last;
      writes = rw (k, take-append_seam l.front (l.last ∷ []), seam l.front l.last, take-length) (subst (Appends w0 w) (ap concat l.is ∙ concat_one l.front l.last) writes);
    })

-- one more is written
both : (front : List (List ℕ)) (x : List ℕ) (w0 w w' : Option (List ℕ)) → Appends w0 w (concat front) → Appends w w' x → Appends w0 w' (concat (front ++ x ∷ []))
both front x w0 w w' writes one = rw concat_one (appends_both w0 w w' (concat front) x writes one)

pub lines_taken : TakesLines
lines_taken = record {
  none = taken_none;
  more = taken_more;
  next = next_line;
  end = at_end;
  broken = broken;
  some = some_line;
  ahead = read_of;
  no_more = no_more;
  both = both;
  all = all_written;
  last = last_part;
}
