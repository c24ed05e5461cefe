-- What one line makes of a run, and how a run is written that ends with one text.
use Rattle.std.proofs.Common.{◌≡◌, ◌≢◌, ℕ, ◌+◌, ◌<◌, ◌≤◌, true, false, nat_lt, List, [], ◌∷◌, ◌++◌, length, refl, sym, ap, subst, arith, append_assoc}
use Rattle.std.specs.List.{concat}
use Rattle.std.specs.Io.KnownBytes.{Appends}
use Rattle.std.proofs.lemmas.Bool.Decides.{nat_tests}
use Rattle.fuxi_io.specs.Lines.{InputLine, FirstLonger}
use Rattle.fuxi_io.specs.declared.status.InputFault.TheVariants.{LineTooLong}
use Rattle.fuxi_io.specs.declared.status.LimitOf.TheVariants.{Lines}
use Rattle.fuxi_terms.specs.Limits.{most_line_bytes, most_lines}
use Rattle.input_lines.specs.Contents.{content, is_skipped}
use Rattle.input_lines.specs.LineProgress.{WritesItsEnd}
use Rattle.input_lines.specs.LineRuns.{Ending, AtEnd, AtBadLine, AtLimit, Run, Said, Runner, ended, behind, behind_all, with_said, run_from, pieces, text_ends}
use Rattle.input_lines.specs.Wholes.{TakesLines}

-- a line that is skipped, and one that says something
module _ {W S : Type 0} (k : Runner W S) (before : ℕ) (w : W) (line : InputLine) (lines : List InputLine) (more : before < most_lines) (short : length line.bytes ≤ most_line_bytes) where
  pub run_skipped : is_skipped (content line) ≡ true → run_from k before w (line ∷ lines) ≡ run_from k (before + 1) w lines
  run_skipped skip =
      let m : nat_lt before most_lines ≡ true = grind (arith, nat_tests, more) in
      let s : nat_lt most_line_bytes (length line.bytes) ≡ false = grind (arith, nat_tests, short) in
      rw (m, s, skip) refl

  pub run_said : is_skipped (content line) ≡ false → (said : Said W) → k.says w (content line) ≡ said → run_from k before w (line ∷ lines) ≡ with_said k (before + 1) w said (λ v. run_from k (before + 1) v lines)
  run_said skip said is =
      let m : nat_lt before most_lines ≡ true = grind (arith, nat_tests, more) in
      let s : nat_lt most_line_bytes (length line.bytes) ≡ false = grind (arith, nat_tests, short) in
      rw (m, s, skip, is) refl

-- a line that is too long, and one that is too many
pub run_long : {W S : Type 0} (k : Runner W S) (before : ℕ) (w : W) (lines : List InputLine) → before < most_lines → FirstLonger most_line_bytes lines → run_from k before w lines ≡ ended (k.tells w) (AtBadLine (before + 1) LineTooLong)
run_long k before w [] more long = absurd long
run_long k before w (line ∷ lines) more long =
    let m : nat_lt before most_lines ≡ true = grind (arith, nat_tests, more) in
    let s : nat_lt most_line_bytes (length line.bytes) ≡ true = grind (arith, nat_tests, long) in
    rw (m, s) refl

pub run_many : {W S : Type 0} (k : Runner W S) (before : ℕ) (w : W) (lines : List InputLine) → before ≡ most_lines → lines ≢ [] → run_from k before w lines ≡ ended (k.tells w) (AtLimit Lines most_lines)
run_many k before w [] many some = absurd (some refl)
run_many k before w (line ∷ lines) many some = let m : nat_lt before most_lines ≡ false = grind (arith, nat_tests, many) in rw m refl

pub behind_both : {S : Type 0} (front : List (List ℕ)) (x : List ℕ) (r : Run S) → behind_all front (behind x r) ≡ behind_all (front ++ x ∷ []) r
behind_both {S} front x r = ap {A = List (List ℕ)} {B = Run S} (λ os. record { outputs = os; state = r.state; ending = r.ending }) (sym (append_assoc front (x ∷ []) r.outputs))

-- a run that ends with one text has it behind its outputs
module _ {W S : Type 0} (laws : TakesLines) (k : Runner W S) (IsOpen : Ending → Type 0) (text : W → List ℕ) (texts : S → List (List ℕ)) (one : (w : W) → texts (k.tells w) ≡ text w ∷ []) where
  pieces_are : (r : Run S) (w : W) → r.state ≡ k.tells w → r.ending ≡ AtEnd → pieces texts r ≡ r.outputs ++ text w ∷ []
  pieces_are r w state ending = rw (ending, state, one w) refl

  pub ends_with_text : IsOpen AtEnd → WritesItsEnd k (text_ends IsOpen text texts)
  ends_with_text unended = record {
    unended = unended;
    all = λ r w before now after state ending writes final. subst (λ ps. Appends before after (concat ps)) (sym (pieces_are r w state ending)) (laws.both r.outputs (text w) before now after writes final);
    part = λ r w before now after state ending writes final. laws.last (pieces texts r) r.outputs (text w) final.0 before now after (pieces_are r w state ending) writes final.2;
  }
