-- What `next` gives, where the bytes that are left are known.
use Rattle.std.proofs.Common.{◌≡◌, ◌≢◌, ℕ, ◌<◌, ◌≤◌, true, false, List, [], ◌∷◌, ◌++◌, length, Option, None, Some, refl, ap, sym, ◌∙◌, append_assoc, append-nil}
use Rattle.std.specs.Io.KnownBytes.{prepend_known, Consumes, IsAtEnd}
use Rattle.fuxi_io.specs.Lines.{lines_of, GivesKnown, MoreKnown}
use Rattle.fuxi_io.specs.Pieces.{NoNewline}
use Rattle.fuxi_io.specs.declared.lines.Got.TheVariants.{Line}
use Rattle.fuxi_io.proofs.LinesLemmas.{lines_of-cut, lines_of-last}
use Rattle.fuxi_terms.specs.Limits.{most_line_bytes}

pub gives_cut : (old left : Option (List ℕ)) (line piece made rest : List ℕ) → Consumes old (prepend_known piece left) line → line ++ piece ≡ made ++ 10 ∷ rest → NoNewline made → length made ≤ most_line_bytes → GivesKnown Line old (record { bytes = made; ended = true }) (prepend_known rest left)
gives_cut None left line piece made rest read split none short = tt
gives_cut (Some old) None line piece made rest read split none short = absurd read
gives_cut (Some old) (Some left) line piece made rest read split none short =
    let is : old ≡ made ++ 10 ∷ (rest ++ left) = read ∙ sym (append_assoc line piece left) ∙ ap (λ l. l ++ left) split ∙ append_assoc made (10 ∷ rest) left in
    record {
      cut = is ∙ sym (append_assoc made (10 ∷ []) (rest ++ left));
      first = ap lines_of is ∙ lines_of-cut made (rest ++ left) none;
      short = short;
      alone = λ e more. ap lines_of (append_assoc made (10 ∷ []) more) ∙ lines_of-cut made more none;
      last = λ e. cc;
    }

pub gives_last : (old left : Option (List ℕ)) (line piece : List ℕ) → Consumes old (prepend_known piece left) line → piece ≡ [] → IsAtEnd left → NoNewline line → 0 < length line → length line ≤ most_line_bytes → GivesKnown Line old (record { bytes = line; ended = false }) (prepend_known piece left)
gives_last None left line piece read empty end none some short = tt
gives_last (Some old) None line piece read empty end none some short = absurd read
gives_last (Some old) (Some left) line piece read empty end none some short =
    let rest : piece ++ left ≡ [] = ap (λ l. l ++ left) empty ∙ end in record {
      cut = read;
      first = ap lines_of (read ∙ ap (λ l. line ++ l) rest ∙ append-nil line) ∙ lines_of-last line none some ∙ ap (λ l. (record { bytes = line; ended = false }) ∷ lines_of l) (sym rest);
      short = short;
      alone = λ e more. cc;
      last = λ e. rest;
    }

pub MoreKnown-pending : (piece : List ℕ) (left : Option (List ℕ)) → piece ≢ [] → MoreKnown (prepend_known piece left)
MoreKnown-pending piece None some = tt
MoreKnown-pending [] (Some left) some = absurd (some refl)
MoreKnown-pending (b ∷ bytes) (Some left) some = λ e. cc

pub MoreKnown-read : (old left : Option (List ℕ)) (piece read : List ℕ) → Consumes old left read → read ≢ [] → MoreKnown (prepend_known piece old)
MoreKnown-read None left piece read reads some = tt
MoreKnown-read (Some old) None piece read reads some = absurd reads
MoreKnown-read (Some old) (Some left) (b ∷ bytes) read reads some = λ e. cc
MoreKnown-read (Some old) (Some left) [] [] reads some = absurd (some refl)
MoreKnown-read (Some old) (Some left) [] (b ∷ bytes) reads some = λ e. let same : b ∷ bytes ++ left ≡ [] = sym reads ∙ e in cc
