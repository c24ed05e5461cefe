-- How the text of a storm ends.
use Rattle.std.specs.Prelude.{◌≡◌, ℕ, List, ◌++◌, codes}

-- with these bytes
pub record EndsWith (end text : List ℕ) : Type 0 where
  pub front : List ℕ
  pub is : text ≡ front ++ end

-- its last line
abbrev pub EndsQuiet : List ℕ → Type 0
EndsQuiet text = EndsWith (codes "quiet yes\n") text
