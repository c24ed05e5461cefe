-- What a line says, and the lines that say nothing.
use Rattle.std.specs.Prelude.{◌==◌, ℕ, Bool, false, ◌||◌, nat_eq, if◌then◌else◌, List, [], ◌∷◌}
use Rattle.std.specs.List.{list_all}
use Rattle.fuxi_io.specs.Lines.{InputLine}

-- the bytes before a carriage return at the end
abbrev pub without_return : List ℕ → List ℕ
without_return [] = []
without_return (b ∷ []) = if b == 13 then [] else b ∷ []
without_return (b ∷ c ∷ bytes) = b ∷ without_return (c ∷ bytes)

-- what a line says: a carriage return before its newline is none of it
abbrev pub content : InputLine → List ℕ
content line = if line.ended then without_return line.bytes else line.bytes

abbrev pub is_comment : List ℕ → Bool
is_comment [] = false
is_comment (b ∷ bytes) = nat_eq b 35

abbrev pub is_blank : List ℕ → Bool
is_blank line = list_all (λ b. b == 32) line

-- a comment, or nothing but blanks
abbrev pub is_skipped : List ℕ → Bool
is_skipped line = is_comment line || is_blank line
