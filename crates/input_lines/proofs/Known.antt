-- What is said of an input that may be known, and of a reader that gave a line or stopped.
use Rattle.std.proofs.Common.{◌⊎◌, inl, inr, ◌≡◌, ℕ, Bool, List, Option, None, Some, IfSome, sym, ◌∙◌, ap}
use Rattle.fuxi_io.specs.Reading.{Reading, line_of}
use Rattle.fuxi_io.specs.declared.lines.LineStop.{LineStop}
use Rattle.input_lines.specs.Contents.{content}

-- the same of an input that may be known
pub weaker : (o : Option (List ℕ)) (P Q : List ℕ → Type 0) → ((x : List ℕ) → P x → Q x) → IfSome o P → IfSome o Q
weaker None P Q f h = tt
weaker (Some x) P Q f h = f x h

-- a reader that had not stopped stops for a cause of its own
pub running_alone : {A : Type 0} {stop : Option LineStop} {s : LineStop} → stop ≡ None → (stop ≡ Some s) ⊎ A → A
running_alone {A} {stop} {s} none (inl h) = let e : Some s ≡ None = sym h ∙ none in cc
running_alone none (inr x) = x

-- what the reader's last line says
pub line_said : (said bytes : List ℕ) (ended : Bool) (reading : Reading) → said ≡ content (record { bytes = bytes; ended = ended }) → bytes ≡ reading.line → ended ≡ reading.ended → said ≡ content (line_of reading)
line_said said bytes ended reading is b e = is ∙ ap (λ x. content (record { bytes = x; ended = ended })) b ∙ ap (λ x. content (record { bytes = reading.line; ended = x })) e
