-- The text of a party's state.
use Rattle.std.specs.Prelude.{◌≡◌, ℕ, List, ◌++◌}
use Rattle.std.specs.List.{flat_map}
use Rattle.spec_net.specs.Net.{Packet}
use Rattle.spec_net.specs.Ledgers.{Body}
use Rattle.spec_world.specs.Outputs.{Line}
use Rattle.schedule_text.specs.PrintedLines.{line_text}

-- The text of these lines was appended, whatever the bytes of frames are, since no line is of a frame
abbrev pub Shows : List Line → List ℕ → List ℕ → Type 0
Shows lines before after = (frame : Packet → Body → List ℕ) → after ≡ before ++ flat_map (line_text frame) lines
