-- How faults are printed: a name, and behind it the number that was found where there is one.
use Rattle.std.specs.Prelude.{ℕ, List, codes, Option, Some, None}
use Rattle.wire_frames.specs.declared.fault.FrameFault.{FrameFault}
use Rattle.wire_frames.specs.declared.fault.FrameFault.TheVariants.{Short, Length, Version, Kind, Role, Place, Body, OutOfMemory}

abbrev pub name_of : FrameFault → List ℕ
name_of Short = codes "Short"
name_of (Length n) = codes "Length"
name_of (Version n) = codes "Version"
name_of (Kind n) = codes "Kind"
name_of Role = codes "Role"
name_of Place = codes "Place"
name_of Body = codes "Body"
name_of OutOfMemory = codes "OutOfMemory"

abbrev pub found_of : FrameFault → Option ℕ
found_of Short = None
found_of (Length n) = Some n
found_of (Version n) = Some n
found_of (Kind n) = Some n
found_of Role = None
found_of Place = None
found_of Body = None
found_of OutOfMemory = None
