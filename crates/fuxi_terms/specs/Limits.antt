-- The limits of the product, each by its name.
use Rattle.std.specs.Prelude.{ℕ}

-- a cluster: its resources, machines, rack numbers and groups
abbrev pub most_resources : ℕ
most_resources = 8

abbrev pub most_machines : ℕ
most_machines = 256

abbrev pub most_racks : ℕ
most_racks = 64

abbrev pub most_groups : ℕ
most_groups = 32

-- a job: its number is below this, the number of its units, and its priorities are below this
abbrev pub most_jobs : ℕ
most_jobs = 256

abbrev pub most_units : ℕ
most_units = 8

abbrev pub most_priorities : ℕ
most_priorities = 10

-- the greatest quantity of one resource
abbrev pub greatest_quantity : ℕ
greatest_quantity = 1000000000000

-- the greatest number of grants of one unit, wanted or held in one place
abbrev pub greatest_count : ℕ
greatest_count = 100000

-- the greatest number given back of one unit on one machine, for one epoch and boot
abbrev pub greatest_back : ℕ
greatest_back = 1000000000000

-- a row: the number of its entries
abbrev pub most_entries : ℕ
most_entries = 2048

-- a channel: the changes that are kept for Deltas, and the Deltas of one turn
abbrev pub kept_changes : ℕ
kept_changes = 256

abbrev pub turn_deltas : ℕ
turn_deltas = 64

-- masters that run at once
abbrev pub most_masters : ℕ
most_masters = 16

-- records of a checkpoint
abbrev pub most_records : ℕ
most_records = 65536

-- bytes of the body of a frame, and frames of one connection and direction
abbrev pub most_body_bytes : ℕ
most_body_bytes = 262144

abbrev pub most_frames : ℕ
most_frames = 4096

-- bytes of the address of a node, at least 1
abbrev pub most_address_bytes : ℕ
most_address_bytes = 255

-- bytes of one input line before its newline, and input lines
abbrev pub most_line_bytes : ℕ
most_line_bytes = 65536

abbrev pub most_lines : ℕ
most_lines = 1000000

-- packets of a replay, and their bytes together
abbrev pub most_packets : ℕ
most_packets = 1000000

abbrev pub most_packet_bytes : ℕ
most_packet_bytes = 1073741824

-- steps of one core, and events of one world, that its calls are made for
abbrev pub most_steps : ℕ
most_steps = 1125899906842624

abbrev pub most_events : ℕ
most_events = 536870912
