-- In which order a connection was read, written to and closed.
use Rattle.std.specs.Prelude.{true, false, ◌||◌}
use Rattle.fuxi_io.specs.declared.usage_trace.UsageTrace.{UsageTrace}

abbrev pub unused : UsageTrace
unused = record { read = false; written = false; asked = false; answered = false; failed = false; closed = false; late = false }

-- once it is read
abbrev pub trace_read : UsageTrace → UsageTrace
trace_read o = record { read = true; written = o.written; asked = o.asked || o.written; answered = o.answered; failed = o.failed; closed = o.closed; late = o.late || (o.failed || o.closed) }

-- once it is written to
abbrev pub trace_written : UsageTrace → UsageTrace
trace_written o = record { read = o.read; written = true; asked = o.asked; answered = o.answered || o.read; failed = o.failed; closed = o.closed; late = o.late || (o.failed || o.closed) }

-- once a read or a write failed
abbrev pub trace_failed : UsageTrace → UsageTrace
trace_failed o = record { read = o.read; written = o.written; asked = o.asked; answered = o.answered; failed = true; closed = o.closed; late = o.late || (o.failed || o.closed) }

-- once it is closed, whatever came of that
abbrev pub trace_closed : UsageTrace → UsageTrace
trace_closed o = record { read = o.read; written = o.written; asked = o.asked; answered = o.answered; failed = o.failed; closed = true; late = o.late || o.closed }
