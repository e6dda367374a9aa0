-- Trust anchors in zone text (RFC 1035 5.1).
use Rattle.std.specs.Prelude.{◌≡◌, ℕ, nat_lt, List, ◌++◌, length, filter_map, Bool, true, false, Option, Some, None, Result, Ok, Err, if◌then◌else◌}
use Rattle.dsec_spec.specs.Outside.{risen}
use Rattle.dsec_spec.specs.Records.{Record}
use Rattle.dsec_outside.specs.Limit.{limit, line_past}
use Rattle.dsec_zonefile.specs.Entries.{Reader}
use Rattle.dsec_zonefile.specs.Setting.{at_first}
use Rattle.dsec_zonefile.specs.declared.entry.Entry.{Entry}
use Rattle.dsec_zonefile.specs.declared.entry.Entry.TheVariants as entries
use Rattle.dsec_zonefile.specs.declared.error.ZonefileError.{ZonefileError}
use Rattle.dsec_zonefile.specs.declared.error.ZonefileError.TheVariants as zone
use Rattle.dsec_zonefile.specs.Readings.{Reading, reading_of}
use Rattle.dsec_anchors.specs.declared.error.AnchorError.{AnchorError}
use Rattle.dsec_anchors.specs.declared.error.AnchorError.TheVariants.{InplaceError, ReadError, NoMemory}

-- want of memory, which may come at any time
abbrev pub wants_memory : AnchorError → Bool
wants_memory NoMemory = true
wants_memory _ = false

-- what doesn't come of a text: want of memory, and reads that fail
abbrev pub is_from_outside : AnchorError → Bool
is_from_outside NoMemory = true
is_from_outside ReadError = true
is_from_outside (InplaceError error) = false

-- how the faults of a source are counted while its text is read: a read that failed counts as one; a refusal and want of
-- memory are no faults of the source
abbrev pub CountsReads : {T : Type 0} → ℕ → ℕ → Result T AnchorError → Type 0
CountsReads before now (Ok anchors) = now ≡ before
CountsReads before now (Err ReadError) = now ≡ risen before
CountsReads before now (Err (InplaceError error)) = now ≡ before
CountsReads before now (Err NoMemory) = now ≡ before

-- an error of zone text
abbrev pub error_of : ZonefileError → AnchorError
error_of (zone.Inplace error) = InplaceError error
error_of zone.NoMemory = NoMemory

-- the line with this number is refused
abbrev pub refused : ℕ → Result (List Record) AnchorError
refused line = Err (InplaceError (record { line = line }))

-- the record that an entry is; `$INCLUDE` is none
abbrev pub record_in : Entry → Option Record
record_in (entries.Record it) = Some it
record_in (entries.Include path origin) = None

-- the records among entries, in order, unless a line behind them is refused
abbrev pub records_among : List Entry → Option ℕ → Result (List Record) AnchorError
records_among entries None = Ok (filter_map record_in entries)
records_among entries (Some line) = refused line

-- the records of a reading
abbrev pub records_of : Reading → Result (List Record) AnchorError
records_of reading = records_among reading.entries reading.end

-- the records that a reader has left
abbrev pub records_left : Reader → Result (List Record) AnchorError
records_left reader = records_of (reading_of reader)

-- at the start of a text, with this default class, and with the root for the origin
abbrev pub start_of : Option ℕ → List ℕ → Reader
start_of default text = record { text = text; passed = 0; setting = record at_first { class = default }; refused = None; begun = 0 }

-- the records of a zone text with this default class; or the line that is refused, or that of the first octet past the limit
abbrev pub anchors_in : Option ℕ → List ℕ → Result (List Record) AnchorError
anchors_in default text = if nat_lt limit (length text) then refused (line_past text) else records_left (start_of default text)

-- what a text says is added to the anchors before; a refusal stays
abbrev pub added : List Record → Result (List Record) AnchorError → Result (List Record) AnchorError
added before (Ok records) = Ok (before ++ records)
added before (Err error) = Err error
