-- A place in a text, and the way from one entry to the next, as the code has them.
use Rattle.std.specs.Prelude.{◌≡◌, ℕ, ◌+◌, ◌-◌, ◌^◌, ◌<◌, ◌≤◌, List, length, drop, Option, Some, None, Result, Ok, Err}
use Rattle.std.specs.Bool.{OnFalse}
use Rattle.dsec_text.specs.Lines.{line_ends}
use Rattle.dsec_zonefile.specs.Setting.{after, as_before}
use Rattle.dsec_zonefile.specs.Entries.{IsNext, Reader, ended, found, refused, step_of, wants_memory}
use Rattle.dsec_zonefile.specs.declared.entry.Entry.{Entry}
use Rattle.dsec_zonefile.specs.declared.entry.Entry.TheVariants as entries
use Rattle.dsec_zonefile.specs.declared.error.ZonefileError.{ZonefileError}
use Rattle.dsec_zonefile.specs.declared.error.ZonefileError.TheVariants as errors
use Rattle.dsec_zonefile.specs.declared.place.Place.{Place}
use Rattle.dsec_zonefile.specs.declared.place.Way.{Way}
use Rattle.dsec_zonefile.specs.declared.setting.Before.{Before}
use Rattle.dsec_zonefile.specs.declared.setting.Setting.{Setting}
use Rattle.dsec_zonefile.specs.declared.step.Step.{Step}
use Rattle.dsec_zonefile.specs.declared.step.Ahead.{Ahead}
use Rattle.dsec_zonefile.specs.declared.step.Ahead.TheVariants as ahead

-- a place in a text, of which no line was refused, as a reader
abbrev pub reader_at : List ℕ → Place → Reader
reader_at text place = record { text = drop place.at text; passed = place.lines; setting = place.setting; refused = None; begun = place.begun }

-- a place within a text, where each line end that was passed or is still to come can be counted
abbrev pub IsWithin : List ℕ → Place → Type 0
IsWithin text place = (place.at ≤ length text) × (place.lines + (length text - place.at) < 2 ^ 63)

-- what stands ahead of a reader, or why it was not read
abbrev pub Steps : Reader → Result Ahead ZonefileError → Type 0
Steps reader (Ok (ahead.Step step)) = step_of reader ≡ Ok (Some step)
Steps reader (Ok (ahead.End lines)) = (step_of reader ≡ Ok None) × (lines ≡ line_ends reader.text)
Steps reader (Err error) = OnFalse (wants_memory error) (step_of reader ≡ Err error)

-- a step takes an octet, and no more than there are; line ends are octets
abbrev pub IsSized : ℕ → Ahead → Type 0
IsSized size (ahead.Step step) = (0 < step.octets) × (step.octets ≤ size) × (step.lines ≤ step.octets)
IsSized size (ahead.End lines) = lines ≤ size

-- the setting that control lines made, or the one before them
abbrev pub setting_or : Setting → Option Setting → Setting
setting_or setting None = setting
setting_or setting (Some changed) = changed

-- the place that a way leads to
abbrev pub led : Place → Way → Place
led start way = record { at = way.at; lines = way.lines; setting = setting_or start.setting way.changed; begun = way.begun }

-- the place behind what a line says
abbrev pub place_behind : Place → Step → Place
place_behind place step = record { at = place.at + step.octets; lines = place.lines + step.lines; setting = after place.setting step.said; begun = step.begins }

-- an entry as the record before; `$INCLUDE` is none
abbrev pub before_in : Option Entry → Option Before
before_in None = None
before_in (Some (entries.Record it)) = Some (as_before it)
before_in (Some (entries.Include path origin)) = None

-- the setting with another record before, if there is one
abbrev pub with_before : Setting → Option Before → Setting
with_before setting None = setting
with_before setting (Some before) = record setting { before = Some before }

-- the same place, with another record before
abbrev pub behind_record : Place → Option Before → Place
behind_record place before = record place { setting = with_before place.setting before }

-- what was found from a place on, and the way to the place where it ends
abbrev pub Finds : List ℕ → Place → Result (Option Entry × Way) ZonefileError → Type 0
Finds text start (Ok (Some it, way)) = IsNext (reader_at text start) (found it (reader_at text (behind_record (led start way) (before_in (Some it)))))
Finds text start (Ok (None, way)) = IsNext (reader_at text start) (ended (reader_at text (led start way)))
Finds text start (Err (errors.Inplace error)) = IsNext (reader_at text start) (refused error.line)
Finds text start (Err errors.NoMemory) = Unit {0}
