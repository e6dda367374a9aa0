-- What the lines so far leave for those that follow (RFC 1035 5.1, RFC 2308 4).
use Rattle.std.specs.Prelude.{ℕ, [], Option, Some, None}
use Rattle.dsec_spec.specs.Records.{Record}
use Rattle.dsec_zonefile.specs.declared.entry.Entry.{Entry}
use Rattle.dsec_zonefile.specs.declared.entry.Entry.TheVariants as entries
use Rattle.dsec_zonefile.specs.declared.setting.Before.{Before}
use Rattle.dsec_zonefile.specs.declared.setting.Setting.{Setting}
use Rattle.dsec_zonefile.specs.declared.setting.Said.{Said}
use Rattle.dsec_zonefile.specs.declared.setting.Said.TheVariants as said

-- before the first line: the origin is the root
abbrev pub at_first : Setting
at_first = record { origin = []; ttl = None; before = None; class = None }

-- the TTL of the record before, else 0
abbrev pub ttl_before : Option Before → ℕ
ttl_before None = 0
ttl_before (Some before) = before.ttl

-- the first of the two that is there
abbrev pub or_else : Option ℕ → ℕ → ℕ
or_else None other = other
or_else (Some number) other = number

-- the TTL of a record: its own, else that of `$TTL`, else that of the record before, else 0
abbrev pub ttl_for : Setting → Option ℕ → ℕ
ttl_for setting own = or_else own (or_else setting.ttl (ttl_before setting.before))

-- the class of the record before, else the default
abbrev pub class_before : Option ℕ → Option Before → Option ℕ
class_before default None = default
class_before default (Some before) = Some before.class

-- the class of a record: its own, else that of the record before, else the default
abbrev pub class_for : Setting → Option ℕ → Option ℕ
class_for setting None = class_before setting.class setting.before
class_for setting (Some own) = Some own

-- a record, as the one before
abbrev pub as_before : Record → Before
as_before it = record { owner = it.owner; ttl = it.ttl; class = it.class }

-- the setting after a line
abbrev pub after : Setting → Said → Setting
after setting (said.Origin name) = record setting { origin = name }
after setting (said.Ttl ttl) = record setting { ttl = Some ttl }
after setting (said.Entry (entries.Record it)) = record setting { before = Some (as_before it) }
after setting (said.Entry (entries.Include path origin)) = setting

-- the entry that a line gives, if it gives one
abbrev pub entry_of : Said → Option Entry
entry_of (said.Origin name) = None
entry_of (said.Ttl ttl) = None
entry_of (said.Entry entry) = Some entry
