-- The fields of data and its written form, as the code has them, and how much each field takes.
use Rattle.std.specs.Prelude.{ℕ, List, length, map, Option, Some}
use Rattle.std.specs.Option.{option_map}
use Rattle.dsec_spec.specs.Reading.{◌>>=◌}
use Rattle.dsec_spec.specs.Names.{wire_octets}
use Rattle.dsec_spec.specs.Layouts as layouts
use Rattle.dsec_spec.specs.RecordData.{part_octets, name_in, part_in}
use Rattle.dsec_wire.specs.declared.layout.Field.{Field}
use Rattle.dsec_wire.specs.declared.layout.Field.TheVariants.{LoweredName, KeptName, Octets, Text, Bitmap, Rest}
use Rattle.dsec_wire.specs.declared.layout.Form as code
use Rattle.dsec_wire.specs.declared.layout.Item.{Item}
use Rattle.dsec_wire.specs.declared.layout.Item.TheVariants.{Name, Octet, Short, Long, Ipv4, Ipv6}
use Rattle.dsec_wire.specs.declared.layout.Row as rows
use Rattle.dsec_wire.specs.declared.layout.Tail.{Tail}
use Rattle.dsec_wire.specs.declared.layout.Tail.TheVariants.{Nothing, Strings, Hex, Base64}

-- a field of the code
abbrev pub field_view : Field → layouts.Field
field_view LoweredName = layouts.lowered_name
field_view KeptName = layouts.kept_name
field_view (Octets size) = layouts.octets size
field_view Text = layouts.string
field_view Bitmap = layouts.bitmap
field_view Rest = layouts.rest

-- an item of the code
abbrev pub item_view : Item → layouts.Item
item_view Name = layouts.name
item_view Octet = layouts.octet
item_view Short = layouts.short
item_view Long = layouts.long
item_view Ipv4 = layouts.ipv4
item_view Ipv6 = layouts.ipv6

-- a tail of the code
abbrev pub tail_view : Tail → layouts.Tail
tail_view Nothing = layouts.nothing
tail_view Strings = layouts.strings
tail_view Hex = layouts.hex
tail_view Base64 = layouts.base64

-- a written form of the code
abbrev pub form_view : code.Form → layouts.Form
form_view form = record { items = map item_view form.items.now; tail = tail_view form.tail }

-- a row of the code's table
abbrev pub row_view : rows.Row → layouts.Layout
row_view row = record { fields = map field_view row.fields.now; form = option_map form_view row.form }

-- how many octets the name at the front has
abbrev pub name_size_in : List ℕ → Option ℕ
name_size_in x = name_in x >>= λ name. Some (length (wire_octets name.0))

-- how many octets a field takes from the front
abbrev pub part_size_in : layouts.Field → List ℕ → Option ℕ
part_size_in field x = part_in field x >>= λ part. Some (length (part_octets part.0))
