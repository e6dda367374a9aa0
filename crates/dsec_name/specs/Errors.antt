-- What is refused as a name, and in which order.
use Rattle.std.specs.Prelude.{ℕ, ◌<◌, nat_lt, List, length, All, Any, Bool, true, false, Option, Some, None, Result, Ok, Err, codes, if◌then◌else◌}
use Rattle.std.specs.List.{list_any}
use Rattle.dsec_spec.specs.Names.{Labels, IsLabel, IsName, wire_length}
use Rattle.dsec_name.specs.declared.error.NameError.{NameError}
use Rattle.dsec_name.specs.declared.error.NameError.TheVariants.{BadLabel, LongLabel, LongName, NoMemory}

-- an error in words
abbrev pub name_error_text : NameError → List ℕ
name_error_text BadLabel = codes "BadLabel"
name_error_text LongLabel = codes "LongLabel"
name_error_text LongName = codes "LongName"
name_error_text NoMemory = codes "out of memory"

-- want of memory, which may come at any time
abbrev pub wants_memory : NameError → Bool
wants_memory NoMemory = true
wants_memory _ = false

-- whether a label is too long (RFC 1035 2.3.4)
abbrev pub is_long : List ℕ → Bool
is_long label = nat_lt 63 (length label)

-- the labels as a name, where they are not too long (RFC 1035 2.3.4)
abbrev pub name_of_labels : Labels → Result Labels NameError
name_of_labels labels = if list_any is_long labels then Err LongLabel else if nat_lt 255 (wire_length labels) then Err LongName else Ok labels

-- the labels that were read as a name; what gives no labels is bad
abbrev pub name_of_read : Option Labels → Result Labels NameError
name_of_read None = Err BadLabel
name_of_read (Some labels) = name_of_labels labels

-- What a call that reads a name answers, where `Writes labels` says that the input writes these labels:
-- the name; that no labels are written; that one is too long; that each fits, and the name is too long.
abbrev pub Answers : (Labels → Type 0) → Result Labels NameError → Type 0
Answers Writes (Ok name) = Writes name × IsName name
Answers Writes (Err BadLabel) = (labels : Labels) → Writes labels → ⊥
Answers Writes (Err LongLabel) = (labels : Labels) × Writes labels × Any (λ label. 63 < length label) labels
Answers Writes (Err LongName) = (labels : Labels) × Writes labels × All IsLabel labels × (255 < wire_length labels)
Answers Writes (Err NoMemory) = Unit {0}
