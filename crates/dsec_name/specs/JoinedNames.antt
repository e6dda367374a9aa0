-- Names put together of labels.
use Rattle.std.specs.Prelude.{ℕ, nat_lt, List, Bool, true, false, Result, Ok, Err, codes, if◌then◌else◌}
use Rattle.dsec_spec.specs.Names.{Labels, wire_length}
use Rattle.dsec_name.specs.declared.push_name.PushNameError.{PushNameError}

-- labels as a name, which has at most 255 octets on the wire (RFC 1035 2.3.4)
abbrev pub name_or_long : Labels → Result Labels PushNameError
name_or_long labels = if nat_lt 255 (wire_length labels) then Err PushNameError.PushNameError else Ok labels

-- want of memory, which may come at any time
abbrev pub needs_memory : PushNameError → Bool
needs_memory PushNameError.PushNameError = false
needs_memory PushNameError.NoMemory = true

-- an error in words
abbrev pub push_name_error_text : PushNameError → List ℕ
push_name_error_text PushNameError.PushNameError = codes "PushNameError"
push_name_error_text PushNameError.NoMemory = codes "out of memory"
