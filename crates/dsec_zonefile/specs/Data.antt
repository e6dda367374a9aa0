-- A record's data in zone text (RFC 1035 5.1, RFC 3597 5).
use Rattle.std.specs.Prelude.{ℕ, ◌==◌, ◌&&◌, nat_le, List, [], ◌∷◌, length, Bool, Option, Some, None, if◌then◌else◌}
use Rattle.std.specs.Option.{is_some}
use Rattle.dsec_spec.specs.Reading.{◌>>=◌}
use Rattle.dsec_spec.specs.Layouts.{form_of}
use Rattle.dsec_spec.specs.Names.{Labels}
use Rattle.dsec_spec.specs.RecordData.{parts_of}
use Rattle.dsec_text.specs.Words.{Word, is_generic_mark}
use Rattle.dsec_zonefile.specs.Forms.{formed_in}
use Rattle.dsec_zonefile.specs.Words.{hex_of, number_in}

-- the generic form, after its mark: a length, and so many octets in hex (RFC 3597 5), which may be split anywhere, also within an octet
abbrev pub generic_in : List Word → Option (List ℕ)
generic_in [] = None
generic_in (size ∷ words) = do
  n ← number_in 65535 size
  octets ← hex_of words
  if length octets == n then Some octets else None

-- the form of the type
abbrev pub own_form_in : Labels → ℕ → List Word → Option (List ℕ)
own_form_in origin rtype words = do
  form ← form_of rtype
  formed_in origin form words

-- the octets that words write as data of a type: in the generic form, where its mark stands first, else in the type's own
abbrev pub written_in : Labels → ℕ → List Word → Option (List ℕ)
written_in origin rtype [] = own_form_in origin rtype []
written_in origin rtype (word ∷ words) =
    if is_generic_mark word then generic_in words else own_form_in origin rtype (word ∷ words)

-- whether a record of the type may have these data, by the function whose graph `IsData` is (RFC 1035 3.2.1)
abbrev pub is_readable : ℕ → List ℕ → Bool
is_readable rtype rdata = nat_le (length rdata) 65535 && is_some (parts_of rtype rdata)

-- the data, if a record of the type may have them
abbrev pub readable : ℕ → List ℕ → Option (List ℕ)
readable rtype rdata = if is_readable rtype rdata then Some rdata else None

-- the data that words write
abbrev pub data_in : Labels → ℕ → List Word → Option (List ℕ)
data_in origin rtype words = written_in origin rtype words >>= readable rtype
