-- What a line of zone text says (RFC 1035 5.1).
use Rattle.std.specs.Prelude.{ℕ, ◌==◌, ◌&&◌, List, [], ◌∷◌, Bool, false, Option, Some, None, codes, if◌then◌else◌}
use Rattle.std.proofs.Math.Bool.{not}
use Rattle.std.specs.Option.{option_map}
use Rattle.std.specs.Str.{bytes_eq}
use Rattle.dsec_spec.specs.Reading.{◌>>=◌}
use Rattle.dsec_text.specs.Lines.{begins_with_blank}
use Rattle.dsec_text.specs.Words.{Word, octets_of, plain_of, words_of}
use Rattle.dsec_zonefile.specs.Records.{record_in}
use Rattle.dsec_zonefile.specs.Words.{name_in, only, ttl_in}
use Rattle.dsec_zonefile.specs.declared.entry.Entry.TheVariants as entries
use Rattle.dsec_zonefile.specs.declared.setting.Setting.{Setting}
use Rattle.dsec_zonefile.specs.declared.setting.Said.{Said}
use Rattle.dsec_zonefile.specs.declared.setting.Said.TheVariants as said

-- `$ORIGIN`: the name that names are relative to
abbrev pub origin_in : Setting → List Word → Option Said
origin_in setting words = do
  word ← only words
  name ← name_in setting.origin word
  Some (said.Origin name)

-- `$TTL`: the TTL of records that have none of their own (RFC 2308 4)
abbrev pub default_ttl_in : List Word → Option Said
default_ttl_in words = do
  word ← only words
  ttl ← ttl_in word
  Some (said.Ttl ttl)

-- `$INCLUDE`: the path of another text, and the origin in it, if one is given
abbrev pub include_in : Setting → List Word → Option Said
include_in setting (path ∷ []) = Some (said.Entry (entries.Include (octets_of path) None))
include_in setting (path ∷ word ∷ []) = do
  name ← name_in setting.origin word
  Some (said.Entry (entries.Include (octets_of path) (Some name)))
include_in setting _ = None

-- a control entry, by its first word and those after it; any other than these three is refused
abbrev pub control_in : Setting → List ℕ → List Word → Option Said
control_in setting keyword words =
    if bytes_eq keyword (codes "$ORIGIN") then origin_in setting words
    else if bytes_eq keyword (codes "$TTL") then default_ttl_in words
    else if bytes_eq keyword (codes "$INCLUDE") then include_in setting words
    else None

-- whether octets begin with `$`
abbrev pub begins_with_dollar : Option (List ℕ) → Bool
begins_with_dollar (Some (octet ∷ octets)) = octet == 36
begins_with_dollar _ = false

-- what a line says by its words, and by whether it begins with a blank: where it doesn't, and the first word, without
-- quotes and escapes, begins with `$`, a control entry; else a record
abbrev pub said_by : Setting → Bool → List Word → Option Said
said_by setting blank [] = None
said_by setting blank (word ∷ words) =
    if not blank && begins_with_dollar (plain_of word) then control_in setting word.written words
    else option_map (λ it. said.Entry (entries.Record it)) (record_in setting blank (word ∷ words))

-- what a line says
abbrev pub said_in : Setting → List ℕ → Option Said
said_in setting line = said_by setting (begins_with_blank line) (words_of line)
