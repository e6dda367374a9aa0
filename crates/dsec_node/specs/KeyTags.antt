-- The tags of a zone's keys (RFC 4034 B).
use Rattle.std.specs.Prelude.{◌≡◌, ℕ, List, map, Option, Some}
use Rattle.std.specs.Option.{option_map}
use Rattle.dsec_spec.specs.KeyTag.{key_tag}
use Rattle.dsec_spec.specs.Records.{key_of}

-- the tag of the key that DNSKEY data say (RFC 4034 2.1, B)
abbrev pub tag_in : List ℕ → Option ℕ
tag_in rdata = option_map key_tag (key_of rdata)

-- these are the tags of the keys that DNSKEY data say, one for each, in order (RFC 4034 B)
abbrev pub AreTags : List ℕ → List (List ℕ) → Type 0
AreTags tags datas = map Some tags ≡ map tag_in datas
