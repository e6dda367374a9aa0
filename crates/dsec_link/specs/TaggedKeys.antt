-- Keys with their tags.
use Rattle.dsec_spec.specs.Records.{Key}
use Rattle.dsec_wire.specs.Views.{key_view}
use Rattle.dsec_link.specs.declared.tagged_key.TaggedKey.{TaggedKey}

-- the key alone
abbrev pub tagged_view : TaggedKey → Key
tagged_view one = key_view one.key
