use Rattle.std.proofs.Common.{◌≡◌, map, take}
use Rattle.dsec_link.specs.TaggedKeys.{tagged_view}
use Rattle.dsec_wire.specs.Views.{key_view}
use Rattle.dsec_keys.proofs.list.all_tagged.Given as goal

abbrev pub invariant-loop-key : goal.invariant-loop-key
invariant-loop-key l = map tagged_view l.tagged.items ≡ map key_view (take l.key-index l.keys)
