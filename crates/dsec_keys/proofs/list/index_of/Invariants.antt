use Rattle.std.proofs.Common.{◌≡◌, map, take}
use Rattle.dsec_link.specs.TaggedKeys.{tagged_view}
use Rattle.dsec_keys.specs.Indexes.{HaveTags, code_of, entries_of}
use Rattle.dsec_keys.proofs.list.index_of.Given as goal

abbrev pub invariant-loop-index : goal.invariant-loop-index
invariant-loop-index l =
    (l.entries.items ≡ entries_of (map code_of (take l.index (map tagged_view l.keys))))
    × HaveTags (take l.index (map tagged_view l.keys))
