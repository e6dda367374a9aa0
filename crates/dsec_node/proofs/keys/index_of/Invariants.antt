use Rattle.std.proofs.Common.{◌≡◌, map, take}
use Rattle.dsec_link.specs.Sets.{octets_of}
use Rattle.dsec_keys.specs.Indexes.{HaveTags, code_of, entries_of}
use Rattle.dsec_nodes.specs.Signing.{keys_of}
use Rattle.dsec_node.proofs.keys.index_of.Given as goal

abbrev pub invariant-loop-index : goal.invariant-loop-index
invariant-loop-index l =
    (l.entries.items ≡ entries_of (map code_of (take l.index (keys_of (octets_of l.datas)))))
    × HaveTags (take l.index (keys_of (octets_of l.datas)))
