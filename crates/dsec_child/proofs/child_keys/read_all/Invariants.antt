use Rattle.std.proofs.Common.{map, take}
use Rattle.dsec_wire.specs.DataViews.{ds_view}
use Rattle.dsec_link.specs.Sets.{octets_of}
use Rattle.dsec_child.specs.ChildKeys.{AreDs}
use Rattle.dsec_child.proofs.child_keys.read_all.Given as goal

abbrev pub invariant-loop-one : goal.invariant-loop-one
invariant-loop-one l = AreDs (octets_of (take l.one-index l.datas)) (map ds_view l.all.items)
