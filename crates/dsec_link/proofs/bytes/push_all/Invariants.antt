use Rattle.std.proofs.Common.{◌≡◌, ◌++◌, take}
use Rattle.std.specs.List.{flat_map}
use Rattle.dsec_link.specs.Sets.{canonicals_in}
use Rattle.dsec_link.specs.Signing.{whole_record}
use Rattle.dsec_link.proofs.bytes.push_all.Given as goal

abbrev pub invariant-loop-one : goal.invariant-loop-one
invariant-loop-one l = l.out.items ≡ l.initial.out.items ++ flat_map (whole_record l.front) (canonicals_in (take l.one-index l.datas))
