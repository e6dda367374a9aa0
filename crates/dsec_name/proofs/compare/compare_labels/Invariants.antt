use Rattle.std.proofs.Common.{◌≡◌, drop}
use Rattle.std.specs.Prelude.{map}
use Rattle.std.specs.Char.{to_ascii_lowercase}
use Rattle.std.specs.Cmp.Lexicographic.{slice_cmp}
use Rattle.std.specs.Ordering.{nat_cmp}
use Rattle.dsec_name.proofs.compare.compare_labels.Given as goal

abbrev pub invariant-loop-octet : goal.invariant-loop-octet
invariant-loop-octet l =
    slice_cmp nat_cmp (map to_ascii_lowercase (drop l.octet-index l.one)) (map to_ascii_lowercase l.rest) ≡ slice_cmp nat_cmp (map to_ascii_lowercase l.one) (map to_ascii_lowercase l.other)
