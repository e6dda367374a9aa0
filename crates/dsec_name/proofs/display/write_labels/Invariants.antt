use Rattle.std.proofs.Common.{length}
use Rattle.std.specs.Fmt.{IsPlainFormatter}
use Rattle.dsec_name.specs.Keys.{labels_of}
use Rattle.dsec_name.proofs.NameShown.{IsShown}
use Rattle.dsec_name.proofs.display.write_labels.Given as goal

abbrev pub invariant-loop-length : goal.invariant-loop-length
invariant-loop-length g l =
    IsPlainFormatter l.fn.f → IsShown g.W.Write.write_str_gives l.fn.f l.f (labels_of l.rest) (labels_of l.octets)

abbrev pub decreases-loop-length : goal.decreases-loop-length
decreases-loop-length g l = length l.rest
