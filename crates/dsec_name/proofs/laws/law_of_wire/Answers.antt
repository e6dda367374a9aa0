use Rattle.std.proofs.Common.{◌∙◌, ap}
use Rattle.dsec_name.specs.Errors.{name_of_read}
use Rattle.dsec_name.proofs.NameReading.{name_of_labels-named, IsName-some}
use Rattle.dsec_name.proofs.WireReading.{wire_reads, wire_written, wire_writes}
use Rattle.dsec_name.proofs.laws.law_of_wire.Goals as goal

pub returns : goal.returns
returns c =
    record {
      reading = λ octets labels. (wire_reads octets labels, wire_written octets labels);
      back = λ name h. ap name_of_read (wire_writes name (IsName-some name h.labels)) ∙ name_of_labels-named name h;
    }
